-- The fifteen codes and their sets. A test that antt computes over all codes, or over every two of them, holds of the bases of any byte, or of any two.
-- So: a code stands for as many bases as its set has ones; two sets meet exactly if they share a base, and the base that they share is the same both
-- ways round; two codes are certain and equal exactly if all their bases are one. Assumes nothing.
use Prim.Native.Nat.{ℕ, ◌+◌, ◌<◌}
use mathlib.Core.Path.{◌≡◌, refl, ap, ◌∙◌}
use mathlib.Core.Bool.{Bool, true, false, cond, not, ◌&&◌, ◌||◌}
use mathlib.Core.Logic.{⊎_elim}
use mathlib.Core.List.{List, [], ◌∷◌, Memᴰ}
use lib.Bits.{bit_and, and_comm}
use lib.Count.{ones, ones_in}
use lib.Dec.{eqb, ltb}
use lib.ListN.{length}
use borrow.Author.Tests.{eqb-true, eqb-false, eq-eqb, ne_eqb, not-true, ltb-true}
use Rattle.palindromes.specs.Word.{Word, is_empty, is_letter}
use Rattle.palindromes.specs.Place.{first}
use Rattle.palindromes.proofs.Tests.{both_true, both-are, false-not-true}
use Rattle.palindromes.proofs.Lists.{either_true, left_is, right_is, same_test}
use Rattle.ambiguity.specs.Code.{Code, codes, bases_in, bases_of, is_code, bit_of, four_bits, set_of, number_of_bases, is_certain}
use Rattle.ambiguity.specs.Choice.{BaseOf}
use Rattle.ambiguity.specs.Facing.{Meet, SetsMeet, Settled, certain_set_of}

-- ---- a test over all codes

-- the test passes at the empty list and at each code's bases
unfoldable every_code : (Word → Bool) → List Code → Bool
every_code t [] = t []
every_code t (c ∷ cs) = t c.bases && every_code t cs

in-codes : (t : Word → Bool) (cs : List Code) (x : ℕ) → every_code t cs ≡ true → t (bases_in cs x) ≡ true
unfolding every_code bases_in
in-codes t [] x h = h
in-codes t (c ∷ cs) x h =
    let k = both_true (t c.bases) (every_code t cs) h in
    go (eqb x c.letter || eqb x (c.letter + 32)) k.0 (in-codes t cs x k.1)
  where
    go : (b : Bool) → t c.bases ≡ true → t (bases_in cs x) ≡ true → t (cond b c.bases (bases_in cs x)) ≡ true
    go true here later = here
    go false here later = later

-- so it passes at the bases of any byte
by_code : (t : Word → Bool) → every_code t codes ≡ true → (x : ℕ) → t (bases_of x) ≡ true
unfolding bases_of
by_code t h x = in-codes t codes x h

-- and of any two
by_two : (t : Word → Word → Bool) → every_code (λ p. every_code (λ q. t p q) codes) codes ≡ true → (x y : ℕ) → t (bases_of x) (bases_of y) ≡ true
by_two t h x y = by_code (λ q. t (bases_of x) q) (by_code (λ p. every_code (λ q. t p q) codes) h x) y

implies : Bool → Bool → Bool
implies a b = not a || b

implied : (a b : Bool) → implies a b ≡ true → a ≡ true → b ≡ true
unfolding implies
implied true b h e = h
implied false b h e = absurd (false-not-true refl e)

-- ---- the letters of a list

every_of : (ℕ → Bool) → Word → Bool
every_of t [] = true
every_of t (b ∷ w) = t b && every_of t w

every_true : (t : ℕ → Bool) {b : ℕ} {w : Word} → every_of t w ≡ true → Memᴰ b w → t b ≡ true
unfolding every_of
every_true t h (Memᴰ.head {x = x} {xs = w} e) = rw e (both_true (t x) (every_of t w) h).0
every_true t h (Memᴰ.tail {x = x} {xs = w} m) = every_true t (both_true (t x) (every_of t w) h).1 m

every-is : (t : ℕ → Bool) (w : Word) → ((b : ℕ) → Memᴰ b w → t b ≡ true) → every_of t w ≡ true
unfolding every_of
every-is t [] h = refl
every-is t (x ∷ w) h = both-are (t x) (every_of t w) (h x (Memᴰ.head refl)) (every-is t w λ b m. h b (Memᴰ.tail m))

has : ℕ → Word → Bool
has b [] = false
has b (x ∷ w) = eqb b x || has b w

has-true : (b : ℕ) (w : Word) → has b w ≡ true → Memᴰ b w
unfolding has
has-true b [] h = absurd (false-not-true refl h)
has-true b (x ∷ w) h = ⊎_elim (λ e. Memᴰ.head (eqb-true b x e)) (λ n. Memᴰ.tail (has-true b w n)) (either_true (eqb b x) (has b w) h)

has-is : {b : ℕ} {w : Word} → Memᴰ b w → has b w ≡ true
unfolding has
has-is {b} (Memᴰ.head {x = x} {xs = w} e) = left_is (eqb b x) (has b w) (eq-eqb b x e)
has-is {b} (Memᴰ.tail {x = x} {xs = w} m) = right_is (eqb b x) (has b w) (has-is m)

-- ---- what is computed

meets : Word → Word → Bool
meets p q = not (eqb (bit_and (four_bits p) (four_bits q)) 0)

certain : Word → Bool
certain p = eqb (ones (four_bits p)) 1

settled : Word → Word → Bool
settled p q = certain p && certain q && eqb (four_bits p) (four_bits q)

-- all bases of both are one
one_base : Word → Word → Bool
one_base p q = every_of (λ b. every_of (λ d. eqb b d) q) p

-- the bases that both have, and the first of them
common : Word → Word → Word
common [] q = []
common (b ∷ p) q = cond (has b q) (b ∷ common p q) (common p q)

shared : Word → Word → ℕ
shared p q = first (common p q)

certain_bits : Word → ℕ
certain_bits p = cond (certain p) (four_bits p) 0

-- ---- what the tests show

-- a code stands for as many bases as its set has ones
pub number-of-bases : (x : ℕ) → number_of_bases x ≡ length (bases_of x)
unfolding number_of_bases set_of every_code codes four_bits bit_of ones ones_in
number-of-bases x = eqb-true _ _ (by_code (λ p. eqb (ones (four_bits p)) (length p)) refl x)

-- the bases are letters
pub base-letter : (b x : ℕ) → BaseOf b x → is_letter b ≡ true
unfolding every_code codes every_of is_letter
base-letter b x h = every_true is_letter (by_code (every_of is_letter) refl x) h

-- a set has four bits
pub set-small : (x : ℕ) → set_of x < 16
unfolding set_of every_code codes four_bits bit_of
set-small x = ltb-true (set_of x) 16 (by_code (λ p. ltb (four_bits p) 16) refl x)

-- a byte is a code exactly if its set is not empty
pub code-set : (x : ℕ) → is_code x ≡ not (eqb (set_of x) 0)
unfolding is_code set_of every_code codes four_bits bit_of is_empty implies
code-set x =
    same_test (is_code x) (not (eqb (set_of x) 0))
    (implied _ _ (by_code (λ p. implies (not (is_empty p)) (not (eqb (four_bits p) 0))) refl x))
    (implied _ _ (by_code (λ p. implies (not (eqb (four_bits p) 0)) (not (is_empty p))) refl x))

-- a code stands for some base
pub some-base : (x : ℕ) → is_code x ≡ true → (b : ℕ) × BaseOf b x
unfolding is_code is_empty
some-base x h = go (bases_of x) h
  where
    go : (p : Word) → not (is_empty p) ≡ true → (b : ℕ) × Memᴰ b p
    go [] k = absurd (false-not-true refl k)
    go (b ∷ p) k = (b, Memᴰ.head refl)

module _ (x y : ℕ) where
  -- the base that two codes share
  pub shared_base : ℕ
  shared_base = shared (bases_of x) (bases_of y)

  -- where their sets meet, the first has it
  pub shared-base : SetsMeet x y → BaseOf shared_base x
  unfolding shared_base set_of every_code codes shared common first has meets four_bits bit_of implies
  shared-base m =
      has-true shared_base (bases_of x) (implied _ _ (by_two (λ p q. implies (meets p q) (has (shared p q) p)) refl x y) (ap not (ne_eqb _ _ m)))

  -- a base that both have makes the sets meet
  pub base-meets : (b : ℕ) → BaseOf b x → BaseOf b y → SetsMeet x y
  unfolding set_of every_code codes has meets four_bits bit_of implies every_of
  base-meets b h k =
      let every : every_of (λ d. implies (has d (bases_of y)) (meets (bases_of x) (bases_of y))) (bases_of x) ≡ true =
      by_two (λ p q. every_of (λ d. implies (has d q) (meets p q)) p) refl x y
      in
      eqb-false _ _ (not-true _ (implied _ _ (every_true (λ d. implies (has d (bases_of y)) (meets (bases_of x) (bases_of y))) every h) (has-is k)))

  -- to meet is the same both ways round
  pub meet-sym : SetsMeet x y → SetsMeet y x
  meet-sym m e = m (and_comm (set_of x) (set_of y) ∙ e)

  -- the test of `Settled`
  settled-true : settled (bases_of x) (bases_of y) ≡ true → Settled x y
  unfolding settled certain is_certain number_of_bases set_of
  settled-true h =
      let a = both_true (certain (bases_of x) && certain (bases_of y)) (eqb (four_bits (bases_of x)) (four_bits (bases_of y))) h in
      let b = both_true (certain (bases_of x)) (certain (bases_of y)) a.0 in
      record { first-certain = b.0; second-certain = b.1; same_set = eqb-true _ _ a.1 }

  settled_is : Settled x y → settled (bases_of x) (bases_of y) ≡ true
  unfolding settled certain is_certain number_of_bases set_of
  settled_is s =
      both-are (certain (bases_of x) && certain (bases_of y)) (eqb (four_bits (bases_of x)) (four_bits (bases_of y)))
      (both-are (certain (bases_of x)) (certain (bases_of y)) s.first-certain s.second-certain) (eq-eqb _ _ s.same_set)

  -- two settled codes have one base
  pub settled-base : Settled x y → (b d : ℕ) → BaseOf b x → BaseOf d y → b ≡ d
  unfolding every_code codes four_bits bit_of implies settled certain ones ones_in one_base every_of
  settled-base s b d h k =
      let one : one_base (bases_of x) (bases_of y) ≡ true = implied _ _ (by_two (λ p q. implies (settled p q) (one_base p q)) refl x y) (settled_is s) in
      eqb-true b d (every_true (λ e. eqb b e) (every_true (λ a. every_of (λ e. eqb a e) (bases_of y)) one h) k)

  -- and two codes that have one base only are settled
  pub base-settled : is_code x ≡ true → is_code y ≡ true → ((b d : ℕ) → BaseOf b x → BaseOf d y → b ≡ d) → Settled x y
  unfolding is_code is_empty every_code codes four_bits bit_of implies settled certain ones ones_in one_base every_of
  base-settled h k f =
      let one : one_base (bases_of x) (bases_of y) ≡ true =
      every-is (λ a. every_of (λ e. eqb a e) (bases_of y)) (bases_of x) λ b m. every-is (λ e. eqb b e) (bases_of y) λ d n. eq-eqb b d (f b d m n)
      in
      settled-true
      (implied _ _ (by_two (λ p q. implies (not (is_empty p) && not (is_empty q) && one_base p q) (settled p q)) refl x y)
      (both-are (is_code x && is_code y) (one_base (bases_of x) (bases_of y)) (both-are (is_code x) (is_code y) h k) one))

  -- the sets of certain codes meet exactly if the codes are settled
  pub settled-meet : Settled x y → Meet (certain_set_of x) (certain_set_of y)
  unfolding certain_set_of is_certain number_of_bases set_of every_code codes four_bits bit_of implies settled certain ones ones_in certain_bits
  settled-meet s =
      eqb-false _ _
      (not-true _ (implied _ _ (by_two (λ p q. implies (settled p q) (not (eqb (bit_and (certain_bits p) (certain_bits q)) 0))) refl x y) (settled_is s)))

  pub meet-settled : Meet (certain_set_of x) (certain_set_of y) → Settled x y
  unfolding certain_set_of is_certain number_of_bases set_of every_code codes four_bits bit_of implies settled certain ones ones_in certain_bits
  meet-settled m =
      settled-true
      (implied _ _ (by_two (λ p q. implies (not (eqb (bit_and (certain_bits p) (certain_bits q)) 0)) (settled p q)) refl x y) (ap not (ne_eqb _ _ m)))

  -- and then the sets of both codes meet
  pub certain-meets : Meet (certain_set_of x) (certain_set_of y) → SetsMeet x y
  unfolding certain_set_of is_certain number_of_bases set_of every_code codes four_bits bit_of implies certain ones ones_in certain_bits meets
  certain-meets m =
      eqb-false _ _
      (not-true _
      (implied _ _ (by_two (λ p q. implies (not (eqb (bit_and (certain_bits p) (certain_bits q)) 0)) (meets p q)) refl x y) (ap not (ne_eqb _ _ m))))

-- both ways round it is the same
pub shared-sym : (x y : ℕ) → shared_base x y ≡ shared_base y x
unfolding shared_base every_code codes shared common first has
shared-sym x y = eqb-true _ _ (by_two (λ p q. eqb (shared p q) (shared q p)) refl x y)

-- the sets of a code meet
pub code_meets : (x : ℕ) → is_code x ≡ true → SetsMeet x x
code_meets x h = let b = some-base x h in base-meets x x b.0 b.1 b.1
