-- The table of codes is complete: every non-empty set of bases is one code's, and no two codes have one set, either case of a letter being one code.
-- By tests that antt computes over the letters of the codes, the small letters and the sets. Assumes nothing.
use Prim.Native.Nat.{ℕ, zero, suc, ◌+◌, ◌-◌, ◌<◌}
use native.Mathlib.Omega.{arith}
use native.Mathlib.Nat.{eq-or-lt_of_le, le_of_suc-le-suc}
use mathlib.Core.Path.{◌≡◌, refl, sym, ap, ◌∙◌, subst}
use mathlib.Core.Bool.{Bool, true, false, cond, not, ◌&&◌, ◌||◌}
use mathlib.Core.Logic.{⊎_elim}
use mathlib.Core.List.{List, [], ◌∷◌}
use lib.Dec.{eqb, leb}
use borrow.Author.Tests.{eqb-true, leb-true}
use Rattle.palindromes.specs.Word.{is_empty, same_word}
use Rattle.palindromes.specs.Fasta.{upper}
use Rattle.palindromes.proofs.Tests.{both_true, false-not-true, same_true}
use Rattle.palindromes.proofs.Lists.{either_true}
use Rattle.ambiguity.specs.Code.{Code, codes, bases_in, bases_of, is_code, bit_of, four_bits, set_of}

-- ---- tests over numbers and over letters

-- a test over the numbers below n
all_below : (ℕ → Bool) → ℕ → Bool
all_below t zero = true
all_below t (suc n) = t n && all_below t n

below_true : (t : ℕ → Bool) (n k : ℕ) → all_below t n ≡ true → k < n → t k ≡ true
unfolding all_below
below_true t zero k h l = absurd (omega arith)
below_true t (suc n) k h l =
    let b = both_true (t n) (all_below t n) h in
    ⊎_elim (λ e. subst (λ (x : ℕ). t x ≡ true) (sym e) b.0) (λ m. below_true t n k b.1 m) (eq-or-lt_of_le (le_of_suc-le-suc l))

-- a test over the letters of the codes, in either case
every_letter : (ℕ → Bool) → List Code → Bool
every_letter t [] = true
every_letter t (c ∷ cs) = t c.letter && t (c.letter + 32) && every_letter t cs

by-letter : (t : ℕ → Bool) (cs : List Code) (x : ℕ) → every_letter t cs ≡ true → not (is_empty (bases_in cs x)) ≡ true → t x ≡ true
unfolding every_letter bases_in is_empty
by-letter t [] x h k = absurd (false-not-true refl k)
by-letter t (c ∷ cs) x h k =
    let a = both_true (t c.letter && t (c.letter + 32)) (every_letter t cs) h in
    let b = both_true (t c.letter) (t (c.letter + 32)) a.0 in
    go (by-letter t cs x a.1) b.0 b.1 (eqb x c.letter || eqb x (c.letter + 32)) refl k
  where
    go : (not (is_empty (bases_in cs x)) ≡ true → t x ≡ true) → t c.letter ≡ true → t (c.letter + 32) ≡ true → (here : Bool)
        → (eqb x c.letter || eqb x (c.letter + 32)) ≡ here → not (is_empty (cond here c.bases (bases_in cs x))) ≡ true → t x ≡ true
    go later large small true e k =
        ⊎_elim (λ q. rw (eqb-true x c.letter q) large) (λ q. rw (eqb-true x (c.letter + 32) q) small)
        (either_true (eqb x c.letter) (eqb x (c.letter + 32)) e)
    go later large small false e k = later k

-- ---- every set, and no set twice

-- the code that has the set
code_in : List Code → ℕ → ℕ
code_in [] m = zero
code_in (c ∷ cs) m = cond (eqb (four_bits c.bases) m) c.letter (code_in cs m)

-- every non-empty set of bases is a code's
pub every_set : (m : ℕ) → 0 < m → m < 16 → (x : ℕ) × (is_code x ≡ true) × (set_of x ≡ m)
unfolding all_below code_in codes is_code is_empty set_of four_bits bit_of bases_of bases_in
every_set m l h =
    let same : m - 1 + 1 ≡ m = omega arith in
    let x = code_in codes (m - 1 + 1) in
    let b = both_true (is_code x) (eqb (set_of x) (m - 1 + 1)) (below_true code_has_set 15 (m - 1) refl (omega arith)) in
    (x, b.0, eqb-true _ _ b.1 ∙ same)
  where
    code_has_set : ℕ → Bool
    code_has_set k = is_code (code_in codes (k + 1)) && eqb (set_of (code_in codes (k + 1))) (k + 1)

own_code : (x : ℕ) → is_code x ≡ true → code_in codes (set_of x) ≡ upper x
unfolding every_letter code_in codes is_code set_of four_bits bit_of bases_of bases_in upper
own_code x h = eqb-true _ _ (by-letter (λ y. eqb (code_in codes (set_of y)) (upper y)) codes x refl h)

-- and of no two codes: those that have one set are one letter, in either case
pub one_code : (x y : ℕ) → is_code x ≡ true → is_code y ≡ true → set_of x ≡ set_of y → upper x ≡ upper y
one_code x y h k e = sym (own_code x h) ∙ ap (code_in codes) e ∙ own_code y k

-- ---- either case

small-bases : (k : ℕ) → k < 26 → bases_of (97 + k - 32) ≡ bases_of (97 + k)
unfolding all_below bases_of bases_in codes same_word
small-bases k l =
    same_true (bases_of (97 + k - 32)) (bases_of (97 + k)) (below_true (λ j. same_word (bases_of (97 + j - 32)) (bases_of (97 + j))) 26 k refl l)

-- the capital stands for the same bases, whatever the byte
pub upper-bases : (x : ℕ) → bases_of (upper x) ≡ bases_of x
unfolding upper
upper-bases x = go (leb 97 x && leb x 122) refl
  where
    go : (t : Bool) → (leb 97 x && leb x 122) ≡ t → bases_of (cond t (x - 32) x) ≡ bases_of x
    go true e =
        let b = both_true (leb 97 x) (leb x 122) e in
        let low = leb-true 97 x b.0 in
        let high = leb-true x 122 b.1 in
        let same : 97 + (x - 97) ≡ x = omega arith in
        ap (λ (y : ℕ). bases_of (y - 32)) (sym same) ∙ small-bases (x - 97) (omega arith) ∙ ap bases_of same
    go false e = refl
