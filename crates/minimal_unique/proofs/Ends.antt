-- The minimal unique palindromes of a good store right end by right end: the row that is first met there tells whether the longest palindrome there
-- is one (`first-tells`); those of the first k right ends, `listed_to`, and what one right end more adds. Rests on `minimal-by-end` of palindromes.
use Prim.Native.Nat.{ℕ, ◌+◌, ◌-◌, ◌≤◌, ◌<◌}
use native.Mathlib.Omega.{arith}
use mathlib.Core.Path.{◌≡◌, refl, sym, ap, ◌∙◌}
use mathlib.Core.Bool.{Bool, true, false}
use mathlib.Core.List.{List, [], ◌∷◌, ◌++◌}
use lib.ListN.{length, get_or, take, length-append}
use borrow.Author.Tests.{not-false}
use Rattle.std.proofs.lemmas.List.{get_or-take, length-take}
use Rattle.palindromes.specs.Word.{Word}
use Rattle.palindromes.specs.Place.{stands}
use Rattle.palindromes.specs.Node.{Node, spelling_of}
use Rattle.palindromes.specs.Interval.{Interval, interval}
use Rattle.palindromes.specs.MinimalUnique.{is_minimal_unique, minimal_unique}
use Rattle.palindromes.proofs.Tests.{false-not-true}
use Rattle.palindromes.proofs.Places.{stands-true}
use Rattle.palindromes.proofs.MinimalUniqueList.{met_to, minimal-by-end, stood-before, met-old, met-new, met-more}
use Rattle.store.specs.Layout.{size_in, used_in, letters_in}
use Rattle.store.specs.Good.{rule_of, Good}
use Rattle.store.proofs.Sizes.{letters-length}
use Rattle.transitions.proofs.Rows.{used-root}
use Rattle.walk.specs.Replay.{ending_in, new_at, Holds}
use Rattle.end_rows.specs.EndRows.{FirstRows}
use Rattle.minimal_unique.proofs.Rows.{minimal_in, root-not}

-- the right end that comes next is one of the record, and the row that is first met there
pub next_first : {b firsts : Word} {n k row : ℕ} → FirstRows b firsts → n ≡ size_in b → k < length (take n firsts) → row ≡ get_or (take n firsts) k 0
    → (k < size_in b) × (row ≡ get_or firsts k 0)
next_first {firsts = firsts} {n} {k} f e h i = let l : k < n = omega (arith, h, length-take n firsts) in (omega arith, i ∙ get_or-take n firsts k 0 l)

-- none is left
pub none-next : {b firsts : Word} {n k : ℕ} → FirstRows b firsts → n ≡ size_in b → k ≡ length (take n firsts) → k ≡ size_in b
none-next {firsts = firsts} {n} f e h = omega (arith, f.long, length-take n firsts)

-- those of the first k right ends
abbrev pub listed_to : Word → ℕ → List Interval
listed_to b k = met_to (rule_of b) (letters_in b) k

module _ {b firsts : Word} (g : Good b) (f : FirstRows b firsts) {k : ℕ} (l : k < size_in b) where
  pub first-used : used_in b (get_or firsts k 0) ≡ true
  first-used = go (new_at b k) refl
    where
      go : (t : Bool) → new_at b k ≡ t → used_in b (get_or firsts k 0) ≡ true
      go true e = (f.new k l e).used
      go false e = used-root b (get_or firsts k 0) (f.old k l e)

  -- the row first met there tells whether the longest palindrome there is minimal unique
  first-tells : minimal_in b (get_or firsts k 0) ≡ is_minimal_unique (rule_of b) (letters_in b) (ending_in b (k + 1))
  unfolding spelling_of
  first-tells = go (new_at b k) refl
    where
      go : (t : Bool) → new_at b k ≡ t → minimal_in b (get_or firsts k 0) ≡ is_minimal_unique (rule_of b) (letters_in b) (ending_in b (k + 1))
      go true e = ap (λ (v : Node). is_minimal_unique (rule_of b) (letters_in b) (spelling_of v)) (f.new k l e).holds
      go false e =
          let w = ending_in b (k + 1) in
          let stood = stands-true w (take k (letters_in b)) (not-false (stands w (take k (letters_in b))) e) in
          root-not g (get_or firsts k 0) (f.old k l e) ∙ sym (stood-before (rule_of b) (letters_in b) k (omega (arith, letters-length g.sized)) stood)

  -- and where it is, its row is the one that holds it
  pub first_holds : minimal_in b (get_or firsts k 0) ≡ true → Holds b (k + 1) (get_or firsts k 0)
  first_holds h = go (new_at b k) refl
    where
      go : (t : Bool) → new_at b k ≡ t → Holds b (k + 1) (get_or firsts k 0)
      go true e = f.new k l e
      go false e = absurd (false-not-true (root-not g (get_or firsts k 0) (f.old k l e)) h)

  module _ {t : Bool} (e : t ≡ minimal_in b (get_or firsts k 0)) where
    pub listed-old : t ≡ false → listed_to b (k + 1) ≡ listed_to b k
    listed-old i = met-old (rule_of b) (letters_in b) k (sym first-tells ∙ sym e ∙ i)

    pub listed-new : t ≡ true → listed_to b (k + 1) ≡ listed_to b k ++ (interval (k + 1 - length (ending_in b (k + 1))) (k + 1) ∷ [])
    listed-new i = met-new (rule_of b) (letters_in b) k (sym first-tells ∙ sym e ∙ i)

    pub one_more : t ≡ true → length (listed_to b (k + 1)) ≡ length (listed_to b k) + 1
    one_more i = ap length (listed-new i) ∙ length-append (listed_to b k) (interval (k + 1 - length (ending_in b (k + 1))) (k + 1) ∷ [])

module _ {b : Word} (g : Good b) where
  pub listed-most : (k : ℕ) → k ≤ size_in b → length (listed_to b k) ≤ length (minimal_unique (rule_of b) (letters_in b))
  listed-most k h = rw (minimal-by-end (rule_of b) (letters_in b), letters-length g.sized) (met-more (rule_of b) (letters_in b) k (size_in b) h)

  pub listed-all : (k : ℕ) → k ≡ size_in b → listed_to b k ≡ minimal_unique (rule_of b) (letters_in b)
  listed-all k e = ap (listed_to b) (e ∙ sym (letters-length g.sized)) ∙ sym (minimal-by-end (rule_of b) (letters_in b))
