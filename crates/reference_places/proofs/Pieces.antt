-- Where a piece stands, found by going along the record one place a turn; whether it stands at a place, letter by letter and by the library's comparison.
-- Rests on the laws of `Turns`.
use Prim.Native.Nat.{ℕ, ◌+◌, ◌-◌, ◌<◌, ◌≤◌, min}
use native.Mathlib.Numerals.{add-one}
use native.Mathlib.Nat.{add-zero}
use native.Mathlib.Omega.{arith}
use mathlib.Core.Path.{◌≡◌, refl, sym, ap, ap₂, ◌∙◌}
use mathlib.Core.Bool.{Bool, true, false, cond, ◌&&◌}
use mathlib.Core.List.{List, [], ◌∷◌}
use mathlib.Core.Logic.{inl, inr}
use mir.Val.{bool_byte}
use lib.Dec.{eqb}
use lib.ListN.{length, get_or, take, drop, drop_of_length-le, length-drop}
use lib.Seq.{take_all}
use borrow.Author.Tests.{eq-eqb, ne_eqb}
use Rattle.std.proofs.lemmas.Bool.{cases_lt}
use Rattle.std.specs.List.{starts_with as slice_starts_with}
use Rattle.palindromes.specs.Word.{Word}
use Rattle.palindromes.specs.Place.{starts_with, places_from, places, first}
use Rattle.reference_symmetry.proofs.Turns.{drop-one}

-- ---- the letters of a piece, compared with those of the record

-- a piece that is longer than the record does not stand
pub longer-not : (p s : Word) → length s < length p → starts_with p s ≡ false
unfolding starts_with
longer-not [] s h = absurd (omega arith)
longer-not (x ∷ p) [] h = refl
longer-not (x ∷ p) (y ∷ s) h = ap (λ (t : Bool). eqb x y && t) (longer-not p s (omega arith)) ∙ and-false (eqb x y)
  where
    and-false : (t : Bool) → (t && false) ≡ false
    and-false true = refl
    and-false false = refl

module _ (p s : Word) (i : ℕ) where
  -- the piece has ended
  pub starts-done : length p ≤ i → starts_with (drop i p) (drop i s) ≡ true
  unfolding starts_with
  starts-done h = ap (λ (u : Word). starts_with u (drop i s)) (drop_of_length-le p h)

  module _ (more : i < length p) (inside : i < length s) where
    starts-step : starts_with (drop i p) (drop i s) ≡ (eqb (get_or p i 0) (get_or s i 0) && starts_with (drop (i + 1) p) (drop (i + 1) s))
    unfolding starts_with
    starts-step = ap₂ starts_with (drop-one p i more) (drop-one s i inside)

    pub starts-same : get_or p i 0 ≡ get_or s i 0 → starts_with (drop i p) (drop i s) ≡ starts_with (drop (i + 1) p) (drop (i + 1) s)
    starts-same e = starts-step ∙ ap (λ (t : Bool). t && starts_with (drop (i + 1) p) (drop (i + 1) s)) (eq-eqb _ _ e)

    pub starts_other : (get_or p i 0 ≡ get_or s i 0 → ⊥) → starts_with (drop i p) (drop i s) ≡ false
    starts_other e = starts-step ∙ ap (λ (t : Bool). t && starts_with (drop (i + 1) p) (drop (i + 1) s)) (ne_eqb _ _ e)

-- ---- and by the library's comparison of slices

pub starts-slice : (p s : Word) → starts_with p s ≡ slice_starts_with eqb s p
unfolding starts_with
starts-slice [] s = refl
starts-slice (x ∷ p) [] = refl
starts-slice (x ∷ p) (y ∷ s) = ap (λ (t : Bool). eqb x y && t) (starts-slice p s)

-- past the end nothing is left
drop-min : (at : ℕ) (s : Word) → drop (min at (length s)) s ≡ drop at s
drop-min at s =
    elim (cases_lt at (length s)) [
      | inl h ↦ ap (λ (k : ℕ). drop k s) (omega arith)
      | inr h ↦ drop_of_length-le s (omega arith) ∙ sym (drop_of_length-le s h)
    ]

-- what is left from a place on, as the code lends it
pub rest-is : (s : Word) (at k : ℕ) → k ≡ min at (length s) → take (length s - k) (drop k s) ≡ drop at s
rest-is s at k e = take_all (length s - k) (drop k s) (omega (arith, length-drop k s)) ∙ ap (λ (i : ℕ). drop i s) e ∙ drop-min at s

-- ---- the places, from the left

-- the places of the piece from `at` on
unfoldable pub places_left : Word → Word → ℕ → List ℕ
places_left p s at = places_from at p (drop at s)

-- a truth value as a number is at most 1
pub byte_le : (t : Bool) → bool_byte t ≤ 1
byte_le true = omega arith
byte_le false = omega arith

-- a place that counts if the test holds
length-cond : (t : Bool) (k : ℕ) (ks : List ℕ) {b : Bool} → t ≡ b → length (cond b (k ∷ ks) ks) ≡ bool_byte t + length ks
length-cond t k ks e = ap (λ (b : Bool). length (cond b (k ∷ ks) ks)) (sym e) ∙ by_cases t
  where
    by_cases : (u : Bool) → length (cond u (k ∷ ks) ks) ≡ bool_byte u + length ks
    by_cases true = omega arith
    by_cases false = omega arith

first-at : (p : Word) (k : ℕ) (s : Word) → starts_with p s ≡ true → first (places_from k p s) ≡ k
unfolding first places_from
first-at p k [] e = cc
first-at p k (x ∷ s) e = cc

module _ (p s : Word) where
  -- at first all are left
  pub left-all : places p s ≡ places_left p s 0
  unfolding places places_left
  left-all = refl

  module _ (at : ℕ) where
    left_step : at < length s → places_left p s at ≡ cond (starts_with p (drop at s)) (at ∷ places_left p s (at + 1)) (places_left p s (at + 1))
    unfolding places_left places_from
    left_step h = cc (drop-one s at h, add-one at)

    left_end : length s ≤ at → places_left p s at ≡ cond (starts_with p (drop at s)) (at ∷ []) []
    unfolding places_left places_from
    left_end h = cc (drop_of_length-le s h)

    module _ (t : Bool) (here : t ≡ starts_with p (drop at s)) where
      -- how many are left
      pub length-left : at < length s → length (places_left p s at) ≡ bool_byte t + length (places_left p s (at + 1))
      length-left h = ap length (left_step h) ∙ length-cond t at (places_left p s (at + 1)) here

      pub length-left-end : length s ≤ at → length (places_left p s at) ≡ bool_byte t
      length-left-end h = ap length (left_end h) ∙ length-cond t at [] here ∙ add-zero (bool_byte t)

    -- the first that is left, and where none is
    pub first-here : starts_with p (drop at s) ≡ true → first (places_left p s at) ≡ at
    unfolding places_left
    first-here e = first-at p at (drop at s) e

    pub first-later : at < length s → starts_with p (drop at s) ≡ false → first (places_left p s at) ≡ first (places_left p s (at + 1))
    first-later h e = cc (left_step h)

    pub first-none : length s ≤ at → starts_with p (drop at s) ≡ false → first (places_left p s at) ≡ 0
    unfolding first
    first-none h e = cc (left_end h)
