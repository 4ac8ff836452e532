-- Each test of the definitions says what its name says: two words are equal, a word equals its own reversal, a word is a palindrome.
-- A test is used in one direction by `..-true` and in the other by `..-is`. Assumes nothing.
use Prim.Native.Nat.{ℕ, suc}
use mathlib.Core.Path.{◌≡◌, refl, sym, ap, ap₂, ◌∙◌, subst}
use mathlib.Core.Bool.{Bool, true, false, cond, not, ◌&&◌, true≢false}
use native.Mathlib.Omega.{arith}
use mathlib.Core.Logic.{◌⊎◌, inl, inr}
use mathlib.Core.List.{[], ◌∷◌}
use lib.Dec.{eqb}
use borrow.Author.Tests.{eqb-true, eq-eqb, not-true}
use Rattle.palindromes.specs.Word.{Word, is_empty, same_word, mismatch_from}
use Rattle.palindromes.specs.Palindrome.{mirror, Symmetric, first_mismatch, is_symmetric, Palindrome, is_palindrome}

-- ---- truth values

-- both halves of a conjunction
pub both_true : (a b : Bool) → (a && b) ≡ true → (a ≡ true) × (b ≡ true)
both_true true b e = (refl, e)
both_true false b e = absurd (true≢false (sym e))

pub both-are : (a b : Bool) → a ≡ true → b ≡ true → (a && b) ≡ true
both-are a b p q = ap₂ ◌&&◌ p q

-- a test that is not true is false, and one that is not false is true
pub not-true-false : (b : Bool) → (b ≡ true → ⊥) → b ≡ false
not-true-false true h = absurd (h refl)
not-true-false false h = refl

pub false-not-true : {b : Bool} → b ≡ false → b ≡ true → ⊥
false-not-true e f = true≢false (sym f ∙ e)

-- the two cases of a test, with what it came to
pub decided : (b : Bool) → (b ≡ true) ⊎ (b ≡ false)
decided true = inl refl
decided false = inr refl

-- ---- words

pub empty-or-not : (w : Word) → is_empty w ≡ false → w ≡ [] → ⊥
unfolding is_empty
empty-or-not w e p = true≢false (sym (ap is_empty p) ∙ e)

pub non-empty-is : (w : Word) → (w ≡ [] → ⊥) → is_empty w ≡ false
unfolding is_empty
non-empty-is [] h = absurd (h refl)
non-empty-is (x ∷ w) h = refl

pub same_true : (u v : Word) → same_word u v ≡ true → u ≡ v
unfolding same_word
same_true [] [] e = refl
same_true [] (y ∷ v) e = absurd (true≢false (sym e))
same_true (x ∷ u) [] e = absurd (true≢false (sym e))
same_true (x ∷ u) (y ∷ v) e =
    let h = both_true (eqb x y) (same_word u v) e in
    ap₂ ◌∷◌ (eqb-true x y h.0) (same_true u v h.1)

pub same_refl : (u : Word) → same_word u u ≡ true
unfolding same_word
same_refl [] = refl
same_refl (x ∷ u) = both-are (eqb x x) (same_word u u) (eq-eqb x x refl) (same_refl u)

pub same-is : {u v : Word} → u ≡ v → same_word u v ≡ true
same-is {u} e = subst (λ (v : Word). same_word u v ≡ true) e (same_refl u)

-- the comparison of two words, counted from any number but 0, comes to 0 exactly if they are equal
mismatch-from-zero : (k : ℕ) (u v : Word) → mismatch_from (suc k) u v ≡ 0 → u ≡ v
unfolding mismatch_from
mismatch-from-zero k [] [] e = refl
mismatch-from-zero k [] (y ∷ v) e = absurd (omega arith)
mismatch-from-zero k (x ∷ u) [] e = absurd (omega arith)
mismatch-from-zero k (x ∷ u) (y ∷ v) e = go (eqb x y) refl e (mismatch-from-zero (suc k) u v)
  where
    go : (t : Bool) → eqb x y ≡ t → cond t (mismatch_from (suc (suc k)) u v) (suc k) ≡ 0 → (mismatch_from (suc (suc k)) u v ≡ 0 → u ≡ v) → x ∷ u ≡ y ∷ v
    go true h f rest = ap₂ ◌∷◌ (eqb-true x y h) (rest f)
    go false h f rest = absurd (omega arith)

mismatch-from-same : (k : ℕ) (u : Word) → mismatch_from k u u ≡ 0
unfolding mismatch_from
mismatch-from-same k [] = refl
mismatch-from-same k (x ∷ u) = ap (λ (t : Bool). cond t (mismatch_from (suc k) u u) k) (eq-eqb x x refl) ∙ mismatch-from-same (suc k) u

-- ---- palindromes

module _ (σ : ℕ → ℕ) where
  -- 02 (x): the first mismatch of a word is 0 exactly if the word equals its reversal
  pub mismatch-zero : (w : Word) → first_mismatch σ w ≡ 0 → Symmetric σ w
  unfolding first_mismatch
  mismatch-zero w e = sym (mismatch-from-zero 0 w (mirror σ w) e)

  pub mismatch-none : (w : Word) → Symmetric σ w → first_mismatch σ w ≡ 0
  unfolding first_mismatch
  mismatch-none w e = ap (mismatch_from 1 w) e ∙ mismatch-from-same 1 w

  pub symmetric-true : (w : Word) → is_symmetric σ w ≡ true → Symmetric σ w
  unfolding is_symmetric
  symmetric-true w e = mismatch-zero w (eqb-true _ _ e)

  pub symmetric-is : (w : Word) → Symmetric σ w → is_symmetric σ w ≡ true
  unfolding is_symmetric
  symmetric-is w e = eq-eqb _ _ (mismatch-none w e)

  pub palindrome-true : (w : Word) → is_palindrome σ w ≡ true → Palindrome σ w
  unfolding is_palindrome
  palindrome-true w e =
      let h = both_true (not (is_empty w)) (is_symmetric σ w) e in
      record { non-empty = empty-or-not w (not-true (is_empty w) h.0); symmetric = symmetric-true w h.1 }

  pub palindrome-is : (w : Word) → Palindrome σ w → is_palindrome σ w ≡ true
  unfolding is_palindrome
  palindrome-is w p =
      both-are (not (is_empty w)) (is_symmetric σ w) (ap not (non-empty-is w p.non-empty)) (symmetric-is w p.symmetric)
