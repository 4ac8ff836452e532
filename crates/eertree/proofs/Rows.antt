-- The rows of a table that covers a record, by their numbers and lengths: rows 0 and 1 are the roots and no other row is, and links and inner rows lead to
-- shorter rows. A row's reach is its signed length plus one, a number from 0, so that a walk along links or inner rows ends. Last, the letter test of that walk:
-- the letter before a word that ends p stands at a place that the row's reach tells.
-- Rests on `Covers`, and on `link-shorter` and the cuts of words.
use Prim.Native.Nat.{ℕ, zero, suc, ◌-◌, ◌≤◌, ◌<◌}
use native.Mathlib.Omega.{arith}
use mathlib.Core.Path.{◌≡◌, refl, sym, ap, ◌∙◌, subst}
use mathlib.Core.Bool.{true}
use mathlib.Core.Logic.{◌⊎◌, inl, inr, ◌↔◌}
use mathlib.Core.List.{[], ◌∷◌, ◌++◌, append_assoc, cons-ne-nil}
use lib.ListN.{length, get_or, length-append}
use lib.Seq.{get_or_at}
use lib.IntN.{pos, pred_ℤ, suc-pred}
use Rattle.palindromes.specs.Word.{Word}
use Rattle.palindromes.specs.Palindrome.{Palindrome}
use Rattle.palindromes.specs.Place.{Suffix, Stands}
use Rattle.palindromes.specs.End.{at_right, removed, letter_at, without_last}
use Rattle.palindromes.specs.Node.{Node, imaginary, spelt, length_of, link_of, inner_of}
use Rattle.palindromes.specs.Eertree.{Table}
use Rattle.palindromes.proofs.Words.{by_last, suffix-length, stands-length, added-removed, added-length}
use Rattle.palindromes.proofs.Growth.{link-shorter}
use Rattle.eertree.specs.Covers.{NodeOf, Covers}

-- the signed length of a node plus one
abbrev pub reach_of : Node → ℕ
reach_of imaginary = zero
reach_of (spelt w) = suc (length w)

-- ---- nodes

-- the signed length is the reach less one
pub reach-length : (v : Node) → length_of v ≡ pred_ℤ (pos (reach_of v))
unfolding length_of
reach-length imaginary = refl
reach-length (spelt w) = refl

-- the link of a node other than the imaginary one is shorter
pub link-reach : (σ : ℕ → ℕ) (v : Node) → (v ≡ imaginary → ⊥) → reach_of (link_of σ v) < reach_of v
unfolding link_of
link-reach σ imaginary n = absurd (n refl)
link-reach σ (spelt []) n = omega arith
link-reach σ (spelt (x ∷ w)) n = omega (arith, link-shorter σ x w)

-- and so is its inner word
pub inner-reach : (v : Node) → (v ≡ imaginary → ⊥) → reach_of (inner_of v) < reach_of v
unfolding inner_of removed
inner-reach imaginary n = absurd (n refl)
inner-reach (spelt []) n = omega arith
inner-reach (spelt (x ∷ [])) n = omega arith
inner-reach (spelt (x ∷ y ∷ w)) n =
    omega (arith, added-length at_right (letter_at at_right (y ∷ w)) (without_last (y ∷ w)), ap length (added-removed at_right (y ∷ w) (cons-ne-nil y w)))

-- a node of s is not longer than s
pub node-reach : (σ : ℕ → ℕ) (s : Word) (v : Node) → NodeOf σ s v → reach_of v ≤ suc (length s)
node-reach σ s imaginary n = omega arith
node-reach σ s (spelt w) n = omega (arith, stands-length n.1)

-- ---- rows

module _ {σ : ℕ → ℕ} {s : Word} {T : Table} {node : ℕ → Node} (h : Covers σ s T node) where
  -- a row's signed length tells its reach
  pub row-reach : (r m : ℕ) → T.used r ≡ true → T.length r ≡ pred_ℤ (pos m) → m ≡ reach_of (node r)
  row-reach r m u e =
      let k : pos m ≡ pos (reach_of (node r)) = cc (suc-pred (pos m), suc-pred (pos (reach_of (node r))), e, h.length-is r u, reach-length (node r)) in
      cc

  -- no row is longer than the record
  pub row-reach-most : (r : ℕ) → T.used r ≡ true → reach_of (node r) ≤ suc (length s)
  row-reach-most r u = node-reach σ s (node r) (h.each_row r u)

  -- the roots have no other rows
  pub imaginary-row : (r : ℕ) → T.used r ≡ true → node r ≡ imaginary → r ≡ 0
  imaginary-row r u e = h.one-row r 0 u h.row_zero.0 (e ∙ sym h.row_zero.1)

  pub empty-row : (r : ℕ) → T.used r ≡ true → node r ≡ spelt [] → r ≡ 1
  empty-row r u e = h.one-row r 1 u h.row_one.0 (e ∙ sym h.row_one.1)

  -- every other used row holds a palindrome of the record
  pub word_row : (r : ℕ) → T.used r ≡ true → 2 ≤ r → (w : Word) × (node r ≡ spelt w) × Palindrome σ w × Stands w s
  word_row r u b = go (node r) refl
    where
      go : (v : Node) → node r ≡ v → (w : Word) × (node r ≡ spelt w) × Palindrome σ w × Stands w s
      go imaginary e = absurd (omega (arith, imaginary-row r u e))
      go (spelt []) e = absurd (omega (arith, empty-row r u e))
      go (spelt (x ∷ w)) e =
          let n : NodeOf σ s (spelt (x ∷ w)) = subst (NodeOf σ s) e (h.each_row r u) in
          (x ∷ w, e, record { non-empty = cons-ne-nil x w; symmetric = n.0 }, n.1)

  -- and a used row that holds a non-empty word is one of them
  pub row-high : (r : ℕ) {w : Word} → node r ≡ spelt w → (w ≡ [] → ⊥) → 2 ≤ r
  row-high zero {w} e n = let z : ◌≡◌ {A = ℕ} 0 1 = cc h.row_zero.1 in omega arith
  row-high (suc zero) {w} e n = absurd (n (cc h.row_one.1))
  row-high (suc (suc r)) {w} e n = omega arith

  -- the links of the roots lead to row 0, and so do their inner rows
  pub link-zero : T.link 0 ≡ 0
  unfolding link_of
  link-zero = let e = h.link-is 0 h.row_zero.0 in imaginary-row (T.link 0) e.0 (cc (e.1, h.row_zero.1))

  pub link-one : T.link 1 ≡ 0
  unfolding link_of
  link-one = let e = h.link-is 1 h.row_one.0 in imaginary-row (T.link 1) e.0 (cc (e.1, h.row_one.1))

  pub inner-zero : T.inner 0 ≡ 0
  unfolding inner_of
  inner-zero = let e = h.inner-is 0 h.row_zero.0 in imaginary-row (T.inner 0) e.0 (cc (e.1, h.row_zero.1))

  pub inner-one : T.inner 1 ≡ 0
  unfolding inner_of
  inner-one = let e = h.inner-is 1 h.row_one.0 in imaginary-row (T.inner 1) e.0 (cc (e.1, h.row_one.1))

  -- the link of a row other than row 0 is shorter, so a walk along links ends at row 0
  pub link-falls : (r : ℕ) → T.used r ≡ true → (r ≡ 0 → ⊥) → reach_of (node (T.link r)) < reach_of (node r)
  link-falls r u n = rw (h.link-is r u).1 (link-reach σ (node r) λ e. n (imaginary-row r u e))

  -- and so is its inner row
  pub inner-falls : (r : ℕ) → T.used r ≡ true → (r ≡ 0 → ⊥) → reach_of (node (T.inner r)) < reach_of (node r)
  inner-falls r u n = rw (h.inner-is r u).1 (inner-reach (node r) λ e. n (imaginary-row r u e))

-- ---- the letter before a word

-- before a shorter word u that ends p stands the letter at the place that the reach of u tells
pub faces-at : (d : ℕ) (u p : Word) → Suffix u p → length u < length p → (get_or p (length p - suc (length u)) 0 ≡ d) ↔ Suffix (d ∷ u) p
faces-at d u p a l = (there, λ q. seam q.before d q.whole)
  where
    seam : (b : Word) (x : ℕ) → b ++ x ∷ u ≡ p → get_or p (length p - suc (length u)) 0 ≡ x
    seam b x k = rw (← k) (get_or_at b x u 0 (length (b ++ x ∷ u) - suc (length u)) (omega (arith, length-append b (x ∷ u))))

    there : get_or p (length p - suc (length u)) 0 ≡ d → Suffix (d ∷ u) p
    there e = go (by_last a.before)
      where
        go : (a.before ≡ []) ⊎ ((b : Word) × (x : ℕ) × (a.before ≡ b ++ (x ∷ []))) → Suffix (d ∷ u) p
        go (inl n) = let k : u ≡ p = cc (n, a.whole) in absurd (omega (arith, ap length k))
        go (inr r) =
            let k : r.0 ++ r.1 ∷ u ≡ p = cc (append_assoc r.0 (r.1 ∷ []) u, r.2, a.whole) in
            record { before = r.0; whole = cc (seam r.0 r.1 k) }

-- a word with a letter before it in p is shorter than p
pub faces-outside : {d : ℕ} {u p : Word} → Suffix (d ∷ u) p → length u < length p
faces-outside q = suffix-length q
