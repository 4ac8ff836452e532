-- The marks of the rows that were met: the roots are met from the start, and a mark more is a row more, also where they are counted. Assumes nothing.
use Prim.Native.Nat.{ℕ, zero, suc, ◌+◌, ◌≤◌, ◌<◌}
use native.Mathlib.Decide.{dec_lt}
use native.Mathlib.Omega.{arith}
use mathlib.Core.Path.{◌≡◌, refl, sym, ◌∙◌}
use mathlib.Core.Bool.{true, false, ◌||◌}
use mathlib.Core.Logic.{◌⊎◌, inl, inr, ⊎_elim}
use lib.Dec.{eqb, leb, ltb}
use lib.ListN.{length, get_or, set, replicate, length-replicate, get_or-replicate, get_or-eq_default}
use lib.Seq.{get_or-set_same, get_or-set_other}
use borrow.Author.Tests.{leb-true, le-leb, ltb-true, lt-ltb, le-ltb, eqb-true, eqb-false, eq-eqb, ne_eqb}
use Rattle.palindromes.specs.Word.{Word}
use Rattle.palindromes.proofs.Tests.{both_true, both-are, not-true-false, decided}
use Rattle.palindromes.proofs.Lists.{either_true, left_is, right_is}
use Rattle.audit_fixed.specs.Counting.{count_below}
use Rattle.audit_fixed.proofs.Counting.{count_no, count-more}
use Rattle.audit_tour.specs.Tour.{met_in, marked_row, Blank}

module _ (marks : Word) (r : ℕ) where
  -- a root is met
  pub met-root : r < 2 → met_in marks r ≡ true
  unfolding met_in
  met-root h = left_is (ltb r 2) (eqb (get_or marks r 0) 1) (lt-ltb r 2 h)

  -- and a marked row
  pub met-marked : get_or marks r 0 ≡ 1 → met_in marks r ≡ true
  unfolding met_in
  met-marked e = right_is (ltb r 2) (eqb (get_or marks r 0) 1) (eq-eqb (get_or marks r 0) 1 e)

  -- and no other
  pub met-unmarked : 2 ≤ r → (get_or marks r 0 ≡ 1 → ⊥) → met_in marks r ≡ false
  unfolding met_in
  met-unmarked l n = cc (le-ltb r 2 l, ne_eqb (get_or marks r 0) 1 n)

  pub met-cases : met_in marks r ≡ true → (r < 2) ⊎ (get_or marks r 0 ≡ 1)
  unfolding met_in
  met-cases h = ⊎_elim (λ e. inl (ltb-true r 2 e)) (λ e. inr (eqb-true (get_or marks r 0) 1 e)) (either_true (ltb r 2) (eqb (get_or marks r 0) 1) h)

  -- a marked row that is no root
  pub marked_row_lem : 2 ≤ r → get_or marks r 0 ≡ 1 → marked_row marks r ≡ true
  unfolding marked_row
  marked_row_lem l e = both-are (leb 2 r) (eqb (get_or marks r 0) 1) (le-leb 2 r l) (eq-eqb (get_or marks r 0) 1 e)

  unmarked-row : (get_or marks r 0 ≡ 1 → ⊥) → marked_row marks r ≡ false
  unfolding marked_row
  unmarked-row n = not-true-false (marked_row marks r) λ t. n (eqb-true (get_or marks r 0) 1 (both_true (leb 2 r) (eqb (get_or marks r 0) 1) t).1)

  -- is one that was met
  pub marked-met : marked_row marks r ≡ true → (2 ≤ r) × (met_in marks r ≡ true)
  unfolding marked_row
  marked-met t =
      let p = both_true (leb 2 r) (eqb (get_or marks r 0) 1) t in
      (leb-true 2 r p.0, met-marked (eqb-true (get_or marks r 0) 1 p.1))

  pub met-row : 2 ≤ r → met_in marks r ≡ true → marked_row marks r ≡ true
  met-row l m = ⊎_elim (λ s. absurd (omega arith)) (marked_row_lem l) (met-cases m)

-- a mark elsewhere
mark-kept : (marks : Word) (q r : ℕ) → (r ≡ q → ⊥) → marked_row (set marks q 1) r ≡ marked_row marks r
unfolding marked_row
mark-kept marks q r n = rw (get_or-set_other marks q r 1 0 n)

-- zeros are no marks
zero-at : (n r : ℕ) → get_or (replicate {A = ℕ} n 0) r 0 ≡ 0
zero-at n r = go (dec_lt r n)
  where
    go : Dec (r < n) → get_or (replicate {A = ℕ} n 0) r 0 ≡ 0
    go (yes l) = get_or-replicate {A = ℕ} n r 0 0 l
    go (no l) = get_or-eq_default (replicate {A = ℕ} n 0) 0 (omega (arith, length-replicate {A = ℕ} n 0))

pub blank : Blank (replicate 1026 0)
blank = record { long = length-replicate {A = ℕ} 1026 0; zero = zero-at 1026 }

-- where no row is marked only the roots are met
pub blank-met : {marks : Word} → Blank marks → (r : ℕ) → met_in marks r ≡ true → r < 2
blank-met {marks} n r h = ⊎_elim (λ l. l) (λ e. absurd (omega (arith, n.zero r))) (met-cases marks r h)

-- one mark more
pub met-set : (marks : Word) (q : ℕ) → q < length marks → (r : ℕ) → met_in (set marks q 1) r ≡ (eqb r q || met_in marks r)
unfolding met_in
met-set marks q l r = ⊎_elim same other (decided (eqb r q))
  where
    same : eqb r q ≡ true → met_in (set marks q 1) r ≡ (eqb r q || met_in marks r)
    same e = met-marked (set marks q 1) r (cc (eqb-true r q e, get_or-set_same marks q 1 0 l)) ∙ sym (left_is (eqb r q) (met_in marks r) e)

    other : eqb r q ≡ false → met_in (set marks q 1) r ≡ (eqb r q || met_in marks r)
    other e = cc (get_or-set_other marks q r 1 0 (eqb-false r q e))

-- how many rows are marked: none at first
pub none-marked : {marks : Word} → Blank marks → (n : ℕ) → count_below (marked_row marks) n ≡ 0
unfolding count_below
none-marked n zero = refl
none-marked {marks} n (suc m) = count_no (marked_row marks) m (unmarked-row marks m (λ e. omega (arith, n.zero m))) ∙ none-marked n m

-- and with a mark more one more
pub one-marked : (marks : Word) (q n : ℕ) → q < length marks → 2 ≤ q → (get_or marks q 0 ≡ 1 → ⊥) → q < n → count_below (marked_row (set marks q 1)) n ≡ count_below (marked_row marks) n + 1
one-marked marks q n l low o = count-more (marked_row marks) (marked_row (set marks q 1)) q rows (unmarked-row marks q o) n
  where
    rows : (r : ℕ) → marked_row (set marks q 1) r ≡ (eqb r q || marked_row marks r)
    rows r = ⊎_elim same other (decided (eqb r q))
      where
        same : eqb r q ≡ true → marked_row (set marks q 1) r ≡ (eqb r q || marked_row marks r)
        same e =
            let i = eqb-true r q e in
            marked_row_lem (set marks q 1) r (rw i low) (cc (i, get_or-set_same marks q 1 0 l)) ∙ sym (left_is (eqb r q) (marked_row marks r) e)

        other : eqb r q ≡ false → marked_row (set marks q 1) r ≡ (eqb r q || marked_row marks r)
        other e = cc (mark-kept marks q r (eqb-false r q e))
