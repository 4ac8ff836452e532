-- Where each row has a rank, and the place of that rank names the row, each place names a row whose rank it is: no two rows have the same place, and there are as many places as rows. So the places need
-- no test of their own. Rests on `count-into` of audit_fixed.
use Prim.Native.Nat.{ℕ, ◌+◌, ◌≤◌, ◌<◌}
use native.Mathlib.Omega.{arith}
use mathlib.Core.Path.{◌≡◌, refl, sym, ap, ◌∙◌}
use mathlib.Core.Bool.{Bool, true, ◌&&◌}
use lib.Dec.{eqb, leb, ltb}
use borrow.Author.Tests.{le-leb, leb-true, lt-ltb, ltb-true, eq-eqb, eqb-true}
use Rattle.palindromes.specs.Word.{Word}
use Rattle.palindromes.proofs.Tests.{both_true, both-are}
use Rattle.store.specs.Layout.{capacity_in, order_in, rank_in}
use Rattle.store.specs.Good.{OrderIs, RankIs}
use Rattle.audit_fixed.proofs.Counting.{count_same, count-into}

-- place i names a row that has it as its rank
names : Word → ℕ → Bool
names b i = leb 2 (order_in b i) && (ltb (order_in b i) (capacity_in b + 2) && eqb (rank_in b (order_in b i)) i)

-- every place is one
any : ℕ → Bool
any i = true

module _ {b : Word} (h : (r : ℕ) → 2 ≤ r → r < capacity_in b + 2 → RankIs b r) where
  -- the place of a row's rank names the row
  rank-names : (j : ℕ) → j < capacity_in b → any j ≡ true → (rank_in b (j + 2) < capacity_in b) × (names b (rank_in b (j + 2)) ≡ true)
  unfolding names
  rank-names j l e =
      let k = h (j + 2) (omega arith) (omega arith) in
      let rest = both-are (ltb (j + 2) (capacity_in b + 2)) (eqb (rank_in b (j + 2)) (rank_in b (j + 2))) (lt-ltb (j + 2) (capacity_in b + 2) (omega arith)) (eq-eqb (rank_in b (j + 2)) (rank_in b (j + 2)) refl) in
      (k.high, rw k.back (both-are (leb 2 (j + 2)) (ltb (j + 2) (capacity_in b + 2) && eqb (rank_in b (j + 2)) (rank_in b (j + 2))) (le-leb 2 (j + 2) (omega arith)) rest))

  -- and no other
  rank-own : (i j : ℕ) → i < capacity_in b → j < capacity_in b → any i ≡ true → any j ≡ true → rank_in b (i + 2) ≡ rank_in b (j + 2) → i ≡ j
  rank-own i j k l x y e = omega (arith, sym (h (i + 2) (omega arith) (omega arith)).back ∙ ap (order_in b) e ∙ (h (j + 2) (omega arith) (omega arith)).back)

  -- so each place names a row whose rank it is
  pub order_is : (i : ℕ) → i < capacity_in b → OrderIs b i
  unfolding names any
  order_is i l =
      let t = count_same (names b) any (capacity_in b) (λ j k e. refl) (count-into any (λ j. rank_in b (j + 2)) (capacity_in b) (capacity_in b) (names b) rank-names rank-own) i l refl in
      let p = both_true (leb 2 (order_in b i)) (ltb (order_in b i) (capacity_in b + 2) && eqb (rank_in b (order_in b i)) i) t in
      let q = both_true (ltb (order_in b i) (capacity_in b + 2)) (eqb (rank_in b (order_in b i)) i) p.1 in
      record { low = leb-true 2 (order_in b i) p.0; high = ltb-true (order_in b i) (capacity_in b + 2) q.0; back = eqb-true (rank_in b (order_in b i)) i q.1 }
