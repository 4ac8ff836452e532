-- When an edge leads to a row: exactly if its cell is not zero. Assumes nothing.
use Prim.Native.Nat.{ℕ}
use mathlib.Core.Path.{◌≡◌, ap}
use mathlib.Core.Bool.{true, false, not}
use lib.Dec.{eqb}
use borrow.Author.Tests.{eq-eqb, ne_eqb, not-true, not-false, eqb-true, eqb-false}
use Rattle.palindromes.specs.Word.{Word}
use Rattle.store.specs.Layout.{edge_in}
use Rattle.audit_rows.specs.Rows.{leads_from}

module _ (b : Word) (c r : ℕ) where
  pub leads-is : (edge_in b r c ≡ 0 → ⊥) → leads_from b c r ≡ true
  unfolding leads_from
  leads-is n = ap not (ne_eqb (edge_in b r c) 0 n)

  pub leads-not : edge_in b r c ≡ 0 → leads_from b c r ≡ false
  unfolding leads_from
  leads-not e = ap not (eq-eqb (edge_in b r c) 0 e)

  pub leads-there : leads_from b c r ≡ true → edge_in b r c ≡ 0 → ⊥
  unfolding leads_from
  leads-there t = eqb-false (edge_in b r c) 0 (not-true (eqb (edge_in b r c) 0) t)

  pub leads-nowhere : leads_from b c r ≡ false → edge_in b r c ≡ 0
  unfolding leads_from
  leads-nowhere t = eqb-true (edge_in b r c) 0 (not-false (eqb (edge_in b r c) 0) t)
