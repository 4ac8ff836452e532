-- The signed lengths are equal exactly if the numbers that store them are. Assumes nothing.
use Rattle.std.proofs.Common.{ℕ, ◌≡◌, ◌+◌, ◌∙◌, true, eqb, arith, sym, ap, refl, eq-eqb}
use Rattle.std.specs.Prelude.{ℤ, pos}
use Rattle.std.proofs.Math.IntN.{pred_ℤ}
use borrow.Author.Tests.{eqb-true}
use mir.Syntax.{w32}
use mir.Val.{of_z, to_z}
use mir.Facts.{to_z-of_z}
use Rattle.palindromes.specs.Word.{Word}
use Rattle.store.specs.Layout.{cell, length_in}
use Rattle.store.specs.Lengths.{Stored}
use Rattle.store.proofs.Signed.{kept, length-fits, number_is}
use Rattle.audit_fixed.proofs.Decided.{carried, test-decides}
use Rattle.audit_edge.proofs.longer_by_two.Goals as goal

module _ (b : Word) (u q : ℕ) {short long around : ℤ} (x : (short ≡ length_in b u) × Stored short) (y : (long ≡ length_in b q) × Stored long)
    (p : (m : ℕ) → to_z w32 (of_z w32 short) ≡ pred_ℤ (pos m) → around ≡ pred_ℤ (pos (m + 2))) where
  -- the length around the one row
  around-is : around ≡ pred_ℤ (pos (cell b u 0 + 2))
  unfolding length_in
  around-is = p (cell b u 0) (kept x.1 ∙ x.0)

  -- where the bits are equal the lengths are
  longer : of_z w32 long ≡ of_z w32 around → cell b q 0 ≡ cell b u 0 + 2
  unfolding length_in
  longer e =
      let small = number_is x.1 (cell b u 0) x.0 in
      let back : to_z w32 (of_z w32 around) ≡ around = to_z-of_z {w = w32} (rw around-is (length-fits (cell b u 0 + 2) (omega (arith, x.1.small)))) in
      sym (number_is y.1 (cell b q 0) y.0) ∙ number_is y.1 (cell b u 0 + 2) (sym (kept y.1) ∙ ap (to_z w32) e ∙ back ∙ around-is)

  -- and the other way round
  longer-bits : cell b q 0 ≡ cell b u 0 + 2 → of_z w32 long ≡ of_z w32 around
  unfolding length_in
  longer-bits e = ap (of_z w32) (y.0 ∙ ap (λ (m : ℕ). pred_ℤ (pos m)) e ∙ sym around-is)

pub returns : goal.returns
returns c =
    let a = c.args in
    let x = of_z w32 c.length_of-length.result in
    let y = of_z w32 c.plus_two-around.result in
    carried (eqb x y ≡ true) (cell a.b.now a.q 0 ≡ cell a.b.now a.u 0 + 2) (eqb x y) (test-decides (eqb x y) refl)
    (λ t. longer a.b.now a.u a.q c.length_of.ensures c.length_of-length.ensures c.plus_two-around.ensures (eqb-true x y t))
    (λ e. eq-eqb x y (longer-bits a.b.now a.u a.q c.length_of.ensures c.length_of-length.ensures c.plus_two-around.ensures e))
