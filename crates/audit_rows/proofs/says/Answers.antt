-- The number that the four cells make is zero exactly if they all are. Assumes nothing.
use Rattle.std.proofs.Common.{ℕ, ◌≡◌, ◌+◌, ◌*◌, ◌≤◌, ◌∙◌, true, false, eqb, arith, sym, ap, ⊎_elim}
use mathlib.Core.Bool.{not}
use borrow.Author.Tests.{eqb-true, eqb-false}
use mir.Val.{bool_byte}
use Rattle.palindromes.specs.Word.{Word}
use Rattle.palindromes.proofs.Tests.{decided}
use Rattle.store.specs.Layout.{cell}
use Rattle.audit_fixed.specs.Counting.{one}
use Rattle.audit_rows.specs.Rows.{filled}
use Rattle.audit_rows.proofs.Filled.{filled_is, unfilled-is}
use Rattle.audit_rows.proofs.says.Goals as goal

module _ (b : Word) (r : ℕ) (low : 2 ≤ r) (x y : ℕ) (told : x ≡ bool_byte (not (eqb y 0))) where
  abbrev sum : ℕ
  sum = cell b r 0 + cell b r 1 + cell b r 2 + cell b r 3

  says-is : (y ≡ 0 → sum ≡ 0) → (sum ≡ 0 → y ≡ 0) → (x ≡ one (filled b r)) × (x ≤ 1)
  says-is none all = ⊎_elim zero some (decided (eqb y 0))
    where
      zero : eqb y 0 ≡ true → (x ≡ one (filled b r)) × (x ≤ 1)
      zero t =
          let e : x ≡ 0 = rw t at told in
          (e ∙ sym (ap one (unfilled-is b r low (none (eqb-true y 0 t)))), omega arith)

      some : eqb y 0 ≡ false → (x ≡ one (filled b r)) × (x ≤ 1)
      some t =
          let e : x ≡ 1 = rw t at told in
          (e ∙ sym (ap one (filled_is b r low (λ z. eqb-false y 0 t (all z)))), omega arith)

pub returns : goal.returns
returns c =
    let y = c.get.result + 65536 * c.get-2.result + 4294967296 * (c.get-3.result + 65536 * c.get-4.result) in
    says-is c.args.b.now c.args.r c.requires.1 c.from.result y c.from.ensures (λ e. omega arith) (λ e. omega arith)
