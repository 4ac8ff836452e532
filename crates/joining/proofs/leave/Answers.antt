-- Where a letter comes first the others move into its place; the last place is cleared.
use Rattle.std.proofs.Common.{◌+◌, ◌-◌, ◌∙◌, ap, sym, arith, slice_set}
use Rattle.palindromes.specs.End.{at_left, at_right}
use Rattle.store.proofs.Parts.{sets_same}
use Rattle.store.proofs.Ends.{parted}
use Rattle.joining.proofs.Copied.{copied}
use Rattle.joining.proofs.leave.Goals as goal

pub returns-in-Left : goal.returns-in-Left
returns-in-Left c =
    let a = c.args in
    rw c.in-Left.is
    (ap (λ b. slice_set b (a.base + (a.n - 1)) 0) (c.copy_within.ensures.after ∙ copied a.b.now (a.base + 1) a.base (a.n - 1) _ (omega arith) (omega arith) (omega arith))
    ∙ parted a.b.now a.base a.n at_left c.requires.0 c.requires.1)

pub returns-in-Right : goal.returns-in-Right
returns-in-Right c =
    let a = c.args in
    rw c.in-Right.is
    (ap (λ b. slice_set b (a.base + (a.n - 1)) 0) (sym (sets_same a.b.now a.base (a.n - 1) (omega arith)))
    ∙ parted a.b.now a.base a.n at_right c.requires.0 c.requires.1)
