-- A letter that comes first has the others moved out of its place.
use Rattle.std.proofs.Common.{◌+◌, ◌∙◌, ap, sym, arith, slice_set}
use Rattle.palindromes.specs.End.{at_left, at_right}
use Rattle.store.proofs.Parts.{sets_same}
use Rattle.store.proofs.Ends.{joined}
use Rattle.joining.proofs.Copied.{copied}
use Rattle.joining.proofs.join.Goals as goal

pub returns-in-Left : goal.returns-in-Left
returns-in-Left c =
    let a = c.args in
    rw c.in-Left.is
    (ap (λ b. slice_set b a.base a.c) (c.copy_within.ensures.after ∙ copied a.b.now a.base (a.base + 1) a.n _ (omega arith) (omega arith) (omega arith))
    ∙ joined a.b.now a.base a.n at_left a.c (omega arith))

pub returns-in-Right : goal.returns-in-Right
returns-in-Right c =
    let a = c.args in
    rw c.in-Right.is
    (ap (λ b. slice_set b (a.base + a.n) a.c) (sym (sets_same a.b.now a.base a.n (omega arith)))
    ∙ joined a.b.now a.base a.n at_right a.c (omega arith))
