-- The verdict on an addition.
use Rattle.std.proofs.Common.{sym, ◌∙◌, arith}
use Rattle.walk.proofs.Stores.{header-fits}
use Rattle.addition_call.proofs.Adding.{not-letter, is-full, can-add}
use Rattle.addition_call.proofs.judge_add.Goals as goal

pub returns-then-not-is_letter : goal.returns-then-not-is_letter
returns-then-not-is_letter c =
    not-letter _ _ _ c.if-not-is_good.ensures (sym c.is_letter.ensures ∙ c.if-not-is_letter.true)

pub capacity-requires : goal.capacity-requires
capacity-requires c = header-fits c.if-not-is_good.ensures.sized

pub size-requires : goal.size-requires
size-requires c = header-fits c.if-not-is_good.ensures.sized

pub returns-then-capacity-size : goal.returns-then-capacity-size
returns-then-capacity-size c =
    is-full _ _ _ c.if-not-is_good.ensures (sym c.is_letter.ensures ∙ c.if-not-is_letter.false)
    (omega (arith, c.size.ensures.0, c.capacity.ensures.0))

pub returns : goal.returns
returns c =
    can-add _ _ _ c.if-not-is_good.ensures (sym c.is_letter.ensures ∙ c.if-not-is_letter.false)
    (omega (arith, c.size.ensures.0, c.capacity.ensures.0))
