use Rattle.std.proofs.Common.{ap, sym, ◌∙◌, length}
use Rattle.reference_ends.proofs.AtEnds.{suffix-here, suffix-shorter, suffix-none}
use Rattle.reference_ends.proofs.longest_suffix.Goals as goal

pub returns-then-is_symmetric : goal.returns-then-is_symmetric
returns-then-is_symmetric c =
    sym (ap length c.loop-start.invariant ∙ suffix-here _ _ _ c.loop-start-test.true (sym c.is_symmetric.ensures ∙ c.if-is_symmetric.true))

pub loop-start-preserved : goal.loop-start-preserved
loop-start-preserved c = c.loop-start.invariant ∙ suffix-shorter _ _ _ c.loop-start-test.true (sym c.is_symmetric.ensures ∙ c.if-is_symmetric.false)

pub returns : goal.returns
returns c = sym (ap length (c.loop-start.invariant ∙ suffix-none _ _ _ c.loop-start-test.false))
