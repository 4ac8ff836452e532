use Rattle.std.proofs.Common.{sym}
use Rattle.base_sets.proofs.Reading.{none_read, more-read, no_code, not-codes}
use Rattle.base_sets.proofs.read_sets.Goals as goal

pub loop-i-init : goal.loop-i-init
loop-i-init c = none_read _ _ _

pub returns-then-set-eq0-clause-codes : goal.returns-then-set-eq0-clause-codes
returns-then-set-eq0-clause-codes c =
    sym (not-codes c.args.text.now c.loop-i.i c.loop-i-test.true (no_code _ _ c.set_of-set.ensures c.if-set-eq0.true))

pub loop-i-preserved : goal.loop-i-preserved
loop-i-preserved c =
    more-read _ _ _ _ _ c.loop-i.i c.loop-i.invariant c.set_of-set.result c.certain_of.result c.loop-i-test.true
    c.requires.0 c.requires.1 c.set_of-set.ensures c.if-set-eq0.false c.certain_of.ensures
