use Rattle.std.proofs.Common.{ap, sym, ◌∙◌, arith}
use Rattle.palindromes.specs.Place.{starts_with}
use Rattle.reference_places.proofs.Pieces.{longer-not, starts-done, starts-same, starts_other, rest-is}
use Rattle.reference_places.proofs.starts_with.Goals as goal

pub returns-then-rest-p : goal.returns-then-rest-p
returns-then-rest-p c = sym (sym (ap (starts_with c.args.p.now) (rest-is _ _ _ c.min.ensures)) ∙ longer-not _ _ c.if-rest-p.true)

pub returns-then-p-i : goal.returns-then-p-i
returns-then-p-i c = sym (c.loop-i.invariant ∙ starts_other _ _ _ c.loop-i-test.true (omega (arith, c.loop-i-test.true, c.if-rest-p.false)) c.if-p-i.true)

pub returns-then-i-eq7 : goal.returns-then-i-eq7
returns-then-i-eq7 c = c.begins_with.ensures ∙ ap (starts_with c.args.p.now) (rest-is _ _ _ c.min.ensures)

pub loop-i-preserved : goal.loop-i-preserved
loop-i-preserved c = c.loop-i.invariant ∙ starts-same _ _ _ c.loop-i-test.true (omega (arith, c.loop-i-test.true, c.if-rest-p.false)) c.if-p-i.false

pub returns : goal.returns
returns c = sym (c.loop-i.invariant ∙ starts-done _ _ _ c.loop-i-test.false)
