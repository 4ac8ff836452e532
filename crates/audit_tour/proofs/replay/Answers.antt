use Rattle.std.proofs.Common.{arith, subst}
use Rattle.std.proofs.Math.Seq.{take_all}
use Rattle.palindromes.specs.Word.{Word}
use Rattle.store.specs.Layout.{letters_in}
use Rattle.store.proofs.Sizes.{letters-length}
use Rattle.audit_tour.specs.Tour.{Toured}
use Rattle.audit_tour.proofs.Letter.{tour-start}
use Rattle.audit_tour.proofs.replay.Goals as goal

pub loop-k-init : goal.loop-k-init
loop-k-init c = tour-start c.requires.ready c.requires.blank.0 c.requires.blank.1

pub advance-requires-clause-reading : goal.advance-requires-clause-reading
advance-requires-clause-reading c = record { ready = c.requires.ready; more = omega arith; toured = c.loop-k.invariant }

pub loop-k-preserved : goal.loop-k-preserved
loop-k-preserved c = c.in_ok-tour.ensures

pub returns : goal.returns
returns c =
    let all = take_all c.loop-k.k (letters_in c.args.b.now) (omega (arith, letters-length c.requires.ready.sized)) in
    subst (λ (p : Word). Toured c.args.b.now c.loop-k.marks c.loop-k.carried p c.loop-k.tour) all c.loop-k.invariant
