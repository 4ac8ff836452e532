use Rattle.std.proofs.Common.{◌≡◌, ◌<◌, arith}
use Rattle.store.specs.Layout.{size_in}
use Rattle.walk.proofs.Stores.{header-fits}
use Rattle.factorization.proofs.Filling.{turn-first, ends_there, lengths-small, steps-small, steps_all, turn_more}
use Rattle.factorization.proofs.fill.Goals as goal

pub size-k-end-requires : goal.size-k-end-requires
size-k-end-requires c = header-fits c.requires.good.sized

pub loop-k-init : goal.loop-k-init
loop-k-init c =
    let s = c.requires in
    turn-first s.good s.b_value.1 s.factors_value.0 s.factors_value.1

pub last_factor-found-requires-clause-ends_at : goal.last_factor-found-requires-clause-ends_at
last_factor-found-requires-clause-ends_at c =
    let s = c.requires in
    let l : c.loop-k.k < size_in c.args.b.now = omega (arith, c.size-k-end.ensures.0) in
    let h = rw (← c.from.ensures) at (c.loop-k.invariant.rows.each c.loop-k.k (omega arith) l) in
    (ends_there s.good l s.b_value.0 h, h, omega arith)

pub overflow_add-steps : goal.overflow_add-steps
overflow_add-steps c =
    let s = c.requires in
    let l : c.loop-k.k < size_in c.args.b.now = omega (arith, c.size-k-end.ensures.0) in
    omega (arith, steps-small s.good l s.b_value.0 c.loop-k.invariant c.last_factor-found.ensures.start.2)

pub overflow_add-factors : goal.overflow_add-factors
overflow_add-factors c =
    let s = c.requires in
    let l : c.loop-k.k < size_in c.args.b.now = omega (arith, c.size-k-end.ensures.0) in
    omega (arith, lengths-small s.good l c.loop-k.invariant.known c.last_factor-found.result.start c.last_factor-found.ensures.start.1)

pub loop-k-preserved : goal.loop-k-preserved
loop-k-preserved c =
    let l : c.loop-k.k < size_in c.args.b.now = omega (arith, c.size-k-end.ensures.0) in
    let p = c.last_factor-found.ensures in
    turn_more c.requires.good l c.size-k-end.ensures.0 c.loop-k.invariant p.start.0 p.start.1 p.memos p.fresh p.start.2

pub returns-clause-steps : goal.returns-clause-steps
returns-clause-steps c =
    let e : c.loop-k.k ≡ size_in c.args.b.now = omega (arith, c.size-k-end.ensures.0, c.loop-k.invariant.passed) in
    (steps_all c.requires.good c.requires.b_value.0 (rw e at c.loop-k.invariant.counted)).0

pub returns-clause-few : goal.returns-clause-few
returns-clause-few c =
    let e : c.loop-k.k ≡ size_in c.args.b.now = omega (arith, c.size-k-end.ensures.0, c.loop-k.invariant.passed) in
    (steps_all c.requires.good c.requires.b_value.0 (rw e at c.loop-k.invariant.counted)).1
