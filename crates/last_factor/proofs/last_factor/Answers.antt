use Rattle.std.proofs.Common.{◌≡◌, ◌+◌, ◌-◌, ◌<◌, ap, ◌∙◌, arith}
use Rattle.transitions.proofs.Rows.{row_below}
use Rattle.last_factor.specs.Kept.{begin_of, next_of, place_of}
use Rattle.last_factor.proofs.Jumping.{cell-fits}
use Rattle.last_factor.proofs.Walking.{memo-begin, memo-next, memo-place, turn-start, turn-done, turn-passes, turn-fresh}
use Rattle.last_factor.proofs.Walking.{turn-count, turn-few, turn_one, turn-next}
use Rattle.last_factor.proofs.last_factor.Goals as goal

pub get-requires : goal.get-requires
get-requires c = cell-fits c.requires.good c.args.longest c.requires.ends_at.0.used

pub loop-row-init : goal.loop-row-init
loop-row-init c =
    let s = c.requires in
    turn-start s.good s.ends_at.0 s.ends_at.1 s.ends_at.2 s.memos_2.0 s.memos_2.1 (omega (arith, c.get.ensures.0))

pub get-requires-in-loop-row : goal.get-requires-in-loop-row
get-requires-in-loop-row c = cell-fits c.requires.good c.loop-row.row c.loop-row.invariant.used

pub memo_of-requires : goal.memo_of-requires
memo_of-requires c =
    let s = c.requires in
    let p = turn-passes s.good c.loop-row.invariant c.jump-chosen.ensures.choice in
    let small = s.ends_at.0.small in
    (omega arith, omega (arith, row_below s.good c.jump-chosen.result.next p.used), omega (arith, p.place))

pub offset_bounds-memos-row : goal.offset_bounds-memos-row
offset_bounds-memos-row c = omega (arith, row_below c.requires.good c.loop-row.row c.loop-row.invariant.used)

pub bounds-memos-row : goal.bounds-memos-row
bounds-memos-row c = omega (arith, row_below c.requires.good c.loop-row.row c.loop-row.invariant.used, c.loop-row.invariant.kept.long)

pub overflow_add-turns : goal.overflow_add-turns
overflow_add-turns c = omega (arith, turn-few c.requires.good c.loop-row.invariant, c.requires.ends_at.0.small)

pub loop-row-smaller : goal.loop-row-smaller
loop-row-smaller c =
    let s = c.requires in
    let j = c.jump-chosen.ensures in
    omega (arith, turn_one s.good c.loop-row.invariant j.choice (omega arith) s.ends_at.2 j.next)

pub loop-row-preserved : goal.loop-row-preserved
loop-row-preserved c =
    let s = c.requires in
    let i = c.loop-row.invariant in
    let j = c.jump-chosen.ensures in
    let begin = c.args.i + 2 - c.get-in-loop-row.result in
    let next = c.jump-chosen.result.next in
    let place = c.jump-chosen.result.place in
    let v = c.memo_of.result in
    let small = s.ends_at.0.small in
    let p = turn-passes s.good i j.choice in
    let l : begin < 2048 = omega arith in
    let n : next < 2048 = omega (arith, row_below s.good next p.used) in
    let b : begin_of v ≡ begin = ap begin_of c.memo_of.ensures ∙ memo-begin begin next place l n in
    turn-next s.good i j.choice (omega arith) s.ends_at.2 j.next s.known v
    (omega (arith, b, c.get-in-loop-row.ensures.0, i.reaches))
    (ap next_of c.memo_of.ensures ∙ memo-next begin next place l n)
    (ap place_of c.memo_of.ensures ∙ memo-place begin next place l n)
    c.better_of-start.ensures

pub returns-clause-start : goal.returns-clause-start
returns-clause-start c =
    let s = c.requires in
    let i = c.loop-row.invariant in
    (turn-done s.good i (omega arith), i.low, turn-count s.good i (omega arith))

pub returns-clause-fresh : goal.returns-clause-fresh
returns-clause-fresh c = turn-fresh c.requires.good c.loop-row.invariant (omega arith)
