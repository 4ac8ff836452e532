use Rattle.std.proofs.Common.{ℕ, length, ap, ◌∙◌, arith, List}
use Rattle.std.proofs.Math.Seq.{sets}
use Rattle.palindromes.specs.Node.{spelling_of}
use Rattle.palindromes.specs.Interval.{Interval, interval_bytes}
use Rattle.store.specs.Good.{node_in}
use Rattle.walk.proofs.Stores.{header-fits}
use Rattle.minimal_unique.proofs.Rows.{minimal_in}
use Rattle.minimal_unique.proofs.Ends.{next_first, none-next, first-used, listed-all}
use Rattle.minimal_unique.proofs.Written.{none_written, written-old, begins, room-for-one, written_new}
use Rattle.minimal_unique.proofs.put_minimal.Goals as goal
use Rattle.minimal_unique.proofs.put_minimal.Goals.{then-is_minimal, else-is_minimal}

pub size-requires : goal.size-requires
size-requires c = header-fits c.requires.good.sized

pub loop-k-init : goal.loop-k-init
loop-k-init c = none_written _ _

pub is_minimal-requires-clause-row_value : goal.is_minimal-requires-clause-row_value
is_minimal-requires-clause-row_value c =
    let s = c.requires in
    let n = next_first s.first_rows c.size.ensures.0 c.loop-k-test.true c.from-row.ensures in
    rw n.1 (first-used s.good s.first_rows n.0)

pub spelling_length-requires-clause-r_value : goal.spelling_length-requires-clause-r_value
spelling_length-requires-clause-r_value c =
    let s = c.requires in
    let n = next_first s.first_rows c.size.ensures.0 c.loop-k-test.true c.from-row.ensures in
    rw n.1 (first-used s.good s.first_rows n.0)

pub overflow_sub-end : goal.overflow_sub-end
overflow_sub-end c =
    let s = c.requires in
    let n = next_first s.first_rows c.size.ensures.0 c.loop-k-test.true c.from-row.ensures in
    let m = c.is_minimal.ensures ∙ ap (minimal_in c.args.b.now) n.1 in
    let long = c.spelling_length.ensures ∙ ap (λ (r : ℕ). length (spelling_of (node_in c.args.b.now r))) n.1 in
    (begins s.good s.first_rows n.0 m c.loop-k.invariant c.if-is_minimal.true long).1

pub put_interval-at-requires-clause-at_in_bounds : goal.put_interval-at-requires-clause-at_in_bounds
put_interval-at-requires-clause-at_in_bounds c =
    let s = c.requires in
    let n = next_first s.first_rows c.size.ensures.0 c.loop-k-test.true c.from-row.ensures in
    let m = c.is_minimal.ensures ∙ ap (minimal_in c.args.b.now) n.1 in
    room-for-one s.good s.first_rows n.0 m c.loop-k.invariant c.if-is_minimal.true s.b_in_bounds

pub loop-k-preserved : goal.loop-k-preserved
loop-k-preserved c =
    let s = c.requires in
    let n = next_first s.first_rows c.size.ensures.0 c.loop-k-test.true c.from-row.ensures in
    let m = c.is_minimal.ensures ∙ ap (minimal_in c.args.b.now) n.1 in
    let p = c.loop-k.invariant in
    elim c.if-is_minimal.branch [
      | then-is_minimal w ↦
          let long = w.spelling_length.ensures ∙ ap (λ (r : ℕ). length (spelling_of (node_in c.args.b.now r))) n.1 in
          let put = w.put_interval-at.ensures in
          rw (w.out-is, w.at-is) (written_new s.good s.first_rows n.0 m p w.if-is_minimal.true long put.written put.behind)
      | else-is_minimal w ↦ rw (w.out-is, w.at-is) (written-old s.good s.first_rows n.0 m p w.if-is_minimal.false)
    ]

pub returns : goal.returns
returns c =
    let e = none-next c.requires.first_rows c.size.ensures.0 (omega arith) in
    c.loop-k.invariant.stored ∙ ap (λ (l : List Interval). sets c.args.out.now 0 (interval_bytes l)) (listed-all c.requires.good c.loop-k.k e)
