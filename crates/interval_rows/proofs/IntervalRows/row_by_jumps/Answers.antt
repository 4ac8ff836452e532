use Rattle.std.proofs.Common.{arith}
use Rattle.interval_rows.proofs.Ways.{row-at-end, near_first, near-found, near_none, between_ends, between-length}
use Rattle.interval_rows.proofs.IntervalRows.row_by_jumps.Goals as goal

pub loop-self-init : goal.loop-self-init
loop-self-init c =
    let s = c.args.self in
    let start = c.args.start in
    let end = c.args.end in
    near_first s.good (between_ends s.good start end) (row-at-end s.end_rows c.requires.start_lt_end.0 c.requires.start_lt_end.1 c.from-row.ensures)

pub loop-self-smaller : goal.loop-self-smaller
loop-self-smaller c =
    let s = c.args.self in
    let start = c.args.start in
    let end = c.args.end in
    (c.closer-row.ensures end _ (between_ends s.good start end) (between-length s.good start end c.requires.start_lt_end.1) c.loop-self.invariant).1

pub loop-self-preserved : goal.loop-self-preserved
loop-self-preserved c =
    let s = c.args.self in
    let start = c.args.start in
    let end = c.args.end in
    (c.closer-row.ensures end _ (between_ends s.good start end) (between-length s.good start end c.requires.start_lt_end.1) c.loop-self.invariant).0

pub returns-then-spelling_length-n : goal.returns-then-spelling_length-n
returns-then-spelling_length-n c =
    let s = c.args.self in
    let size = between-length s.good c.args.start c.args.end c.requires.start_lt_end.1 in
    near-found s.good (between_ends s.good c.args.start c.args.end) (omega (arith, size))
    (omega (arith, size, c.spelling_length-2.ensures)) c.loop-self.invariant

pub returns-else-spelling_length-n : goal.returns-else-spelling_length-n
returns-else-spelling_length-n c =
    let s = c.args.self in
    let size = between-length s.good c.args.start c.args.end c.requires.start_lt_end.1 in
    near_none s.good (omega (arith, size, c.spelling_length.ensures, c.spelling_length-2.ensures)) c.loop-self.invariant
