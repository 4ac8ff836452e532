use Rattle.std.proofs.Common.{ℕ, ◌+◌, ◌-◌, subst, arith}
use Rattle.interval_rows.specs.IntervalRow.{word_between, RowOf}
use Rattle.interval_rows.proofs.Ways.{row-at-end}
use Rattle.interval_rows.proofs.Mirrored.{whole-most, no_room, image-row}
use Rattle.interval_rows.proofs.IntervalRows.row_of_interval.Goals as goal

pub spelling_length-m-requires-clause-r_value : goal.spelling_length-m-requires-clause-r_value
spelling_length-m-requires-clause-r_value c =
    let s = c.args.self in
    (row-at-end s.end_rows c.requires.start_lt_end.0 c.requires.start_lt_end.1 c.from.ensures).used

pub overflow_sub-from : goal.overflow_sub-from
overflow_sub-from c =
    let s = c.args.self in
    let h = row-at-end s.end_rows c.requires.start_lt_end.0 c.requires.start_lt_end.1 c.from.ensures in
    omega (arith, c.spelling_length-m.ensures, whole-most s.good c.requires.start_lt_end.0 c.requires.start_lt_end.1 h)

pub returns-then-m-n : goal.returns-then-m-n
returns-then-m-n c =
    let s = c.args.self in
    let h = row-at-end s.end_rows c.requires.start_lt_end.0 c.requires.start_lt_end.1 c.from.ensures in
    no_room s.good c.requires.start_lt_end.0 c.requires.start_lt_end.1 h (omega (arith, c.spelling_length-m.ensures))

pub returns-else-m-n : goal.returns-else-m-n
returns-else-m-n c =
    let s = c.args.self in
    let b = s.store.now in
    let start = c.args.start in
    let end = c.args.end in
    let h = row-at-end s.end_rows c.requires.start_lt_end.0 c.requires.start_lt_end.1 c.from.ensures in
    let q = c.spelling_length-m.ensures in
    image-row s.good c.requires.start_lt_end.0 c.requires.start_lt_end.1 h (omega (arith, q)) c.row_by_jumps.result
    (subst (λ (m : ℕ). RowOf b (word_between b (end - m) (end - m + (end - start))) c.row_by_jumps.result) q c.row_by_jumps.ensures)
