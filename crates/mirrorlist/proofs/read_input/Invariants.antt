-- The invariant of `mirrorlist::read_input`: no more bytes were read than the buffer has; and its measure: the room that is left. Assumes nothing beyond what
-- std's `Read` promises of a read.
use Rattle.std.proofs.Common.{length, ◌-◌, ◌≤◌}
use Rattle.mirrorlist.proofs.read_input.Given as goal

abbrev pub invariant-loop-n : goal.invariant-loop-n
invariant-loop-n g l = l.n ≤ length l.text

abbrev pub decreases-loop-n : goal.decreases-loop-n
decreases-loop-n g l = length l.initial.text - l.n
