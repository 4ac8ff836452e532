-- DEFINITIONS. What an addition, a removal and a search answer: which case it is, and document 01's number and values for each case. Nothing here is proved.
use Rattle.std.specs.Prelude.{ℕ, Bool, true, false}
use Rattle.outcome.specs.Reply.{Reply, accepted, Answer, answer, answered}
use Rattle.outcome.specs.declared.answers.Added.{Added}
use Rattle.outcome.specs.declared.answers.Added.TheVariants.{New, Known}
use Rattle.outcome.specs.declared.answers.Removed.{Removed}
use Rattle.outcome.specs.declared.answers.Removed.TheVariants.{Gone, Kept}
use Rattle.outcome.specs.declared.answers.Found.{Found}
use Rattle.outcome.specs.declared.answers.Found.TheVariants.{At, Absent}

-- 01 "addition": a repeat comes in, and has this row, or none does; 02 (xiii) the number that the search passed, in either case
abbrev pub added_of : (new : Bool) (row steps : ℕ) → Added
added_of true row steps = New row steps
added_of false row steps = Known steps

-- 01 "1 and the new row, or 0 and row 0", with the number 0; 02 (xiii) "the adding call reports that number", first
unfoldable pub added_reply : Added → Reply
added_reply (New row steps) = accepted true row steps 0
added_reply (Known steps) = accepted false 0 steps 0

-- 01 "removal": this letter goes, and with it a repeat that had this row, or none
abbrev pub removed_of : (gone : Bool) (letter row : ℕ) → Removed
removed_of true letter row = Gone letter row
removed_of false letter row = Kept letter

-- 01 "the letter, and 1 and the row that went, or 0 and row 0", with the number 0
unfoldable pub removed_reply : Removed → Reply
removed_reply (Gone letter row) = accepted true row letter 0
removed_reply (Kept letter) = accepted false 0 letter 0

-- 01 "find": the piece is a repeat of the record, and this is its row, or it is absent; 02 (x) the first pair that disagrees, in either case
abbrev pub found_of : (stands : Bool) (row pair : ℕ) → Found
found_of true row pair = At row pair
found_of false row pair = Absent pair

-- 01 "answers its row, or absent": the number 0, and 1 and the row, or 0 and row 0; 02 (x) "find hands the number on beside its row or absence", first
unfoldable pub found_answer : Found → Answer
found_answer (At row pair) = answer true row pair 0
found_answer (Absent pair) = answer false 0 pair 0

abbrev pub found_reply : Found → Reply
found_reply f = answered (found_answer f)
