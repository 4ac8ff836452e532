-- The replies of an addition, a removal and a search, by whether a repeat came, went or stands. Assumes nothing.
use Prim.Native.Nat.{ℕ}
use mathlib.Core.Path.{◌≡◌, refl}
use mathlib.Core.Bool.{Bool, true, false, cond}
use Rattle.outcome.specs.Reply.{accepted}
use Rattle.outcome.specs.Answers.{added_of, added_reply, removed_of, removed_reply, found_of, found_reply, found_answer}

pub reply-of-added : (new : Bool) (row steps : ℕ) → added_reply (added_of new row steps) ≡ accepted new (cond new row 0) steps 0
unfolding added_reply
reply-of-added true row steps = refl
reply-of-added false row steps = refl

pub reply-of-removed : (gone : Bool) (letter row : ℕ) → removed_reply (removed_of gone letter row) ≡ accepted gone (cond gone row 0) letter 0
unfolding removed_reply
reply-of-removed true letter row = refl
reply-of-removed false letter row = refl

pub reply-of-found : (stands : Bool) (row pair : ℕ) → found_reply (found_of stands row pair) ≡ accepted stands (cond stands row 0) pair 0
unfolding found_answer
reply-of-found true row pair = refl
reply-of-found false row pair = refl
