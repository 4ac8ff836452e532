-- What the contracts of src/lib.rt say of marking that may be refused.
use Rattle.std.specs.Prelude.{ℕ, Bool, Result, Ok, Err}
use Rattle.refusal.specs.declared.Refusal.{Refusal}
use Rattle.refusal.specs.Number.{number_of}
use Rattle.outcome.specs.Reply.{packed, accepted, refused_with}

-- the number that tells it: whether the sheet has full marks, or why it was not marked
abbrev pub told : Result Bool Refusal → ℕ
told (Ok full) = packed (accepted full 0 0 0)
told (Err refusal) = packed (refused_with (number_of refusal))
