-- What the contracts of src/lib.rt say of the number that an addition reports.
use Rattle.std.specs.Prelude.{ℕ, Bool, true, false, eqb}
use Rattle.palindromes.specs.End.{End, at_left, at_right}
use Rattle.outcome.specs.declared.answers.Added.{Added}
use Rattle.outcome.specs.declared.answers.Added.TheVariants.{New, Known}

-- at the right end of a plain record it does
abbrev pub reports_in : (reading : ℕ) → End → Bool
reports_in m at_right = eqb m 0
reports_in m at_left = false

-- the answer as it is, or with 0 in the number's place
abbrev pub reported_of : Bool → Added → Added
reported_of true a = a
reported_of false (New row steps) = New row 0
reported_of false (Known steps) = Known 0
