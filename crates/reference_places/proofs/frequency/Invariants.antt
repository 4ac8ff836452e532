use Rattle.std.proofs.Common.{◌≡◌, ◌+◌, ◌≤◌, length}
use Rattle.palindromes.specs.Place.{frequency}
use Rattle.reference_places.proofs.Pieces.{places_left}
use Rattle.reference_places.proofs.frequency.Given as goal

-- what was found and the places that are left make the number
abbrev pub invariant-loop-i : goal.invariant-loop-i
invariant-loop-i l = (l.found ≤ l.i) × (frequency l.p l.s ≡ l.found + length (places_left l.p l.s l.i))
