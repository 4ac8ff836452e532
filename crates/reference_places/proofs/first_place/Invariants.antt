use Rattle.std.proofs.Common.{◌≡◌}
use Rattle.palindromes.specs.Place.{first_place, first}
use Rattle.reference_places.proofs.Pieces.{places_left}
use Rattle.reference_places.proofs.first_place.Given as goal

-- the first place is the first of those that are left
abbrev pub invariant-loop-at : goal.invariant-loop-at
invariant-loop-at l = first_place l.p l.s ≡ first (places_left l.p l.s l.at)
