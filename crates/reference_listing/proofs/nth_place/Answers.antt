use Rattle.std.proofs.Common.{◌≡◌, refl, [], ◌∷◌, arith}
use Rattle.std.proofs.lemmas.Grind.{common_steps}
use Rattle.palindromes.specs.Word.{Word}
use Rattle.palindromes.specs.Place.{starts_with, places_from, places, first, first_place}
use Rattle.reference_listing.proofs.nth_place.Goals as goal

-- the empty word stands first at the left end
first_place-empty : (s : Word) → first_place [] s ≡ 0
unfolding starts_with places_from places first first_place
first_place-empty [] = refl
first_place-empty (x ∷ s) = refl

pub returns : goal.returns
returns c = grind (arith, common_steps, first_place-empty)
