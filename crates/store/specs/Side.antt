-- The code's ends as the definitions' ends, for the contracts.
use Rattle.palindromes.specs.End.{End, at_left, at_right}
use Rattle.store.specs.declared.letters.Side.{Side}
use Rattle.store.specs.declared.letters.Side.TheVariants.{Left, Right}

abbrev pub end_of : Side → End
end_of Left = at_left
end_of Right = at_right

-- the one of two values that is an end's
abbrev pub pick : {A : Type 0} → End → A → A → A
pick at_left left right = left
pick at_right left right = right
