-- DEFINITIONS. The reading that the code names. Nothing here is proved.
use Rattle.palindromes.specs.Reading.{Reading as Way, as_plain, as_inverted}
use Rattle.opening.specs.declared.Reading.{Reading}
use Rattle.opening.specs.declared.Reading.TheVariants.{Plain, Inverted}

abbrev pub way_of : Reading → Way
way_of Plain = as_plain
way_of Inverted = as_inverted
