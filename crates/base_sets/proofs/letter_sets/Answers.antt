use Rattle.std.proofs.Common.{refl}
use Rattle.palindromes.specs.Interval.{numbers_from}
use Rattle.ambiguity.specs.Code.{codes, bases_in, bases_of, bit_of, four_bits, set_of}
use Rattle.base_sets.specs.Sets.{letter_sets}
use Rattle.base_sets.proofs.letter_sets.Goals as goal

-- letter by letter
pub returns : goal.returns
unfolding letter_sets numbers_from codes bases_in bases_of bit_of four_bits set_of
returns c = refl
