-- DEFINITIONS. What reading a text of codes promises: inside the library only. Nothing here is proved.
use Rattle.std.specs.Prelude.{ℕ, ◌≡◌, cond, List, map, eqb, length, take}
use Rattle.std.specs.Int.Count.{ones}
use Rattle.palindromes.specs.Interval.{numbers_from}
use Rattle.ambiguity.specs.Code.{set_of}
use Rattle.ambiguity.specs.Facing.{certain_set_of}

-- the sets of the bytes 64 to 95, the capitals among them, in order
unfoldable pub letter_sets : List ℕ
letter_sets = map set_of (numbers_from 64 32)

-- a set that has one base, and the empty set for any other
abbrev pub certain_of : ℕ → ℕ
certain_of m = cond (eqb (ones m) 1) m 0

-- the buffers begin with the sets of the text, and with those of its certain codes
pub record SetsRead (text sets certain : List ℕ) : Type 0 where
  pub sets-read : take (length text) sets ≡ map set_of text
  pub certain-read : take (length text) certain ≡ map certain_set_of text
