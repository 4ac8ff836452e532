-- DEFINITIONS. The bytes after a change of the reading. Nothing here is proved.
use Rattle.std.specs.Prelude.{ℕ, cond, [], ◌∷◌, eqb}
use Rattle.palindromes.specs.Word.{Word}
use Rattle.palindromes.specs.End.{End, at_right}
use Rattle.store.specs.Layout.{capacity_in, reading_in, letters_in}
use Rattle.transitions.specs.Opening.{opened}
use Rattle.transitions.specs.Addition.{after_addition}

-- the store after letters were added at an end, the first one first
unfoldable pub after_additions : End → Word → Word → Word
after_additions e [] b = b
after_additions e (c ∷ s) b = after_additions e s (after_addition e c b)

-- 02 (vii) "turn a good store to that reading: letters and capacity stay, and the table is that of the same letters in the new reading". The rows are those of a record that is opened in the new
-- reading and then takes the letters at the right, in order. "A change to the reading already in force leaves the store as it is"
unfoldable pub turned : ℕ → Word → Word
turned reading b = cond (eqb (reading_in b) reading) b (after_additions at_right (letters_in b) (opened reading (capacity_in b) b))
