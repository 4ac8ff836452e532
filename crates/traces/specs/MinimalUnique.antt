-- DEFINITIONS. What is claimed of the minimal unique repeats after every list of calls: 02 (viii). m is the reading in force and s the letters, as
-- they follow from the arguments, and b the store. Nothing here is proved.
use Rattle.std.specs.Prelude.{ℕ, ◌≤◌, ◌≡◌, length}
use Rattle.palindromes.specs.Word.{Word}
use Rattle.palindromes.specs.Reading.{rule_in}
use Rattle.palindromes.specs.Interval.{interval_bytes, intervals_read}
use Rattle.palindromes.specs.MinimalUnique.{minimal_unique}
use Rattle.palindromes.specs.Refusal.{the_minimal_unique}
use Rattle.outcome.specs.Reply.{tells}
use Rattle.traces.specs.Writes.{Writes}

-- "answer how many there are and list each start and end", or "a short output buffer is refused with 9"; from the bytes they are read back; "there are
-- never more than the record has letters", and 4,096 bytes are always enough
pub record MinimalUniques (m : ℕ) (s b : Word) : Type 0 where
  pub listed : Writes the_minimal_unique (tells (length (minimal_unique (rule_in m) s))) (interval_bytes (minimal_unique (rule_in m) s)) b
  pub read : intervals_read (interval_bytes (minimal_unique (rule_in m) s)) ≡ minimal_unique (rule_in m) s
  pub few : length (minimal_unique (rule_in m) s) ≤ length s
  pub most : length (interval_bytes (minimal_unique (rule_in m) s)) ≤ 4096
