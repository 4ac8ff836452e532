-- Partners by a table of them: below its length the entry. Assumes nothing.
use Rattle.std.proofs.Common.{◌≡◌, ℕ, ◌<◌, List, length, get_or}
use Rattle.std.proofs.lemmas.List.{get_or_default}
use Rattle.mismatch.specs.Rule.{rule_of}

-- below the table's length the partner is the entry
pub partner-within : (t : List ℕ) (x : ℕ) → x < length t → get_or t x 0 ≡ rule_of t x
partner-within t x h = get_or_default t x 0 x h
