-- DEFINITIONS. What the functions that go through `palindromes` in its order ask at each end of the record. Nothing here is proved.
use Rattle.std.specs.Prelude.{ℕ, ◌-◌, cond, [], take, drop}
use Rattle.palindromes.specs.Word.{Word}
use Rattle.palindromes.specs.Place.{stands}
use Rattle.palindromes.specs.Record.{longest_suffix}
use Rattle.palindromes.specs.End.{without_last}

-- the palindrome whose first end is the end of w, empty where there is none
unfoldable pub new_at_end : (ℕ → ℕ) → Word → Word
new_at_end σ w = cond (stands (longest_suffix σ w) (without_last w)) [] (longest_suffix σ w)

-- the letters from the place a up to, not including, the place e
abbrev pub part : Word → ℕ → ℕ → Word
part s a e = take (e - a) (drop a s)
