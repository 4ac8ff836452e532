-- DEFINITIONS. What a row of decimal digits says, read from the left. Nothing here is proved.
use Rattle.std.specs.Prelude.{ℕ, ◌+◌, ◌-◌, ◌*◌, [], ◌∷◌}
use Rattle.palindromes.specs.Word.{Word}

-- the number that is read, if n was read before these digits: one digit more makes ten of each that was read before it. The digit 0 is the
-- byte 48
unfoldable pub value_from : ℕ → Word → ℕ
value_from n [] = n
value_from n (b ∷ w) = value_from (n * 10 + (b - 48)) w

-- the number that the digits say in base ten
unfoldable pub value : Word → ℕ
value w = value_from 0 w
