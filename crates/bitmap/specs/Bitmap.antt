-- DEFINITIONS. The bits of a buffer, and the window of numbers that they stand for. Nothing here is proved.
use Rattle.std.specs.Prelude.{ℕ, ◌+◌, ◌*◌, ◌/◌, ◌%◌, ◌^◌, Bool, ◌&&◌, eqb, leb, ltb, length, get_or, set}
use Rattle.std.specs.Int.Bits.{bit_or}
use Rattle.palindromes.specs.Word.{Word}

-- bit i is set: eight bits to a byte, the lowest first
unfoldable pub bit_at : Word → ℕ → Bool
bit_at bits i = eqb (get_or bits (i / 8) 0 / 2 ^ (i % 8) % 2) 1

-- the buffer with bit i set
unfoldable pub with_bit : Word → ℕ → Word
with_bit bits i = set bits (i / 8) (bit_or (get_or bits (i / 8) 0) (2 ^ (i % 8)))

-- the window has the number i: its first is `from`, and it has as many as the buffer has bits
unfoldable pub in_window : ℕ → ℕ → Word → Bool
in_window from i bits = leb from i && ltb i (from + 8 * length bits)
