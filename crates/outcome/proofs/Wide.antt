-- Two sums of three bytes can be read back from the number that packs them. Assumes nothing.
use Prim.Native.Nat.{ℕ, ◌+◌, ◌*◌, ◌<◌}
use native.Mathlib.Omega.{arith}
use mathlib.Core.Path.{◌≡◌}
use Rattle.outcome.specs.Reply.{bit, packed, accepted, answered, refusal_in, flag_in}
use Rattle.outcome.specs.Wide.{wide_answer, by_rows_in, by_ends_in}

-- the number that packs two sums, laid out over the fields of the other answers
pub wide-packed : (x y : ℕ) → packed (answered (wide_answer x y)) ≡ 65536 * x + 1099511627776 * y
unfolding packed accepted wide_answer bit
wide-packed x y = omega arith

-- unpacking gives both back, and neither refusal nor flag
pub wide_read : (x y : ℕ) → x < 16777216 → y < 16777216
    → (by_rows_in (packed (answered (wide_answer x y))) ≡ x) × (by_ends_in (packed (answered (wide_answer x y))) ≡ y) × (refusal_in (packed (answered (wide_answer x y))) ≡ 0) × (flag_in (packed (answered (wide_answer x y))) ≡ 0)
wide_read x y h k = rw (wide-packed x y) (omega (arith, h, k), omega (arith, h, k), omega (arith, h, k), omega (arith, h, k))
