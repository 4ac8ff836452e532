-- A mark sheet's 32 bytes, `counts-length`, from which a host reads the counts back, `counts-read`, as long as each is below 2 to the power 64. Assumes
-- nothing.
use Prim.Native.Nat.{ℕ, zero, suc, ◌*◌, ◌/◌, ◌<◌}
use native.Mathlib.Omega.{arith}
use mathlib.Core.Path.{◌≡◌, refl}
use lib.ListN.{length}
use Rattle.palindromes.specs.Marks.{Counts, low_bytes, from_bytes, counts_bytes, counts_read}

pub counts-length : (t : Counts) → length (counts_bytes t) ≡ 32
unfolding counts_bytes low_bytes
counts-length t = refl

-- the first number that takes more than so many bytes
abbrev above : ℕ → ℕ
above zero = 1
above (suc k) = 256 * above k

read_back_lem : (k n : ℕ) → n < above k → from_bytes (low_bytes k n) ≡ n
unfolding low_bytes from_bytes
read_back_lem zero n h = omega arith
read_back_lem (suc k) n h =
    let rest = read_back_lem k (n / 256) (omega arith) in
    omega (arith, rest)

-- each count fits its eight bytes
pub record Fit (t : Counts) : Type 0 where
  pub right : t.right < 18446744073709551616
  pub repeated : t.repeated < 18446744073709551616
  pub wrong : t.wrong < 18446744073709551616
  pub missing : t.missing < 18446744073709551616

pub counts-read : (t : Counts) → Fit t → counts_read (counts_bytes t) ≡ t
unfolding counts_read counts_bytes low_bytes
counts-read t f i =
    record {
      right = read_back_lem 8 t.right f.right i;
      repeated = read_back_lem 8 t.repeated f.repeated i;
      wrong = read_back_lem 8 t.wrong f.wrong i;
      missing = read_back_lem 8 t.missing f.missing i;
    }
