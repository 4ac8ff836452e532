-- The place just before a suffix, for the contracts of src/lengths.rt.
use Rattle.std.specs.Prelude.{ℕ, ◌-◌, ◌<◌, ◌≡◌, ℤ, pos, cond, leb, Option, Some, None}
use Rattle.std.proofs.Math.IntN.{pred_ℤ}

-- a length that a row can store: -1 or more, and what it is stored as
pub record Stored (length : ℤ) : Type 0 where
  pub number : ℕ
  pub small : number < 65536
  pub is : length ≡ pred_ℤ (pos number)

-- the place before the last letters of k letters, whose number plus one is m; none where they are more than k
abbrev pub place_before : ℕ → ℕ → Option ℕ
place_before k m = cond (leb m k) (Some (k - m)) None
