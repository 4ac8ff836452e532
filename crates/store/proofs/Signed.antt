-- Signed lengths as the machine computes with them. An i32 is held as its bits, so in a function's needs each length stands as what is read back from its bits,
-- `to_z w32 (of_z w32 z)`. Every length that a row can store is small, so that this is the length itself. Rests on the library's laws of the machine's signed numbers.
use Prim.Native.Nat.{ℕ, zero, suc, ◌+◌, ◌≤◌, ◌<◌, ◌^◌}
use native.Mathlib.Omega.{arith}
use native.Mathlib.Numerals.{add-one}
use mathlib.Core.Path.{◌≡◌, refl, sym, ap, ◌∙◌}
use lib.Dec.{lit≤}
use lib.IntN.{ℤ, pos, suc_ℤ, pred_ℤ, nat_abs, ◌+ℤ◌, ◌-ℤ◌, suc-pred, pred_ℤ-+ℤ, -ℤ_one}
use mir.Syntax.{w32}
use mir.Val.{SFits, to_z, of_z}
use mir.Facts.{to_z-of_z, to_z_pos}
use Rattle.store.specs.Lengths.{Stored}
use Rattle.store.specs.Writes.{stored}

-- a length that is stored as a small number fits an i32
pub length-fits : (m : ℕ) → m < 2 ^ 31 → SFits w32 (pred_ℤ (pos m))
length-fits zero h = record { sfits = omega arith }
length-fits (suc m) h = record { sfits = omega arith }

-- the length that a number stores is one less than the number
pub less_one : (m : ℕ) → m < 2 ^ 31 → to_z w32 m -ℤ pos 1 ≡ pred_ℤ (pos m)
less_one m h = ap (λ z. z -ℤ pos 1) (to_z_pos w32 h) ∙ -ℤ_one (pos m)

-- a length is stored as one number only
pub number_is : {z : ℤ} (s : Stored z) (m : ℕ) → z ≡ pred_ℤ (pos m) → s.number ≡ m
number_is s m e = ap nat_abs (sym (suc-pred (pos s.number)) ∙ ap suc_ℤ (sym s.is ∙ e) ∙ suc-pred (pos m))

-- and that is what the writes of a row put down
pub stored_is : {z : ℤ} (s : Stored z) → stored z ≡ s.number
stored_is s = rw s.is (of s.number)
  where
    of : (m : ℕ) → stored (pred_ℤ (pos m)) ≡ m
    of zero = refl
    of (suc m) = refl

module _ {z : ℤ} (s : Stored z) where
  -- a stored length is read back as it is
  pub kept : to_z w32 (of_z w32 z) ≡ z
  kept = to_z-of_z {w = w32} (rw s.is (length-fits s.number (omega arith)))

  -- so a number added to a length is added to what stores it
  pub sum : (k : ℕ) → to_z w32 (of_z w32 z) +ℤ pos k ≡ pred_ℤ (pos (s.number + k))
  sum k = ap (λ y. y +ℤ pos k) (kept ∙ s.is) ∙ pred_ℤ-+ℤ (pos s.number) (pos k)

  pub sum_fits : (k : ℕ) → k ≤ 2 → SFits w32 (to_z w32 (of_z w32 z) +ℤ pos k)
  sum_fits k h = rw (sum k) (length-fits (s.number + k) (omega arith))

  pub sum_kept : (k : ℕ) → k ≤ 2 → to_z w32 (of_z w32 (to_z w32 (of_z w32 z) +ℤ pos k)) ≡ pred_ℤ (pos (s.number + k))
  sum_kept k h = to_z-of_z {w = w32} (sum_fits k h) ∙ sum k

  -- one more than a length is the number that stores it
  pub one_more : to_z w32 (of_z w32 (to_z w32 (of_z w32 z) +ℤ pos 1)) ≡ pos s.number
  one_more = sum_kept 1 (lit≤ tt) ∙ ap (λ n. pred_ℤ (pos n)) (add-one s.number)
