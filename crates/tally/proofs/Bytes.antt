-- A number and its eight bytes: the library's words for them are the definitions'. Assumes nothing.
use Prim.Native.Nat.{ℕ, ◌+◌, ◌-◌, ◌≤◌}
use native.Mathlib.Omega.{arith}
use mathlib.Core.Path.{◌≡◌, sym, ◌∙◌}
use mathlib.Core.List.{[], ◌∷◌}
use Rattle.std.proofs.Common.{append_assoc}
use lib.ListN.{length, take, drop}
use lib.Seq.{sets, sets-eq, drop-drop}
use borrow.Rule.Slice.PartMut.{put_mid}
use Rattle.std.specs.Int.{w64, from_le_bytes, to_le_bytes}
use Rattle.std.proofs.Math.Nat.{div-div-eq-div-mul}
use Rattle.palindromes.specs.Word.{Word}
use Rattle.palindromes.specs.Marks.{from_bytes, low_bytes}

-- the number that eight bytes hold
pub held : (w : Word) → length w ≡ 8 → from_le_bytes w64 w ≡ from_bytes w
unfolding from_bytes
held (a ∷ b ∷ c ∷ d ∷ e ∷ f ∷ g ∷ h ∷ []) l = omega arith
held [] l = absurd (omega arith)
held (a ∷ []) l = absurd (omega arith)
held (a ∷ b ∷ []) l = absurd (omega arith)
held (a ∷ b ∷ c ∷ []) l = absurd (omega arith)
held (a ∷ b ∷ c ∷ d ∷ []) l = absurd (omega arith)
held (a ∷ b ∷ c ∷ d ∷ e ∷ []) l = absurd (omega arith)
held (a ∷ b ∷ c ∷ d ∷ e ∷ f ∷ []) l = absurd (omega arith)
held (a ∷ b ∷ c ∷ d ∷ e ∷ f ∷ g ∷ []) l = absurd (omega arith)
held (a ∷ b ∷ c ∷ d ∷ e ∷ f ∷ g ∷ h ∷ i ∷ w) l = absurd (omega arith)

-- the eight bytes of a number
pub written : (n : ℕ) → to_le_bytes w64 n ≡ low_bytes 8 n
unfolding low_bytes
written n = simp div-div-eq-div-mul

-- they stand in the sheet, and what is around them stays
pub stored : (l w : Word) (at n : ℕ) → at + 8 ≤ length l → w ≡ to_le_bytes w64 n → put_mid at (at + 8 - at) l w ≡ sets l at (low_bytes 8 n)
unfolding low_bytes
stored l w at n h e =
    let k : at + 8 - at ≡ 8 = omega arith in
    let f : w ≡ low_bytes 8 n = e ∙ written n in
    rw (k, f, drop-drop 8 at l) (sym (append_assoc (take at l) (low_bytes 8 n) (drop (at + 8) l)) ∙ sym (sets-eq (low_bytes 8 n) l at h))
