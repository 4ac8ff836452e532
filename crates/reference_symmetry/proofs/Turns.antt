-- One letter more, at the code's `i + 1`. Rests on the laws of `lib.Seq`.
use Prim.Native.Nat.{ℕ, ◌+◌, ◌<◌}
use native.Mathlib.Numerals.{add-one}
use mathlib.Core.Path.{◌≡◌}
use mathlib.Core.List.{List, [], ◌∷◌, ◌++◌}
use lib.ListN.{length, get_or, take, drop}
use lib.Seq.{take-suc, drop-cons}

-- the first of the letters that are left
pub drop-one : (w : List ℕ) (i : ℕ) → i < length w → drop i w ≡ get_or w i 0 ∷ drop (i + 1) w
drop-one w i h = rw (add-one, drop-cons w i 0)

-- the last of the letters that are taken
pub take-one : (w : List ℕ) (i : ℕ) → i < length w → take (i + 1) w ≡ take i w ++ (get_or w i 0 ∷ [])
take-one w i h = rw (add-one, take-suc w i 0)
