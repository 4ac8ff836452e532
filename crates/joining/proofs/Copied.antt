-- What the library's `copy_within` leaves, as a part that is written in one go.
use Rattle.std.proofs.Common.{◌≡◌, ℕ, ◌+◌, ◌≤◌, length, take, drop, arith}
use Rattle.std.proofs.lemmas.List.Edits.{sets, sets-eq}
use Rattle.palindromes.specs.Word.{Word}
use Rattle.store.proofs.Ends.{part_length}
use lib.Seq.{paste}

-- the n letters from the place `from` on, copied to the place `to`
pub copied : (l : Word) (from to n m : ℕ) → m ≡ n → from + n ≤ length l → to + n ≤ length l → paste l to (drop from l) m ≡ sets l to (take n (drop from l))
copied l from to n m e h k =
    let size = part_length l from n h in
    cc (e, size, sets-eq (take n (drop from l)) l to (omega arith))
