-- How long an identifier is.
-- Rests on the definition. Assumes nothing.
use Prim.Native.Nat.{◌≤◌}
use mathlib.Core.Path.{◌≡◌}
use mathlib.Core.Bool.{true, ◌&&◌}
use lib.Dec.{leb}
use lib.ListN.{length}
use borrow.Author.Tests.{leb-true}
use Rattle.palindromes.specs.Word.{Word}
use Rattle.palindromes.specs.Bed.{all_identifier_bytes, is_identifier}
use Rattle.palindromes.proofs.Tests.{both_true}

-- an identifier has at most 32 bytes
pub identifier-length : (w : Word) → is_identifier w ≡ true → length w ≤ 32
unfolding is_identifier
identifier-length w h =
    let f = (both_true (leb 1 (length w) && leb (length w) 32) (all_identifier_bytes w) h).0 in
    leb-true (length w) 32 (both_true (leb 1 (length w)) (leb (length w) 32) f).1
