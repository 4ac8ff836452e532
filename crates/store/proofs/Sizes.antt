-- What the header of a store tells: how many letters stand and which rows may be used.
-- Assumes nothing.
use Prim.Native.Nat.{ℕ, ◌+◌, ◌<◌}
use native.Mathlib.Omega.{arith}
use mathlib.Core.Path.{◌≡◌}
use mathlib.Core.Bool.{true, ◌&&◌}
use mathlib.Core.Logic.{⊎_elim}
use lib.Dec.{ltb}
use lib.ListN.{length, drop, length-drop}
use lib.Seq.{length-take-le}
use borrow.Author.Tests.{ltb-true}
use Rattle.palindromes.specs.Word.{Word}
use Rattle.palindromes.specs.Refusal.{store_size}
use Rattle.palindromes.proofs.Tests.{both_true}
use Rattle.palindromes.proofs.Lists.{either_true}
use Rattle.store.specs.Layout.{capacity_in, size_in, count_in, rank_in, used_in, letters_at, letters_in}
use Rattle.store.specs.Good.{Sized}

-- as many letters stand as the store says
pub letters-length : {b : Word} → Sized b → length (letters_in b) ≡ size_in b
unfolding letters_in store_size
letters-length {b} h = length-take-le (size_in b) (drop (letters_at (capacity_in b)) b) (rw length-drop (omega (arith, h.long-enough, h.letters-fit)))

-- no number over capacity + 1 is a used row
pub used-below : (b : Word) (r : ℕ) → used_in b r ≡ true → r < capacity_in b + 2
unfolding used_in
used-below b r h =
    ⊎_elim (λ e. omega (arith, ltb-true r 2 e))
    (λ e. ltb-true r (capacity_in b + 2) (both_true (ltb r (capacity_in b + 2)) (ltb (rank_in b r) (count_in b)) e).0)
    (either_true (ltb r 2) (ltb r (capacity_in b + 2) && ltb (rank_in b r) (count_in b)) h)
