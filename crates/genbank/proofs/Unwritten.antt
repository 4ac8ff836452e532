-- What a writer has still to write (`Unwritten`): the buffer m, with the rest of a word stored from the place i on, is the buffer l with the whole word stored from `at` on. It goes on
-- with the next part of the rest, and when nothing is left the word is written.
-- Rests on the laws of bytes stored one after the other (`decimal`). Assumes nothing.
use Prim.Native.Nat.{ℕ, ◌+◌, ◌≤◌}
use native.Mathlib.Omega.{arith}
use native.Mathlib.Nat.{add-zero}
use mathlib.Core.Path.{◌≡◌, refl, sym, ap, ◌∙◌}
use mathlib.Core.List.{[], ◌++◌}
use lib.ListN.{length, length-append}
use lib.Seq.{sets, length-sets}
use Rattle.palindromes.specs.Word.{Word}
use Rattle.decimal.proofs.Stores.{sets-append}

pub record Unwritten (l : Word) (at : ℕ) (whole m : Word) (i : ℕ) (rest : Word) : Type 0 where
  pub stored : sets m i rest ≡ sets l at whole
  pub place : i + length rest ≡ at + length whole
  pub same : length m ≡ length l

-- at first all of it is left
pub all_left : (l : Word) (at : ℕ) (whole : Word) → Unwritten l at whole l at whole
all_left l at whole = record { stored = refl; place = refl; same = refl }

-- the rest may be spelt otherwise
pub left_as : {l : Word} {at : ℕ} {whole m : Word} {i : ℕ} {rest rest' : Word} → rest ≡ rest' → Unwritten l at whole m i rest → Unwritten l at whole m i rest'
left_as {l} {at} {whole} {m} {i} e h = rw e at h

-- the next part is written
pub left-next : {l : Word} {at : ℕ} {whole m : Word} {i : ℕ} (u rest : Word) {n : Word} {j : ℕ} → Unwritten l at whole m i (u ++ rest) → n ≡ sets m i u → j ≡ i + length u → Unwritten l at whole n j rest
left-next {l} {at} {whole} {m} {i} u rest h e p =
    record {
      stored = rw (e, p) (sets-append m i u rest ∙ h.stored);
      place = omega (arith, p, h.place, length-append u rest);
      same = ap length e ∙ length-sets m i u ∙ h.same;
    }

-- nothing is left
pub none_left : {l : Word} {at : ℕ} {whole m : Word} {i : ℕ} → Unwritten l at whole m i [] → (m ≡ sets l at whole) × (i ≡ at + length whole)
none_left {i = i} h = (h.stored, sym (add-zero i) ∙ h.place)

-- while the whole has room, so has the rest
pub room-left : {l : Word} {at : ℕ} {whole m : Word} {i : ℕ} {rest : Word} → Unwritten l at whole m i rest → at + length whole ≤ length l → i + length rest ≤ length m
room-left h r = omega (arith, h.place, h.same)
