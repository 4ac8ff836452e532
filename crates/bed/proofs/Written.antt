-- Bytes written from a place on: a part of the buffer that is overwritten, and that a writer that stands behind a word goes on with the next
-- (`Written`).
-- Rests on the laws of bytes stored one after the other (`decimal`). Assumes nothing.
use Rattle.std.proofs.Common.{◌≡◌, ℕ, ◌+◌, ◌≤◌, ◌∷◌, ◌++◌, ap, ◌∙◌, sym, arith, add-one, length, set, length-append, append_assoc}
use Rattle.std.proofs.Math.Seq.{drop-drop, length-sets}
use Rattle.std.proofs.lemmas.List.Edits.{sets, sets-eq}
use borrow.Rule.Slice.PartMut.{put_mid}
use Rattle.palindromes.specs.Word.{Word}
use Rattle.decimal.proofs.Stores.{sets-append}

-- a part of the buffer that is overwritten by as many bytes is a word stored there
pub sets-part : (l : Word) (at k : ℕ) (u : Word) → at + length u ≤ length l → k ≡ length u → put_mid at k l u ≡ sets l at u
sets-part l at k u h e = rw (e, drop-drop (length u) at l, ← append_assoc) (sym (sets-eq u l at h))

-- what a writer has when it stands behind a word: the buffer m is l with the word u stored from a place on, and i is the place behind it
pub record Written (l : Word) (at : ℕ) (u m : Word) (i : ℕ) : Type 0 where
  pub stored : m ≡ sets l at u
  pub place : i ≡ at + length u

-- it goes on with a byte and a word
pub written-more : {l : Word} {at : ℕ} {u m : Word} {i : ℕ} (b : ℕ) (w : Word) {n : Word} {j : ℕ} → Written l at u m i
    → n ≡ sets (set m i b) (i + 1) w → j ≡ i + 1 + length w → Written l at (u ++ (b ∷ w)) n j
written-more {l} {at} {u} {m} {i} b w {n} {j} h e p = record { stored = e ∙ more; place = omega (arith, h.place, length-append u (b ∷ w)) }
  where
    more : sets (set m i b) (i + 1) w ≡ sets l at (u ++ (b ∷ w))
    more = rw (add-one i, h.stored, h.place) (sets-append l at u (b ∷ w))

-- and leaves the buffer as long as it was
pub written-length : {l : Word} {at : ℕ} {u m : Word} {i : ℕ} → Written l at u m i → length m ≡ length l
written-length {l} {at} {u} h = ap length h.stored ∙ length-sets l at u
