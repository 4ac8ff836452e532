-- Bytes stored one after the other: two runs of stores that meet are one run of both words, the bytes of a word may be stored from the last on, and
-- a word stored at the front stands there.
-- Rests on the library's laws of one store. Assumes nothing.
use Prim.Native.Nat.{ℕ, suc, ◌+◌, ◌≤◌}
use native.Mathlib.Omega.{arith}
use native.Mathlib.Nat.{add-zero, add-suc, suc-add}
use mathlib.Core.Path.{◌≡◌, refl, sym, ap, ◌∙◌}
use mathlib.Core.List.{[], ◌∷◌, ◌++◌}
use lib.ListN.{length, set, take, drop}
use lib.Seq.{sets, sets-eq, set_comm, take-append_seam}
use Rattle.palindromes.specs.Word.{Word}

-- a word stored behind a word is both stored at once
pub sets-append : (l : Word) (i : ℕ) (u v : Word) → sets (sets l i u) (i + length u) v ≡ sets l i (u ++ v)
sets-append l i [] v = ap (λ (k : ℕ). sets l k v) (add-zero i)
sets-append l i (x ∷ u) v = ap (λ (k : ℕ). sets (sets (set l i x) (suc i) u) k v) (add-suc i (length u) ∙ sym (suc-add i (length u))) ∙ sets-append (set l i x) (suc i) u v

-- a byte stored behind a word may be stored first
sets-later : (l : Word) (i : ℕ) (u : Word) (j b : ℕ) → i + length u ≤ j → sets (set l j b) i u ≡ set (sets l i u) j b
sets-later l i [] j b h = refl
sets-later l i (x ∷ u) j b h =
    ap (λ (r : Word). sets r (suc i) u) (set_comm l j i b x (λ e. omega arith)) ∙ sets-later (set l i x) (suc i) u j b (omega arith)

-- so a word may be stored from its last byte on
pub sets_last : (l : Word) (i : ℕ) (u : Word) (b : ℕ) → sets (set l (i + length u) b) i u ≡ sets l i (u ++ (b ∷ []))
sets_last l i u b = sets-later l i u (i + length u) b (omega arith) ∙ sets-append l i u (b ∷ [])

-- a word stored at the front stands there
pub stored-front : (l u : Word) → length u ≤ length l → take (length u) (sets l 0 u) ≡ u
stored-front l u h = ap (take (length u)) (sets-eq u l 0 (omega (arith, h))) ∙ take-append_seam u (drop (0 + length u) l)
