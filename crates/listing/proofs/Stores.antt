-- Runs of stores: what is stored over later need not have been stored, a word stored behind another makes one run with it, and noughts are noughts.
-- Rests on the library's laws of one store and on `Parts` of store. Assumes nothing.
use Prim.Native.Nat.{ℕ, suc, ◌+◌, ◌/◌, ◌%◌, ◌^◌, ◌≤◌, ◌<◌}
use native.Mathlib.Omega.{arith}
use native.Mathlib.Nat.{zero-add}
use native.Mathlib.Decide.{dec_lt}
use mathlib.Core.Path.{◌≡◌, refl, ap, ◌∙◌}
use mathlib.Core.List.{[], ◌∷◌, ◌++◌}
use lib.Bits.{bit_or}
use lib.ListN.{length, get_or, set, drop, replicate, length-replicate, get_or-replicate, get_or-append}
use lib.Seq.{sets, sets-eq, set-set, set_comm}
use Rattle.palindromes.specs.Word.{Word}
use Rattle.bitmap.specs.Bitmap.{with_bit}
use Rattle.store.proofs.Parts.{sets-append}

-- an element that is stored over later need not have been stored
sets_over : (l : Word) (i x at : ℕ) (w : Word) → at ≤ i → i < at + length w → sets (set l i x) at w ≡ sets l at w
sets_over l i x at [] a h = absurd (omega arith)
sets_over l i x at (y ∷ w) a h = go (dec_lt at i) λ k. sets_over (set l at y) i x (suc at) w k (omega arith)
  where
    go : Dec (at < i) → (at < i → sets (set (set l at y) i x) (suc at) w ≡ sets (set l at y) (suc at) w) → sets (set (set l i x) at y) (suc at) w ≡ sets (set l at y) (suc at) w
    go (yes k) ih = ap (λ (m : Word). sets m (suc at) w) (set_comm l i at x y λ e. omega arith) ∙ ih k
    go (no k) ih = let e : i ≡ at = omega arith in ap (λ (m : Word). sets m (suc at) w) (rw e (set-set l at x y))

-- nor need a bit
pub bit-over : (l : Word) (i : ℕ) (w : Word) → i / 8 < length w → sets (with_bit l i) 0 w ≡ sets l 0 w
unfolding with_bit
bit-over l i w h = sets_over l (i / 8) (bit_or (get_or l (i / 8) 0) (2 ^ (i % 8))) 0 w (omega arith) (omega arith)

-- nor need a word
pub sets-again : (l : Word) (i : ℕ) (v : Word) (at : ℕ) (w : Word) → at ≤ i → i + length v ≤ at + length w → sets (sets l i v) at w ≡ sets l at w
sets-again l i [] at w a h = refl
sets-again l i (x ∷ v) at w a h = sets-again (set l i x) (suc i) v at w (omega arith) (omega arith) ∙ sets_over l i x at w a (omega arith)

-- noughts stored at the front are noughts
pub noughts : (l : Word) (n i : ℕ) → n ≤ length l → i < n → get_or (sets l 0 (replicate n 0)) i 0 ≡ 0
noughts l n i h k =
    let z : Word = replicate n 0 in
    let e : length z ≡ n = length-replicate n 0 in
    cc (sets-eq z l 0 (omega arith), get_or-append z (drop (0 + length z) l) 0 i (omega arith), get_or-replicate {A = ℕ} n i 0 0 k)

-- a word stored behind what stands at the front
pub written_on : (l m n u v w : Word) (at : ℕ) → m ≡ sets l 0 u → at ≡ length u → n ≡ sets m at v → w ≡ u ++ v → n ≡ sets l 0 w
written_on l m n u v w at e f h i = cc (sets-append l 0 u v, zero-add (length u))
