-- The laws of bits: once one is set it is set, and every other is what it was. And of windows.
-- Rests on the library's laws of `bit_or` and of powers of two. Assumes nothing.
use Prim.Native.Nat.{ℕ, zero, suc, ◌+◌, ◌-◌, ◌*◌, ◌/◌, ◌%◌, ◌^◌, ◌≤◌, ◌<◌}
use native.Mathlib.Omega.{arith}
use native.Mathlib.Nat.{one-mul, zero-div}
use native.Mathlib.Decide.{dec_lt, ℕ_discrete}
use mathlib.Core.Path.{◌≡◌, refl, sym, ap, ◌∙◌}
use mathlib.Core.Bool.{true, false}
use mathlib.Core.Logic.{◌≢◌}
use lib.Bits.{bit_or, or_shr, or_mod, or_zero_r, shifted_even}
use lib.Dec.{eqb, leb, ltb}
use lib.Pow.{pow-add, pow-lt, shl-shr, shr_lt, shl_exact}
use lib.ListN.{length, get_or, set, length-set}
use lib.Seq.{get_or-set_same, get_or-set_other}
use borrow.Author.Tests.{eq-eqb, leb-true, ltb-true, le-leb, lt-ltb}
use Rattle.palindromes.specs.Word.{Word}
use Rattle.palindromes.proofs.Tests.{both_true, both-are, not-true-false}
use Rattle.bitmap.specs.Bitmap.{bit_at, with_bit, in_window}

-- ---- one number

-- 2 to the power j has the one bit j
one_bit : (j : ℕ) → 2 ^ j / 2 ^ j % 2 ≡ 1
one_bit j = ap (λ (x : ℕ). x % 2) (ap (λ (x : ℕ). x / 2 ^ j) (sym (one-mul (2 ^ j))) ∙ shl-shr 1 j)

no-bit : (j i : ℕ) → i ≢ j → 2 ^ j / 2 ^ i % 2 ≡ 0
no-bit j i n = go (dec_lt i j)
  where
    go : Dec (i < j) → 2 ^ j / 2 ^ i % 2 ≡ 0
    go (yes h) =
        let e : j ≡ suc (j - i - 1) + i = omega arith in
        let f : 2 ^ j ≡ 2 ^ suc (j - i - 1) * 2 ^ i = ap (λ (x : ℕ). 2 ^ x) e ∙ pow-add 2 (suc (j - i - 1)) i in
        ap (λ (x : ℕ). x / 2 ^ i % 2) f ∙ ap (λ (x : ℕ). x % 2) (shl-shr (2 ^ suc (j - i - 1)) i)
        ∙ ap (λ (x : ℕ). x % 2) (sym (one-mul (2 ^ suc (j - i - 1)))) ∙ shifted_even 1 (j - i - 1)
    go (no h) =
        let z : 2 ^ j / 2 ^ i < 1 = shr_lt {n = 2 ^ j} 0 i (pow-lt (omega arith)) in
        let e : 2 ^ j / 2 ^ i ≡ 0 = omega arith in
        ap (λ (x : ℕ). x % 2) e

-- a bit of two numbers' `bit_or`
or-bit : (x y i : ℕ) → bit_or x y / 2 ^ i % 2 ≡ bit_or (x / 2 ^ i % 2) (y / 2 ^ i % 2)
or-bit x y i = ap (λ (z : ℕ). z % 2) (or_shr x y i) ∙ or_mod (x / 2 ^ i) (y / 2 ^ i) 1

or-one : (x : ℕ) → x < 2 → bit_or x 1 ≡ 1
or-one zero h = refl
or-one (suc zero) h = refl
or-one (suc (suc x)) h = absurd (omega arith)

set_here : (x j : ℕ) → bit_or x (2 ^ j) / 2 ^ j % 2 ≡ 1
set_here x j = or-bit x (2 ^ j) j ∙ ap (bit_or (x / 2 ^ j % 2)) (one_bit j) ∙ or-one (x / 2 ^ j % 2) (omega arith)

set-elsewhere : (x j i : ℕ) → i ≢ j → bit_or x (2 ^ j) / 2 ^ i % 2 ≡ x / 2 ^ i % 2
set-elsewhere x j i n = or-bit x (2 ^ j) i ∙ ap (bit_or (x / 2 ^ i % 2)) (no-bit j i n) ∙ or_zero_r (x / 2 ^ i % 2)

-- ---- a buffer

-- a bit that was set is set
pub bit-same : (bits : Word) (i : ℕ) → i < 8 * length bits → bit_at (with_bit bits i) i ≡ true
unfolding bit_at with_bit
bit-same bits i h =
    let x = bit_or (get_or bits (i / 8) 0) (2 ^ (i % 8)) in
    eq-eqb (get_or (set bits (i / 8) x) (i / 8) 0 / 2 ^ (i % 8) % 2) 1
    (ap (λ (y : ℕ). y / 2 ^ (i % 8) % 2) (get_or-set_same bits (i / 8) x 0 (omega arith)) ∙ set_here (get_or bits (i / 8) 0) (i % 8))

-- and every other is what it was
pub bit-other : (bits : Word) (i q : ℕ) → i < 8 * length bits → q ≢ i → bit_at (with_bit bits i) q ≡ bit_at bits q
unfolding bit_at with_bit
bit-other bits i q h n = ap (λ (y : ℕ). eqb y 1) (go (ℕ_discrete (q / 8) (i / 8)))
  where
    x : ℕ
    x = bit_or (get_or bits (i / 8) 0) (2 ^ (i % 8))

    go : Dec (q / 8 ≡ i / 8) → get_or (set bits (i / 8) x) (q / 8) 0 / 2 ^ (q % 8) % 2 ≡ get_or bits (q / 8) 0 / 2 ^ (q % 8) % 2
    go (yes e) =
        rw e
        (ap (λ (y : ℕ). y / 2 ^ (q % 8) % 2) (get_or-set_same bits (i / 8) x 0 (omega arith)) ∙ set-elsewhere (get_or bits (i / 8) 0) (i % 8) (q % 8) λ f. n (omega arith))
    go (no k) = ap (λ (y : ℕ). y / 2 ^ (q % 8) % 2) (get_or-set_other bits (i / 8) (q / 8) x 0 k)

-- the buffer keeps its length
pub with-length : (bits : Word) (i : ℕ) → length (with_bit bits i) ≡ length bits
unfolding with_bit
with-length bits i = length-set bits (i / 8) (bit_or (get_or bits (i / 8) 0) (2 ^ (i % 8)))

-- in a byte of noughts no bit is set
pub bit-none : (bits : Word) (i : ℕ) → get_or bits (i / 8) 0 ≡ 0 → bit_at bits i ≡ false
unfolding bit_at
bit-none bits i h = ap (λ (x : ℕ). eqb (x / 2 ^ (i % 8) % 2) 1) h ∙ ap (λ (x : ℕ). eqb (x % 2) 1) (zero-div (2 ^ (i % 8)))

-- as a byte is asked for its bit
pub bit_is : (bits : Word) (i : ℕ) → get_or bits (i / 8) 0 / 2 ^ (i % 8) % 2 ≢ 0 → bit_at bits i ≡ true
unfolding bit_at
bit_is bits i h = eq-eqb (get_or bits (i / 8) 0 / 2 ^ (i % 8) % 2) 1 (omega arith)

pub bit_not : (bits : Word) (i : ℕ) → get_or bits (i / 8) 0 / 2 ^ (i % 8) % 2 ≡ 0 → bit_at bits i ≡ false
unfolding bit_at
bit_not bits i h = ap (λ (x : ℕ). eqb x 1) h

-- and is given it
pub bit-given : (bits : Word) (i : ℕ) → set bits (i / 8) (bit_or (get_or bits (i / 8) 0) (1 * 2 ^ (i % 8) % 256)) ≡ with_bit bits i
unfolding with_bit
bit-given bits i = ap (λ (x : ℕ). set bits (i / 8) (bit_or (get_or bits (i / 8) 0) x)) (shl_exact {a = 1} 1 (i % 8) 8 (omega arith) (omega arith) ∙ one-mul (2 ^ (i % 8)))

-- ---- a window

module _ (from i : ℕ) (bits : Word) where
  pub window-true : in_window from i bits ≡ true → (from ≤ i) × (i < from + 8 * length bits)
  unfolding in_window
  window-true h =
      let both = both_true (leb from i) (ltb i (from + 8 * length bits)) h in
      (leb-true from i both.0, ltb-true i (from + 8 * length bits) both.1)

  pub window-is : from ≤ i → i < from + 8 * length bits → in_window from i bits ≡ true
  unfolding in_window
  window-is h k = both-are (leb from i) (ltb i (from + 8 * length bits)) (le-leb from i h) (lt-ltb i (from + 8 * length bits) k)

  pub window-not : (from ≤ i → i < from + 8 * length bits → ⊥) → in_window from i bits ≡ false
  window-not n = not-true-false (in_window from i bits) λ t. n (window-true t).0 (window-true t).1
