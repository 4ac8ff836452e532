-- The longest palindrome of the letters read so far: its length and its leftmost place, from those of one letter less and from the longest palindrome that ends what is read now.
-- Rests on `prefix-longest-length` and `prefix-longest-place` of palindromes.
use Prim.Native.Nat.{ℕ, suc, ◌+◌, ◌-◌, ◌≤◌, ◌<◌, max}
use native.Mathlib.Omega.{arith}
use native.Mathlib.Numerals.{add-one}
use mathlib.Core.Path.{◌≡◌, sym}
use mathlib.Core.Logic.{◌⊎◌, ⊎_elim}
use lib.ListN.{length, take}
use lib.Seq.{take-length}
use borrow.Author.Tests.{lt-ltb, le-ltb}
use Rattle.palindromes.specs.Word.{Word}
use Rattle.palindromes.specs.Record.{longest_length, longest_place, longest_suffix}
use Rattle.palindromes.proofs.Answers.{longest-length-empty, longest-place-empty, prefix-longest-length, prefix-longest-place}

-- the answer for the first k letters of s
pub record Best (σ : ℕ → ℕ) (s : Word) (k best place : ℕ) : Type 0 where
  pub best-is : best ≡ longest_length σ (take k s)
  pub place_is : place ≡ longest_place σ (take k s)

module _ (σ : ℕ → ℕ) (s : Word) where
  -- before the first letter
  pub best-first : Best σ s 0 0 0
  best-first = record { best-is = sym (longest-length-empty σ); place_is = sym (longest-place-empty σ) }

  -- after the last
  pub best-last : (k best place : ℕ) → k ≡ length s → Best σ s k best place → (best ≡ longest_length σ s) × (place ≡ longest_place σ s)
  best-last k best place e a = let f : take k s ≡ s = rw e (take-length s) in (cc a.best-is, cc a.place_is)

  module _ (k best place m : ℕ) (l : k < length s) (a : Best σ s k best place) (e : m ≡ length (longest_suffix σ (take (k + 1) s))) where
    -- the palindrome that ends what is read now is longer than any before, or it is not
    pub best-next : (new at : ℕ) → ((best < m) × (new ≡ m) × (at ≡ k + 1 - m)) ⊎ ((m ≤ best) × (new ≡ best) × (at ≡ place)) → Best σ s (k + 1) new at
    best-next new at h = record { best-is = rw add-one (⊎_elim (λ w. omega (arith, long)) (λ w. omega (arith, long)) h); place_is = ⊎_elim longer as_long h }
      where
        here : m ≡ length (longest_suffix σ (take (suc k) s))
        here = rw add-one at e

        long : longest_length σ (take (suc k) s) ≡ max best m
        long = omega (arith, a.best-is, here, prefix-longest-length σ s k l)

        longer : (best < m) × (new ≡ m) × (at ≡ k + 1 - m) → at ≡ longest_place σ (take (k + 1) s)
        longer w = cc (w.2, add-one k, here, lt-ltb best m w.0, a.best-is, prefix-longest-place σ s k l)

        as_long : (m ≤ best) × (new ≡ best) × (at ≡ place) → at ≡ longest_place σ (take (k + 1) s)
        as_long w = cc (w.2, add-one k, here, le-ltb best m w.0, a.best-is, a.place_is, prefix-longest-place σ s k l)
