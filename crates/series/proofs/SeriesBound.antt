-- A bound on the steps of the walks over series, by the letters alone: 001 proposition 4.2, O(n log n). At each right end there are fewer than K + 1
-- series if the word and two letters are shorter than a Fibonacci number (`series-most`), or fewer than 2 m - 2 if they are shorter than a power
-- of two (`series-log`); so a record of at most 1,024 letters has at most 13 at each right end (`series-few`, `steps-few`). Rests on `SeriesCount`.
use Prim.Native.Nat.{ℕ, zero, suc, ◌+◌, ◌-◌, ◌*◌, ◌^◌, ◌≤◌, ◌<◌}
use native.Mathlib.Omega.{arith}
use native.Mathlib.Decide.{dec_le}
use mathlib.Core.Path.{◌≡◌, refl, ap, ◌∙◌}
use mathlib.Core.List.{List, [], ◌∷◌, ◌++◌, map, map-append}
use lib.ListN.{length, length-append}
use Rattle.palindromes.specs.Word.{Word}
use Rattle.palindromes.specs.Occurrences.{sum}
use Rattle.palindromes.specs.Record.{prefixes}
use Rattle.palindromes.proofs.Words.{snoc-induction}
use Rattle.palindromes.proofs.Longest.{prefixes-snoc}
use Rattle.series.specs.Series.{series, series_steps, most_series, fib}
use Rattle.series.proofs.SeriesCount.{fib-up, fib-step, fib-rises, series-bound, series-bound-own}

-- the Fibonacci numbers double every two
fib-double : (m : ℕ) → 2 ^ m ≤ fib (2 * m + 1)
unfolding fib
fib-double zero = omega arith
fib-double (suc m) =
    let e : 2 * suc m + 1 ≡ suc (suc (2 * m + 1)) = omega arith in
    omega (arith, fib-double m, fib-step (2 * m + 1), fib-rises (2 * m + 1), ap fib e)

-- and are not below the numbers
fib-above : (n : ℕ) → n + 1 ≤ fib (n + 2)
unfolding fib
fib-above zero = omega arith
fib-above (suc n) =
    let e : suc n + 2 ≡ suc (suc (n + 1)) = omega arith in
    let f : suc (n + 1) ≡ n + 2 = omega arith in
    omega (arith, fib-above n, fib-step (n + 1), ap fib e, ap fib f, fib-up 1 (n + 1) (omega arith))

-- ---- at one right end

-- for any rule there are at most as many series as letters
pub series-length : (σ : ℕ → ℕ) (s : Word) → series σ s ≤ length s
series-length σ s = omega (arith, series-bound σ s, fib-above (series σ s))

module _ (σ : ℕ → ℕ) (own : (c : ℕ) → σ c ≡ c) where
  -- more series than K take as many letters as the next Fibonacci number less two
  pub series-most : (K : ℕ) (s : Word) → length s + 2 < fib (K + 4) → series σ s ≤ K
  series-most K s l = go (dec_le (series σ s) K)
    where
      go : Dec (series σ s ≤ K) → series σ s ≤ K
      go (yes k) = k
      go (no k) = absurd (omega (arith, series-bound-own σ own s, fib-up (K + 4) (series σ s + 3) (omega arith)))

  -- at most twice the logarithm
  pub series-log : (m : ℕ) (s : Word) → length s + 2 < 2 ^ m → series σ s + 3 ≤ 2 * m
  series-log m s l = go (dec_le (series σ s + 3) (2 * m))
    where
      go : Dec (series σ s + 3 ≤ 2 * m) → series σ s + 3 ≤ 2 * m
      go (yes k) = k
      go (no k) = absurd (omega (arith, series-bound-own σ own s, fib-double m, fib-up (2 * m + 1) (series σ s + 3) (omega arith)))

  -- a record holds 1,024 letters at most
  pub series-few : (s : Word) → length s ≤ 1024 → series σ s ≤ most_series
  unfolding fib
  series-few s l = series-most most_series s (omega arith)

-- ---- at all right ends

sum-snoc : (l : List ℕ) (k : ℕ) → sum (l ++ (k ∷ [])) ≡ sum l + k
unfolding sum
sum-snoc [] k = omega arith
sum-snoc (j ∷ l) k = omega (arith, sum-snoc l k)

module _ (σ : ℕ → ℕ) where
  pub steps-none : series_steps σ [] ≡ 0
  unfolding series_steps prefixes sum
  steps-none = refl

  -- a letter more brings the series of its right end
  pub steps-snoc : (s : Word) (c : ℕ) → series_steps σ (s ++ (c ∷ [])) ≡ series_steps σ s + series σ (s ++ (c ∷ []))
  unfolding series_steps
  steps-snoc s c =
      ap (λ (l : List Word). sum (map (series σ) l)) (prefixes-snoc s c) ∙ ap sum (map-append (series σ) (prefixes s) ((s ++ (c ∷ [])) ∷ []))
      ∙ sum-snoc (map (series σ) (prefixes s)) (series σ (s ++ (c ∷ [])))

  -- if no right end has more than K, all have at most K for each letter
  pub steps-each : (K n : ℕ) → ((p : Word) → length p ≤ n → series σ p ≤ K) → (s : Word) → length s ≤ n → series_steps σ s ≤ length s * K
  steps-each K n h = snoc-induction (λ s. length s ≤ n → series_steps σ s ≤ length s * K) (λ l. omega (arith, steps-none)) step
    where
      step : (s : Word) (c : ℕ) → (length s ≤ n → series_steps σ s ≤ length s * K) → length (s ++ (c ∷ [])) ≤ n
          → series_steps σ (s ++ (c ∷ [])) ≤ length (s ++ (c ∷ [])) * K
      step s c ih l =
          let e : length (s ++ (c ∷ [])) ≡ length s + 1 = length-append s (c ∷ []) in
          rw e (omega (arith, ih (omega arith), h (s ++ (c ∷ [])) l, steps-snoc s c))

  module _ (own : (c : ℕ) → σ c ≡ c) where
    -- 001 proposition 4.2: at most 2 m - 3 for each letter, if the word and two letters are shorter than the m-th power of two
    pub steps-log : (m : ℕ) (s : Word) → length s + 2 < 2 ^ m → series_steps σ s ≤ length s * (2 * m - 3)
    steps-log m s l = steps-each (2 * m - 3) (length s) (λ p q. omega (arith, series-log σ own m p (omega arith))) s (omega arith)

    -- for every record: at most 13 for each letter
    pub steps-few : (s : Word) → length s ≤ 1024 → series_steps σ s ≤ length s * most_series
    steps-few s l = steps-each most_series 1024 (λ p q. series-few σ own p q) s l
