-- How many series the palindromes that end a word make: 001 lemma 4.6. A palindrome that is not of one series with its link is longer than its link
-- and the link of its link together (`apart`), by two letters where every letter is its own partner: so the first palindromes of the series grow as
-- the Fibonacci numbers do (`series-bound`), and the palindromes that begin the Fibonacci word have as many. Rests on lemma 4.3,
-- `overlap-symmetric` of `Leading`, and on `SuffixPalindromes`.
use Prim.Native.Nat.{ℕ, zero, suc, ◌+◌, ◌-◌, ◌≤◌, ◌<◌}
use native.Mathlib.Omega.{arith}
use native.Mathlib.Decide.{dec_le, ℕ_discrete}
use mathlib.Core.Path.{◌≡◌, refl, sym, ap, ◌∙◌}
use mathlib.Core.Bool.{Bool, cond}
use mathlib.Core.Logic.{⊎_elim}
use mathlib.Core.List.{List, [], ◌∷◌, ◌++◌, map, append_assoc}
use lib.Dec.{eqb}
use lib.ListN.{length, length-append}
use borrow.Author.Tests.{eqb-true, eq-eqb}
use Rattle.palindromes.specs.Word.{Word}
use Rattle.palindromes.specs.Palindrome.{mirror, Symmetric}
use Rattle.palindromes.specs.Place.{Suffix, Prefix}
use Rattle.palindromes.specs.Record.{suffix_palindromes, longest_suffix}
use Rattle.palindromes.proofs.Words.{levi, no-letters, suffix_refl, suffix_trans, suffix-length, suffix-shorter, suffix-cons, suffix-of-cons, prefix-append}
use Rattle.palindromes.proofs.Mirror.{mirror-empty, mirror-append, mirror-length, symmetric-suffix}
use Rattle.palindromes.proofs.Longest.{longest-suffix}
use Rattle.palindromes.proofs.Tests.{not-true-false}
use Rattle.palindromes.proofs.Growth.{letter-symmetric}
use Rattle.palindromes.proofs.SuffixPalindromes.{ending-none, ending-longest, ending-link}
use Rattle.series.specs.Series.{differences, runs, series, fib, linked, Same}
use Rattle.series.proofs.Leading.{same-cut, overlap-symmetric}

-- ---- the Fibonacci numbers

pub fib-step : (n : ℕ) → fib (suc (suc n)) ≡ fib (suc n) + fib n
unfolding fib
fib-step n = refl

pub fib-rises : (n : ℕ) → fib n ≤ fib (suc n)
unfolding fib
fib-rises zero = omega arith
fib-rises (suc n) = omega arith

fib-more : (n k : ℕ) → fib n ≤ fib (k + n)
fib-more n zero = omega (arith, ap fib (zero-plus n))
  where
    zero-plus : (n : ℕ) → 0 + n ≡ n
    zero-plus n = omega arith
fib-more n (suc k) = omega (arith, fib-more n k, fib-rises (k + n), ap fib (one-plus n k))
  where
    one-plus : (n k : ℕ) → suc k + n ≡ suc (k + n)
    one-plus n k = omega arith

pub fib-up : (n m : ℕ) → n ≤ m → fib n ≤ fib m
fib-up n m l = let e : m - n + n ≡ m = omega arith in rw e at (fib-more n (m - n))

fib-small : (g : ℕ) → g ≤ 1 → fib (0 + 2 + g) ≤ 0 + 1 + g
unfolding fib
fib-small zero l = omega arith
fib-small (suc zero) l = omega arith
fib-small (suc (suc g)) l = absurd (omega arith)

fib-one : (g : ℕ) → g ≤ 1 → fib (1 + g) ≤ 1
unfolding fib
fib-one zero l = omega arith
fib-one (suc zero) l = omega arith
fib-one (suc (suc g)) l = absurd (omega arith)

-- ---- runs of equal numbers

runs_same : (d e : ℕ) (ds : List ℕ) → d ≡ e → runs (d ∷ e ∷ ds) ≡ runs (e ∷ ds)
unfolding runs
runs_same d e ds h = ap (λ (b : Bool). cond b (runs (e ∷ ds)) (suc (runs (e ∷ ds)))) (eq-eqb d e h)

runs_other : (d e : ℕ) (ds : List ℕ) → (d ≡ e → ⊥) → runs (d ∷ e ∷ ds) ≡ suc (runs (e ∷ ds))
unfolding runs
runs_other d e ds h = ap (λ (b : Bool). cond b (runs (e ∷ ds)) (suc (runs (e ∷ ds)))) (not-true-false (eqb d e) (λ t. h (eqb-true d e t)))

module _ (σ : ℕ → ℕ) where
  -- ---- the link of a word

  pub linked-symmetric : (w : Word) → Symmetric σ (linked σ w)
  unfolding linked
  linked-symmetric [] = mirror-empty σ
  linked-symmetric (x ∷ t) = (longest-suffix σ t).symmetric

  pub linked-suffix : (w : Word) → Suffix (linked σ w) w
  unfolding linked
  linked-suffix [] = suffix_refl
  linked-suffix (x ∷ t) = suffix-cons x (longest-suffix σ t).suffix

  pub linked-shorter : (w : Word) → 0 < length w → length (linked σ w) < length w
  unfolding linked
  linked-shorter [] n = absurd (omega arith)
  linked-shorter (x ∷ t) n = omega (arith, suffix-length (longest-suffix σ t).suffix)

  pub linked-most : (v w : Word) → Symmetric σ v → Suffix v w → length v < length w → Suffix v (linked σ w)
  unfolding linked
  linked-most v [] h a l = absurd (omega arith)
  linked-most v (x ∷ t) h a l = (longest-suffix σ t).most v h (⊎_elim (λ f. absurd (omega (arith, ap length f))) (λ k. k) (suffix-of-cons x a))

  -- ---- the number of series, by the link

  abbrev falls : Word → List ℕ
  falls w = differences (map length (suffix_palindromes σ w))

  falls-none : (w : Word) → length w ≤ 0 → falls w ≡ []
  unfolding differences
  falls-none w n = ap falls (no-letters w n) ∙ ap (λ (l : List Word). differences (map length l)) (ending-none σ)

  ends-first : (w : Word) → Symmetric σ w → 0 < length w → suffix_palindromes σ w ≡ w ∷ suffix_palindromes σ (linked σ w)
  unfolding linked
  ends-first [] h n = absurd (omega arith)
  ends-first (x ∷ t) h n = ending-link σ x t h

  falls-first : (w : Word) → Symmetric σ w → 0 < length w → falls w ≡ (length w - length (linked σ w)) ∷ falls (linked σ w)
  unfolding differences
  falls-first w h n = go (dec_le (length (linked σ w)) 0)
    where
      go : Dec (length (linked σ w) ≤ 0) → falls w ≡ (length w - length (linked σ w)) ∷ falls (linked σ w)
      go (yes k) =
          let z : length w - length (linked σ w) ≡ length w = omega arith in
          let e : suffix_palindromes σ (linked σ w) ≡ [] = ap (suffix_palindromes σ) (no-letters (linked σ w) k) ∙ ending-none σ in
          cc (ends-first w h n, e, falls-none (linked σ w) k)
      go (no k) = cc (ends-first w h n, ends-first (linked σ w) (linked-symmetric w) (omega arith))

  pub series-none : series σ [] ≡ 0
  unfolding series runs
  series-none = ap runs (falls-none [] (omega arith))

  pub series-longest : (s : Word) → series σ s ≡ series σ (longest_suffix σ s)
  unfolding series
  series-longest s = ap (λ (l : List Word). runs (differences (map length l))) (ending-longest σ s)

  module _ (w : Word) (h : Symmetric σ w) (n : 0 < length w) where
    -- a palindrome that is of one series with its link makes none of its own
    pub series-same : Same σ w → series σ w ≡ series σ (linked σ w)
    unfolding series
    series-same s =
        let u = linked σ w in
        let f = falls-first u (linked-symmetric w) (omega arith) in
        let l = linked-shorter w n in
        let m = linked-shorter u (omega arith) in
        let e : length w - length u ≡ length u - length (linked σ u) = omega arith in
        cc (falls-first w h n, f, runs_same (length w - length u) (length u - length (linked σ u)) (falls (linked σ u)) e)

    -- any other makes one
    pub series-other : (Same σ w → ⊥) → series σ w ≡ suc (series σ (linked σ w))
    unfolding series runs
    series-other s = go (dec_le (length (linked σ w)) 0)
      where
        go : Dec (length (linked σ w) ≤ 0) → runs (falls w) ≡ suc (runs (falls (linked σ w)))
        go (yes k) = cc (falls-first w h n, falls-none (linked σ w) k)
        go (no k) =
            let u = linked σ w in
            let l = linked-shorter w n in
            let m = linked-shorter u (omega arith) in
            let other = runs_other (length w - length u) (length u - length (linked σ u)) (falls (linked σ u)) (λ e. s (omega arith)) in
            cc (falls-first w h n, falls-first u (linked-symmetric w) (omega arith), other)

    series-step : series σ w ≤ suc (series σ (linked σ w))
    series-step = go (ℕ_discrete (length w + length (linked σ (linked σ w))) (length (linked σ w) + length (linked σ w)))
      where
        go : Dec (Same σ w) → series σ w ≤ suc (series σ (linked σ w))
        go (yes s) = omega (arith, series-same s)
        go (no s) = omega (arith, series-other s)

  -- ---- 001 lemma 4.6. The number g is 1 where every letter is its own partner, and 0 for any other rule

  module _ (g : ℕ) (overlap : (u w : Word) → Symmetric σ u → Prefix u w → Suffix u w → length w ≤ length u + length u + g → Symmetric σ w)
      (small : g ≤ 1) where
    -- a palindrome not longer than its link and the link of its link is of one series with its link
    close-same : (w : Word) → Symmetric σ w → 0 < length (linked σ w) → length w ≤ length (linked σ w) + length (linked σ (linked σ w)) + g
        → Same σ w
    close-same w h n l =
        let u = linked σ w in
        let z = linked σ u in
        let a = linked-suffix w in
        let c = linked-suffix u in
        let p = symmetric-suffix σ (linked-symmetric w) h a in
        let e = p.after in
        let le : length u + length e ≡ length w = sym (length-append u e) ∙ ap length p.whole in
        let la : length a.before + length u ≡ length w = sym (length-append a.before u) ∙ ap length a.whole in
        let lb : length c.before + length z ≡ length u = sym (length-append c.before z) ∙ ap length c.whole in
        let x = z ++ e in
        let lx : length x ≡ length z + length e = length-append z e in
        let whole : c.before ++ x ≡ w = sym (append_assoc c.before z e) ∙ ap (λ (v : Word). v ++ e) c.whole ∙ p.whole in
        let ends : Suffix x w = record { before = c.before; whole = whole } in
        let s₁ : Symmetric σ x = overlap z x (linked-symmetric u) (prefix-append z e) (suffix-shorter (suffix_trans c a) ends (omega arith)) (omega arith) in
        let m₁ = suffix-length (linked-most x w s₁ ends (omega (arith, linked-shorter u n))) in
        let r = levi a.before u u e (omega (arith, linked-shorter u n)) (a.whole ∙ sym p.whole) in
        let m = r.0 in
        let lm : length u ≡ length a.before + length m = ap length r.1 ∙ length-append a.before m in
        let f : mirror σ e ++ mirror σ m ≡ a.before ++ m = sym (mirror-append σ m e) ∙ ap (mirror σ) (sym r.2) ∙ linked-symmetric w ∙ r.1 in
        let s₂ : Symmetric σ m = (same-cut (mirror σ e) (mirror σ m) a.before m (omega (arith, mirror-length σ e)) f).1 in
        let q : Suffix m u = record { before = a.before; whole = sym r.1 } in
        let m₂ = suffix-length (linked-most m u s₂ q (omega (arith, linked-shorter w (omega (arith, suffix-length a))))) in
        omega arith

    pub apart : (w : Word) → Symmetric σ w → 0 < length (linked σ w) → (Same σ w → ⊥)
        → length (linked σ w) + length (linked σ (linked σ w)) + g < length w
    apart w h n s = go (dec_le (length w) (length (linked σ w) + length (linked σ (linked σ w)) + g))
      where
        go : Dec (length w ≤ length (linked σ w) + length (linked σ (linked σ w)) + g)
            → length (linked σ w) + length (linked σ (linked σ w)) + g < length w
        go (yes k) = absurd (s (close-same w h n k))
        go (no k) = omega arith

    -- so each series more takes a Fibonacci number more
    abbrev Bound : Word → Type 0
    Bound w = fib (series σ w + 2 + g) ≤ length w + 1 + g

    bound-none : (w : Word) → length w ≤ 0 → Bound w
    bound-none w l = rw (no-letters w l, series-none) (fib-small g small)

    module _ (w : Word) (h : Symmetric σ w) (n : 0 < length w) (shorter : (v : Word) → length v < length w → Symmetric σ v → Bound v) where
      abbrev u : Word
      u = linked σ w

      bound-same : Same σ w → Bound w
      bound-same s =
          omega (arith, linked-shorter w n, shorter u (linked-shorter w n) (linked-symmetric w), ap (λ (j : ℕ). fib (j + 2 + g)) (series-same w h n s))

      bound-other : (Same σ w → ⊥) → Bound w
      bound-other s = go (dec_le (length u) 0)
        where
          first : fib (series σ w + 2 + g) ≡ fib (series σ u + 2 + g) + fib (series σ u + 1 + g)
          first =
              let a : series σ w + 2 + g ≡ suc (suc (series σ u + 1 + g)) = omega (arith, series-other w h n s) in
              let b : suc (series σ u + 1 + g) ≡ series σ u + 2 + g = omega arith in
              ap fib a ∙ fib-step (series σ u + 1 + g) ∙ ap (λ (j : ℕ). fib j + fib (series σ u + 1 + g)) b

          go : Dec (length u ≤ 0) → Bound w
          go (yes k) =
              let e : series σ u ≡ 0 = ap (series σ) (no-letters u k) ∙ series-none in
              let a : fib (series σ u + 2 + g) ≡ fib (0 + 2 + g) = ap (λ (j : ℕ). fib (j + 2 + g)) e in
              let b : fib (series σ u + 1 + g) ≡ fib (1 + g) = ap fib (omega arith) in
              omega (arith, first, fib-small g small, fib-one g small)
          go (no k) =
              let z = linked σ u in
              let l = linked-shorter w n in
              let m = linked-shorter u (omega arith) in
              omega (
                arith,
                first,
                apart w h (omega arith) s,
                shorter u l (linked-symmetric w),
                shorter z (omega arith) (linked-symmetric u),
                fib-up (series σ u + 1 + g) (series σ z + 2 + g) (omega (arith, series-step u (linked-symmetric w) (omega arith))),
              )

      bound-step : Bound w
      bound-step = go (ℕ_discrete (length w + length (linked σ u)) (length u + length u))
        where
          go : Dec (Same σ w) → Bound w
          go (yes s) = bound-same s
          go (no s) = bound-other s

    bounded : (k : ℕ) (w : Word) → length w ≤ k → Symmetric σ w → Bound w
    bounded zero w l h = bound-none w l
    bounded (suc k) w l h = go (λ v m i. bounded k v (omega arith) i) (dec_le (length w) 0)
      where
        go : ((v : Word) → length v < length w → Symmetric σ v → Bound v) → Dec (length w ≤ 0) → Bound w
        go ih (yes z) = bound-none w z
        go ih (no z) = bound-step w h (omega arith) ih

    -- and a word has no more of them than the longest palindrome that ends it
    pub bound : (s : Word) → fib (series σ s + 2 + g) ≤ length s + 1 + g
    bound s =
        let a = longest-suffix σ s in
        omega (
          arith,
          bounded (length s) (longest_suffix σ s) (suffix-length a.suffix) a.symmetric,
          suffix-length a.suffix,
          ap (λ (j : ℕ). fib (j + 2 + g)) (series-longest s),
        )

  -- 001 lemma 4.6 for any rule
  pub series-bound : (s : Word) → fib (series σ s + 2) ≤ length s + 1
  series-bound s = omega (arith, bound 0 (λ u w h p q l. overlap-symmetric σ h p q (omega arith)) (omega arith) s, ap fib (two (series σ s)))
    where
      two : (n : ℕ) → n + 2 + 0 ≡ n + 2
      two n = omega arith

  -- where every letter is its own partner a palindrome may stand twice with a letter between
  module _ (own : (c : ℕ) → σ c ≡ c) where
    overlap-odd : (u w : Word) → Symmetric σ u → Prefix u w → Suffix u w → length w ≤ length u + length u + 1 → Symmetric σ w
    overlap-odd u w h p q l = go (dec_le (length w) (length u + length u))
      where
        middle : (m : Word) → length m ≡ 1 → Symmetric σ m
        middle [] e = absurd (omega arith)
        middle (c ∷ []) e = letter-symmetric σ c (own c)
        middle (c ∷ d ∷ m) e = absurd (omega arith)

        go : Dec (length w ≤ length u + length u) → Symmetric σ w
        go (yes k) = overlap-symmetric σ h p q k
        go (no k) =
            let a = q.before in
            let la : length a + length u ≡ length w = sym (length-append a u) ∙ ap length q.whole in
            let r = levi u p.after a u (omega arith) (p.whole ∙ sym q.whole) in
            let m = r.0 in
            let lm : length a ≡ length u + length m = ap length r.1 ∙ length-append u m in
            cc (middle m (omega arith), mirror-append σ u (m ++ u), mirror-append σ m u)

    -- 001 lemma 4.6 for a plain record: the palindromes that begin the Fibonacci word, of 1, 3, 6, 11, 19 letters, reach the bound
    pub series-bound-own : (s : Word) → fib (series σ s + 3) ≤ length s + 2
    series-bound-own s = omega (arith, bound 1 overlap-odd (omega arith) s, ap fib (three (series σ s)))
      where
        three : (n : ℕ) → n + 2 + 1 ≡ n + 3
        three n = omega arith
