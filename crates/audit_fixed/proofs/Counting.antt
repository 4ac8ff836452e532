-- Counting numbers that pass a test: a test that is weaker and one that is weaker but passes no more numbers (`count-weaker`, `count_same`), one number more (`count-more`), and a test whose numbers have
-- each a number of their own that passes another test (`count-into`); and how many are below a number (`count-first`). Assumes nothing.
use Prim.Native.Nat.{ℕ, zero, suc, ◌+◌, ◌≤◌, ◌<◌}
use native.Mathlib.Nat.{eq-or-lt_of_le}
use native.Mathlib.Omega.{arith}
use mathlib.Core.Path.{◌≡◌, refl, sym, ap, ◌∙◌}
use mathlib.Core.Bool.{Bool, true, false, ◌&&◌, ◌||◌, not}
use mathlib.Core.Logic.{◌⊎◌, ⊎_elim}
use lib.Dec.{eqb, ltb}
use borrow.Author.Tests.{ltb-true, eqb-true, eq-eqb, ne_eqb}
use Rattle.palindromes.proofs.Tests.{both-are, decided}
use Rattle.audit_fixed.specs.Counting.{one, count_below}

module _ (f : ℕ → Bool) (n : ℕ) where
  -- the next number passes, or it does not
  pub count_yes : f n ≡ true → count_below f (suc n) ≡ count_below f n + 1
  unfolding count_below
  count_yes e = rw e

  pub count_no : f n ≡ false → count_below f (suc n) ≡ count_below f n
  unfolding count_below
  count_no e = omega (arith, ap one e)

module _ (f g : ℕ → Bool) where
  -- no fewer pass a weaker test
  pub count-weaker : (n : ℕ) → ((i : ℕ) → i < n → f i ≡ true → g i ≡ true) → count_below f n ≤ count_below g n
  unfolding count_below
  count-weaker zero h = omega arith
  count-weaker (suc n) h = next (count-weaker n (λ i l. h i (omega arith)))
    where
      next : count_below f n ≤ count_below g n → count_below f (suc n) ≤ count_below g (suc n)
      next m = ⊎_elim (λ e. omega (arith, m, count_yes f n e, count_yes g n (h n (omega arith) e))) (λ e. omega (arith, m, count_no f n e)) (decided (f n))

  -- a weaker test that passes no more passes the same
  pub count_same : (n : ℕ) → ((i : ℕ) → i < n → f i ≡ true → g i ≡ true) → count_below g n ≤ count_below f n → (i : ℕ) → i < n → g i ≡ true → f i ≡ true
  count_same zero h m i l e = absurd (omega arith)
  count_same (suc n) h m i l e = ⊎_elim last (λ j. count_same n (λ x y. h x (omega arith)) few i j e) (eq-or-lt_of_le (omega arith))
    where
      so_far : count_below f n ≤ count_below g n
      so_far = count-weaker n (λ j k. h j (omega arith))

      -- where the next number passes g alone, more pass g
      both : g n ≡ true → f n ≡ true
      both y = ⊎_elim (λ x. x) (λ x. absurd (omega (arith, so_far, m, count_no f n x, count_yes g n y))) (decided (f n))

      few : count_below g n ≤ count_below f n
      few = ⊎_elim (λ y. omega (arith, m, count_yes f n (both y), count_yes g n y)) (λ y. fewer y (decided (f n))) (decided (g n))
        where
          fewer : g n ≡ false → (f n ≡ true) ⊎ (f n ≡ false) → count_below g n ≤ count_below f n
          fewer y = ⊎_elim (λ x. absurd (omega (arith, m, so_far, count_no g n y, count_yes g n (h n (omega arith) x)))) (λ x. omega (arith, m, count_no f n x, count_no g n y))

      last : i ≡ n → f i ≡ true
      last q = rw q (both (rw (← q) e))

-- the numbers that pass, and one number more
module _ (f g : ℕ → Bool) (q : ℕ) (h : (i : ℕ) → g i ≡ (eqb i q || f i)) (o : f q ≡ false) where
  -- before it the tests agree
  count-until : (m : ℕ) → m ≤ q → count_below g m ≡ count_below f m
  unfolding count_below
  count-until zero k = refl
  count-until (suc m) k = cc (count-until m (omega arith), h m, ne_eqb m q (λ e. omega arith))

  pub count-more : (n : ℕ) → q < n → count_below g n ≡ count_below f n + 1
  unfolding count_below
  count-more zero l = absurd (omega arith)
  count-more (suc n) l = ⊎_elim here (λ k. below k (count-more n k)) (eq-or-lt_of_le (omega arith))
    where
      here : q ≡ n → count_below g (suc n) ≡ count_below f (suc n) + 1
      here e =
          let y : g n ≡ true = h n ∙ ap (λ (v : Bool). v || f n) (eq-eqb n q (sym e)) in
          omega (arith, count-until n (omega arith), count_yes g n y, count_no f n (rw (← e) o))

      below : q < n → count_below g n ≡ count_below f n + 1 → count_below g (suc n) ≡ count_below f (suc n) + 1
      below k m =
          let y : g n ≡ f n = h n ∙ ap (λ (v : Bool). v || f n) (ne_eqb n q (λ e. omega arith)) in
          omega (arith, m, ap one y)

-- the test g with one number taken out of it
abbrev without : (ℕ → Bool) → ℕ → ℕ → Bool
without g q i = g i && not (eqb i q)

count-without : (g : ℕ → Bool) (q m : ℕ) → g q ≡ true → q < m → count_below g m ≡ count_below (without g q) m + 1
count-without g q m y l = count-more (without g q) g q split (out (eqb q q) (eq-eqb q q refl)) m l
  where
    out : (v : Bool) → v ≡ true → (g q && not v) ≡ false
    out v e = rw (e, y)

    split : (i : ℕ) → g i ≡ (eqb i q || without g q i)
    split i = ⊎_elim (λ e. rw e (ap g (eqb-true i q e) ∙ y)) (λ e. rw e (sym (kept (g i)))) (decided (eqb i q))
      where
        kept : (v : Bool) → (v && true) ≡ v
        kept true = refl
        kept false = refl

-- where each number that passes f is led to a number of its own that passes g, no more pass f than g
pub count-into : (f : ℕ → Bool) (φ : ℕ → ℕ) (n m : ℕ) (g : ℕ → Bool) → ((i : ℕ) → i < n → f i ≡ true → (φ i < m) × (g (φ i) ≡ true))
    → ((i j : ℕ) → i < n → j < n → f i ≡ true → f j ≡ true → φ i ≡ φ j → i ≡ j) → count_below f n ≤ count_below g m
unfolding count_below
count-into f φ zero m g into own = omega arith
count-into f φ (suc n) m g into own =
    let so_far : (t : ℕ → Bool) → ((i : ℕ) → i < n → f i ≡ true → (φ i < m) × (t (φ i) ≡ true)) → count_below f n ≤ count_below t m = λ t led. count-into f φ n m t led (λ i j k l. own i j (omega arith) (omega arith)) in
    ⊎_elim
    (λ e.
    let led = into n (omega arith) e in
    omega (arith, count_yes f n e, so_far (without g (φ n)) (apart e), count-without g (φ n) m led.1 led.0))
    (λ e. omega (arith, count_no f n e, so_far g (λ i l. into i (omega arith))))
    (decided (f n))
  where
    apart : f n ≡ true → (i : ℕ) → i < n → f i ≡ true → (φ i < m) × (without g (φ n) (φ i) ≡ true)
    apart e i l y =
        let led = into i (omega arith) y in
        (led.0, both-are (g (φ i)) (not (eqb (φ i) (φ n))) led.1 (ap not (ne_eqb (φ i) (φ n) λ q. omega (arith, own i n (omega arith) (omega arith) y e q))))

-- no more numbers below m pass than there are
count-all : (f : ℕ → Bool) (m : ℕ) → count_below f m ≤ m
unfolding count_below
count-all f zero = omega arith
count-all f (suc m) = ⊎_elim (λ e. omega (arith, count-all f m, count_yes f m e)) (λ e. omega (arith, count-all f m, count_no f m e)) (decided (f m))

-- and no more than c are below c
pub count-first : (c m : ℕ) → count_below (λ i. ltb i c) m ≤ c
unfolding count_below
count-first c zero = omega arith
count-first c (suc m) =
    ⊎_elim
    (λ e. omega (arith, count-all (λ i. ltb i c) m, count_yes (λ i. ltb i c) m e, ltb-true m c e))
    (λ e. omega (arith, count-first c m, count_no (λ i. ltb i c) m e))
    (decided (ltb m c))
