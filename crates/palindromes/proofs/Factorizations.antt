-- Factorizations by their last factor: what a factor more does to the joined word, to the test of the factors, to the ends and to the lengths from
-- the last. So a factorization of a word that is not empty is a palindrome that ends it and a factorization of what stands before (`factors-last`),
-- and such two make one (`factors-snoc`). Rests on the library's laws of lists.
use Prim.Native.Nat.{ℕ, zero, suc, ◌+◌, ◌≤◌, ◌<◌}
use native.Mathlib.Omega.{arith}
use mathlib.Core.Path.{◌≡◌, refl, sym, ap, ◌∙◌}
use mathlib.Core.Bool.{Bool, ◌&&◌, and-true, and_assoc}
use mathlib.Core.Logic.{◌⊎◌, inl, inr, ⊎_elim}
use mathlib.Core.List.{List, [], ◌∷◌, ◌++◌, map, reverse, flatten, append_assoc, append-nil, map-append, reverse-append, cons-ne-nil}
use lib.ListN.{length, length-append}
use Rattle.palindromes.specs.Word.{Word}
use Rattle.palindromes.specs.Palindrome.{Palindrome, is_palindrome}
use Rattle.palindromes.specs.Place.{Suffix}
use Rattle.palindromes.proofs.Tests.{both_true, both-are, palindrome-true, palindrome-is}
use Rattle.palindromes.specs.Factorization.{all_palindromes, Factorization, ends_from, ends_of, lengths_from_last, ends_to}

-- ---- one factor more at the right

pub flatten-snoc : (ps : List Word) (p : Word) → flatten (ps ++ (p ∷ [])) ≡ flatten ps ++ p
unfolding flatten
flatten-snoc [] p = append-nil p
flatten-snoc (q ∷ ps) p = ap (λ (w : Word). q ++ w) (flatten-snoc ps p) ∙ sym (append_assoc q (flatten ps) p)

pub all_snoc : (σ : ℕ → ℕ) (ps : List Word) (p : Word) → all_palindromes σ (ps ++ (p ∷ [])) ≡ (all_palindromes σ ps && is_palindrome σ p)
unfolding all_palindromes
all_snoc σ [] p = and-true (is_palindrome σ p)
all_snoc σ (q ∷ ps) p =
    ap (λ (b : Bool). is_palindrome σ q && b) (all_snoc σ ps p) ∙ sym (and_assoc (is_palindrome σ q) (all_palindromes σ ps) (is_palindrome σ p))

ends-from-snoc : (k : ℕ) (ps : List Word) (p : Word) → ends_from k (ps ++ (p ∷ [])) ≡ ends_from k ps ++ ((k + length (flatten ps) + length p) ∷ [])
unfolding ends_from flatten
ends-from-snoc k [] p = let z : k + length p ≡ k + 0 + length p = omega arith in cc
ends-from-snoc k (q ∷ ps) p =
    let z : k + length q + length (flatten ps) + length p ≡ k + length (q ++ flatten ps) + length p = omega (arith, length-append q (flatten ps)) in
    cc (z, ends-from-snoc (k + length q) ps p)

pub ends_snoc : (ps : List Word) (p : Word) → ends_of (ps ++ (p ∷ [])) ≡ ends_of ps ++ ((length (flatten ps) + length p) ∷ [])
unfolding ends_of
ends_snoc ps p = let z : 0 + length (flatten ps) + length p ≡ length (flatten ps) + length p = omega arith in cc (ends-from-snoc 0 ps p)

-- there is an end for each factor
pub ends-count : (ps : List Word) → length (ends_of ps) ≡ length ps
unfolding ends_of ends_from
ends-count ps = go 0 ps
  where
    go : (k : ℕ) (ps : List Word) → length (ends_from k ps) ≡ length ps
    go k [] = refl
    go k (p ∷ ps) = ap suc (go (k + length p) ps)

pub last-lengths-snoc : (ps : List Word) (p : Word) → lengths_from_last (ps ++ (p ∷ [])) ≡ length p ∷ lengths_from_last ps
unfolding lengths_from_last
last-lengths-snoc ps p = ap reverse (map-append length ps (p ∷ [])) ∙ reverse-append (map length ps) (length p ∷ [])

-- every list of factors is empty or ends with one
pub factors-by-last : (ps : List Word) → (ps ≡ []) ⊎ ((qs : List Word) × (q : Word) × (ps ≡ qs ++ (q ∷ [])))
factors-by-last [] = inl refl
factors-by-last (x ∷ ps) = ⊎_elim (λ e. inr ([], x, cc)) (λ r. inr (x ∷ r.0, r.1, cc r.2)) (factors-by-last ps)

-- ---- factorizations

module _ (σ : ℕ → ℕ) where
  -- the empty word has the empty factorization
  pub factors-none : Factorization σ [] []
  unfolding flatten all_palindromes
  factors-none = record { whole = refl; each = refl }

  -- and no other, since factors are not empty
  pub factors-of-none : (ps : List Word) → Factorization σ [] ps → ps ≡ []
  unfolding flatten all_palindromes
  factors-of-none [] a = refl
  factors-of-none (p ∷ ps) a =
      absurd ((palindrome-true σ p (both_true (is_palindrome σ p) (all_palindromes σ ps) a.each).0).non-empty (first-empty p a.whole))
    where
      first-empty : (p : Word) → p ++ flatten ps ≡ [] → p ≡ []
      first-empty [] e = refl
      first-empty (x ∷ p) e = absurd (cons-ne-nil x (p ++ flatten ps) e)

  -- and no other word has it
  pub factors-by-none : {t : Word} → Factorization σ t [] → t ≡ []
  unfolding flatten
  factors-by-none a = sym a.whole

  -- a palindrome behind a factorization
  pub factors-snoc : {s : Word} {ps : List Word} (p : Word) → Factorization σ s ps → Palindrome σ p → Factorization σ (s ++ p) (ps ++ (p ∷ []))
  factors-snoc {s} {ps} p a h =
      record {
        whole = flatten-snoc ps p ∙ ap (λ (w : Word). w ++ p) a.whole;
        each = all_snoc σ ps p ∙ both-are (all_palindromes σ ps) (is_palindrome σ p) a.each (palindrome-is σ p h);
      }

  -- the last factor of a factorization ends the word, and the others are a factorization of what stands before
  pub factors-last : {t : Word} (ps : List Word) (p : Word) → Factorization σ t (ps ++ (p ∷ []))
      → Palindrome σ p × (a : Suffix p t) × Factorization σ a.before ps
  factors-last {t} ps p a =
      let h = both_true (all_palindromes σ ps) (is_palindrome σ p) (sym (all_snoc σ ps p) ∙ a.each) in
      (palindrome-true σ p h.1, record { before = flatten ps; whole = sym (flatten-snoc ps p) ∙ a.whole }, record { whole = refl; each = h.0 })

-- ---- ends traced back

module _ (f : ℕ → ℕ) (m : ℕ) (falls : (q : ℕ) → 1 ≤ q → q ≤ m → f q < q) where
  -- any bound that is not below the place serves
  ends-bound : (n k i : ℕ) → i ≤ m → i ≤ n → i ≤ k → ends_to f n i ≡ ends_to f k i
  unfolding ends_to
  ends-bound zero zero i h a b = refl
  ends-bound zero (suc k) zero h a b = refl
  ends-bound zero (suc k) (suc i) h a b = absurd (omega arith)
  ends-bound (suc n) zero zero h a b = refl
  ends-bound (suc n) zero (suc i) h a b = absurd (omega arith)
  ends-bound (suc n) (suc k) zero h a b = refl
  ends-bound (suc n) (suc k) (suc i) h a b =
      let l : f (suc i) < suc i = falls (suc i) (omega arith) h in
      ap (λ (x : List ℕ). x ++ (suc i ∷ [])) (ends-bound n k (f (suc i)) (omega arith) (omega arith) (omega arith))

  -- the last end, and those up to where its factor begins
  pub ends-step : (i : ℕ) → 1 ≤ i → i ≤ m → ends_to f i i ≡ ends_to f (f i) (f i) ++ (i ∷ [])
  unfolding ends_to
  ends-step zero l h = absurd (omega arith)
  ends-step (suc i) l h =
      let b : f (suc i) < suc i = falls (suc i) l h in
      ap (λ (x : List ℕ). x ++ (suc i ∷ [])) (ends-bound i (f (suc i)) (f (suc i)) (omega arith) (omega arith) (omega arith))

  -- places that agree lead to the same ends
  pub ends-agree : (g : ℕ → ℕ) → ((q : ℕ) → 1 ≤ q → q ≤ m → f q ≡ g q) → (n i : ℕ) → i ≤ m → ends_to f n i ≡ ends_to g n i
  unfolding ends_to
  ends-agree g e zero i h = refl
  ends-agree g e (suc n) zero h = refl
  ends-agree g e (suc n) (suc i) h =
      let l : f (suc i) < suc i = falls (suc i) (omega arith) h in
      ap (λ (x : List ℕ). x ++ (suc i ∷ [])) (ends-agree g e n (f (suc i)) (omega arith) ∙ ap (ends_to g n) (e (suc i) (omega arith) h))
