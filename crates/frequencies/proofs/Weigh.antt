-- The numbers at the places that pass a test, added up: after one of them is changed, by another test, and the least that they come to. Assumes nothing.
use Prim.Native.Nat.{ℕ, zero, suc, ◌+◌, ◌≤◌, ◌<◌}
use native.Mathlib.Omega.{arith}
use mathlib.Core.Path.{◌≡◌, refl, ap}
use mathlib.Core.Bool.{Bool, true, false, cond}
use mathlib.Core.Logic.{◌≢◌}
use mathlib.Core.List.{List, [], ◌∷◌}
use lib.ListN.{length, get_or, set, replicate}
use Rattle.frequencies.specs.Counts.{weigh}

-- a number where the test holds
abbrev pub counted : Bool → ℕ → ℕ
counted t x = cond t x 0

-- one number is changed
pub weigh-set : (f : ℕ → Bool) (xs : List ℕ) (i x : ℕ) → i < length xs → weigh f (set xs i x) + counted (f i) (get_or xs i 0) ≡ weigh f xs + counted (f i) x
unfolding weigh
weigh-set f [] i x l = absurd (omega arith)
weigh-set f (y ∷ xs) zero x l = omega arith
weigh-set f (y ∷ xs) (suc i) x l = omega (arith, weigh-set (λ r. f (suc r)) xs i x (omega arith))

-- two tests that agree
pub weigh-agree : (f g : ℕ → Bool) (xs : List ℕ) → ((r : ℕ) → f r ≡ g r) → weigh f xs ≡ weigh g xs
unfolding weigh
weigh-agree f g [] h = refl
weigh-agree f g (x ∷ xs) h = omega (arith, ap (λ (t : Bool). counted t x) (h zero), weigh-agree (λ r. f (suc r)) (λ r. g (suc r)) xs (λ r. h (suc r)))

-- two that agree but at one place, which the second leaves out
pub weigh-without : (f g : ℕ → Bool) (xs : List ℕ) (i : ℕ) → i < length xs → f i ≡ true → g i ≡ false → ((r : ℕ) → r ≢ i → f r ≡ g r) → weigh f xs ≡ get_or xs i 0 + weigh g xs
unfolding weigh
weigh-without f g [] i l p q h = absurd (omega arith)
weigh-without f g (x ∷ xs) zero l p q h =
    omega (
      arith,
      ap (λ (t : Bool). counted t x) p,
      ap (λ (t : Bool). counted t x) q,
      weigh-agree (λ r. f (suc r)) (λ r. g (suc r)) xs (λ r. h (suc r) (λ e. omega arith)),
    )
weigh-without f g (x ∷ xs) (suc i) l p q h =
    omega (
      arith,
      ap (λ (t : Bool). counted t x) (h zero (λ e. omega arith)),
      weigh-without (λ r. f (suc r)) (λ r. g (suc r)) xs i (omega arith) p q (λ r n. h (suc r) (λ e. n (omega arith))),
    )

-- a test that nothing passes
pub weigh-none : (f : ℕ → Bool) (xs : List ℕ) → ((r : ℕ) → f r ≡ false) → weigh f xs ≡ 0
unfolding weigh
weigh-none f [] h = refl
weigh-none f (x ∷ xs) h = omega (arith, ap (λ (t : Bool). counted t x) (h zero), weigh-none (λ r. f (suc r)) xs (λ r. h (suc r)))

-- noughts
pub weigh-noughts : (f : ℕ → Bool) (n : ℕ) → weigh f (replicate n 0) ≡ 0
unfolding weigh
weigh-noughts f zero = refl
weigh-noughts f (suc n) = omega (arith, nought (f zero), weigh-noughts (λ r. f (suc r)) n)
  where
    nought : (t : Bool) → counted t 0 ≡ 0
    nought true = refl
    nought false = refl

-- what passes the test is no more than the sum
pub weigh-least : (f : ℕ → Bool) (xs : List ℕ) (i : ℕ) → i < length xs → f i ≡ true → get_or xs i 0 ≤ weigh f xs
unfolding weigh
weigh-least f [] i l p = absurd (omega arith)
weigh-least f (x ∷ xs) zero l p = omega (arith, ap (λ (t : Bool). counted t x) p)
weigh-least f (x ∷ xs) (suc i) l p = omega (arith, weigh-least (λ r. f (suc r)) xs i (omega arith) p)
