-- Counting by letters: where each number that passes a test has a letter, as many pass as pass with each of the four letters; and sums of a number of each letter. Assumes nothing.
use Prim.Native.Nat.{ℕ, zero, suc, ◌≤◌, ◌<◌}
use native.Mathlib.Omega.{arith}
use mathlib.Core.Path.{◌≡◌, refl}
use mathlib.Core.Bool.{Bool, true, false, ◌&&◌}
use lib.Dec.{eqb}
use Rattle.palindromes.specs.Word.{is_letter}
use Rattle.palindromes.proofs.Letters.{letter-cases}
use Rattle.audit_fixed.specs.Counting.{one, count_below}
use Rattle.audit_rows.specs.Rows.{four_letters}

-- a number that passes has one of the four letters, and only one
letter-one : (v : Bool) (x : ℕ) → (v ≡ true → is_letter x ≡ true) → one v ≡ four_letters (λ c. one (v && eqb x c))
letter-one true x h = letter-cases (λ y. one true ≡ four_letters (λ c. one (true && eqb y c))) refl refl refl refl x (h refl)
letter-one false x h = refl

pub count-letters : (f : ℕ → Bool) (letter : ℕ → ℕ) (n : ℕ) → ((i : ℕ) → i < n → f i ≡ true → is_letter (letter i) ≡ true)
    → count_below f n ≡ four_letters (λ c. count_below (λ i. f i && eqb (letter i) c) n)
unfolding count_below
count-letters f letter zero h = refl
count-letters f letter (suc n) h = omega (arith, count-letters f letter n (λ i l. h i (omega arith)), letter-one (f n) (letter n) (h n (omega arith)))

-- numbers of the four letters, each no larger than another
module _ (x y : ℕ → ℕ) (h : (c : ℕ) → is_letter c ≡ true → x c ≤ y c) where
  pub four-most : four_letters x ≤ four_letters y
  unfolding is_letter
  four-most = omega (arith, h 65 refl, h 67 refl, h 71 refl, h 84 refl)

  -- are the same, if their sum is not smaller
  pub four_same : four_letters y ≤ four_letters x → (c : ℕ) → is_letter c ≡ true → y c ≤ x c
  unfolding is_letter
  four_same s = letter-cases (λ c. y c ≤ x c) (omega (arith, s, h 67 refl, h 71 refl, h 84 refl)) (omega (arith, s, h 65 refl, h 71 refl, h 84 refl)) (omega (arith, s, h 65 refl, h 67 refl, h 84 refl)) (omega (arith, s, h 65 refl, h 67 refl, h 71 refl))
