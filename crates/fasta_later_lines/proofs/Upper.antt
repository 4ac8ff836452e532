-- The capital of a byte: a small letter's is 32 below it, every other byte has itself. Rests on the definition alone. Assumes nothing.
use Prim.Native.Nat.{ℕ, ◌+◌, ◌-◌, ◌%◌, ◌≤◌, ◌<◌}
use native.Mathlib.Omega.{arith}
use mathlib.Core.Path.{◌≡◌, refl, sym, ap, ◌∙◌}
use mathlib.Core.Bool.{Bool, true, false, cond, ◌&&◌}
use mathlib.Core.Logic.{◌⊎◌, inl, inr, ⊎_elim}
use lib.Dec.{leb, eqb}
use borrow.Author.Tests.{leb-true, eqb-true, eqb-false, lt-leb, ne_eqb}
use Rattle.palindromes.specs.Word.{is_letter}
use Rattle.palindromes.specs.Fasta.{upper}
use Rattle.palindromes.proofs.Tests.{not-true-false, decided}
use Rattle.palindromes.proofs.Letters.{letter-cases}

upper-below : (b : ℕ) → b < 97 → upper b ≡ b
unfolding upper
upper-below b h = rw (lt-leb 97 b h)

-- a byte is a small letter or not
upper-cases : (b : ℕ) → (upper b ≡ b) ⊎ ((97 ≤ b) × (b ≤ 122) × (upper b ≡ b - 32))
unfolding upper
upper-cases b = by_tests (leb 97 b) (leb b 122) refl refl
  where
    by_tests : (x y : Bool) → leb 97 b ≡ x → leb b 122 ≡ y → (cond (x && y) (b - 32) b ≡ b) ⊎ ((97 ≤ b) × (b ≤ 122) × (cond (x && y) (b - 32) b ≡ b - 32))
    by_tests true true l h = inr (leb-true 97 b l, leb-true b 122 h, refl)
    by_tests true false l h = inl refl
    by_tests false y l h = inl refl

-- a byte whose capital is x is x, or the small letter of x
upper_is : (b x : ℕ) → upper b ≡ x → (b ≡ x) ⊎ ((97 ≤ b) × (b ≡ x + 32))
upper_is b x e = ⊎_elim (λ s. inl (sym s ∙ e)) (λ s. inr (s.0, omega (arith, s.0, s.2, e))) (upper-cases b)

-- a capital has itself
pub upper-upper : (b : ℕ) → upper (upper b) ≡ upper b
upper-upper b = ⊎_elim (λ s. ap upper s) (λ s. upper-below (upper b) (omega (arith, s.1, s.2))) (upper-cases b)

-- a byte below the capitals has itself, and is no other byte's capital: line ends and `>` are what they were
pub upper-same : (b x : ℕ) → x < 65 → eqb (upper b) x ≡ eqb b x
upper-same b x h = ⊎_elim same other (decided (eqb b x))
  where
    same : eqb b x ≡ true → eqb (upper b) x ≡ eqb b x
    same e = ap (λ (y : ℕ). eqb y x) (upper-below b (omega (arith, eqb-true b x e)))

    other : eqb b x ≡ false → eqb (upper b) x ≡ eqb b x
    other e = ne_eqb (upper b) x (λ s. ⊎_elim (eqb-false b x e) (λ t. omega (arith, t.0, t.1)) (upper_is b x s)) ∙ sym e

-- every byte but a, c, g and t is read as a letter exactly if it is one
pub letter-kept : (b : ℕ) → (b ≡ 97 → ⊥) → (b ≡ 99 → ⊥) → (b ≡ 103 → ⊥) → (b ≡ 116 → ⊥) → is_letter (upper b) ≡ is_letter b
letter-kept b a c g t = ⊎_elim (λ s. ap is_letter s) small (upper-cases b)
  where
    below : is_letter b ≡ true → b < 97
    below = letter-cases (λ x. x < 97) (omega arith) (omega arith) (omega arith) (omega arith) b

    small : (97 ≤ b) × (b ≤ 122) × (upper b ≡ b - 32) → is_letter (upper b) ≡ is_letter b
    small s =
        not-true-false
        (is_letter (upper b))
        (λ h. letter-cases (λ x. upper b ≡ x → ⊥) (λ e. a (omega arith)) (λ e. c (omega arith)) (λ e. g (omega arith)) (λ e. t (omega arith)) (upper b) h refl)
        ∙ sym (not-true-false (is_letter b) (λ h. omega (arith, below h)))

-- a letter's two cases have the same remainder by 32, and its capital is that above 64
pub capital-is : (b : ℕ) → is_letter (upper b) ≡ true → b % 32 + 64 ≡ upper b
capital-is b h = letter-cases (λ x. upper b ≡ x → b % 32 + 64 ≡ x) (of 65 refl refl) (of 67 refl refl) (of 71 refl refl) (of 84 refl refl) (upper b) h refl
  where
    of : (x : ℕ) → x % 32 + 64 ≡ x → (x + 32) % 32 + 64 ≡ x → upper b ≡ x → b % 32 + 64 ≡ x
    of x p q e = ⊎_elim (λ s. rw s p) (λ s. rw s.1 q) (upper_is b x e)
