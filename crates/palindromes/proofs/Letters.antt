-- The four letters, case by case; each letter of a word of letters is one, and two words joined are of letters exactly if both are. Rests on the tests of proofs/Lists.antt only. Assumes nothing.
use Prim.Native.Nat.{ℕ, zero, suc, ◌<◌}
use native.Mathlib.Omega.{arith}
use mathlib.Core.Path.{◌≡◌, refl, sym, ap, subst, ◌∙◌}
use mathlib.Core.Bool.{true, ◌&&◌, ◌||◌, and_assoc}
use mathlib.Core.Logic.{⊎_elim}
use mathlib.Core.List.{[], ◌∷◌, ◌++◌}
use lib.Dec.{eqb}
use lib.ListN.{length, get_or, take, drop, take-append-drop}
use borrow.Author.Tests.{eqb-true}
use Rattle.palindromes.specs.Word.{Word, is_letter, all_letters}
use Rattle.palindromes.proofs.Tests.{both_true}
use Rattle.palindromes.proofs.Lists.{either_true}

-- what holds of each of the four letters holds of every letter
pub letter-cases : (P : ℕ → Type 0) → P 65 → P 67 → P 71 → P 84 → (x : ℕ) → is_letter x ≡ true → P x
unfolding is_letter
letter-cases P a c g t x h = ⊎_elim acg (λ e. is 84 e t) (either_true (eqb x 65 || eqb x 67 || eqb x 71) (eqb x 84) h)
  where
    is : (y : ℕ) → eqb x y ≡ true → P y → P x
    is y e p = subst P (sym (eqb-true x y e)) p

    ac : (eqb x 65 || eqb x 67) ≡ true → P x
    ac k = ⊎_elim (λ e. is 65 e a) (λ e. is 67 e c) (either_true (eqb x 65) (eqb x 67) k)

    acg : (eqb x 65 || eqb x 67 || eqb x 71) ≡ true → P x
    acg k = ⊎_elim ac (λ e. is 71 e g) (either_true (eqb x 65 || eqb x 67) (eqb x 71) k)

-- a letter is a byte
pub letter-byte : (c : ℕ) → is_letter c ≡ true → c < 256
letter-byte = letter-cases (λ x. x < 256) (omega arith) (omega arith) (omega arith) (omega arith)

-- and not 0
pub letter-not-zero : (c : ℕ) → is_letter c ≡ true → 0 < c
letter-not-zero = letter-cases (λ x. 0 < x) (omega arith) (omega arith) (omega arith) (omega arith)

-- ---- words of letters

pub letter-of : (s : Word) (k : ℕ) → k < length s → all_letters s ≡ true → is_letter (get_or s k 0) ≡ true
unfolding all_letters
letter-of [] k l h = absurd (omega arith)
letter-of (x ∷ s) zero l h = (both_true (is_letter x) (all_letters s) h).0
letter-of (x ∷ s) (suc k) l h = letter-of s k (omega arith) (both_true (is_letter x) (all_letters s) h).1

-- two words joined are of letters exactly if both are
pub letters-append : (u v : Word) → all_letters (u ++ v) ≡ (all_letters u && all_letters v)
unfolding all_letters
letters-append [] v = refl
letters-append (x ∷ u) v = cc (letters-append u v, and_assoc (is_letter x) (all_letters u) (all_letters v))

-- so a word of letters is cut into two
pub letters-parts : (i : ℕ) (w : Word) → all_letters w ≡ true → (all_letters (take i w) ≡ true) × (all_letters (drop i w) ≡ true)
letters-parts i w h = both_true (all_letters (take i w)) (all_letters (drop i w)) (sym (letters-append (take i w) (drop i w)) ∙ ap all_letters (take-append-drop i w) ∙ h)
