-- Words of letters: a piece of such a word is one, a letter more at an end makes one of one, and what stands at either end of one that is not empty is a letter.
-- Assumes nothing.
use Prim.Native.Nat.{ℕ}
use mathlib.Core.Path.{◌≡◌, refl}
use mathlib.Core.Bool.{true, ◌&&◌, and_comm, and-true}
use mathlib.Core.List.{[], ◌∷◌, ◌++◌}
use Rattle.palindromes.specs.Word.{Word, is_letter, all_letters}
use Rattle.palindromes.specs.Place.{Stands}
use Rattle.palindromes.specs.End.{End, at_left, at_right, added, removed, letter_at}
use Rattle.palindromes.proofs.Tests.{both_true}
use Rattle.palindromes.proofs.Words.{added-removed}
use Rattle.palindromes.proofs.Letters.{letters-append}

-- a piece of a word of letters
pub letters-piece : {w s : Word} → Stands w s → all_letters s ≡ true → all_letters w ≡ true
letters-piece {w} {s} p h =
    let front = both_true (all_letters (p.before ++ w)) (all_letters p.after) (cc (letters-append (p.before ++ w) p.after, p.whole, h)) in
    (both_true (all_letters p.before) (all_letters w) (cc (letters-append p.before w, front.0))).1

-- a letter more at an end
pub letters-added : (e : End) (c : ℕ) (s : Word) → all_letters (added e c s) ≡ (is_letter c && all_letters s)
unfolding added all_letters
letters-added at_left c s = refl
letters-added at_right c s = cc (letters-append s (c ∷ []), and_comm (all_letters s) (is_letter c && true), and-true (is_letter c))

-- the letter at an end
pub letter-at-end : (e : End) (w : Word) → (w ≡ [] → ⊥) → all_letters w ≡ true → is_letter (letter_at e w) ≡ true
letter-at-end e w n h = (both_true (is_letter (letter_at e w)) (all_letters (removed e w)) (cc (letters-added e (letter_at e w) (removed e w), added-removed e w n, h))).0
