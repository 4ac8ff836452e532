use Rattle.std.proofs.Common.{◌≡◌, ℕ, Bool, true, false, nat_eq, refl, sym, ap, ◌∙◌, length, [], ◌∷◌, arith}
use mathlib.Core.Bool.{◌&&◌, not}
use borrow.Author.Tests.{ne_eqb}
use Rattle.palindromes.specs.Word.{Word, is_empty}
use Rattle.palindromes.specs.Palindrome.{is_symmetric, is_palindrome}
use Rattle.reference_symmetry.proofs.is_palindrome.Goals as goal

-- a word is empty if it has no letters
is_empty-length : (w : Word) → is_empty w ≡ nat_eq (length w) 0
unfolding is_empty
is_empty-length [] = refl
is_empty-length (x ∷ w) = sym (ne_eqb (length (x ∷ w)) 0 (λ e. omega arith))

palindrome-tested : (σ : ℕ → ℕ) (w : Word) (empty : Bool) → empty ≡ nat_eq (length w) 0 → is_palindrome σ w ≡ (not empty && is_symmetric σ w)
unfolding is_palindrome
palindrome-tested σ w empty e = ap (λ (t : Bool). not t && is_symmetric σ w) (is_empty-length w ∙ sym e)

pub returns-then-not-is_empty : goal.returns-then-not-is_empty
returns-then-not-is_empty c = c.is_symmetric.ensures ∙ sym (palindrome-tested _ _ false c.if-not-is_empty.ensures)

pub returns-else-not-is_empty : goal.returns-else-not-is_empty
returns-else-not-is_empty c = ap not c.if-not-is_empty.false ∙ sym (palindrome-tested _ _ true c.if-not-is_empty.ensures)
