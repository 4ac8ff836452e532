-- The repeats and the rows of an inverted record: 02 (vi) "Its repeats have even length, so row 0 is no repeat's inner row". Rests on `even-length`, and on the laws of a good store's rows.
use Prim.Native.Nat.{ℕ, ◌%◌, ◌≤◌}
use native.Mathlib.Omega.{arith}
use mathlib.Core.Path.{◌≡◌, refl, sym, ap, ◌∙◌}
use mathlib.Core.Bool.{true}
use mathlib.Core.List.{[], ◌∷◌}
use lib.ListN.{length}
use borrow.Author.Tests.{eq-eqb}
use Rattle.palindromes.specs.Word.{Word}
use Rattle.palindromes.specs.Palindrome.{Palindrome}
use Rattle.palindromes.specs.Place.{Stands}
use Rattle.palindromes.specs.Node.{imaginary, spelt, inner_of}
use Rattle.palindromes.proofs.Readings.{even-length}
use Rattle.eertree.proofs.Rows.{word_row}
use Rattle.store.specs.Layout.{reading_in, inner_in, used_in, letters_in}
use Rattle.store.specs.Good.{rule_of, node_in, Good}
use Rattle.transitions.proofs.Letters.{letters-piece}
use Rattle.transitions.proofs.Rows.{covers}

module _ {b : Word} (g : Good b) (inverted : reading_in b ≡ 1) where
  -- a repeat has an even length
  pub even : (w : Word) → Palindrome (rule_of b) w → Stands w (letters_in b) → length w % 2 ≡ 0
  even w p h = even-length (reading_in b) (eq-eqb (reading_in b) 1 inverted) w (letters-piece h g.letters) p.symmetric

  -- no single letter is one
  pub no-single : (c : ℕ) → Palindrome (rule_of b) (c ∷ []) → Stands (c ∷ []) (letters_in b) → ⊥
  no-single c p h = omega (arith, even (c ∷ []) p h)

  -- the node of a repeat without its outer letters is not the imaginary string
  inner-spelt : (w : Word) → Palindrome (rule_of b) w → Stands w (letters_in b) → inner_of (spelt w) ≡ imaginary → ⊥
  unfolding inner_of
  inner-spelt [] p h e = p.non-empty refl
  inner-spelt (x ∷ []) p h e = no-single x p h
  inner-spelt (x ∷ y ∷ w) p h e = let z : ◌≡◌ {A = ℕ} 0 1 = cc in omega arith

  -- row 0 is no repeat's inner row
  pub inner-not-imaginary : (r : ℕ) → 2 ≤ r → used_in b r ≡ true → inner_in b r ≡ 0 → ⊥
  inner-not-imaginary r l u e =
      let d = word_row (covers g) r u l in
      inner-spelt d.0 d.2 d.3 (ap inner_of (sym d.1) ∙ sym (g.table.inner-is r u).1 ∙ ap (node_in b) e ∙ (covers g).row_zero.1)
