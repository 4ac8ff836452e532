-- A word cut from the left into words of k letters: the first of them and the cutting of the rest, whatever bounds their number, and what holds of all words
-- because it goes from the rest to the whole (`by-cut`).
-- Rests on the library's laws of `take` and `drop`. Assumes nothing.
use Rattle.std.proofs.Common.{◌≡◌, refl, sym, ap, ◌∙◌, ℕ, zero, suc, ◌+◌, ◌*◌, ◌≤◌, ◌<◌, min, arith, inl, inr}
use Rattle.std.proofs.Common.{List, [], ◌∷◌, ◌++◌, append-nil, length, take, drop, length-append, length-drop}
use Rattle.std.proofs.Math.ListN.{length-take, take-append-drop, drop_of_length-le}
use Rattle.std.proofs.Math.Seq.{take_all, take-append_seam, drop-append_seam, drop-drop}
use Rattle.std.proofs.lemmas.Bool.{cases_lt}
use Rattle.std.proofs.lemmas.List.{nil_from_length}
use native.Mathlib.Nat.{min-le_left}
use Rattle.palindromes.specs.Word.{Word}
use Rattle.palindromes.specs.Genbank.{cut_up_to, cut}

-- any two bounds that are large enough give the same words
same-cut : (k m n : ℕ) (w : Word) → length w ≤ m → length w ≤ n → cut_up_to (suc k) m w ≡ cut_up_to (suc k) n w
unfolding cut_up_to
same-cut k zero zero w h g = refl
same-cut k zero (suc n) [] h g = refl
same-cut k zero (suc n) (x ∷ w) h g = absurd (omega arith)
same-cut k (suc m) zero [] h g = refl
same-cut k (suc m) zero (x ∷ w) h g = absurd (omega arith)
same-cut k (suc m) (suc n) [] h g = refl
same-cut k (suc m) (suc n) (x ∷ w) h g =
    ap (λ (l : List Word). take (suc k) (x ∷ w) ∷ l) (same-cut k m n (drop k w) (omega (arith, length-drop k w)) (omega (arith, length-drop k w)))

-- no letters make no word
pub cut-none : (k : ℕ) → cut k [] ≡ []
unfolding cut cut_up_to
cut-none k = refl

-- the first word, and those of the rest
pub cut-more : (k : ℕ) (w : Word) → 0 < length w → cut (suc k) w ≡ take (suc k) w ∷ cut (suc k) (drop (suc k) w)
unfolding cut cut_up_to
cut-more k [] h = absurd (omega arith)
cut-more k (x ∷ w) h =
    ap (λ (l : List Word). take (suc k) (x ∷ w) ∷ l) (same-cut k (length w) (length (drop k w)) (drop k w) (omega (arith, length-drop k w)) (omega arith))

-- what holds of no letters, and of a word whenever it holds of what is left behind its first k letters, holds of every word
pub by-cut : (k : ℕ) (P : Word → Type 0) → P [] → ((w : Word) → 0 < length w → P (drop (suc k) w) → P w) → (w : Word) → P w
by-cut k P none more w = below (suc (length w)) w (omega arith)
  where
    below : (n : ℕ) (w : Word) → length w < n → P w
    below zero w h = absurd (omega arith)
    below (suc n) [] h = none
    below (suc n) (x ∷ w) h = more (x ∷ w) (omega arith) (below n (drop k w) (omega (arith, length-drop k w)))

-- at most as many letters are taken
pub take-few : (k : ℕ) (w : Word) → length (take k w) ≤ k
take-few k w = rw (length-take k w) (min-le_left k (length w))

-- the letters that are taken and those that are left are all
pub parts : (k : ℕ) (w : Word) → length (take k w) + length (drop k w) ≡ length w
parts k w = sym (length-append (take k w) (drop k w)) ∙ ap length (take-append-drop k w)

-- a piece in front of the rest that has `size` letters, or all that are left, is what is taken, and the rest is what is dropped
pub cut-off : (size : ℕ) (x rest : Word) → length x ≡ min size (length (x ++ rest)) → (take size (x ++ rest) ≡ x) × (drop size (x ++ rest) ≡ rest)
cut-off size x rest e =
    elim (cases_lt (length (x ++ rest)) size) [
      | inl short ↦
          let none : rest ≡ [] = nil_from_length rest (omega (arith, length-append x rest)) in
          (take_all size (x ++ rest) (omega arith) ∙ rw (none, append-nil), rw (drop_of_length-le (x ++ rest) {i = size} (omega arith), none))
      | inr long ↦
          let whole : size ≡ length x = omega arith in
          rw whole (take-append_seam x rest, drop-append_seam x rest)
    ]

-- so where the rest of a word begins at a multiple of the size, the piece is taken there, and what it leaves begins at the next
module _ (size n : ℕ) (w s x t : Word) (at : s ≡ drop (size * n) w) (cut : s ≡ x ++ t) (few : length x ≡ min size (length s)) where
  pub piece-is : x ≡ take size (drop (size * n) w)
  piece-is = sym (rw (← cut, at) at (cut-off size x t (rw cut at few)).0)

  pub rest-is : t ≡ drop (size * (n + 1)) w
  rest-is =
      let next : size * n + size ≡ size * (n + 1) = omega arith in
      sym (rw (← cut, at, drop-drop size (size * n) w, next) at (cut-off size x t (rw cut at few)).1)
