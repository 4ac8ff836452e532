-- How the palindromic length follows its word, if every letter is its own partner. No factorization has fewer factors (`length-least`); it is 1 exactly
-- for palindromes (`one-factor`, `factor-one`); the reversal of a word has the same (`length-of-mirror`); and a letter more or less at either end changes
-- it by at most 1 (`letter-changes`): 001 lemma 4.11. Rests on `Factorizations` and `MinimalFactorization`.
use Prim.Native.Nat.{ℕ, suc, ◌+◌, ◌≤◌}
use native.Mathlib.Omega.{arith}
use mathlib.Core.Path.{◌≡◌, refl, sym, ap, ◌∙◌, subst}
use mathlib.Core.Bool.{Bool, true, ◌&&◌, and_comm}
use mathlib.Core.Logic.{⊎_elim}
use mathlib.Core.List.{List, [], ◌∷◌, ◌++◌, reverse, flatten, append_assoc, append-nil, reverse-cons, cons-ne-nil}
use lib.ListN.{length, length-reverse}
use Rattle.palindromes.specs.Word.{Word}
use Rattle.palindromes.specs.Palindrome.{mirror, Symmetric, Palindrome, is_palindrome}
use Rattle.palindromes.specs.End.{End, at_left, at_right, added}
use Rattle.palindromes.specs.Factorization.{all_palindromes, Factorization, palindromic_length}
use Rattle.palindromes.proofs.Tests.{both_true, both-are, palindrome-true, palindrome-is}
use Rattle.palindromes.proofs.Words.{by_last}
use Rattle.palindromes.proofs.Mirror.{mirror-append, mirror-empty, mirror-added, mirror-mirror}
use Rattle.palindromes.proofs.Growth.{letter-symmetric, inner-symmetric}
use Rattle.palindromes.proofs.Factorizations.{flatten-snoc, all_snoc, factors-none, factors-by-none}
use Rattle.palindromes.proofs.MinimalFactorization.{factorization-minimal}

-- ---- by the first factor

module _ (σ : ℕ → ℕ) where
  factors-cons : {s : Word} {ps : List Word} (p : Word) → Palindrome σ p → Factorization σ s ps → Factorization σ (p ++ s) (p ∷ ps)
  unfolding flatten all_palindromes
  factors-cons {s} {ps} p h a =
      record { whole = ap (λ (w : Word). p ++ w) a.whole; each = both-are (is_palindrome σ p) (all_palindromes σ ps) (palindrome-is σ p h) a.each }

  factors-first : {t : Word} (p : Word) (ps : List Word) → Factorization σ t (p ∷ ps)
      → Palindrome σ p × (p ++ flatten ps ≡ t) × Factorization σ (flatten ps) ps
  unfolding flatten all_palindromes
  factors-first p ps a =
      let h = both_true (is_palindrome σ p) (all_palindromes σ ps) a.each in
      (palindrome-true σ p h.0, a.whole, record { whole = refl; each = h.1 })

  -- ---- the reversal

  all-reverse : (ps : List Word) → all_palindromes σ (reverse ps) ≡ all_palindromes σ ps
  unfolding all_palindromes
  all-reverse [] = refl
  all-reverse (p ∷ ps) =
      ap (all_palindromes σ) (reverse-cons p ps) ∙ all_snoc σ (reverse ps) p
      ∙ ap (λ (b : Bool). b && is_palindrome σ p) (all-reverse ps) ∙ and_comm (all_palindromes σ ps) (is_palindrome σ p)

  flatten-reverse : (ps : List Word) → all_palindromes σ ps ≡ true → flatten (reverse ps) ≡ mirror σ (flatten ps)
  unfolding flatten all_palindromes
  flatten-reverse [] h = sym (mirror-empty σ)
  flatten-reverse (p ∷ ps) h =
      let k = both_true (is_palindrome σ p) (all_palindromes σ ps) h in
      cc (
        ap flatten (reverse-cons p ps),
        flatten-snoc (reverse ps) p,
        flatten-reverse ps k.1,
        mirror-append σ p (flatten ps),
        (palindrome-true σ p k.0).symmetric,
      )

  -- the factors from the last to the first
  factors-mirror : {s : Word} {ps : List Word} → Factorization σ s ps → Factorization σ (mirror σ s) (reverse ps)
  factors-mirror {s} {ps} a =
      record { whole = flatten-reverse ps a.each ∙ ap (mirror σ) a.whole; each = all-reverse ps ∙ a.each }

module _ (σ : ℕ → ℕ) (own : (c : ℕ) → σ c ≡ c) where
  -- ---- no factorization has fewer

  pub length-least : {s : Word} {ps : List Word} → Factorization σ s ps → palindromic_length σ s ≤ length ps
  length-least {s} {ps} a = let r = factorization-minimal σ own s in omega (arith, r.1.fewest ps a, r.2)

  letter : (c : ℕ) → Palindrome σ (c ∷ [])
  letter c = record { non-empty = cons-ne-nil c []; symmetric = letter-symmetric σ c (own c) }

  -- ---- 1 exactly for palindromes

  pub one-factor : {s : Word} → palindromic_length σ s ≡ 1 → Palindrome σ s
  unfolding flatten
  one-factor {s} e = let r = factorization-minimal σ own s in go r.0 r.1.factors (r.2 ∙ e)
    where
      go : (ps : List Word) → Factorization σ s ps → length ps ≡ 1 → Palindrome σ s
      go [] a n = absurd (omega arith)
      go (p ∷ []) a n = subst (Palindrome σ) (sym (append-nil p) ∙ a.whole) (factors-first σ p [] a).0
      go (p ∷ q ∷ ps) a n = absurd (omega arith)

  pub factor-one : {s : Word} → Palindrome σ s → palindromic_length σ s ≡ 1
  factor-one {s} p =
      let a : Factorization σ s (s ∷ []) = subst (λ (w : Word). Factorization σ w (s ∷ [])) (append-nil s) (factors-cons σ s p (factors-none σ)) in
      let r = factorization-minimal σ own s in
      omega (arith, length-least a, some r.0 r.1.factors, r.2)
    where
      some : (ps : List Word) → Factorization σ s ps → 1 ≤ length ps
      some [] a = absurd (p.non-empty (factors-by-none σ a))
      some (q ∷ ps) a = omega arith

  -- ---- a letter more or less

  -- a letter more is a factor more at most
  more : (c : ℕ) (s : Word) → palindromic_length σ (c ∷ s) ≤ palindromic_length σ s + 1
  more c s = let r = factorization-minimal σ own s in omega (arith, length-least (factors-cons σ (c ∷ []) (letter c) r.1.factors), r.2)

  -- a letter less takes the letter off the first factor, or leaves the letter that faced it behind what stood between the two
  record Less (s : Word) (n : ℕ) : Type 0 where
    parts : List Word
    factors : Factorization σ s parts
    few : length parts ≤ n + 1

  between : {ps : List Word} (u : Word) (d : ℕ) → Symmetric σ u → Factorization σ (flatten ps) ps → Less (u ++ d ∷ flatten ps) (suc (length ps))
  between {ps} u d h a = go u h
    where
      one : Factorization σ (d ∷ flatten ps) ((d ∷ []) ∷ ps)
      one = factors-cons σ (d ∷ []) (letter d) a

      go : (u : Word) → Symmetric σ u → Less (u ++ d ∷ flatten ps) (suc (length ps))
      go [] h = record { parts = (d ∷ []) ∷ ps; factors = one; few = omega arith }
      go (x ∷ u) h =
          record {
            parts = (x ∷ u) ∷ (d ∷ []) ∷ ps;
            factors = factors-cons σ (x ∷ u) (record { non-empty = cons-ne-nil x u; symmetric = h }) one;
            few = omega arith;
          }

  less-of : (c : ℕ) (s : Word) (ps : List Word) → Factorization σ (c ∷ s) ps → Less s (length ps)
  less-of c s [] a = absurd (cons-ne-nil c s (factors-by-none σ a))
  less-of c s ([] ∷ ps) a = absurd ((factors-first σ [] ps a).0.non-empty refl)
  less-of c s ((x ∷ t) ∷ ps) a =
      let f = factors-first σ (x ∷ t) ps a in
      let e : t ++ flatten ps ≡ s = cc f.1 in
      ⊎_elim
      (λ z. record { parts = ps; factors = subst (λ (w : Word). Factorization σ w ps) (cc (e, z)) f.2; few = omega arith })
      (λ r. inside r.0 r.1 r.2 f e)
      (by_last t)
    where
      inside : (u : Word) (d : ℕ) → t ≡ u ++ (d ∷ [])
          → Palindrome σ (x ∷ t) × ((x ∷ t) ++ flatten ps ≡ c ∷ s) × Factorization σ (flatten ps) ps
          → t ++ flatten ps ≡ s → Less s (suc (length ps))
      inside u d z f e =
          let h : Symmetric σ (x ∷ u ++ (d ∷ [])) = subst (λ (w : Word). Symmetric σ (x ∷ w)) z f.0.symmetric in
          let k : u ++ d ∷ flatten ps ≡ s = sym (append_assoc u (d ∷ []) (flatten ps)) ∙ ap (λ (w : Word). w ++ flatten ps) (sym z) ∙ e in
          subst (λ (w : Word). Less w (suc (length ps))) k (between u d (inner-symmetric σ x u d h).1 f.2)

  less : (c : ℕ) (s : Word) → palindromic_length σ s ≤ palindromic_length σ (c ∷ s) + 1
  less c s =
      let r = factorization-minimal σ own (c ∷ s) in
      let l = less-of c s r.0 r.1.factors in
      omega (arith, length-least l.factors, l.few, r.2)

  -- the reversal of a word has the same, since its factors turned round are factors of its reversal
  mirror-least : (s : Word) → palindromic_length σ (mirror σ s) ≤ palindromic_length σ s
  mirror-least s = let r = factorization-minimal σ own s in omega (arith, length-least (factors-mirror σ r.1.factors), length-reverse r.0, r.2)

  pub length-of-mirror : (s : Word) → palindromic_length σ (mirror σ s) ≡ palindromic_length σ s
  length-of-mirror s =
      omega (arith, mirror-least s, mirror-least (mirror σ s), ap (palindromic_length σ) (mirror-mirror σ self s))
    where
      self : (c : ℕ) → σ (σ c) ≡ c
      self c = own (σ c) ∙ own c

  -- 001 lemma 4.11, for either end
  pub letter-changes : (e : End) (c : ℕ) (s : Word)
      → (palindromic_length σ (added e c s) ≤ palindromic_length σ s + 1) × (palindromic_length σ s ≤ palindromic_length σ (added e c s) + 1)
  unfolding added
  letter-changes at_left c s = (more c s, less c s)
  letter-changes at_right c s =
      let t = mirror σ s in
      let d = σ c in
      let e : palindromic_length σ (d ∷ t) ≡ palindromic_length σ (s ++ (c ∷ [])) =
      ap (palindromic_length σ) (sym (mirror-added σ at_right c s)) ∙ length-of-mirror (s ++ (c ∷ [])) in
      (omega (arith, more d t, length-of-mirror s), omega (arith, less d t, length-of-mirror s))
