-- Where the longest palindrome that ends p·d stood in p, it is not all of p·d but the first letter either, unless p is empty: else p were that palindrome, and p·d the same letter all through, and itself a
-- palindrome. So what begins p·d but the first letter is what began p but the first (`short-known`). Nothing here knows of rows.
use Prim.Native.Nat.{ℕ, ◌≤◌}
use native.Mathlib.Omega.{arith}
use mathlib.Core.Path.{◌≡◌, refl, sym, ap, ◌∙◌}
use mathlib.Core.List.{[], ◌∷◌, ◌++◌, append-nil, head-eq_of_cons-eq, tail-eq_of_cons-eq}
use lib.ListN.{length, length-append}
use Rattle.palindromes.specs.Word.{Word}
use Rattle.palindromes.specs.Palindrome.{SelfInverse, Symmetric, mirror}
use Rattle.palindromes.specs.Place.{Stands}
use Rattle.palindromes.specs.Record.{longest_suffix, longest_prefix}
use Rattle.palindromes.specs.End.{at_left, removed, without_first}
use Rattle.palindromes.proofs.Mirror.{mirror-snoc}
use Rattle.palindromes.proofs.Words.{no-letters, suffix_refl, suffix-length, suffix-full, suffix-shorter, stands-length}
use Rattle.palindromes.proofs.Longest.{longest-suffix}
use Rattle.audit_left.proofs.Prefixes.{rest, rest-cut, rest-length, ends-rest, short-kept}

-- a word that stands in another of its length is that word
stands-all : {a b : Word} → Stands a b → length b ≤ length a → a ≡ b
stands-all {a} p h =
    let n = simp length-append at (ap length p.whole) in
    cc (no-letters p.before (omega arith), no-letters p.after (omega arith), append-nil a, p.whole)

module _ (σ : ℕ → ℕ) where
  -- a palindrome that is itself with a letter more at the left and one at the right: then it is one with the letter too
  shifted : (x y : ℕ) (u : Word) (d : ℕ) → x ∷ y ∷ u ≡ y ∷ u ++ (d ∷ []) → Symmetric σ (y ∷ u) → Symmetric σ (y ∷ u ++ (d ∷ []))
  shifted x y u d e h =
      let first = head-eq_of_cons-eq e in
      let more : y ∷ u ≡ u ++ (d ∷ []) = tail-eq_of_cons-eq e in
      let faces : σ d ≡ y = head-eq_of_cons-eq (sym (mirror-snoc σ u d) ∙ ap (mirror σ) (sym more) ∙ h) in
      mirror-snoc σ (y ∷ u) d ∙ cc (faces, h, first, e)

  module _ (y : ℕ) (u : Word) (d : ℕ) where
    known-shorter : Stands (longest_suffix σ (y ∷ u ++ (d ∷ []))) (y ∷ u) → length (longest_suffix σ (y ∷ u ++ (d ∷ []))) ≡ length (y ∷ u) → ⊥
    known-shorter s e =
        let m = longest-suffix σ (y ∷ u ++ (d ∷ [])) in
        let r = rest-cut (y ∷ u) d in
        let all : longest_suffix σ (y ∷ u ++ (d ∷ [])) ≡ y ∷ u = stands-all s (omega (arith, e)) in
        let behind = suffix-full (suffix-shorter m.suffix (record { before = r.0 ∷ []; whole = r.1 }) (omega (arith, e, rest-length (y ∷ u) d))) (omega (arith, e, rest-length (y ∷ u) d)) in
        let again : r.0 ∷ y ∷ u ≡ y ∷ u ++ (d ∷ []) = ap (λ (t : Word). r.0 ∷ t) (sym all ∙ behind) ∙ r.1 in
        let whole = shifted r.0 y u d again (rw (← all) m.symmetric) in
        omega (arith, e, suffix-length (m.most (y ∷ u ++ (d ∷ [])) whole suffix_refl), length-append (y ∷ u) (d ∷ []))

  pub short-known : SelfInverse σ → (p : Word) (d : ℕ) → Stands (longest_suffix σ (p ++ (d ∷ []))) p → longest_prefix σ (rest p d) ≡ longest_prefix σ (removed at_left p)
  unfolding removed without_first
  short-known inv [] d s = refl
  short-known inv (y ∷ u) d s = short-kept σ (y ∷ u) d inv λ e. known-shorter y u d s (ap length (ends-rest σ (y ∷ u) d inv (stands-length s)) ∙ e)
