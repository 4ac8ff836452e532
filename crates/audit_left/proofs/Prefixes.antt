-- What begins letters p once one more, d, is read at the right: a palindrome that is all of p·d begins it as it ends it, and else what began p does. The same holds of the letters but the
-- first (`rest`), which end with the longest palindrome that ends p·d or, where that is all of p·d, with its link.
-- Rests on `Longest` and `Across` of palindromes; nothing here knows of rows.
use Prim.Native.Nat.{ℕ, ◌≤◌, ◌<◌}
use native.Mathlib.Omega.{arith}
use mathlib.Core.Path.{◌≡◌, refl, sym, ap, ◌∙◌}
use mathlib.Core.Bool.{Bool, false, cond}
use mathlib.Core.List.{[], ◌∷◌, ◌++◌}
use lib.ListN.{length, length-append}
use borrow.Author.Tests.{eq-eqb, ne_eqb}
use Rattle.palindromes.specs.Word.{Word}
use Rattle.palindromes.specs.Palindrome.{SelfInverse, is_symmetric}
use Rattle.palindromes.specs.Record.{longest_suffix, longest_prefix}
use Rattle.palindromes.specs.End.{at_left, at_right, removed, without_first, longest_at}
use Rattle.palindromes.specs.Node.{spelt, link_of}
use Rattle.palindromes.proofs.Words.{suffix-length}
use Rattle.palindromes.proofs.Longest.{longest-suffix, longest-prefix-snoc, longest-suffix-cons}
use Rattle.palindromes.proofs.Across.{whole-at, whole-test}

-- the letters with one more, but the first
abbrev pub rest : Word → ℕ → Word
rest p d = removed at_left (p ++ (d ∷ []))

-- behind the first letter there are as many letters as before
pub rest-cut : (p : Word) (d : ℕ) → (y : ℕ) × (y ∷ rest p d ≡ p ++ (d ∷ []))
unfolding removed without_first
rest-cut [] d = (d, refl)
rest-cut (x ∷ u) d = (x, refl)

pub rest-length : (p : Word) (d : ℕ) → length (rest p d) ≡ length p
rest-length p d =
    let r = rest-cut p d in
    omega (arith, length-append p (d ∷ []), ap length r.1)

-- where the letters but the first are no palindrome, what begins them began them before
without : (σ : ℕ → ℕ) (p : Word) (d : ℕ) → is_symmetric σ (rest p d) ≡ false → longest_prefix σ (rest p d) ≡ longest_prefix σ (removed at_left p)
unfolding removed without_first
without σ [] d n = refl
without σ (x ∷ u) d n = longest-prefix-snoc σ u d ∙ ap (λ (v : Bool). cond v (u ++ (d ∷ [])) (longest_prefix σ u)) n

module _ (σ : ℕ → ℕ) (p : Word) (d : ℕ) where
  -- what ends p·d but the first letter: the link of p·d, where that is a palindrome
  pub link-whole : link_of σ (spelt (p ++ (d ∷ []))) ≡ spelt (longest_suffix σ (rest p d))
  unfolding link_of
  link-whole = let r = rest-cut p d in sym (ap (λ (s : Word). link_of σ (spelt s)) r.1)

  module _ (inv : SelfInverse σ) where
    -- p·d is no palindrome, if the longest that ends it is not all of it
    not-whole : length (longest_suffix σ (p ++ (d ∷ []))) ≤ length p → is_symmetric σ (p ++ (d ∷ [])) ≡ false
    unfolding longest_at
    not-whole h = whole-test σ inv at_right (p ++ (d ∷ [])) ∙ ne_eqb (length (longest_suffix σ (p ++ (d ∷ [])))) (length (p ++ (d ∷ []))) (λ e. omega (arith, length-append p (d ∷ [])))

    -- and else the longest that ends p·d
    pub ends-rest : length (longest_suffix σ (p ++ (d ∷ []))) ≤ length p → longest_suffix σ (p ++ (d ∷ [])) ≡ longest_suffix σ (rest p d)
    ends-rest h =
        let r = rest-cut p d in
        cc (longest-suffix-cons σ r.0 (rest p d), not-whole h, r.1)

    -- ---- what begins p·d

    -- the longest that begins the letters stays, unless the longest that ends them is all of them
    pub prefix-kept : length (longest_suffix σ (p ++ (d ∷ []))) ≤ length p → longest_prefix σ (p ++ (d ∷ [])) ≡ longest_prefix σ p
    prefix-kept h = longest-prefix-snoc σ p d ∙ ap (λ (v : Bool). cond v (p ++ (d ∷ [])) (longest_prefix σ p)) (not-whole h)

    pub prefix-whole : length p < length (longest_suffix σ (p ++ (d ∷ []))) → longest_prefix σ (p ++ (d ∷ [])) ≡ longest_suffix σ (p ++ (d ∷ []))
    unfolding longest_at
    prefix-whole h =
        let l = suffix-length (longest-suffix σ (p ++ (d ∷ []))).suffix in
        let y = whole-test σ inv at_right (p ++ (d ∷ [])) ∙ eq-eqb (length (longest_suffix σ (p ++ (d ∷ [])))) (length (p ++ (d ∷ []))) (omega (arith, l, length-append p (d ∷ []))) in
        longest-prefix-snoc σ p d ∙ ap (λ (v : Bool). cond v (p ++ (d ∷ [])) (longest_prefix σ p)) y ∙ sym (whole-at σ inv at_right (p ++ (d ∷ [])) y)

    -- ---- what begins p·d but the first letter

    -- what ends them, if it is as long as they are
    pub short-all : length (longest_suffix σ (rest p d)) ≡ length p → longest_prefix σ (rest p d) ≡ longest_suffix σ (rest p d)
    unfolding longest_at
    short-all e =
        let y = whole-test σ inv at_right (rest p d) ∙ eq-eqb (length (longest_suffix σ (rest p d))) (length (rest p d)) (e ∙ sym (rest-length p d)) in
        whole-at σ inv at_left (rest p d) y ∙ sym (whole-at σ inv at_right (rest p d) y)

    -- and else what began them without d does
    pub short-kept : (length (longest_suffix σ (rest p d)) ≡ length p → ⊥) → longest_prefix σ (rest p d) ≡ longest_prefix σ (removed at_left p)
    unfolding longest_at
    short-kept n = without σ p d (whole-test σ inv at_right (rest p d) ∙ ne_eqb (length (longest_suffix σ (rest p d))) (length (rest p d)) (λ e. n (e ∙ rest-length p d)))
