-- How much searching an addition at the right end costs. The candidates are the path along the links from the longest palindrome that ends the record (`steps-start`), so the search goes on link by
-- link (`steps-imaginary`, `steps-served`, `steps-passed`). Each one passed is shorter than the one before by at least a letter, and the one that serves grows by two: what a search passes it takes
-- from the length of the longest palindrome at the end (`steps-most`). Here the empty word counts as a palindrome.
-- Rests on `Longest`, `Growth`, `SuffixPalindromes` and the suffixes of `Stretches`. A partner rule that undoes itself is asked for only where a palindrome grows.
use Prim.Native.Nat.{ℕ, zero, suc, ◌+◌, ◌≤◌, ◌<◌}
use native.Mathlib.Omega.{arith}
use native.Mathlib.Numerals.{add-one}
use mathlib.Core.Path.{◌≡◌, refl, sym, ap, ◌∙◌}
use mathlib.Core.Bool.{Bool, true, false, cond}
use mathlib.Core.Logic.{◌⊎◌, inl, inr}
use mathlib.Core.List.{List, [], ◌∷◌, ◌++◌, map, cons-ne-nil}
use lib.Dec.{eqb}
use lib.ListN.{length, length-append}
use borrow.Author.Tests.{eqb-true, eqb-false}
use Rattle.palindromes.specs.Word.{Word, member, keep}
use Rattle.palindromes.specs.Palindrome.{SelfInverse, Symmetric}
use Rattle.palindromes.specs.Place.{Suffix}
use Rattle.palindromes.specs.Record.{suffixes, longest_suffix}
use Rattle.palindromes.specs.Node.{Node, imaginary, spelt, link_of, around}
use Rattle.palindromes.specs.SearchSteps.{candidates, serves, passed_before, search_steps}
use Rattle.palindromes.proofs.Tests.{not-true-false, decided}
use Rattle.palindromes.proofs.Words.{suffix-append, suffix-length, suffix-or-not}
use Rattle.palindromes.proofs.Stretches.{suffixes-true, suffixes-is}
use Rattle.palindromes.proofs.Longest.{longest-suffix}
use Rattle.palindromes.proofs.SuffixPalindromes.{ending-none, ending-longest, ending-link}
use Rattle.palindromes.proofs.Growth.{Walk, Faces, candidate-start, walk-link, walk-hit, nothing-longest, letter-symmetric, link-shorter}

module _ (σ : ℕ → ℕ) where
  -- ---- the candidates from a node on

  abbrev candidates_from : Node → List Node
  candidates_from imaginary = imaginary ∷ []
  candidates_from (spelt w) = candidates σ w

  -- the candidates by the palindromes among them
  listed : List Word → List Node
  listed l = map spelt l ++ (spelt [] ∷ imaginary ∷ [])

  -- those of a record are those of the longest palindrome that ends it
  candidates-longest : (s : Word) → candidates σ s ≡ candidates σ (longest_suffix σ s)
  unfolding candidates listed
  candidates-longest s = ap listed (ending-longest σ s)

  -- and after a palindrome come those from its link on
  candidates-link : (w : Word) → Symmetric σ w → candidates σ w ≡ spelt w ∷ candidates_from (link_of σ (spelt w))
  unfolding link_of candidates listed
  candidates-link [] h = ap listed (ending-none σ)
  candidates-link (x ∷ s) h = ap listed (ending-link σ x s h)

  module _ (c : ℕ) (s : Word) where
    -- ---- the search from a node on

    -- how many it passes
    pub steps_from : Node → ℕ
    steps_from v = passed_before (serves σ c s) (candidates_from v)

    -- from the longest palindrome that ends the record it is the whole search
    pub steps-start : steps_from (spelt (longest_suffix σ s)) ≡ search_steps σ c s
    unfolding steps_from search_steps
    steps-start = ap (passed_before (serves σ c s)) (sym (candidates-longest s))

    -- the imaginary string serves
    pub steps-imaginary : steps_from imaginary ≡ 0
    unfolding steps_from passed_before serves
    steps-imaginary = refl

    steps-link : (w : Word) → Symmetric σ w → steps_from (spelt w) ≡ cond (serves σ c s (spelt w)) 0 (steps_from (link_of σ (spelt w)) + 1)
    unfolding steps_from passed_before
    steps-link w h = rw (candidates-link w h, add-one) refl

    -- of the others that the walk for c comes to, one serves with the partner of c before it
    pub steps-served : (v : Node) → (v ≡ imaginary → ⊥) → Walk σ c s v → Faces σ c s v → steps_from v ≡ 0
    unfolding serves
    steps-served imaginary n a p = absurd (n refl)
    steps-served (spelt w) n a p = steps-link w a.symmetric ∙ ap (λ (t : Bool). cond t 0 (steps_from (link_of σ (spelt w)) + 1)) (suffixes-is (σ c ∷ w) s (cons-ne-nil (σ c) w) p)

    -- and any other is passed
    pub steps-passed : (v : Node) → (v ≡ imaginary → ⊥) → Walk σ c s v → (Faces σ c s v → ⊥) → steps_from v ≡ steps_from (link_of σ v) + 1
    unfolding serves
    steps-passed imaginary n a p = absurd (n refl)
    steps-passed (spelt w) n a p =
        let f = not-true-false (member (σ c ∷ w) (suffixes s)) (λ t. p (suffixes-true (σ c ∷ w) s t).1) in
        steps-link w a.symmetric ∙ ap (λ (t : Bool). cond t 0 (steps_from (link_of σ (spelt w)) + 1)) f

  -- the first letter of a record: the empty word is passed, and the imaginary one serves
  pub steps_first : (c : ℕ) → search_steps σ c [] ≡ 1
  unfolding search_steps candidates serves passed_before suffixes keep member
  steps_first c = refl

module _ (σ : ℕ → ℕ) (inv : SelfInverse σ) (c : ℕ) (s : Word) where
  -- ---- what it costs

  -- a node's length plus one, which falls along the links
  abbrev reach : Node → ℕ
  reach imaginary = 0
  reach (spelt w) = suc (length w)

  link-falls : (w : Word) → reach (link_of σ (spelt w)) < reach (spelt w)
  unfolding link_of
  link-falls [] = omega arith
  link-falls (x ∷ w) = omega (arith, link-shorter σ x w)

  -- the longest palindrome that ends the record once c has joined it
  abbrev grown : Word
  grown = longest_suffix σ (s ++ (c ∷ []))

  -- by the reach of the node that the search has come to
  steps-within : (n : ℕ) (v : Node) → reach v < n → Walk σ c s v → steps_from σ c s v + length grown ≤ suc (reach v)
  unfolding around
  steps-within zero v l a = absurd (omega arith)
  steps-within (suc n) imaginary l a = go (decided (eqb (σ c) c))
    where
      go : (eqb (σ c) c ≡ true) ⊎ (eqb (σ c) c ≡ false) → steps_from σ c s imaginary + length grown ≤ 1
      go (inl e) = omega (arith, steps-imaginary σ c s, ap length (walk-hit σ inv c s imaginary a (eqb-true (σ c) c e)))
      go (inr e) = omega (arith, steps-imaginary σ c s, ap length (nothing-longest σ c s a (eqb-false (σ c) c e)))
  steps-within (suc n) (spelt w) l a = go (steps-within n (link_of σ (spelt w)) (omega (arith, link-falls w))) (suffix-or-not (σ c ∷ w) s)
    where
      named : spelt w ≡ imaginary → ⊥
      named e = let z : ◌≡◌ {A = ℕ} 0 1 = cc in omega arith

      go : (Walk σ c s (link_of σ (spelt w)) → steps_from σ c s (link_of σ (spelt w)) + length grown ≤ suc (reach (link_of σ (spelt w)))) → Suffix (σ c ∷ w) s ⊎ (Suffix (σ c ∷ w) s → ⊥)
          → steps_from σ c s (spelt w) + length grown ≤ suc (reach (spelt w))
      go ih (inl p) = omega (arith, steps-served σ c s (spelt w) named a p, ap length (walk-hit σ inv c s (spelt w) a p), length-append w (c ∷ []))
      go ih (inr p) = omega (arith, steps-passed σ c s (spelt w) named a p, ih (walk-link σ c s (spelt w) a p), link-falls w)

  -- 02 (xiii), for the sum; 001 proposition 2.5, the estimate of k: what a search passes is paid for by the longest palindrome at the end, which an addition makes longer by at most two
  pub steps-most : search_steps σ c s + length grown ≤ length (longest_suffix σ s) + 2
  steps-most =
      let v : Node = spelt (longest_suffix σ s) in
      omega (arith, steps-start σ c s, steps-within (suc (reach v)) v (omega arith) (candidate-start σ c s))

  -- a letter that is its own partner leaves some palindrome at the end
  pub some-grown : σ c ≡ c → 1 ≤ length grown
  some-grown e = omega (arith, suffix-length ((longest-suffix σ (s ++ (c ∷ []))).most (c ∷ []) (letter-symmetric σ c e) (suffix-append s (c ∷ []))))

  -- so the search for it passes at most as many as the record then has letters
  pub steps-few : σ c ≡ c → search_steps σ c s ≤ length s + 1
  steps-few e = omega (arith, steps-most, some-grown e, suffix-length (longest-suffix σ s).suffix)
