-- The longest palindrome at an end of a word. `Longest σ v s` says it with no arithmetic: every palindrome that ends s ends v. There is one such v, the computed `longest_suffix`
-- is it, and the computed `longest_prefix` is the longest at the right end of the mirror. Here the empty word counts as a palindrome.
-- Rests on the order laws of `Words`, the tests of `Tests` and, for the left end, the mirror of `Mirror`.
use Prim.Native.Nat.{ℕ}
use mathlib.Core.Path.{◌≡◌, refl, sym}
use mathlib.Core.Bool.{Bool, true, false, cond}
use mathlib.Core.Logic.{◌⊎◌, inl, inr}
use mathlib.Core.List.{List, [], ◌∷◌, ◌++◌, map-append}
use Rattle.palindromes.specs.Word.{Word}
use Rattle.palindromes.specs.Palindrome.{SelfInverse, mirror, Symmetric, is_symmetric}
use Rattle.palindromes.specs.Place.{Suffix}
use Rattle.palindromes.specs.Record.{prefixes, longest_suffix, last_symmetric, longest_prefix}
use Rattle.palindromes.specs.End.{End, at_left, at_right, longest_at, other}
use Rattle.palindromes.proofs.Tests.{not-true-false, false-not-true, symmetric-true, symmetric-is}
use Rattle.palindromes.proofs.Words.{suffix_refl, suffix-antisym, suffix-cons, suffix-of-cons, snoc-induction}
use Rattle.palindromes.proofs.Mirror.{mirror-empty, mirror-snoc, mirror-mirror}

-- v equals its own reversal, ends s, and every word that does both ends v
pub record Longest (σ : ℕ → ℕ) (v s : Word) : Type 0 where
  pub symmetric : Symmetric σ v
  pub suffix : Suffix v s
  pub most : (w : Word) → Symmetric σ w → Suffix w s → Suffix w v

-- the non-empty prefixes of a word with one letter more: one more, the whole
pub prefixes-snoc : (s : Word) (c : ℕ) → prefixes (s ++ (c ∷ [])) ≡ prefixes s ++ ((s ++ (c ∷ [])) ∷ [])
unfolding prefixes
prefixes-snoc [] c = refl
prefixes-snoc (x ∷ s) c = cc (prefixes-snoc s c, map-append (λ (p : Word). x ∷ p) (prefixes s) ((s ++ (c ∷ [])) ∷ []))

module _ (σ : ℕ → ℕ) where
  -- there is one longest at most
  pub longest-unique : {v w s : Word} → Longest σ v s → Longest σ w s → v ≡ w
  longest-unique {v} {w} a b = suffix-antisym (b.most v a.symmetric a.suffix) (a.most w b.symmetric b.suffix)

  -- the computed one is it
  pub longest-suffix : (s : Word) → Longest σ (longest_suffix σ s) s
  unfolding longest_suffix
  longest-suffix [] = record { symmetric = mirror-empty σ; suffix = suffix_refl; most = λ w h k. k }
  longest-suffix (x ∷ s) = go (longest-suffix s) (is_symmetric σ (x ∷ s)) refl
    where
      go : Longest σ (longest_suffix σ s) s → (b : Bool) → is_symmetric σ (x ∷ s) ≡ b → Longest σ (cond b (x ∷ s) (longest_suffix σ s)) (x ∷ s)
      go ih true e = record { symmetric = symmetric-true σ (x ∷ s) e; suffix = suffix_refl; most = λ w h k. k }
      go ih false e = record { symmetric = ih.symmetric; suffix = suffix-cons x ih.suffix; most = λ w h k. in_tail w h (suffix-of-cons x k) }
        where
          in_tail : (w : Word) → Symmetric σ w → (w ≡ x ∷ s) ⊎ Suffix w s → Suffix w (longest_suffix σ s)
          in_tail w h (inl q) = absurd (false-not-true e (symmetric-is σ (x ∷ s) (rw q at h)))
          in_tail w h (inr k) = ih.most w h k

  -- so whatever is the longest is the computed one
  pub longest-is : {v s : Word} → Longest σ v s → v ≡ longest_suffix σ s
  longest-is {s} a = longest-unique a (longest-suffix s)

  -- the search from the shortest prefix takes the last one that serves
  last-symmetric-snoc : (found : Word) (ws : List Word) (w : Word) → last_symmetric σ found (ws ++ (w ∷ [])) ≡ cond (is_symmetric σ w) w (last_symmetric σ found ws)
  unfolding last_symmetric
  last-symmetric-snoc found [] w = refl
  last-symmetric-snoc found (v ∷ ws) w = last-symmetric-snoc (cond (is_symmetric σ v) v found) ws w

  -- the longest at the left end after an addition at the right: the whole word where it equals its reversal, else the one before
  pub longest-prefix-snoc : (s : Word) (c : ℕ) → longest_prefix σ (s ++ (c ∷ [])) ≡ cond (is_symmetric σ (s ++ (c ∷ []))) (s ++ (c ∷ [])) (longest_prefix σ s)
  unfolding longest_prefix
  longest-prefix-snoc s c = cc (prefixes-snoc s c, last-symmetric-snoc [] (prefixes s) (s ++ (c ∷ [])))

  -- the longest at the right end after an addition at the left, likewise
  pub longest-suffix-cons : (c : ℕ) (s : Word) → longest_suffix σ (c ∷ s) ≡ cond (is_symmetric σ (c ∷ s)) (c ∷ s) (longest_suffix σ s)
  unfolding longest_suffix
  longest-suffix-cons c s = refl

  -- at neither end of the empty word does anything stand
  pub longest-empty : (e : End) → longest_at σ e [] ≡ []
  unfolding longest_at longest_prefix prefixes last_symmetric longest_suffix
  longest-empty at_left = refl
  longest-empty at_right = refl

module _ (σ : ℕ → ℕ) (inv : SelfInverse σ) where
  -- a word and its mirror equal their reversals together
  pub symmetric-of-mirror : (w : Word) → is_symmetric σ (mirror σ w) ≡ is_symmetric σ w
  symmetric-of-mirror w = go (is_symmetric σ w) refl
    where
      go : (b : Bool) → is_symmetric σ w ≡ b → is_symmetric σ (mirror σ w) ≡ b
      go true e = rw (symmetric-true σ w e) e
      go false e =
          not-true-false (is_symmetric σ (mirror σ w)) λ t.
          false-not-true e (symmetric-is σ w (cc (symmetric-true σ (mirror σ w) t, mirror-mirror σ inv w)))

  -- the longest at the left end is the longest at the right end of the mirror
  pub longest-prefix : (s : Word) → longest_prefix σ s ≡ longest_suffix σ (mirror σ s)
  unfolding longest_at
  longest-prefix = snoc-induction (λ s. longest_prefix σ s ≡ longest_suffix σ (mirror σ s)) (cc (longest-empty σ at_left, longest-empty σ at_right, mirror-empty σ)) step
    where
      step : (s : Word) (c : ℕ) → longest_prefix σ s ≡ longest_suffix σ (mirror σ s) → longest_prefix σ (s ++ (c ∷ [])) ≡ longest_suffix σ (mirror σ (s ++ (c ∷ [])))
      step s c ih =
          let w : Word = s ++ (c ∷ []) in
          cc (
            longest-prefix-snoc σ s c,
            cases (is_symmetric σ w) refl,
            mirror-snoc σ s c,
            symmetric-of-mirror w,
            longest-suffix-cons σ (σ c) (mirror σ s),
          )
        where
          cases : (b : Bool) → is_symmetric σ (s ++ (c ∷ [])) ≡ b → cond b (s ++ (c ∷ [])) (longest_prefix σ s) ≡ cond b (mirror σ (s ++ (c ∷ []))) (longest_suffix σ (mirror σ s))
          cases true e = sym (symmetric-true σ (s ++ (c ∷ [])) e)
          cases false e = ih

  -- the longest at one end is the longest at the other end of the mirror
  pub longest-in-mirror : (e : End) (s : Word) → longest_at σ e s ≡ longest_at σ (other e) (mirror σ s)
  unfolding longest_at
  longest-in-mirror at_left s = longest-prefix s
  longest-in-mirror at_right s = cc (longest-prefix (mirror σ s), mirror-mirror σ inv s)
