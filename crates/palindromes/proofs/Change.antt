-- What one letter more or less at an end does to the palindromes of a word: an addition brings in one at most, and that one is the longest at that end; a removal takes out one at
-- most, the longest there before. So each palindrome is the longest at the end of the prefix in which it first stands. Here the empty word counts as a palindrome.
-- Rests on the cuts of `Words`, on `Longest`, and for the left end on `Mirror`.
use Prim.Native.Nat.{ℕ, ◌≤◌}
use native.Mathlib.Omega.{arith}
use mathlib.Core.Path.{◌≡◌, ap, subst}
use mathlib.Core.Logic.{◌⊎◌, inl, inr, ⊎_elim}
use mathlib.Core.List.{[], ◌∷◌, ◌++◌, append_assoc, append-nil}
use lib.ListN.{length, length-append}
use Rattle.palindromes.specs.Word.{Word}
use Rattle.palindromes.specs.Palindrome.{SelfInverse, mirror, Symmetric}
use Rattle.palindromes.specs.Place.{Suffix, Prefix, Stands}
use Rattle.palindromes.specs.Record.{longest_suffix}
use Rattle.palindromes.specs.End.{End, at_left, at_right, added, removed, longest_at}
use Rattle.palindromes.proofs.Words.{prefix_trans, suffix-of-empty, by_last, by_end, suffix-snoc-back, stands-trans, stands-snoc, stands-cons, stands-of-snoc, prefix-append, prefix-stands, suffix-stands, removed-added, removed-empty}
use Rattle.palindromes.proofs.Mirror.{symmetric-suffix, stands-in-mirror, mirror-cons}
use Rattle.palindromes.proofs.Longest.{longest-suffix, longest-prefix}

-- ---- what stays

-- an addition takes out nothing
pub stands-added : (e : End) {w s : Word} (c : ℕ) → Stands w s → Stands w (added e c s)
unfolding added
stands-added at_left c p = stands-cons c p
stands-added at_right c p = stands-snoc c p

-- a removal brings in nothing
pub stands-removed : (e : End) {w : Word} (s : Word) → Stands w (removed e s) → Stands w s
stands-removed e {w} s p =
    ⊎_elim
    (λ n. subst (Stands w) (cc (n, removed-empty e)) p)
    (λ r. rw r.2 (stands-added e r.1 (subst (Stands w) (cc (r.2, removed-added e r.1 r.0)) p)))
    (by_end e s)

-- ---- the first end

-- p is the prefix of s at whose end w first ends: w ends p, and stands in no shorter prefix
pub record FirstEnd (w p s : Word) : Type 0 where
  pub begins : Prefix p s
  pub ends : Suffix w p
  pub first : (q : Word) → Prefix q s → Stands w q → length p ≤ length q

module _ (σ : ℕ → ℕ) where
  -- ---- what comes in

  -- a palindrome that ends a palindrome of s·c is that one, or stands in s: it begins it too
  pub symmetric-suffix-stands : {w v : Word} (s : Word) (c : ℕ) → Symmetric σ w → Symmetric σ v → Suffix w v → Stands v (s ++ (c ∷ [])) → (w ≡ v) ⊎ Stands w s
  symmetric-suffix-stands {w} {v} s c h k p q = ⊎_elim (λ n. inl (cc (n, append-nil w, begins.whole))) (λ r. inr (proper r.0 r.1 r.2)) (by_last begins.after)
    where
      begins : Prefix w v
      begins = symmetric-suffix σ h k p

      proper : (a : Word) (d : ℕ) → begins.after ≡ a ++ (d ∷ []) → Stands w s
      proper a d e =
          let f : v ≡ w ++ a ++ (d ∷ []) = cc (begins.whole, e, append_assoc w a (d ∷ [])) in
          ⊎_elim
          (λ t. stands-trans (prefix-stands begins) t)
          (λ t. stands-trans (prefix-stands (prefix-append w a)) (suffix-stands (suffix-snoc-back d c (rw f at t)).0))
          (stands-of-snoc s c q)

  -- 001 lemma 2.1: a palindrome of s·c is the longest that ends s·c, or stands in s
  pub at-most-one-new : (s w : Word) (c : ℕ) → Symmetric σ w → Stands w (s ++ (c ∷ [])) → (w ≡ longest_suffix σ (s ++ (c ∷ []))) ⊎ Stands w s
  at-most-one-new s w c h p =
      let m = longest-suffix σ (s ++ (c ∷ [])) in
      ⊎_elim inr (λ q. symmetric-suffix-stands s c h m.symmetric (m.most w h q) (suffix-stands m.suffix)) (stands-of-snoc s c p)

  -- ---- where it comes in

  -- a palindrome is the longest at its first end
  pub first-end-longest : {w p s : Word} → Symmetric σ w → FirstEnd w p s → w ≡ longest_suffix σ p
  first-end-longest {w} {p} {s} h f =
      ⊎_elim
      (λ n. cc (n, suffix-of-empty (rw n at f.ends), suffix-of-empty (longest-suffix σ []).suffix))
      (λ r. made r.0 r.1 r.2)
      (by_last p)
    where
      made : (u : Word) (c : ℕ) → p ≡ u ++ (c ∷ []) → w ≡ longest_suffix σ p
      made u c e =
          let a : Prefix u p = rw e (prefix-append u (c ∷ [])) in
          ⊎_elim
          (λ q. cc (q, e))
          (λ q. absurd (omega (arith, f.first u (prefix_trans a f.begins) q, simp length-append at (ap length e))))
          (at-most-one-new u w c h (rw e at (suffix-stands f.ends)))

module _ (σ : ℕ → ℕ) (inv : SelfInverse σ) where
  -- the same at either end: a palindrome of the word after an addition is the longest at that end now, or stood before
  pub new-is-longest : (e : End) (s w : Word) (c : ℕ) → Symmetric σ w → Stands w (added e c s) → (w ≡ longest_at σ e (added e c s)) ⊎ Stands w s
  unfolding added longest_at
  new-is-longest at_right s w c h p = at-most-one-new σ s w c h p
  new-is-longest at_left s w c h p =
      ⊎_elim
      (λ q. inl (cc (q, mirror-cons σ c s, longest-prefix σ inv (c ∷ s))))
      (λ q. inr ((stands-in-mirror σ inv h).1 q))
      (at-most-one-new σ (mirror σ s) w (σ c) h (subst (Stands w) (mirror-cons σ c s) ((stands-in-mirror σ inv h).0 p)))

  -- ---- what goes

  -- 003 lemma 1 (B): a palindrome of the word before a removal was the longest at that end, or stands still
  pub gone-is-longest : (e : End) (s w : Word) → Symmetric σ w → Stands w s → (w ≡ longest_at σ e s) ⊎ Stands w (removed e s)
  gone-is-longest e s w h p = ⊎_elim (λ n. inr (subst (Stands w) (cc (n, removed-empty e)) p)) (λ r. made r.0 r.1 r.2) (by_end e s)
    where
      made : (u : Word) (c : ℕ) → s ≡ added e c u → (w ≡ longest_at σ e s) ⊎ Stands w (removed e s)
      made u c f =
          ⊎_elim
          (λ q. inl (cc (q, f)))
          (λ q. inr (subst (Stands w) (cc (f, removed-added e c u)) q))
          (new-is-longest e u w c h (rw f at p))
