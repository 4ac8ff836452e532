-- The mirror of a word: it turns words round, undoes itself, and takes what ends a word to what begins its mirror. So the two ends are one theory: a palindrome stands
-- in a word exactly if it stands in the word's mirror, and a change at the left end is, seen in the mirror, the change at the right end. A law about the left end is the law
-- about the right end read on the mirror. Rests on the cuts of `Words` and on the library's laws of `reverse` and `map`; a partner rule that undoes itself is asked for
-- only where a mirror is undone.
use Prim.Native.Nat.{ℕ, suc, ◌-◌, ◌<◌}
use native.Mathlib.Nat.{eq-or-lt_of_le, le_of_suc-le-suc}
use native.Mathlib.Omega.{arith}
use mathlib.Core.Path.{◌≡◌, refl, sym, ap, ◌∙◌, subst₂}
use mathlib.Core.Logic.{⊎_elim, ◌↔◌}
use mathlib.Core.List.{[], ◌∷◌, ◌++◌, map, reverse, append_assoc, map-append, reverse-append}
use lib.ListN.{length, get_or, length-reverse, length-map, get_or-append}
use lib.Seq.{get_or_at}
use Rattle.palindromes.specs.Word.{Word}
use Rattle.palindromes.specs.Palindrome.{SelfInverse, mirror, Symmetric}
use Rattle.palindromes.specs.Place.{Suffix, Prefix, Stands}
use Rattle.palindromes.specs.End.{End, at_left, at_right, other, added, removed}
use Rattle.palindromes.proofs.Words.{by_end, removed-added, removed-empty}

module _ (σ : ℕ → ℕ) where
  -- ---- words turned round

  -- the mirror of two words joined is their mirrors joined the other way round
  pub mirror-append : (u v : Word) → mirror σ (u ++ v) ≡ mirror σ v ++ mirror σ u
  unfolding mirror
  mirror-append u v = ap reverse (map-append σ u v) ∙ reverse-append (map σ u) (map σ v)

  pub mirror-empty : mirror σ [] ≡ []
  unfolding mirror
  mirror-empty = refl

  -- a letter more at the right is its partner more at the left, and the other way
  pub mirror-snoc : (u : Word) (c : ℕ) → mirror σ (u ++ (c ∷ [])) ≡ σ c ∷ mirror σ u
  unfolding mirror
  mirror-snoc u c = mirror-append u (c ∷ [])

  pub mirror-cons : (c : ℕ) (u : Word) → mirror σ (c ∷ u) ≡ mirror σ u ++ (σ c ∷ [])
  unfolding mirror
  mirror-cons c u = mirror-append (c ∷ []) u

  pub mirror-length : (w : Word) → length (mirror σ w) ≡ length w
  unfolding mirror
  mirror-length w = length-reverse (map σ w) ∙ length-map w σ

  -- a letter of the mirror is the partner of the letter as far from the other end
  pub mirror-at : (w : Word) (i : ℕ) → i < length w → get_or (mirror σ w) i 0 ≡ σ (get_or w (length w - 1 - i) 0)
  mirror-at [] i h = absurd (omega arith)
  mirror-at (x ∷ w) i h =
      ⊎_elim
      (λ same.
      let first : suc (length w) - 1 - i ≡ 0 = omega arith in
      cc (first, mirror-cons x w, get_or_at (mirror σ w) (σ x) [] 0 i (cc (mirror-length w))))
      (λ less.
      let before : suc (length w) - 1 - i ≡ suc (length w - 1 - i) = omega arith in
      cc (before, mirror-cons x w, get_or-append (mirror σ w) (σ x ∷ []) 0 i (omega (arith, mirror-length w)), mirror-at w i less))
      (eq-or-lt_of_le (le_of_suc-le-suc h))

  -- ---- what ends a word, what begins it, what stands in it

  pub suffix-mirror : {p s : Word} → Suffix p s → Prefix (mirror σ p) (mirror σ s)
  suffix-mirror {p} a = record { after = mirror σ a.before; whole = sym (mirror-append a.before p) ∙ ap (mirror σ) a.whole }

  pub stands-mirror : {p s : Word} → Stands p s → Stands (mirror σ p) (mirror σ s)
  stands-mirror {p} {s} a =
      record {
        before = mirror σ a.after;
        after = mirror σ a.before;
        whole =
            cc (
              mirror-append (a.before ++ p) a.after,
              mirror-append a.before p,
              append_assoc (mirror σ a.after) (mirror σ p) (mirror σ a.before),
              ap (mirror σ) a.whole,
            );
      }

  -- ---- palindromes

  -- 001 proposition 2.5, in the proof: a palindrome that ends a palindrome begins it, so a suffix link leads to a word that stood before
  pub symmetric-suffix : {p s : Word} → Symmetric σ p → Symmetric σ s → Suffix p s → Prefix p s
  symmetric-suffix {p} {s} h k a = subst₂ Prefix h k (suffix-mirror a)

  -- ---- changes at the ends

  -- an addition at one end is, in the mirror, the addition of the partner at the other
  pub mirror-added : (e : End) (c : ℕ) (s : Word) → mirror σ (added e c s) ≡ added (other e) (σ c) (mirror σ s)
  unfolding added
  mirror-added at_left c s = mirror-cons c s
  mirror-added at_right c s = mirror-snoc s c

  -- and so is a removal
  pub mirror-removed : (e : End) (s : Word) → mirror σ (removed e s) ≡ removed (other e) (mirror σ s)
  mirror-removed e s =
      ⊎_elim
      (λ n. cc (n, mirror-empty, removed-empty e, removed-empty (other e)))
      (λ r. cc (r.2, removed-added e r.1 r.0, mirror-added e r.1 r.0, removed-added (other e) (σ r.1) (mirror σ r.0)))
      (by_end e s)

module _ (σ : ℕ → ℕ) (inv : SelfInverse σ) where
  -- the mirror undoes itself
  pub mirror-mirror : (w : Word) → mirror σ (mirror σ w) ≡ w
  mirror-mirror [] = cc (mirror-empty σ)
  mirror-mirror (x ∷ w) = cc (mirror-cons σ x w, mirror-snoc σ (mirror σ w) (σ x), mirror-mirror w, inv x)

  -- the two ends are one theory: a palindrome stands in a word exactly if it stands in the word's mirror
  pub stands-in-mirror : {w s : Word} → Symmetric σ w → Stands w s ↔ Stands w (mirror σ s)
  stands-in-mirror {w} {s} h = (λ a. rw h at (stands-mirror σ a), λ a. subst₂ Stands h (mirror-mirror s) (stands-mirror σ a))
