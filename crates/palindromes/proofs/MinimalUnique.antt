-- Minimal unique palindromes, word by word: what the test says (`minimal_true`); of two of them none stands in the other (`none_inside`); and which
-- nodes of the eertree spell one, by the frequencies of a node and of its inner node: 003 lemma 5 (`minimal-by-node`). Rests on the cuts of `Words`
-- and `Places`. The partner rule may be any.
use Prim.Native.Nat.{ℕ, ◌<◌}
use native.Mathlib.Omega.{arith}
use mathlib.Core.Path.{◌≡◌, refl, ap}
use mathlib.Core.Bool.{Bool, true, false, ◌&&◌}
use mathlib.Core.Logic.{◌⊎◌, inl, inr, ⊎_elim}
use mathlib.Core.List.{[], ◌∷◌, ◌++◌, append_assoc, append-nil}
use lib.Dec.{ltb, eqb}
use lib.ListN.{length, length-append}
use borrow.Author.Tests.{ltb-true}
use Rattle.palindromes.specs.Word.{Word, is_empty, member}
use Rattle.palindromes.specs.Palindrome.{mirror, Palindrome, is_palindrome}
use Rattle.palindromes.specs.Place.{Stands, frequency, stands_once}
use Rattle.palindromes.specs.Record.{palindromes}
use Rattle.palindromes.specs.End.{at_right, added, removed, without_first, without_last}
use Rattle.palindromes.specs.Node.{spelt, inner_of, spelling_of}
use Rattle.palindromes.specs.MinimalUnique.{inner_word, is_repeating, is_minimal_unique}
use Rattle.palindromes.proofs.Tests.{both_true, both-are, false-not-true, non-empty-is, palindrome-true, palindrome-is}
use Rattle.palindromes.proofs.Words.{by_last, no-letters, removed-added, stands-of-empty, stands-within}
use Rattle.palindromes.proofs.Mirror.{mirror-append, mirror-length}
use Rattle.palindromes.proofs.Lists.{either_true, same_test}
use Rattle.palindromes.proofs.Places.{twice, stands-once-true}
use Rattle.palindromes.proofs.Palindromes.{palindromes-true, palindromes-is}

-- ---- the inner word

-- what stands between two letters
inner-between : (x : ℕ) (u : Word) (y : ℕ) → inner_word (x ∷ u ++ (y ∷ [])) ≡ u
unfolding inner_word without_first added removed
inner-between x u y = ap without_first (removed-added at_right y (x ∷ u))

-- it is what the inner node spells
inner-spelling : (w : Word) → inner_word w ≡ spelling_of (inner_of (spelt w))
unfolding inner_word without_first without_last spelling_of inner_of
inner-spelling [] = refl
inner-spelling (x ∷ []) = refl
inner-spelling (x ∷ y ∷ w) = refl

-- ---- what the tests say

empty-true : (w : Word) → is_empty w ≡ true → w ≡ []
unfolding is_empty
empty-true [] e = refl
empty-true (x ∷ w) e = absurd (false-not-true refl e)

repeating-true : (v s : Word) → is_repeating v s ≡ true → (v ≡ []) ⊎ (1 < frequency v s)
unfolding is_repeating
repeating-true v s e =
    ⊎_elim (λ i. inl (empty-true v i)) (λ i. inr (ltb-true 1 (frequency v s) i)) (either_true (is_empty v) (ltb 1 (frequency v s)) e)

pub repeating-empty : (s : Word) → is_repeating [] s ≡ true
unfolding is_repeating is_empty
repeating-empty s = refl

pub repeating-some : (v s : Word) → (v ≡ [] → ⊥) → is_repeating v s ≡ ltb 1 (frequency v s)
unfolding is_repeating
repeating-some v s n = rw (non-empty-is v n) refl

pub record MinimalUnique (σ : ℕ → ℕ) (s w : Word) : Type 0 where
  pub palindrome : Palindrome σ w
  pub there : Stands w s
  pub once : (c d : Stands w s) → c.before ≡ d.before
  pub inner : (inner_word w ≡ []) ⊎ (1 < frequency (inner_word w) s)

module _ (σ : ℕ → ℕ) (s : Word) where
  -- test by test
  tests : (w : Word) → is_minimal_unique σ s w ≡ true → (is_palindrome σ w ≡ true) × (stands_once w s ≡ true) × (is_repeating (inner_word w) s ≡ true)
  unfolding is_minimal_unique
  tests w e =
      let h = both_true (is_palindrome σ w && stands_once w s) (is_repeating (inner_word w) s) e in
      let k = both_true (is_palindrome σ w) (stands_once w s) h.0 in
      (k.0, k.1, h.1)

  pub minimal_true : (w : Word) → is_minimal_unique σ s w ≡ true → MinimalUnique σ s w
  minimal_true w e =
      let t = tests w e in
      let o = stands-once-true w s t.1 in
      record { palindrome = palindrome-true σ w t.0; there = o.0; once = o.1; inner = repeating-true (inner_word w) s t.2 }

  -- the empty word is none
  pub minimal-empty : is_minimal_unique σ s [] ≡ false
  unfolding is_minimal_unique is_palindrome is_empty
  minimal-empty = refl

  -- 003 lemma 5: a word is minimal unique exactly if it is a palindrome of the record, which has a node each, that stands once, and its inner node
  -- spells nothing or stands at least twice
  pub minimal-by-node : (w : Word)
      → is_minimal_unique σ s w ≡ (member w (palindromes σ s) && eqb (frequency w s) 1 && is_repeating (spelling_of (inner_of (spelt w))) s)
  unfolding is_minimal_unique stands_once
  minimal-by-node w = same_test (is_minimal_unique σ s w) _ there back
    where
      node : Bool
      node = member w (palindromes σ s)

      repeating : Bool
      repeating = is_repeating (spelling_of (inner_of (spelt w))) s

      there : is_minimal_unique σ s w ≡ true → (node && eqb (frequency w s) 1 && repeating) ≡ true
      there e =
          let t = tests w e in
          let m = minimal_true w e in
          let k = both-are node (stands_once w s) (palindromes-is σ w s m.palindrome m.there) t.1 in
          both-are (node && stands_once w s) repeating k (rw (inner-spelling w) at t.2)

      back : (node && eqb (frequency w s) 1 && repeating) ≡ true → is_minimal_unique σ s w ≡ true
      back e =
          let h = both_true (node && stands_once w s) repeating e in
          let k = both_true node (stands_once w s) h.0 in
          let p = palindrome-is σ w (palindromes-true σ w s k.0).0 in
          let both = both-are (is_palindrome σ w) (stands_once w s) p k.1 in
          both-are (is_palindrome σ w && stands_once w s) (is_repeating (inner_word w) s) both (rw (inner-spelling w) h.1)

  -- ---- none inside another

  -- a minimal unique palindrome that stands in another is that one: it stands in the middle, or it would stand there again in the mirror; and then it
  -- stands in the inner word, which stands twice
  pub none_inside : {w v : Word} → MinimalUnique σ s w → MinimalUnique σ s v → Stands w v → w ≡ v
  none_inside {w} {v} a b c = go (by_last c.after) c.before refl
    where
      -- the same piece in the mirror
      turned : Stands w v
      turned =
          record {
            before = mirror σ c.after;
            after = mirror σ c.before;
            whole =
                cc (
                  mirror-append σ (c.before ++ w) c.after,
                  mirror-append σ c.before w,
                  append_assoc (mirror σ c.after) (mirror σ w) (mirror σ c.before),
                  ap (mirror σ) c.whole,
                  a.palindrome.symmetric,
                  b.palindrome.symmetric,
                );
          }

      middle : length c.before ≡ length c.after
      middle =
          let l = stands-within c b.there in
          let r = stands-within turned b.there in
          let e : b.there.before ++ c.before ≡ b.there.before ++ mirror σ c.after = cc (a.once l.0 r.0) in
          omega (arith, simp length-append at (ap length e), mirror-length σ c.after)

      inside : Stands w (inner_word v) → ⊥
      inside i = ⊎_elim (λ e. a.palindrome.non-empty (stands-of-empty (rw e at i))) again b.inner
        where
          again : 1 < frequency (inner_word v) s → ⊥
          again f =
              let t = twice (inner_word v) s f in
              let l = stands-within i t.0 in
              let r = stands-within i t.1 in
              let e : t.0.before ++ i.before ≡ t.1.before ++ i.before = cc (a.once l.0 r.0) in
              omega (arith, t.2, simp length-append at (ap length e))

      go : (c.after ≡ []) ⊎ ((z : Word) × (y : ℕ) × (c.after ≡ z ++ (y ∷ []))) → (l : Word) → c.before ≡ l → w ≡ v
      go (inl e) l f =
          let n : c.before ≡ [] = no-letters c.before (omega (arith, middle, ap length e)) in
          cc (c.whole, e, n, append-nil w)
      go (inr r) [] f = absurd (omega (arith, middle, ap length f, simp length-append at (ap length r.2)))
      go (inr r) (x ∷ l) f =
          let u : Word = l ++ w ++ r.0 in
          let e : x ∷ u ++ (r.1 ∷ []) ≡ v = cc (c.whole, f, r.2, append_assoc (x ∷ l ++ w) r.0 (r.1 ∷ [])) in
          absurd (inside (rw (← e, inner-between x u r.1) (record { before = l; after = r.0; whole = refl })))
