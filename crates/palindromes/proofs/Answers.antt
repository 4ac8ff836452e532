-- How the answers to the questions grow when a record is read letter by letter from the left: the longest palindrome and its leftmost place follow from those of the record so far
-- and from the longest palindrome that ends it now; a palindrome stands in the record exactly if it was the longest at the end of some prefix; and the longest at an end stands once only exactly
-- if it does not stand in the record without that end's letter. So one walk from left to right computes each.
-- Rests on `palindromes-snoc` of `Palindromes`, on the longest palindrome in `Order`, on `at-most-one-new` of `Change` and, for the end at the right, on the mirror.
use Prim.Native.Nat.{ℕ, suc, ◌+◌, ◌-◌, ◌≤◌, ◌<◌, max}
use native.Mathlib.Omega.{arith}
use mathlib.Core.Path.{◌≡◌, refl, sym, ap, ◌∙◌, subst, subst₂}
use mathlib.Core.Bool.{Bool, true, false, not, cond, ◌||◌}
use mathlib.Core.Logic.{◌⊎◌, inl, inr, ⊎_elim}
use mathlib.Core.List.{List, [], ◌∷◌, ◌++◌, map, append_assoc, map-append, cons-ne-nil}
use lib.Dec.{eqb, ltb}
use lib.ListN.{length, take, get_or, length-append}
use lib.Seq.{take-suc, length-take-le}
use borrow.Author.Tests.{eqb-true, eq-eqb, ltb-true, ltb-false, le-ltb, not-true}
use Rattle.palindromes.specs.Word.{Word, keep, same_word}
use Rattle.palindromes.specs.Palindrome.{SelfInverse, mirror, Symmetric, Palindrome}
use Rattle.palindromes.specs.Place.{Prefix, Stands, frequency, first_place, stands, stands_once}
use Rattle.palindromes.specs.Record.{palindromes, count, greatest, least, longest_length, longest_place, longest_suffix, longest_prefix}
use Rattle.palindromes.specs.End.{End, at_left, at_right, removed, without_first, longest_at}
use Rattle.palindromes.proofs.Tests.{same_true, same_refl}
use Rattle.palindromes.proofs.Words.{no-letters, suffix-stands, prefix-of-snoc, stands-snoc, stands-or-not}
use Rattle.palindromes.proofs.Mirror.{mirror-append, mirror-length, mirror-mirror, mirror-removed, suffix-mirror, stands-in-mirror}
use Rattle.palindromes.proofs.Longest.{longest-suffix, longest-prefix, longest-in-mirror}
use Rattle.palindromes.proofs.Change.{at-most-one-new}
use Rattle.palindromes.proofs.Lists.{same_test, either_true, left_is, right_is, member-length}
use Rattle.palindromes.proofs.Places.{starts_is, frequency-cons, stands-true, stands-is, same_place, stands-once-true, stands-once-is}
use Rattle.palindromes.proofs.Palindromes.{fresh, fresh-old, fresh-new, fresh-empty, longest-palindrome, palindromes-is, palindromes-empty, palindromes-snoc}
use Rattle.palindromes.proofs.Order.{longest-length-most, longest-place-is, longest-place-least}

-- ---- one letter more at the right end

-- a piece of the longer record ends with it, or stands at the same place in the record before
cut-of-snoc : {w : Word} (s : Word) (c : ℕ) (k : Stands w (s ++ (c ∷ []))) → (length k.before + length w ≡ suc (length s)) ⊎ ((d : Stands w s) × (d.before ≡ k.before))
cut-of-snoc {w} s c k =
    ⊎_elim
    (λ e. inl (omega (arith, simp length-append at (ap length e))))
    (λ p. inr (record { before = k.before; after = p.after; whole = p.whole }, refl))
    (prefix-of-snoc {w = k.before ++ w} s c (record { after = k.after; whole = k.whole }))

-- and where it stood it stands
cut-in-snoc : {w : Word} (s : Word) (c : ℕ) (k : Stands w s) → (d : Stands w (s ++ (c ∷ []))) × (d.before ≡ k.before)
cut-in-snoc {w} s c k = (record { before = k.before; after = k.after ++ (c ∷ []); whole = cc (append_assoc (k.before ++ w) k.after (c ∷ [])) }, refl)

greatest-append : (a b : List ℕ) → greatest (a ++ b) ≡ max (greatest a) (greatest b)
unfolding greatest
greatest-append [] b = omega arith
greatest-append (k ∷ a) b = omega (arith, greatest-append a b)

module _ (σ : ℕ → ℕ) where
  -- ---- the longest palindrome

  -- a record with no palindrome answers 0 twice
  pub none-length : (s : Word) → palindromes σ s ≡ [] → longest_length σ s ≡ 0
  unfolding longest_length greatest
  none-length s e = ap (λ (l : List Word). greatest (map length l)) e

  none-place : (s : Word) → palindromes σ s ≡ [] → longest_place σ s ≡ 0
  unfolding longest_place least keep
  none-place s e = ap (λ (l : List Word). least (map (λ p. first_place p s) (keep (λ p. eqb (length p) (longest_length σ s)) l))) e

  -- where a walk from left to right begins: the empty record
  pub longest-length-empty : longest_length σ [] ≡ 0
  longest-length-empty = none-length [] (palindromes-empty σ)

  pub longest-place-empty : longest_place σ [] ≡ 0
  longest-place-empty = none-place [] (palindromes-empty σ)

  -- nothing that equals its reversal is longer than the longest palindrome, the empty word among it
  pub symmetric-most : (w s : Word) → Symmetric σ w → Stands w s → length w ≤ longest_length σ s
  symmetric-most [] s h k = omega arith
  symmetric-most (x ∷ w) s h k = longest-length-most σ (x ∷ w) s (record { non-empty = cons-ne-nil x w; symmetric = h }) k

  -- after one letter more the longest is the longest so far or the longest that ends there
  pub longest-length-snoc : (p : Word) (c : ℕ) → longest_length σ (p ++ (c ∷ [])) ≡ max (longest_length σ p) (length (longest_suffix σ (p ++ (c ∷ []))))
  unfolding longest_length greatest
  longest-length-snoc p c = rw (palindromes-snoc, map-append, greatest-append) (⊎_elim old new (stands-or-not v p))
    where
      v : Word
      v = longest_suffix σ (p ++ (c ∷ []))

      old : Stands v p → max (longest_length σ p) (greatest (map length (fresh v p))) ≡ max (longest_length σ p) (length v)
      old h = rw (fresh-old v p h) (omega (arith, symmetric-most v p (longest-suffix σ (p ++ (c ∷ []))).symmetric h))

      new : (Stands v p → ⊥) → max (longest_length σ p) (greatest (map length (fresh v p))) ≡ max (longest_length σ p) (length v)
      new n = rw (fresh-new v p n) (omega arith)

  -- a record has no palindrome or some, and some if one stands in it
  pub none_or_some : (s : Word) → (palindromes σ s ≡ []) ⊎ (0 < count σ s)
  unfolding count
  none_or_some s = go (palindromes σ s)
    where
      go : (l : List Word) → (l ≡ []) ⊎ (0 < length l)
      go [] = inl refl
      go (w ∷ l) = inr (omega arith)

  some-palindrome : (w s : Word) → Palindrome σ w → Stands w s → 0 < count σ s
  unfolding count
  some-palindrome w s p h = member-length w (palindromes σ s) (palindromes-is σ w s p h)

  -- a strictly longer palindrome at the end is the only one of its length, and its place is the answer; otherwise the place so far is still the leftmost
  pub longest-place-snoc : (p : Word) (c : ℕ)
      → longest_place σ (p ++ (c ∷ [])) ≡ cond (ltb (longest_length σ p) (length (longest_suffix σ (p ++ (c ∷ []))))) (suc (length p) - length (longest_suffix σ (p ++ (c ∷ [])))) (longest_place σ p)
  longest-place-snoc p c = go (ltb (longest_length σ p) (length v)) refl
    where
      t : Word
      t = p ++ (c ∷ [])

      v : Word
      v = longest_suffix σ t

      longest : longest_length σ t ≡ max (longest_length σ p) (length v)
      longest = longest-length-snoc p c

      -- a longest one is not in the record before, so it ends with the new letter
      longer : longest_length σ p < length v → longest_place σ t ≡ suc (length p) - length v
      longer h =
          let a = longest-palindrome σ t λ e. omega (arith, ap length e) in
          let r = longest-place-is σ t (some-palindrome v t a (suffix-stands (longest-suffix σ t).suffix)) in
          ⊎_elim
          (λ e. omega (arith, longest, r.4))
          (λ d. absurd (omega (arith, longest, longest-length-most σ r.0 p r.2 d.0)))
          (cut-of-snoc p c r.1)

      -- one of the record before begins further left than any that ends with the new letter
      as_long : length v ≤ longest_length σ p → 0 < count σ p → longest_place σ t ≡ longest_place σ p
      as_long h k =
          let a = longest-place-is σ p k in
          let b = longest-place-is σ t (some-palindrome a.0 t a.2 (stands-snoc c a.1)) in
          let d = cut-in-snoc p c a.1 in
          let low = longest-place-least σ a.0 t a.2 (omega (arith, longest, a.3)) d.0 in
          let moved = ap length d.1 in
          ⊎_elim
          (λ e. omega (arith, longest, a.3, a.4, b.3, b.4, simp length-append at (ap length a.1.whole)))
          (λ q. omega (arith, a.4, b.4, ap length q.1, longest-place-least σ b.0 p b.2 (omega (arith, longest, b.3)) q.0))
          (cut-of-snoc p c b.1)

      none : length v ≤ longest_length σ p → palindromes σ p ≡ [] → longest_place σ t ≡ longest_place σ p
      none h e =
          let n : v ≡ [] = no-letters v (omega (arith, none-length p e)) in
          none-place t (cc (palindromes-snoc σ p c, fresh-empty p)) ∙ sym (none-place p e)

      go : (b : Bool) → ltb (longest_length σ p) (length v) ≡ b → longest_place σ t ≡ cond b (suc (length p) - length v) (longest_place σ p)
      go true e = longer (ltb-true (longest_length σ p) (length v) e)
      go false e =
          let h = ltb-false (longest_length σ p) (length v) e in
          ⊎_elim (none h) (as_long h) (none_or_some p)

  -- ---- met as the longest

  -- for a palindrome: it stands in the longer record exactly if it stood before or is the longest at the end now
  pub met-snoc : (s w : Word) (c : ℕ) → Symmetric σ w → stands w (s ++ (c ∷ [])) ≡ (stands w s || same_word w (longest_suffix σ (s ++ (c ∷ []))))
  met-snoc s w c h = same_test (stands w t) (stands w s || same_word w v) there back
    where
      t : Word
      t = s ++ (c ∷ [])

      v : Word
      v = longest_suffix σ t

      there : stands w t ≡ true → (stands w s || same_word w v) ≡ true
      there e =
          ⊎_elim
          (λ q. right_is (stands w s) (same_word w v) (rw (← q) (same_refl w)))
          (λ q. left_is (stands w s) (same_word w v) (stands-is w s q))
          (at-most-one-new σ s w c h (stands-true w t e))

      back : (stands w s || same_word w v) ≡ true → stands w t ≡ true
      back e =
          ⊎_elim
          (λ q. stands-is w t (stands-snoc c (stands-true w s q)))
          (λ q. stands-is w t (rw (same_true w v q) (suffix-stands (longest-suffix σ t).suffix)))
          (either_true (stands w s) (same_word w v) e)

  -- ---- the same for the prefixes of one record, by the number of their letters

  -- how a walk over the places k of s goes on: its longest length
  pub prefix-longest-length : (s : Word) (k : ℕ) → k < length s → longest_length σ (take (suc k) s) ≡ max (longest_length σ (take k s)) (length (longest_suffix σ (take (suc k) s)))
  prefix-longest-length s k h = rw (take-suc s k 0 h) (longest-length-snoc (take k s) (get_or s k 0))

  -- its longest palindrome's leftmost place
  pub prefix-longest-place : (s : Word) (k : ℕ) → k < length s
      → longest_place σ (take (suc k) s) ≡ cond (ltb (longest_length σ (take k s)) (length (longest_suffix σ (take (suc k) s)))) (suc k - length (longest_suffix σ (take (suc k) s))) (longest_place σ (take k s))
  prefix-longest-place s k h =
      let e : length (take k s) ≡ k = length-take-le k s (omega arith) in
      cc (take-suc s k 0 h, longest-place-snoc (take k s) (get_or s k 0))

  -- and whether a palindrome was met
  pub prefix-met : (s w : Word) (k : ℕ) → k < length s → Symmetric σ w → stands w (take (suc k) s) ≡ (stands w (take k s) || same_word w (longest_suffix σ (take (suc k) s)))
  prefix-met s w k h p = rw (take-suc s k 0 h) (met-snoc (take k s) w (get_or s k 0) p)

-- ---- once only

-- a piece at the left end stands once only exactly if it does not stand in the record without the first letter
once-at-left : (w s : Word) (c : ℕ) → Prefix w (c ∷ s) → stands_once w (c ∷ s) ≡ not (stands w s)
unfolding stands_once stands
once-at-left w s c p = same_test (eqb (frequency w (c ∷ s)) 1) (not (ltb 0 (frequency w s))) there back
  where
    one_more : frequency w (c ∷ s) ≡ suc (frequency w s)
    one_more = omega (arith, frequency-cons w s c, ap {B = ℕ} (λ b. cond b 1 0) (starts_is w (c ∷ s) p))

    there : eqb (frequency w (c ∷ s)) 1 ≡ true → not (ltb 0 (frequency w s)) ≡ true
    there e = ap not (le-ltb 0 (frequency w s) (omega (arith, one_more, eqb-true (frequency w (c ∷ s)) 1 e)))

    back : not (ltb 0 (frequency w s)) ≡ true → eqb (frequency w (c ∷ s)) 1 ≡ true
    back e = eq-eqb (frequency w (c ∷ s)) 1 (omega (arith, one_more, ltb-false 0 (frequency w s) (not-true (ltb 0 (frequency w s)) e)))

module _ (σ : ℕ → ℕ) (inv : SelfInverse σ) where
  -- a palindrome stands in the mirror where it stands in the record, counted from the other end
  cut-in-mirror : {w s : Word} → Symmetric σ w → (k : Stands w s) → (d : Stands w (mirror σ s)) × (length d.before ≡ length k.after)
  cut-in-mirror {w} h k = (
    record {
      before = mirror σ k.after;
      after = mirror σ k.before;
      whole = cc (h, mirror-append σ (k.before ++ w) k.after, mirror-append σ k.before w, append_assoc (mirror σ k.after) w (mirror σ k.before), ap (mirror σ) k.whole);
    },
    mirror-length σ k.after,
  )

  -- so the two tests of a palindrome say the same of a record and of its mirror
  once-in-mirror : (w s : Word) → Symmetric σ w → stands_once w (mirror σ s) ≡ stands_once w s
  once-in-mirror w s h = same_test (stands_once w (mirror σ s)) (stands_once w s) (λ o. subst (λ (t : Word). stands_once w t ≡ true) (mirror-mirror σ inv s) (there (mirror σ s) o)) (there s)
    where
      there : (s : Word) → stands_once w s ≡ true → stands_once w (mirror σ s) ≡ true
      there s o = stands-once-is w (mirror σ s) (cut-in-mirror h (stands-once-true w s o).0).0 same
        where
          unmirrored : (k : Stands w (mirror σ s)) → (d : Stands w s) × (length d.before ≡ length k.after)
          unmirrored k = subst (λ (t : Word). (d : Stands w t) × (length d.before ≡ length k.after)) (mirror-mirror σ inv s) (cut-in-mirror h k)

          same : (a b : Stands w (mirror σ s)) → a.before ≡ b.before
          same a b =
              let x = unmirrored a in
              let y = unmirrored b in
              let e = (stands-once-true w s o).1 x.0 y.0 in
              same_place a b (omega (arith, ap length e, x.1, y.1, simp length-append at (ap length a.whole), simp length-append at (ap length b.whole)))

  test-in-mirror : (w s : Word) → Symmetric σ w → stands w (mirror σ s) ≡ stands w s
  test-in-mirror w s h =
      let m = stands-in-mirror σ inv {w = w} {s = s} h in
      same_test (stands w (mirror σ s)) (stands w s) (λ e. stands-is w s (m.1 (stands-true w (mirror σ s) e))) (λ e. stands-is w (mirror σ s) (m.0 (stands-true w s e)))

  -- the longest at the left end begins the record
  longest-begins : (s : Word) → Prefix (longest_prefix σ s) s
  longest-begins s =
      let m = longest-suffix σ (mirror σ s) in
      rw (longest-prefix σ inv s) (subst₂ Prefix m.symmetric (mirror-mirror σ inv s) (suffix-mirror σ m.suffix))

  once-left : (s : Word) → (s ≡ [] → ⊥) → stands_once (longest_prefix σ s) s ≡ not (stands (longest_prefix σ s) (removed at_left s))
  unfolding removed without_first
  once-left [] n = absurd (n refl)
  once-left (c ∷ s) n = once-at-left (longest_prefix σ (c ∷ s)) s c (longest-begins (c ∷ s))

  -- the longest palindrome at an end stands once only exactly if it does not stand in the record without that end's letter, that is if a removal takes it out
  pub once-only : (e : End) (s : Word) → (s ≡ [] → ⊥) → stands_once (longest_at σ e s) s ≡ not (stands (longest_at σ e s) (removed e s))
  unfolding longest_at
  once-only at_left s n = once-left s n
  once-only at_right s n =
      let v : Word = longest_suffix σ s in
      let h : Symmetric σ v = (longest-suffix σ s).symmetric in
      cc (
        longest-in-mirror σ inv at_right s,
        once-in-mirror v s h,
        once-left (mirror σ s) (λ e. n (no-letters s (omega (arith, ap length e, mirror-length σ s)))),
        mirror-removed σ at_right s,
        test-in-mirror v (removed at_right s) h,
      )
