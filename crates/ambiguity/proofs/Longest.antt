-- The two lengths of a text of codes. The first is the greatest length found over all choices. The second is at most the first, and both are at
-- least 1 where a code stands. Rests on `Facing` and `Choices`, and on the stretches and the longest length of `palindromes`.
use Prim.Native.Nat.{ℕ, ◌≤◌}
use native.Mathlib.Omega.{arith}
use native.Mathlib.Nat.{le_antisymm, le_trans}
use mathlib.Core.Path.{◌≡◌, refl, sym, ap, ◌∙◌, subst}
use mathlib.Core.Bool.{Bool, true}
use mathlib.Core.Logic.{◌⊎◌, inl, inr}
use mathlib.Core.List.{List, [], ◌∷◌, ◌++◌, map}
use mathlib.Core.List.Memᴰ
use mathlib.Core.List.{Memᴰ}
use lib.ListN.{length}
use Rattle.palindromes.specs.Word.{Word, keep}
use Rattle.palindromes.specs.Palindrome.{plain, Palindrome, is_palindrome}
use Rattle.palindromes.specs.Place.{Stands}
use Rattle.palindromes.specs.Record.{stretches, longest_length}
use Rattle.palindromes.proofs.Tests.{both_true, both-are, false-not-true, palindrome-true, palindrome-is}
use Rattle.palindromes.proofs.Words.{no-letters, stands-length}
use Rattle.palindromes.proofs.Lists.{either_true, left_is, right_is, member-true, member_is, of-keep, in-keep}
use Rattle.palindromes.proofs.Stretches.{stretches-true, stretches-is}
use Rattle.palindromes.proofs.Order.{greatest-most, greatest-bound, longest-length-most, longest-length-bound}
use Rattle.ambiguity.specs.Code.{all_codes}
use Rattle.ambiguity.specs.Choice.{Choice, choices}
use Rattle.ambiguity.specs.Longest.{of_some, of_every, MirrorForSome, is_mirror_for_some, MirrorForEvery, is_mirror_for_every}
use Rattle.ambiguity.specs.Longest.{longest_passing, longest_for_some, longest_for_every, longest_over_choices}
use Rattle.ambiguity.proofs.Choices.{choices-true, choices-is, choice-length, some-choice, choice-append, choice-cut, codes-cut}
use Rattle.ambiguity.proofs.Facing.{facing-every}

-- ---- the tests say what their names say

module _ (p : Word → Bool) where
  of-some-true : (l : List Word) → of_some p l ≡ true → (w : Word) × Memᴰ w l × (p w ≡ true)
  unfolding of_some
  of-some-true [] h = absurd (false-not-true refl h)
  of-some-true (v ∷ l) h = go (of-some-true l) (either_true (p v) (of_some p l) h)
    where
      go : (of_some p l ≡ true → (w : Word) × Memᴰ w l × (p w ≡ true)) → (p v ≡ true) ⊎ (of_some p l ≡ true)
          → (w : Word) × Memᴰ w (v ∷ l) × (p w ≡ true)
      go ih (inl e) = (v, Memᴰ.head refl, e)
      go ih (inr e) = let r = ih e in (r.0, Memᴰ.tail r.1, r.2)

  of-some-is : {w : Word} {l : List Word} → Memᴰ w l → p w ≡ true → of_some p l ≡ true
  unfolding of_some
  of-some-is (Memᴰ.head {x = v} {xs = l} e) h = left_is (p v) (of_some p l) (rw e at h)
  of-some-is (Memᴰ.tail {x = v} {xs = l} m) h = right_is (p v) (of_some p l) (of-some-is m h)

  of-every-true : {w : Word} {l : List Word} → of_every p l ≡ true → Memᴰ w l → p w ≡ true
  unfolding of_every
  of-every-true h (Memᴰ.head {x = v} {xs = l} e) = rw e (both_true (p v) (of_every p l) h).0
  of-every-true h (Memᴰ.tail {x = v} {xs = l} m) = of-every-true (both_true (p v) (of_every p l) h).1 m

  of-every-is : (l : List Word) → ((w : Word) → Memᴰ w l → p w ≡ true) → of_every p l ≡ true
  unfolding of_every
  of-every-is [] h = refl
  of-every-is (v ∷ l) h = both-are (p v) (of_every p l) (h v (Memᴰ.head refl)) (of-every-is l λ w m. h w (Memᴰ.tail m))

module _ (w : Word) where
  pub mirror-some-true : is_mirror_for_some w ≡ true → MirrorForSome w
  unfolding is_mirror_for_some
  mirror-some-true h =
      let r = of-some-true (is_palindrome plain) (choices w) h in
      record { choice = r.0; chosen = choices-true r.0 w r.1; palindrome = palindrome-true plain r.0 r.2 }

  pub mirror-some-is : MirrorForSome w → is_mirror_for_some w ≡ true
  unfolding is_mirror_for_some
  mirror-some-is m = of-some-is (is_palindrome plain) (choices-is m.chosen) (palindrome-is plain m.choice m.palindrome)

  pub mirror-every-true : is_mirror_for_every w ≡ true → MirrorForEvery w
  unfolding is_mirror_for_every
  mirror-every-true h u c = palindrome-true plain u (of-every-true (is_palindrome plain) h (choices-is c))

  pub mirror-every-is : MirrorForEvery w → is_mirror_for_every w ≡ true
  unfolding is_mirror_for_every
  mirror-every-is m = of-every-is (is_palindrome plain) (choices w) λ u n. palindrome-is plain u (m u (choices-true u w n))

-- ---- the longest stretch that passes a test

module _ (t : Word → Bool) (s : Word) where
  -- no stretch that passes is longer
  pub passing-most : (w : Word) → Stands w s → (w ≡ [] → ⊥) → t w ≡ true → length w ≤ longest_passing t s
  unfolding longest_passing
  passing-most w c n h =
      greatest-most (length w) (map length (keep t (stretches s)))
      (Memᴰ.map length (in-keep t (stretches s) (member-true w (stretches s) (stretches-is w s n c)) h))

  -- and no length that none exceeds is less
  pub passing-bound : (n : ℕ) → ((w : Word) → Stands w s → (w ≡ [] → ⊥) → t w ≡ true → length w ≤ n) → longest_passing t s ≤ n
  unfolding longest_passing
  passing-bound n h = greatest-bound n (map length (keep t (stretches s))) bounded
    where
      bounded : (k : ℕ) → Memᴰ k (map length (keep t (stretches s))) → k ≤ n
      bounded k m =
          let r = Memᴰ.of_map length (keep t (stretches s)) m in
          let b = of-keep t (stretches s) r.1 in
          let e = stretches-true r.0 s (member_is b.0) in
          omega (arith, r.2, h r.0 e.1 e.0 b.1)

-- ---- texts of codes

-- a stretch of codes
pub of-codes : {w s : Word} → Stands w s → all_codes s ≡ true → all_codes w ≡ true
of-codes {w} h c = (codes-cut h.before w (codes-cut (h.before ++ w) h.after (rw h.whole c)).0).1

module _ (s : Word) (c : all_codes s ≡ true) where
  some_below : longest_for_some s ≤ longest_over_choices s
  unfolding longest_for_some longest_over_choices
  some_below = passing-bound is_mirror_for_some s (longest_over_choices s) below
    where
      below : (w : Word) → Stands w s → (w ≡ [] → ⊥) → is_mirror_for_some w ≡ true → length w ≤ longest_over_choices s
      below w h n t =
          let m = mirror-some-true w t in
          let cut = codes-cut (h.before ++ w) h.after (rw h.whole c) in
          let a = some-choice h.before (codes-cut h.before w cut.0).0 in
          let z = some-choice h.after cut.1 in
          let v = a.0 ++ m.choice ++ z.0 in
          let whole : Choice v s = subst (Choice v) h.whole (choice-append (choice-append a.1 m.chosen) z.1) in
          let inside : Stands m.choice v = record { before = a.0; after = z.0; whole = refl } in
          let found = longest-length-most plain m.choice v m.palindrome inside in
          let most = greatest-most (longest_length plain v) (map (longest_length plain) (choices s)) (Memᴰ.map (longest_length plain) (choices-is whole)) in
          omega (arith, choice-length m.chosen)

  choices-below : longest_over_choices s ≤ longest_for_some s
  unfolding longest_over_choices longest_for_some
  choices-below = greatest-bound (longest_for_some s) (map (longest_length plain) (choices s)) below
    where
      one : (v : Word) → Choice v s → (u : Word) → Palindrome plain u → Stands u v → length u ≤ longest_for_some s
      one v d u p h =
          let outer = choice-cut (h.before ++ u) h.after s (subst (λ (x : Word). Choice x s) (sym h.whole) d) in
          let inner = choice-cut h.before u outer.0 outer.3 in
          let w = inner.1 in
          let inside : Stands w s = record { before = inner.0; after = outer.1; whole = sym (outer.2 ∙ ap (λ (x : Word). x ++ outer.1) inner.2) } in
          let len = choice-length inner.4 in
          let full : w ≡ [] → ⊥ = λ e. p.non-empty (no-letters u (omega (arith, ap length e))) in
          omega (arith, passing-most is_mirror_for_some s w inside full (mirror-some-is w (record { choice = u; chosen = inner.4; palindrome = p })))

      below : (k : ℕ) → Memᴰ k (map (longest_length plain) (choices s)) → k ≤ longest_for_some s
      below k m =
          let r = Memᴰ.of_map (longest_length plain) (choices s) m in
          omega (arith, r.2, longest-length-bound plain (longest_for_some s) r.0 (one r.0 (choices-true r.0 s r.1)))

  -- 02 (xii) "the first equals the greatest length found over all choices"
  pub first-over-choices : longest_for_some s ≡ longest_over_choices s
  first-over-choices = le_antisymm some_below choices-below

  -- ---- bounds

  -- what is a mirror repeat for every choice is one for some
  pub every-below-some : longest_for_every s ≤ longest_for_some s
  unfolding longest_for_every longest_for_some
  every-below-some =
      passing-bound is_mirror_for_every s (longest_for_some s) λ w h n e.
      let u = some-choice w (of-codes h c) in
      passing-most is_mirror_for_some s w h n
      (mirror-some-is w (record { choice = u.0; chosen = u.1; palindrome = mirror-every-true w e u.0 u.1 }))

  -- no stretch is longer than the text
  pub some_fits : longest_for_some s ≤ length s
  unfolding longest_for_some
  some_fits = passing-bound is_mirror_for_some s (length s) λ w h n e. stands-length h

  -- a single code is a mirror repeat for every choice
  pub every-positive : (s ≡ [] → ⊥) → 1 ≤ longest_for_every s
  unfolding longest_for_every
  every-positive n = go s refl
    where
      go : (t : Word) → s ≡ t → 1 ≤ longest_passing is_mirror_for_every s
      go [] e = absurd (n e)
      go (x ∷ t) e =
          let one : x ∷ [] ≡ [] → ⊥ = λ q. omega (arith, ap length q) in
          passing-most is_mirror_for_every s (x ∷ []) (record { before = []; after = t; whole = sym e }) one
          (mirror-every-is (x ∷ []) (facing-every (x ∷ []) one λ i j l q. absurd (omega arith)))

  -- so for some choice too
  pub some-positive : (s ≡ [] → ⊥) → 1 ≤ longest_for_some s
  some-positive n = le_trans (every-positive n) every-below-some
