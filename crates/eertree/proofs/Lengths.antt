-- What a change does to the lengths of the palindromes. Where the palindromes stay, so do the number of those of each length and the largest length. Where the record has one palindrome w more,
-- there is one more of w's length, and the largest is the greater of w's length and what it was; and w is at most two letters longer than that, since the word inside w stood before.
-- So an addition raises the largest to the new palindrome's length at most, and a removal lowers it by two at most (000 proposition 6.2, for any partner rule that undoes itself).
-- Rests on `OneMore` (`Grow`), on `Lengths` of palindromes and on `around-inner` and `inner-of`.
use Prim.Native.Nat.{ℕ, ◌+◌, ◌≤◌, ◌<◌, max}
use native.Mathlib.Decide.{dec_lt}
use native.Mathlib.Omega.{arith}
use mathlib.Core.Path.{◌≡◌, ap, ◌∙◌}
use mathlib.Core.Bool.{Bool, true, false, cond}
use mathlib.Core.Logic.{◌≢◌, ◌⊎◌, inl, inr, ⊎_elim}
use mathlib.Core.List.{List, [], ◌∷◌, cons-ne-nil}
use lib.Dec.{eqb}
use lib.ListN.{length, length-append}
use borrow.Author.Tests.{ne_eqb}
use Rattle.palindromes.specs.Word.{Word, member, keep}
use Rattle.palindromes.specs.Palindrome.{SelfInverse, Symmetric, Palindrome}
use Rattle.palindromes.specs.Place.{Stands}
use Rattle.palindromes.specs.Record.{palindromes, count_of_length, longest_length}
use Rattle.palindromes.specs.End.{End, added, removed, longest_at}
use Rattle.palindromes.specs.Node.{spelt, inner_of, spelling_of, around}
use Rattle.palindromes.proofs.Tests.{not-true-false}
use Rattle.palindromes.proofs.Lists.{same_test, member-first, member-later, first-or-later, member-keep, once-keep, once-same-length}
use Rattle.palindromes.proofs.Words.{some-letters, stands-or-not}
use Rattle.palindromes.proofs.Places.{stands-empty}
use Rattle.palindromes.proofs.Growth.{around-inner, inner-of}
use Rattle.palindromes.proofs.Palindromes.{palindromes-true, palindromes-is, palindromes-once}
use Rattle.palindromes.proofs.NewIn.{longest-at}
use Rattle.palindromes.proofs.Order.{longest-length-most, longest-length-bound}
use Rattle.palindromes.proofs.Answers.{symmetric-most}
use Rattle.eertree.proofs.Covers.{SamePalindromes}
use Rattle.eertree.proofs.Grow.{OneMore, same-added, one-more-added, same-removed, one-more-removed}

-- those of the list that have length k
abbrev of_length : ℕ → List Word → List Word
of_length k l = keep (λ p. eqb (length p) k) l

-- ---- the palindromes stay

module _ (σ : ℕ → ℕ) {s t : Word} (h : SamePalindromes σ s t) where
  same-member : (w : Word) → member w (palindromes σ t) ≡ member w (palindromes σ s)
  same-member w = same_test (member w (palindromes σ t)) (member w (palindromes σ s)) back there
    where
      back : member w (palindromes σ t) ≡ true → member w (palindromes σ s) ≡ true
      back m =
          let p = palindromes-true σ w t m in
          palindromes-is σ w s p.0 ((h w p.0.symmetric).1 p.1)

      there : member w (palindromes σ s) ≡ true → member w (palindromes σ t) ≡ true
      there m =
          let p = palindromes-true σ w s m in
          palindromes-is σ w t p.0 ((h w p.0.symmetric).0 p.1)

  pub same-length-count : (k : ℕ) → count_of_length σ k t ≡ count_of_length σ k s
  unfolding count_of_length
  same-length-count k =
      once-same-length (of_length k (palindromes σ t)) (of_length k (palindromes σ s)) (once-keep (λ p. eqb (length p) k) (palindromes σ t) (palindromes-once σ t))
      (once-keep (λ p. eqb (length p) k) (palindromes σ s) (palindromes-once σ s)) λ w.
      cc (member-keep w (λ p. eqb (length p) k) (palindromes σ t), member-keep w (λ p. eqb (length p) k) (palindromes σ s), same-member w)

  pub same-longest : longest_length σ t ≡ longest_length σ s
  same-longest =
      let up = longest-length-bound σ (longest_length σ t) s λ w p q. longest-length-most σ w t p ((h w p.symmetric).0 q) in
      let down = longest-length-bound σ (longest_length σ s) t λ w p q. longest-length-most σ w s p ((h w p.symmetric).1 q) in
      omega arith

-- ---- one palindrome more

-- the word inside a palindrome of three letters or more is one, stands where it does, and is two letters shorter
inside : (σ : ℕ → ℕ) (w : Word) {t : Word} → Symmetric σ w → Stands w t → 2 < length w → (v : Word) × Palindrome σ v × Stands v t × (length v + 2 ≡ length w)
unfolding inner_of spelling_of around
inside σ [] m p h = absurd (omega arith)
inside σ (x ∷ []) m p h = absurd (omega arith)
inside σ (x ∷ y ∷ u) m p h =
    let w = x ∷ y ∷ u in
    let v = spelling_of (inner_of (spelt w)) in
    let i = inner-of σ w m p in
    let l : length v + 2 ≡ length w = omega (arith, simp length-append at (ap length (around-inner σ w (cons-ne-nil x (y ∷ u)) m))) in
    (v, record { non-empty = λ e. omega (arith, ap length e); symmetric = i.0 }, i.1, l)

module _ {σ : ℕ → ℕ} {s t w : Word} (o : OneMore σ s t w) where
  -- it is a palindrome, since the empty word stands everywhere
  pub more-palindrome : Palindrome σ w
  more-palindrome = record { non-empty = λ e. o.not-before (rw e (stands-empty s)); symmetric = o.symmetric }

  -- so it has a letter
  pub more-letters : 0 < length w
  more-letters = some-letters w more-palindrome.non-empty

  -- it is not listed before
  more-new : member w (palindromes σ s) ≡ false
  more-new = not-true-false (member w (palindromes σ s)) λ m. o.not-before (palindromes-true σ w s m).1

  -- the palindromes of t are those of s and w
  more-there : (v : Word) → member v (w ∷ palindromes σ s) ≡ true → member v (palindromes σ t) ≡ true
  more-there v m = ⊎_elim first later (first-or-later v w (palindromes σ s) m)
    where
      first : v ≡ w → member v (palindromes σ t) ≡ true
      first e = rw e (palindromes-is σ w t more-palindrome o.there)

      later : member v (palindromes σ s) ≡ true → member v (palindromes σ t) ≡ true
      later n =
          let p = palindromes-true σ v s n in
          palindromes-is σ v t p.0 (o.old p.1)

  more-back : (v : Word) → member v (palindromes σ t) ≡ true → member v (w ∷ palindromes σ s) ≡ true
  more-back v m =
      let p = palindromes-true σ v t m in
      ⊎_elim (λ e. rw e (member-first w (palindromes σ s))) (λ q. member-later v w (palindromes σ s) (palindromes-is σ v s p.0 q)) (o.only v p.0.symmetric p.1)

  more-members : (v : Word) → member v (palindromes σ t) ≡ member v (w ∷ palindromes σ s)
  more-members v = same_test (member v (palindromes σ t)) (member v (w ∷ palindromes σ s)) (more-back v) (more-there v)

  -- so there is one more of its length
  pub more-length-count : (k : ℕ) → count_of_length σ k t ≡ count_of_length σ k s + cond (eqb (length w) k) 1 0
  unfolding count_of_length keep
  more-length-count k =
      once-same-length (of_length k (palindromes σ t)) (of_length k (w ∷ palindromes σ s)) (once-keep (λ p. eqb (length p) k) (palindromes σ t) (palindromes-once σ t))
      (once-keep (λ p. eqb (length p) k) (w ∷ palindromes σ s) (more-new, palindromes-once σ s))
      (λ v. cc (member-keep v (λ p. eqb (length p) k) (palindromes σ t), member-keep v (λ p. eqb (length p) k) (w ∷ palindromes σ s), more-members v))
      ∙ go (eqb (length w) k)
    where
      go : (b : Bool) → length (cond b (w ∷ of_length k (palindromes σ s)) (of_length k (palindromes σ s))) ≡ length (of_length k (palindromes σ s)) + cond b 1 0
      go true = omega arith
      go false = omega arith

  -- and as many as before of every other
  pub other-length-count : (k : ℕ) → length w ≢ k → count_of_length σ k t ≡ count_of_length σ k s
  other-length-count k n = omega (arith, more-length-count k, ap {B = ℕ} (λ b. cond b 1 0) (ne_eqb (length w) k n))

  -- and the largest length is its own or what it was
  pub more-longest : longest_length σ t ≡ max (longest_length σ s) (length w)
  more-longest =
      let old = longest-length-bound σ (longest_length σ t) s λ v p q. longest-length-most σ v t p (o.old q) in
      let new = longest-length-most σ w t more-palindrome o.there in
      let most = longest-length-bound σ (max (longest_length σ s) (length w)) t λ v p q. bounded v (longest-length-most σ v s p) (o.only v p.symmetric q) in
      omega arith
    where
      bounded : (v : Word) → (Stands v s → length v ≤ longest_length σ s) → (v ≡ w) ⊎ Stands v s → length v ≤ max (longest_length σ s) (length w)
      bounded v h (inl e) = omega (arith, ap length e)
      bounded v h (inr q) = omega (arith, h q)

  -- 000 proposition 6.2 (in its proof the slice is misprinted: what is meant is the palindrome without its first and its last letter): the word inside it stood before
  pub inner-before : 2 < length w → (v : Word) × Palindrome σ v × Stands v s × (length v + 2 ≡ length w)
  inner-before h =
      let i = inside σ w o.symmetric o.there h in
      (i.0, i.1, ⊎_elim (λ e. absurd (omega (arith, i.3, ap length e))) (λ q. q) (o.only i.0 i.1.symmetric i.2), i.3)

  -- so it is at most two letters longer than the longest before
  pub two-more-at-most : length w ≤ longest_length σ s + 2
  two-more-at-most = go (dec_lt 2 (length w))
    where
      go : Dec (2 < length w) → length w ≤ longest_length σ s + 2
      go (yes h) =
          let i = inner-before h in
          omega (arith, i.3, longest-length-most σ i.0 s i.1 i.2)
      go (no h) = omega arith

-- ---- a change at an end

module _ (σ : ℕ → ℕ) (inv : SelfInverse σ) where
  -- an addition raises the largest length to the length of the new palindrome at most
  pub addition-raises : (e : End) (s : Word) (c : ℕ) → longest_length σ (added e c s) ≡ max (longest_length σ s) (length (longest_at σ e (added e c s)))
  addition-raises e s c = ⊎_elim old new (stands-or-not (longest_at σ e (added e c s)) s)
    where
      old : Stands (longest_at σ e (added e c s)) s → longest_length σ (added e c s) ≡ max (longest_length σ s) (length (longest_at σ e (added e c s)))
      old p = omega (arith, same-longest σ (same-added σ inv e s c p), symmetric-most σ (longest_at σ e (added e c s)) s (longest-at σ inv e (added e c s)).0 p)

      new : (Stands (longest_at σ e (added e c s)) s → ⊥) → longest_length σ (added e c s) ≡ max (longest_length σ s) (length (longest_at σ e (added e c s)))
      new n = more-longest (one-more-added σ inv e s c n)

  -- a removal lowers it by two at most: 000 proposition 6.2
  pub removal-lowers : (e : End) (s : Word) → longest_length σ s ≤ longest_length σ (removed e s) + 2
  removal-lowers e s =
      ⊎_elim
      (λ p. omega (arith, same-longest σ (same-removed σ inv e s p)))
      (λ n.
      let o = one-more-removed σ inv e s n in
      omega (arith, more-longest o, two-more-at-most o))
      (stands-or-not (longest_at σ e s) (removed e s))
