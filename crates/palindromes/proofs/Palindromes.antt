-- The list `palindromes σ s`: its members are the palindromes that stand in s, each once. One letter more at the right end adds the longest palindrome that ends the
-- new record, where it did not stand before, and nothing else; so n letters have at most n palindromes. The mirror has the same palindromes.
-- Rests on proofs/Lists.antt, Places.antt and Stretches.antt, and for the growth on `at-most-one-new` of proofs/Change.antt.
use Prim.Native.Nat.{ℕ, ◌+◌, ◌≤◌}
use native.Mathlib.Omega.{arith}
use mathlib.Core.Path.{◌≡◌, refl, ap, ◌∙◌}
use mathlib.Core.Bool.{Bool, true, false, not, cond, ◌&&◌}
use mathlib.Core.Logic.{⊎_elim}
use mathlib.Core.List.{List, [], ◌∷◌, ◌++◌}
use lib.ListN.{length, length-append}
use borrow.Author.Tests.{not-true}
use Rattle.palindromes.specs.Word.{Word, member, keep, distinct}
use Rattle.palindromes.specs.Palindrome.{SelfInverse, mirror, Palindrome, is_palindrome}
use Rattle.palindromes.specs.Place.{Stands, stands}
use Rattle.palindromes.specs.Record.{prefixes, suffixes, suffixes_of_each, stretches, palindromes, count, longest_suffix}
use Rattle.palindromes.proofs.Tests.{both_true, both-are, not-true-false, false-not-true, palindrome-true, palindrome-is}
use Rattle.palindromes.proofs.Words.{snoc-induction, suffix-stands, stands-or-not}
use Rattle.palindromes.proofs.Mirror.{stands-in-mirror}
use Rattle.palindromes.proofs.Longest.{longest-suffix}
use Rattle.palindromes.proofs.Change.{at-most-one-new}
use Rattle.palindromes.proofs.Lists.{Once, same_test, keep_append, member-keep, member-distinct, once-keep, distinct-once, distinct_append, once-alone, once-same-length}
use Rattle.palindromes.proofs.Places.{stands-true, stands-is, stands-empty}
use Rattle.palindromes.proofs.Stretches.{suffixes-true, suffixes-is, stretches-snoc, stretches-true, stretches-is}

-- ---- what is fresh

-- the word alone where it does not stand in s, and nothing where it does, as the empty word does in every record
unfoldable pub fresh : Word → Word → List Word
fresh w s = cond (stands w s) [] (w ∷ [])

-- its two cases
pub fresh-old : (w s : Word) → Stands w s → fresh w s ≡ []
unfolding fresh
fresh-old w s h = ap {A = Bool} (λ t. cond t [] (w ∷ [])) (stands-is w s h)

pub fresh-new : (w s : Word) → (Stands w s → ⊥) → fresh w s ≡ w ∷ []
unfolding fresh
fresh-new w s n = ap {A = Bool} (λ t. cond t [] (w ∷ [])) (not-true-false (stands w s) λ e. n (stands-true w s e))

-- the empty word is never fresh
pub fresh-empty : (s : Word) → fresh [] s ≡ []
fresh-empty s = fresh-old [] s (stands-empty s)

-- one word at most is fresh
pub fresh-length : (w s : Word) → length (fresh w s) ≡ cond (stands w s) 0 1
unfolding fresh
fresh-length w s = go (stands w s)
  where
    go : (t : Bool) → length (cond t [] (w ∷ [])) ≡ cond t 0 1
    go true = refl
    go false = refl

-- a list without repetition that has no other member than w, and w exactly if it does not stand in s, is what is fresh
pub only-fresh : (w s : Word) (l : List Word) → Once l → ((v : Word) → member v l ≡ true → (v ≡ w) × (Stands v s → ⊥)) → ((Stands w s → ⊥) → member w l ≡ true) → l ≡ fresh w s
only-fresh w s l o sound full = once-alone w l o (λ v m. (sound v m).0) ∙ ⊎_elim old new (stands-or-not w s)
  where
    old : Stands w s → cond (member w l) (w ∷ []) [] ≡ fresh w s
    old h = cc (not-true-false (member w l) λ m. (sound w m).1 h, fresh-old w s h)

    new : (Stands w s → ⊥) → cond (member w l) (w ∷ []) [] ≡ fresh w s
    new n = cc (full n, fresh-new w s n)

module _ (σ : ℕ → ℕ) where
  -- ---- members

  -- a listed word is a palindrome and stands in the record
  pub palindromes-true : (w s : Word) → member w (palindromes σ s) ≡ true → Palindrome σ w × Stands w s
  unfolding palindromes
  palindromes-true w s m =
      let h = both_true (member w (stretches s)) (is_palindrome σ w) (rw (member-distinct, member-keep) at m) in
      (palindrome-true σ w h.1, (stretches-true w s h.0).1)

  -- a palindrome that stands in the record is listed
  pub palindromes-is : (w s : Word) → Palindrome σ w → Stands w s → member w (palindromes σ s) ≡ true
  unfolding palindromes
  palindromes-is w s p h = rw (member-distinct, member-keep) (both-are (member w (stretches s)) (is_palindrome σ w) (stretches-is w s p.non-empty h) (palindrome-is σ w p))

  -- no palindrome is listed twice
  pub palindromes-once : (s : Word) → Once (palindromes σ s)
  unfolding palindromes
  palindromes-once s = distinct-once (keep (is_palindrome σ) (stretches s))

  -- ---- growth

  -- the empty record has no palindrome
  pub palindromes-empty : palindromes σ [] ≡ []
  unfolding palindromes stretches prefixes suffixes_of_each keep distinct
  palindromes-empty = refl

  -- the longest palindrome at the right end is one, where there is any
  pub longest-palindrome : (s : Word) → (longest_suffix σ s ≡ [] → ⊥) → Palindrome σ (longest_suffix σ s)
  longest-palindrome s h = record { non-empty = h; symmetric = (longest-suffix σ s).symmetric }

  -- one letter more at the right end adds the longest palindrome there where it did not stand before, at the end of the list, and nothing else
  pub palindromes-snoc : (s : Word) (c : ℕ) → palindromes σ (s ++ (c ∷ [])) ≡ palindromes σ s ++ fresh (longest_suffix σ (s ++ (c ∷ []))) s
  unfolding palindromes
  palindromes-snoc s c =
      rw (stretches-snoc, keep_append, distinct_append)
      (ap (λ (l : List Word). distinct old ++ l) (only-fresh w s new (once-keep (λ v. not (member v old)) (distinct ending) (distinct-once ending)) sound full))
    where
      t : Word
      t = s ++ (c ∷ [])

      w : Word
      w = longest_suffix σ t

      old : List Word
      old = keep (is_palindrome σ) (stretches s)

      ending : List Word
      ending = keep (is_palindrome σ) (suffixes t)

      new : List Word
      new = keep (λ v. not (member v old)) (distinct ending)

      sound : (v : Word) → member v new ≡ true → (v ≡ w) × (Stands v s → ⊥)
      sound v m =
          let h = both_true (member v (distinct ending)) (not (member v old)) (rw member-keep at m) in
          let k = both_true (member v (suffixes t)) (is_palindrome σ v) (rw (member-distinct, member-keep) at h.0) in
          let p = palindrome-true σ v k.1 in
          let out : Stands v s → ⊥ = λ q. false-not-true (not-true (member v old) h.1) (rw member-distinct at (palindromes-is v s p q)) in
          (⊎_elim (λ e. e) (λ q. absurd (out q)) (at-most-one-new σ s v c p.symmetric (suffix-stands (suffixes-true v t k.0).1)), out)

      full : (Stands w s → ⊥) → member w new ≡ true
      full out =
          let p = longest-palindrome t λ e. out (rw e (stands-empty s)) in
          let not-old : member w old ≡ false = not-true-false (member w old) λ m. out (palindromes-true w s (rw member-distinct m)).1 in
          rw (member-keep, member-distinct, member-keep w (is_palindrome σ) (suffixes t))
          (both-are (member w (suffixes t) && is_palindrome σ w) (not (member w old))
          (both-are (member w (suffixes t)) (is_palindrome σ w) (suffixes-is w t p.non-empty (longest-suffix σ t).suffix) (palindrome-is σ w p)) (ap not not-old))

  -- ---- counts

  -- the empty record has none
  pub count-empty : count σ [] ≡ 0
  unfolding count
  count-empty = ap length palindromes-empty

  -- one letter more at the right end raises the count by one where the longest palindrome there is fresh, and not otherwise
  pub count-snoc : (s : Word) (c : ℕ) → count σ (s ++ (c ∷ [])) ≡ count σ s + cond (stands (longest_suffix σ (s ++ (c ∷ []))) s) 0 1
  unfolding count
  count-snoc s c = cc (palindromes-snoc s c, length-append (palindromes σ s) (fresh (longest_suffix σ (s ++ (c ∷ []))) s), fresh-length (longest_suffix σ (s ++ (c ∷ []))) s)

  -- n letters have at most n distinct palindromes
  pub count-length : (s : Word) → count σ s ≤ length s
  count-length = snoc-induction (λ s. count σ s ≤ length s) (omega (arith, count-empty)) step
    where
      at_most_one : (t : Bool) → cond t 0 1 ≤ 1
      at_most_one true = omega arith
      at_most_one false = omega arith

      step : (s : Word) (c : ℕ) → count σ s ≤ length s → count σ (s ++ (c ∷ [])) ≤ length (s ++ (c ∷ []))
      step s c ih = omega (arith, count-snoc s c, at_most_one (stands (longest_suffix σ (s ++ (c ∷ []))) s), length-append s (c ∷ []))

module _ (σ : ℕ → ℕ) (inv : SelfInverse σ) where
  -- ---- the mirror

  -- a record and its mirror have the same palindromes
  pub palindromes-mirror : (w s : Word) → member w (palindromes σ (mirror σ s)) ≡ member w (palindromes σ s)
  palindromes-mirror w s = same_test (member w (palindromes σ (mirror σ s))) (member w (palindromes σ s)) back there
    where
      back : member w (palindromes σ (mirror σ s)) ≡ true → member w (palindromes σ s) ≡ true
      back m =
          let h = palindromes-true σ w (mirror σ s) m in
          palindromes-is σ w s h.0 ((stands-in-mirror σ inv h.0.symmetric).1 h.1)

      there : member w (palindromes σ s) ≡ true → member w (palindromes σ (mirror σ s)) ≡ true
      there m =
          let h = palindromes-true σ w s m in
          palindromes-is σ w (mirror σ s) h.0 ((stands-in-mirror σ inv h.0.symmetric).0 h.1)

  -- and so equally many
  pub count-mirror : (s : Word) → count σ (mirror σ s) ≡ count σ s
  unfolding count
  count-mirror s = once-same-length (palindromes σ (mirror σ s)) (palindromes σ s) (palindromes-once σ (mirror σ s)) (palindromes-once σ s) λ w. palindromes-mirror w s
