-- How often a word that is not empty stands, letter by letter at the right end: one place more where it ends the record (`frequency-snoc`). So it is
-- how often it stands among the stretches (`frequency-stretches`), and no more often than there are letters; and what ends a longer palindrome stands
-- at least twice where that one stands (`ends-twice`). Rests on `Places`, `Stretches` and `SuffixPalindromes`.
use Prim.Native.Nat.{ℕ, suc, ◌+◌, ◌≤◌, ◌<◌}
use native.Mathlib.Omega.{arith}
use mathlib.Core.Path.{◌≡◌, refl, sym, ap, ◌∙◌}
use mathlib.Core.Bool.{Bool, true, false, cond, ◌||◌}
use mathlib.Core.Logic.{⊎_elim}
use mathlib.Core.List.{List, [], ◌∷◌, ◌++◌, append-nil}
use lib.ListN.{length, get_or, take, length-append}
use lib.Seq.{take-suc}
use Rattle.palindromes.specs.Word.{Word, same_word, member, keep}
use Rattle.palindromes.specs.Palindrome.{Symmetric, Palindrome}
use Rattle.palindromes.specs.Place.{Stands, Prefix, Suffix, starts_with, places_from, places, frequency}
use Rattle.palindromes.specs.Record.{suffixes, stretches, longest_suffix}
use Rattle.palindromes.proofs.Tests.{not-true-false, same_true, same_refl}
use Rattle.palindromes.proofs.Words.{no-letters, some-letters, prefix-of-snoc, prefix_trans, prefix-append, suffix-length, suffix-full}
use Rattle.palindromes.proofs.Words.{stands-within, snoc-induction}
use Rattle.palindromes.proofs.Mirror.{symmetric-suffix}
use Rattle.palindromes.proofs.Lists.{same_test, left_is, right_is, either_true, member-cons, not-in-nil, keep_append}
use Rattle.palindromes.proofs.Places.{starts-true, starts_is, frequency-cons, twice-is}
use Rattle.palindromes.proofs.Stretches.{suffixes-true, stretches-empty, stretches-snoc}
use Rattle.palindromes.proofs.SuffixPalindromes.{ends-longest}

-- a test as a number
abbrev pub one : Bool → ℕ
one t = cond t 1 0

-- two tests of which not both hold
one-or : (a b : Bool) → (a ≡ true → b ≡ true → ⊥) → one (a || b) ≡ one a + one b
one-or true true h = absurd (h refl refl)
one-or true false h = refl
one-or false b h = omega arith

-- how often a word stands in a list of words
abbrev pub times : List Word → Word → ℕ
times l v = length (keep (same_word v) l)

pub times-cons : (w : Word) (l : List Word) (v : Word) → times (w ∷ l) v ≡ one (same_word v w) + times l v
unfolding keep
times-cons w l v = go (same_word v w)
  where
    go : (t : Bool) → length (cond t (w ∷ keep (same_word v) l) (keep (same_word v) l)) ≡ one t + times l v
    go true = omega arith
    go false = omega arith

-- a prefix is no longer than the record
prefix-length : {a b : Word} → Prefix a b → length a ≤ length b
prefix-length {a} h = omega (arith, simp length-append at (ap length h.whole))

module _ (p : Word) where
  -- a word begins the record with one letter more if it did before, or if it is the whole of it
  starts-snoc : (s : Word) (c : ℕ) → starts_with p (s ++ (c ∷ [])) ≡ (starts_with p s || same_word p (s ++ (c ∷ [])))
  starts-snoc s c = same_test (starts_with p t) (starts_with p s || same_word p t) there back
    where
      t : Word
      t = s ++ (c ∷ [])

      there : starts_with p t ≡ true → (starts_with p s || same_word p t) ≡ true
      there e =
          ⊎_elim
          (λ q. right_is (starts_with p s) (same_word p t) (rw q (same_refl t)))
          (λ q. left_is (starts_with p s) (same_word p t) (starts_is p s q))
          (prefix-of-snoc s c (starts-true p t e))

      back : (starts_with p s || same_word p t) ≡ true → starts_with p t ≡ true
      back e =
          ⊎_elim
          (λ q. starts_is p t (prefix_trans (starts-true p s q) (prefix-append s (c ∷ []))))
          (λ q. starts_is p t (record { after = []; whole = append-nil p ∙ same_true p t q }))
          (either_true (starts_with p s) (same_word p t) e)

  -- a word cannot be the whole of the longer record and begin the shorter one, nor be the whole of a record and end it a letter later
  one-starts : (s : Word) (c : ℕ) → one (starts_with p (s ++ (c ∷ []))) ≡ one (starts_with p s) + one (same_word p (s ++ (c ∷ [])))
  one-starts s c =
      ap one (starts-snoc s c)
      ∙ one-or (starts_with p s) (same_word p (s ++ (c ∷ []))) (λ a b. omega (arith, prefix-length (starts-true p s a), ap length (same_true p (s ++ (c ∷ [])) b), length-append s (c ∷ [])))

  one-ends : (x : ℕ) (t : Word) → one (member p (suffixes (x ∷ t))) ≡ one (same_word p (x ∷ t)) + one (member p (suffixes t))
  unfolding suffixes
  one-ends x t =
      ap one (member-cons p (x ∷ t) (suffixes t))
      ∙ one-or (same_word p (x ∷ t)) (member p (suffixes t)) (λ a b. omega (arith, suffix-length (suffixes-true p t b).1, ap length (same_true p (x ∷ t) a)))

  module _ (n : p ≡ [] → ⊥) where
    -- a word that is not empty does not begin the empty record, nor stand in it
    no_start : starts_with p [] ≡ false
    no_start = not-true-false (starts_with p []) (λ t. n (no-letters p (prefix-length (starts-true p [] t))))

    pub frequency-empty : frequency p [] ≡ 0
    unfolding frequency places places_from
    frequency-empty = ap (λ (t : Bool). length {A = ℕ} (cond t (0 ∷ []) [])) no_start

    no_end : member p (suffixes []) ≡ false
    unfolding suffixes
    no_end = not-in-nil p

    -- one letter more at the right end makes one more place where the word ends there
    pub frequency-snoc : (s : Word) (c : ℕ) → frequency p (s ++ (c ∷ [])) ≡ frequency p s + one (member p (suffixes (s ++ (c ∷ []))))
    frequency-snoc [] c = omega (arith, frequency-cons p [] c, one-starts [] c, one-ends c [], ap one no_start, ap one no_end)
    frequency-snoc (x ∷ s) c =
        omega (arith, frequency-cons p (s ++ (c ∷ [])) x, frequency-cons p s x, one-starts (x ∷ s) c, one-ends x (s ++ (c ∷ [])), frequency-snoc s c)

    -- the same for the prefixes of one record, by the number of their letters
    pub prefix-frequency : (s : Word) (k : ℕ) → k < length s → frequency p (take (suc k) s) ≡ frequency p (take k s) + one (member p (suffixes (take (suc k) s)))
    prefix-frequency s k h = rw (take-suc s k 0 h) (frequency-snoc (take k s) (get_or s k 0))

    -- so a word stands at most as often as there are letters
    pub frequency-most : (s : Word) → frequency p s ≤ length s
    frequency-most = snoc-induction (λ s. frequency p s ≤ length s) (omega (arith, frequency-empty)) step
      where
        small : (t : Bool) → one t ≤ 1
        small true = omega arith
        small false = omega arith

        step : (s : Word) (c : ℕ) → frequency p s ≤ length s → frequency p (s ++ (c ∷ [])) ≤ length (s ++ (c ∷ []))
        step s c ih = omega (arith, frequency-snoc s c, small (member p (suffixes (s ++ (c ∷ [])))), length-append s (c ∷ []))

    -- ---- among the stretches

    -- the suffixes have it once if it ends the word
    times-suffixes : (s : Word) → times (suffixes s) p ≡ one (member p (suffixes s))
    unfolding suffixes keep
    times-suffixes [] = sym (ap one no_end)
    times-suffixes (x ∷ s) = omega (arith, times-cons (x ∷ s) (suffixes s) p, one-ends x s, times-suffixes s)

    -- the stretches have it as often as it stands
    pub frequency-stretches : (s : Word) → frequency p s ≡ times (stretches s) p
    unfolding keep
    frequency-stretches = snoc-induction (λ s. frequency p s ≡ times (stretches s) p) (rw stretches-empty frequency-empty) step
      where
        step : (s : Word) (c : ℕ) → frequency p s ≡ times (stretches s) p → frequency p (s ++ (c ∷ [])) ≡ times (stretches (s ++ (c ∷ []))) p
        step s c ih =
            rw (stretches-snoc, keep_append, length-append)
            (omega (arith, ih, frequency-snoc s c, times-suffixes (s ++ (c ∷ []))))

-- ---- palindromes

module _ (σ : ℕ → ℕ) where
  -- one letter more makes one more place of a palindrome where it ends the longest that ends the letters
  pub palindrome-frequency : (w : Word) → Palindrome σ w → (s : Word) (k : ℕ) → k < length s
      → frequency w (take (suc k) s) ≡ frequency w (take k s) + one (member w (suffixes (longest_suffix σ (take (suc k) s))))
  palindrome-frequency w p s k h =
      prefix-frequency w p.non-empty s k h ∙ ap (λ (t : Bool). frequency w (take k s) + one t) (ends-longest σ w p (take (suc k) s))

  -- what ends a longer palindrome begins it too, so it stands at least twice where that one stands
  pub ends-twice : {w v s : Word} → Symmetric σ w → Symmetric σ v → Suffix w v → (w ≡ v → ⊥) → Stands v s → 1 < frequency w s
  ends-twice {w} {v} {s} h k a d c = twice-is w s first.0 last.0 (omega (arith, longer, lengths-at [] first, lengths-at a.before last))
    where
      begins : Prefix w v
      begins = symmetric-suffix σ h k a

      first : (x : Stands w s) × (x.before ≡ c.before ++ [])
      first = stands-within (record { before = []; after = begins.after; whole = begins.whole }) c

      last : (x : Stands w s) × (x.before ≡ c.before ++ a.before)
      last = stands-within (record { before = a.before; after = []; whole = append-nil (a.before ++ w) ∙ a.whole }) c

      lengths-at : (u : Word) (x : (y : Stands w s) × (y.before ≡ c.before ++ u)) → length x.0.before ≡ length c.before + length u
      lengths-at u x = ap length x.1 ∙ length-append c.before u

      longer : 0 < length a.before
      longer = some-letters a.before λ e. d (suffix-full a (omega (arith, ap length e, simp length-append at (ap length a.whole))))
