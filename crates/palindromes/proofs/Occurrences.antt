-- The number of all palindromes counted by place: both sums are the number of stretches that are palindromes, so they are equal (`occurrences-agree`), whatever the partner rule; and at most
-- n(n + 1)/2 in n letters (`occurrences-most`). And how each sum grows letter by letter, for a reading from left to right.
-- Rests on `Frequency`, `SuffixPalindromes` and the lists of `Lists`.
use Prim.Native.Nat.{ℕ, suc, ◌+◌, ◌*◌, ◌≤◌, ◌<◌}
use native.Mathlib.Omega.{arith}
use native.Mathlib.Nat.{add-mul, mul_comm, mul-le-mul_right}
use mathlib.Core.Path.{◌≡◌, refl, sym, ap, ◌∙◌, subst}
use mathlib.Core.Bool.{Bool, true, false, cond, ◌&&◌, ◌||◌, and-false}
use mathlib.Core.List.{List, [], ◌∷◌, ◌++◌, map, map-append}
use lib.ListN.{length, length-append, get_or, take}
use lib.Seq.{take-suc}
use Rattle.palindromes.specs.Word.{Word, same_word, member, keep}
use Rattle.palindromes.specs.Palindrome.{is_palindrome}
use Rattle.palindromes.specs.Place.{frequency, stands}
use Rattle.palindromes.specs.Record.{prefixes, suffixes_of_each, stretches, palindromes, suffix_palindromes, longest_suffix}
use Rattle.palindromes.specs.Occurrences.{sum, occurrences_by_row, occurrences_by_end}
use Rattle.palindromes.proofs.Tests.{both-are, same_true, same_refl, palindrome-is}
use Rattle.palindromes.proofs.Words.{snoc-induction}
use Rattle.palindromes.proofs.Lists.{same_test, member-first, member-later, member-distinct, Once, distinct-once, keep_append, keep-keep, keep-agree}
use Rattle.palindromes.proofs.Longest.{prefixes-snoc}
use Rattle.palindromes.proofs.Palindromes.{palindromes-true, palindromes-empty, fresh, palindromes-snoc}
use Rattle.palindromes.proofs.SuffixPalindromes.{ending-few}
use Rattle.palindromes.proofs.Frequency.{one, times, times-cons, frequency-stretches}

-- ---- sums

sum-append : (a b : List ℕ) → sum (a ++ b) ≡ sum a + sum b
unfolding sum
sum-append [] b = omega arith
sum-append (k ∷ a) b = omega (arith, sum-append a b)

none : sum [] ≡ 0
unfolding sum
none = refl

sum_one : (k : ℕ) → sum (k ∷ []) ≡ k
unfolding sum
sum_one k = omega arith

sum-plus : (f g : Word → ℕ) (l : List Word) → sum (map (λ v. f v + g v) l) ≡ sum (map f l) + sum (map g l)
unfolding sum
sum-plus f g [] = refl
sum-plus f g (v ∷ l) = omega (arith, sum-plus f g l)

sum-agree : (f g : Word → ℕ) (l : List Word) → ((v : Word) → member v l ≡ true → f v ≡ g v) → sum (map f l) ≡ sum (map g l)
unfolding sum
sum-agree f g [] h = refl
sum-agree f g (v ∷ l) h = omega (arith, h v (member-first v l), sum-agree f g l (λ w m. h w (member-later w v l m)))

-- ---- a list counted word by word

same-sym : (u v : Word) → same_word u v ≡ same_word v u
same-sym u v = same_test (same_word u v) (same_word v u) (λ e. turn u v e) (λ e. turn v u e)
  where
    turn : (u v : Word) → same_word u v ≡ true → same_word v u ≡ true
    turn u v e = rw (same_true u v e) (same_refl v)

-- in a list without repetition a word stands once if it is a member
sum_same : (w : Word) (d : List Word) → Once d → sum (map (λ v. one (same_word v w)) d) ≡ one (member w d)
unfolding sum member
sum_same w [] o = refl
sum_same w (v ∷ d) o = go (sum_same w d o.1) (same_word w v) refl
  where
    go : sum (map (λ u. one (same_word u w)) d) ≡ one (member w d) → (t : Bool) → same_word w v ≡ t → one (same_word v w) + sum (map (λ u. one (same_word u w)) d) ≡ one (t || member w d)
    go ih true e =
        let out : member w d ≡ false = rw (same_true w v e) o.0 in
        omega (arith, ap one (same-sym v w ∙ e), ih, ap one out)
    go ih false e = omega (arith, ap one (same-sym v w ∙ e), ih)

sum-none : (f : Word → ℕ) (d : List Word) → ((v : Word) → f v ≡ 0) → sum (map f d) ≡ 0
unfolding sum
sum-none f [] h = refl
sum-none f (v ∷ d) h = omega (arith, h v, sum-none f d h)

-- so the numbers of all words of a list add up to its length
count-each : (d l : List Word) → Once d → ((w : Word) → member w l ≡ true → member w d ≡ true) → sum (map (times l) d) ≡ length l
unfolding keep
count-each d [] o h = sum-none (times []) d (λ v. refl)
count-each d (w ∷ l) o h =
    sum-agree (times (w ∷ l)) (λ v. one (same_word v w) + times l v) d (λ v m. times-cons w l v)
    ∙ sum-plus (λ v. one (same_word v w)) (times l) d
    ∙ omega (arith, sum_same w d o, ap one (h w (member-first w l)), count-each d l o (λ v m. h v (member-later v w l m)))

module _ (σ : ℕ → ℕ) where
  -- ---- both sums

  -- the stretches that are palindromes, place by place
  abbrev by_place : Word → List Word
  by_place s = keep (is_palindrome σ) (stretches s)

  -- over the palindromes
  by_row : (s : Word) → occurrences_by_row σ s ≡ length (by_place s)
  unfolding occurrences_by_row palindromes
  by_row s =
      sum-agree (λ p. frequency p s) (times (by_place s)) (palindromes σ s) each
      ∙ count-each (palindromes σ s) (by_place s) (distinct-once (by_place s)) (λ w m. member-distinct w (by_place s) ∙ m)
    where
      -- the other stretches are none of the palindromes
      each : (v : Word) → member v (palindromes σ s) ≡ true → frequency v s ≡ times (by_place s) v
      each v m =
          let p = (palindromes-true σ v s m).0 in
          frequency-stretches v p.non-empty s ∙ ap length (sym (keep-keep (same_word v) (is_palindrome σ) (stretches s) ∙ keep-agree (λ u. is_palindrome σ u && same_word v u) (same_word v) (stretches s) (λ u n. alike u (palindrome-is σ v p))))
        where
          alike : (u : Word) → is_palindrome σ v ≡ true → (is_palindrome σ u && same_word v u) ≡ same_word v u
          alike u e = go (same_word v u) refl
            where
              go : (t : Bool) → same_word v u ≡ t → (is_palindrome σ u && t) ≡ t
              go true f = both-are (is_palindrome σ u) true (subst (λ (x : Word). is_palindrome σ x ≡ true) (same_true v u f) e) refl
              go false f = and-false (is_palindrome σ u)

  -- over the right ends
  by_end : (s : Word) → occurrences_by_end σ s ≡ length (by_place s)
  unfolding occurrences_by_end stretches sum suffixes_of_each keep
  by_end s = go (prefixes s)
    where
      go : (ps : List Word) → sum (map (λ p. length (suffix_palindromes σ p)) ps) ≡ length (keep (is_palindrome σ) (suffixes_of_each ps))
      go [] = refl
      go (p ∷ ps) = rw (keep_append, length-append) (omega (arith, go ps))

  -- 02 (iii) "both sums are equal for every record"
  pub occurrences-agree : (s : Word) → occurrences_by_row σ s ≡ occurrences_by_end σ s
  occurrences-agree s = by_row s ∙ sym (by_end s)

  -- ---- a letter more at the right end

  pub by-end-empty : occurrences_by_end σ [] ≡ 0
  unfolding occurrences_by_end prefixes sum
  by-end-empty = refl

  -- brings the palindromes that end there
  by-end-snoc : (s : Word) (c : ℕ) → occurrences_by_end σ (s ++ (c ∷ [])) ≡ occurrences_by_end σ s + length (suffix_palindromes σ (s ++ (c ∷ [])))
  unfolding occurrences_by_end
  by-end-snoc s c =
      ap (λ (l : List Word). sum (map (λ p. length (suffix_palindromes σ p)) l)) (prefixes-snoc s c)
      ∙ ap sum (map-append (λ (p : Word). length (suffix_palindromes σ p)) (prefixes s) ((s ++ (c ∷ [])) ∷ []))
      ∙ sum-append (map (λ p. length (suffix_palindromes σ p)) (prefixes s)) (length (suffix_palindromes σ (s ++ (c ∷ []))) ∷ [])
      ∙ ap (λ (n : ℕ). sum (map (λ p. length (suffix_palindromes σ p)) (prefixes s)) + n) (sum_one (length (suffix_palindromes σ (s ++ (c ∷ [])))))

  -- 02 (iii) "at most 524,800", which is n(n + 1)/2 for the 1,024 letters of the longest record
  pub occurrences-most : (s : Word) → 2 * occurrences_by_end σ s ≤ length s * (length s + 1)
  occurrences-most = snoc-induction (λ s. 2 * occurrences_by_end σ s ≤ length s * (length s + 1)) (omega (arith, by-end-empty)) step
    where
      step : (s : Word) (c : ℕ) → 2 * occurrences_by_end σ s ≤ length s * (length s + 1) → 2 * occurrences_by_end σ (s ++ (c ∷ [])) ≤ length (s ++ (c ∷ [])) * (length (s ++ (c ∷ [])) + 1)
      step s c ih =
          let n = length s in
          let m : length (s ++ (c ∷ [])) ≡ n + 1 = length-append s (c ∷ []) in
          let f = ending-few σ (s ++ (c ∷ [])) in
          let e : (n + 1) * (n + 1 + 1) ≡ n * (n + 1) + 2 * (n + 1) = ap (λ (x : ℕ). (n + 1) * x) (omega arith) ∙ mul_comm (n + 1) (n + 2) ∙ add-mul n 2 (n + 1) in
          rw m (omega (arith, ih, f, m, by-end-snoc s c, e))

  pub occurrences-limit : (s : Word) → length s ≤ 1024 → occurrences_by_end σ s ≤ 524800
  occurrences-limit s h = omega (arith, occurrences-most s, mul-le-mul_right (length s + 1) h)

  -- ---- the same for the prefixes of one record, by the number of their letters

  pub prefix-by-end : (s : Word) (k : ℕ) → k < length s → occurrences_by_end σ (take (suc k) s) ≡ occurrences_by_end σ (take k s) + length (suffix_palindromes σ (take (suc k) s))
  prefix-by-end s k h = rw (take-suc s k 0 h) (by-end-snoc (take k s) (get_or s k 0))

  -- the frequencies of the palindromes of a prefix in the whole record, added up
  abbrev pub frequencies_of : Word → Word → ℕ
  frequencies_of s p = sum (map (λ w. frequency w s) (palindromes σ p))

  pub by-row-whole : (s : Word) → frequencies_of s s ≡ occurrences_by_row σ s
  unfolding occurrences_by_row
  by-row-whole s = refl

  pub by-row-empty : (s : Word) → frequencies_of s [] ≡ 0
  unfolding sum
  by-row-empty s = ap (λ (l : List Word). sum (map (λ w. frequency w s) l)) (palindromes-empty σ)

  -- one letter more brings that of the palindrome that is new
  pub prefix-by-row : (s : Word) (k : ℕ) → k < length s
      → frequencies_of s (take (suc k) s) ≡ frequencies_of s (take k s) + cond (stands (longest_suffix σ (take (suc k) s)) (take k s)) 0 (frequency (longest_suffix σ (take (suc k) s)) s)
  unfolding fresh
  prefix-by-row s k h = rw (take-suc s k 0 h) (step (take k s) (get_or s k 0))
    where
      step : (p : Word) (c : ℕ) → frequencies_of s (p ++ (c ∷ [])) ≡ frequencies_of s p + cond (stands (longest_suffix σ (p ++ (c ∷ []))) p) 0 (frequency (longest_suffix σ (p ++ (c ∷ []))) s)
      step p c =
          let f : Word → ℕ = λ w. frequency w s in
          let v : Word = longest_suffix σ (p ++ (c ∷ [])) in
          ap (λ (l : List Word). sum (map f l)) (palindromes-snoc σ p c)
          ∙ ap sum (map-append f (palindromes σ p) (fresh v p))
          ∙ sum-append (map f (palindromes σ p)) (map f (fresh v p))
          ∙ ap (λ (n : ℕ). sum (map f (palindromes σ p)) + n) (go f v (stands v p))
        where
          go : (f : Word → ℕ) (v : Word) (t : Bool) → sum (map f (cond t [] (v ∷ []))) ≡ cond t 0 (f v)
          go f v true = none
          go f v false = sum_one (f v)
