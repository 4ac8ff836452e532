-- The recurrence comes to what is asked. For each place of the record there is a factorization of the letters before it with as many factors as the
-- recurrence says and the ends that are traced back (`UpTo`), and it is the one asked for (`up-to-next`): a last factor leaves a factorization of what
-- stands before it, and the chosen place has the smallest number, the furthest left where numbers are equal. So there is one for every record whose
-- letters are their own partners (`factorization-minimal`). Rests on `Choice`, `Starts`, `PalindromicLengths` and `Factorizations`.
use Prim.Native.Nat.{ℕ, zero, suc, ◌+◌, ◌≤◌, ◌<◌}
use native.Mathlib.Omega.{arith}
use native.Mathlib.Nat.{eq-or-lt_of_le, le_of_suc-le-suc}
use mathlib.Core.Path.{◌≡◌, refl, sym, ap, ap₂, ◌∙◌, subst}
use mathlib.Core.Bool.{true, ◌&&◌}
use mathlib.Core.Logic.{inl, inr, ⊎_elim}
use mathlib.Core.List.{List, [], ◌∷◌, ◌++◌, flatten}
use mathlib.Core.List.{Memᴰ}
use lib.Dec.{ltb, eqb}
use lib.ListN.{length, get_or, take, length-append, length-take}
use lib.Seq.{take_at, take-take, take-length}
use borrow.Author.Tests.{lt-ltb, eq-eqb}
use Rattle.palindromes.specs.Word.{Word}
use Rattle.palindromes.specs.Palindrome.{Palindrome}
use Rattle.palindromes.specs.Place.{Suffix}
use Rattle.palindromes.proofs.Lists.{left_is, right_is}
use Rattle.palindromes.proofs.Tests.{both-are}
use Rattle.palindromes.proofs.Words.{some-letters}
use Rattle.palindromes.specs.Factorization.{Factorization, ends_of, ends_from, lengths_from_last, not_above, MinimalFactorization}
use Rattle.palindromes.specs.Factorization.{starts, last_start, palindromic_lengths, ends_to, palindromic_length, factor_ends}
use Rattle.palindromes.proofs.Choice.{Before, choice-in, choice-before}
use Rattle.palindromes.proofs.Starts.{starts_is, starts-true, starts-rising, starts-some}
use Rattle.palindromes.proofs.PalindromicLengths.{lengths-zero, lengths-next}
use Rattle.palindromes.proofs.Factorizations.{ends_snoc, last-lengths-snoc, factors-by-last, factors-none, factors-of-none}
use Rattle.palindromes.proofs.Factorizations.{factors-by-none, factors-snoc, factors-last}

-- ---- the order of lengths

not-above-less : (x y : ℕ) (xs ys : List ℕ) → x < y → not_above (x ∷ xs) (y ∷ ys) ≡ true
unfolding not_above
not-above-less x y xs ys h = left_is (ltb x y) (eqb x y && not_above xs ys) (lt-ltb x y h)

not-above-same : (x y : ℕ) (xs ys : List ℕ) → x ≡ y → not_above xs ys ≡ true → not_above (x ∷ xs) (y ∷ ys) ≡ true
unfolding not_above
not-above-same x y xs ys e h = right_is (ltb x y) (eqb x y && not_above xs ys) (both-are (eqb x y) (not_above xs ys) (eq-eqb x y e) h)

module _ (σ : ℕ → ℕ) (own : (c : ℕ) → σ c ≡ c) (s : Word) where
  -- the number of factors up to a place, and where the last of them begins
  abbrev number : ℕ → ℕ
  number i = get_or (palindromic_lengths σ s) i 0

  abbrev start_of : ℕ → ℕ
  start_of i = last_start σ (palindromic_lengths σ s) (take i s)

  -- the factorization of the letters before place i
  record UpTo (i : ℕ) : Type 0 where
    parts : List Word
    fewest : MinimalFactorization σ (take i s) parts
    counted : length parts ≡ number i
    ended : (n : ℕ) → i ≤ n → ends_of parts ≡ ends_to start_of n i

  -- ---- no letter

  up-to-none : UpTo 0
  unfolding ends_of ends_from ends_to lengths_from_last not_above
  up-to-none =
      record {
        parts = [];
        fewest = record { factors = factors-none σ; fewest = λ qs a. omega arith; last-longest = λ qs a e. rw (factors-of-none σ qs a) refl };
        counted = sym (lengths-zero σ s);
        ended = ended;
      }
    where
      ended : (n : ℕ) → 0 ≤ n → [] ≡ ends_to start_of n 0
      ended zero h = refl
      ended (suc n) h = refl

  -- ---- a letter more

  module _ (j : ℕ) (l : j < length s) (before : (k : ℕ) → k ≤ j → UpTo k) where
    abbrev t : Word
    t = take (suc j) s

    long : length t ≡ suc j
    long = omega (arith, length-take (suc j) s)

    not_none : t ≡ [] → ⊥
    not_none e = omega (arith, long, ap length e)

    -- the places at which the last factor may begin, and the one that is chosen
    some : (k : ℕ) × (ks : List ℕ) × (starts σ t ≡ k ∷ ks)
    some = starts-some σ own t not_none

    abbrev c : ℕ
    c = start_of (suc j)

    chosen-in : Memᴰ c (starts σ t)
    unfolding last_start
    chosen-in = let e = some.2 in rw e (choice-in number some.0 some.1)

    chosen-before : (q : ℕ) → Memᴰ q (starts σ t) → Before number c q
    unfolding last_start
    chosen-before q m = let e = some.2 in rw e (choice-before number some.0 some.1 (rw e at (starts-rising σ t)) q (rw e at m))

    -- a factor that ends the letters, the place at which it begins and what stands before
    record Last (w : Word) (k : ℕ) : Type 0 where
      palindrome : Palindrome σ w
      place : k ≤ j
      reaches : k + length w ≡ suc j
      whole : take k s ++ w ≡ t

    last : (w : Word) (k : ℕ) → Palindrome σ w → (a : Suffix w t) → length a.before ≡ k → Last w k
    last w k p a e =
        let n : length a.before + length w ≡ suc j = omega (arith, long, length-append a.before w, ap length a.whole) in
        let h : k ≤ j = omega (arith, some-letters w p.non-empty) in
        let b : a.before ≡ take k s = sym (take_at a.before w k e) ∙ ap (take k) a.whole ∙ take-take k (suc j) s (omega arith) in
        record { palindrome = p; place = h; reaches = omega arith; whole = cc (a.whole, b) }

    -- the chosen one
    factor : (w : Word) × Last w c
    factor = let r = starts-true σ c t chosen-in in (r.0, last r.0 c r.1 r.2 r.3)

    abbrev prior : UpTo c
    prior = before c factor.1.place

    -- any other factorization, by its last factor
    record Other (qs : List Word) (q : Word) (k : ℕ) : Type 0 where
      ending : Last q k
      rest : Factorization σ (take k s) qs
      later : Before number c k
      enough : number k ≤ length qs

    other : (qs : List Word) (q : Word) → Factorization σ t (qs ++ (q ∷ [])) → (k : ℕ) × Other qs q k
    other qs q a =
        let r = factors-last σ qs q a in
        let k = length r.1.before in
        let e = last q k r.0 r.1 refl in
        let b : r.1.before ≡ take k s =
        sym (take_at r.1.before q k refl) ∙ ap (take k) r.1.whole ∙ take-take k (suc j) s (omega (arith, e.place)) in
        let u : Factorization σ (take k s) qs = subst (λ (x : Word). Factorization σ x qs) b r.2 in
        let p = before k e.place in
        let later = chosen-before k (starts_is σ q t r.0 r.1) in
        (k, record { ending = e; rest = u; later = later; enough = omega (arith, p.counted, p.fewest.fewest qs u) })

    -- the chosen place has a number that is not above
    not_more : {k : ℕ} → Before number c k → number c ≤ number k
    not_more (inl h) = omega arith
    not_more (inr h) = omega (arith, h.0)

    -- and where the numbers are equal it is not further right
    not_right : {k : ℕ} → Before number c k → number k ≤ number c → c ≤ k
    not_right (inl h) l = absurd (omega arith)
    not_right (inr h) l = h.1

    abbrev longer : List Word
    longer = prior.parts ++ (factor.0 ∷ [])

    next-length : length longer ≡ suc (number c)
    next-length = omega (arith, prior.counted, length-append prior.parts (factor.0 ∷ []))

    next-fewest : (qs : List Word) → Factorization σ t qs → length longer ≤ length qs
    next-fewest qs a = ⊎_elim (λ e. absurd (not_none (factors-by-none σ (rw e at a)))) (λ r. more r.0 r.1 r.2) (factors-by-last qs)
      where
        more : (rs : List Word) (q : Word) → qs ≡ rs ++ (q ∷ []) → length longer ≤ length qs
        more rs q e =
            let o = other rs q (rw e at a) in
            omega (arith, next-length, o.1.enough, not_more o.1.later, ap length e, length-append rs (q ∷ []))

    next-longest : (qs : List Word) → Factorization σ t qs → length qs ≡ length longer
        → not_above (lengths_from_last qs) (lengths_from_last longer) ≡ true
    next-longest qs a n =
        ⊎_elim (λ e. absurd (omega (arith, next-length, ap length e))) (λ r. more r.0 r.1 r.2) (factors-by-last qs)
      where
        more : (rs : List Word) (q : Word) → qs ≡ rs ++ (q ∷ []) → not_above (lengths_from_last qs) (lengths_from_last longer) ≡ true
        more rs q e =
            let o = other rs q (rw e at a) in
            let m : length rs ≡ number c = omega (arith, n, next-length, ap length e, length-append rs (q ∷ [])) in
            let r : c ≤ o.0 = not_right o.1.later (omega (arith, o.1.enough)) in
            ap₂ not_above (ap lengths_from_last e ∙ last-lengths-snoc rs q) (last-lengths-snoc prior.parts factor.0)
            ∙ ⊎_elim
            (λ x.
            let y : o.0 ≡ c = omega (arith, o.1.ending.reaches, factor.1.reaches) in
            not-above-same (length q) (length factor.0) (lengths_from_last rs) (lengths_from_last prior.parts) x
            (prior.fewest.last-longest rs (rw y at o.1.rest) (m ∙ sym prior.counted)))
            (λ x. not-above-less (length q) (length factor.0) (lengths_from_last rs) (lengths_from_last prior.parts) x)
            (eq-or-lt_of_le (omega (arith, o.1.ending.reaches, factor.1.reaches)))

    next-ended : (n : ℕ) → suc j ≤ n → ends_of longer ≡ ends_to start_of n (suc j)
    unfolding ends_to
    next-ended zero h = absurd (omega arith)
    next-ended (suc n) h =
        let z : length (flatten prior.parts) + length factor.0 ≡ suc j =
        omega (arith, ap length prior.fewest.factors.whole, length-take c s, factor.1.reaches, factor.1.place) in
        cc (ends_snoc prior.parts factor.0, prior.ended n (omega (arith, factor.1.place)), z)

    up-to-next : UpTo (suc j)
    up-to-next =
        record {
          parts = longer;
          fewest =
              record {
                factors =
                    subst (λ (x : Word). Factorization σ x longer) factor.1.whole
                    (factors-snoc σ factor.0 prior.fewest.factors factor.1.palindrome);
                fewest = next-fewest;
                last-longest = next-longest;
              };
          counted = next-length ∙ sym (lengths-next σ s j l);
          ended = next-ended;
        }

  -- ---- every place

  up-to-each : (n k : ℕ) → k ≤ n → n ≤ length s → UpTo k
  up-to-each zero k h l = let e : k ≡ 0 = omega arith in rw e up-to-none
  up-to-each (suc n) k h l =
      ⊎_elim
      (λ e. rw e (up-to-next n l λ i m. up-to-each n i m (omega arith)))
      (λ m. up-to-each n k (le_of_suc-le-suc m) (omega arith))
      (eq-or-lt_of_le h)

  -- the whole record
  pub factorization-minimal : (ps : List Word) × MinimalFactorization σ s ps × (length ps ≡ palindromic_length σ s) × (ends_of ps ≡ factor_ends σ s)
  unfolding palindromic_length factor_ends
  factorization-minimal =
      let a = up-to-each (length s) (length s) (omega arith) (omega arith) in
      (a.parts, rw (take-length s) at a.fewest, a.counted, a.ended (length s) (omega arith))
