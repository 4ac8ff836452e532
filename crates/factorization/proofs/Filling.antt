-- The numbers of factors and the places at which last factors begin, right end by right end. `Turn` is what holds when the first k right ends are
-- passed; it holds before the first (`turn-first`) and passes over one letter (`turn_more`). In a plain record every right end has a palindrome
-- (`ends_there`). Rests on the recurrence in `PalindromicLengths` of palindromes and on the bound of the series.
use Prim.Native.Nat.{ℕ, ◌+◌, ◌*◌, ◌≤◌, ◌<◌}
use native.Mathlib.Omega.{arith}
use native.Mathlib.Numerals.{add-one}
use native.Mathlib.Decide.{ℕ_discrete}
use mathlib.Core.Path.{◌≡◌, sym, ap, ◌∙◌, subst}
use mathlib.Core.List.{[], ◌∷◌, ◌++◌}
use lib.ListN.{length, get_or, set, take, replicate, length-set, length-take, length-replicate, get_or-replicate}
use lib.Seq.{get_or-set_same, get_or-set_other, take-suc, take-length}
use Rattle.palindromes.specs.Word.{Word}
use Rattle.palindromes.specs.Reading.{rule_in}
use Rattle.palindromes.proofs.Words.{suffix-length}
use Rattle.palindromes.proofs.Longest.{longest-suffix}
use Rattle.palindromes.proofs.Readings.{rule-of-plain}
use Rattle.eertree.proofs.Rows.{reach_of, row-high}
use Rattle.series.specs.Series.{series_steps, most_series}
use Rattle.series.proofs.SeriesBound.{steps-none, steps-snoc, steps-few}
use Rattle.series.proofs.Memory.{fresh-first}
use Rattle.palindromes.proofs.Starts.{longest-some}
use Rattle.palindromes.proofs.PalindromicLengths.{lengths-zero, lengths-next, lengths-most}
use Rattle.store.specs.Layout.{size_in, reading_in, letters_in}
use Rattle.store.specs.Good.{rule_of, Good}
use Rattle.store.proofs.Sizes.{letters-length}
use Rattle.transitions.proofs.Rows.{covers, size-most}
use Rattle.walk.specs.Replay.{ending_in, Holds}
use Rattle.end_rows.specs.EndRows.{EndRows}
use Rattle.last_factor.specs.Kept.{reach_in, factors_in, start_in, Known, Memos, FreshIn, series_at, EndsAt, begin_of}
use Rattle.factorization.specs.LastStarts.{LastStarts}
use Rattle.last_factor.proofs.Jumping.{tells}

-- at the right ends from k on the rows still stand
pub record RowsFrom (b : Word) (k : ℕ) (lasts : Word) : Type 0 where
  pub long : size_in b ≤ length lasts
  pub each : (q : ℕ) → k ≤ q → q < size_in b → Holds b (q + 1) (get_or lasts q 0)

-- what holds when the first k of n right ends are passed
pub record Turn (b : Word) (n : ℕ) (lasts factors memos : Word) (k steps : ℕ) : Type 0 where
  pub passed : k ≤ n
  pub known : Known b (k + 1) factors
  pub starts : LastStarts b k lasts
  pub rows : RowsFrom b k lasts
  pub kept : Memos b memos
  pub fresh : FreshIn b memos (k + 1)
  pub counted : steps ≡ series_steps (rule_of b) (take k (letters_in b))

-- every letter of a plain record is its own partner
pub own-partner : (b : Word) → reading_in b ≡ 0 → (c : ℕ) → rule_of b c ≡ c
own-partner b e c = ap (λ (m : ℕ). rule_in m c) e ∙ ap (λ (f : ℕ → ℕ). f c) rule-of-plain

-- nothing is kept at first
blank : {memos : Word} → memos ≡ replicate 1026 0 → (r : ℕ) → r < 1026 → get_or memos r 0 ≡ 0
blank z r h = ap (λ (l : Word). get_or l r 0) z ∙ get_or-replicate {A = ℕ} 1026 r 0 0 h

blank-memos : {b memos : Word} → memos ≡ replicate 1026 0 → Memos b memos
blank-memos {b} {memos} z =
    record { long = ap length z ∙ length-replicate {A = ℕ} 1026 0; each = λ r p h e. absurd (omega (arith, e, ap begin_of (blank z r h))) }

module _ {b : Word} (g : Good b) where
  -- the steps of the whole record
  pub steps_all : reading_in b ≡ 0 → {steps : ℕ} → steps ≡ series_steps (rule_of b) (take (size_in b) (letters_in b))
      → (steps ≡ series_steps (rule_of b) (letters_in b)) × (steps ≤ size_in b * most_series)
  steps_all z {steps} e =
      let n : length (letters_in b) ≡ size_in b = letters-length g.sized in
      let f : steps ≡ series_steps (rule_of b) (letters_in b) = e ∙ ap (series_steps (rule_of b)) (rw (← n) (take-length (letters_in b))) in
      (f, omega (arith, steps-few (rule_of b) (own-partner b z) (letters_in b) (omega (arith, size-most g))))

  pub turn-first : {n : ℕ} {lasts factors memos : Word} → EndRows b lasts → factors ≡ replicate 1025 0 → memos ≡ replicate 1026 0
      → Turn b n lasts factors memos 0 0
  turn-first {n} {lasts} {factors} rows p z =
      record {
        passed = omega arith;
        known = record { long = ap length p ∙ length-replicate {A = ℕ} 1025 0; each = λ q h. first q h };
        starts = record { long = omega arith; each = λ q h. absurd (omega arith) };
        rows = record { long = rows.long; each = λ q l h. rows.each q h };
        kept = blank-memos z;
        counted = sym (steps-none (rule_of b));
        fresh = fresh-first (covers g) (reach_in b) (tells g) (ap begin_of (blank z 1 (omega arith)));
      }
    where
      first : (q : ℕ) → q < 0 + 1 → get_or factors q 0 ≡ factors_in b q
      first q h =
          let e : q ≡ 0 = omega arith in
          rw e (ap (λ (l : Word). get_or l 0 0) p ∙ get_or-replicate 1025 0 0 0 (omega arith) ∙ sym (lengths-zero (rule_of b) (letters_in b)))

  module _ {k : ℕ} (l : k < size_in b) where
    letters : k < length (letters_in b)
    letters = omega (arith, letters-length g.sized)

    -- the row at the right end holds a palindrome that is not empty and not longer than the letters
    pub ends_there : reading_in b ≡ 0 → {row : ℕ} → Holds b (k + 1) row → EndsAt b (k + 1) row
    ends_there e {row} h =
        let t = take (k + 1) (letters_in b) in
        let some : ending_in b (k + 1) ≡ [] → ⊥ =
        longest-some (rule_of b) (own-partner b e) t (λ n. omega (arith, ap length n, length-take (k + 1) (letters_in b), letters)) in
        record {
          used = h.used;
          high = row-high (covers g) row h.holds some;
          reaches =
              omega (
                arith,
                tells g row h.used,
                ap reach_of h.holds,
                suffix-length (longest-suffix (rule_of b) t).suffix,
                length-take (k + 1) (letters_in b),
              );
          small = omega (arith, size-most g);
        }

    -- the recurrence
    lengths-more : factors_in b (k + 1) ≡ factors_in b (start_in b (k + 1)) + 1
    lengths-more = rw (add-one k) (omega (arith, lengths-next (rule_of b) (letters_in b) k letters))

    -- the series of one right end more
    steps-more : series_steps (rule_of b) (take (k + 1) (letters_in b)) ≡ series_steps (rule_of b) (take k (letters_in b)) + series_at b (k + 1)
    steps-more =
        let c : take (k + 1) (letters_in b) ≡ take k (letters_in b) ++ (get_or (letters_in b) k 0 ∷ []) = rw (add-one k) (take-suc (letters_in b) k 0 letters) in
        rw c (steps-snoc (rule_of b) (take k (letters_in b)) (get_or (letters_in b) k 0))

    -- they are few, and their sum fits
    pub steps-small : reading_in b ≡ 0 → {n : ℕ} {lasts factors memos : Word} {steps turns : ℕ} → Turn b n lasts factors memos k steps
        → turns ≡ series_at b (k + 1) → steps + turns ≤ 1024 * 1024
    steps-small z {steps} {turns} t y =
        let n : length (take (k + 1) (letters_in b)) ≤ 1024 =
        omega (arith, length-take (k + 1) (letters_in b), letters, letters-length g.sized, size-most g) in
        omega (arith, t.counted, steps-more, steps-few (rule_of b) (own-partner b z) (take (k + 1) (letters_in b)) n)

    -- one more than a known number fits
    pub lengths-small : {factors : Word} → Known b (k + 1) factors → (place : ℕ) → place < k + 1 → get_or factors place 0 + 1 < 65536
    lengths-small n place h = omega (arith, n.each place h, lengths-most (rule_of b) (letters_in b) place (omega (arith, letters)), size-most g)

    pub turn_more : {n : ℕ} {lasts factors memos₀ memos : Word} → n ≡ size_in b → {steps : ℕ} → Turn b n lasts factors memos₀ k steps
        → {start turns : ℕ} → start ≡ start_in b (k + 1) → start < k + 1
        → Memos b memos → FreshIn b memos (k + 1 + 1) → turns ≡ series_at b (k + 1)
        → Turn b n (set lasts k start) (set factors (k + 1) (get_or factors start 0 + 1)) memos (k + 1) (steps + turns)
    turn_more {n} {lasts} {factors} z {steps} t {start} {turns} e h m f y =
        record {
          passed = omega arith;
          known = record { long = length-set factors (k + 1) v ∙ t.known.long; each = λ q i. number q i (ℕ_discrete q (k + 1)) };
          starts = record { long = omega (arith, wide, length-set lasts k start); each = λ q i. last q i (ℕ_discrete q k) };
          rows = record { long = omega (arith, wide, length-set lasts k start); each = λ q i j. row q i j };
          kept = m;
          fresh = f;
          counted = omega (arith, t.counted, steps-more);
        }
      where
        wide : size_in b ≤ length lasts
        wide = t.rows.long

        v : ℕ
        v = get_or factors start 0 + 1

        value : v ≡ factors_in b (k + 1)
        value = omega (arith, t.known.each start h, ap (factors_in b) e, lengths-more)

        number : (q : ℕ) → q < k + 1 + 1 → Dec (q ≡ k + 1) → get_or (set factors (k + 1) v) q 0 ≡ factors_in b q
        number q i (yes p) = rw p (get_or-set_same factors (k + 1) v 0 (omega (arith, t.known.long, size-most g)) ∙ value)
        number q i (no p) = get_or-set_other factors (k + 1) q v 0 p ∙ t.known.each q (omega arith)

        last : (q : ℕ) → q < k + 1 → Dec (q ≡ k) → get_or (set lasts k start) q 0 ≡ start_in b (q + 1)
        last q i (yes p) = rw p (get_or-set_same lasts k start 0 (omega (arith, wide)) ∙ e)
        last q i (no p) = get_or-set_other lasts k q start 0 p ∙ t.starts.each q (omega arith)

        row : (q : ℕ) → k + 1 ≤ q → q < size_in b → Holds b (q + 1) (get_or (set lasts k start) q 0)
        row q i j =
            subst (Holds b (q + 1)) (sym (get_or-set_other lasts k q start 0 (λ p. omega arith))) (t.rows.each q (omega arith) j)
