-- The list of the minimal unique palindromes. It has exactly the intervals whose word passes the test, in order (`listed-true`, `listed-is`,
-- `listed-ordered`). None lies within another (`none_within`), so no two begin at one place or end at one, and the order by start is the order by end
-- (`same_start`, `same_end`, `start-end-order`). Each is the longest palindrome at its end, which is its first end (`longest-at-end`), so a reading
-- of the record from left to right meets them in the order of the list (`minimal-by-end`), and they are the palindromes of the record that pass the
-- test, by first ends (`minimal-by-rows`). There are at most as many as letters (`minimal-few`). Rests on `MinimalUnique`, `Intervals` and `Order`.
-- The partner rule may be any.
use Prim.Native.Nat.{ℕ, zero, suc, ◌+◌, ◌-◌, ◌≤◌, ◌<◌}
use native.Mathlib.Omega.{arith}
use native.Mathlib.Numerals.{add-one}
use native.Mathlib.Decide.{dec_lt, dec_le, ℕ_discrete}
use mathlib.Core.Path.{◌≡◌, refl, sym, ap, ◌∙◌, subst}
use mathlib.Core.Bool.{Bool, true, false, cond}
use mathlib.Core.Logic.{inl, ⊎_elim}
use mathlib.Core.List.{List, [], ◌∷◌, ◌++◌, map, append-nil}
use mathlib.Core.List.Memᴰ
use mathlib.Core.List.{Memᴰ}
use lib.ListN.{length, take, drop, length-append, take-append-drop}
use lib.Seq.{length-take-le}
use Rattle.palindromes.specs.Word.{Word, keep}
use Rattle.palindromes.specs.Place.{Stands, first_place}
use Rattle.palindromes.specs.Record.{longest_suffix, palindromes}
use Rattle.palindromes.specs.Interval.{Interval, interval, word_at, intervals}
use Rattle.palindromes.specs.MinimalUnique.{is_minimal_unique, minimal_unique}
use Rattle.palindromes.proofs.Tests.{not-true-false}
use Rattle.palindromes.proofs.Words.{some-letters, stands-within, cut-within}
use Rattle.palindromes.proofs.Longest.{longest-suffix}
use Rattle.palindromes.proofs.Lists.{keep-nil, keep-pass, keep-skip, of-keep, in-keep, member-true}
use Rattle.palindromes.proofs.Places.{Rising, first-place, first-end-fits}
use Rattle.palindromes.proofs.Palindromes.{palindromes-is}
use Rattle.palindromes.proofs.Order.{longest-at-first-end, first-ends-rising}
use Rattle.palindromes.proofs.Intervals.{IntervalIn, interval-cut, cut-interval, same-interval, Earlier, Ordered, ordered-append, ordered-keep}
use Rattle.palindromes.proofs.Intervals.{ordered_same, intervals-true, intervals-is, intervals-ordered}
use Rattle.palindromes.proofs.MinimalUnique.{minimal_true, none_inside}

-- an interval of the record whose word passes the test
pub record Minimal (σ : ℕ → ℕ) (s : Word) (p : Interval) : Type 0 where
  pub lies : IntervalIn s p
  pub passes : is_minimal_unique σ s (word_at s p) ≡ true

module _ (σ : ℕ → ℕ) (s : Word) where
  -- ---- the list

  -- it has every such interval, and no other
  pub listed-true : (p : Interval) → Memᴰ p (minimal_unique σ s) → Minimal σ s p
  unfolding minimal_unique
  listed-true p m =
      let r = of-keep (λ q. is_minimal_unique σ s (word_at s q)) (intervals s) m in
      record { lies = intervals-true s p r.0; passes = r.1 }

  pub listed-is : (p : Interval) → Minimal σ s p → Memᴰ p (minimal_unique σ s)
  unfolding minimal_unique
  listed-is p h = in-keep (λ q. is_minimal_unique σ s (word_at s q)) (intervals s) (intervals-is s p h.lies) h.passes

  -- in the order that 02 (viii) names, so each once
  pub listed-ordered : Ordered (minimal_unique σ s)
  unfolding minimal_unique
  listed-ordered = ordered-keep (λ q. is_minimal_unique σ s (word_at s q)) (intervals s) (intervals-ordered s)

  -- ---- none within another

  within_same : (p q : Interval) → Minimal σ s p → Minimal σ s q → q.start ≤ p.start → p.end ≤ q.end → p ≡ q
  within_same p q h k l r =
      let c = interval-cut s p h.lies in
      let d = interval-cut s q k.lies in
      let i = cut-within c.0 d.0 (omega (arith, c.1, d.1)) (omega (arith, c.1, c.2, d.1, d.2)) in
      let e = none_inside σ s (minimal_true σ s (word_at s p) h.passes) (minimal_true σ s (word_at s q) k.passes) i in
      let n : length (word_at s p) ≡ length (word_at s q) = ap length e in
      same-interval p q (omega (arith, c.2, d.2, n)) (omega (arith, c.2, d.2, n))

  -- one of the list, by its place there
  abbrev Listed : Interval → Type 0
  Listed p = Memᴰ p (minimal_unique σ s)

  pub none_within : (p q : Interval) → Listed p → Listed q → q.start ≤ p.start → p.end ≤ q.end → p ≡ q
  none_within p q m n = within_same p q (listed-true p m) (listed-true q n)

  -- so no two begin at one place, and no two end at one
  pub same_start : (p q : Interval) → Listed p → Listed q → p.start ≡ q.start → p ≡ q
  same_start p q m n e = go (dec_le p.end q.end)
    where
      go : Dec (p.end ≤ q.end) → p ≡ q
      go (yes l) = none_within p q m n (omega arith) l
      go (no l) = sym (none_within q p n m (omega arith) (omega arith))

  pub same_end : (p q : Interval) → Listed p → Listed q → p.end ≡ q.end → p ≡ q
  same_end p q m n e = go (dec_le q.start p.start)
    where
      go : Dec (q.start ≤ p.start) → p ≡ q
      go (yes l) = none_within p q m n l (omega arith)
      go (no l) = sym (none_within q p n m (omega arith) (omega arith))

  -- and the order by start is the order by end
  pub start-end-order : (p q : Interval) → Listed p → Listed q → p.start < q.start → p.end < q.end
  start-end-order p q m n l = go (dec_lt p.end q.end)
    where
      go : Dec (p.end < q.end) → p.end < q.end
      go (yes h) = h
      go (no h) = absurd (omega (arith, ap (λ (x : Interval). x.start) (none_within q p n m (omega arith) (omega arith))))

  -- each is the longest palindrome at its end, which is where that palindrome first ends
  pub longest-at-end : (p : Interval) → Minimal σ s p
      → (word_at s p ≡ longest_suffix σ (take p.end s)) × (first_place (word_at s p) s + length (word_at s p) ≡ p.end)
  longest-at-end p h =
      let w = word_at s p in
      let a = minimal_true σ s w h.passes in
      let c = interval-cut s p h.lies in
      let f = first-place w s a.there in
      let i : first_place w s + length w ≡ p.end = omega (arith, f.1, c.1, c.2, ap length (a.once f.0 c.0)) in
      let m = palindromes-is σ w s a.palindrome a.there in
      (longest-at-first-end σ w s m ∙ ap (λ (k : ℕ). longest_suffix σ (take k s)) i, i)

-- ---- by right ends

-- the longest palindrome that ends the first k letters
abbrev ending : (ℕ → ℕ) → Word → ℕ → Word
ending σ s k = longest_suffix σ (take k s)

-- where it stands, if it is minimal unique
unfoldable pub met_at : (ℕ → ℕ) → Word → ℕ → List Interval
met_at σ s k = cond (is_minimal_unique σ s (ending σ s k)) (interval (k - length (ending σ s k)) k ∷ []) []

-- those of the first k right ends, from left to right
unfoldable pub met_to : (ℕ → ℕ) → Word → ℕ → List Interval
met_to σ s zero = []
met_to σ s (suc k) = met_to σ s k ++ met_at σ s (suc k)

module _ (σ : ℕ → ℕ) (s : Word) where
  -- the longest palindrome at a right end stands there
  ending-cut : (k : ℕ) → k ≤ length s
      → (c : Stands (ending σ s k) s) × (length c.before ≡ k - length (ending σ s k)) × (length (ending σ s k) ≤ k)
  ending-cut k h =
      let f = (longest-suffix σ (take k s)).suffix in
      let n = length-take-le k s h in (
        record { before = f.before; after = drop k s; whole = cc (f.whole, take-append-drop k s) },
        omega (arith, n, simp length-append at (ap length f.whole)),
        omega (arith, n, simp length-append at (ap length f.whole)),
      )

  -- what is met at a right end
  met-at-true : (k : ℕ) → k ≤ length s → (p : Interval) → Memᴰ p (met_at σ s k) → Minimal σ s p × (p.end ≡ k)
  unfolding met_at
  met-at-true k h p m = go (is_minimal_unique σ s w) refl m
    where
      w : Word
      w = ending σ s k

      here : is_minimal_unique σ s w ≡ true → Minimal σ s (interval (k - length w) k)
      here e =
          let c = ending-cut k h in
          let n = some-letters w (minimal_true σ s w e).palindrome.non-empty in
          let stands = cut-interval c.0 (k - length w) k c.1 (omega (arith, c.2)) in
          record { lies = record { some = omega (arith, c.2); fits = h }; passes = rw stands e }

      go : (t : Bool) → is_minimal_unique σ s w ≡ t → Memᴰ p (cond t (interval (k - length w) k ∷ []) []) → Minimal σ s p × (p.end ≡ k)
      go true e m = let i = Memᴰ.eq_of_singleton m in rw i (here e, refl)
      go false e m = absurd (Memᴰ.not-nil m)

  met-at-is : (p : Interval) → Minimal σ s p → Memᴰ p (met_at σ s p.end)
  unfolding met_at
  met-at-is p h =
      let c = interval-cut s p h.lies in
      let e = same-interval p (interval (p.end - length (word_at s p)) p.end) (omega (arith, c.2)) refl in
      rw (← (longest-at-end σ s p h).0, h.passes) (Memᴰ.head e)

  met-true : (k : ℕ) → k ≤ length s → (p : Interval) → Memᴰ p (met_to σ s k) → Minimal σ s p × (p.end ≤ k)
  unfolding met_to
  met-true zero h p m = absurd (Memᴰ.not-nil m)
  met-true (suc k) h p m =
      ⊎_elim
      (λ i. let r = met-true k (omega arith) p i in (r.0, omega (arith, r.1)))
      (λ i. let r = met-at-true (suc k) h p i in (r.0, omega (arith, r.1)))
      (Memᴰ.append_cases (met_to σ s k) m)

  met-is : (k : ℕ) (p : Interval) → Minimal σ s p → p.end ≤ k → Memᴰ p (met_to σ s k)
  unfolding met_to
  met-is zero p h l = absurd (omega (arith, h.lies.some))
  met-is (suc k) p h l = go (met-is k p h) (ℕ_discrete p.end (suc k))
    where
      go : (p.end ≤ k → Memᴰ p (met_to σ s k)) → Dec (p.end ≡ suc k) → Memᴰ p (met_to σ s k ++ met_at σ s (suc k))
      go ih (yes i) = Memᴰ.append_right (met_to σ s k) (subst (λ (j : ℕ). Memᴰ p (met_at σ s j)) i (met-at-is p h))
      go ih (no n) = Memᴰ.append_left (met_at σ s (suc k)) (ih (omega arith))

  met-ordered : (k : ℕ) → k ≤ length s → Ordered (met_to σ s k)
  unfolding met_to met_at
  met-ordered zero h = tt
  met-ordered (suc k) h =
      ordered-append (met_to σ s k) (met_at σ s (suc k)) (met-ordered k (omega arith)) (one (is_minimal_unique σ s (ending σ s (suc k)))) apart
    where
      one : (t : Bool) → Ordered (cond t (interval (suc k - length (ending σ s (suc k))) (suc k) ∷ []) [])
      one true = ((λ q m. absurd (Memᴰ.not-nil m)), tt)
      one false = tt

      apart : (p q : Interval) → Memᴰ p (met_to σ s k) → Memᴰ q (met_at σ s (suc k)) → Earlier p q
      apart p q m n = go (met-true k (omega arith) p m) (met-at-true (suc k) h q n) (dec_lt p.start q.start)
        where
          go : Minimal σ s p × (p.end ≤ k) → Minimal σ s q × (q.end ≡ suc k) → Dec (p.start < q.start) → Earlier p q
          go a b (yes l) = inl l
          go a b (no l) =
              let e = within_same σ s p q a.0 b.0 (omega arith) (omega (arith, a.1, b.1)) in
              absurd (omega (arith, a.1, b.1, ap (λ (x : Interval). x.end) e))

  -- so one reading from left to right meets them in the order of the list
  pub minimal-by-end : minimal_unique σ s ≡ met_to σ s (length s)
  minimal-by-end =
      ordered_same (minimal_unique σ s) (met_to σ s (length s)) (listed-ordered σ s) (met-ordered (length s) (omega arith))
      (λ p m. let r = listed-true σ s p m in met-is (length s) p r r.lies.fits)
      (λ p m. listed-is σ s p (met-true (length s) (omega arith) p m).0)

  -- one right end more: nothing is met there where the longest palindrome stood before, or is not minimal unique
  pub stood-before : (k : ℕ) → k < length s → Stands (ending σ s (k + 1)) (take k s) → is_minimal_unique σ s (ending σ s (k + 1)) ≡ false
  stood-before k h c =
      not-true-false (is_minimal_unique σ s (ending σ s (k + 1))) λ e.
      let d = ending-cut (k + 1) (omega arith) in
      let l = stands-within c (record { before = []; after = drop k s; whole = take-append-drop k s }) in
      let once = ap length ((minimal_true σ s (ending σ s (k + 1)) e).once l.0 d.0) in
      omega (arith, length-take-le k s (omega arith), d.1, d.2, simp length-append at (ap length c.whole), once, ap length l.1)

  pub met-none : met_to σ s 0 ≡ []
  unfolding met_to
  met-none = refl

  pub met-old : (k : ℕ) → is_minimal_unique σ s (ending σ s (k + 1)) ≡ false → met_to σ s (k + 1) ≡ met_to σ s k
  unfolding met_to met_at
  met-old k e = rw (add-one, ← add-one, e) (append-nil (met_to σ s k))

  pub met-new : (k : ℕ) → is_minimal_unique σ s (ending σ s (k + 1)) ≡ true
      → met_to σ s (k + 1) ≡ met_to σ s k ++ (interval (k + 1 - length (ending σ s (k + 1))) (k + 1) ∷ [])
  unfolding met_to met_at
  met-new k e = rw (add-one, ← add-one, e) refl

  pub met-few : (k : ℕ) → length (met_to σ s k) ≤ k
  unfolding met_to met_at
  met-few zero = omega arith
  met-few (suc k) = simp length-append (omega (arith, met-few k, one (is_minimal_unique σ s (ending σ s (suc k)))))
    where
      one : (t : Bool) → length (cond t (interval (suc k - length (ending σ s (suc k))) (suc k) ∷ []) []) ≤ 1
      one true = omega arith
      one false = omega arith

  -- more right ends have no fewer
  pub met-more : (k j : ℕ) → k ≤ j → length (met_to σ s k) ≤ length (met_to σ s j)
  unfolding met_to
  met-more k zero h = let e : k ≡ 0 = omega arith in rw e (omega arith)
  met-more k (suc j) h = go (met-more k j) (ℕ_discrete k (suc j))
    where
      go : (k ≤ j → length (met_to σ s k) ≤ length (met_to σ s j)) → Dec (k ≡ suc j)
          → length (met_to σ s k) ≤ length (met_to σ s j ++ met_at σ s (suc j))
      go ih (yes e) = rw e (omega arith)
      go ih (no n) = omega (arith, ih (omega arith), length-append (met_to σ s j) (met_at σ s (suc j)))

  -- 02 (viii) "there are never more than the record has letters"
  pub minimal-few : length (minimal_unique σ s) ≤ length s
  minimal-few = rw minimal-by-end (met-few (length s))

-- ---- by the palindromes of the record

-- where a palindrome stands first
abbrev pub first_interval : Word → Word → Interval
first_interval s w = interval (first_place w s) (first_place w s + length w)

module _ (σ : ℕ → ℕ) (s : Word) where
  abbrev test : Word → Bool
  test w = is_minimal_unique σ s w

  -- a minimal unique word stands at its first interval
  first-minimal : (w : Word) → test w ≡ true → Minimal σ s (first_interval s w)
  first-minimal w e =
      let a = minimal_true σ s w e in
      let c = first-place w s a.there in
      let n = some-letters w a.palindrome.non-empty in
      let stands = cut-interval c.0 (first_place w s) (first_place w s + length w) c.1 refl in
      record { lies = record { some = omega arith; fits = first-end-fits w s a.there }; passes = rw stands e }

  -- of two the one that first ends earlier begins earlier
  ends-earlier : (u w : Word) → test u ≡ true → test w ≡ true → first_place u s + length u < first_place w s + length w
      → Earlier (first_interval s u) (first_interval s w)
  ends-earlier u w e f l = go (dec_lt (first_place u s) (first_place w s))
    where
      go : Dec (first_place u s < first_place w s) → Earlier (first_interval s u) (first_interval s w)
      go (yes h) = inl h
      go (no h) =
          let i = within_same σ s (first_interval s u) (first_interval s w) (first-minimal u e) (first-minimal w f) (omega arith) (omega arith) in
          absurd (omega (arith, ap (λ (x : Interval). x.end) i))

  rows-ordered : (l : List Word) → Rising (map (λ w. first_place w s + length w) l) → Ordered (map (first_interval s) (keep test l))
  rows-ordered [] r = rw (keep-nil test) tt
  rows-ordered (w ∷ l) r = go (test w) refl (rows-ordered l r.1)
    where
      later : test w ≡ true → (q : Interval) → Memᴰ q (map (first_interval s) (keep test l)) → Earlier (first_interval s w) q
      later e q m =
          let f = Memᴰ.of_map (first_interval s) (keep test l) m in
          let h = of-keep test l f.1 in
          let after = r.0 (first_place f.0 s + length f.0) (Memᴰ.map (λ v. first_place v s + length v) h.0) in
          subst (Earlier (first_interval s w)) f.2 (ends-earlier w f.0 e h.1 after)

      go : (t : Bool) → test w ≡ t → Ordered (map (first_interval s) (keep test l)) → Ordered (map (first_interval s) (keep test (w ∷ l)))
      go true e ih = rw (keep-pass test w l e) (later e, ih)
      go false e ih = rw (keep-skip test w l e) ih

  -- the list is that of the palindromes of the record that pass the test, each at its first place, in the order of their first ends:
  -- `minimal-by-node` says which those are
  pub minimal-by-rows : minimal_unique σ s ≡ map (first_interval s) (keep (is_minimal_unique σ s) (palindromes σ s))
  minimal-by-rows = ordered_same (minimal_unique σ s) rows (listed-ordered σ s) (rows-ordered (palindromes σ s) (first-ends-rising σ s)) there back
    where
      rows : List Interval
      rows = map (first_interval s) (keep test (palindromes σ s))

      there : (p : Interval) → Memᴰ p (minimal_unique σ s) → Memᴰ p rows
      there p m =
          let h = listed-true σ s p m in
          let w = word_at s p in
          let a = minimal_true σ s w h.passes in
          let c = interval-cut s p h.lies in
          let e = (longest-at-end σ s p h).1 in
          let k = in-keep test (palindromes σ s) (member-true w (palindromes σ s) (palindromes-is σ w s a.palindrome a.there)) h.passes in
          subst (λ (q : Interval). Memᴰ q rows) (same-interval (first_interval s w) p (omega (arith, e, c.2)) e) (Memᴰ.map (first_interval s) k)

      back : (p : Interval) → Memᴰ p rows → Memᴰ p (minimal_unique σ s)
      back p m =
          let f = Memᴰ.of_map (first_interval s) (keep test (palindromes σ s)) m in
          let h = of-keep test (palindromes σ s) f.1 in
          subst (λ (q : Interval). Memᴰ q (minimal_unique σ s)) f.2 (listed-is σ s (first_interval s f.0) (first-minimal f.0 h.1))
