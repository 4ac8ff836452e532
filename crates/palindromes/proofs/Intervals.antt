-- Intervals: what is cut from a record stands where it was cut (`cut-interval`, `interval-cut`), and the word between two places is an end of the
-- letters up to the second (`word-between`); the intervals of a record are those that lie in it, ordered by start and then by end (`intervals-true`,
-- `intervals-is`, `intervals-ordered`); ordered lists with the same members are equal (`ordered_same`); an interval takes four bytes, from which it
-- can be read back (`interval-bytes-length`, `intervals-read`). Rests on the laws of sifted lists in proofs/Lists.antt only.
use Prim.Native.Nat.{ℕ, zero, suc, ◌+◌, ◌*◌, ◌-◌, ◌≤◌, ◌<◌}
use native.Mathlib.Omega.{arith}
use native.Mathlib.Decide.{ℕ_discrete}
use mathlib.Core.Path.{◌≡◌, refl, sym, ap, ap₂, ◌∙◌, subst}
use mathlib.Core.Bool.{Bool, true, false}
use mathlib.Core.Logic.{◌⊎◌, inl, inr, ⊎_elim}
use mathlib.Core.List.{List, [], ◌∷◌, ◌++◌, map, append_assoc}
use mathlib.Core.List.Memᴰ
use mathlib.Core.List.{Memᴰ}
use lib.ListN.{length, take, drop, length-drop, take-append-drop}
use lib.Seq.{take_at, drop_at, length-take-le}
use Rattle.palindromes.specs.Word.{Word, keep}
use Rattle.palindromes.specs.Place.{Stands}
use Rattle.palindromes.specs.Interval.{Interval, interval, word_at, numbers_from, intervals_from, intervals, two_bytes, interval_bytes, intervals_read}
use Rattle.palindromes.proofs.Lists.{keep-nil, keep-pass, keep-skip, of-keep}

-- ---- what stands there

-- an interval of the record that is not empty
pub record IntervalIn (s : Word) (p : Interval) : Type 0 where
  pub some : p.start < p.end
  pub fits : p.end ≤ length s

-- the word between two places is the end of the letters up to the second
pub word-between : (i e : ℕ) (s : Word) → word_at s (interval i e) ≡ drop i (take e s)
unfolding word_at
word-between zero e s = let n : e - 0 ≡ e = omega arith in rw n refl
word-between (suc i) zero s = let n : 0 - suc i ≡ 0 = omega arith in rw n refl
word-between (suc i) (suc e) [] = nothing (suc e - suc i)
  where
    nothing : (n : ℕ) → take {A = ℕ} n [] ≡ []
    nothing zero = refl
    nothing (suc n) = refl
word-between (suc i) (suc e) (x ∷ s) = let n : suc e - suc i ≡ e - i = omega arith in rw n (word-between i e s)

-- what comes before a place, n letters from there on, and the rest
parted : (i n : ℕ) (s : Word) → take i s ++ take n (drop i s) ++ drop n (drop i s) ≡ s
parted i n s = cc (append_assoc (take i s) (take n (drop i s)) (drop n (drop i s)), take-append-drop n (drop i s), take-append-drop i s)

-- the word that stands there is cut there
pub interval-cut : (s : Word) (p : Interval) → IntervalIn s p
    → (c : Stands (word_at s p) s) × (length c.before ≡ p.start) × (p.start + length (word_at s p) ≡ p.end)
unfolding word_at
interval-cut s p h =
    let n = p.end - p.start in
    let rest : Word = drop p.start s in (
      record { before = take p.start s; after = drop n rest; whole = parted p.start n s },
      length-take-le p.start s (omega (arith, h.some, h.fits)),
      omega (arith, h.some, h.fits, length-take-le n rest (simp length-drop (omega (arith, h.some, h.fits)))),
    )

-- and what is cut stands there
pub cut-interval : {w s : Word} (c : Stands w s) (i e : ℕ) → length c.before ≡ i → i + length w ≡ e → word_at s (interval i e) ≡ w
unfolding word_at
cut-interval {w} {s} c i e h k =
    let n : length w ≡ e - i = omega arith in
    cc (append_assoc c.before w c.after, drop_at c.before (w ++ c.after) i h, take_at w c.after (e - i) n)

pub same-interval : (p q : Interval) → p.start ≡ q.start → p.end ≡ q.end → p ≡ q
same-interval p q h k = ap₂ interval h k

-- ---- order

-- p comes before q: 02 (viii) "by start and then by end"
abbrev pub Earlier : Interval → Interval → Type 0
Earlier p q = (p.start < q.start) ⊎ ((p.start ≡ q.start) × (p.end < q.end))

-- each interval of the list comes before all that follow it
abbrev pub Ordered : List Interval → Type 0
Ordered [] = Unit
Ordered (p ∷ l) = ((q : Interval) → Memᴰ q l → Earlier p q) × Ordered l

pub ordered-append : (a b : List Interval) → Ordered a → Ordered b → ((p q : Interval) → Memᴰ p a → Memᴰ q b → Earlier p q)
    → Ordered (a ++ b)
ordered-append [] b r q h = q
ordered-append (i ∷ a) b r q h = (later, ordered-append a b r.1 q λ j k m n. h j k (Memᴰ.tail m) n)
  where
    later : (j : Interval) → Memᴰ j (a ++ b) → Earlier i j
    later j m = ⊎_elim (λ n. r.0 j n) (λ n. h i j (Memᴰ.head refl) n) (Memᴰ.append_cases a m)

pub ordered-keep : (f : Interval → Bool) (l : List Interval) → Ordered l → Ordered (keep f l)
ordered-keep f [] o = rw (keep-nil f) tt
ordered-keep f (p ∷ l) o = go (f p) refl (ordered-keep f l o.1)
  where
    go : (t : Bool) → f p ≡ t → Ordered (keep f l) → Ordered (keep f (p ∷ l))
    go true e ih = rw (keep-pass f p l e) (λ q m. o.0 q (of-keep f l m).0, ih)
    go false e ih = rw (keep-skip f p l e) ih

not-both : (p q : Interval) → Earlier p q → Earlier q p → ⊥
not-both p q (inl h) (inl k) = omega arith
not-both p q (inl h) (inr k) = omega arith
not-both p q (inr h) (inl k) = omega arith
not-both p q (inr h) (inr k) = omega arith

not_itself : (p : Interval) → Earlier p p → ⊥
not_itself p h = not-both p p h h

-- ordered lists with the same members are equal
pub ordered_same : (a b : List Interval) → Ordered a → Ordered b → ((p : Interval) → Memᴰ p a → Memᴰ p b)
    → ((p : Interval) → Memᴰ p b → Memᴰ p a) → a ≡ b
ordered_same [] [] r t f g = refl
ordered_same [] (q ∷ b) r t f g = absurd (Memᴰ.not-nil (g q (Memᴰ.head refl)))
ordered_same (p ∷ a) [] r t f g = absurd (Memᴰ.not-nil (f p (Memᴰ.head refl)))
ordered_same (p ∷ a) (q ∷ b) r t f g = ap₂ ◌∷◌ first (ordered_same a b r.1 t.1 there back)
  where
    first : p ≡ q
    first =
        ⊎_elim (λ e. e)
        (λ m. ⊎_elim (λ e. sym e) (λ n. absurd (not-both p q (r.0 q n) (t.0 p m))) (Memᴰ.cases_cons (g q (Memᴰ.head refl))))
        (Memᴰ.cases_cons (f p (Memᴰ.head refl)))

    there : (x : Interval) → Memᴰ x a → Memᴰ x b
    there x m =
        ⊎_elim
        (λ e. absurd (not_itself p (subst (Earlier p) (e ∙ sym first) (r.0 x m))))
        (λ n. n)
        (Memᴰ.cases_cons (f x (Memᴰ.tail m)))

    back : (x : Interval) → Memᴰ x b → Memᴰ x a
    back x m =
        ⊎_elim
        (λ e. absurd (not_itself q (subst (Earlier q) (e ∙ first) (t.0 x m))))
        (λ n. n)
        (Memᴰ.cases_cons (g x (Memᴰ.tail m)))

-- ---- the intervals of a record

numbers-true : (i n j : ℕ) → Memᴰ j (numbers_from i n) → (i ≤ j) × (j < i + n)
unfolding numbers_from
numbers-true i zero j m = absurd (Memᴰ.not-nil m)
numbers-true i (suc n) j m =
    ⊎_elim
    (λ e. (omega arith, omega arith))
    (λ k. let r = numbers-true (suc i) n j k in (omega (arith, r.0), omega (arith, r.1)))
    (Memᴰ.cases_cons m)

numbers-is : (i n j : ℕ) → i ≤ j → j < i + n → Memᴰ j (numbers_from i n)
unfolding numbers_from
numbers-is i zero j h k = absurd (omega arith)
numbers-is i (suc n) j h k = go (numbers-is (suc i) n j) (ℕ_discrete j i)
  where
    go : (suc i ≤ j → j < suc i + n → Memᴰ j (numbers_from (suc i) n)) → Dec (j ≡ i) → Memᴰ j (i ∷ numbers_from (suc i) n)
    go ih (yes e) = Memᴰ.head e
    go ih (no d) = Memᴰ.tail (ih (omega arith) (omega arith))

-- those that begin at one place
abbrev starting : ℕ → List ℕ → List Interval
starting i l = map (λ e. interval i e) l

-- one of them
of-starting : (i : ℕ) (l : List ℕ) (p : Interval) → Memᴰ p (starting i l) → (p.start ≡ i) × Memᴰ p.end l
of-starting i l p m =
    let r = Memᴰ.of_map (λ e. interval i e) l m in
    (sym (ap (λ (x : Interval). x.start) r.2), subst (λ (e : ℕ). Memᴰ e l) (ap (λ (x : Interval). x.end) r.2) r.1)

ordered-starting : (i j n : ℕ) → Ordered (starting i (numbers_from j n))
unfolding numbers_from
ordered-starting i j zero = tt
ordered-starting i j (suc n) = (later, ordered-starting i (suc j) n)
  where
    later : (q : Interval) → Memᴰ q (starting i (numbers_from (suc j) n)) → Earlier (interval i j) q
    later q m = let r = of-starting i (numbers_from (suc j) n) q m in inr (sym r.0, omega (arith, (numbers-true (suc j) n q.end r.1).0))

record Between (i n : ℕ) (p : Interval) : Type 0 where
  from : i ≤ p.start
  some : p.start < p.end
  to : p.end ≤ i + n

from-true : (i n : ℕ) (p : Interval) → Memᴰ p (intervals_from i n) → Between i n p
unfolding intervals_from
from-true i zero p m = absurd (Memᴰ.not-nil m)
from-true i (suc n) p m = ⊎_elim here (λ k. later (from-true (suc i) n p k)) (Memᴰ.append_cases (starting i (numbers_from (suc i) (suc n))) m)
  where
    here : Memᴰ p (starting i (numbers_from (suc i) (suc n))) → Between i (suc n) p
    here k =
        let r = of-starting i (numbers_from (suc i) (suc n)) p k in
        let l = numbers-true (suc i) (suc n) p.end r.1 in
        record { from = omega (arith, r.0); some = omega (arith, r.0, l.0); to = omega (arith, l.1) }

    later : Between (suc i) n p → Between i (suc n) p
    later r = record { from = omega (arith, r.from); some = r.some; to = omega (arith, r.to) }

from_is : (i n : ℕ) (p : Interval) → Between i n p → Memᴰ p (intervals_from i n)
unfolding intervals_from
from_is i zero p h = absurd (omega (arith, h.from, h.some, h.to))
from_is i (suc n) p h = go (from_is (suc i) n p) (ℕ_discrete p.start i)
  where
    here : List Interval
    here = starting i (numbers_from (suc i) (suc n))

    go : (Between (suc i) n p → Memᴰ p (intervals_from (suc i) n)) → Dec (p.start ≡ i) → Memᴰ p (here ++ intervals_from (suc i) n)
    go ih (yes e) =
        let m = Memᴰ.map (λ e. interval i e) (numbers-is (suc i) (suc n) p.end (omega (arith, h.some)) (omega (arith, h.to))) in
        Memᴰ.append_left (intervals_from (suc i) n) (subst (λ (q : Interval). Memᴰ q here) (same-interval (interval i p.end) p (sym e) refl) m)
    go ih (no d) = Memᴰ.append_right here (ih (record { from = omega (arith, h.from); some = h.some; to = omega (arith, h.to) }))

from-ordered : (i n : ℕ) → Ordered (intervals_from i n)
unfolding intervals_from
from-ordered i zero = tt
from-ordered i (suc n) =
    ordered-append (starting i (numbers_from (suc i) (suc n))) (intervals_from (suc i) n) (ordered-starting i (suc i) (suc n)) (from-ordered (suc i) n)
    (λ p q m k. inl (omega (arith, (of-starting i (numbers_from (suc i) (suc n)) p m).0, (from-true (suc i) n q k).from)))

module _ (s : Word) where
  pub intervals-true : (p : Interval) → Memᴰ p (intervals s) → IntervalIn s p
  unfolding intervals
  intervals-true p m = let b = from-true zero (length s) p m in record { some = b.some; fits = omega (arith, b.to) }

  pub intervals-is : (p : Interval) → IntervalIn s p → Memᴰ p (intervals s)
  unfolding intervals
  intervals-is p h = from_is zero (length s) p (record { from = omega arith; some = h.some; to = omega (arith, h.fits) })

  pub intervals-ordered : Ordered (intervals s)
  unfolding intervals
  intervals-ordered = from-ordered zero (length s)

-- ---- bytes

-- four for each
pub interval-bytes-length : (l : List Interval) → length (interval_bytes l) ≡ 4 * length l
unfolding interval_bytes two_bytes
interval-bytes-length [] = refl
interval-bytes-length (p ∷ l) = omega (arith, interval-bytes-length l)

pub interval-bytes-append : (a b : List Interval) → interval_bytes (a ++ b) ≡ interval_bytes a ++ interval_bytes b
unfolding interval_bytes two_bytes
interval-bytes-append [] b = refl
interval-bytes-append (p ∷ a) b = rw (interval-bytes-append a b)

-- and they can be read back
pub intervals-read : (l : List Interval) → intervals_read (interval_bytes l) ≡ l
unfolding interval_bytes two_bytes intervals_read
intervals-read [] = refl
intervals-read (p ∷ l) = ap₂ ◌∷◌ (ap₂ interval (omega arith) (omega arith)) (intervals-read l)
