-- Where a piece stands: `starts_with` is the test of `Prefix` and `stands` that of `Stands`; the places of a piece are where its cuts begin, in rising
-- order; the first place is the least; `stands_once` says that there is one cut only, and a frequency over 1 that there are two.
-- Rests on proofs/Tests.antt, Words.antt and Lists.antt.
use Prim.Native.Nat.{ℕ, zero, suc, ◌+◌, ◌≤◌, ◌<◌}
use native.Mathlib.Omega.{arith}
use native.Mathlib.Decide.{dec_lt}
use mathlib.Core.Path.{◌≡◌, refl, sym, ap, ◌∙◌, subst}
use mathlib.Core.Bool.{Bool, true, false, cond, true≢false}
use mathlib.Core.Logic.{◌⊎◌, inl, inr}
use mathlib.Core.List.{List, [], ◌∷◌, ◌++◌, map, append_assoc, head-eq_of_cons-eq, tail-eq_of_cons-eq, cons-ne-nil}
use mathlib.Core.List.Memᴰ
use mathlib.Core.List.{Memᴰ}
use lib.Dec.{eqb}
use lib.ListN.{length, drop, take, length-append, length-map, take-append-drop}
use lib.Seq.{drop_at, take_at, length-take-le}
use borrow.Author.Tests.{eqb-true, eq-eqb, ltb-true, lt-ltb}
use Rattle.palindromes.specs.Word.{Word}
use Rattle.palindromes.specs.Place.{Stands, Prefix, starts_with, places_from, places, frequency, stands, stands_once, first, first_place}
use Rattle.palindromes.proofs.Tests.{both_true, both-are, false-not-true}
use Rattle.palindromes.proofs.Words.{prefix-append, prefix-shorter}
use Rattle.palindromes.proofs.Lists.{in-length}

-- ---- the test of a prefix

-- a record that passes the test begins with the piece, and the other way round
pub starts-true : (p s : Word) → starts_with p s ≡ true → Prefix p s
unfolding starts_with
starts-true [] s e = record { after = s; whole = refl }
starts-true (x ∷ p) [] e = absurd (true≢false (sym e))
starts-true (x ∷ p) (y ∷ s) e =
    let h = both_true (eqb x y) (starts_with p s) e in
    let r = starts-true p s h.1 in
    record { after = r.after; whole = cc (eqb-true x y h.0, r.whole) }

pub starts_is : (p s : Word) → Prefix p s → starts_with p s ≡ true
unfolding starts_with
starts_is [] s h = refl
starts_is (x ∷ p) [] h = absurd (cons-ne-nil x (p ++ h.after) h.whole)
starts_is (x ∷ p) (y ∷ s) h =
    both-are (eqb x y) (starts_with p s) (eq-eqb x y (head-eq_of_cons-eq h.whole)) (starts_is p s (record { after = h.after; whole = tail-eq_of_cons-eq h.whole }))

-- ---- the places of a piece

-- the places from the next number on are the places from this number, each one more
places-from-suc : (k : ℕ) (p s : Word) → places_from (suc k) p s ≡ map suc (places_from k p s)
unfolding places_from
places-from-suc k p [] = go (starts_with p [])
  where
    go : (t : Bool) → cond t (suc k ∷ []) [] ≡ map suc (cond t (k ∷ []) [])
    go true = refl
    go false = refl
places-from-suc k p (x ∷ s) = go (starts_with p (x ∷ s)) (places-from-suc (suc k) p s)
  where
    go : (t : Bool) → places_from (suc (suc k)) p s ≡ map suc (places_from (suc k) p s)
        → cond t (suc k ∷ places_from (suc (suc k)) p s) (places_from (suc (suc k)) p s) ≡ map suc (cond t (k ∷ places_from (suc k) p s) (places_from (suc k) p s))
    go true e = ap {B = List ℕ} (λ l. suc k ∷ l) e
    go false e = e

places-nil : (p : Word) → places p [] ≡ cond (starts_with p []) (zero ∷ []) []
unfolding places places_from
places-nil p = refl

-- the places after one letter more at the left end: each one further, and the left end itself where the piece begins there
pub places-cons : (p s : Word) (x : ℕ) → places p (x ∷ s) ≡ cond (starts_with p (x ∷ s)) (zero ∷ map suc (places p s)) (map suc (places p s))
unfolding places places_from
places-cons p s x = ap (λ (l : List ℕ). cond (starts_with p (x ∷ s)) (zero ∷ l) l) (places-from-suc zero p s)

-- one letter more at the left end makes one more place where the piece begins there, and no more otherwise
pub frequency-cons : (p s : Word) (x : ℕ) → frequency p (x ∷ s) ≡ cond (starts_with p (x ∷ s)) 1 0 + frequency p s
unfolding frequency
frequency-cons p s x = ap length (places-cons p s x) ∙ go (starts_with p (x ∷ s))
  where
    go : (t : Bool) → length (cond t (zero ∷ map suc (places p s)) (map suc (places p s))) ≡ cond t 1 0 + length (places p s)
    go true = omega (arith, length-map (places p s) suc)
    go false = omega (arith, length-map (places p s) suc)

-- the left end is a place of what begins there
place-first : (p s : Word) → Prefix p s → Memᴰ zero (places p s)
place-first p [] h = rw (places-nil p, starts_is p [] h) (Memᴰ.head refl)
place-first p (x ∷ s) h = rw (places-cons p s x, starts_is p (x ∷ s) h) (Memᴰ.head refl)

-- a place is one further after one letter more at the left end
place-further : (p s : Word) (x k : ℕ) → Memᴰ k (places p s) → Memᴰ (suc k) (places p (x ∷ s))
place-further p s x k m = rw (places-cons p s x) (go (starts_with p (x ∷ s)) (Memᴰ.map suc m))
  where
    go : (t : Bool) → Memᴰ (suc k) (map suc (places p s)) → Memᴰ (suc k) (cond t (zero ∷ map suc (places p s)) (map suc (places p s)))
    go true m = Memᴰ.tail m
    go false m = m

-- the empty record has no other place than its left end
places-of-nil : (p : Word) (k : ℕ) → Memᴰ k (places p []) → (k ≡ 0) × Prefix p []
places-of-nil p k m = go (starts_with p []) refl (rw (places-nil p) at m)
  where
    go : (t : Bool) → starts_with p [] ≡ t → Memᴰ k (cond t (zero ∷ []) []) → (k ≡ 0) × Prefix p []
    go true e m = (Memᴰ.eq_of_singleton m, starts-true p [] e)
    go false e m = absurd (Memᴰ.not-nil m)

-- a place is the left end, or was a place before the letter there came
places-of-cons : (p s : Word) (x k : ℕ) → Memᴰ k (places p (x ∷ s)) → ((k ≡ 0) × Prefix p (x ∷ s)) ⊎ ((j : ℕ) × Memᴰ j (places p s) × (suc j ≡ k))
places-of-cons p s x k m = go (starts_with p (x ∷ s)) refl (rw (places-cons p s x) at m)
  where
    split : starts_with p (x ∷ s) ≡ true → (k ≡ 0) ⊎ Memᴰ k (map suc (places p s)) → ((k ≡ 0) × Prefix p (x ∷ s)) ⊎ ((j : ℕ) × Memᴰ j (places p s) × (suc j ≡ k))
    split e (inl z) = inl (z, starts-true p (x ∷ s) e)
    split e (inr m) = inr (Memᴰ.of_map suc (places p s) m)

    go : (t : Bool) → starts_with p (x ∷ s) ≡ t → Memᴰ k (cond t (zero ∷ map suc (places p s)) (map suc (places p s)))
        → ((k ≡ 0) × Prefix p (x ∷ s)) ⊎ ((j : ℕ) × Memᴰ j (places p s) × (suc j ≡ k))
    go true e m = split e (Memᴰ.cases_cons m)
    go false e m = inr (Memᴰ.of_map suc (places p s) m)

-- ---- places and cuts

-- a place of a piece is where one of its cuts begins
pub place-cut : (p s : Word) (k : ℕ) → Memᴰ k (places p s) → (c : Stands p s) × (length c.before ≡ k)
place-cut p [] k m =
    let r = places-of-nil p k m in
    (record { before = []; after = r.1.after; whole = r.1.whole }, sym r.0)
place-cut p (x ∷ s) k m = go (place-cut p s) (places-of-cons p s x k m)
  where
    go : ((j : ℕ) → Memᴰ j (places p s) → (c : Stands p s) × (length c.before ≡ j)) → ((k ≡ 0) × Prefix p (x ∷ s)) ⊎ ((j : ℕ) × Memᴰ j (places p s) × (suc j ≡ k))
        → (c : Stands p (x ∷ s)) × (length c.before ≡ k)
    go ih (inl r) = (record { before = []; after = r.1.after; whole = r.1.whole }, sym r.0)
    go ih (inr r) =
        let c = ih r.0 r.1 in
        (record { before = x ∷ c.0.before; after = c.0.after; whole = ap {B = Word} (λ l. x ∷ l) c.0.whole }, ap suc c.1 ∙ r.2)

-- every cut of a piece begins at one of its places
pub cut-place : (p s : Word) (c : Stands p s) → Memᴰ (length c.before) (places p s)
cut-place p s c = subst (λ (t : Word). Memᴰ (length c.before) (places p t)) c.whole (go c.before)
  where
    go : (a : Word) → Memᴰ (length a) (places p (a ++ p ++ c.after))
    go [] = place-first p (p ++ c.after) (record { after = c.after; whole = refl })
    go (x ∷ a) = place-further p (a ++ p ++ c.after) x (length a) (go a)

-- a place lies in the record, and the piece begins there
pub place-starts : (p s : Word) (k : ℕ) → Memᴰ k (places p s) → (k ≤ length s) × Prefix p (drop k s)
place-starts p s k m =
    let r = place-cut p s k m in
    let c = r.0 in
    let e = r.1 in
    (omega (arith, simp length-append at (ap length c.whole)), record { after = c.after; whole = cc (append_assoc c.before p c.after, drop_at c.before (p ++ c.after) k e) })

-- where the piece begins is one of its places
pub starts-place : (p s : Word) (k : ℕ) → k ≤ length s → Prefix p (drop k s) → Memᴰ k (places p s)
starts-place p s k h b =
    let c : Stands p s = record { before = take k s; after = b.after; whole = cc (append_assoc (take k s) p b.after, take-append-drop k s) } in
    rw (length-take-le k s h) at (cut-place p s c)

-- ---- the order of the places

-- each number of the list is smaller than all that follow it
abbrev pub Rising : List ℕ → Type 0
Rising [] = Unit
Rising (k ∷ l) = ((j : ℕ) → Memᴰ j l → k < j) × Rising l

rising-suc : (l : List ℕ) → Rising l → Rising (map suc l)
rising-suc [] r = tt
rising-suc (k ∷ l) r = (later, rising-suc l r.1)
  where
    later : (j : ℕ) → Memᴰ j (map suc l) → suc k < j
    later j m =
        let f = Memᴰ.of_map suc l m in
        let h = r.0 f.0 f.1 in
        omega (arith, f.2)

-- the places of a piece are given from the left to the right
pub places-rising : (p s : Word) → Rising (places p s)
places-rising p [] = rw (places-nil p) (go (starts_with p []))
  where
    go : (t : Bool) → Rising (cond t (zero ∷ []) [])
    go true = (λ j m. absurd (Memᴰ.not-nil m), tt)
    go false = tt
places-rising p (x ∷ s) = rw (places-cons p s x) (go (starts_with p (x ∷ s)) (rising-suc (places p s) (places-rising p s)))
  where
    go : (t : Bool) → Rising (map suc (places p s)) → Rising (cond t (zero ∷ map suc (places p s)) (map suc (places p s)))
    go true r = (λ j m. let f = Memᴰ.of_map suc (places p s) m in omega (arith, f.2), r)
    go false r = r

-- ---- the first place

-- a list that is not empty has its first number as a member
first-in : (l : List ℕ) → 0 < length l → Memᴰ (first l) l
unfolding first
first-in [] h = absurd (omega arith)
first-in (k ∷ l) h = Memᴰ.head refl

-- the first of a rising list is the least
first-least : (k : ℕ) (l : List ℕ) → Rising l → Memᴰ k l → first l ≤ k
unfolding first
first-least k [] r m = absurd (Memᴰ.not-nil m)
first-least k (j ∷ l) r m = go (Memᴰ.cases_cons m)
  where
    go : (k ≡ j) ⊎ Memᴰ k l → j ≤ k
    go (inl e) = omega arith
    go (inr m) = let h = r.0 k m in omega arith

-- a piece that stands in the record stands at its first place, and at none before
pub first-place : (p s : Word) → Stands p s → (c : Stands p s) × (length c.before ≡ first_place p s)
unfolding first_place
first-place p s c = place-cut p s (first (places p s)) (first-in (places p s) (in-length (cut-place p s c)))

pub first-place-least : (p s : Word) (c : Stands p s) → first_place p s ≤ length c.before
unfolding first_place
first-place-least p s c = first-least (length c.before) (places p s) (places-rising p s) (cut-place p s c)

-- the first place and the piece fit into the record
pub first-end-fits : (p s : Word) → Stands p s → first_place p s + length p ≤ length s
first-end-fits p s c =
    let f = first-place p s c in
    omega (arith, f.1, simp length-append at (ap length f.0.whole))

-- letters more at the right end do not move the first place
pub first-place-append : (p s t : Word) → Stands p s → first_place p (s ++ t) ≡ first_place p s
first-place-append p s t c =
    let f = first-place p s c in
    let g : Stands p (s ++ t) = record { before = f.0.before; after = f.0.after ++ t; whole = cc (append_assoc (f.0.before ++ p) f.0.after t, f.0.whole) } in
    let h = first-place p (s ++ t) g in
    let m = first-place-least p (s ++ t) g in
    let w : Prefix (h.0.before ++ p) (s ++ t) = record { after = h.0.after; whole = h.0.whole } in
    let q = prefix-shorter w (prefix-append s t) (simp length-append (omega (arith, f.1, h.1, m, first-end-fits p s c))) in
    omega (arith, f.1, h.1, m, first-place-least p s (record { before = h.0.before; after = q.after; whole = q.whole }))

-- ---- the test of a piece

-- what passes the test `stands` stands in the record, and the other way round
pub stands-true : (p s : Word) → stands p s ≡ true → Stands p s
unfolding stands frequency
stands-true p s e = (place-cut p s (first (places p s)) (first-in (places p s) (ltb-true zero (length (places p s)) e))).0

pub stands-is : (p s : Word) → Stands p s → stands p s ≡ true
unfolding stands frequency
stands-is p s c = lt-ltb zero (length (places p s)) (in-length (cut-place p s c))

pub stands-false : (p s : Word) → stands p s ≡ false → Stands p s → ⊥
stands-false p s e c = false-not-true e (stands-is p s c)

-- the empty word stands in every record
pub stands-empty : (s : Word) → Stands [] s
stands-empty s = record { before = []; after = s; whole = refl }

-- ---- the test of a piece that stands once

-- two cuts of a piece that begin at one place are one
pub same_place : {p s : Word} (c d : Stands p s) → length c.before ≡ length d.before → c.before ≡ d.before
same_place {p} {s} c d e =
    let n = length d.before in
    cc (take_at c.before (p ++ c.after) n e, take_at d.before (p ++ d.after) n refl, append_assoc c.before p c.after, append_assoc d.before p d.after)

-- the members of a list of one number are equal
one_number : (l : List ℕ) (j k : ℕ) → length l ≡ 1 → Memᴰ j l → Memᴰ k l → j ≡ k
one_number [] j k e m n = absurd (Memᴰ.not-nil m)
one_number (i ∷ []) j k e m n = cc (Memᴰ.eq_of_singleton m, Memᴰ.eq_of_singleton n)
one_number (h ∷ i ∷ l) j k e m n = absurd (omega arith)

-- a rising list whose members are equal has one number only
rising-one : (l : List ℕ) → Rising l → 0 < length l → ((j k : ℕ) → Memᴰ j l → Memᴰ k l → j ≡ k) → length l ≡ 1
rising-one [] r h same = absurd (omega arith)
rising-one (i ∷ []) r h same = refl
rising-one (i ∷ j ∷ l) r h same =
    let e = same i j (Memᴰ.head refl) (Memᴰ.tail (Memᴰ.head refl)) in
    let f = r.0 j (Memᴰ.head refl) in
    absurd (omega arith)

-- a piece that stands once only has one cut
pub stands-once-true : (p s : Word) → stands_once p s ≡ true → Stands p s × ((c d : Stands p s) → c.before ≡ d.before)
unfolding stands_once frequency
stands-once-true p s e = ((place-cut p s (first (places p s)) (first-in (places p s) (omega (arith, one)))).0, same)
  where
    one : length (places p s) ≡ 1
    one = eqb-true (length (places p s)) 1 e

    same : (c d : Stands p s) → c.before ≡ d.before
    same c d = same_place c d (one_number (places p s) (length c.before) (length d.before) one (cut-place p s c) (cut-place p s d))

-- a piece with one cut stands once only
pub stands-once-is : (p s : Word) → Stands p s → ((c d : Stands p s) → c.before ≡ d.before) → stands_once p s ≡ true
unfolding stands_once frequency
stands-once-is p s c one = eq-eqb (length (places p s)) 1 (rising-one (places p s) (places-rising p s) (in-length (cut-place p s c)) same)
  where
    same : (j k : ℕ) → Memᴰ j (places p s) → Memᴰ k (places p s) → j ≡ k
    same j k m n =
        let a = place-cut p s j m in
        let b = place-cut p s k n in
        cc (one a.0 b.0, a.1, b.1)

-- ---- a piece that stands at least twice

-- it has two cuts
pub twice : (p s : Word) → 1 < frequency p s → (c : Stands p s) × (d : Stands p s) × (length c.before < length d.before)
unfolding frequency
twice p s h = go (places p s) refl (places-rising p s) h
  where
    go : (l : List ℕ) → places p s ≡ l → Rising l → 1 < length l → (c : Stands p s) × (d : Stands p s) × (length c.before < length d.before)
    go [] e r h = absurd (omega arith)
    go (j ∷ []) e r h = absurd (omega arith)
    go (j ∷ k ∷ l) e r h =
        let c = place-cut p s j (rw e (Memᴰ.head refl)) in
        let d = place-cut p s k (rw e (Memᴰ.tail (Memᴰ.head refl))) in
        (c.0, d.0, omega (arith, c.1, d.1, r.0 k (Memᴰ.head refl)))

-- and what has two cuts stands at least twice
pub twice-is : (p s : Word) (c d : Stands p s) → length c.before < length d.before → 1 < frequency p s
unfolding frequency
twice-is p s c d h = go (dec_lt 1 (length (places p s)))
  where
    there : Memᴰ (length c.before) (places p s)
    there = cut-place p s c

    same : length (places p s) ≡ 1 → length c.before ≡ length d.before
    same one = one_number (places p s) (length c.before) (length d.before) one there (cut-place p s d)

    go : Dec (1 < length (places p s)) → 1 < length (places p s)
    go (yes l) = l
    go (no n) = absurd (omega (arith, h, same (omega (arith, in-length there))))
