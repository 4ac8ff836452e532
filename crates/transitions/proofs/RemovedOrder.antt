-- The order of the rows after a removal. A row that goes changes places with the last row in use, so that the rows in use stay the first of the order: the order and the ranks are still
-- inverse to one another, and the row that went is the one row less in use. Where nothing goes both stay as they are.
-- The exchange itself is of any two functions that are inverse; for a store it rests on the cells of `RemovedBytes`.
use Prim.Native.Nat.{ℕ, ◌+◌, ◌-◌, ◌≤◌, ◌<◌}
use native.Mathlib.Decide.{dec_lt, ℕ_discrete}
use native.Mathlib.Omega.{arith}
use mathlib.Core.Path.{◌≡◌, refl, sym, ◌∙◌}
use mathlib.Core.Bool.{Bool, true, false}
use mathlib.Core.Logic.{◌≢◌}
use lib.Dec.{ltb}
use borrow.Author.Tests.{ltb-true, lt-ltb, le-ltb}
use Rattle.palindromes.specs.Word.{Word}
use Rattle.palindromes.specs.End.{End}
use Rattle.palindromes.proofs.Tests.{false-not-true}
use Rattle.palindromes.proofs.Lists.{same_test}
use Rattle.store.specs.Layout.{capacity_in, count_in, end_row, order_in, rank_in, used_in}
use Rattle.store.specs.Good.{OrderIs, RankIs, Good}
use Rattle.transitions.specs.Removal.{takes_out, after_removal}
use Rattle.transitions.proofs.Rows.{used-is}
use Rattle.transitions.proofs.RemovedBytes.{gone-high, gone-low, gone-rank, last-place, capacity-left, count_left, count_kept, order-last, order-swapped, order-kept, rank-last, rank-swapped, rank-kept}

-- ---- an exchange

-- f leads from P to Q, and g leads back
record Inverse (P Q : ℕ → Type 0) (f g : ℕ → ℕ) : Type 0 where
  into : (i : ℕ) → P i → Q (f i)
  back : (i : ℕ) → P i → g (f i) ≡ i

-- f' is f but that a and what led to c have changed what they lead to
record Exchanged (P : ℕ → Type 0) (a c : ℕ) (f g f' : ℕ → ℕ) : Type 0 where
  there : f' a ≡ c
  here : g c ≢ a → f' (g c) ≡ f a
  else : (i : ℕ) → P i → g c ≢ i → a ≢ i → f' i ≡ f i

-- if two functions are inverse and in both the same is exchanged, they are inverse still
module _ {P Q : ℕ → Type 0} {a c : ℕ} {f g f' g' : ℕ → ℕ} (h : Inverse P Q f g) (p : P a) (q : Q c) (x : Exchanged P a c f g f') (y : Exchanged Q c a g f g') where
  still_back : (i : ℕ) → P i → Q (f' i) × (g' (f' i) ≡ i)
  still_back i l = go (ℕ_discrete i a) (ℕ_discrete i (g c))
    where
      go : Dec (i ≡ a) → Dec (i ≡ g c) → Q (f' i) × (g' (f' i) ≡ i)
      go (yes s) d = let e : f' i ≡ c = cc x.there in rw e (q, y.there ∙ sym s)
      go (no s) (yes t) =
          let e : f' i ≡ f a = cc (x.here λ z. s (t ∙ z)) in
          rw e (h.into a p, y.here (λ z. s (cc (h.back a p))) ∙ sym t)
      go (no s) (no t) =
          let e : f' i ≡ f i = x.else i l (λ z. t (sym z)) (λ z. s (sym z)) in
          rw e (h.into i l, y.else (f i) (h.into i l) (λ z. s (cc (h.back i l, h.back a p))) (λ z. t (cc (h.back i l))) ∙ h.back i l)

  still-inverse : Inverse P Q f' g'
  still-inverse = record { into = λ i l. (still_back i l).0; back = λ i l. (still_back i l).1 }

-- inverse functions stay so if nothing changes
inverse-same : {P Q : ℕ → Type 0} {f g f' g' : ℕ → ℕ} → Inverse P Q f g → ((i : ℕ) → P i → f' i ≡ f i) → ((i : ℕ) → Q i → g' i ≡ g i) → Inverse P Q f' g'
inverse-same h x y = record { into = λ i l. rw (x i l) (h.into i l); back = λ i l. rw (x i l) (y _ (h.into i l) ∙ h.back i l) }

-- ---- the order of a store

-- a place of the order of a store of this capacity, and a row that is no root
abbrev Place : ℕ → ℕ → Type 0
Place n i = i < n

abbrev Row : ℕ → ℕ → Type 0
Row n r = (2 ≤ r) × (r < n + 2)

-- which rows of a store are used, by their ranks
used-same : (b b' : Word) → capacity_in b' ≡ capacity_in b → (r : ℕ)
    → (2 ≤ r → r < capacity_in b + 2 → ltb (rank_in b' r) (count_in b') ≡ ltb (rank_in b r) (count_in b)) → used_in b' r ≡ used_in b r
unfolding used_in
used-same b b' c r same = go (dec_lt r 2) (dec_lt r (capacity_in b + 2))
  where
    go : Dec (r < 2) → Dec (r < capacity_in b + 2) → used_in b' r ≡ used_in b r
    go (yes l) d = cc (lt-ltb r 2 l)
    go (no l) (yes h) = cc (c, same (omega arith) h)
    go (no l) (no h) = cc (c, le-ltb r (capacity_in b + 2) (omega arith))

module _ {b : Word} (g : Good b) where
  order-inverse : Inverse (Place (capacity_in b)) (Row (capacity_in b)) (order_in b) (rank_in b)
  order-inverse = record { into = λ i l. let o = g.order i l in (o.low, o.high); back = λ i l. (g.order i l).back }

  rank-inverse : Inverse (Row (capacity_in b)) (Place (capacity_in b)) (rank_in b) (order_in b)
  rank-inverse = record { into = λ r l. (g.rank r l.0 l.1).high; back = λ r l. (g.rank r l.0 l.1).back }

module _ (e : End) {b : Word} (g : Good b) where
  -- ---- a row goes

  module _ (k : takes_out e b ≡ true) where
    order-exchanged : Exchanged (Place (capacity_in b)) (count_in b - 1) (end_row b e) (order_in b) (rank_in b) (order_in (after_removal e b))
    order-exchanged = record { there = order-last e g k; here = order-swapped e g k; else = λ i l p q. order-kept e g i l λ t. (p, q) }

    rank-exchanged : Exchanged (Row (capacity_in b)) (end_row b e) (count_in b - 1) (rank_in b) (order_in b) (rank_in (after_removal e b))
    rank-exchanged = record { there = rank-last e g k; here = rank-swapped e g k; else = λ r l p q. rank-kept e g r l.0 l.1 λ t. (q, p) }

    -- it is not in use any more
    pub used-gone : used_in (after_removal e b) (end_row b e) ≡ false
    used-gone =
        let b' = after_removal e b in
        used-is b' (end_row b e) (gone-high e g k) (omega (arith, gone-low e g k, capacity-left e g))
        ∙ le-ltb (rank_in b' (end_row b e)) (count_in b') (omega (arith, rank-last e g k, count_left e g k))

    -- and the rank of any other row is below the count as it was
    rank-test : (r : ℕ) → 2 ≤ r → r < capacity_in b + 2 → r ≢ end_row b e → ltb (rank_in (after_removal e b) r) (count_in (after_removal e b)) ≡ ltb (rank_in b r) (count_in b)
    rank-test r l h n = go (ℕ_discrete r (order_in b (count_in b - 1)))
      where
        q_back : order_in b (rank_in b (end_row b e)) ≡ end_row b e
        q_back = (g.rank (end_row b e) (gone-high e g k) (gone-low e g k)).back

        go : Dec (r ≡ order_in b (count_in b - 1)) → ltb (rank_in (after_removal e b) r) (count_in (after_removal e b)) ≡ ltb (rank_in b r) (count_in b)
        go (yes s) =
            let low : rank_in b (end_row b e) ≢ count_in b - 1 = (λ t. n (cc q_back)) in
            let now : rank_in (after_removal e b) r ≡ rank_in b (end_row b e) = cc (rank-swapped e g k λ t. n (s ∙ t)) in
            let was : rank_in b r ≡ count_in b - 1 = cc (g.order (count_in b - 1) (last-place e g k)).back in
            let some = gone-rank e g k in
            lt-ltb (rank_in (after_removal e b) r) (count_in (after_removal e b)) (omega (arith, count_left e g k)) ∙ sym (lt-ltb (rank_in b r) (count_in b) (omega arith))
        go (no s) =
            let other : rank_in b r ≢ count_in b - 1 = (λ t. s (cc (g.rank r l h).back)) in
            let now : rank_in (after_removal e b) r ≡ rank_in b r = rank-kept e g r l h λ t. (λ z. n (sym z), λ z. s (sym z)) in
            let less = count_left e g k in
            let some = gone-rank e g k in
            same_test (ltb (rank_in (after_removal e b) r) (count_in (after_removal e b))) (ltb (rank_in b r) (count_in b))
            (λ t. lt-ltb (rank_in b r) (count_in b) (omega (arith, ltb-true (rank_in (after_removal e b) r) (count_in (after_removal e b)) t)))
            (λ t. lt-ltb (rank_in (after_removal e b) r) (count_in (after_removal e b)) (omega (arith, ltb-true (rank_in b r) (count_in b) t)))

  -- ---- every removal

  -- the order and the ranks are inverse
  inverse_left :
      Inverse (Place (capacity_in b)) (Row (capacity_in b)) (order_in (after_removal e b)) (rank_in (after_removal e b))
      × Inverse (Row (capacity_in b)) (Place (capacity_in b)) (rank_in (after_removal e b)) (order_in (after_removal e b))
  inverse_left = go (takes_out e b) refl
    where
      go : (t : Bool) → takes_out e b ≡ t
          → Inverse (Place (capacity_in b)) (Row (capacity_in b)) (order_in (after_removal e b)) (rank_in (after_removal e b))
          × Inverse (Row (capacity_in b)) (Place (capacity_in b)) (rank_in (after_removal e b)) (order_in (after_removal e b))
      go true k =
          let m = last-place e g k in
          let q : Row (capacity_in b) (end_row b e) = (gone-high e g k, gone-low e g k) in
          (still-inverse (order-inverse g) m q (order-exchanged k) (rank-exchanged k), still-inverse (rank-inverse g) q m (rank-exchanged k) (order-exchanged k))
      go false k =
          let order : (i : ℕ) → Place (capacity_in b) i → order_in (after_removal e b) i ≡ order_in b i = (λ i l. order-kept e g i l λ t. absurd (false-not-true k t)) in
          let rank : (r : ℕ) → Row (capacity_in b) r → rank_in (after_removal e b) r ≡ rank_in b r = (λ r l. rank-kept e g r l.0 l.1 λ t. absurd (false-not-true k t)) in
          (inverse-same (order-inverse g) order rank, inverse-same (rank-inverse g) rank order)

  pub order-left : (i : ℕ) → i < capacity_in (after_removal e b) → OrderIs (after_removal e b) i
  order-left i l =
      let c = capacity-left e g in
      let h = inverse_left.0 in
      let r = h.into i (omega arith) in
      record { low = r.0; high = omega arith; back = h.back i (omega arith) }

  pub rank_left : (r : ℕ) → 2 ≤ r → r < capacity_in (after_removal e b) + 2 → RankIs (after_removal e b) r
  rank_left r l h =
      let c = capacity-left e g in
      let x = inverse_left.1 in
      record { high = omega (arith, x.into r (l, omega arith)); back = x.back r (l, omega arith) }

  -- every row is in use as it was but the one that goes
  pub used-kept : (r : ℕ) → (takes_out e b ≡ true → r ≢ end_row b e) → used_in (after_removal e b) r ≡ used_in b r
  used-kept r n = used-same b (after_removal e b) (capacity-left e g) r λ l h. go l h (takes_out e b) refl
    where
      go : 2 ≤ r → r < capacity_in b + 2 → (t : Bool) → takes_out e b ≡ t → ltb (rank_in (after_removal e b) r) (count_in (after_removal e b)) ≡ ltb (rank_in b r) (count_in b)
      go l h true k = rank-test k r l h (n k)
      go l h false k = cc (rank-kept e g r l h λ t. absurd (false-not-true k t), count_kept e g k)

  -- and if that is the last row in use the order stays
  pub order-stays : (takes_out e b ≡ true → order_in b (count_in b - 1) ≡ end_row b e) → (i : ℕ) → i < capacity_in b → order_in (after_removal e b) i ≡ order_in b i
  order-stays last i l = go (takes_out e b) refl (ℕ_discrete i (count_in b - 1))
    where
      go : (t : Bool) → takes_out e b ≡ t → Dec (i ≡ count_in b - 1) → order_in (after_removal e b) i ≡ order_in b i
      go true k (yes p) = cc (order-last e g k, last k)
      go true k (no p) =
          let m : rank_in b (end_row b e) ≡ count_in b - 1 = cc (last k, (g.order (count_in b - 1) (last-place e g k)).back) in
          order-kept e g i l λ t. omega arith
      go false k d = order-kept e g i l λ t. absurd (false-not-true k t)
