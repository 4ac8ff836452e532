-- The steps of the search, with no code in them: one place more at either side of a centre, a centre left, the best of two lengths, the centres nearer
-- the middle than t passed. Rests on arithmetic alone. Assumes nothing.
use Prim.Native.Nat.{ℕ, suc, ◌+◌, ◌-◌, ◌*◌, ◌<◌, ◌≤◌, max}
use native.Mathlib.Omega.{arith}
use native.Mathlib.Decide.{dec_lt, dec_le, ℕ_discrete}
use mathlib.Core.Path.{◌≡◌, sym, subst, subst₂}
use mathlib.Core.List.{List}
use lib.Bits.{bit_and}
use lib.ListN.{length, get_or}
use Rattle.ambiguity.specs.Facing.{Meet}
use Rattle.facing_sets.specs.Facing.{Facing, Reached}
use Rattle.facing_sets.specs.Search.{Within, Centre, Radius, Tried, MaximalRadius, Best, Better}
use Rattle.facing_sets.specs.declared.Lengths.{Lengths}

-- ---- a centre

module _ (sets : List ℕ) (left right room : ℕ) (c : Centre sets left right room) where
  -- the centre itself: no two places of it face each other
  pub no-radius : Radius sets left right 0
  no-radius = record { left-fits = omega arith; right-fits = omega arith; facing = λ i j l m e. absurd (omega arith) }

  -- one place more at either side
  pub more-radius : (k : ℕ) → Radius sets left right k → k < room → Meet (get_or sets (left - 1 - k) 0) (get_or sets (right + k) 0)
      → Radius sets left right (k + 1)
  more-radius k a l m =
      record { left-fits = omega arith; right-fits = omega arith; facing = λ i j n o e. pair i j n o e (ℕ_discrete i (left - 1 - k)) }
    where
      pair : (i j : ℕ) → left - (k + 1) ≤ i → i < j → suc (i + j) ≡ left - (k + 1) + (right + (k + 1)) → Dec (i ≡ left - 1 - k)
          → Meet (get_or sets i 0) (get_or sets j 0)
      pair i j n o e (yes same) =
          let other : j ≡ right + k = omega arith in
          subst₂ (λ (x y : ℕ). Meet (get_or sets x 0) (get_or sets y 0)) (sym same) (sym other) m
      pair i j n o e (no other) = a.facing i j (omega arith) o (omega arith)

  -- no more can be had
  pub no_more : (known k : ℕ) → known ≤ k → Radius sets left right k
      → (k < room → bit_and (get_or sets (left - 1 - k) 0) (get_or sets (right + k) 0) ≡ 0) → MaximalRadius sets left right known k
  no_more known k h a stop = record { more = h; radius = a; tried = λ x y l f e g. go x y l f e g (dec_lt x (left - k)) }
    where
      go : (x y : ℕ) → x ≤ y → y ≤ length sets → x + y ≡ left + right → Facing sets x y → Dec (x < left - k)
          → y - x ≤ right - left + 2 * k
      go x y l f e g (yes m) = absurd (g (left - 1 - k) (right + k) (omega arith) (omega arith) (omega arith)
          (stop (omega (arith, c.all_room (k + 1) (omega arith) (omega arith)))))
      go x y l f e g (no m) = omega arith

  -- the stretch that was found
  radius-reached : (k : ℕ) → Radius sets left right k → Reached sets (right - left + 2 * k)
  radius-reached k a =
      let ends : right + k ≡ left - k + (right - left + 2 * k) = omega arith in
      record { start = left - k; fits = omega arith; facing = subst (λ (e : ℕ). Facing sets (left - k) e) ends a.facing }

  -- nothing around the centre is longer than its room
  room-tried : (r : ℕ) → right - left + 2 * room ≤ r → Tried sets (left + right) r
  room-tried r h a e l f s g = go (dec_le a left)
    where
      go : Dec (a ≤ left) → e - a ≤ r
      go (yes m) = omega (arith, c.all_room (left - a) (omega arith) (omega arith))
      go (no m) = omega arith

-- ---- lengths

reached-max : (sets : List ℕ) (a b r : ℕ) → r ≡ max a b → Reached sets a → Reached sets b → Reached sets r
reached-max sets a b r e p q = go (dec_le a b)
  where
    go : Dec (a ≤ b) → Reached sets r
    go (yes h) = let s : b ≡ r = omega arith in subst (Reached sets) s q
    go (no h) = let s : a ≡ r = omega arith in subst (Reached sets) s p

tried-more : (sets : List ℕ) (c r s : ℕ) → r ≤ s → Tried sets c r → Tried sets c s
tried-more sets c r s h t a e l f g p = omega (arith, t a e l f g p)

-- what holds of certain sets holds of all
pub radius-within : (sets certain : List ℕ) (left right k : ℕ) → Within certain sets → Radius certain left right k → Radius sets left right k
radius-within sets certain left right k w a =
    record {
      left-fits = a.left-fits;
      right-fits = omega (arith, w.same_length, a.right-fits);
      facing = λ i j l m e. w.within i j (a.facing i j l m e);
    }

module _ (sets certain : List ℕ) (left right room : ℕ) (w : Within certain sets) (c : Centre sets left right room) where
  pub certain-centre : Centre certain left right room
  certain-centre =
      let same = w.same_length in
      record {
        narrow = c.narrow;
        wide = c.wide;
        left-room = c.left-room;
        right-room = omega (arith, c.right-room);
        all_room = λ k l r. c.all_room k l (omega arith);
      }

  module _ (b : Lengths) (h : Best sets certain b) (k e : ℕ) (found : MaximalRadius certain left right 0 k)
      (larger : e ≡ max b.every (right - left + 2 * k)) where
    every-best : Reached certain e
    every-best =
        reached-max certain b.every (right - left + 2 * k) e larger h.every-reached
        (radius-reached certain left right room certain-centre k found.radius)

    every-done : Tried certain (left + right) e
    every-done = tried-more certain (left + right) (right - left + 2 * k) e (omega arith) found.tried

    -- the centre has no room for more than the best
    pub better-without : right - left + 2 * room ≤ b.some → Better sets certain (left + right) b (record { some = b.some; every = e })
    better-without full =
        let in-room = certain-centre.all_room k found.radius.left-fits found.radius.right-fits in
        record {
          best = record { some-reached = h.some-reached; every-reached = every-best; ordered = omega (arith, h.ordered) };
          some_more = omega arith;
          every_more = omega arith;
          some-tried = room-tried sets left right room c b.some full;
          every-tried = every-done;
        }

    -- and where it has
    pub better-with : (m s : ℕ) → MaximalRadius sets left right k m → s ≡ max b.some (right - left + 2 * m)
        → Better sets certain (left + right) b (record { some = s; every = e })
    better-with m s more eq =
        record {
          best = record {
            some-reached =
                reached-max sets b.some (right - left + 2 * m) s eq h.some-reached (radius-reached sets left right room c m more.radius);
            every-reached = every-best;
            ordered = omega (arith, h.ordered, more.more);
          };
          some_more = omega arith;
          every_more = omega arith;
          some-tried = tried-more sets (left + right) (right - left + 2 * m) s (omega arith) more.tried;
          every-tried = every-done;
        }

-- ---- all centres

-- no stretch whose centre is nearer the middle than t is longer than r
pub record Passed (sets : List ℕ) (t r : ℕ) : Type 0 where
  pub passed : (a e : ℕ) → a ≤ e → e ≤ length sets → length sets < a + e + t → a + e < length sets + t → Facing sets a e → e - a ≤ r

two-passed : (sets : List ℕ) (t x y r s q : ℕ) → x ≡ length sets - t → y ≡ length sets + t → t ≤ length sets → r ≤ s → s ≤ q
    → Passed sets t r → Tried sets x s → Tried sets y q → Passed sets (t + 1) q
two-passed sets t x y r s q ex ey lt rs sq p tx ty =
    record { passed = λ a e l f g h o. go a e l f g h o (ℕ_discrete (a + e) x) (ℕ_discrete (a + e) y) }
  where
    go : (a e : ℕ) → a ≤ e → e ≤ length sets → length sets < a + e + (t + 1) → a + e < length sets + (t + 1) → Facing sets a e
        → Dec (a + e ≡ x) → Dec (a + e ≡ y) → e - a ≤ q
    go a e l f g h o (yes m) d = omega (arith, tx a e l f m o)
    go a e l f g h o (no m) (yes n) = ty a e l f n o
    go a e l f g h o (no m) (no n) = omega (arith, p.passed a e l f (omega arith) (omega arith) o)

-- what a turn leaves, after the two centres t half places from the middle
pub turned : (sets certain : List ℕ) (w : Within certain sets) (t x y : ℕ) (b q r : Lengths) → x ≡ length sets - t → y ≡ length sets + t
    → t < length sets → Passed sets t b.some × Passed certain t b.every → Better sets certain x b q → Better sets certain y q r
    → Passed sets (t + 1) r.some × Passed certain (t + 1) r.every
turned sets certain w t x y b q r before after h p m n =
    let same = w.same_length in (
      two-passed sets t x y b.some q.some r.some before after (omega arith) m.some_more n.some_more p.0 m.some-tried n.some-tried,
      two-passed certain t x y b.every q.every r.every (omega arith) (omega arith) (omega arith) m.every_more n.every_more p.1
          m.every-tried n.every-tried,
    )
