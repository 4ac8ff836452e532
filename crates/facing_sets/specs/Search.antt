-- DEFINITIONS. What the search for the two lengths promises, step by step: inside the library only. Nothing here is proved.
use Rattle.std.specs.Prelude.{ℕ, ◌+◌, ◌-◌, ◌*◌, ◌≤◌, ◌≡◌, List, length, get_or}
use Rattle.ambiguity.specs.Facing.{Meet}
use Rattle.facing_sets.specs.Facing.{Facing, Reached, LongestFacing}
use Rattle.facing_sets.specs.declared.Lengths.{Lengths}

-- two places whose certain sets meet have sets that meet
pub record Within (certain sets : List ℕ) : Type 0 where
  pub same_length : length certain ≡ length sets
  pub within : (i j : ℕ) → Meet (get_or certain i 0) (get_or certain j 0) → Meet (get_or sets i 0) (get_or sets j 0)

-- a centre, the empty stretch between two places or that of one place, and the places that there are at either side
pub record Centre (sets : List ℕ) (left right room : ℕ) : Type 0 where
  pub narrow : left ≤ right
  pub wide : right ≤ left + 1
  pub left-room : room ≤ left
  pub right-room : right + room ≤ length sets
  pub all_room : (k : ℕ) → k ≤ left → right + k ≤ length sets → k ≤ room

-- around the centre the stretch with k places more at either side has facing sets that meet
pub record Radius (sets : List ℕ) (left right k : ℕ) : Type 0 where
  pub left-fits : k ≤ left
  pub right-fits : right + k ≤ length sets
  pub facing : Facing sets (left - k) (right + k)

-- no stretch that is so around the centre c, the sum of its first place and the place after its last, is longer than r
abbrev pub Tried : List ℕ → ℕ → ℕ → Type 0
Tried sets c r = (a e : ℕ) → a ≤ e → e ≤ length sets → a + e ≡ c → Facing sets a e → e - a ≤ r

-- k is the most
pub record MaximalRadius (sets : List ℕ) (left right known k : ℕ) : Type 0 where
  pub more : known ≤ k
  pub radius : Radius sets left right k
  pub tried : Tried sets (left + right) (right - left + 2 * k)

-- the best lengths so far
pub record Best (sets certain : List ℕ) (b : Lengths) : Type 0 where
  pub some-reached : Reached sets b.some
  pub every-reached : Reached certain b.every
  pub ordered : b.every ≤ b.some

-- and after one more centre
pub record Better (sets certain : List ℕ) (c : ℕ) (b r : Lengths) : Type 0 where
  pub best : Best sets certain r
  pub some_more : b.some ≤ r.some
  pub every_more : b.every ≤ r.every
  pub some-tried : Tried sets c r.some
  pub every-tried : Tried certain c r.every

-- both lengths
pub record Longest (sets certain : List ℕ) (r : Lengths) : Type 0 where
  pub some-longest : LongestFacing sets r.some
  pub every-longest : LongestFacing certain r.every
