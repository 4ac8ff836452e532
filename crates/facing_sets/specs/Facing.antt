-- DEFINITIONS. Stretches of a list of sets whose facing sets meet, and the longest of them: inside the library only. Nothing here is proved.
use Rattle.std.specs.Prelude.{ℕ, suc, ◌+◌, ◌-◌, ◌<◌, ◌≤◌, ◌≡◌, List, length, get_or}
use Rattle.ambiguity.specs.Facing.{Meet}

-- of the stretch from place a to before place e the sets of any two places that face each other meet
abbrev pub Facing : List ℕ → ℕ → ℕ → Type 0
Facing sets a e = (i j : ℕ) → a ≤ i → i < j → suc (i + j) ≡ a + e → Meet (get_or sets i 0) (get_or sets j 0)

-- some stretch of length r is so
pub record Reached (sets : List ℕ) (r : ℕ) : Type 0 where
  pub start : ℕ
  pub fits : start + r ≤ length sets
  pub facing : Facing sets start (start + r)

-- and none is longer
pub record LongestFacing (sets : List ℕ) (r : ℕ) : Type 0 where
  pub reached : Reached sets r
  pub most : (a e : ℕ) → a ≤ e → e ≤ length sets → Facing sets a e → e - a ≤ r
