-- What the tests of src/lib.rt decide of the row that an edge leads to.
use Rattle.std.specs.Prelude.{ℕ, ◌+◌, ◌≤◌, ◌<◌, ◌≡◌, Bool, true, false}
use Rattle.palindromes.specs.Word.{Word}
use Rattle.store.specs.Layout.{cell, capacity_in, size_in, count_in, rank_in, inner_in, outer_in, link_in, letters_in}
use Rattle.store.specs.Good.{rule_of, Sized}
use Rattle.walk.specs.Frame.{Frames}
use Rattle.walk.specs.Walk.{Chain, Stepped}
use Rattle.walk.specs.declared.frame.Frame.{Frame}

-- row q is one of the table, and names row u and the letter d as what it is made of
pub record PointsBack (b : Word) (u d q : ℕ) : Type 0 where
  pub low : 2 ≤ q
  pub high : q < capacity_in b + 2
  pub inner : inner_in b q ≡ u
  pub outer : outer_in b q ≡ d

-- what a walk from row u for the letter after the first k asks: the frame is that of a store of the right sizes, and the links from row u lead down to row 0
pub record Walkable (b : Word) (f : Frame) (k u : ℕ) : Type 0 where
  pub sized : Sized b
  pub framed : Frames b f
  pub more : k < size_in b
  pub chain : Chain b u

-- the row of the link of what d makes of row u: the empty string's for a letter alone, and else what the walk for d finds from the link of u
pub data LinkFound (b : Word) (k d u x : ℕ) : Type 0 where
  alone : u ≡ 0 → x ≡ 1 → LinkFound b k d u x
  within : (u ≡ 0 → ⊥) → Stepped b (letters_in b) k d (rule_of b d) (link_in b u) x → LinkFound b k d u x

-- what the test of row q as that of what d makes of row u tells: that it is longer by two, is in use and has the link that the walk finds, or which of these fails
pub data NewRow (b : Word) (k d u q : ℕ) : Bool → Type 0 where
  right : cell b q 0 ≡ cell b u 0 + 2 → rank_in b q < count_in b → LinkFound b k d u (link_in b q) → NewRow b k d u q true
  not-longer : (cell b q 0 ≡ cell b u 0 + 2 → ⊥) → NewRow b k d u q false
  not-used : count_in b ≤ rank_in b q → NewRow b k d u q false
  not-linked : (x : ℕ) → LinkFound b k d u x → (link_in b q ≡ x → ⊥) → NewRow b k d u q false
