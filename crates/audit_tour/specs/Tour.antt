-- What the tour of src/lib.rt has shown of a store once some of its letters are read: the rows that it met are the eertree of those letters.
use Rattle.std.specs.Prelude.{ℕ, ◌+◌, ◌<◌, ◌≡◌, Bool, true, ◌&&◌, ◌||◌, [], ◌∷◌, ◌++◌, eqb, leb, ltb, length, get_or, take, Option, Some, None}
use Rattle.palindromes.specs.Word.{Word, all_letters}
use Rattle.palindromes.specs.Record.{count, longest_suffix}
use Rattle.palindromes.specs.End.{End, at_left, at_right}
use Rattle.palindromes.specs.Node.{around}
use Rattle.eertree.specs.Covers.{Covers, with_used}
use Rattle.store.specs.Layout.{capacity_in, size_in, used_in, letters_in}
use Rattle.store.specs.Good.{rule_of, table_in, node_in, Sized, Good}
use Rattle.ends.specs.Reach.{Reaches}
use Rattle.ends.specs.declared.Reach.{Reach}
use Rattle.audit_fixed.specs.Parts.{RootsRight}
use Rattle.audit_fixed.specs.Counting.{count_below}
use Rattle.audit_lengths.specs.Lengths.{LengthsOf}
use Rattle.audit_tour.specs.declared.Tour.{Tour}

-- what the tour asks of a store
pub record Ready (b : Word) : Type 0 where
  pub sized : Sized b
  pub letters : all_letters (letters_in b) ≡ true
  pub roots : RootsRight b

-- the letters read, once there are k of them
abbrev pub read_in : Word → ℕ → Word
read_in b k = take k (letters_in b)

-- the row was met: it is a root, or its mark is 1
unfoldable pub met_in : Word → ℕ → Bool
met_in marks r = ltb r 2 || eqb (get_or marks r 0) 1

-- no row is marked, and no length counted
pub record Blank (marks : Word) : Type 0 where
  pub long : length marks ≡ 1026
  pub zero : (r : ℕ) → get_or marks r 0 ≡ 0

-- a row that is no root was met
unfoldable pub marked_row : Word → ℕ → Bool
marked_row marks r = leb 2 r && eqb (get_or marks r 0) 1

-- what a tour knows of an end
abbrev pub reach_at : End → Tour → Reach
reach_at at_left t = record { row = t.left; short = t.second; again = t.again }
reach_at at_right t = record { row = t.row; short = t.before; again = t.known }

-- once the letters p are read: the rows met are in use and cover p, both ends are known, and `met` is how many were met; `carried` has their lengths
pub record Toured (b marks carried p : Word) (t : Tour) : Type 0 where
  pub long : length marks ≡ 1026
  pub used : (r : ℕ) → met_in marks r ≡ true → used_in b r ≡ true
  pub covers : Covers (rule_of b) p (with_used (met_in marks) (table_in b)) (node_in b)
  pub ends : (e : End) → Reaches b (met_in marks) e p (reach_at e t)
  pub met-is : t.met ≡ count (rule_of b) p
  pub marked : t.met ≡ count_below (marked_row marks) (capacity_in b + 2)
  pub lengths : LengthsOf (rule_of b) p carried

-- the tour t comes to row q, whose palindrome is known or not: with this left end, and so many rows met
pub record Arrived (t : Tour) (q : ℕ) (known : Bool) (left : Reach) (met : ℕ) (after : Tour) : Type 0 where
  pub left_is : reach_at at_left after ≡ left
  pub right_is : reach_at at_right after ≡ record { row = q; short = t.row; again = known }
  pub met-is : after.met ≡ met

-- k letters of a store that is ready are read, and one more follows
pub record Reading (b marks carried : Word) (k : ℕ) (t : Tour) : Type 0 where
  pub ready : Ready b
  pub more : k < size_in b
  pub toured : Toured b marks carried (read_in b k) t

-- the letter that follows is d, and around the met row u it makes the longest palindrome that then ends the letters
pub record Grows (b marks : Word) (k d u : ℕ) : Type 0 where
  pub next : d ≡ get_or (letters_in b) k 0
  pub met : met_in marks u ≡ true
  pub longest : longest_suffix (rule_of b) (read_in b k ++ (d ∷ [])) ≡ around (rule_of b) d (node_in b u)

-- how a tour stands once the letters p are read: it goes on, or the store is not good
abbrev pub Visited : Word → (marks carried p : Word) → Option Tour → Type 0
Visited b marks carried p (Some t) = Toured b marks carried p t
Visited b marks carried p None = Good b → ⊥
