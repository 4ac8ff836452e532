-- What is known of an end of letters whose palindromes have rows in a store: said of some rows of the store, since a test of a store knows only of those that it met.
use Rattle.std.specs.Prelude.{ℕ, ◌≡◌, Bool, true}
use Rattle.palindromes.specs.Word.{Word}
use Rattle.palindromes.specs.Place.{stands}
use Rattle.palindromes.specs.End.{End, removed, longest_at}
use Rattle.palindromes.specs.Node.{spelt}
use Rattle.store.specs.Good.{rule_of, node_in}
use Rattle.ends.specs.declared.Reach.{Reach}

-- the rows of the longest palindrome at the end, with the end's own letter and without it, and whether the longest with it stands without it
pub record Reaches (b : Word) (used : ℕ → Bool) (e : End) (s : Word) (x : Reach) : Type 0 where
  pub row-used : used x.row ≡ true
  pub row-holds : node_in b x.row ≡ spelt (longest_at (rule_of b) e s)
  pub short-used : used x.short ≡ true
  pub short-holds : node_in b x.short ≡ spelt (longest_at (rule_of b) e (removed e s))
  pub again-is : x.again ≡ stands (longest_at (rule_of b) e s) (removed e s)
