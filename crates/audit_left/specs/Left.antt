-- What the contract of src/lib.rt says of the left end once a letter more is read at the right.
use Rattle.std.specs.Prelude.{ℕ, ◌≡◌, Bool, true, [], ◌∷◌, ◌++◌, length}
use Rattle.palindromes.specs.Word.{Word}
use Rattle.palindromes.specs.Place.{Stands}
use Rattle.palindromes.specs.Record.{longest_suffix}
use Rattle.palindromes.specs.End.{at_left}
use Rattle.palindromes.specs.Node.{spelt}
use Rattle.eertree.specs.Covers.{Covers, with_used}
use Rattle.store.specs.Good.{rule_of, table_in, node_in}
use Rattle.ends.specs.Reach.{Reaches}
use Rattle.ends.specs.declared.Reach.{Reach}

-- the letter d is read after the k letters of p: the used rows cover p·d, and row q holds the longest palindrome that ends it
pub record Reads (b : Word) (used : ℕ → Bool) (p : Word) (d k q : ℕ) : Type 0 where
  pub size : k ≡ length p
  pub covers : Covers (rule_of b) (p ++ (d ∷ [])) (with_used used (table_in b)) (node_in b)
  pub row-used : used q ≡ true
  pub row-holds : node_in b q ≡ spelt (longest_suffix (rule_of b) (p ++ (d ∷ [])))

-- the left end is known with the letter, if it was without it and the longest palindrome that ends p·d is new
abbrev pub LeftNew : Word → (k q : ℕ) → (left after : Reach) → Type 0
LeftNew b k q left after =
    (used : ℕ → Bool) (p : Word) (d : ℕ) → Reads b used p d k q → (Stands (longest_suffix (rule_of b) (p ++ (d ∷ []))) p → ⊥) → Reaches b used at_left p left → Reaches b used at_left (p ++ (d ∷ [])) after
