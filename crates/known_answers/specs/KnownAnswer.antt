-- DEFINITIONS. A record with a known answer: letters, capacities, a question or a change, and what the definitions answer. Nothing here is proved.
use Rattle.std.specs.Prelude.{ℕ, ◌≤◌, ◌≡◌, true, cond, List, [], ◌∷◌, zero, suc}
use Rattle.std.proofs.Math.Option.{none}
use Rattle.palindromes.specs.Word.{Word, member}
use Rattle.palindromes.specs.Mismatch.{reported_mismatch}
use Rattle.palindromes.specs.Record.{palindromes, count, longest_length, longest_place}
use Rattle.palindromes.specs.End.{End, at_right, added, removed, letter_at, new_in}
use Rattle.palindromes.specs.Node.{Node, spelt, link_of, inner_of, is_node}
use Rattle.palindromes.specs.SearchSteps.{search_steps}
use Rattle.palindromes.specs.Refusal.{ask, add, remove, the_count, the_longest, find, View, store_size, refusal}

-- what is asked; a row is named by the repeat that it holds, since the letters do not decide its number. `search` asks what an addition at the right passes
pub data Query : Type 0 where
  how_many which_longest : Query
  addition : End → ℕ → Query
  removal : End → Query
  the_link the_inner : Word → Query
  look : Word → Query
  search : ℕ → Query

-- what is answered: a refusal's number; a number; a length and a place; the repeats that an addition brings in, and the count after it; the letter
-- and the repeats that a removal takes out, and the count after it; a row, by what it holds; a piece's row, or that it is absent, and its first pair that disagrees
pub data Answer : Type 0 where
  refused : ℕ → Answer
  number : ℕ → Answer
  length_at : ℕ → ℕ → Answer
  comes_in : List Word → ℕ → Answer
  goes_out : ℕ → List Word → ℕ → Answer
  row : Node → Answer
  found : Node → ℕ → Answer
  absent : ℕ → Answer

-- a good store of the given capacity that shows the given letters
unfoldable pub view_of : ℕ → Word → View
view_of capacity s = record { size = store_size capacity; scratch = 0; out = 0; good = true; capacity = capacity; reading = 0; letters = s; row = λ r. none }

-- the refusal's number where it is not 0, and else the answer
unfoldable pub unless_refused : ℕ → Answer → Answer
unless_refused zero known = known
unless_refused (suc n) known = refused (suc n)

-- what the definitions answer to a record of these letters, read by this partner rule, in a store of this capacity
unfoldable pub answer : (ℕ → ℕ) → ℕ → Word → Query → Answer
answer σ k s how_many = unless_refused (refusal σ (view_of k s) (ask the_count)) (number (count σ s))
answer σ k s which_longest = unless_refused (refusal σ (view_of k s) (ask the_longest)) (length_at (longest_length σ s) (longest_place σ s))
answer σ k s (addition e c) = unless_refused (refusal σ (view_of k s) (add e c)) (comes_in (new_in σ s (added e c s)) (count σ (added e c s)))
answer σ k s (removal e) =
    unless_refused (refusal σ (view_of k s) (remove e)) (goes_out (letter_at e s) (new_in σ (removed e s) s) (count σ (removed e s)))
answer σ k s (the_link w) = cond (is_node σ s (spelt w)) (row (link_of σ (spelt w))) (refused 7)
answer σ k s (the_inner w) = cond (is_node σ s (spelt w)) (row (inner_of (spelt w))) (refused 7)
answer σ k s (search c) = unless_refused (refusal σ (view_of k s) (add at_right c)) (number (search_steps σ c s))
answer σ k s (look w) =
    unless_refused (refusal σ (view_of k s) (ask (find w))) (cond (member w (palindromes σ s)) (found (spelt w) (reported_mismatch σ w)) (absent (reported_mismatch σ w)))

-- a line of a table: the partner rule, the letters, the least and the greatest capacity for which the answer is claimed, what is asked, and the answer
pub record KnownAnswer : Type 0 where
  pub rule : ℕ → ℕ
  pub letters : Word
  pub least : ℕ
  pub most : ℕ
  pub query : Query
  pub known : Answer

-- a line whose key holds at every capacity from the given one on
abbrev pub from : (ℕ → ℕ) → ℕ → Word → Query → Answer → KnownAnswer
from rule least letters query known = record { rule = rule; letters = letters; least = least; most = 1024; query = query; known = known }

-- the four letters
abbrev pub A : ℕ
A = 65

abbrev pub C : ℕ
C = 67

abbrev pub G : ℕ
G = 71

abbrev pub T : ℕ
T = 84

-- words that more than one table asks about
abbrev pub ACCACG : Word
ACCACG = A ∷ C ∷ C ∷ A ∷ C ∷ G ∷ []

abbrev pub AGTCT : Word
AGTCT = A ∷ G ∷ T ∷ C ∷ T ∷ []

-- the answer is right at every capacity of its line
abbrev pub Right : KnownAnswer → Type 0
Right x = (k : ℕ) → x.least ≤ k → k ≤ x.most → answer x.rule k x.letters x.query ≡ x.known

-- every answer of the list is right
pub data AllRight : List KnownAnswer → Type 0 where
  none_left : AllRight []
  one_more : {x : KnownAnswer} {xs : List KnownAnswer} → Right x → AllRight xs → AllRight (x ∷ xs)
