-- What the test of src/lib.rt shows of a store: its parts, and what it comes to.
use Rattle.std.specs.Prelude.{◌≡◌, true, get_or, Option, Some, None}
use Rattle.palindromes.specs.Word.{Word, all_letters}
use Rattle.palindromes.specs.End.{End, at_left, at_right}
use Rattle.store.specs.Layout.{count_in, longest_length_in, end_row, used_in, letters_in}
use Rattle.store.specs.Good.{Good}
use Rattle.ends.specs.Reach.{Reaches}
use Rattle.audit_fixed.specs.Parts.{HeaderRight, FreePlaces, RootsRight}
use Rattle.audit_tour.specs.Tour.{reach_at}
use Rattle.audit_tour.specs.declared.Tour.{Tour}

-- all that is tested before the tour
pub record Started (b : Word) : Type 0 where
  pub header : HeaderRight b
  pub letters : all_letters (letters_in b) ≡ true
  pub places : FreePlaces b
  pub roots : RootsRight b

-- what the header says of the palindromes is what the tour found
pub record EndsRight (b carried : Word) (t : Tour) : Type 0 where
  pub count : count_in b ≡ t.met
  pub left : end_row b at_left ≡ t.left
  pub right : end_row b at_right ≡ t.row
  pub longest : longest_length_in b ≡ get_or carried 1 0

-- the store is good, and the tour knows both ends of its letters; or it is not good
abbrev pub Examined : Word → Option Tour → Type 0
Examined b (Some t) = Good b × ((e : End) → Reaches b (used_in b) e (letters_in b) (reach_at e t))
Examined b None = Good b → ⊥
