-- A good store has the roots that are tested. Rests on the laws of a good store (`Rows` of transitions).
use mathlib.Core.Path.{ap, ◌∙◌}
use Rattle.palindromes.specs.Word.{Word}
use Rattle.palindromes.specs.Node.{length_of}
use Rattle.eertree.proofs.Rows.{link-zero, link-one, inner-zero, inner-one}
use Rattle.store.specs.Good.{Good}
use Rattle.transitions.proofs.Rows.{covers}
use Rattle.audit_fixed.specs.Parts.{RootsRight}

module _ {b : Word} (g : Good b) where
  -- its roots are as fixed
  pub good-roots : RootsRight b
  unfolding length_of
  good-roots =
      record {
        imaginary = record { length-is = (covers g).length-is 0 g.table.row_zero.0 ∙ ap length_of g.table.row_zero.1; link = link-zero (covers g); inner = inner-zero (covers g); outer = g.root-letters.0 };
        empty = record { length-is = (covers g).length-is 1 g.table.row_one.0 ∙ ap length_of g.table.row_one.1; link = link-one (covers g); inner = inner-one (covers g); outer = g.root-letters.1 };
      }
