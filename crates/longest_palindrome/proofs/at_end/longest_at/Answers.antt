-- `longest_palindrome::at_end::longest_at` tells the row of the end, and whether its palindrome stands without the end's letter (`once-only` of
-- palindromes). Assumes nothing.
use Rattle.std.proofs.Common.{not, length, sym, ap, ◌∙◌, arith}
use Rattle.palindromes.proofs.Answers.{once-only}
use Rattle.palindromes.proofs.Readings.{rule-inverse}
use Rattle.store.specs.Layout.{reading_in, letters_in}
use Rattle.store.specs.Good.{rule_of}
use Rattle.store.specs.Side.{end_of}
use Rattle.store.proofs.Sizes.{letters-length}
use Rattle.transitions.proofs.Rows.{end_row_lem}
use Rattle.walk.proofs.Stores.{header-fits}
use Rattle.longest_palindrome.proofs.at_end.longest_at.Goals as goal

pub end_row-requires : goal.end_row-requires
end_row-requires c = header-fits c.requires.good.sized

pub returns-clause-row : goal.returns-clause-row
returns-clause-row c = c.end_row.ensures.0 ∙ end_row_lem c.requires.good (end_of c.args.side)

pub returns-clause-once : goal.returns-clause-once
returns-clause-once c =
    let b = c.args.b.now in
    let g = c.requires.good in
    ap not c.requires.reaches.again-is
    ∙ sym (once-only (rule_of b) (rule-inverse (reading_in b)) (end_of c.args.side) (letters_in b) λ n. omega (arith, ap length n, letters-length g.sized))
