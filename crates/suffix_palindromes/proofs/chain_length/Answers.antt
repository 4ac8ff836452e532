-- `suffix_palindromes::chain_length` gives a row one more than its link has, and a root nothing. Assumes nothing.
use Rattle.std.proofs.Common.{arith}
use Rattle.store.specs.Good.{rule_of}
use Rattle.transitions.proofs.Rows.{used-fits, row_below, link-below}
use Rattle.suffix_palindromes.proofs.Handed.{chain-none, hands-root, chains-word}
use Rattle.suffix_palindromes.proofs.chain_length.Goals as goal

pub returns-then-row-le-EMPTY : goal.returns-then-row-le-EMPTY
returns-then-row-le-EMPTY c = hands-root c.requires.good (chain-none (rule_of c.args.b.now)) (omega arith)

pub link_of-requires : goal.link_of-requires
link_of-requires c = used-fits c.requires.good c.args.row c.requires.row_value.0

pub bounds-chains-link_of : goal.bounds-chains-link_of
bounds-chains-link_of c = omega (arith, link-below c.requires.good c.args.row c.requires.row_value.0 c.link_of.ensures.0)

pub offset_bounds-chains-row : goal.offset_bounds-chains-row
offset_bounds-chains-row c = omega (arith, row_below c.requires.good c.args.row c.requires.row_value.0)

pub bounds-chains-row : goal.bounds-chains-row
bounds-chains-row c = omega (arith, row_below c.requires.good c.args.row c.requires.row_value.0)

pub returns : goal.returns
returns c = chains-word c.requires.good (omega arith) c.link_of.ensures.0 c.from.ensures
