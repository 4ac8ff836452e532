use Rattle.std.proofs.Common.{arith}
use Rattle.mismatch.specs.Rule.{rule_of}
use Rattle.reference_listing.proofs.Listing.{new-within, new-part}
use Rattle.reference_listing.proofs.new_palindrome.Goals as goal

pub overflow_sub-result : goal.overflow_sub-result
overflow_sub-result c = omega (arith, new-within (rule_of c.args.rule.now) c.args.w.now, c.new_at_end.ensures)

pub returns : goal.returns
returns c = new-part _ _ _ c.new_at_end.ensures
