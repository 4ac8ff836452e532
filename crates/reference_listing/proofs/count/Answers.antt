use Rattle.std.proofs.Common.{sym, ◌∙◌, length, take, rules, arith}
use borrow.Author.Tests.{tests}
use Rattle.std.proofs.lemmas.Iterator.Consumers.{YieldsList-at, YieldsList-from_filter, count_from_yields_List}
use Rattle.mismatch.specs.Rule.{rule_of}
use Rattle.reference_symmetry.proofs.Ranges.{YieldsList-from_inclusive}
use Rattle.reference_listing.specs.Listed.{new_at_end}
use Rattle.reference_listing.proofs.Listing.{non-empty, count-filter}
use Rattle.reference_listing.proofs.count.Goals as goal

pub returns : goal.returns
returns c =
    let σ = rule_of c.args.rule.now in
    let s = c.args.s.now in
    let range = c.new.ensures in
    count_from_yields_List c.filter.result _ c.count.ensures.ran
    (YieldsList-from_filter _ (λ e. non-empty (new_at_end σ (take e s)))
    (YieldsList-at c.filter.ensures.source (YieldsList-from_inclusive 1 (length s) (length s) range.start range.end range.exhausted (omega arith)))
    c.filter.ensures.closure (λ x b q k. search (rules, tests)))
    ∙ sym (count-filter σ s)
