use Rattle.std.proofs.Common.{ap, sym, ◌∙◌, length, take, rules, arith}
use Rattle.std.specs.List.{slice_get}
use borrow.Author.Tests.{tests}
use Rattle.std.proofs.lemmas.Iterator.{YieldsList-from_map_by}
use Rattle.std.proofs.lemmas.Iterator.Consumers.{YieldsList-at, YieldsList-from_filter, nth_from_yields_List}
use Rattle.palindromes.specs.Record.{palindromes}
use Rattle.mismatch.specs.Rule.{rule_of}
use Rattle.reference_symmetry.proofs.Ranges.{YieldsList-from_inclusive}
use Rattle.reference_listing.specs.Listed.{new_at_end}
use Rattle.reference_listing.proofs.Listing.{non-empty, palindromes-filter, lent}
use Rattle.reference_listing.proofs.nth.Goals as goal

pub returns : goal.returns
returns c =
    let σ = rule_of c.args.rule.now in
    let s = c.args.s.now in
    let range = c.new.ensures in
    let found = nth_from_yields_List c.nth.result _ c.args.k c.nth.ensures.ran
    (YieldsList-from_filter _ non-empty
    (YieldsList-at c.filter.ensures.source
    (YieldsList-from_map_by _ (λ w. w.now) (λ e. new_at_end σ (take e s))
    (YieldsList-at c.map.ensures.source (YieldsList-from_inclusive 1 (length s) (length s) range.start range.end range.exhausted (omega arith)))
    c.map.ensures.closure (λ x r q k. search rules)))
    c.filter.ensures.closure (λ x b q k. search (rules, tests))) in
    lent (palindromes σ s) c.args.k c.nth.result (found ∙ ap (λ ws. slice_get ws c.args.k) (sym (palindromes-filter σ s)))
