use Rattle.std.proofs.Common.{ap, sym, ◌∙◌, length, nat_eq, unwrap_or, rules, arith}
use borrow.Author.Tests.{tests}
use Rattle.std.proofs.lemmas.Iterator.{YieldsList-from_map, YieldsList-from_map_by}
use Rattle.std.proofs.lemmas.Iterator.Adapters.{option_map_id}
use Rattle.std.proofs.lemmas.Iterator.Consumers.{YieldsList-at, YieldsList-from_filter, min_from_yields_List}
use Rattle.mismatch.specs.Rule.{rule_of}
use Rattle.palindromes.specs.Place.{first_place}
use Rattle.reference_symmetry.proofs.Ranges.{YieldsList-from_inclusive}
use Rattle.reference_listing.proofs.Listing.{non-empty, new}
use Rattle.reference_longest.proofs.Extremes.{place-found}
use Rattle.reference_longest.proofs.longest_place.Goals as goal

pub returns : goal.returns
returns c =
    let σ = rule_of c.args.rule.now in
    let s = c.args.s.now in
    let n = c.longest_length-longest.result in
    let range = c.new.ensures in
    let found = min_from_yields_List c.map-2.result c.min.result c.min.ensures.ran
    (YieldsList-from_map _ (λ w. first_place w s)
    (YieldsList-at c.map-2.ensures.source (YieldsList-from_filter _ (λ w. nat_eq (length w) n)
    (YieldsList-at c.filter-2.ensures.source (YieldsList-from_filter _ non-empty
    (YieldsList-at c.filter.ensures.source (YieldsList-from_map_by _ (λ w. w.now) (new σ s)
    (YieldsList-at c.map.ensures.source (YieldsList-from_inclusive 1 (length s) (length s) range.start range.end range.exhausted (omega arith)))
    c.map.ensures.closure (λ x r q k. search rules)))
    c.filter.ensures.closure (λ x b q k. search (rules, tests))))
    c.filter-2.ensures.closure (λ x b q k. search (rules, tests))))
    c.map-2.ensures.closure (λ x r q k. search rules)) in
    c.unwrap_or.ensures ∙ ap (λ o. unwrap_or o 0) (sym (option_map_id c.min.result) ∙ found) ∙ place-found σ s n c.longest_length-longest.ensures
