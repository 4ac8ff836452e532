use Rattle.std.proofs.Common.{ap, sym, ◌∙◌, length, unwrap_or, rules, arith}
use Rattle.std.proofs.lemmas.Iterator.{YieldsList-from_map}
use Rattle.std.proofs.lemmas.Iterator.Adapters.{option_map_id}
use Rattle.std.proofs.lemmas.Iterator.Consumers.{YieldsList-at, max_from_yields_List}
use Rattle.mismatch.specs.Rule.{rule_of}
use Rattle.reference_symmetry.proofs.Ranges.{YieldsList-from_inclusive}
use Rattle.reference_listing.proofs.Listing.{new}
use Rattle.reference_longest.proofs.Extremes.{longest-found}
use Rattle.reference_longest.proofs.longest_length.Goals as goal

pub returns : goal.returns
returns c =
    let σ = rule_of c.args.rule.now in
    let s = c.args.s.now in
    let range = c.new.ensures in
    let found = max_from_yields_List c.map.result c.max.result c.max.ensures.ran
    (YieldsList-from_map _ (λ e. length (new σ s e))
    (YieldsList-at c.map.ensures.source (YieldsList-from_inclusive 1 (length s) (length s) range.start range.end range.exhausted (omega arith)))
    c.map.ensures.closure (λ x r q k. search rules)) in
    c.unwrap_or.ensures ∙ ap (λ o. unwrap_or o 0) (sym (option_map_id c.max.result) ∙ found) ∙ longest-found σ s
