-- The place that `position` finds, and the length where it finds none, is the definition's.
use Rattle.std.proofs.Common.{eqb, ap, ◌∙◌, length, unwrap_or, rules}
use Rattle.std.proofs.lemmas.Iterator.{YieldsList-from_slice}
use Rattle.std.proofs.lemmas.Iterator.Search.{position_from_yields_List}
use Rattle.bed_reader.proofs.Fields.{place-found}
use Rattle.bed_reader.proofs.find_byte.Goals as goal
use borrow.Author.Tests.{tests}

pub returns : goal.returns
returns c =
    let e = position_from_yields_List (λ b. eqb b c.args.c) _ _ c.position.result c.position.ensures.ran
    (YieldsList-from_slice c.args.text.now cc) (λ x b q k. search (rules, tests)) in
    c.unwrap_or.ensures ∙ ap (λ o. unwrap_or o (length c.args.text.now)) e ∙ place-found c.args.c c.args.text.now
