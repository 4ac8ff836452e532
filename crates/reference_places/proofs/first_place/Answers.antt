use Rattle.std.proofs.Common.{◌≡◌, arith, ap, sym, ◌∙◌, length}
use Rattle.palindromes.specs.Place.{first, first_place}
use Rattle.reference_places.proofs.Pieces.{places_left, left-all, first-here, first-later, first-none}
use Rattle.reference_places.proofs.first_place.Goals as goal

pub loop-at-init : goal.loop-at-init
unfolding first_place
loop-at-init c = ap first (left-all _ _)

pub returns-then-starts_with : goal.returns-then-starts_with
returns-then-starts_with c = sym (c.loop-at.invariant ∙ first-here _ _ _ (sym c.starts_with.ensures ∙ c.if-starts_with.true))

pub loop-at-preserved : goal.loop-at-preserved
loop-at-preserved c = c.loop-at.invariant ∙ first-later _ _ _ c.loop-at-test.true (sym c.starts_with.ensures ∙ c.if-starts_with.false)

-- past the last letter an empty piece stands
pub returns-then-starts_with-2 : goal.returns-then-starts_with-2
returns-then-starts_with-2 c =
    let p = c.args.p.now in
    let s = c.args.s.now in
    let end : c.loop-at.at ≡ length s = omega (arith, c.loop-at.auto.at-end, c.loop-at-test.false) in
    let here = first-here p s (length s) (sym c.starts_with-2.ensures ∙ c.if-starts_with-2.true) in
    sym (c.loop-at.invariant ∙ ap (λ k. first (places_left p s k)) end ∙ here)

pub returns-else-starts_with-2 : goal.returns-else-starts_with-2
returns-else-starts_with-2 c =
    let p = c.args.p.now in
    let s = c.args.s.now in
    let end : c.loop-at.at ≡ length s = omega (arith, c.loop-at.auto.at-end, c.loop-at-test.false) in
    let none = first-none p s (length s) (omega arith) (sym c.starts_with-2.ensures ∙ c.if-starts_with-2.false) in
    sym (c.loop-at.invariant ∙ ap (λ k. first (places_left p s k)) end ∙ none)
