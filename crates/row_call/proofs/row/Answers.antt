-- A row is told where the verdict on it is 0, and else the call is refused with the verdict's number.
use Rattle.std.proofs.Common.{refl, sym, ap, ◌∙◌, subst}
use Rattle.store.specs.Lengths.{Stored}
use Rattle.store.proofs.Signed.{kept}
use Rattle.outcome.specs.Reply.{twos_complement}
use Rattle.outcome.proofs.Promises.{by-refusal, answerable}
use Rattle.outcome.proofs.Refusals.{row-used}
use Rattle.row_call.proofs.Asking.{length-stored, row-few, row-answered, row-packs}
use Rattle.row_call.proofs.row.Goals as goal

pub row-found-requires-clause-r_value : goal.row-found-requires-clause-r_value
row-found-requires-clause-r_value c = row-used _ _ _ (answerable _ _ _ _ c.in-Ok.ensures refl).clear

-- the row's length is one that a cell can hold
pub two_bytes-requires : goal.two_bytes-requires
two_bytes-requires c = let s = length-stored _ _ (answerable _ _ _ _ c.in-Ok.ensures refl) _ c.row-found.ensures.length in subst Stored (sym (kept s)) s

pub pack-requires : goal.pack-requires
pack-requires c = row-few _ _ (answerable _ _ _ _ c.in-Ok.ensures refl) c.row-found.ensures.link c.row-found.ensures.inner c.two_bytes.ensures.1

pub returns-in-Ok : goal.returns-in-Ok
returns-in-Ok c =
    let a = answerable _ _ _ _ c.in-Ok.ensures refl in
    let r = c.row-found.ensures in
    let length = ap twos_complement (kept (length-stored _ _ a _ r.length) ∙ r.length) in
    row-answered _ _ a (c.pack.ensures ∙ row-packs r.link (c.two_bytes.ensures.0 ∙ length) r.inner)

pub returns-in-Err : goal.returns-in-Err
returns-in-Err c = by-refusal _ _ _ _ c.in-Err.ensures c.refuse.ensures
