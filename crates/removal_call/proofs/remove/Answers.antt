-- The letter goes where the test says that it can, and else the call is refused. Assumes nothing.
use Rattle.outcome.proofs.Promises.{by-refusal}
use Rattle.removal_call.proofs.Removing.{removable, removed-fits, removed}
use Rattle.removal_call.proofs.remove.Goals as goal

pub answer_removed-requires : goal.answer_removed-requires
answer_removed-requires c = let k = c.in-Ok.ensures in removed-fits _ _ _ (removable _ _ k.0 k.1) c.remove.ensures.answer

pub returns-in-Ok : goal.returns-in-Ok
returns-in-Ok c =
    let k = c.in-Ok.ensures in
    removed _ _ _ (removable _ _ k.0 k.1) c.remove.ensures.answer c.answer_removed.ensures c.remove.ensures.store

pub returns-in-Err : goal.returns-in-Err
returns-in-Err c = by-refusal _ _ _ _ c.in-Err.ensures c.refuse.ensures
