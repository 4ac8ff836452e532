-- A piece is searched where the verdict on it is 0, and else refused with the verdict's number.
use Rattle.std.proofs.Common.{refl}
use Rattle.outcome.proofs.Promises.{by-refusal}
use Rattle.find_call.proofs.Finding.{findable, found-fits, found}
use Rattle.find_call.proofs.find_piece.Goals as goal

pub find-requires : goal.find-requires
find-requires c = let a = findable _ _ _ c.in-Ok.ensures refl in record { good = a.good; piece_nonzero = (a.some, a.letters) }

pub answer_found-requires : goal.answer_found-requires
answer_found-requires c = found-fits _ _ _ (findable _ _ _ c.in-Ok.ensures refl) c.find.ensures

pub returns-in-Ok : goal.returns-in-Ok
returns-in-Ok c = found _ _ _ (findable _ _ _ c.in-Ok.ensures refl) c.find.ensures c.answer_found.ensures

pub returns-in-Err : goal.returns-in-Err
returns-in-Err c = by-refusal _ _ _ _ c.in-Err.ensures c.refuse.ensures
