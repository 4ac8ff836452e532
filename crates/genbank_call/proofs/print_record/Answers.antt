-- The page is written where the verdict is 0, and else the call is refused with the verdict's number.
use Rattle.std.proofs.Common.{refl}
use Rattle.outcome.proofs.Promises.{by-refusal}
use Rattle.genbank_call.proofs.Printing.{printable, page-packs, printed}
use Rattle.genbank_call.proofs.print_record.Goals as goal

pub write_page-requires : goal.write_page-requires
write_page-requires c = let a = printable _ _ _ c.in-Ok.ensures refl in record { good = a.good; b_in_bounds = a.room }

pub pack-requires : goal.pack-requires
pack-requires c = page-packs _ _ (printable _ _ _ c.in-Ok.ensures refl) c.write_page.ensures.behind

pub returns-in-Ok : goal.returns-in-Ok
returns-in-Ok c = printed _ _ (printable _ _ _ c.in-Ok.ensures refl) c.pack.ensures c.write_page.ensures.behind c.write_page.ensures.written

pub returns-in-Err : goal.returns-in-Err
returns-in-Err c = by-refusal _ _ _ _ c.in-Err.ensures c.refuse.ensures
