-- The list is written where the verdict is 0, and else the call is refused with the verdict's number.
use Rattle.std.proofs.Common.{refl}
use Rattle.outcome.proofs.Promises.{by-refusal}
use Rattle.list_call.proofs.Listing.{listable, listing-packs, listed-out}
use Rattle.list_call.proofs.list_repeats.Goals as goal

pub list-requires : goal.list-requires
list-requires c =
    let a = listable _ _ _ _ _ c.in-Ok.ensures refl in
    record { good = a.good; name_value = a.named; b_in_bounds = a.marks; name_in_bounds = a.room }

pub pack-requires : goal.pack-requires
pack-requires c = listing-packs _ _ _ _ (listable _ _ _ _ _ c.in-Ok.ensures refl) c.list.ensures.behind

pub returns-in-Ok : goal.returns-in-Ok
returns-in-Ok c =
    let e = c.list.ensures in
    listed-out _ _ _ _ (listable _ _ _ _ _ c.in-Ok.ensures refl) c.pack.ensures e.behind e.cleared e.written

pub returns-in-Err : goal.returns-in-Err
returns-in-Err c = by-refusal _ _ _ _ c.in-Err.ensures c.refuse.ensures
