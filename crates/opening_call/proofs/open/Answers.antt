-- A record is opened where there is room for it, and else the call is refused with the number of the refusal.
use Rattle.opening_call.proofs.Opening.{opening-by-refusal, opened_up}
use Rattle.opening_call.proofs.open.Goals as goal

pub returns-in-Ok : goal.returns-in-Ok
returns-in-Ok c = opened_up _ _ _ _ c.in-Ok.ensures.room c.pack.ensures c.«open».ensures

pub returns-in-Err : goal.returns-in-Err
returns-in-Err c = opening-by-refusal _ _ _ _ c.in-Err.ensures.none c.refuse.ensures
