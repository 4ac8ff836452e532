-- A capacity outside its bounds, a store that is too short, and one that has room.
use Rattle.opening_call.proofs.Opening.{too_small, too_large, too_short, room_for}
use Rattle.opening_call.proofs.judge_open.Goals as goal
use Rattle.opening_call.proofs.judge_open.Goals.{then-capacity-lt1-via-then-capacity-lt1, then-capacity-lt1-via-else-capacity-lt1+then-capacity-gt1024}

pub returns-then-capacity-lt1-clause-none : goal.returns-then-capacity-lt1-clause-none
returns-then-capacity-lt1-clause-none c =
    elim c.then-capacity-lt1.branch [
      | then-capacity-lt1-via-then-capacity-lt1 w ↦ too_small _ _ w.if-capacity-lt1.true
      | then-capacity-lt1-via-else-capacity-lt1+then-capacity-gt1024 w ↦ too_large _ _ w.if-capacity-lt1.false w.if-capacity-gt1024.true
    ]

pub returns-then-store-k-clause-none : goal.returns-then-store-k-clause-none
returns-then-store-k-clause-none c = too_short _ _ c.if-capacity-lt1.false c.if-capacity-gt1024.false c.if-store-k.true

pub returns-clause-room : goal.returns-clause-room
returns-clause-room c = room_for _ _ c.if-capacity-lt1.false c.if-capacity-gt1024.false c.if-store-k.false
