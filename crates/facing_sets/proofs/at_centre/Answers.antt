use Rattle.facing_sets.proofs.Search.{no-radius, certain-centre, better-without, better-with}
use Rattle.facing_sets.proofs.at_centre.Goals as goal

pub maximal_radius-k-requires : goal.maximal_radius-k-requires
maximal_radius-k-requires c =
    let centre = certain-centre _ _ _ _ _ c.requires.0 c.requires.1 in
    (centre, no-radius _ _ _ _ centre)

pub returns-then-width-room : goal.returns-then-width-room
returns-then-width-room c =
    better-without _ _ _ _ _ c.requires.0 c.requires.1 _ c.requires.2 _ _ c.maximal_radius-k.ensures c.max-every.ensures
    c.if-width-room.true

pub returns-else-width-room : goal.returns-else-width-room
returns-else-width-room c =
    better-with _ _ _ _ _ c.requires.0 c.requires.1 _ c.requires.2 _ _ c.maximal_radius-k.ensures c.max-every.ensures _ _
    c.maximal_radius-m.ensures c.max-some.ensures
