use Rattle.std.proofs.Common.{◌≡◌, arith}
use Rattle.facing_sets.proofs.Search.{no_more}
use Rattle.facing_sets.proofs.maximal_radius.Goals as goal

-- there is no more room
pub returns : goal.returns
returns c =
    let r = c.loop-k.invariant in
    let e : c.loop-k.k ≡ c.args.room = omega (arith, c.requires.0.all_room c.loop-k.k r.left-fits r.right-fits) in
    rw (← e) (no_more _ _ _ _ c.requires.0 _ _ (omega arith) r λ l. absurd (omega arith))
