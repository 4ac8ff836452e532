-- The letter is put down and the ends are settled.
use Rattle.std.proofs.Common.{ap, ◌∙◌, length, arith}
use Rattle.palindromes.specs.Node.{length_of}
use Rattle.store.specs.Side.{end_of}
use Rattle.store.proofs.Signed.{kept}
use Rattle.walk.proofs.Stores.{header-fits, store_long}
use Rattle.transitions.specs.Addition.{longest_after}
use Rattle.transitions.proofs.Rows.{used-fits}
use Rattle.addition.proofs.Additions.{added-known}
use Rattle.addition.proofs.add_known.Goals as goal

pub length_of-longest-requires : goal.length_of-longest-requires
length_of-longest-requires c = used-fits c.requires.good c.args.q c.requires.stood_is.used

pub across-opposite-requires : goal.across-opposite-requires
across-opposite-requires c = let z = c.requires.good.sized in (header-fits z, omega (arith, z.at_most))

pub join-requires : goal.join-requires
join-requires c = omega (arith, c.frame_of-f.ensures.base-is, store_long c.requires.good.sized)

pub settle-requires : goal.settle-requires
settle-requires c = omega (arith, header-fits c.requires.good.sized)

pub returns : goal.returns
unfolding length_of
returns c =
    let a = c.args in
    let good = c.requires.good in
    let old = c.requires.stood_is in
    let l = c.length_of-longest.ensures in
    let f = c.frame_of-f.ensures in
    let longest = kept l.1 ∙ l.0 ∙ good.table.length-is a.q old.used ∙ ap length_of old.holds in
    added-known a.b.now (end_of a.side) a.c good a.q f.base-is f.size_is old
    (c.across-opposite.ensures (length (longest_after (end_of a.side) a.c a.b.now)) longest) c.join.ensures c.settle.ensures
