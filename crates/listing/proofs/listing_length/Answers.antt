-- `listing::listing_length` adds up the windows. Assumes nothing.
use Rattle.std.proofs.Common.{◌+◌, sym, ◌∙◌, arith}
use Rattle.store.specs.Layout.{size_in}
use Rattle.walk.proofs.Stores.{header-fits}
use Rattle.listing.proofs.Windows.{below_none, below-most, below_all}
use Rattle.listing.proofs.listing_length.Goals as goal

pub count-from-end-requires : goal.count-from-end-requires
count-from-end-requires c = header-fits c.requires.good.sized

pub loop-from-init : goal.loop-from-init
loop-from-init c = sym (below_none c.args.b.now c.args.name.now (size_in c.args.b.now))

pub overflow_add-total : goal.overflow_add-total
overflow_add-total c =
    let most = below-most c.requires.good c.args.name.now (c.loop-from.from + 344) c.requires.name_value in
    omega (arith, c.loop-from.invariant, c.window_length-total.ensures, most)

pub returns : goal.returns
returns c = c.loop-from.invariant ∙ below_all c.requires.good c.args.name.now c.loop-from.from (omega arith)

-- the same where the last window reaches the end
pub returns-2 : goal.returns-2
returns-2 c =
    let all = below_all c.requires.good c.args.name.now (c.loop-from.from + 344) (omega arith) in
    omega (arith, c.loop-from.invariant, c.window_length-total.ensures, all)
