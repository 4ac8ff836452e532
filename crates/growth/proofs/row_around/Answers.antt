use Rattle.std.proofs.Common.{◌≡◌, ◌+◌, ◌∙◌, pos}
use Rattle.std.proofs.Math.IntN.{pred_ℤ}
use Rattle.store.specs.Layout.{cell, length_in}
use Rattle.store.specs.Side.{end_of}
use Rattle.store.proofs.Signed.{kept}
use Rattle.transitions.proofs.Rows.{used-fits}
use Rattle.growth.proofs.Growing.{two-more, row-for}
use Rattle.growth.proofs.row_around.Goals as goal

pub length_of-requires : goal.length_of-requires
length_of-requires c = used-fits c.requires.good c.args.u c.requires.d_value.1.0

pub returns : goal.returns
unfolding length_in
returns c =
    let g = c.requires.good in
    let e = end_of c.args.side in
    let l = c.length_of.ensures in
    let f = c.fresh.ensures in
    let letter = c.requires.d_value.0 in
    let around = c.requires.d_value.1 in
    let stored = cell c.args.b.now c.args.u 0 in
    let grown : c.plus_two-length.result ≡ pred_ℤ (pos (stored + 2)) = c.plus_two-length.ensures stored (kept l.1 ∙ l.0) in
    let written = f.0 ∙ kept (two-more g e c.args.d c.args.u letter around grown) in
    row-for g e c.args.d c.args.u letter around c.fresh.result (written ∙ grown) f.1 f.2 f.3 c.link_around-link.ensures
