-- What is read of the end that loses its letter.
use Rattle.std.proofs.Common.{length, ap, ◌∙◌, arith}
use Rattle.store.specs.Layout.{length_in, end_row}
use Rattle.store.specs.Side.{end_of}
use Rattle.store.proofs.Signed.{kept}
use Rattle.walk.proofs.Stores.{header-fits, framed-within}
use Rattle.transitions.specs.Removal.{longest_before}
use Rattle.transitions.proofs.Rows.{used-fits}
use Rattle.removal.proofs.Removals.{end-length, parted}
use Rattle.removal.proofs.part.Goals as goal

pub end_row-row-requires : goal.end_row-row-requires
end_row-row-requires c = header-fits c.requires.good.sized

pub length_of-longest-requires : goal.length_of-longest-requires
length_of-longest-requires c =
    let e = end_of c.args.side in
    rw c.end_row-row.ensures.0 (used-fits c.requires.good (end_row c.args.b.now e) (c.requires.good.ends e).used)

pub link_of-link-requires : goal.link_of-link-requires
link_of-link-requires c =
    let e = end_of c.args.side in
    rw c.end_row-row.ensures.0 (used-fits c.requires.good (end_row c.args.b.now e) (c.requires.good.ends e).used)

pub letter_at-requires : goal.letter_at-requires
letter_at-requires c =
    let f = c.frame_of-f.ensures in
    ((framed-within f c.requires.good.sized c.frame_of-f.result.n (omega (arith, f.size_is))).letters, omega (arith, f.size_is, c.requires.b_nonzero))

pub across-requires : goal.across-requires
across-requires c =
    let z = c.requires.good.sized in
    (header-fits z, omega (arith, c.frame_of-f.ensures.size_is, z.letters-fit, z.at_most))

pub returns : goal.returns
returns c =
    let l = c.length_of-longest.ensures in
    let row = c.end_row-row.ensures.0 in
    let f = c.frame_of-f.ensures in
    let b = c.args.b.now in
    let e = end_of c.args.side in
    let g = c.requires.good in
    let opposite = c.across.ensures (length (longest_before e b)) (kept l.1 ∙ l.0 ∙ ap (length_in b) row ∙ end-length g e) in
    parted g e f.base-is f.size_is row c.requires.reaches c.letter_at.ensures c.link_of-link.ensures.0 opposite c.then_some.ensures
