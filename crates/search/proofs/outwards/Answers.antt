-- The letter of each turn is the next one of the piece, and its edge leads to the next node.
use Rattle.std.proofs.Common.{◌≡◌, ◌+◌, ◌-◌, ◌/◌, length, ap, ◌∙◌, arith, add-zero}
use Rattle.store.specs.Layout.{edge_in}
use Rattle.store.proofs.Ends.{part_at}
use Rattle.transitions.proofs.Rows.{used-fits}
use Rattle.search.proofs.Finding.{along-first, along-next, along-last, no_edge}
use Rattle.search.proofs.outwards.Goals as goal

pub loop-c-init : goal.loop-c-init
loop-c-init c = rw add-zero (along-first c.requires.good c.args.piece.now c.centre-row.result c.centre-row.ensures)

pub edge_of-row-requires : goal.edge_of-row-requires
edge_of-row-requires c = used-fits c.requires.good c.loop-c.row c.loop-c.invariant.used

pub returns-then-row-eq-IMAGINARY : goal.returns-then-row-eq-IMAGINARY
returns-then-row-eq-IMAGINARY c =
    let p = c.args.piece.now in
    let h = length p / 2 in
    let i = c.loop-c.c-index in
    let edge = c.edge_of-row.ensures.0 ∙ ap (edge_in c.args.b.now c.loop-c.row) (part_at p h (length p - h) (omega arith) i (omega arith)) in
    no_edge c.requires.good p (h + i) c.loop-c.row c.loop-c.invariant (omega arith) c.requires.piece_nonzero.1 c.edge_of-row.result edge c.if-row-eq-IMAGINARY.true

pub loop-c-preserved : goal.loop-c-preserved
loop-c-preserved c =
    let p = c.args.piece.now in
    let h = length p / 2 in
    let i = c.loop-c.c-index in
    let edge = c.edge_of-row.ensures.0 ∙ ap (edge_in c.args.b.now c.loop-c.row) (part_at p h (length p - h) (omega arith) i (omega arith)) in
    let next = along-next c.requires.good p (h + i) c.loop-c.row c.loop-c.invariant (omega arith) c.requires.piece_nonzero.1 c.edge_of-row.result edge c.if-row-eq-IMAGINARY.false in
    let e : h + i + 1 ≡ h + (i + 1) = omega arith in
    rw e at next

pub returns : goal.returns
returns c =
    let p = c.args.piece.now in
    along-last c.requires.good p (length p / 2 + c.loop-c.c-index) c.loop-c.row c.loop-c.invariant (λ n. omega (arith, ap length n)) c.requires.piece_nonzero.2
    (omega (arith, c.loop-c.invariant.high))
