use Rattle.std.proofs.Common.{◌≡◌, arith, ap, length}
use Rattle.palindromes.specs.Place.{frequency}
use Rattle.reference_places.proofs.Pieces.{places_left, left-all, length-left, length-left-end, byte_le}
use Rattle.reference_places.proofs.frequency.Goals as goal

pub loop-i-init : goal.loop-i-init
unfolding frequency
loop-i-init c = (omega arith, omega (arith, ap length (left-all c.args.p.now c.args.s.now)))

pub loop-i-preserved : goal.loop-i-preserved
loop-i-preserved c =
    let i = c.loop-i.invariant in
    let one = byte_le c.starts_with.result in
    let here = length-left _ _ _ _ c.starts_with.ensures c.loop-i-test.true in
    (omega (arith, i.0, c.from-found.ensures, one), omega (arith, i.1, c.from-found.ensures, here))

-- past the last letter an empty piece stands
pub returns : goal.returns
returns c =
    let p = c.args.p.now in
    let s = c.args.s.now in
    let end : c.loop-i.i ≡ length s = omega (arith, c.loop-i.auto.i-end, c.loop-i-test.false) in
    let last = length-left-end p s (length s) _ c.starts_with-2.ensures (omega arith) in
    omega (arith, c.loop-i.invariant.1, ap (λ k. length (places_left p s k)) end, last, c.from.ensures)
