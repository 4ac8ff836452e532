use Rattle.std.proofs.Common.{ℕ, arith}
use Rattle.palindromes.specs.Word.{Word}
use Rattle.store.specs.Layout.{link_in}
use Rattle.store.specs.Side.{end_of}
use Rattle.walk.specs.Walk.{Stepped}
use Rattle.walk.proofs.Stores.{framed-within}
use Rattle.walk.proofs.Reading.{good-chain}
use Rattle.transitions.proofs.Rows.{covers, used-fits}
use Rattle.growth.proofs.Growing.{framed, link-single, link-stepped}
use Rattle.growth.proofs.link_around.Goals as goal

pub returns-then-u-eq-IMAGINARY : goal.returns-then-u-eq-IMAGINARY
returns-then-u-eq-IMAGINARY c =
    link-single c.requires.good (end_of c.args.side) c.args.d c.args.u c.requires.d_value.0 c.requires.d_value.1 c.if-u-eq-IMAGINARY.true

pub link_of-start-requires : goal.link_of-start-requires
link_of-start-requires c = used-fits c.requires.good c.args.u c.requires.d_value.1.0

pub step-requires-clause-within : goal.step-requires-clause-within
step-requires-clause-within c = let f = c.frame_of-f in framed-within f.ensures c.requires.good.sized f.result.n (omega (arith, f.ensures.size_is))

pub step-requires-clause-chain : goal.step-requires-clause-chain
step-requires-clause-chain c =
    let g = c.requires.good in rw c.link_of-start.ensures.0 (good-chain g (link_in c.args.b.now c.args.u) ((covers g).link-is c.args.u c.requires.d_value.1.0).0)

pub returns : goal.returns
returns c =
    let a = c.args in
    let s = c.step in
    link-stepped c.requires.good (end_of a.side) a.d a.u c.requires.d_value.0 c.requires.d_value.1 c.if-u-eq-IMAGINARY.false s.result
    (framed c.frame_of-f.ensures a.side a.d c.link_of-start.ensures.0 (λ (t : Word) (k want start : ℕ). Stepped a.b.now t k a.d want start s.result) s.ensures)
