use Rattle.std.proofs.Common.{ℕ, arith}
use Rattle.palindromes.specs.Word.{Word}
use Rattle.store.specs.Layout.{end_row}
use Rattle.store.specs.Side.{end_of}
use Rattle.walk.specs.Walk.{Meets}
use Rattle.walk.proofs.Stores.{header-fits, framed-within}
use Rattle.walk.proofs.Reading.{good-chain}
use Rattle.growth.proofs.Growing.{framed, met, passed}
use Rattle.growth.proofs.meet.Goals as goal

pub end_row-start-requires : goal.end_row-start-requires
end_row-start-requires c = header-fits c.requires.good.sized

pub walk-requires-clause-within : goal.walk-requires-clause-within
walk-requires-clause-within c = let f = c.frame_of-f in framed-within f.ensures c.requires.good.sized f.result.n (omega (arith, f.ensures.size_is))

pub walk-requires-clause-chain : goal.walk-requires-clause-chain
walk-requires-clause-chain c =
    let g = c.requires.good in rw c.end_row-start.ensures.0 (good-chain g (end_row c.args.b.now (end_of c.args.side)) (g.ends (end_of c.args.side)).used)

pub returns : goal.returns
returns c =
    let g = c.requires.good in
    let a = c.args in
    let r = c.walk.result in
    let m = framed c.frame_of-f.ensures a.side a.d c.end_row-start.ensures.0
    (λ (t : Word) (k want start : ℕ). Meets a.b.now t k a.d want start r.passed r.met) c.walk.ensures in
    (met g (end_of a.side) a.d r.passed r.met m, passed g (end_of a.side) a.d r.passed r.met m)
