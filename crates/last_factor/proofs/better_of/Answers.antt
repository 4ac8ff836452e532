use Rattle.std.proofs.Common.{get_or, sym, arith}
use Rattle.palindromes.proofs.Choice.{better-first, better-second}
use Rattle.last_factor.proofs.better_of.Goals as goal

pub returns-then-factors-q : goal.returns-then-factors-q
returns-then-factors-q c = let f = c.args.factors.now in sym (better-second (λ p. get_or f p 0) c.args.a c.args.q (omega arith))

pub returns-else-factors-q : goal.returns-else-factors-q
returns-else-factors-q c = let f = c.args.factors.now in sym (better-first (λ p. get_or f p 0) c.args.a c.args.q (omega arith))
