-- `decimal::digits` counts the digits of the definition.
use Rattle.std.proofs.Common.{arith}
use Rattle.decimal.proofs.Decimal.{length-one, length_more, some-digit, at-most-five}
use Rattle.decimal.proofs.digits.Goals as goal

pub overflow_add-count : goal.overflow_add-count
overflow_add-count c = omega (arith, at-most-five c.args.n c.requires)

pub loop-rest-preserved : goal.loop-rest-preserved
loop-rest-preserved c = omega (arith, length_more c.loop-rest.rest (omega arith))

pub returns : goal.returns
returns c = omega (arith, length-one c.loop-rest.rest (omega arith), some-digit c.args.n, at-most-five c.args.n c.requires)
