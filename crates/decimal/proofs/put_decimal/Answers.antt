-- `decimal::put_decimal` stores the digits from the last on.
use Rattle.std.proofs.Common.{arith, ℕ, ◌≡◌, ◌+◌, ◌/◌, ◌%◌, ◌<◌, ◌≤◌, ◌∙◌, length, set}
use Rattle.std.proofs.lemmas.List.Edits.{sets}
use Rattle.palindromes.specs.Word.{Word}
use Rattle.palindromes.specs.Bed.{decimal}
use Rattle.decimal.proofs.Decimal.{decimal-one, decimal-more, length-one, length_more, some-digit}
use Rattle.decimal.proofs.Stores.{sets_last}
use Rattle.decimal.proofs.put_decimal.Goals as goal

-- the digit of a turn, stored before those that are left, or the only one that is left
module _ (l : Word) (at i n : ℕ) (place : i + 1 ≡ at + length (decimal n)) where
  store-more : 10 ≤ n → sets (set l i (48 + n % 10)) at (decimal (n / 10)) ≡ sets l at (decimal n)
  store-more h =
      let here : i ≡ at + length (decimal (n / 10)) = omega (arith, length_more n h) in
      rw (here, decimal-more n h) (sets_last l at (decimal (n / 10)) (48 + n % 10))

  store-one : n < 10 → set l i (48 + n) ≡ sets l at (decimal n)
  store-one h =
      let here : i ≡ at = omega (arith, length-one n h) in
      rw (here, decimal-one n h)

pub overflow_sub-i-in-loop-left : goal.overflow_sub-i-in-loop-left
overflow_sub-i-in-loop-left c =
    let left = c.loop-left.left in omega (arith, length_more left (omega arith), some-digit (left / 10))

pub loop-left-preserved : goal.loop-left-preserved
loop-left-preserved c =
    let loop = c.loop-left in
    record {
      place = omega (arith, length_more loop.left (omega arith), some-digit (loop.left / 10));
      before = omega arith;
      stored = store-more loop.out c.args.at loop.i loop.left loop.invariant.place (omega arith) ∙ loop.invariant.stored;
    }

pub returns-clause-written : goal.returns-clause-written
returns-clause-written c =
    let loop = c.loop-left in
    store-one loop.out c.args.at loop.i loop.left loop.invariant.place (omega arith) ∙ loop.invariant.stored
