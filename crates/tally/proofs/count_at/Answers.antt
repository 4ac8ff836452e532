-- The eight bytes that are copied hold the count.
use Rattle.std.proofs.Common.{◌≡◌, ◌+◌, ◌-◌, take, drop, ap, ◌∙◌, arith}
use Rattle.palindromes.specs.Marks.{from_bytes}
use Rattle.tally.proofs.Bytes.{held}
use Rattle.tally.proofs.count_at.Goals as goal

pub returns : goal.returns
returns c =
    let eight : c.args.at + 8 - c.args.at ≡ 8 = omega arith in
    c.from_le_bytes.ensures ∙ held _ c.copy_from_slice.ensures.len
    ∙ ap from_bytes (c.copy_from_slice.ensures.after ∙ ap (λ k. take k (drop c.args.at c.args.sheet.now)) eight)
