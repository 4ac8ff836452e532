use Rattle.std.proofs.Common.{◌≡◌, ◌+◌, ◌-◌, ap, sym, ◌∙◌, length, take, arith}
use Rattle.palindromes.specs.Record.{longest_prefix}
use Rattle.mismatch.specs.Rule.{rule_of}
use Rattle.reference_ends.proofs.AtEnds.{prefix-all, prefix_here, prefix-shorter, prefix-none}
use Rattle.reference_ends.proofs.longest_prefix.Goals as goal

pub loop-left_out-init : goal.loop-left_out-init
loop-left_out-init c =
    let s = c.args.s.now in
    let all : length s ≡ length s - 0 = omega arith in
    prefix-all _ s ∙ ap (λ k. longest_prefix (rule_of c.args.rule.now) (take k s)) all

pub returns-then-is_symmetric : goal.returns-then-is_symmetric
returns-then-is_symmetric c =
    let here = prefix_here _ _ _ (omega (arith, c.loop-left_out-test.true)) (omega arith) (sym c.is_symmetric.ensures ∙ c.if-is_symmetric.true) in
    sym (ap length c.loop-left_out.invariant ∙ here)

pub loop-left_out-preserved : goal.loop-left_out-preserved
loop-left_out-preserved c =
    let s = c.args.s.now in
    let one : length s - c.loop-left_out.left_out - 1 ≡ length s - (c.loop-left_out.left_out + 1) = omega arith in
    c.loop-left_out.invariant
    ∙ prefix-shorter _ _ _ (omega (arith, c.loop-left_out-test.true)) (omega arith) (sym c.is_symmetric.ensures ∙ c.if-is_symmetric.false)
    ∙ ap (λ k. longest_prefix (rule_of c.args.rule.now) (take k s)) one

pub returns : goal.returns
returns c = sym (ap length (c.loop-left_out.invariant ∙ prefix-none _ _ _ (omega (arith, c.loop-left_out-test.false))))
