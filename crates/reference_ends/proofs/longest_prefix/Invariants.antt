use Rattle.std.proofs.Common.{◌≡◌, ◌-◌, length, take}
use Rattle.palindromes.specs.Record.{longest_prefix}
use Rattle.mismatch.specs.Rule.{rule_of}
use Rattle.reference_ends.proofs.longest_prefix.Given as goal

-- no longer prefix is a palindrome
abbrev pub invariant-loop-left_out : goal.invariant-loop-left_out
invariant-loop-left_out l = longest_prefix (rule_of l.rule) l.s ≡ longest_prefix (rule_of l.rule) (take (length l.s - l.left_out) l.s)
