use Rattle.std.proofs.Common.{◌≡◌, drop}
use Rattle.palindromes.specs.Record.{longest_suffix}
use Rattle.mismatch.specs.Rule.{rule_of}
use Rattle.reference_ends.proofs.longest_suffix.Given as goal

-- no longer suffix is a palindrome
abbrev pub invariant-loop-start : goal.invariant-loop-start
invariant-loop-start l = longest_suffix (rule_of l.rule) l.s ≡ longest_suffix (rule_of l.rule) (drop l.start l.s)
