-- The loop of `mismatch::first_mismatch`: the pairs before k agree.
use Rattle.std.proofs.Common.{ℕ, ◌<◌}
use Rattle.palindromes.specs.Mismatch.{Agrees}
use Rattle.mismatch.specs.Rule.{rule_of}
use Rattle.mismatch.proofs.first_mismatch.Given as goal

abbrev pub invariant-loop-k : goal.invariant-loop-k
invariant-loop-k l = (i : ℕ) → i < l.k → Agrees (rule_of l.rule) l.w i
