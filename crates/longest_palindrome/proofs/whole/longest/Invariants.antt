-- The replay is of the store, and the length and the place are the answer for the letters read.
use Rattle.std.proofs.Common.{◌≡◌}
use Rattle.store.specs.Layout.{letters_in}
use Rattle.store.specs.Good.{rule_of}
use Rattle.longest_palindrome.proofs.Best.{Best}
use Rattle.longest_palindrome.proofs.whole.longest.Given as goal

abbrev pub invariant-loop-k : goal.invariant-loop-k
invariant-loop-k l =
    (goal.iterator-loop-k).can_next l.k-iterator
    × (goal.iterator-loop-k).is_finite l.k-iterator
    × (l.k-iterator.store.now ≡ l.b)
    × Best (rule_of l.b) (letters_in l.b) l.k-iterator.read l.length l.place
