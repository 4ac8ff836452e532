-- The replay is of the store, the marks say how often each row's palindrome stands in the letters read, and each right end so far has the row that is first
-- met there.
use Rattle.std.proofs.Common.{◌≡◌, true, false, ℕ, ◌+◌, ◌≤◌, ◌<◌, length, get_or}
use Rattle.palindromes.specs.Word.{Word}
use Rattle.store.specs.Layout.{size_in}
use Rattle.walk.specs.Replay.{new_at, Holds}
use Rattle.unique_rows.specs.Marks.{Marks}
use Rattle.unique_rows.proofs.mark_rows.Given as goal

-- at right end j stands the row first met there, or a root's
pub record At (b : Word) (j r : ℕ) : Type 0 where
  pub new : new_at b j ≡ true → Holds b (j + 1) r
  pub old : new_at b j ≡ false → r < 2

-- what the first k letters give
pub record MarkedTo (b : Word) (k : ℕ) (marks firsts : Word) : Type 0 where
  pub marked : Marks b k marks
  pub long : size_in b ≤ length firsts
  pub each : (j : ℕ) → j < k → At b j (get_or firsts j 0)

abbrev pub invariant-loop-k : goal.invariant-loop-k
invariant-loop-k l =
    (goal.iterator-loop-k).can_next l.k-iterator
    × (goal.iterator-loop-k).is_finite l.k-iterator
    × (l.k-iterator.store.now ≡ l.b)
    × MarkedTo l.b l.k-iterator.read l.marks l.firsts
