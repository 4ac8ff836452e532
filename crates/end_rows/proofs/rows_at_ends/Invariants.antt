-- The replay is of the store, and each right end so far has its row.
use Rattle.std.proofs.Common.{◌≡◌, ℕ, ◌+◌, ◌≤◌, ◌<◌, length, get_or}
use Rattle.palindromes.specs.Word.{Word}
use Rattle.store.specs.Layout.{size_in}
use Rattle.walk.specs.Replay.{Holds}
use Rattle.end_rows.proofs.rows_at_ends.Given as goal

-- the first k right ends have their rows
pub record EndsTo (b : Word) (k : ℕ) (ends : Word) : Type 0 where
  pub long : size_in b ≤ length ends
  pub each : (j : ℕ) → j < k → Holds b (j + 1) (get_or ends j 0)

abbrev pub invariant-loop-k : goal.invariant-loop-k
invariant-loop-k l =
    (goal.iterator-loop-k).can_next l.k-iterator
    × (goal.iterator-loop-k).is_finite l.k-iterator
    × (l.k-iterator.store.now ≡ l.b)
    × EndsTo l.b l.k-iterator.read l.ends
