-- What holds once the letters before `c` have joined: the store, and what the last of them brought.
use Rattle.std.proofs.Common.{◌≡◌, ℕ, ◌+◌, take, get_or}
use Rattle.store.specs.Side.{end_of}
use Rattle.transitions.specs.Turning.{after_additions}
use Rattle.filling.specs.Last.{brought}
use Rattle.filling.proofs.fill.Given as goal

abbrev pub invariant-loop-c : goal.invariant-loop-c
invariant-loop-c l = record {
  joined : l.store ≡ after_additions (end_of l.side) (take l.c-index l.letters) l.initial.store;
  brings : (j : ℕ) → l.c-index ≡ j + 1 → l.last ≡ brought (end_of l.side) (take j l.letters) (get_or l.letters j 0) l.initial.store;
}
