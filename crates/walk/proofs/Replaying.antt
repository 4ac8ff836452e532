-- What a loop over a replay of a good store's letters is told: with each letter its place and its row, and that no letter is left at the end.
use Prim.Native.Nat.{ℕ, ◌+◌, ◌<◌}
use native.Mathlib.Omega.{arith}
use mathlib.Core.Path.{◌≡◌, sym, ap, ◌∙◌}
use Rattle.std.specs.Prelude.{Some, None}
use Rattle.palindromes.specs.Word.{Word}
use Rattle.store.specs.Layout.{size_in}
use Rattle.walk.specs.Replay.{Holds}
use Rattle.walk.specs.Replaying.{Ready, Tells}
use Rattle.walk.specs.declared.replay.Replay.{Replay}

-- from s the replay t of the store b has just read the letter at the place, and is at the row
pub record Told (b : Word) (place row : ℕ) (s t : Replay) : Type 0 where
  pub store-is : t.store.now ≡ b
  pub from-is : s.read ≡ place
  pub read-is : t.read ≡ place + 1
  pub row-is : t.row ≡ row
  pub more : place < size_in b
  pub holds : Holds b (place + 1) row

module _ {b : Word} {s t : Replay} (e : s.store.now ≡ b) where
  pub told : {place row : ℕ} → Tells s (Some (place, row)) t → Ready t → Told b place row s t
  told {place} {row} h r =
      let w = h.step_is in
      let here : t.store.now ≡ b = h.store-is ∙ e in
      let next : t.read ≡ place + 1 = omega (arith, w.0, w.2) in
      record {
        store-is = here;
        from-is = sym w.0;
        read-is = next;
        row-is = w.3;
        more = omega (arith, w.1, ap size_in e);
        holds = rw (← here, ← next, ← w.3) r.holds;
      }

  pub told-all : Ready s → Tells s None t → s.read ≡ size_in b
  told-all r h = omega (arith, r.within, h.step_is.0, ap size_in e)
