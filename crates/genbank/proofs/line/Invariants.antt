-- The loop of `genbank::line`: the groups before number g are in their arrays, and the letters behind them are left.
use Rattle.std.proofs.Common.{◌≡◌, ℕ, ◌*◌, ◌<◌, drop}
use Rattle.std.specs.Slice.Iter.{chunks_rest, chunks_size}
use Rattle.std.specs.Iterator.Adapters.{enumerate_source, enumerate_count}
use Rattle.genbank.specs.Line.{SixOfTen, Holds}
use Rattle.genbank.proofs.line.Given as goal

abbrev pub invariant-loop-g : goal.invariant-loop-g
invariant-loop-g l =
    record {
      can_next : goal.iterator-loop-g.can_next l.g-iterator;
      is_finite : goal.iterator-loop-g.is_finite l.g-iterator;
      size : chunks_size (enumerate_source l.g-iterator) ≡ 10;
      rest : chunks_rest (enumerate_source l.g-iterator) ≡ drop (10 * enumerate_count l.g-iterator) l.w;
      shape : SixOfTen l.line;
      each : (h : ℕ) → h < enumerate_count l.g-iterator → Holds l.line h l.w;
    }
