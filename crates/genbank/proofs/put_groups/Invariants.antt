-- The loop of `genbank::put_groups`: the groups from number g on are left.
use Rattle.std.proofs.Common.{◌≡◌, ◌*◌, drop}
use Rattle.std.specs.Slice.Iter.{chunks_rest, chunks_size}
use Rattle.std.specs.Iterator.Adapters.{enumerate_source, enumerate_count}
use Rattle.palindromes.specs.Genbank.{cut, groups}
use Rattle.genbank.proofs.Unwritten.{Unwritten}
use Rattle.genbank.proofs.put_groups.Given as goal

abbrev pub invariant-loop-g : goal.invariant-loop-g
invariant-loop-g l =
    record {
      can_next : goal.iterator-loop-g.can_next l.g-iterator;
      is_finite : goal.iterator-loop-g.is_finite l.g-iterator;
      size : chunks_size (enumerate_source l.g-iterator) ≡ 10;
      rest : chunks_rest (enumerate_source l.g-iterator) ≡ drop (10 * enumerate_count l.g-iterator) l.w;
      left : Unwritten l.initial.out l.at (groups (cut 10 l.w)) l.out l.end (groups (cut 10 (chunks_rest (enumerate_source l.g-iterator))));
    }
