-- The loop of `genbank::put_page`: the lines from number n on and the last one are left.
use Rattle.std.proofs.Common.{◌≡◌, ◌+◌, ◌*◌, ◌++◌, drop}
use Rattle.std.specs.Slice.Iter.{chunks_rest, chunks_size}
use Rattle.std.specs.Iterator.Adapters.{enumerate_source, enumerate_count}
use Rattle.palindromes.specs.Genbank.{cut, origin_lines, origin_end}
use Rattle.genbank.proofs.Unwritten.{Unwritten}
use Rattle.genbank.proofs.put_page.Given as goal

abbrev pub invariant-loop-n : goal.invariant-loop-n
invariant-loop-n l =
    record {
      can_next : goal.iterator-loop-n.can_next l.n-iterator;
      is_finite : goal.iterator-loop-n.is_finite l.n-iterator;
      size : chunks_size (enumerate_source l.n-iterator) ≡ 60;
      rest : chunks_rest (enumerate_source l.n-iterator) ≡ drop (60 * enumerate_count l.n-iterator) l.letters;
      left : Unwritten l.initial.out l.initial.at (origin_lines 1 (cut 60 l.letters) ++ origin_end) l.out l.at
          (origin_lines (60 * enumerate_count l.n-iterator + 1) (cut 60 (chunks_rest (enumerate_source l.n-iterator))) ++ origin_end);
    }
