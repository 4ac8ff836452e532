-- `write_letters` meets its contract: each turn by the laws of `Writing`.
use Rattle.std.proofs.Common.{arith, sym, ◌∙◌}
use lib.Seq.{length-sets}
use Rattle.fasta_later_lines.proofs.Writing.{nothing_written, all-written, keeps-length, other-passed, has_room, letter-written}
use Rattle.fasta_later_lines.proofs.write_letters.Goals as goal
use Rattle.fasta_later_lines.proofs.write_letters.Goals.{then-reads_as_letter, else-reads_as_letter}

pub loop-i-init : goal.loop-i-init
loop-i-init c = nothing_written _ _ _ c.requires.true_value c.requires.true_in_bounds

pub bounds-out-n : goal.bounds-out-n
bounds-out-n c = has_room c.loop-i.invariant c.loop-i-test.true (sym c.reads_as_letter.ensures ∙ c.if-reads_as_letter.true)

pub overflow_add-n : goal.overflow_add-n
overflow_add-n c =
    omega (
      arith,
      has_room c.loop-i.invariant c.loop-i-test.true (sym c.reads_as_letter.ensures ∙ c.if-reads_as_letter.true),
      simp length-sets at (keeps-length c.loop-i.invariant),
    )

pub loop-i-preserved : goal.loop-i-preserved
loop-i-preserved c =
    elim c.if-reads_as_letter.branch [
      | then-reads_as_letter w ↦
          rw (w.n-is, w.out-is, w.capital.ensures)
          (letter-written c.loop-i.invariant c.loop-i-test.true (sym c.reads_as_letter.ensures ∙ w.if-reads_as_letter.true))
      | else-reads_as_letter w ↦
          rw (w.n-is, w.out-is) (other-passed c.loop-i.invariant c.loop-i-test.true (sym c.reads_as_letter.ensures ∙ w.if-reads_as_letter.false))
    ]

pub returns : goal.returns
returns c = all-written _ _ _ _ _ c.loop-i.invariant c.loop-i-test.false
