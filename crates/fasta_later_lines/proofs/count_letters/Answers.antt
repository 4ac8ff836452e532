-- `count_letters` meets its contract: each way out and each turn by the laws of `Counted`.
use Rattle.std.proofs.Common.{arith}
use Rattle.fasta_later_lines.proofs.Counting.{nothing-counted, all-counted, header-counted, other-counted, full-counted, line-end-counted, before-lf-counted, letter-counted}
use Rattle.fasta_later_lines.proofs.count_letters.Goals as goal
use Rattle.fasta_later_lines.proofs.count_letters.Goals.{in-LineEnd, in-BeforeLf, in-Letter+else-n-eq1024}

pub loop-i-init : goal.loop-i-init
loop-i-init c = nothing-counted _ _

pub returns-in-SecondHeader : goal.returns-in-SecondHeader
returns-in-SecondHeader c = header-counted c.loop-i.invariant c.loop-i-test.true c.kind_at.ensures c.in-SecondHeader.is

pub returns-in-Other : goal.returns-in-Other
returns-in-Other c = other-counted c.loop-i.invariant c.loop-i-test.true c.kind_at.ensures c.in-Other.is

pub returns-then-n-eq1024 : goal.returns-then-n-eq1024
returns-then-n-eq1024 c = full-counted c.loop-i.invariant c.loop-i-test.true c.kind_at.ensures c.in-Letter.is c.if-n-eq1024.true

pub overflow_add-n : goal.overflow_add-n
overflow_add-n c = omega (arith, c.loop-i.invariant.room)

pub loop-i-preserved : goal.loop-i-preserved
loop-i-preserved c =
    elim c.match-kind_at.branch [
      | in-LineEnd w ↦ line-end-counted c.loop-i.invariant c.loop-i-test.true c.kind_at.ensures w.in-LineEnd.is w.n-is w.line_start-is
      | in-BeforeLf w ↦ before-lf-counted c.loop-i.invariant c.loop-i-test.true c.kind_at.ensures w.in-BeforeLf.is w.n-is w.line_start-is
      | in-Letter+else-n-eq1024 w ↦
          letter-counted c.loop-i.invariant c.loop-i-test.true c.kind_at.ensures w.in-Letter.is w.if-n-eq1024.false w.n-is w.line_start-is
    ]

pub returns : goal.returns
returns c = all-counted _ _ _ _ _ c.loop-i.invariant c.loop-i-test.false
