use Rattle.std.proofs.Common.{length, sym, ap, ◌∙◌, arith}
use Rattle.palindromes.proofs.MinimalUniqueList.{met-none, met-few}
use Rattle.store.specs.Layout.{letters_in}
use Rattle.store.specs.Good.{rule_of}
use Rattle.transitions.proofs.Rows.{size_small}
use Rattle.walk.proofs.Stores.{header-fits}
use Rattle.minimal_unique.proofs.Rows.{minimal_in}
use Rattle.minimal_unique.proofs.Ends.{next_first, none-next, first-used, listed-old, one_more, listed-all}
use Rattle.minimal_unique.proofs.count_minimal.Goals as goal
use Rattle.minimal_unique.proofs.count_minimal.Goals.{then-is_minimal, else-is_minimal}

pub size-requires : goal.size-requires
size-requires c = header-fits c.requires.good.sized

pub loop-first-init : goal.loop-first-init
loop-first-init c = sym (ap length (met-none _ _))

pub is_minimal-requires-clause-row_value : goal.is_minimal-requires-clause-row_value
is_minimal-requires-clause-row_value c =
    let s = c.requires in
    let n = next_first s.first_rows c.size.ensures.0 c.loop-first-test.true c.from.ensures in
    rw n.1 (first-used s.good s.first_rows n.0)

pub overflow_add-total : goal.overflow_add-total
overflow_add-total c =
    let b = c.args.b.now in
    let n = next_first c.requires.first_rows c.size.ensures.0 c.loop-first-test.true c.from.ensures in
    omega (arith, n.0, met-few (rule_of b) (letters_in b) c.loop-first.first-index, size_small c.requires.good)

pub loop-first-preserved : goal.loop-first-preserved
loop-first-preserved c =
    let s = c.requires in
    let n = next_first s.first_rows c.size.ensures.0 c.loop-first-test.true c.from.ensures in
    let m = c.is_minimal.ensures ∙ ap (minimal_in c.args.b.now) n.1 in
    elim c.if-is_minimal.branch [
      | then-is_minimal w ↦ omega (arith, w.total-is, c.loop-first.invariant, one_more s.good s.first_rows n.0 m w.if-is_minimal.true)
      | else-is_minimal w ↦ omega (arith, w.total-is, c.loop-first.invariant, ap length (listed-old s.good s.first_rows n.0 m w.if-is_minimal.false))
    ]

pub returns : goal.returns
returns c =
    let e = none-next c.requires.first_rows c.size.ensures.0 (omega arith) in
    c.loop-first.invariant ∙ ap length (listed-all c.requires.good c.loop-first.first-index e)
