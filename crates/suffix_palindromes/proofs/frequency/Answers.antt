-- `suffix_palindromes::frequency` reads the letters from left to right; the marks add up. Assumes nothing.
use Rattle.std.proofs.Common.{◌≡◌, true, ℕ, ◌+◌, ◌<◌, ◌≤◌, take, refl, sym, ap, ◌∙◌, arith}
use Rattle.palindromes.specs.Word.{Word}
use Rattle.palindromes.specs.Place.{frequency}
use Rattle.palindromes.specs.Node.{spelling_of}
use Rattle.store.specs.Layout.{size_in, used_in, letters_in}
use Rattle.store.specs.Good.{node_in, Good}
use Rattle.transitions.proofs.Rows.{size-most}
use Rattle.walk.specs.Replay.{ending_in}
use Rattle.walk.proofs.Reading.{read_whole}
use Rattle.walk.proofs.Replaying.{told, told-all}
use Rattle.suffix_palindromes.specs.Handed.{ending_with}
use Rattle.suffix_palindromes.proofs.Handed.{ends-none, handed-first, frequency-first, frequency-next, frequency-small}
use Rattle.suffix_palindromes.proofs.frequency.Invariants.{CountedTo}
use Rattle.suffix_palindromes.proofs.frequency.Goals as goal

-- one letter more: the mark of its row added
module _ {b : Word} (g : Good b) {wanted : ℕ} (u : used_in b wanted ≡ true) (w : 2 ≤ wanted) where
  added : {k total answer : ℕ} → k < size_in b → total ≡ frequency (spelling_of (node_in b wanted)) (take k (letters_in b))
      → answer ≡ ending_with (spelling_of (node_in b wanted)) (ending_in b (k + 1))
      → total + answer ≡ frequency (spelling_of (node_in b wanted)) (take (k + 1) (letters_in b))
  added {k} l t a = omega (arith, t, a, frequency-next g u w k l)

pub loop-last-init : goal.loop-last-init
loop-last-init c =
    let p = c.requires in
    let new = c.new-last-items.ensures in
    rw c.into_iter-last-iterator.ensures.into_iter_gives (
      new.ready,
      tt,
      new.of_store,
      rw new.first record {
        marked = handed-first p.good (ends-none (spelling_of (node_in c.args.b.now c.args.row))) refl;
        counted = sym (frequency-first p.good p.row_value.0 p.row_value.1);
      },
    )

pub overflow_add-total : goal.overflow_add-total
overflow_add-total c =
    let p = c.requires in
    let i = c.loop-last.invariant in
    let next = told i.2 c.in-Some.ensures.steps c.in-Some.ensures.goes.keeps in
    let k = c.in-Some.field-0-0 in
    let before : CountedTo c.args.b.now c.args.row k c.loop-last.marks c.loop-last.total = rw (← next.from-is) i.3 in
    let marks = c.mark-total.ensures k next.more next.holds before.marked in
    omega (
      arith,
      added p.good p.row_value.0 p.row_value.1 next.more before.counted marks.1,
      frequency-small p.good p.row_value.0 p.row_value.1 (k + 1),
      size-most p.good,
    )

pub loop-last-preserved : goal.loop-last-preserved
loop-last-preserved c =
    let p = c.requires in
    let i = c.loop-last.invariant in
    let next = told i.2 c.in-Some.ensures.steps c.in-Some.ensures.goes.keeps in
    let k = c.in-Some.field-0-0 in
    let before : CountedTo c.args.b.now c.args.row k c.loop-last.marks c.loop-last.total = rw (← next.from-is) i.3 in
    let marks = c.mark-total.ensures k next.more next.holds before.marked in (
      c.in-Some.ensures.goes.keeps,
      tt,
      next.store-is,
      rw next.read-is record { marked = marks.0; counted = added p.good p.row_value.0 p.row_value.1 next.more before.counted marks.1 },
    )

pub returns : goal.returns
returns c =
    let i = c.loop-last.invariant in
    let all = told-all i.2 i.0 c.in-None.ensures.steps in
    i.3.counted ∙ ap (frequency (spelling_of (node_in c.args.b.now c.args.row))) (read_whole c.requires.good c.loop-last.last-iterator.read all)
