-- `unique_rows::mark_rows` reads the letters from left to right; what stands behind the right ends is kept. Assumes nothing.
use Rattle.std.proofs.Common.{◌≡◌, ◌≢◌, true, false, ℕ, ◌+◌, ◌<◌, length, sym, ◌∙◌, arith, below_more}
use Rattle.std.proofs.Common.{length-set, get_or-set_same, get_or-set_other}
use Rattle.palindromes.specs.Word.{Word}
use Rattle.transitions.proofs.Rows.{used-small}
use Rattle.walk.specs.Replay.{new_at, Holds}
use Rattle.walk.proofs.Replaying.{told, told-all}
use Rattle.unique_rows.proofs.Marks.{marks-first}
use Rattle.unique_rows.proofs.mark_rows.Invariants.{At, MarkedTo}
use Rattle.unique_rows.proofs.mark_rows.Goals as goal
use Rattle.unique_rows.proofs.mark_rows.Goals.{then-meet, else-meet}

-- what is put at a right end
new-there : {b : Word} {k row first : ℕ} → new_at b k ≡ true → Holds b (k + 1) row → first ≡ row → At b k first
new-there e h i = record { new = λ t. rw i h; old = λ f. cc }

old-there : {b : Word} {k first : ℕ} → new_at b k ≡ false → first ≡ 0 → At b k first
old-there e i = record { new = λ t. cc; old = λ f. omega arith }

pub loop-k-init : goal.loop-k-init
loop-k-init c =
    let new = c.new-k-items.ensures in
    rw c.into_iter-k-iterator.ensures.into_iter_gives (
      new.ready,
      tt,
      new.of_store,
      rw new.first record {
        marked = marks-first c.requires.good c.requires.marks_value;
        long = c.requires.b_in_bounds;
        each = λ j h. absurd (omega arith);
      },
    )

pub overflow_cast-firsts : goal.overflow_cast-firsts
overflow_cast-firsts c =
    let next = told c.loop-k.invariant.2 c.in-Some.ensures.steps c.in-Some.ensures.goes.keeps in
    elim c.if-meet.branch [
      | then-meet w ↦ omega (arith, used-small c.requires.good c.in-Some.row next.holds.used)
      | else-meet w ↦ omega arith
    ]

pub loop-k-preserved : goal.loop-k-preserved
loop-k-preserved c =
    let b = c.args.b.now in
    let k = c.in-Some.k in
    let i = c.loop-k.invariant in
    let next = told i.2 c.in-Some.ensures.steps c.in-Some.ensures.goes.keeps in
    let before : MarkedTo b k c.loop-k.marks c.loop-k.firsts = rw (← next.from-is) i.3 in
    let inside : k < length c.loop-k.firsts = omega (arith, next.more, before.long) in
    let met = c.meet.ensures k next.more next.holds before.marked in
    let there : At b k c.if-meet.new =
    elim c.if-meet.branch [
      | then-meet w ↦ new-there (sym met.1 ∙ w.if-meet.true) next.holds w.new-is
      | else-meet w ↦ old-there (sym met.1 ∙ w.if-meet.false) w.new-is
    ] in (
      c.in-Some.ensures.goes.keeps,
      tt,
      next.store-is,
      rw next.read-is record {
        marked = met.0;
        long = omega (arith, before.long, length-set c.loop-k.firsts k c.if-meet.new);
        each = below_more _ _ (λ j h. let other : j ≢ k = omega arith in rw get_or-set_other (before.each j h)) (rw get_or-set_same there);
      },
    )

pub returns-clause-first : goal.returns-clause-first
returns-clause-first c =
    let i = c.loop-k.invariant in
    let all = told-all i.2 i.0 c.in-None.ensures.steps in
    record {
      long = i.3.long;
      new = λ k l. (i.3.each k (omega (arith, all))).new;
      old = λ k l. (i.3.each k (omega (arith, all))).old;
    }

pub returns-clause-marked : goal.returns-clause-marked
returns-clause-marked c =
    let i = c.loop-k.invariant in
    rw (← told-all i.2 i.0 c.in-None.ensures.steps) i.3.marked
