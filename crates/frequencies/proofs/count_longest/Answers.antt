use Rattle.std.proofs.Common.{◌≡◌, ℕ, ◌+◌, ◌<◌, ◌++◌, length, get_or, take, inl, inr, ◌∙◌, arith, length-append}
use Rattle.std.proofs.Math.ListN.{get_or-append}
use Rattle.std.proofs.lemmas.List.{get_or-take, length-take, set-get_or}
use Rattle.palindromes.specs.Word.{Word}
use Rattle.store.specs.Layout.{size_in}
use Rattle.store.specs.Good.{Good}
use Rattle.transitions.proofs.Rows.{row_below}
use Rattle.walk.specs.Replay.{Holds}
use Rattle.walk.proofs.Stores.{header-fits}
use Rattle.end_rows.specs.EndRows.{EndRows, FirstRows}
use Rattle.frequencies.proofs.Counting.{Counting, counting-first, counting-next, first_rows, none-handed}
use Rattle.frequencies.proofs.count_longest.Goals as goal
use Rattle.frequencies.proofs.count_longest.Goals.{then-count-ne0, else-count-ne0}

-- the right ends of the record alone
front : {b ends : Word} {n : ℕ} → n ≡ size_in b → EndRows b ends → EndRows b (take n ends)
front {ends = ends} {n = n} e r =
    record { long = omega (arith, r.long, length-take n ends); each = λ k l. rw (get_or-take n ends k 0 (omega arith)) (r.each k l) }

-- what is behind them does not matter
behind : {b firsts : Word} (rest : Word) → FirstRows b firsts → FirstRows b (firsts ++ rest)
behind {b} {firsts} rest f =
    let same = λ (k : ℕ) (l : k < size_in b). get_or-append firsts rest 0 k (omega (arith, f.long)) in
    record { long = omega (arith, f.long, length-append firsts rest); new = λ k l t. rw (same k l) (f.new k l t); old = λ k l t. rw (same k l) (f.old k l t) }

-- the row at the right end that comes next
holds_next : {b rows ends counts : Word} {k row : ℕ} → EndRows b rows → Counting b rows k ends counts → k < size_in b → row ≡ get_or ends k 0
    → Holds b (k + 1) row
holds_next {k = k} r c l e = rw (e, c.rest k (omega arith)) (r.each k l)

-- it has a number
row_inside : {b rows ends counts : Word} {k row : ℕ} → Good b → EndRows b rows → Counting b rows k ends counts → k < size_in b → row ≡ get_or ends k 0
    → row < length counts
row_inside {row = row} g r c l e = omega (arith, row_below g row (holds_next r c l e).used, c.long)

pub size-n-requires : goal.size-n-requires
size-n-requires c = header-fits c.requires.good.sized

pub loop-end-init : goal.loop-end-init
loop-end-init c = counting-first c.requires.good _ _ c.requires.counts_value

pub bounds-counts-row : goal.bounds-counts-row
bounds-counts-row c =
    let s = c.requires in
    row_inside s.good (front c.size-n.ensures.0 s.end_rows) c.loop-end.invariant (omega (arith, length-take {A = ℕ})) c.from-row.ensures

pub bounds-counts-row-in-loop-end : goal.bounds-counts-row-in-loop-end
bounds-counts-row-in-loop-end c =
    let s = c.requires in
    row_inside s.good (front c.size-n.ensures.0 s.end_rows) c.loop-end.invariant (omega (arith, length-take {A = ℕ})) c.from-row.ensures

pub loop-end-preserved : goal.loop-end-preserved
loop-end-preserved c =
    let s = c.requires in
    let r = front c.size-n.ensures.0 s.end_rows in
    let i = c.loop-end.invariant in
    let l : c.loop-end.end-index < size_in c.args.b.now = omega (arith, length-take {A = ℕ}) in
    let same = i.rest c.loop-end.end-index (omega arith) in
    counting-next s.good l i (holds_next r i l c.from-row.ensures) (cc (same, c.from-row.ensures)) r.long c.if-count-ne0.end-items
    (
    elim c.if-count-ne0.branch [
      | then-count-ne0 w ↦ inl (w.if-count-ne0.true, w.end-items-is)
      | else-count-ne0 w ↦ inr (w.if-count-ne0.false, w.end-items-is ∙ set-get_or c.loop-end.end-items c.loop-end.end-index 0)
    ]
    )

pub returns-clause-first : goal.returns-clause-first
returns-clause-first c =
    let r = front c.size-n.ensures.0 c.requires.end_rows in
    behind _ (first_rows c.requires.good (omega (arith, r.long, length-take {A = ℕ})) c.loop-end.invariant r.long)

pub returns-clause-counted : goal.returns-clause-counted
returns-clause-counted c =
    let r = front c.size-n.ensures.0 c.requires.end_rows in
    none-handed c.requires.good (omega (arith, r.long, length-take {A = ℕ})) c.loop-end.invariant
