-- Each of the tests is one part of what is asked. Assumes nothing.
use Rattle.std.proofs.Common.{ℕ, ◌≡◌, ◌+◌, ◌<◌, ◌∙◌, Bool, true, false, eqb, arith, sym, subst, ⊎_elim}
use borrow.Author.Tests.{eqb-true, eqb-false, ltb-true, ltb-false}
use Rattle.palindromes.specs.Word.{Word}
use Rattle.palindromes.proofs.Tests.{decided}
use Rattle.store.specs.Layout.{cell, rank_in, count_in, link_in}
use Rattle.walk.proofs.Chains.{chain_fits}
use Rattle.walk.proofs.Stores.{header-fits}
use Rattle.transitions.proofs.Rows.{row_fits}
use Rattle.audit_edge.specs.Edge.{LinkFound, NewRow, right, not-longer, not-used, not-linked}
use Rattle.audit_edge.proofs.new_row_right.Goals as goal
use Rattle.audit_edge.proofs.new_row_right.Goals.{then-longer_by_two, else-longer_by_two}

-- the last test: the links are compared
linked : {b : Word} {k d u q x link : ℕ} → cell b q 0 ≡ cell b u 0 + 2 → rank_in b q < count_in b → LinkFound b k d u x → link ≡ link_in b q → NewRow b k d u q (eqb link x)
linked {b} {k} {d} {u} {q} {x} {link} m r f l = ⊎_elim same other (decided (eqb link x))
  where
    same : eqb link x ≡ true → NewRow b k d u q (eqb link x)
    same t = rw t (right m r (subst (LinkFound b k d u) (sym (eqb-true link x t) ∙ l) f))

    other : eqb link x ≡ false → NewRow b k d u q (eqb link x)
    other t = rw t (not-linked x f (λ e. eqb-false link x t (l ∙ e)))

pub longer_by_two-requires : goal.longer_by_two-requires
longer_by_two-requires c = (chain_fits c.requires.walkable.chain, row_fits c.requires.walkable.sized c.args.q c.requires.q_bound)

pub rank_of-requires : goal.rank_of-requires
rank_of-requires c = row_fits c.requires.walkable.sized c.args.q c.requires.q_bound

pub count-requires : goal.count-requires
count-requires c = header-fits c.requires.walkable.sized

pub link_of-requires : goal.link_of-requires
link_of-requires c = omega (arith, chain_fits c.requires.walkable.chain, row_fits c.requires.walkable.sized c.args.q c.requires.q_bound)

pub returns-then-rank_of-count : goal.returns-then-rank_of-count
returns-then-rank_of-count c =
    elim c.if-longer_by_two.branch [
      | then-longer_by_two w ↦
          let passed = ltb-true w.rank_of.result w.count.result (sym w.value-is ∙ c.if-rank_of-count.true) in
          linked w.if-longer_by_two.ensures (omega (arith, passed)) c.link_found.ensures c.link_of.ensures.0
      | else-longer_by_two w ↦ absurd (let e : ◌≡◌ {A = Bool} true false = cc in cc)
    ]

pub returns-else-rank_of-count : goal.returns-else-rank_of-count
returns-else-rank_of-count c =
    elim c.if-longer_by_two.branch [
      | then-longer_by_two w ↦
          let stopped = ltb-false w.rank_of.result w.count.result (sym w.value-is ∙ c.if-rank_of-count.false) in
          rw c.if-rank_of-count.false (not-used (omega (arith, stopped)))
      | else-longer_by_two w ↦ rw c.if-rank_of-count.false (not-longer w.if-longer_by_two.ensures)
    ]
