use Rattle.std.proofs.Common.{ℕ, ◌<◌, arith}
use mathlib.Core.Path.{subst}
use Rattle.palindromes.specs.Word.{Word}
use Rattle.walk.proofs.Stores.{rows_fit}
use Rattle.transitions.proofs.Rows.{row_fits}
use Rattle.audit_fixed.proofs.Decided.{holds, fails}
use Rattle.ends.specs.declared.Reach.{Reach}
use Rattle.audit_left.specs.Left.{LeftNew}
use Rattle.audit_edge.specs.Edge.{NewRow}
use Rattle.audit_tour.specs.Tour.{Reading}
use Rattle.audit_tour.specs.declared.Tour.{Tour}
use Rattle.audit_tour.proofs.Letter.{met-most, grown-walkable, new-countable, new-link, tour-old, tour-new, good-back, good_new}
use Rattle.audit_tour.proofs.enter.Goals as goal

module _ {b marks carried : Word} {k : ℕ} {t : Tour} (s : Reading b marks carried k t) where
  -- numbers of letters and of rows are small
  k-small : k < 1024
  k-small = omega (arith, s.more, s.ready.sized.letters-fit, s.ready.sized.at_most)

  met-small : t.met < 1024
  met-small = omega (arith, met-most s, k-small)

pub edge_of-q-requires : goal.edge_of-q-requires
edge_of-q-requires c =
    let p = c.requires in
    rows_fit p.reading.ready.sized c.args.u (p.reading.toured.used c.args.u p.grows.met)

pub returns-then-not-points_back : goal.returns-then-not-points_back
returns-then-not-points_back c g =
    fails _ c.points_back.result c.points_back.ensures c.if-not-points_back.true (good-back c.requires.reading c.requires.grows g c.edge_of-q.ensures.0)

pub returns-then-marks-q-eq1 : goal.returns-then-marks-q-eq1
returns-then-marks-q-eq1 c =
    let named = holds _ c.points_back.result c.points_back.ensures c.if-not-points_back.false in
    tour-old c.requires.reading c.requires.grows named c.if-marks-q-eq1.true (rw c.reach_at.ensures at c.left_known-known.ensures) c.arrive.ensures

pub new_row_right-requires-clause-walkable : goal.new_row_right-requires-clause-walkable
new_row_right-requires-clause-walkable c = let p = c.requires in grown-walkable p.reading p.grows p.frames.0

pub returns-then-not-new_row_right : goal.returns-then-not-new_row_right
returns-then-not-new_row_right c g =
    let a = c.args in
    let q = c.edge_of-q in
    good_new c.requires.reading c.requires.grows g q.ensures.0
    (subst (NewRow a.b.now a.k a.d a.u q.result) c.if-not-new_row_right.true c.new_row_right.ensures)

pub count_row-requires : goal.count_row-requires
count_row-requires c =
    let a = c.args in
    let q = c.edge_of-q.result in
    let named = holds _ c.points_back.result c.points_back.ensures c.if-not-points_back.false in
    let right = subst (NewRow a.b.now a.k a.d a.u q) c.if-not-new_row_right.false c.new_row_right.ensures in
    new-countable c.requires.reading c.requires.grows named right

pub left_new-new-requires : goal.left_new-new-requires
left_new-new-requires c =
    let a = c.args in
    let p = c.requires in
    let q = c.edge_of-q.result in
    let named = holds _ c.points_back.result c.points_back.ensures c.if-not-points_back.false in
    let right = subst (NewRow a.b.now a.k a.d a.u q) c.if-not-new_row_right.false c.new_row_right.ensures in
    (row_fits p.reading.ready.sized q named.high, new-link p.reading p.grows named right, omega (arith, k-small p.reading))

pub overflow_add-tour : goal.overflow_add-tour
overflow_add-tour c = omega (arith, met-small c.requires.reading)

pub returns : goal.returns
returns c =
    let a = c.args in
    let q = c.edge_of-q in
    let named = holds _ c.points_back.result c.points_back.ensures c.if-not-points_back.false in
    let right = subst (NewRow a.b.now a.k a.d a.u q.result) c.if-not-new_row_right.false c.new_row_right.ensures in
    tour-new c.requires.reading c.requires.grows named q.ensures.0 c.if-marks-q-eq1.false right
    (subst (λ (x : Reach). LeftNew a.b.now a.k q.result x c.left_new-new.result) c.reach_at-2.ensures c.left_new-new.ensures)
    c.arrive-2.ensures c.count_row.auto.carried c.count_row.ensures
