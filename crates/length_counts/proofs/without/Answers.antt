-- The palindrome of a row is taken out of what is carried.
use Rattle.std.proofs.Common.{◌-◌, ◌≡◌, sym, ap, ◌∙◌, arith}
use lib.IntN.{pos, pred_ℤ}
use Rattle.store.specs.Layout.{length_in}
use Rattle.store.proofs.Signed.{kept}
use Rattle.transitions.proofs.Rows.{used-fits}
use Rattle.length_counts.proofs.Carrying.{count_fits, lost-count, Counted, row-counted, row-length}
use Rattle.length_counts.proofs.without.Goals as goal
use Rattle.length_counts.proofs.without.Goals.{After-to_stored-k}

-- the row's length by the number that stores it
stored-as : (c : After-to_stored-k) → length_in c.args.b.now c.args.q ≡ pred_ℤ (pos c.to_stored-k.result)
stored-as c =
    let s = c.length_of.ensures.1 in
    sym c.length_of.ensures.0 ∙ s.is ∙ ap (λ m. pred_ℤ (pos m)) (sym (c.to_stored-k.ensures s.number (kept s ∙ s.is)))

-- some palindrome has it
counted : (c : After-to_stored-k) → Counted c.args.b.now (c.to_stored-k.result - 1)
counted c = let q = c.requires.q_value in row-counted c.requires.good q.0 c.to_stored-k.result (stored-as c) q.1

pub length_of-requires : goal.length_of-requires
length_of-requires c = used-fits c.requires.good c.args.q c.requires.q_value.0

pub overflow_sub-k : goal.overflow_sub-k
overflow_sub-k c = omega (arith, (counted (goal.at.overflow_sub-k c).After-to_stored-k).some)

pub count_of_length-requires : goal.count_of_length-requires
count_of_length-requires c = count_fits c.requires.good _ (counted (goal.at.count_of_length-requires c).After-to_stored-k).room

pub overflow_sub-result : goal.overflow_sub-result
overflow_sub-result c =
    let h = counted (goal.at.overflow_sub-result c).After-to_stored-k in
    omega (arith, h.counted, c.count_of_length.ensures.0, c.requires.good.length-counts (c.to_stored-k.result - 1) h.some h.room)

pub lowered-requires : goal.lowered-requires
lowered-requires c = record { good = c.requires.good; nonzero = (counted (goal.at.lowered-requires c).After-to_stored-k).counted }

pub returns : goal.returns
returns c e t h =
    let k = (goal.at.returns c).After-to_stored-k in
    let good = c.requires.good in
    let i = row-length good c.requires.q_value.0 c.to_stored-k.result (stored-as k) e h in
    record {
      length-is = i;
      count-is = omega (arith, lost-count good (counted k).room e t i, c.count_of_length.ensures.0);
      longest-is = c.lowered.ensures e t i;
    }
