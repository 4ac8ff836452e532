-- The length is stored as one more, and read back.
use Rattle.std.proofs.Common.{◌≡◌, suc, ◌-◌, sym, ap, ◌∙◌, subst, arith, nat_abs}
use Rattle.store.specs.Lengths.{Stored}
use Rattle.store.proofs.Signed.{kept}
use Rattle.length_counts.proofs.Carrying.{length-stored}
use Rattle.length_counts.proofs.gain.Goals as goal
use Rattle.length_counts.proofs.gain.Goals.{After-to_stored-k}

stored-as : (c : After-to_stored-k) → c.to_stored-k.result ≡ suc c.requires.letters
stored-as c = c.to_stored-k.ensures (suc c.requires.letters) (kept (length-stored c.requires) ∙ c.requires.is)

pub to_stored-k-requires : goal.to_stored-k-requires
to_stored-k-requires c =
    let s = length-stored c.requires in
    subst Stored (sym (kept s)) s

pub overflow_sub-k : goal.overflow_sub-k
overflow_sub-k c = omega (arith, stored-as (goal.at.overflow_sub-k c).After-to_stored-k)

pub count_of_length-count-requires : goal.count_of_length-count-requires
count_of_length-count-requires c = omega (arith, stored-as (goal.at.count_of_length-count-requires c).After-to_stored-k, c.requires.inside)

pub put-requires : goal.put-requires
put-requires c = omega (arith, stored-as (goal.at.put-requires c).After-to_stored-k, c.requires.inside)

pub returns : goal.returns
returns c k e =
    let i : c.to_stored-k.result - 1 ≡ k = omega (arith, stored-as (goal.at.returns c).After-to_stored-k, ap nat_abs (sym c.requires.is ∙ e)) in
    cc (c.put.ensures, i, c.max-longest.ensures, c.longest.ensures.0)
