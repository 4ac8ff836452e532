-- What the test tells of the ends is what the removal is told. Assumes nothing.
use Rattle.std.proofs.Common.{◌≡◌, ◌∙◌, arith, sym, subst}
use Rattle.std.specs.Prelude.{Option, Some}
use Rattle.palindromes.specs.Word.{Word}
use Rattle.store.specs.Side.{end_of}
use Rattle.walk.proofs.Stores.{header-fits}
use Rattle.audit.specs.Examined.{Examined}
use Rattle.audit_tour.specs.declared.Tour.{Tour}
use Rattle.removal_call.proofs.Removing.{no-letter}
use Rattle.removal_call.proofs.judge_remove.Goals as goal

-- the store is good, and its ends are known
found : (b : Word) {o : Option Tour} {t : Tour} → o ≡ Some t → Examined b o → Examined b (Some t)
found b e x = subst (Examined b) e x

pub size-requires : goal.size-requires
size-requires c = header-fits (found c.args.store.now c.in_ok-tour.ensures.ok_part c.examine.ensures).0.sized

pub returns-then-size-eq0 : goal.returns-then-size-eq0
returns-then-size-eq0 c =
    no-letter _ _ (found c.args.store.now c.in_ok-tour.ensures.ok_part c.examine.ensures).0 (sym c.size.ensures.0 ∙ c.if-size-eq0.true)

pub returns : goal.returns
returns c =
    let f = found c.args.store.now c.in_ok-tour.ensures.ok_part c.examine.ensures in
    (f.0, omega (arith, c.if-size-eq0.false), rw c.reach_at.ensures (f.1 (end_of c.args.side)))
