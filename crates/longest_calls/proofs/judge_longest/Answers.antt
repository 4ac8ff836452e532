-- The verdict on asking the longest, and what the test tells of the ends. Assumes nothing.
use Rattle.std.proofs.Common.{◌≡◌, ◌∙◌, sym, subst}
use Rattle.std.specs.Prelude.{Option, Some}
use Rattle.palindromes.specs.Word.{Word}
use Rattle.audit.specs.Examined.{Examined}
use Rattle.audit_tour.specs.declared.Tour.{Tour}
use Rattle.longest_calls.proofs.Asking.{no_record, some-record}
use Rattle.longest_calls.proofs.judge_longest.Goals as goal

-- the store is good, and its ends are known
found : (b : Word) {o : Option Tour} {t : Tour} → o ≡ Some t → Examined b o → Examined b (Some t)
found b e x = subst (Examined b) e x

pub returns-then-length-eq0 : goal.returns-then-length-eq0
returns-then-length-eq0 c =
    no_record _ (found c.args.store.now c.in_ok-tour.ensures.ok_part c.examine.ensures).0 (sym c.length.ensures ∙ c.if-length-eq0.true)

pub returns : goal.returns
returns c =
    let f = found c.args.store.now c.in_ok-tour.ensures.ok_part c.examine.ensures in
    (some-record _ f.0 (λ e. c.if-length-eq0.false (c.length.ensures ∙ e)), f.1)
