-- Whether the longest palindrome that ends the letters is all of them is told by its length; it goes by its link then. Assumes nothing.
use Rattle.std.proofs.Common.{sym, ap, ◌∙◌}
use mir.Syntax.{w32}
use mir.Val.{of_z}
use Rattle.store.specs.Layout.{length_in}
use Rattle.store.proofs.Signed.{kept}
use Rattle.audit_left.proofs.Left.{size_is, left-whole, left-kept}
use Rattle.audit_left.proofs.left_new.Goals as goal

pub returns-then-size-all : goal.returns-then-size-all
returns-then-size-all c = λ used p d s new l.
    let size = c.length_of-size.ensures.0 in
    let shorter = c.length_of.ensures in
    let link = c.link_of-link.ensures.0 in
    left-whole s l
    (sym (ap (of_z w32) (size ∙ size_is s)) ∙ c.if-size-all.true)
    (λ n h. rw (← link) (c.begins-short.ensures n (kept shorter.1 ∙ shorter.0 ∙ ap (length_in c.args.b.now) link ∙ h)))

pub returns : goal.returns
returns c = λ used p d s new l.
    let size = c.length_of-size.ensures in
    left-kept s l
    (λ e. c.if-size-all.false (ap (of_z w32) (size.0 ∙ size_is s) ∙ e))
    new
    (λ n h. c.begins.ensures n (kept size.1 ∙ size.0 ∙ h))
