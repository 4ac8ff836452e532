use Rattle.std.proofs.Common.{ℕ, ◌≡◌, arith}
use mathlib.Core.Path.{subst₂}
use Rattle.palindromes.specs.Word.{Word}
use Rattle.store.specs.Layout.{link_in}
use Rattle.store.specs.declared.letters.Side.TheVariants.{Right}
use Rattle.walk.specs.Frame.{Frames, seen_in, partner_in}
use Rattle.walk.specs.Walk.{Stepped}
use Rattle.walk.specs.declared.frame.Frame.{Frame}
use Rattle.walk.proofs.Stores.{framed-right, framed-rule, framed-within}
use Rattle.audit_edge.specs.Edge.{LinkFound, within}
use Rattle.audit_edge.proofs.link_found.Goals as goal

-- the step over the letters that the frame shows
stepped : {b : Word} {f : Frame} → Frames b f → (k d u link x : ℕ) → (u ≡ 0 → ⊥) → link ≡ link_in b u
    → Stepped b (seen_in b f Right) k d (partner_in f d) link x → LinkFound b k d u x
stepped {b} h k d u link x n e s =
    within n (rw (← e) (subst₂ (λ (t : Word) (want : ℕ). Stepped b t k d want link x) (framed-right h) (framed-rule h d) s))

pub step-requires-clause-within : goal.step-requires-clause-within
step-requires-clause-within c =
    let p = c.requires.walkable in framed-within p.framed p.sized c.args.k (omega (arith, p.more))

pub returns : goal.returns
returns c =
    let a = c.args in
    let link = c.link_of in
    stepped c.requires.walkable.framed a.k a.d a.u link.result c.step.result c.if-u-eq-IMAGINARY.false link.ensures.0 c.step.ensures
