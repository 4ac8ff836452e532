use Rattle.std.proofs.Common.{ℕ, ◌+◌, ◌≡◌, true, arith, ap, ◌∙◌, get_or}
use mathlib.Core.Path.{subst, subst₂}
use Rattle.std.specs.Prelude.{Option}
use Rattle.palindromes.specs.Word.{Word}
use Rattle.palindromes.specs.End.{at_right}
use Rattle.store.specs.Layout.{letters_in}
use Rattle.store.specs.Good.{rule_of}
use Rattle.store.specs.declared.letters.Side.TheVariants.{Right}
use Rattle.walk.specs.Frame.{Frames, standing_in, seen_in, partner_in}
use Rattle.walk.specs.Walk.{Meets}
use Rattle.walk.specs.declared.frame.Frame.{Frame}
use Rattle.walk.proofs.Stores.{framed-right, framed-standing, framed-rule, framed-within}
use Rattle.ends.specs.declared.Reach.{Reach}
use Rattle.audit_tour.specs.Tour.{Arrived}
use Rattle.audit_tour.proofs.Letter.{met-chain, tour-grows, tour-none}
use Rattle.audit_tour.proofs.advance.Goals as goal

module _ {b : Word} {f : Frame} (h : Frames b f) (k : ℕ) where
  -- the letter that is read is letter k of the store
  letter : {d : ℕ} → d ≡ get_or (standing_in b f Right) k 0 → d ≡ get_or (letters_in b) k 0
  letter e = e ∙ ap (λ (t : Word). get_or t k 0) (framed-standing h)

  -- and what the walk does, it does over the store's letters
  met : {d r n : ℕ} {o : Option ℕ} → Meets b (seen_in b f Right) k d (partner_in f d) r n o → Meets b (letters_in b) k d (rule_of b d) r n o
  met {d} {r} {n} {o} m = subst₂ (λ (t : Word) (want : ℕ). Meets b t k d want r n o) (framed-right h) (framed-rule h d) m

pub standing-d-requires : goal.standing-d-requires
standing-d-requires c =
    let w = framed-within c.requires.frames.0 c.requires.reading.ready.sized (c.args.k + 1) (omega (arith, c.requires.reading.more)) in
    (w.letters, omega (arith, w.read))

pub walk-search-requires-clause-within : goal.walk-search-requires-clause-within
walk-search-requires-clause-within c =
    let r = c.requires.reading in framed-within c.requires.frames.0 r.ready.sized c.args.k (omega (arith, r.more))

pub walk-search-requires-clause-chain : goal.walk-search-requires-clause-chain
walk-search-requires-clause-chain c = let r = c.requires.reading in met-chain r c.args.tour.row (r.toured.ends at_right).row-used

pub enter-requires-clause-grows : goal.enter-requires-clause-grows
enter-requires-clause-grows c =
    let h = c.requires.frames.0 in
    let e = letter h c.args.k c.standing-d.ensures in
    tour-grows c.requires.reading e (met h c.args.k c.walk-search.ensures) c.in-Some.u c.in-Some.is

pub returns-in-None : goal.returns-in-None
returns-in-None c =
    let h = c.requires.frames.0 in
    let e = letter h c.args.k c.standing-d.ensures in
    let m = met h c.args.k c.walk-search.ensures in
    let t = c.args.tour in
    tour-none c.requires.reading e m c.in-None.is (subst (λ (x : Reach). Arrived t 1 true x t.met c.arrive.result) c.reach_at-left.ensures c.arrive.ensures)
