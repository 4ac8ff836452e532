-- `walk::replay::next` steps over the next letter of a good store. Assumes nothing.
use Prim.Native.Nat.{ℕ, ◌+◌, ◌<◌}
use native.Mathlib.Omega.{arith}
use mathlib.Core.Path.{◌≡◌, ap, ◌∙◌, subst₂}
use mathlib.Core.Bool.{true}
use lib.ListN.{get_or}
use borrow.Author.Rules.{rules}
use Rattle.palindromes.specs.Word.{Word, is_letter}
use Rattle.store.specs.Layout.{size_in}
use Rattle.store.specs.Good.{Good}
use Rattle.store.specs.declared.letters.Side.TheVariants.{Right}
use Rattle.walk.specs.Frame.{Frames, standing_in, seen_in, partner_in}
use Rattle.walk.specs.Walk.{Stepped}
use Rattle.walk.specs.Replay.{Holds}
use Rattle.walk.specs.declared.frame.Frame.{Frame}
use Rattle.walk.proofs.Stores.{framed-right, framed-standing, framed-rule, framed-within}
use Rattle.walk.proofs.Reading.{good-chain, read-letter, good-step}
use Rattle.walk.proofs.replay.next.Statement.{statement}
use Rattle.walk.proofs.replay.next.Tie as tie

-- the step over the letters that the frame shows
stepped : {b : Word} {f : Frame} → Good b → Frames b f → (k row d q : ℕ) → k < size_in b → Holds b k row → d ≡ get_or (standing_in b f Right) k 0
    → Stepped b (seen_in b f Right) k d (partner_in f d) row q → Holds b (k + 1) q
stepped {b} g h k row d q l a e s =
    good-step g l (e ∙ ap (λ (t : Word). get_or t k 0) (framed-standing h)) a q
    (subst₂ (λ (t : Word) (want : ℕ). Stepped b t k d want row q) (framed-right h) (framed-rule h d) s)

standing-requires : tie.Need-standing-d-requires
standing-requires c κs =
    let s = c.before in
    let w = framed-within s.requires.1.0 s.requires.0.sized (s.args.k + 1) (omega arith) in
    (w.letters, omega (arith, w.read))

-- the letter that stands there, and the one that must face it
letter : (c : tie.After-of_letter) → is_letter c.before.standing-d.result ≡ true
letter c =
    let s = c.before.before.before in
    read-letter s.requires.0 s.args.k s.requires.1.1.1.0 (c.before.standing-d.ensures ∙ ap (λ (t : Word). get_or t s.args.k 0) (framed-standing s.requires.1.0))

wanted : (c : tie.After-of_letter) → c.of_letter.result ≡ partner_in c.before.before.before.args.f c.before.standing-d.result
wanted c = c.of_letter.ensures ∙ c.before.before.before.requires.1.1.0 c.before.standing-d.result (letter c)

step-requires : tie.Need-step-requires
step-requires c κs =
    let s = c.before.before.before in
    (framed-within s.requires.1.0 s.requires.0.sized s.args.k (omega arith), (good-chain s.requires.0 s.args.row s.requires.1.1.1.1.used, wanted c))

returns : tie.Need-returns
returns c =
    let s = c.before.before.before.before in
    let a = s.args in
    let d = c.before.before.standing-d in
    stepped s.requires.0 s.requires.1.0 a.k a.row d.result c.step.result s.requires.1.1.1.0 s.requires.1.1.1.1 d.ensures c.step.ensures

pub next_spec : {M : Type 1} → statement M
next_spec = tie.close (tie.spec standing-requires (λ c κs. search rules) step-requires returns)
