-- After any of the first letters the store can take the next, which joins those before it.
use Rattle.std.proofs.Common.{◌≡◌, ℕ, ◌<◌, length, take, get_or, refl, ap, ◌∙◌, arith}
use Rattle.store.specs.Side.{end_of}
use Rattle.walk.proofs.Stores.{header-fits}
use Rattle.transitions.specs.Addition.{after_addition}
use Rattle.transitions.specs.Turning.{after_additions}
use Rattle.filling.specs.Last.{bringing, brought}
use Rattle.filling.proofs.Filling.{first-ones, next-letter, next-room, next-partner, one_more, last-brings}
use Rattle.filling.proofs.fill.Goals as goal

pub reading-requires : goal.reading-requires
reading-requires c = header-fits c.requires.good.sized

pub loop-c-init : goal.loop-c-init
unfolding after_additions
loop-c-init c = record { joined = refl; brings = λ j e. absurd (omega arith) }

pub add-last-requires : goal.add-last-requires
add-last-requires c =
    let e = end_of c.args.side in
    let g = c.requires.good in
    let all = c.requires.letters_value.0 in
    let room = c.requires.letters_value.1 in
    let i = c.loop-c.c-index in
    let n : i < length c.args.letters.now = omega arith in
    let p = next-partner e _ _ g all room i (omega arith) n _ c.table-partners.result c.reading.ensures.0 c.table-partners.ensures in
    rw c.loop-c.invariant.joined (record {
      good = (first-ones e _ _ g all room i (omega arith)).good;
      c_value = (next-letter e _ _ g all room i (omega arith) n, c.partner_in.ensures ∙ p);
      b_bound = next-room e _ _ g all room i (omega arith) n;
    })

pub loop-c-preserved : goal.loop-c-preserved
loop-c-preserved c =
    let e = end_of c.args.side in
    let b = c.args.store.now in
    let w = c.args.letters.now in
    let i = c.loop-c.c-index in
    let joined = c.loop-c.invariant.joined in
    record {
      joined = c.add-last.ensures.store ∙ ap (after_addition e _) joined ∙ one_more e _ _ c.requires.good c.requires.letters_value.0 c.requires.letters_value.1 i (omega arith) (omega arith);
      brings = λ j f.
          let same : i ≡ j = omega arith in
          c.add-last.ensures.answer ∙ ap (bringing e (get_or w i 0)) joined ∙ ap (λ (n : ℕ). brought e (take n w) (get_or w n 0) b) same;
    }

pub returns-clause-last : goal.returns-clause-last
returns-clause-last c =
    let all : c.loop-c.c-index ≡ length c.args.letters.now = omega arith in
    last-brings (end_of c.args.side) c.args.store.now c.args.letters.now c.loop-c.last (λ j f. c.loop-c.invariant.brings j (all ∙ f))
