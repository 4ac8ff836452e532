use Rattle.std.proofs.Common.{ℕ, ◌<◌, ◌≡◌, Bool, arith, refl, sym, ap, ◌∙◌}
use Rattle.std.specs.Prelude.{Some, None}
use Rattle.palindromes.specs.Word.{Word}
use Rattle.store.specs.Layout.{cell}
use Rattle.store.specs.Side.{end_of}
use Rattle.store.specs.declared.letters.Side.{Side}
use Rattle.walk.specs.Frame.{standing_in, seen_in, partner_in, Within}
use Rattle.walk.specs.Walk.{faces_at, facing, Chain, letter, nothing}
use Rattle.walk.specs.declared.frame.Frame.{Frame}
use Rattle.walk.proofs.Chains.{chain_fits, chain_next}
use Rattle.walk.proofs.Facing.{facing-read}
use Rattle.walk.proofs.Turns.{turn-start, turn-here, few-more, turn_on}
use Rattle.walk.proofs.walk.Goals as goal

-- the test says whether the partner of d is read before the row's palindrome, and so does the comparison with the letter that stands there
compared : {b : Word} {row n : ℕ} {x : Bool} (f : Frame) (side : Side) (k d want : ℕ)
    → Within b f k → Chain b row → (row ≡ 0 → ⊥) → n ≡ facing (end_of side) d want → want ≡ partner_in f d
    → (x ≡ faces_at b (standing_in b f side) k n row) × (cell b row 0 < 65536)
    → (x ≡ faces_at b (seen_in b f side) k (partner_in f d) row) × (cell b row 0 < 65536)
compared {b} {row} f side k d want w h nonzero e p t =
    let stored : 0 < cell b row 0 = omega (arith, (chain_next h nonzero).0) in
    (t.0 ∙ ap (λ (y : ℕ). faces_at b (standing_in b f side) k y row) (e ∙ ap (facing (end_of side) d) p) ∙ facing-read b f side k d row w stored, t.1)

pub loop-row-init : goal.loop-row-init
loop-row-init c = turn-start c.requires.chain

pub faces-requires : goal.faces-requires
faces-requires c =
    let h = c.loop-row.invariant.chain in
    record { within = c.requires.within; row_in_bounds = (chain_fits h, omega (arith, (chain_next h c.loop-row-test.true).0)) }

pub returns-then-faces : goal.returns-then-faces
returns-then-faces c =
    let a = c.args in
    let l = c.loop-row.invariant in
    let t = compared a.f a.side a.k a.d a.want c.requires.within l.chain c.loop-row-test.true c.pick-facing.ensures c.requires.want_value c.faces.ensures in
    turn-here l c.loop-row-test.true c.faces.result t c.if-faces.true

pub link_of-row-requires : goal.link_of-row-requires
link_of-row-requires c = chain_fits c.loop-row.invariant.chain

pub overflow_add-passed : goal.overflow_add-passed
overflow_add-passed c =
    let a = c.args in
    let l = c.loop-row.invariant in
    let t = compared a.f a.side a.k a.d a.want c.requires.within l.chain c.loop-row-test.true c.pick-facing.ensures c.requires.want_value c.faces.ensures in
    omega (arith, few-more l c.loop-row-test.true c.faces.result t)

pub loop-row-smaller : goal.loop-row-smaller
loop-row-smaller c = rw c.link_of-row.ensures.0 (chain_next c.loop-row.invariant.chain c.loop-row-test.true).0

pub loop-row-preserved : goal.loop-row-preserved
loop-row-preserved c =
    let a = c.args in
    let l = c.loop-row.invariant in
    let t = compared a.f a.side a.k a.d a.want c.requires.within l.chain c.loop-row-test.true c.pick-facing.ensures c.requires.want_value c.faces.ensures in
    turn_on l c.loop-row-test.true c.faces.result t c.if-faces.false c.link_of-row.result c.link_of-row.ensures.0

-- past the last row: the imaginary string serves a letter that is its own partner, and no other
pub returns-then-want-d : goal.returns-then-want-d
returns-then-want-d c =
    let l = c.loop-row in
    l.invariant.back 0 l.passed (Some 0) (omega arith) (letter c.loop-row-test.false (sym c.requires.want_value ∙ c.if-want-d.true) refl refl)

pub returns-else-want-d : goal.returns-else-want-d
returns-else-want-d c =
    let l = c.loop-row in
    l.invariant.back 0 l.passed None (omega arith) (nothing c.loop-row-test.false (λ e. c.if-want-d.false (c.requires.want_value ∙ e)) refl refl)
