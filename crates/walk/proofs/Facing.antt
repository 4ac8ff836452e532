-- A letter is compared as it stands, and means the letter that is read: at the right the partner of d stands there, and at the left d itself, whose partner is then read.
-- Rests on the partner rule's undoing itself.
use Prim.Native.Nat.{ℕ, ◌-◌, ◌<◌}
use native.Mathlib.Omega.{arith}
use mathlib.Core.Path.{◌≡◌, refl, sym, ap, ◌∙◌}
use mathlib.Core.Bool.{Bool, true, false, ◌&&◌}
use lib.Dec.{leb, eqb}
use lib.ListN.{get_or}
use borrow.Author.Tests.{leb-true, eqb-true, eq-eqb}
use Rattle.palindromes.specs.Word.{Word}
use Rattle.palindromes.specs.Palindrome.{SelfInverse, plain}
use Rattle.palindromes.proofs.Readings.{rule-inverse}
use Rattle.palindromes.proofs.Lists.{same_test}
use Rattle.store.specs.Layout.{cell}
use Rattle.store.specs.Side.{end_of}
use Rattle.store.specs.Writes.{towards}
use Rattle.store.specs.declared.letters.Side.{Side}
use Rattle.store.specs.declared.letters.Side.TheVariants.{Left, Right}
use Rattle.store.proofs.Ends.{part-seen}
use Rattle.walk.specs.Frame.{standing_in, seen_in, partner_in, Within}
use Rattle.walk.specs.Walk.{faces_at, facing}
use Rattle.walk.specs.declared.frame.Frame.{Frame}

-- two bytes are equal exactly if their partners are
partners-equal : (σ : ℕ → ℕ) → SelfInverse σ → (x y : ℕ) → eqb x y ≡ eqb (σ x) (σ y)
partners-equal σ inv x y =
    same_test (eqb x y) (eqb (σ x) (σ y)) (λ e. eq-eqb (σ x) (σ y) (ap σ (eqb-true x y e)))
    (λ e. eq-eqb x y (sym (inv x) ∙ ap σ (eqb-true (σ x) (σ y) e) ∙ inv y))

-- the test of a row, for the letter that stands and for the one that is read
pub facing-read : (b : Word) (f : Frame) (side : Side) (k d row : ℕ) → Within b f k → 0 < cell b row 0
    → faces_at b (standing_in b f side) k (facing (end_of side) d (partner_in f d)) row ≡ faces_at b (seen_in b f side) k (partner_in f d) row
unfolding towards
facing-read b f Right k d row w l = refl
facing-read b f Left k d row w l = go (leb (cell b row 0) k) refl
  where
    i : ℕ
    i = k - cell b row 0

    go : (t : Bool) → leb (cell b row 0) k ≡ t → (t && eqb (get_or (standing_in b f Left) i 0) d) ≡ (t && eqb (get_or (seen_in b f Left) i 0) (partner_in f d))
    go false e = refl
    go true e =
        let near = leb-true (cell b row 0) k e in
        let inside : i < f.n = omega (arith, w.read) in
        ap (λ (x : ℕ). eqb x d) (part-seen b f.base f.n w.letters plain i inside)
        ∙ partners-equal (partner_in f) (rule-inverse f.reading) _ d
        ∙ ap (λ (x : ℕ). eqb x (partner_in f d)) (sym (part-seen b f.base f.n w.letters (partner_in f) i inside))
