-- A number on a sheet is written in one way: digits without a needless zero are the decimal digits of what they say, `canonical`. Digit by digit from the
-- right; rests on `decimal-one` and `decimal-more`.
use Prim.Native.Nat.{ℕ, ◌+◌, ◌-◌, ◌*◌, ◌/◌, ◌%◌, ◌≤◌, ◌<◌}
use native.Mathlib.Omega.{arith}
use mathlib.Core.Path.{◌≡◌, refl, ap, ◌∙◌}
use mathlib.Core.Bool.{true, false, ◌&&◌}
use mathlib.Core.List.{[], ◌∷◌, ◌++◌}
use lib.Dec.{eqb, leb}
use lib.ListN.{length}
use borrow.Author.Tests.{eqb-false, leb-true}
use Rattle.palindromes.specs.Word.{Word}
use Rattle.palindromes.specs.Bed.{decimal}
use Rattle.palindromes.specs.Digits.{value_from, value}
use Rattle.palindromes.specs.Sheet.{all_digits, needless_zero}
use Rattle.palindromes.proofs.Tests.{both_true, both-are}
use Rattle.palindromes.proofs.Words.{snoc-induction}
use Rattle.decimal.proofs.Decimal.{decimal-one, decimal-more}

value-snoc : (n : ℕ) (w : Word) (b : ℕ) → value_from n (w ++ (b ∷ [])) ≡ value_from n w * 10 + (b - 48)
unfolding value_from
value-snoc n [] b = refl
value-snoc n (x ∷ w) b = value-snoc (n * 10 + (x - 48)) w b

-- reading on never makes less
value-most : (n : ℕ) (w : Word) → n ≤ value_from n w
unfolding value_from
value-most n [] = omega arith
value-most n (x ∷ w) = omega (arith, value-most (n * 10 + (x - 48)) w)

digit : (b : ℕ) → (leb 48 b && leb b 57) ≡ true → (48 ≤ b) × (b ≤ 57)
digit b h = let x = both_true (leb 48 b) (leb b 57) h in (leb-true 48 b x.0, leb-true b 57 x.1)

digits-snoc : (w : Word) (b : ℕ) → all_digits (w ++ (b ∷ [])) ≡ true → (all_digits w ≡ true) × ((48 ≤ b) × (b ≤ 57))
unfolding all_digits
digits-snoc [] b h = (refl, digit b (both_true (leb 48 b && leb b 57) true h).0)
digits-snoc (x ∷ w) b h =
    let y = both_true (leb 48 x && leb x 57) (all_digits (w ++ (b ∷ []))) h in
    let z = digits-snoc w b y.1 in
    (both-are (leb 48 x && leb x 57) (all_digits w) y.0 z.0, z.1)

-- a digit with one behind it, and the first of such a row
first-not-zero : (x : ℕ) (v : Word) (b : ℕ) → needless_zero ((x ∷ v) ++ (b ∷ [])) ≡ false → eqb x 48 ≡ false
unfolding needless_zero
first-not-zero x [] b h = h
first-not-zero x (y ∷ v) b h = h

none-needless : (x : ℕ) (v : Word) → eqb x 48 ≡ false → needless_zero (x ∷ v) ≡ false
unfolding needless_zero
none-needless x [] h = refl
none-needless x (y ∷ v) h = h

positive : (x : ℕ) (v : Word) → all_digits (x ∷ v) ≡ true → eqb x 48 ≡ false → 1 ≤ value (x ∷ v)
unfolding all_digits value value_from
positive x v h e =
    let d = digit x (both_true (leb 48 x && leb x 57) (all_digits v) h).0 in
    let n : x ≡ 48 → ⊥ = eqb-false x 48 e in
    omega (arith, value-most (0 * 10 + (x - 48)) v, d.0, n)

one_value : (b : ℕ) → value (b ∷ []) ≡ b - 48
unfolding value value_from
one_value b = omega arith

pub canonical : (w : Word) → all_digits w ≡ true → needless_zero w ≡ false → 0 < length w → decimal (value w) ≡ w
unfolding value
canonical = snoc-induction (λ w. all_digits w ≡ true → needless_zero w ≡ false → 0 < length w → decimal (value w) ≡ w)
    (λ d z l. absurd (omega arith)) step
  where
    step : (u : Word) (b : ℕ) → (all_digits u ≡ true → needless_zero u ≡ false → 0 < length u → decimal (value u) ≡ u)
        → all_digits (u ++ (b ∷ [])) ≡ true → needless_zero (u ++ (b ∷ [])) ≡ false → 0 < length (u ++ (b ∷ []))
        → decimal (value (u ++ (b ∷ []))) ≡ u ++ (b ∷ [])
    step [] b ih d z l =
        let g = digits-snoc [] b d in
        let e : 48 + (b - 48) ≡ b = omega (arith, g.1.0) in
        ap decimal (one_value b) ∙ decimal-one (b - 48) (omega (arith, g.1.1)) ∙ ap (λ (x : ℕ). x ∷ []) e
    step (x ∷ v) b ih d z l =
        let u : Word = x ∷ v in
        let g = digits-snoc u b d in
        let f = first-not-zero x v b z in
        let m = positive x v g.0 f in
        let n : value (u ++ (b ∷ [])) ≡ value u * 10 + (b - 48) = value-snoc 0 u b in
        let q : (value u * 10 + (b - 48)) / 10 ≡ value u = omega (arith, g.1.0, g.1.1) in
        let r : 48 + (value u * 10 + (b - 48)) % 10 ≡ b = omega (arith, g.1.0, g.1.1) in
        ap decimal n ∙ decimal-more (value u * 10 + (b - 48)) (omega (arith, m))
        ∙ ap (λ (k : ℕ). decimal k ++ ((48 + (value u * 10 + (b - 48)) % 10) ∷ [])) q
        ∙ ap (λ (k : ℕ). decimal (value u) ++ (k ∷ [])) r
        ∙ ap (λ (w : Word). w ++ (b ∷ [])) (ih g.0 (none-needless x v f) (omega arith))
