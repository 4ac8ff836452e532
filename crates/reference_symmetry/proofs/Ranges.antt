-- The numbers of `a..=b` as a list, for a chain that starts there. Assumes nothing.
use Prim.Native.Nat.{ℕ, suc, ◌+◌, ◌-◌}
use native.Mathlib.Omega.{arith}
use mathlib.Core.Path.{◌≡◌, refl, sym, ap, subst, ◌∙◌}
use mathlib.Core.Bool.{Bool, true, false}
use mathlib.Core.List.{◌∷◌}
use lib.ListN.{length}
use Rattle.std.specs.declared.ops.RangeInclusive.{RangeInclusive}
use Rattle.std.specs.Range.{range_inclusive_start, range_inclusive_end, range_inclusive_exhausted, range_inclusive_len}
use Rattle.std.specs.List.{range_with_len}
use Rattle.std.proofs.iter.runs.Sources.{nat_range_inclusive_steps}
use Rattle.std.proofs.lemmas.Iterator.{YieldsList}
use Rattle.std.proofs.lemmas.Iterator.Consumers.{YieldsList-from_shown}

-- how many numbers are left
abbrev left : RangeInclusive ℕ → ℕ
left s = range_inclusive_len (λ x y. y - x) (range_inclusive_start s) (range_inclusive_end s) (range_inclusive_exhausted s)

-- the range is spent once its last number has come, and else it starts one number on
next : (a b n m : ℕ) (spent : Bool) → m + 1 ≡ n → (spent ≡ true → m ≡ 0) → (spent ≡ false → b ≡ a + 1) → range_with_len a n ≡ a ∷ range_with_len b m
next a b n m true e none some =
    let z : m ≡ 0 = none refl in
    let o : n ≡ 1 = omega arith in
    ap (range_with_len a) o ∙ sym (ap (λ (k : ℕ). a ∷ range_with_len b k) z)
next a b n m false e none some =
    let o : n ≡ suc m = omega arith in
    ap (range_with_len a) o ∙ sym (ap (λ (c : ℕ). a ∷ range_with_len c m) (some refl))

spent : (s : RangeInclusive ℕ) → range_inclusive_exhausted s ≡ true → left s ≡ 0
spent s e = ap (range_inclusive_len (λ x y. y - x) (range_inclusive_start s) (range_inclusive_end s)) e

fresh : (s : RangeInclusive ℕ) → range_inclusive_exhausted s ≡ false → left s ≡ range_inclusive_end s + 1 - range_inclusive_start s
fresh s e = omega (arith, ap (range_inclusive_len (λ x y. y - x) (range_inclusive_start s) (range_inclusive_end s)) e)

numbers : (s : RangeInclusive ℕ) → YieldsList nat_range_inclusive_steps (λ x. x) s (range_with_len (range_inclusive_start s) (left s))
numbers =
    YieldsList-from_shown nat_range_inclusive_steps (λ x. x) (λ s. range_with_len (range_inclusive_start s) (left s))
    (λ s t h. ap (λ (n : ℕ). length (range_with_len (range_inclusive_start s) n)) h.1.0)
    (λ s x t h. next (range_inclusive_start s) (range_inclusive_start t) (left s) (left t) (range_inclusive_exhausted t) h.1.1 (spent t) h.1.2
    ∙ ap (λ (y : ℕ). y ∷ range_with_len (range_inclusive_start t) (left t)) (sym h.1.0))

pub YieldsList-from_inclusive : {s : RangeInclusive ℕ} (a b n : ℕ) → range_inclusive_start s ≡ a → range_inclusive_end s ≡ b
    → range_inclusive_exhausted s ≡ false → b + 1 - a ≡ n → YieldsList nat_range_inclusive_steps (λ x. x) s (range_with_len a n)
YieldsList-from_inclusive {s} a b n p q r e =
    let f : left s ≡ n = omega (arith, fresh s r) in
    let g : range_with_len (range_inclusive_start s) (left s) ≡ range_with_len a n = cc in
    subst (YieldsList nat_range_inclusive_steps (λ x. x) s) g (numbers s)
