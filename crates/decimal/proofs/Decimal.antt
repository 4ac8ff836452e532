-- `decimal` writes its number: read from the left in base ten its bytes say that number, every byte is a digit, there is at least one, and the first is
-- a zero only for the number 0, which is the single digit 0. So two numbers with the same digits are equal. The bound in `digits_before` matters only
-- while it is too small, and below 65,536 there are at most five digits.
-- Rests on the arithmetic of `◌/◌` and `◌%◌` by ten; each law goes digit by digit, `by_digits`. Assumes nothing.
use Prim.Native.Nat.{ℕ, zero, suc, ◌+◌, ◌-◌, ◌*◌, ◌/◌, ◌%◌, ◌^◌, ◌≤◌, ◌<◌}
use native.Mathlib.Omega.{arith}
use mathlib.Core.Path.{◌≡◌, refl, sym, ap, ◌∙◌}
use mathlib.Core.Bool.{Bool, true, false}
use mathlib.Core.Logic.{⊎_elim}
use mathlib.Core.List.Memᴰ
use mathlib.Core.List.{[], ◌∷◌, ◌++◌, append_assoc, head-eq_of_cons-eq, tail-eq_of_cons-eq, Memᴰ}
use lib.Dec.{ltb}
use lib.ListN.{length, length-append}
use borrow.Author.Tests.{ltb-true, ltb-false, lt-ltb, le-ltb}
use Rattle.palindromes.specs.Word.{Word}
use Rattle.palindromes.specs.Bed.{digits_before, decimal}
use Rattle.palindromes.specs.Digits.{value_from, value}

-- ---- the digits of a number, last first

-- the only digit that is left
one_left : (k n : ℕ) (t : Word) → n < 10 → digits_before (suc k) n t ≡ (48 + n) ∷ t
unfolding digits_before
one_left k n t h = rw (lt-ltb n 10 h, digits_before)

-- and the last of several
more_left : (k n : ℕ) (t : Word) → 10 ≤ n → digits_before (suc k) n t ≡ digits_before k (n / 10) ((48 + n % 10) ∷ t)
unfolding digits_before
more_left k n t h = rw (le-ltb n 10 h, digits_before)

-- a number is below ten or not
small-or-not : {P : Type 0} (n : ℕ) → (n < 10 → P) → (10 ≤ n → P) → P
small-or-not {P} n small large = go (ltb n 10) refl
  where
    go : (b : Bool) → ltb n 10 ≡ b → P
    go true e = small (ltb-true n 10 e)
    go false e = large (ltb-false n 10 e)

-- what stands behind the digits stays there
digits-in-front : (k n : ℕ) (t : Word) → digits_before k n t ≡ digits_before k n [] ++ t
digits-in-front zero n t = unfold digits_before in refl
digits-in-front (suc k) n t =
    let d : ℕ = 48 + n % 10 in
    small-or-not n (λ h. cc (one_left k n t h, one_left k n [] h))
    (λ h. cc (
      more_left k n t h,
      more_left k n [] h,
      digits-in-front k (n / 10) (d ∷ t),
      digits-in-front k (n / 10) (d ∷ []),
      append_assoc
          (digits_before k (n / 10) []) (d ∷ []) t,
    ))

-- any two bounds above the number give the same digits
same_digits : (k j n : ℕ) (t : Word) → n < k → n < j → digits_before k n t ≡ digits_before j n t
same_digits zero j n t h g = absurd (omega arith)
same_digits (suc k) zero n t h g = absurd (omega arith)
same_digits (suc k) (suc j) n t h g =
    small-or-not n (λ e. one_left k n t e ∙ sym (one_left j n t e))
    (λ e. more_left k n t e ∙ same_digits k j (n / 10) ((48 + n % 10) ∷ t) (omega arith) (omega arith) ∙ sym (more_left j n t e))

-- ---- `decimal`, digit by digit

-- a bound that is large enough: whatever it is, the digits of the number stand in front of the tail
pub enough : (k n : ℕ) (t : Word) → n < k → digits_before k n t ≡ decimal n ++ t
unfolding decimal
enough k n t h = same_digits k (suc n) n t h (omega arith) ∙ digits-in-front (suc n) n t

-- a number below ten is one digit
pub decimal-one : (n : ℕ) → n < 10 → decimal n ≡ (48 + n) ∷ []
unfolding decimal
decimal-one n h = one_left n n [] h

-- the last digit of a larger one stands behind the digits of the tenth part
pub decimal-more : (n : ℕ) → 10 ≤ n → decimal n ≡ decimal (n / 10) ++ ((48 + n % 10) ∷ [])
unfolding decimal
decimal-more n h = more_left n n [] h ∙ enough n (n / 10) ((48 + n % 10) ∷ []) (omega arith)

-- what holds below ten, and of a number whenever it holds of the tenth part, holds of every number
pub by_digits : (P : ℕ → Type 0) → ((n : ℕ) → n < 10 → P n) → ((n : ℕ) → 10 ≤ n → P (n / 10) → P n) → (n : ℕ) → P n
by_digits P one more n = below (suc n) n (omega arith)
  where
    below : (k n : ℕ) → n < k → P n
    below zero n h = absurd (omega arith)
    below (suc k) n h = small-or-not n (one n) (λ e. more n e (below k (n / 10) (omega arith)))

-- ---- what the digits are

-- how many there are: one below ten, and one more than the tenth part has
pub length-one : (n : ℕ) → n < 10 → length (decimal n) ≡ 1
length-one n h = ap length (decimal-one n h)

pub length_more : (n : ℕ) → 10 ≤ n → length (decimal n) ≡ length (decimal (n / 10)) + 1
length_more n h = ap length (decimal-more n h) ∙ length-append (decimal (n / 10)) ((48 + n % 10) ∷ [])

-- there is at least one digit
pub some-digit : (n : ℕ) → 1 ≤ length (decimal n)
some-digit n = small-or-not n (λ h. omega (arith, length-one n h)) (λ h. omega (arith, length_more n h))

-- and below a power of ten at most as many as the exponent
pub digits-below : (k n : ℕ) → n < 10 ^ suc k → length (decimal n) ≤ suc k
digits-below zero n h = omega (arith, length-one n h)
digits-below (suc k) n h =
    small-or-not n (λ e. omega (arith, length-one n e)) (λ e. omega (arith, length_more n e, digits-below k (n / 10) (omega arith)))

-- five are enough for any place in a record
pub at-most-five : (n : ℕ) → n < 65536 → length (decimal n) ≤ 5
at-most-five n h = digits-below 4 n (omega arith)

-- every byte is a digit, 48 to 57
pub digit-bytes : (n b : ℕ) → Memᴰ b (decimal n) → (48 ≤ b) × (b ≤ 57)
digit-bytes n b = by_digits (λ n. Memᴰ b (decimal n) → (48 ≤ b) × (b ≤ 57))
    (λ n h m. let e : b ≡ 48 + n = Memᴰ.eq_of_singleton (rw (decimal-one n h) at m) in omega arith)
    (λ n h ih m. ⊎_elim ih (λ l. let e : b ≡ 48 + n % 10 = Memᴰ.eq_of_singleton l in omega arith)
    (Memᴰ.append_cases (decimal (n / 10)) (rw (decimal-more n h) at m))) n

-- ---- what the digits say

-- a digit at the right end
value-snoc : (n : ℕ) (w : Word) (b : ℕ) → value_from n (w ++ (b ∷ [])) ≡ value_from n w * 10 + (b - 48)
unfolding value_from
value-snoc n [] b = refl
value-snoc n (x ∷ w) b = value-snoc (n * 10 + (x - 48)) w b

-- read from the left in base ten they say the number
pub value-decimal : (n : ℕ) → value (decimal n) ≡ n
unfolding value value_from
value-decimal = by_digits (λ n. value (decimal n) ≡ n) (λ n h. rw (decimal-one n h) (omega arith))
    (λ n h ih. rw (decimal-more n h, value-snoc 0 (decimal (n / 10)) (48 + n % 10)) (omega arith))

-- so numbers with the same digits are equal
pub decimal_injective : (m n : ℕ) → decimal m ≡ decimal n → m ≡ n
decimal_injective m n e = cc (value-decimal m, value-decimal n)

-- ---- no leading zero

-- 0 is one digit
pub decimal-zero : decimal 0 ≡ 48 ∷ []
decimal-zero = decimal-one 0 (omega arith)

-- no other number begins with a zero
first-zero : (n : ℕ) (w : Word) → decimal n ≡ 48 ∷ w → n ≡ 0
first-zero =
    by_digits (λ n. (w : Word) → decimal n ≡ 48 ∷ w → n ≡ 0)
    (λ n h w e. omega (arith, head-eq_of_cons-eq (sym (decimal-one n h) ∙ e)))
    (λ n h ih w e. absurd (not_first n h ih w (decimal (n / 10)) refl (sym (decimal-more n h) ∙ e)))
  where
    not_first : (n : ℕ) → 10 ≤ n → ((w : Word) → decimal (n / 10) ≡ 48 ∷ w → n / 10 ≡ 0) → (w u : Word) → decimal (n / 10) ≡ u
        → u ++ ((48 + n % 10) ∷ []) ≡ 48 ∷ w → ⊥
    not_first n h ih w [] p e = omega (arith, some-digit (n / 10), ap length p)
    not_first n h ih w (x ∷ v) p e = omega (arith, ih v (cc (head-eq_of_cons-eq e)))

-- a zero comes first only where it is the whole number
pub no-leading-zero : (n : ℕ) (w : Word) → decimal n ≡ 48 ∷ w → (n ≡ 0) × (w ≡ [])
no-leading-zero n w e =
    let zero_is : n ≡ 0 = first-zero n w e in
    (zero_is, tail-eq_of_cons-eq (sym e ∙ ap decimal zero_is ∙ decimal-zero))
