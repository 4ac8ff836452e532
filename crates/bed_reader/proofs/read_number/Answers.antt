-- A field is a number where the test of its length, of a needless zero and of each byte lets it pass.
use Rattle.std.proofs.Common.{ℕ, ◌+◌, ◌*◌, ◌<◌, ◌≤◌, ◌≡◌, refl, sym, ap, ◌∙◌, length, get_or, drop, true, false, Some, None, add-one, arith}
use mathlib.Core.Bool.{◌&&◌, and-false}
use lib.Dec.{leb}
use borrow.Author.Tests.{le-leb, lt-leb, true-eqb, false-eqb}
use Rattle.palindromes.specs.Word.{Word}
use Rattle.palindromes.specs.Digits.{value}
use Rattle.palindromes.specs.Sheet.{all_digits, needless_zero, is_number}
use Rattle.bed_reader.specs.Reading.{number_of}
use Rattle.bed_reader.proofs.Fields.{digits_more, value-more, no-digits, no_value, most}
use Rattle.bed_reader.proofs.read_number.Goals as goal
use Rattle.bed_reader.proofs.read_number.Goals.{then-is_empty-via-then-is_empty, then-is_empty-via-else-is_empty+then-field-gt4}
use Rattle.bed_reader.proofs.read_number.Goals.{then-is_empty-via-else-is_empty+else-field-gt4+then-needless_zero}

module _ (w : Word) where
  none_of : is_number w ≡ false → None ≡ number_of w
  unfolding number_of
  none_of h = rw h

  too_short : length w < 1 → is_number w ≡ false
  unfolding is_number
  too_short h = simp (lt-leb 1 (length w) h)

  too_long : 4 < length w → is_number w ≡ false
  unfolding is_number
  too_long h = simp (lt-leb (length w) 4 h, and-false)

  zero-first : needless_zero w ≡ true → is_number w ≡ false
  unfolding is_number
  zero-first h = simp (h, and-false)

  no_digit : all_digits w ≡ false → is_number w ≡ false
  unfolding is_number
  no_digit h = simp (h, and-false)

  said_all : (n : ℕ) → 1 ≤ length w → length w ≤ 4 → needless_zero w ≡ false → all_digits w ≡ true → value w ≡ n → Some n ≡ number_of w
  unfolding number_of is_number
  said_all n p q z d e = simp (le-leb 1 (length w) p, le-leb (length w) 4 q, z, d, e)

  module _ (i : ℕ) (h : i < length w) (from : all_digits w ≡ all_digits (drop i w)) where
    other-byte : (leb 48 (get_or w i 0) && leb (get_or w i 0) 57) ≡ false → is_number w ≡ false
    other-byte e = no_digit (from ∙ digits_more w i h ∙ simp e)

    a-digit : (leb 48 (get_or w i 0) && leb (get_or w i 0) 57) ≡ true → all_digits w ≡ all_digits (drop (i + 1) w)
    a-digit e = from ∙ digits_more w i h ∙ simp e

pub returns-then-is_empty : goal.returns-then-is_empty
returns-then-is_empty c =
    none_of _ (elim c.then-is_empty.branch [
      | then-is_empty-via-then-is_empty w ↦ too_short _ (omega (arith, true-eqb _ 0 w.if-is_empty.ensures))
      | then-is_empty-via-else-is_empty+then-field-gt4 w ↦ too_long _ w.if-field-gt4.true
      | then-is_empty-via-else-is_empty+else-field-gt4+then-needless_zero w ↦ zero-first _ (sym w.needless_zero.ensures ∙ w.if-needless_zero.true)
    ])

pub loop-b-init : goal.loop-b-init
unfolding value
loop-b-init c = (refl, refl, omega arith)

pub returns-then-not-is_ascii_digit : goal.returns-then-not-is_ascii_digit
returns-then-not-is_ascii_digit c =
    none_of _ (other-byte _ c.loop-b.b-index c.loop-b-test.true c.loop-b.invariant.0 (sym c.is_ascii_digit.ensures.value ∙ c.if-not-is_ascii_digit.true))

pub loop-b-preserved : goal.loop-b-preserved
loop-b-preserved c =
    let i = c.loop-b.b-index in
    let up : most (i + 1) ≡ most i * 10 + 9 = ap most (add-one i) in (
      a-digit _ i c.loop-b-test.true c.loop-b.invariant.0 (sym c.is_ascii_digit.ensures.value ∙ c.if-not-is_ascii_digit.false),
      let e = value-more _ i c.loop-b-test.true c.loop-b.said in cc,
      omega (arith, c.if-not-is_ascii_digit.ensures.cases),
    )

pub returns : goal.returns
returns c =
    said_all _ c.loop-b.said (omega (arith, false-eqb _ 0 c.if-is_empty.ensures)) c.if-field-gt4.false (sym c.needless_zero.ensures ∙ c.if-needless_zero.false)
    (c.loop-b.invariant.0 ∙ no-digits _ c.loop-b.b-index (omega arith)) (c.loop-b.invariant.1 ∙ no_value _ c.loop-b.b-index c.loop-b.said (omega arith))
