-- `bitmap::mark` sets the bit of a number of the window, where it was not. Assumes nothing.
use Rattle.std.proofs.Common.{◌≡◌, ℕ, ◌-◌, Bool, true, false, ◌&&◌, not, refl, sym, ap, arith}
use Rattle.palindromes.specs.Word.{Word}
use Rattle.bitmap.specs.Bitmap.{bit_at, in_window}
use Rattle.bitmap.proofs.Bits.{bit_is, bit_not, bit-given, window-is, window-not}
use Rattle.bitmap.proofs.mark.Goals as goal
use Rattle.bitmap.proofs.mark.Goals.{then-byte-bits-via-then-byte-bits, then-byte-bits-via-else-byte-bits+then-bits-byte-ne0}

-- what is answered, from whether the window has the number and its bit is set
module _ (from i : ℕ) (bits : Word) where
  outside : in_window from i bits ≡ false → false ≡ (in_window from i bits && not (bit_at bits (i - from)))
  outside h = sym (ap (λ (t : Bool). t && not (bit_at bits (i - from))) h)

  inside : (t : Bool) → in_window from i bits ≡ true → bit_at bits (i - from) ≡ t → not t ≡ (in_window from i bits && not (bit_at bits (i - from)))
  inside t h k = rw (h, k) refl

pub returns-then-i-from-clause-first : goal.returns-then-i-from-clause-first
returns-then-i-from-clause-first c =
    let a = c.args in outside a.from a.i a.bits.now (window-not a.from a.i a.bits.now λ h k. omega arith)

pub returns-then-byte-bits-clause-first : goal.returns-then-byte-bits-clause-first
returns-then-byte-bits-clause-first c =
    let a = c.args in
    elim c.then-byte-bits.branch [
      | then-byte-bits-via-then-byte-bits w ↦ outside a.from a.i a.bits.now (window-not a.from a.i a.bits.now λ h k. omega arith)
      | then-byte-bits-via-else-byte-bits+then-bits-byte-ne0 w ↦
          inside a.from a.i a.bits.now true (window-is a.from a.i a.bits.now (omega arith) (omega arith))
          (bit_is a.bits.now (a.i - a.from) w.if-bits-byte-ne0.true)
    ]

pub returns-clause-first : goal.returns-clause-first
returns-clause-first c =
    let a = c.args in
    inside a.from a.i a.bits.now false (window-is a.from a.i a.bits.now (omega arith) (omega arith))
    (bit_not a.bits.now (a.i - a.from) c.if-bits-byte-ne0.false)

pub returns-clause-marked : goal.returns-clause-marked
returns-clause-marked c = bit-given c.args.bits.now (c.args.i - c.args.from)
