-- A reply whose fields fit their bytes can be read back from the number that packs it. Assumes nothing.
use Prim.Native.Nat.{◌<◌}
use native.Mathlib.Omega.{arith}
use mathlib.Core.Path.{◌≡◌, refl, ap}
use mathlib.Core.Bool.{Bool, true, false}
use lib.Dec.{eqb}
use Rattle.outcome.specs.Reply.{Reply, bit, packed, Fits, refusal_in, flag_in, row_in, first_in, second_in, unpacked}

-- a flag is one bit
bit-small : (t : Bool) → bit t < 2
unfolding bit
bit-small true = omega arith
bit-small false = omega arith

bit-read : (t : Bool) → eqb (bit t) 1 ≡ t
unfolding bit
bit-read true = refl
bit-read false = refl

module _ (r : Reply) (f : Fits r) where
  number_read : refusal_in (packed r) ≡ r.number
  unfolding packed
  number_read = omega (arith, f.number, f.row, f.first, f.second, bit-small r.flag)

  flag-read : flag_in (packed r) ≡ bit r.flag
  unfolding packed
  flag-read = omega (arith, f.number, f.row, f.first, f.second, bit-small r.flag)

  row_read : row_in (packed r) ≡ r.row
  unfolding packed
  row_read = omega (arith, f.number, f.row, f.first, f.second, bit-small r.flag)

  first_read : first_in (packed r) ≡ r.first
  unfolding packed
  first_read = omega (arith, f.number, f.row, f.first, f.second, bit-small r.flag)

  second-read : second_in (packed r) ≡ r.second
  unfolding packed
  second-read = omega (arith, f.number, f.row, f.first, f.second, bit-small r.flag)

  pub unpack-packed : unpacked (packed r) ≡ r
  unfolding unpacked
  unpack-packed =
      rw (number_read, flag-read, row_read, first_read, second-read)
      (ap (λ (t : Bool). record { number = r.number; flag = t; row = r.row; first = r.first; second = r.second }) (bit-read r.flag))
