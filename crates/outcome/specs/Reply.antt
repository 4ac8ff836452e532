-- DEFINITIONS. The one number that a host call answers. Nothing here is proved.
use Rattle.std.specs.Prelude.{ℕ, ◌+◌, ◌*◌, ◌-◌, ◌/◌, ◌%◌, ◌<◌, Bool, true, false, eqb, ℤ, pos, negsuc}

-- 01 "a host call returns one unsigned 64-bit number that packs its answer": the refusal number, a flag (new, went, once, found), a row, and two numbers
pub record Reply : Type 0 where
  pub number : ℕ
  pub flag : Bool
  pub row : ℕ
  pub first : ℕ
  pub second : ℕ

unfoldable pub bit : Bool → ℕ
bit true = 1
bit false = 0

-- byte 0 the number, byte 1 the flag, bytes 2 and 3 the row, 4 and 5 the first number, 6 and 7 the second
unfoldable pub packed : Reply → ℕ
packed r = r.number + 256 * bit r.flag + 65536 * r.row + 4294967296 * r.first + 281474976710656 * r.second

-- every field fits its bytes, so that none runs into the next
pub record Fits (r : Reply) : Type 0 where
  pub number : r.number < 256
  pub row : r.row < 65536
  pub first : r.first < 65536
  pub second : r.second < 65536

-- what a host reads in the number: `mirror_refusal`, `mirror_flag`, `mirror_row_of`, `mirror_first` and `mirror_second` of include/mirror.h, in this order
abbrev pub refusal_in : ℕ → ℕ
refusal_in x = x % 256

abbrev pub flag_in : ℕ → ℕ
flag_in x = x / 256 % 256

abbrev pub row_in : ℕ → ℕ
row_in x = x / 65536 % 65536

abbrev pub first_in : ℕ → ℕ
first_in x = x / 4294967296 % 65536

abbrev pub second_in : ℕ → ℕ
second_in x = x / 281474976710656

-- all of it: the reply that the number packs
unfoldable pub unpacked : ℕ → Reply
unpacked x = record { number = refusal_in x; flag = eqb (flag_in x) 1; row = row_in x; first = first_in x; second = second_in x }

-- 01 "a refusal answers its number, zero in every other field"
unfoldable pub refused_with : ℕ → Reply
refused_with n = record { number = n; flag = false; row = 0; first = 0; second = 0 }

-- an accepted call answers the number 0
unfoldable pub accepted : Bool → ℕ → ℕ → ℕ → Reply
accepted flag row first second = record { number = 0; flag = flag; row = row; first = first; second = second }

-- what an accepted question answers, beside the number 0
pub record Answer : Type 0 where
  pub flag : Bool
  pub row : ℕ
  pub first : ℕ
  pub second : ℕ

abbrev pub answer : Bool → ℕ → ℕ → ℕ → Answer
answer flag row first second = record { flag = flag; row = row; first = first; second = second }

-- one number and nothing else
abbrev pub tells : ℕ → Answer
tells n = answer false 0 n 0

abbrev pub answered : Answer → Reply
answered a = accepted a.flag a.row a.first a.second

-- a signed length as a 16-bit two's complement number
unfoldable pub twos_complement : ℤ → ℕ
twos_complement (pos n) = n
twos_complement (negsuc n) = 65535 - n
