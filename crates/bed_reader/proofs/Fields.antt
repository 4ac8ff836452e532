-- The fields of a line: where a text is cut first, and what the parts are. A text without the byte is one part; else the first part stops before the byte's
-- first place. A third field whose bytes are digits has no tab in it, so that the test of its digits tells a fourth field too: `three-fields`. Assumes nothing.
use Prim.Native.Nat.{ℕ, zero, suc, ◌+◌, ◌-◌, ◌*◌, ◌≤◌, ◌<◌}
use native.Mathlib.Omega.{arith}
use native.Mathlib.Numerals.{add-one}
use native.Mathlib.Decide.{dec_lt}
use mathlib.Core.Path.{◌≡◌, refl, sym, ap, ◌∙◌}
use mathlib.Core.Bool.{Bool, true, false, cond, ◌&&◌, not, and-false}
use mathlib.Core.List.{List, [], ◌∷◌}
use mathlib.Core.Option.{none, some}
use lib.Dec.{eqb, leb, ltb}
use lib.ListN.{length, get_or, take, drop, drop_of_length-le}
use lib.Seq.{drop-cons}
use borrow.Author.Tests.{leb-true, ne_eqb, lt-ltb, le-ltb}
use Rattle.palindromes.specs.Word.{Word}
use Rattle.palindromes.specs.Digits.{value_from, value}
use Rattle.palindromes.specs.Sheet.{in_first, split, all_digits, needless_zero, is_number, Line, line_of}
use Rattle.palindromes.proofs.Tests.{both_true, not-true-false}
use Rattle.std.specs.Prelude.{Some, None, unwrap_or}
use Rattle.std.specs.List.{position_or_len}
use Rattle.std.proofs.lemmas.List.Recursion.{is_position_or_len}
use Rattle.bed_reader.specs.Reading.{place_of, number_of}

-- ---- the first place of a byte

pub place-most : (c : ℕ) (w : Word) → place_of c w ≤ length w
unfolding place_of
place-most c [] = omega arith
place-most c (b ∷ w) = go (eqb b c) (place-most c w)
  where
    go : (t : Bool) → place_of c w ≤ length w → cond t 0 (suc (place_of c w)) ≤ suc (length w)
    go true h = omega arith
    go false h = omega arith

-- the place is where the first byte that equals c stands
place-position : (c : ℕ) (w : Word) → place_of c w ≡ position_or_len (λ b. eqb b c) w
unfolding place_of
place-position c w = is_position_or_len (place_of c) (λ b. eqb b c) refl (λ x xs. ap (cond (eqb x c) 0) (omega arith)) w

-- and the length, where there is none
pub place-found : (c : ℕ) (w : Word)
    → unwrap_or (cond (ltb (position_or_len (λ b. eqb b c) w) (length w)) (Some (position_or_len (λ b. eqb b c) w)) None) (length w) ≡ place_of c w
place-found c w = go (dec_lt (position_or_len (λ b. eqb b c) w) (length w))
  where
    go : Dec (position_or_len (λ b. eqb b c) w < length w)
        → unwrap_or (cond (ltb (position_or_len (λ b. eqb b c) w) (length w)) (Some (position_or_len (λ b. eqb b c) w)) None) (length w) ≡ place_of c w
    go (yes h) = rw (lt-ltb (position_or_len (λ b. eqb b c) w) (length w) h) (sym (place-position c w))
    go (no h) =
        rw (le-ltb (position_or_len (λ b. eqb b c) w) (length w) (omega arith)) (omega (arith, place-most c w, place-position c w))

-- ---- the parts

-- no such byte
pub split-none : (c : ℕ) (w : Word) → length w ≤ place_of c w → split c w ≡ w ∷ []
unfolding place_of split in_first
split-none c [] h = refl
split-none c (b ∷ w) h = go (eqb b c) h (split-none c w)
  where
    go : (t : Bool) → suc (length w) ≤ cond t 0 (suc (place_of c w)) → (length w ≤ place_of c w → split c w ≡ w ∷ [])
        → cond t ([] ∷ split c w) (in_first b (split c w)) ≡ (b ∷ w) ∷ []
    go true k ih = absurd (omega arith)
    go false k ih = ap (in_first b) (ih (omega arith))

-- the first part, and those behind the byte
pub split-first : (c : ℕ) (w : Word) → place_of c w < length w → split c w ≡ take (place_of c w) w ∷ split c (drop (suc (place_of c w)) w)
unfolding place_of split in_first
split-first c [] h = absurd (omega arith)
split-first c (b ∷ w) h = go (eqb b c) h (split-first c w)
  where
    go : (t : Bool) → cond t 0 (suc (place_of c w)) < suc (length w)
        → (place_of c w < length w → split c w ≡ take (place_of c w) w ∷ split c (drop (suc (place_of c w)) w))
        → cond t ([] ∷ split c w) (in_first b (split c w))
        ≡ take (cond t 0 (suc (place_of c w))) (b ∷ w) ∷ split c (drop (suc (cond t 0 (suc (place_of c w)))) (b ∷ w))
    go true k ih = refl
    go false k ih = ap (in_first b) (ih (omega arith))

-- there is always a part
pub split-some : (c : ℕ) (w : Word) → (v : Word) × (vs : List Word) × (split c w ≡ v ∷ vs)
split-some c w = go (dec_lt (place_of c w) (length w))
  where
    go : Dec (place_of c w < length w) → (v : Word) × (vs : List Word) × (split c w ≡ v ∷ vs)
    go (yes h) = (_, _, split-first c w h)
    go (no h) = (_, _, split-none c w (omega arith))

-- ---- numbers

-- digits are no tabs
digits-clear : (w : Word) → all_digits w ≡ true → length w ≤ place_of 9 w
unfolding all_digits place_of
digits-clear [] h = omega arith
digits-clear (b ∷ w) h =
    let x = both_true (leb 48 b && leb b 57) (all_digits w) h in
    let low = leb-true 48 b (both_true (leb 48 b) (leb b 57) x.0).0 in
    rw (ne_eqb b 9 (λ e. omega arith)) (omega (arith, digits-clear w x.1))

number_digits : (w : Word) → is_number w ≡ true → all_digits w ≡ true
unfolding is_number
number_digits w h =
    (both_true (leb 1 (length w) && leb (length w) 4) (all_digits w) (both_true (leb 1 (length w) && leb (length w) 4 && all_digits w) (not (needless_zero w)) h).0
    ).1

pub number-value : (w : Word) (n : ℕ) → number_of w ≡ Some n → (is_number w ≡ true) × (value w ≡ n)
unfolding number_of
number-value w n = go (is_number w)
  where
    go : (t : Bool) → cond t (Some (value w)) None ≡ Some n → (t ≡ true) × (value w ≡ n)
    go true e = (refl, cc)
    go false e = cc

pub number-none : (w : Word) → number_of w ≡ None → is_number w ≡ false
unfolding number_of
number-none w = go (is_number w)
  where
    go : (t : Bool) → cond t (Some (value w)) None ≡ None → t ≡ false
    go true e = cc
    go false e = refl

-- one byte of a field more
module _ (w : Word) (i : ℕ) (h : i < length w) where
  pub digits_more : all_digits (drop i w) ≡ (leb 48 (get_or w i 0) && leb (get_or w i 0) 57 && all_digits (drop (i + 1) w))
  unfolding all_digits
  digits_more = rw (add-one i, drop-cons w i 0 h)

  pub value-more : (n : ℕ) → value_from n (drop i w) ≡ value_from (n * 10 + (get_or w i 0 - 48)) (drop (i + 1) w)
  unfolding value_from
  value-more n = rw (add-one i, drop-cons w i 0 h)

pub no-digits : (w : Word) (i : ℕ) → length w ≤ i → all_digits (drop i w) ≡ true
unfolding all_digits
no-digits w i h = rw (drop_of_length-le w h)

pub no_value : (w : Word) (i n : ℕ) → length w ≤ i → value_from n (drop i w) ≡ n
unfolding value_from
no_value w i n h = rw (drop_of_length-le w h)

-- the greatest number of so many digits
abbrev pub most : ℕ → ℕ
most zero = 0
most (suc i) = most i * 10 + 9

pub most-small : (i : ℕ) → i < 4 → most i ≤ 999
most-small zero h = omega arith
most-small (suc zero) h = omega arith
most-small (suc (suc zero)) h = omega arith
most-small (suc (suc (suc zero))) h = omega arith
most-small (suc (suc (suc (suc i)))) h = absurd (omega arith)

pub zero-short : (w : Word) → length w < 2 → needless_zero w ≡ false
unfolding needless_zero
zero-short [] h = refl
zero-short (b ∷ []) h = refl
zero-short (b ∷ d ∷ w) h = absurd (omega arith)

pub zero-long : (w : Word) → 2 ≤ length w → needless_zero w ≡ eqb (get_or w 0 0) 48
unfolding needless_zero
zero-long [] h = absurd (omega arith)
zero-long (b ∷ []) h = absurd (omega arith)
zero-long (b ∷ d ∷ w) h = refl

-- ---- a line

abbrev pub line_with : Word → Word → Word → Line
line_with name start end = record { name = name; start = value start; end = value end }

-- two fields, and the rest of the line
three-fields : (name start w : Word) → line_of (name ∷ start ∷ split 9 w) ≡ cond (is_number start && is_number w) (some (line_with name start w)) none
unfolding line_of
three-fields name start w = go (dec_lt (place_of 9 w) (length w))
  where
    go : Dec (place_of 9 w < length w) → line_of (name ∷ start ∷ split 9 w) ≡ cond (is_number start && is_number w) (some (line_with name start w)) none
    go (no h) = rw (split-none 9 w (omega arith))
    go (yes h) =
        let s = split-some 9 (drop (suc (place_of 9 w)) w) in
        let f : is_number w ≡ false = not-true-false (is_number w) (λ e. omega (arith, digits-clear w (number_digits w e))) in
        rw (split-first 9 w h, s.2, f, and-false (is_number start))

module _ (w : Word) where
  -- a line with no tab
  pub one_field : length w ≤ place_of 9 w → line_of (split 9 w) ≡ none
  unfolding line_of
  one_field h = rw (split-none 9 w h)

  module _ (h : place_of 9 w < length w) where
    -- with one
    pub two_fields : length (drop (suc (place_of 9 w)) w) ≤ place_of 9 (drop (suc (place_of 9 w)) w) → line_of (split 9 w) ≡ none
    unfolding line_of
    two_fields k = rw (split-first 9 w h, split-none 9 (drop (suc (place_of 9 w)) w) k)

    -- with more
    pub more-fields : (v : Word) → v ≡ drop (suc (place_of 9 w)) w → place_of 9 v < length v
        → line_of (split 9 w) ≡ cond (is_number (take (place_of 9 v) v) && is_number (drop (suc (place_of 9 v)) v))
        (some (line_with (take (place_of 9 w) w) (take (place_of 9 v) v) (drop (suc (place_of 9 v)) v))) none
    more-fields v e k =
        ap line_of (split-first 9 w h ∙ ap (λ (x : Word). take (place_of 9 w) w ∷ split 9 x) (sym e)
        ∙ ap (λ (x : List Word). take (place_of 9 w) w ∷ x) (split-first 9 v k))
        ∙ three-fields (take (place_of 9 w) w) (take (place_of 9 v) v) (drop (suc (place_of 9 v)) v)
