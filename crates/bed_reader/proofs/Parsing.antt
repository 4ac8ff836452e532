-- What a line comes to, by the places of its first two tabs, on plain values. Rests on the laws of fields.
use Prim.Native.Nat.{ℕ, suc, ◌+◌, ◌-◌, ◌≤◌, ◌<◌}
use native.Mathlib.Omega.{arith}
use native.Mathlib.Numerals.{add-one}
use mathlib.Core.Path.{◌≡◌, refl, sym, ap, ◌∙◌}
use mathlib.Core.Bool.{Bool, cond, ◌&&◌, and-false}
use mathlib.Core.List.{[], ◌∷◌}
use mathlib.Core.Option.{none, some}
use lib.Dec.{eqb}
use lib.ListN.{length, take, drop, length-drop}
use lib.Seq.{take_all, drop-drop}
use Rattle.palindromes.specs.Word.{Word, same_word}
use Rattle.palindromes.specs.Sheet.{split, is_number, line_of}
use Rattle.std.specs.Prelude.{Some, None}
use Rattle.std.specs.Str.{bytes_eq}
use Rattle.bed_reader.specs.Reading.{place_of, number_of, entry_of, parsed_of}
use Rattle.bed_reader.proofs.Fields.{place-most, number-value, number-none, one_field, two_fields, more-fields, line_with}

-- `==` of two words is their comparison letter by letter
pub compared : (u v : Word) → bytes_eq u v ≡ same_word u v
unfolding same_word
compared [] [] = refl
compared [] (y ∷ v) = refl
compared (x ∷ u) [] = refl
compared (x ∷ u) (y ∷ v) = ap (λ (t : Bool). eqb x y && t) (compared u v)

-- all that is behind a place
pub behind : (w : Word) (n : ℕ) → take (length w - n) (drop n w) ≡ drop n w
behind w n = take_all (length w - n) (drop n w) (omega (arith, length-drop n w))

module _ (w identifier : Word) (first : ℕ) (e : first ≡ place_of 9 w) where
  -- no tab
  pub no-tab : length w ≤ first → None ≡ parsed_of identifier (line_of (split 9 w))
  unfolding parsed_of
  no-tab h = rw (one_field w (omega arith))

  module _ (h : first < length w) (second : ℕ) (f : second ≡ place_of 9 (take (length w - (first + 1)) (drop (first + 1) w))) where
    rest : Word
    rest = drop (suc (place_of 9 w)) w

    rest-is : drop (first + 1) w ≡ rest
    unfolding rest
    rest-is = ap (λ (k : ℕ). drop k w) (add-one first ∙ ap suc e)

    place_is : second ≡ place_of 9 rest
    place_is = f ∙ ap (place_of 9) (behind w (first + 1) ∙ rest-is)

    rest-length : length rest ≡ length w - (first + 1)
    rest-length = ap length (sym rest-is) ∙ length-drop (first + 1) w

    pub second-most : first + 1 + second ≤ length w
    second-most = omega (arith, place_is, place-most 9 rest, rest-length)

    -- one tab
    pub one-tab : length w ≤ first + 1 + second → None ≡ parsed_of identifier (line_of (split 9 w))
    unfolding parsed_of rest
    one-tab k = rw (two_fields w (omega arith) (omega (arith, place_is, rest-length)))

    -- the second field, and the third, as the code cuts them out
    abbrev starts : Word
    starts = take (first + 1 + second - (first + 1)) (drop (first + 1) w)

    abbrev ends : Word
    ends = take (length w - (first + 1 + second + 1)) (drop (first + 1 + second + 1) w)

    module _ (k : first + 1 + second < length w) where
      fields-are : (N S T : Word) → N ≡ take (place_of 9 w) w → S ≡ take (place_of 9 rest) rest → T ≡ drop (suc (place_of 9 rest)) rest
          → line_of (split 9 w) ≡ cond (is_number S && is_number T) (some (line_with N S T)) none
      unfolding rest
      fields-are N S T p q r = rw (p, q, r) (more-fields w (omega arith) rest refl (omega (arith, place_is, rest-length)))

      start-field : starts ≡ take (place_of 9 rest) rest
      start-field = let n : first + 1 + second - (first + 1) ≡ place_of 9 rest = omega (arith, place_is) in rw (n, rest-is)

      end-field : ends ≡ drop (suc (place_of 9 rest)) rest
      end-field =
          let n : first + 1 + second + 1 ≡ first + 1 + suc (place_of 9 rest) = omega (arith, place_is) in
          behind w (first + 1 + second + 1) ∙ ap (λ (m : ℕ). drop m w) n ∙ sym (drop-drop (suc (place_of 9 rest)) (first + 1) w)
          ∙ ap (drop (suc (place_of 9 rest))) rest-is

      whole : line_of (split 9 w) ≡ cond (is_number starts && is_number ends) (some (line_with (take first w) starts ends)) none
      whole = fields-are _ _ _ (ap (λ (m : ℕ). take m w) e) start-field end-field

      -- a field that is no number
      pub no_start : number_of starts ≡ None → None ≡ parsed_of identifier (line_of (split 9 w))
      unfolding parsed_of
      no_start n = rw (whole, number-none _ n)

      pub no_end : number_of ends ≡ None → None ≡ parsed_of identifier (line_of (split 9 w))
      unfolding parsed_of
      no_end n = rw (whole, number-none _ n, and-false (is_number starts))

      pub a-line : {agrees : Bool} {start end : ℕ} → number_of starts ≡ Some start → number_of ends ≡ Some end
          → agrees ≡ same_word (take first w) identifier
          → Some (record { agrees = agrees; start = start; end = end }) ≡ parsed_of identifier (line_of (split 9 w))
      unfolding parsed_of entry_of
      a-line p q a =
          let s = number-value _ _ p in
          let t = number-value _ _ q in
          rw (whole, s.0, t.0, a, ← s.1, ← t.1)
