-- The record's own list with a slip in one line has no full marks: `slip-not-full`. A line less or twice by `dropped`, other digits that are a number by
-- `same_start` and `same_end`; digits that are none leave no sheet, so that the repeat is missing. Rests on `own-lines-full` and on the laws of a line's
-- text.
use Prim.Native.Nat.{ℕ, ◌+◌, ◌≤◌, ◌<◌}
use native.Mathlib.Omega.{arith}
use mathlib.Core.Path.{◌≡◌, refl, sym, ap, ◌∙◌, subst}
use mathlib.Core.Bool.{Bool, true, false, ◌&&◌, and-false}
use mathlib.Core.Logic.{⊎_elim}
use mathlib.Core.List.{List, [], ◌∷◌, ◌++◌, map, map-append, append_assoc}
use mathlib.Core.Option.{Option, none, some}
use lib.ListN.{length}
use Rattle.palindromes.specs.Word.{Word, member}
use Rattle.palindromes.specs.Place.{first_place}
use Rattle.palindromes.specs.Record.{palindromes}
use Rattle.palindromes.specs.Bed.{is_identifier, decimal, bed_line, bed_lines}
use Rattle.palindromes.specs.Digits.{value}
use Rattle.palindromes.specs.Sheet.{all_digits, is_number, Line, with_line, sheet_lines, lines_in}
use Rattle.palindromes.specs.Marks.{counts_of, sheet_counts, full_marks}
use Rattle.palindromes.proofs.Tests.{not-true-false}
use Rattle.palindromes.proofs.Lists.{left_is, right_is, either_true, member-first, member-later, first-or-later, member-append}
use Rattle.palindromes.proofs.Palindromes.{palindromes-true}
use Rattle.mark_laws.specs.Full.{namers, Full}
use Rattle.mark_laws.specs.Slip.{field_line, start_of, end_of, Slip, line-dropped, line-doubled, other-start, other-end}
use Rattle.mark_laws.proofs.Text.{decimal-digits, number_small, line_at, no_line, bed-first}
use Rattle.mark_laws.proofs.Full.{full_is, dropped, same_end, same_start}
use Rattle.mark_laws.proofs.Own.{own_line, Repeats, end_fits, lines-of, own-lines-full}

-- lines in front of what a text has
abbrev with_lines : List Line → Option (List Line) → Option (List Line)
with_lines [] o = o
with_lines (l ∷ ls) o = with_line (some l) (with_lines ls o)

lines_none : (ls : List Line) → with_lines ls none ≡ none
unfolding with_line
lines_none [] = refl
lines_none (l ∷ ls) = ap (with_line (some l)) (lines_none ls)

lines-some : (ls ks : List Line) → with_lines ls (some ks) ≡ some (ls ++ ks)
unfolding with_line
lines-some [] ks = refl
lines-some (l ∷ ls) ks = ap (with_line (some l)) (lines-some ls ks)

module _ (name : Word) (h : is_identifier name ≡ true) (σ : ℕ → ℕ) (s : Word) (few : length s ≤ 1024) where
  abbrev NoFullMarks : Word → Type 0
  NoFullMarks sheet = full_marks (sheet_counts σ name s sheet) ≡ false

  -- lines of the list in front of any text
  front : (a : List Word) (t : Word) → Repeats σ s a → sheet_lines (bed_lines name s a ++ t) ≡ with_lines (map (own_line name s) a) (sheet_lines t)
  unfolding bed_lines
  front [] t k = refl
  front (p ∷ a) t k =
      let m = end_fits name h σ s few p (k p (member-first p a)) in
      let end = first_place p s + length p in
      ap sheet_lines (append_assoc (bed_line name (first_place p s) end) (bed_lines name s a) t)
      ∙ bed-first name h (first_place p s) end (bed_lines name s a ++ t) (omega arith) (omega arith)
      ∙ ap (with_line (some (own_line name s p))) (front a t (λ q n. k q (member-later q p a n)))

  -- a sheet whose lines are not full
  not_full : (sheet : Word) (ls : List Line) → sheet_lines sheet ≡ some ls → (Full σ name s ls → ⊥) → NoFullMarks sheet
  unfolding sheet_counts lines_in
  not_full sheet ls e n =
      let same = ap (λ (o : Option (List Line)). full_marks (counts_of σ name s (lines_in o))) e in
      not-true-false _ λ t. n (full_is σ name s ls (sym same ∙ t))

  -- the list is cut at the line of a repeat
  module _ (above : List Word) (p : Word) (below : List Word) (e : palindromes σ s ≡ above ++ p ∷ below) where
    abbrev first : List Line
    first = map (own_line name s) above

    abbrev last : List Line
    last = map (own_line name s) below

    in-above : Repeats σ s above
    in-above q m = rw (e, member-append q above (p ∷ below)) (left_is (member q above) (member q (p ∷ below)) m)

    from-line : Repeats σ s (p ∷ below)
    from-line q m = rw (e, member-append q above (p ∷ below)) (right_is (member q above) (member q (p ∷ below)) m)

    in-below : Repeats σ s below
    in-below q m = from-line q (member-later q p below m)

    its-end : first_place p s + length p ≤ length s
    its-end = end_fits name h σ s few p (from-line p (member-first p below))

    full : Full σ name s (first ++ own_line name s p ∷ last)
    full = subst (Full σ name s) (ap (map (own_line name s)) e ∙ map-append (own_line name s) above (p ∷ below)) (own-lines-full name h σ s few)

    -- repeats in front of repeats
    in_both : (b : List Word) → Repeats σ s b → Repeats σ s (above ++ b)
    in_both b k q m = ⊎_elim (in-above q) (k q) (either_true (member q above) (member q b) (sym (member-append q above b) ∙ m))

    without : NoFullMarks (bed_lines name s (above ++ below))
    without =
        let lines = lines-of name h σ s few (above ++ below) (in_both below in-below) ∙ ap some (map-append (own_line name s) above below) in
        not_full _ (first ++ last) lines (dropped σ name s first (own_line name s p) last full)

    twice : NoFullMarks (bed_lines name s (above ++ p ∷ p ∷ below))
    twice =
        let again : Repeats σ s (p ∷ p ∷ below) =
        λ q m. ⊎_elim (λ i. rw i (from-line p (member-first p below))) (from-line q) (first-or-later q p (p ∷ below) m) in
        let lines = lines-of name h σ s few (above ++ p ∷ p ∷ below) (in_both (p ∷ p ∷ below) again)
        ∙ ap some (map-append (own_line name s) above (p ∷ p ∷ below)) in
        not_full _ (first ++ own_line name s p ∷ own_line name s p ∷ last) lines
        λ f. dropped σ name s first (own_line name s p) (own_line name s p ∷ last) f full

    -- another line in its place
    changed : (start end : ℕ) → start < 10000 → end < 10000 → (Full σ name s (first ++ line_at name start end ∷ last) → ⊥)
        → NoFullMarks (bed_lines name s above ++ (bed_line name start end ++ bed_lines name s below))
    unfolding with_line
    changed start end i j n =
        let line = bed-first name h start end (bed_lines name s below) i j
        ∙ ap (with_line (some (line_at name start end))) (lines-of name h σ s few below in-below) in
        let lines = front above (bed_line name start end ++ bed_lines name s below) in-above ∙ ap (with_lines first) line
        ∙ lines-some first (line_at name start end ∷ last) in
        not_full _ (first ++ line_at name start end ∷ last) lines n

    -- no line in its place: the repeat is missing
    spoilt : (t : Word) → sheet_lines t ≡ none → NoFullMarks (bed_lines name s above ++ t)
    unfolding sheet_counts lines_in namers
    spoilt t n =
        let lines = front above t in-above ∙ ap (with_lines first) n ∙ lines_none first in
        let same = ap (λ (o : Option (List Line)). full_marks (counts_of σ name s (lines_in o))) lines in
        let q = palindromes-true σ p s (from-line p (member-first p below)) in
        not-true-false _ λ t. omega (arith, (full_is σ name s [] (sym same ∙ t)).one_line p q.0 q.1)

    -- other digits for its start or its end, be they a number or not
    digits-start : (u : Word) → all_digits u ≡ true → (u ≡ start_of s p → ⊥)
        → NoFullMarks (bed_lines name s above ++ (field_line name u (end_of s p) ++ bed_lines name s below))
    unfolding bed_line
    digits-start u d n = go (is_number u) refl
      where
        go : (t : Bool) → is_number u ≡ t → NoFullMarks (bed_lines name s above ++ (field_line name u (end_of s p) ++ bed_lines name s below))
        go true t =
            let c = number_small u t in
            let other = changed (value u) (first_place p s + length p) c.1 (omega (arith, its-end))
            λ f. n (sym c.0 ∙ ap decimal
            (sym (same_start σ name s first (own_line name s p) last full (line_at name (value u) (first_place p s + length p)) f refl))) in
            subst (λ (w : Word). NoFullMarks (bed_lines name s above ++ (field_line name w (end_of s p) ++ bed_lines name s below))) c.0 other
        go false t =
            spoilt _ (no_line name h u (end_of s p) (bed_lines name s below) d (decimal-digits (first_place p s + length p))
            (ap (λ (x : Bool). x && is_number (end_of s p)) t))

    digits-end : (v : Word) → all_digits v ≡ true → (v ≡ end_of s p → ⊥)
        → NoFullMarks (bed_lines name s above ++ (field_line name (start_of s p) v ++ bed_lines name s below))
    unfolding bed_line
    digits-end v d n = go (is_number v) refl
      where
        go : (t : Bool) → is_number v ≡ t → NoFullMarks (bed_lines name s above ++ (field_line name (start_of s p) v ++ bed_lines name s below))
        go true t =
            let c = number_small v t in
            let other = changed (first_place p s) (value v) (omega (arith, its-end)) c.1
            λ f. n (sym c.0 ∙ ap decimal
            (sym (same_end σ name s first (own_line name s p) last full (line_at name (first_place p s) (value v)) f refl))) in
            subst (λ (w : Word). NoFullMarks (bed_lines name s above ++ (field_line name (start_of s p) w ++ bed_lines name s below))) c.0 other
        go false t =
            spoilt _ (no_line name h (start_of s p) v (bed_lines name s below) (decimal-digits (first_place p s)) d
            (ap (λ (x : Bool). is_number (start_of s p) && x) t ∙ and-false (is_number (start_of s p))))

  -- 02 (xi): whoever makes such a slip has no full marks
  pub slip-not-full : (sheet : Word) → Slip σ name s sheet → NoFullMarks sheet
  slip-not-full sheet (line-dropped above p below e f) = subst NoFullMarks (sym f) (without above p below e)
  slip-not-full sheet (line-doubled above p below e f) = subst NoFullMarks (sym f) (twice above p below e)
  slip-not-full sheet (other-start above p below e u d n f) = subst NoFullMarks (sym f) (digits-start above p below e u d n)
  slip-not-full sheet (other-end above p below e u d n f) = subst NoFullMarks (sym f) (digits-end above p below e u d n)
