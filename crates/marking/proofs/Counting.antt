-- The counts of a sheet, line by line: what is counted so far, on top of the counts of the lines that are left, is the whole. Rests on the laws of lines and of
-- marks.
use Prim.Native.Nat.{ℕ, suc, ◌+◌, ◌-◌, ◌≤◌, ◌<◌}
use native.Mathlib.Omega.{arith}
use mathlib.Core.Path.{◌≡◌, refl, sym, ap, ◌∙◌, subst}
use mathlib.Core.List.{List, []}
use mathlib.Core.Option.{Option, none, some}
use lib.ListN.{length, take, drop, length-drop, drop_of_length-le, replicate}
use lib.Seq.{drop-drop}
use Rattle.palindromes.specs.Word.{Word}
use Rattle.palindromes.specs.Sheet.{split, Line, line_of, with_line, sheet_lines}
use Rattle.palindromes.specs.Marks.{named, Mark, right, repeated, wrong, mark_of, Counts, counted, with_named, missing_from, counts_from}
use Rattle.store.specs.Layout.{count_in, letters_in}
use Rattle.store.specs.Good.{rule_of, Good}
use Rattle.bed_reader.specs.declared.Entry.{Entry}
use Rattle.std.specs.Prelude.{Some, None}
use Rattle.bed_reader.specs.Reading.{place_of, parsed_of}
use Rattle.bed_reader.proofs.Fields.{place-most}
use Rattle.bed_reader.proofs.Parsing.{behind}
use Rattle.bed_reader.proofs.Lines.{sheet-line, sheet-unended, sheet-empty, parsed-none, parsed-line}
use Rattle.line_marks.specs.declared.SoFar.{SoFar}
use Rattle.tally.specs.declared.Tally.{Tally}
use Rattle.line_marks.specs.LineMarks.{with_mark, mark_in, before_next, Named, CountsLine}
use Rattle.marking.specs.SheetMarks.{counts_in, sheet_marks_of}
use Rattle.line_marks.proofs.Naming.{none_named}

-- ---- counts on top of counts

abbrev on_top : SoFar → Option Counts → Option Counts
on_top t none = none
on_top t (some c) = some (record { right = t.right + c.right; repeated = t.repeated + c.repeated; wrong = t.wrong + c.wrong; missing = c.missing })

abbrev pub total : SoFar → ℕ
total t = t.right + t.repeated + t.wrong

abbrev nothing_yet : SoFar
nothing_yet = record { right = 0; repeated = 0; wrong = 0 }

-- a sheet without a line
abbrev pub missing_alone : ℕ → Tally
missing_alone n = record { right = 0; repeated = 0; wrong = 0; missing = n }

same-counts : {a a' b b' c c' : ℕ} {d : ℕ} → a ≡ a' → b ≡ b' → c ≡ c'
    → ◌≡◌ {A = Counts} (record { right = a; repeated = b; wrong = c; missing = d }) (record { right = a'; repeated = b'; wrong = c'; missing = d })
same-counts {d = d} p q r i = record { right = p i; repeated = q i; wrong = r i; missing = d }

on-nothing : (o : Option Counts) → on_top nothing_yet o ≡ o
on-nothing none = refl
on-nothing (some c) = ap some (same-counts (omega arith) (omega arith) (omega arith))

-- a line more, whatever its mark
one_line : (t : SoFar) (m : Mark) (c : Counts) → on_top t (some (counted m c)) ≡ on_top (with_mark m t) (some c)
unfolding counted with_mark
one_line t right c = ap some (same-counts (omega arith) refl refl)
one_line t repeated c = ap some (same-counts refl (omega arith) refl)
one_line t wrong c = ap some (same-counts refl refl (omega arith))

right-named : (t : SoFar) (m : Mark) (w : Word) (before : List Word) → t.right ≡ length before
    → (with_mark m t).right ≡ length (with_named m w before)
unfolding with_mark with_named
right-named t right w before e = omega arith
right-named t repeated w before e = e
right-named t wrong w before e = e

total-more : (t : SoFar) (m : Mark) → total (with_mark m t) ≡ total t + 1
unfolding with_mark
total-more t right = omega arith
total-more t repeated = omega arith
total-more t wrong = omega arith

module _ (σ : ℕ → ℕ) (identifier s : Word) where
  -- the first line, and the others
  line-more : (t : SoFar) (before : List Word) (l : Line) (o : Option (List Line)) → let m = mark_of σ identifier s before l in
      on_top t (counts_in σ identifier s before (with_line (some l) o)) ≡ on_top (with_mark m t) (counts_in σ identifier s (with_named m (named s l) before) o)
  unfolding counts_in with_line counts_from
  line-more t before l none = refl
  line-more t before l (some ls) = let m = mark_of σ identifier s before l in one_line t m (counts_from σ identifier s (with_named m (named s l) before) ls)

-- ---- the sheet from a place on

module _ (sheet : Word) (at n : ℕ) (e : n ≡ place_of 10 (take (length sheet - at) (drop at sheet))) where
  place_is : n ≡ place_of 10 (drop at sheet)
  place_is = e ∙ ap (place_of 10) (behind sheet at)

  pub stop-most : at ≤ length sheet → at + n ≤ length sheet
  stop-most h = omega (arith, place_is, place-most 10 (drop at sheet), length-drop at sheet)

  -- no LF
  pub unended : at < length sheet → length sheet ≤ at + n → sheet_lines (drop at sheet) ≡ none
  unended h k = sheet-unended (drop at sheet) (omega (arith, length-drop at sheet)) (omega (arith, place_is, length-drop at sheet))

  -- a line, and the sheet behind it
  pub line_read : at + n < length sheet
      → sheet_lines (drop at sheet) ≡ with_line (line_of (split 9 (take (at + n - at) (drop at sheet)))) (sheet_lines (drop (at + n + 1) sheet))
  line_read h =
      let p : place_of 10 (drop at sheet) ≡ at + n - at = omega (arith, place_is) in
      let q : at + suc (place_of 10 (drop at sheet)) ≡ at + n + 1 = omega (arith, place_is) in
      sheet-line (drop at sheet) (omega (arith, place_is, length-drop at sheet))
      ∙ ap (λ (k : ℕ). with_line (line_of (split 9 (take k (drop at sheet)))) (sheet_lines (drop (suc (place_of 10 (drop at sheet))) (drop at sheet)))) p
      ∙ ap (λ (w : Word). with_line (line_of (split 9 (take (at + n - at) (drop at sheet)))) (sheet_lines w))
      (drop-drop (suc (place_of 10 (drop at sheet))) at sheet ∙ ap (λ (k : ℕ). drop k sheet) q)

-- ---- on a good store

module _ {b : Word} (g : Good b) (identifier sheet : Word) where
  abbrev pub whole : Option Counts
  whole = counts_in (rule_of b) identifier (letters_in b) [] (sheet_lines sheet)

  -- where marking is once it has read up to a place
  pub record Counting (marks : Word) (t : SoFar) (at : ℕ) : Type 0 where
    pub before : List Word
    pub names : Named b marks before
    pub within : at ≤ length sheet
    pub goes_on : on_top t (counts_in (rule_of b) identifier (letters_in b) before (sheet_lines (drop at sheet))) ≡ whole
    pub right_is : t.right ≡ length before
    pub few : total t ≤ at

  pub counting-first : (marks : Word) → Named b marks [] → Counting marks nothing_yet 0
  counting-first marks a =
      record { before = []; names = a; within = omega arith; goes_on = on-nothing whole; right_is = refl; few = omega arith }

  -- what is left is no sheet, so the whole is none
  pub no-sheet : {marks : Word} {t : SoFar} {at : ℕ} → Counting marks t at → sheet_lines (drop at sheet) ≡ none → None ≡ sheet_marks_of whole
  unfolding counts_in sheet_marks_of
  no-sheet {t = t} c e =
      ap sheet_marks_of (sym (ap (λ (o : Option (List Line)). on_top t (counts_in (rule_of b) identifier (letters_in b) c.before o)) e) ∙ c.goes_on)

  module _ {marks : Word} {t : SoFar} {at n : ℕ} (c : Counting marks t at) (e : n ≡ place_of 10 (take (length sheet - at) (drop at sheet))) where
    pub not-ended : at < length sheet → length sheet ≤ at + n → None ≡ sheet_marks_of whole
    not-ended h k = no-sheet c (unended sheet at n e h k)

    module _ (h : at + n < length sheet) where
      pub bad-line : parsed_of identifier (line_of (split 9 (take (at + n - at) (drop at sheet)))) ≡ None → None ≡ sheet_marks_of whole
      unfolding with_line
      bad-line p = no-sheet c
          (line_read sheet at n e h ∙ ap (λ (o : Option Line). with_line o (sheet_lines (drop (at + n + 1) sheet))) (parsed-none identifier _ p))

      pub good-line : {x : Entry} {marks' : Word} {t' : SoFar} → parsed_of identifier (line_of (split 9 (take (at + n - at) (drop at sheet)))) ≡ Some x
          → CountsLine b x t marks t' marks'
          → Counting marks' t' (at + n + 1)
      good-line {x} {marks'} {t'} p q =
          let d = parsed-line identifier _ x p in
          let l = d.0 in
          let m = mark_in b identifier c.before l in
          let r = q identifier c.before l d.2 c.names in
          record {
            before = before_next b identifier c.before l;
            names = r.1;
            within = omega arith;
            goes_on =
                subst (λ (u : SoFar). on_top u
                (counts_in (rule_of b) identifier (letters_in b) (before_next b identifier c.before l) (sheet_lines (drop (at + n + 1) sheet))) ≡ whole)
                (sym r.0)
                (sym (line-more (rule_of b) identifier (letters_in b) t c.before l (sheet_lines (drop (at + n + 1) sheet)))
                ∙ ap (λ (o : Option (List Line)). on_top t (counts_in (rule_of b) identifier (letters_in b) c.before o))
                (sym (line_read sheet at n e h ∙ ap (λ (o : Option Line). with_line o (sheet_lines (drop (at + n + 1) sheet))) d.1))
                ∙ c.goes_on);
            right_is = ap (λ (u : SoFar). u.right) r.0 ∙ right-named t m (named (letters_in b) l) c.before c.right_is;
            few = omega (arith, ap total r.0, total-more t m, c.few);
          }

  -- no line is left
  pub all-counted : {marks : Word} {t : SoFar} {at n : ℕ} → Counting marks t at → length sheet ≤ at → n ≡ count_in b
      → Some (record { right = t.right; repeated = t.repeated; wrong = t.wrong; missing = n - t.right }) ≡ sheet_marks_of whole
  unfolding counts_in counts_from sheet_marks_of
  all-counted {t = t} {at = at} {n = n} c h e =
      let r : t.right + 0 ≡ t.right = omega arith in
      let p : t.repeated + 0 ≡ t.repeated = omega arith in
      let w : t.wrong + 0 ≡ t.wrong = omega arith in
      let m : missing_from (rule_of b) (letters_in b) c.before ≡ n - t.right = omega (arith, c.names.left, c.right_is, g.count-is) in
      let d : sheet_lines (drop at sheet) ≡ some [] = ap sheet_lines (drop_of_length-le sheet h) ∙ sheet-empty in
      cc (d, ap sheet_marks_of c.goes_on)

  pub right-most : {marks : Word} {t : SoFar} {at : ℕ} → Counting marks t at → t.right ≤ count_in b
  right-most c = omega (arith, c.names.left, c.right_is, g.count-is)

  -- no line at all
  pub none-counted : {n : ℕ} → length sheet ≤ 0 → n ≡ count_in b
      → Some (missing_alone n) ≡ sheet_marks_of whole
  none-counted {n} h e =
      let z : n ≡ n - 0 = omega arith in
      ap (λ (m : ℕ). Some (missing_alone m)) z ∙ all-counted (counting-first (replicate 128 0) (none_named g (replicate 128 0) refl)) h e
