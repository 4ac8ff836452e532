-- The list of `Example` as far as CAC, and what the claims about marking say of it: a sheet that names A, C and C again, at its other place, has two
-- right lines and a repeated one, and misses CAC (`marked-CAC`). Over a mark sheet of 34 sevens its counts leave the last two. Its first line alone,
-- without the LF, is refused with 13 (`no-line-feed`). Its own list without the line of CAC has no full marks (`dropped-CAC`).
use Prim.Native.Nat.{ℕ}
use native.Mathlib.Omega.{arith}
use mathlib.Core.Path.{◌≡◌, refl, ap, ◌∙◌, subst}
use mathlib.Core.Bool.{true, false}
use mathlib.Core.List.{List, [], ◌∷◌, ◌++◌}
use lib.ListN.{replicate}
use lib.Seq.{sets}
use Rattle.palindromes.specs.Word.{Word, is_empty, same_word, mismatch_from, member, keep, distinct}
use Rattle.palindromes.specs.Palindrome.{mirror, first_mismatch, is_symmetric, is_palindrome}
use Rattle.palindromes.specs.Reading.{as_plain, reading_number, rule_in}
use Rattle.palindromes.specs.Record.{prefixes, suffixes, suffixes_of_each, stretches, palindromes}
use Rattle.palindromes.specs.Bed.{is_identifier_byte, all_identifier_bytes, is_identifier, bed_lines}
use Rattle.palindromes.specs.Interval.{word_at}
use Rattle.palindromes.specs.Digits.{value_from, value}
use Rattle.palindromes.specs.Sheet.{in_first, split, all_digits, needless_zero, is_number, line_of, with_line, lines_of, sheet_lines, is_sheet, lines_in}
use Rattle.palindromes.specs.Marks.{named, is_naming, mark_of, Counts, counted, with_named, missing_from, counts_from, counts_of, full_marks, sheet_counts}
use Rattle.palindromes.specs.Marks.{low_bytes, counts_bytes}
use Rattle.palindromes.specs.Refusal.{mark, ask}
use Rattle.mark_laws.specs.Slip.{line-dropped}
use Rattle.outcome.specs.Reply.{packed, accepted, refused_with, unpacked}
use Rattle.outcome.specs.Outcome.{Lent, written}
use Rattle.outcome.specs.Promise.{lending, Promise}
use Rattle.traces.specs.Run.{store_after, letters_after}
use Rattle.traces.specs.Marking.{counts_after, Marking}
use Rattle.traces.proofs.Marking.{marking-after}
use Rattle.traces.proofs.Example.{sevens, all-bytes, opened, promise, answers-zero, start, with-CAC, run-to-CAC, in-CAC, plain-CAC}

abbrev end : Word
end = store_after start with-CAC

its-marking : Marking 0 (67 ∷ 65 ∷ 67 ∷ []) end
unfolding reading_number
its-marking =
    subst (λ (s : Word). Marking 0 s end) in-CAC
    (subst (λ (m : ℕ). Marking m (letters_after 3 with-CAC) end) plain-CAC
    (marking-after as_plain 3 sevens all-bytes (packed (opened as_plain).reply) start (promise as_plain) (answers-zero as_plain) run-to-CAC))

abbrev e1 : Word
e1 = 101 ∷ 49 ∷ []

-- e1 1 2, e1 0 1 and e1 2 3, with tabs
abbrev A-C-C : Word
A-C-C = 101 ∷ 49 ∷ 9 ∷ 49 ∷ 9 ∷ 50 ∷ 10 ∷ 101 ∷ 49 ∷ 9 ∷ 48 ∷ 9 ∷ 49 ∷ 10 ∷ 101 ∷ 49 ∷ 9 ∷ 50 ∷ 9 ∷ 51 ∷ 10 ∷ []

a-name : is_identifier e1 ≡ true
unfolding is_identifier all_identifier_bytes is_identifier_byte
a-name = refl

a-sheet : is_sheet (sheet_lines A-C-C) ≡ true
unfolding is_sheet sheet_lines lines_of with_line line_of split in_first is_number all_digits needless_zero value value_from
a-sheet = refl

its-counts : sheet_counts (rule_in 0) e1 (67 ∷ 65 ∷ 67 ∷ []) A-C-C ≡ record { right = 2; repeated = 1; wrong = 0; missing = 1 }
unfolding sheet_counts counts_of counts_from missing_from with_named counted mark_of is_naming named word_at lines_in sheet_lines lines_of with_line line_of split in_first
    is_number all_digits needless_zero value value_from palindromes stretches prefixes suffixes_of_each suffixes keep distinct member same_word is_palindrome
    is_symmetric first_mismatch mismatch_from mirror is_empty rule_in
its-counts = refl

abbrev its-bytes : Word
its-bytes = 2 ∷ replicate 7 0 ++ 1 ∷ replicate 7 0 ++ 0 ∷ replicate 7 0 ++ 1 ∷ replicate 7 0

are-bytes : counts_bytes (record { right = 2; repeated = 1; wrong = 0; missing = 1 }) ≡ its-bytes
unfolding counts_bytes low_bytes
are-bytes = refl

pub marked-CAC : (a : ℕ) (b' : Word) (l' : Lent) → Promise (ask (mark e1 A-C-C)) end (lending [] (replicate 34 7)) a b' l'
    → (unpacked a ≡ accepted false 0 0 0) × (l'.out ≡ its-bytes ++ (7 ∷ 7 ∷ []))
unfolding written full_marks
marked-CAC a b' l' p =
    let claim = its-marking.marked e1 A-C-C a-name a-sheet in
    let q = claim.written (lending [] (replicate 34 7)) a b' l' p (omega (arith, its-marking.size e1 A-C-C)) in (
      q.told ∙ ap (λ (t : Counts). accepted (full_marks t) 0 0 0) its-counts,
      ap (λ (l : Lent). l.out) q.bytes ∙ ap (λ (t : Counts). sets (replicate 34 7) 0 (counts_bytes t)) its-counts
          ∙ ap (sets (replicate 34 7) 0) are-bytes,
    )

-- the first line without its LF
abbrev unended : Word
unended = 101 ∷ 49 ∷ 9 ∷ 49 ∷ 9 ∷ 50 ∷ []

no-sheet : is_sheet (sheet_lines unended) ≡ false
unfolding is_sheet sheet_lines lines_of with_line line_of split in_first is_number all_digits needless_zero value value_from
no-sheet = refl

pub no-line-feed : (l : Lent) (a : ℕ) (b' : Word) (l' : Lent) → Promise (ask (mark e1 unended)) end l a b' l'
    → (unpacked a ≡ refused_with 13) × (l' ≡ l)
no-line-feed l a b' l' p = let q = its-marking.bad-sheet e1 unended a-name no-sheet l a b' l' p in (q.told, q.bytes)

-- its own list without the line of CAC
abbrev C-and-A : List Word
C-and-A = (67 ∷ []) ∷ (65 ∷ []) ∷ []

repeats-are : palindromes (rule_in 0) (67 ∷ 65 ∷ 67 ∷ []) ≡ C-and-A ++ (67 ∷ 65 ∷ 67 ∷ []) ∷ []
unfolding palindromes stretches prefixes suffixes_of_each suffixes keep distinct same_word is_palindrome is_symmetric first_mismatch mismatch_from mirror
    is_empty rule_in
repeats-are = refl

pub dropped-CAC : full_marks (counts_after 0 (67 ∷ 65 ∷ 67 ∷ []) e1 (bed_lines e1 (67 ∷ 65 ∷ 67 ∷ []) C-and-A)) ≡ false
dropped-CAC = its-marking.slip e1 _ a-name (line-dropped C-and-A (67 ∷ 65 ∷ 67 ∷ []) [] repeats-are refl)
