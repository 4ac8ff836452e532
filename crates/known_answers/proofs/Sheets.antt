-- Every sheet's number and counts are the definitions', computed for the whole table at once: `sheet-answers`. Assumes nothing.
use mathlib.Core.Path.{◌≡◌, refl}
use mathlib.Core.List.{map}
use Rattle.palindromes.specs.Word.{is_empty, same_word, mismatch_from, member, keep, distinct}
use Rattle.palindromes.specs.Palindrome.{mirror, first_mismatch, is_symmetric, is_palindrome}
use Rattle.palindromes.specs.Reading.{complement, reading_number, rule_in}
use Rattle.palindromes.specs.Place.{starts_with, places_from, places, first, first_place}
use Rattle.palindromes.specs.Record.{prefixes, suffixes, suffixes_of_each, stretches, palindromes}
use Rattle.palindromes.specs.Bed.{is_identifier_byte, all_identifier_bytes, is_identifier, digits_before, decimal, bed_line, bed_lines, listing}
use Rattle.palindromes.specs.Interval.{word_at}
use Rattle.palindromes.specs.Digits.{value_from, value}
use Rattle.palindromes.specs.Sheet.{in_first, split, all_digits, needless_zero, is_number, line_of, with_line, lines_of, sheet_lines, is_sheet, lines_in}
use Rattle.palindromes.specs.Marks.{named, is_naming, mark_of, counted, with_named, missing_from, counts_from, counts_of, full_marks, sheet_counts}
use Rattle.palindromes.specs.Refusal.{fault, first_fault, question_faults, faults, refusal}
use Rattle.known_answers.specs.Sheets.{Example, Result, in_order, view_for, result_of, examples}

pub sheet-answers : map (λ (x : Example × Result). result_of x.0) examples ≡ map (λ (x : Example × Result). x.1) examples
unfolding is_empty same_word mismatch_from member keep distinct mirror first_mismatch is_symmetric is_palindrome complement reading_number rule_in starts_with places_from
    places first first_place prefixes suffixes suffixes_of_each stretches palindromes is_identifier_byte all_identifier_bytes is_identifier digits_before decimal bed_line
    bed_lines listing fault first_fault question_faults faults refusal value_from value in_first split all_digits needless_zero is_number line_of with_line lines_of
    sheet_lines is_sheet is_naming named word_at mark_of counted with_named missing_from counts_from counts_of full_marks lines_in sheet_counts in_order view_for result_of
sheet-answers = refl
