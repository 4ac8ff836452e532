-- The count says what the lines hold, and each way out gives the answer that follows.
use Rattle.std.proofs.Common.{◌≡◌, ℕ, true, drop, sym, ap, ◌∙◌, arith}
use Rattle.std.proofs.lemmas.Result.{err_from_is_err_and}
use Rattle.palindromes.specs.Word.{Word}
use Rattle.palindromes.specs.Fasta.{accepted, after_first_line, Body, letters, read_lines, with_identifier}
use Rattle.fasta_later_lines.specs.Passes.{letters_of}
use Rattle.fasta.proofs.Answering.{fault-found, letters-found, good-lines, answers-refusal, answers-short, answers-letters}
use Rattle.fasta.proofs.read_later_lines.Goals as goal

-- the lines that are read at a place are those after the first, so the text says what they hold
abbrev body : Word → ℕ → Body
body text start = read_lines (drop start text) true 1024

module _ (text : Word) (start n : ℕ) (after : drop start text ≡ after_first_line (drop 1 text)) where
  counted-after : with_identifier n (read_lines (after_first_line (drop 1 text)) true 1024) ≡ with_identifier n (body text start)
  counted-after = ap (λ (w : Word). with_identifier n (read_lines w true 1024)) (sym after)

  accepts : body text start ≡ letters (letters_of (body text start)) → with_identifier n (read_lines (after_first_line (drop 1 text)) true 1024) ≡ accepted n (letters_of (body text start))
  accepts good = counted-after ∙ good-lines n (body text start) good

pub returns-in_err-letters : goal.returns-in_err-letters
returns-in_err-letters c =
    let p = err_from_is_err_and c.from_residual.result c.from_residual.ensures.1 in
    rw (p.1, p.2)
    (answers-refusal _ _ _
    (counted-after c.args.text.now c.later_lines_at-start.result c.args.identifier c.later_lines_at-start.ensures
    ∙ fault-found c.args.identifier _ (body c.args.text.now c.later_lines_at-start.result) c.in_err-letters.ensures))

pub returns-then-out-letters : goal.returns-then-out-letters
returns-then-out-letters c =
    let found = letters-found _ (body c.args.text.now c.later_lines_at-start.result) c.in_ok-letters.ensures in
    answers-short _ _ _ _ _ (accepts c.args.text.now c.later_lines_at-start.result c.args.identifier c.later_lines_at-start.ensures found.0) found.1 c.if-out-letters.true

pub write_letters-requires-clause-true_value : goal.write_letters-requires-clause-true_value
write_letters-requires-clause-true_value c = (letters-found _ (body c.args.text.now c.later_lines_at-start.result) c.in_ok-letters.ensures).0

pub write_letters-requires-clause-true_in_bounds : goal.write_letters-requires-clause-true_in_bounds
write_letters-requires-clause-true_in_bounds c = omega (arith, (letters-found _ (body c.args.text.now c.later_lines_at-start.result) c.in_ok-letters.ensures).1, c.if-out-letters.false)

pub returns : goal.returns
returns c =
    let found = letters-found _ (body c.args.text.now c.later_lines_at-start.result) c.in_ok-letters.ensures in
    answers-letters _ _ _ _ _ (accepts c.args.text.now c.later_lines_at-start.result c.args.identifier c.later_lines_at-start.ensures found.0) found.1 _ c.if-out-letters.false c.write_letters.ensures
