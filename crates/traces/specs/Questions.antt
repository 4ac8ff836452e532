-- DEFINITIONS. What is claimed of every question after every list of calls, said once for all of them: the answer, the number and every lent byte are
-- those that `answer_from`, `lent_from` and the table of numbers give for the letters, the reading, the capacity and the rows that follow from the list.
-- m is the reading, k the capacity, s the letters, row the rows of their repeats and b the store. Nothing here is proved.
use Rattle.std.specs.Prelude.{ℕ, zero, suc, ◌≡◌, true, false, cond, List, [], ◌∷◌, eqb, length, get_or, replicate}
use Rattle.std.proofs.Math.Option.{Option, none, some}
use Rattle.palindromes.specs.Word.{Word, member}
use Rattle.palindromes.specs.Palindrome.{Palindrome}
use Rattle.palindromes.specs.Mismatch.{reported_mismatch}
use Rattle.palindromes.specs.Reading.{rule_in}
use Rattle.palindromes.specs.Place.{Stands, frequency, stands_once}
use Rattle.palindromes.specs.Record.{palindromes, count, longest_length, longest_place}
use Rattle.palindromes.specs.Occurrences.{occurrences_by_row, occurrences_by_end}
use Rattle.palindromes.specs.End.{longest_at}
use Rattle.palindromes.specs.Interval.{interval_bytes}
use Rattle.palindromes.specs.MinimalUnique.{minimal_unique}
use Rattle.palindromes.specs.Node.{Node, imaginary, spelt, length_of, link_of, inner_of, spelling_of}
use Rattle.palindromes.specs.Bed.{listing}
use Rattle.palindromes.specs.Genbank.{genbank}
use Rattle.palindromes.specs.Factorization.{palindromic_length, factor_ends, end_bytes}
use Rattle.palindromes.specs.Marks.{sheet_counts, full_marks, counts_bytes}
use Rattle.palindromes.specs.Refusal.{Question, the_length, the_count, the_longest, the_longest_length, the_occurrences, page, the_minimal_unique, the_pieces}
use Rattle.palindromes.specs.Refusal.{the_longest_at, the_letter, the_row, the_frequency, spell, find, list, mark, View, ask, scratch_size, refusal}
use Rattle.outcome.specs.Reply.{Answer, answer, answered, twos_complement, unpacked}
use Rattle.outcome.specs.Wide.{wide_answer}
use Rattle.outcome.specs.Answers.{found_of, found_answer}
use Rattle.outcome.specs.Outcome.{Lent, Outcome, written, refused_outcome}
use Rattle.outcome.specs.Promise.{Promise}
use Rattle.traces.specs.Claims.{number_of}

-- ---- what a question is about, and its answer from that alone

-- the partner rule and the letters of the record, the row of each node, and the node that each row holds
pub record Contents : Type 0 where
  pub rule : ℕ → ℕ
  pub letters : Word
  pub row_for : Node → ℕ
  pub node : ℕ → Node

-- what is answered to a question, beside the number 0: `answer_to` of the outcomes, of the contents instead of a store
unfoldable pub answer_from : Question → Contents → Answer
answer_from the_length c = answer false 0 (length c.letters) 0
answer_from the_count c = answer false 0 (count c.rule c.letters) 0
answer_from the_longest c = answer false 0 (longest_length c.rule c.letters) (longest_place c.rule c.letters)
answer_from the_longest_length c = answer false 0 (longest_length c.rule c.letters) 0
answer_from the_occurrences c = wide_answer (occurrences_by_row c.rule c.letters) (occurrences_by_end c.rule c.letters)
answer_from page c = answer false 0 (length (genbank c.letters)) 0
answer_from the_minimal_unique c = answer false 0 (length (minimal_unique c.rule c.letters)) 0
answer_from the_pieces c = answer false 0 (palindromic_length c.rule c.letters) 0
answer_from (the_longest_at e) c =
    let w = longest_at c.rule e c.letters in
    answer (stands_once w c.letters) (c.row_for (spelt w)) 0 0
answer_from (the_letter i) c = answer false 0 (get_or c.letters i 0) 0
answer_from (the_row r) c = answer false (c.row_for (link_of c.rule (c.node r))) (twos_complement (length_of (c.node r))) (c.row_for (inner_of (c.node r)))
answer_from (the_frequency r) c = answer false 0 (frequency (spelling_of (c.node r)) c.letters) 0
answer_from (spell r) c = answer false 0 (length (spelling_of (c.node r))) 0
answer_from (find p) c = found_answer (found_of (member p (palindromes c.rule c.letters)) (c.row_for (spelt p)) (reported_mismatch c.rule p))
answer_from (list name) c = answer false 0 (length (listing c.rule name c.letters)) 0
answer_from (mark name sheet) c = answer (full_marks (sheet_counts c.rule name c.letters sheet)) 0 0 0

-- and what it leaves in the buffers that are lent with it: `lent_after` of the outcomes
unfoldable pub lent_from : Question → Contents → Lent → Lent
lent_from the_length c l = l
lent_from the_count c l = l
lent_from the_longest c l = l
lent_from the_longest_length c l = l
lent_from the_occurrences c l = l
lent_from page c l = record { scratch = l.scratch; out = written (genbank c.letters) l.out }
lent_from the_minimal_unique c l = record { scratch = l.scratch; out = written (interval_bytes (minimal_unique c.rule c.letters)) l.out }
lent_from the_pieces c l = record { scratch = l.scratch; out = written (end_bytes (factor_ends c.rule c.letters)) l.out }
lent_from (the_longest_at e) c l = l
lent_from (the_letter i) c l = l
lent_from (the_row r) c l = l
lent_from (the_frequency r) c l = l
lent_from (spell r) c l = record { scratch = l.scratch; out = written (spelling_of (c.node r)) l.out }
lent_from (find p) c l = l
lent_from (list name) c l =
    record { scratch = written (replicate (scratch_size (length c.letters)) 0) l.scratch; out = written (listing c.rule name c.letters) l.out }
lent_from (mark name sheet) c l =
    record { scratch = l.scratch; out = written (counts_bytes (sheet_counts c.rule name c.letters sheet)) l.out }

-- ---- what follows from the list

-- the word of the list whose row is r
unfoldable pub word_of_row : (Word → ℕ) → ℕ → List Word → Option Node
word_of_row row r [] = none
word_of_row row r (w ∷ ws) = cond (eqb (row w) r) (some (spelt w)) (word_of_row row r ws)

-- what a row holds: rows 0 and 1 the roots, any other the repeat whose row it is, and none where it is no repeat's
unfoldable pub held_at : (m : ℕ) (s : Word) → (Word → ℕ) → ℕ → Option Node
held_at m s row zero = some imaginary
held_at m s row (suc zero) = some (spelt [])
held_at m s row (suc (suc r)) = word_of_row row (suc (suc r)) (palindromes (rule_in m) s)

-- the node; of a row that holds none nothing is answered
abbrev pub node_or : Option Node → Node
node_or none = imaginary
node_or (some v) = v

-- what the questions are about
abbrev pub contents_after : (m : ℕ) (s : Word) → (Word → ℕ) → Contents
contents_after m s row = record { rule = rule_in m; letters = s; row_for = λ v. number_of row v; node = λ r. node_or (held_at m s row r) }

-- and what the table of numbers looks at, with the buffers l
abbrev pub view_after : (m k : ℕ) (s : Word) → (Word → ℕ) → Word → Lent → View
view_after m k s row b l =
    record {
      size = length b;
      scratch = length l.scratch;
      out = length l.out;
      good = true;
      capacity = k;
      reading = m;
      letters = s;
      row = λ r. held_at m s row r;
    }

-- a question with the refusal number n: carried out where it is 0, and else refused; the store stays either way
unfoldable pub question_outcome : (n : ℕ) → Question → Contents → Word → Lent → Outcome
question_outcome zero q c b l = record { reply = answered (answer_from q c); store = b; lent = lent_from q c l }
question_outcome (suc n) q c b l = refused_outcome (suc n) b l

-- what a question comes to after the list
abbrev pub question_after : (m k : ℕ) (s : Word) → (Word → ℕ) → Word → Question → Lent → Outcome
question_after m k s row b q l = question_outcome (refusal (rule_in m) (view_after m k s row b l) (ask q)) q (contents_after m s row) b l

-- every question, with any arguments and buffers; and a repeat's row holds that repeat, so spelling it writes its letters
pub record Questions (m k : ℕ) (s : Word) (row : Word → ℕ) (b : Word) : Type 0 where
  pub each : (q : Question) (l : Lent) (a : ℕ) (b' : Word) (l' : Lent) → Promise (ask q) b l a b' l'
      → let o = question_after m k s row b q l in
      (unpacked a ≡ o.reply) × (b' ≡ b) × (l' ≡ o.lent)
  pub held : (w : Word) → Palindrome (rule_in m) w → Stands w s → held_at m s row (row w) ≡ some (spelt w)
