-- DEFINITIONS. The outcome of each store call: its reply, and what every lent byte holds after it. Nothing here is proved.
use Rattle.std.specs.Prelude.{ℕ, zero, suc, ◌≡◌, true, false, cond, length, get_or, replicate}
use Rattle.std.proofs.Math.Option.{none, some}
use Rattle.std.proofs.lemmas.List.Edits.{sets}
use Rattle.palindromes.specs.Word.{Word, member}
use Rattle.palindromes.specs.Mismatch.{reported_mismatch}
use Rattle.palindromes.specs.Reading.{reading_number}
use Rattle.palindromes.specs.Place.{frequency, stands_once}
use Rattle.palindromes.specs.Record.{palindromes, count, longest_length, longest_place}
use Rattle.palindromes.specs.Occurrences.{occurrences_by_row, occurrences_by_end}
use Rattle.palindromes.specs.End.{letter_at}
use Rattle.palindromes.specs.Interval.{interval_bytes}
use Rattle.palindromes.specs.MinimalUnique.{minimal_unique}
use Rattle.palindromes.specs.Node.{spelt, length_of, link_of, inner_of, spelling_of}
use Rattle.palindromes.specs.Bed.{listing}
use Rattle.palindromes.specs.Genbank.{genbank}
use Rattle.palindromes.specs.Factorization.{palindromic_length, factor_ends, end_bytes}
use Rattle.palindromes.specs.Marks.{sheet_counts, full_marks, counts_bytes}
use Rattle.palindromes.specs.Refusal.{Question, the_length, the_count, the_longest, the_longest_length, the_occurrences, page, the_minimal_unique, the_pieces}
use Rattle.palindromes.specs.Refusal.{the_longest_at, the_letter, the_row, the_frequency, spell, find, list, mark, Call, opening, add, remove, turn, ask, View}
use Rattle.palindromes.specs.Refusal.{scratch_size, refusal}
use Rattle.palindromes.specs.SearchSteps.{reported_steps}
use Rattle.store.specs.Layout.{capacity_in, reading_in, used_in, letters_in}
use Rattle.store.specs.Good.{rule_of, node_in, Good}
use Rattle.transitions.specs.Rows.{row_of}
use Rattle.transitions.specs.Opening.{opened}
use Rattle.transitions.specs.Addition.{brings_in, row_after, after_addition}
use Rattle.transitions.specs.Removal.{longest_before, takes_out, after_removal}
use Rattle.transitions.specs.Turning.{turned}
use Rattle.outcome.specs.Reply.{Reply, refused_with, accepted, Answer, answer, answered, twos_complement}
use Rattle.outcome.specs.Wide.{wide_answer}
use Rattle.outcome.specs.Answers.{added_of, added_reply, removed_of, removed_reply, found_of, found_answer}

-- the buffers that are lent with a call, beside the store, for it to write to; empty where the call takes none
pub record Lent : Type 0 where
  pub scratch : Word
  pub out : Word

-- what a call answers, and the store and the buffers after it
pub record Outcome : Type 0 where
  pub reply : Reply
  pub store : Word
  pub lent : Lent

-- what a good store shows a call
unfoldable pub view_in : Word → Lent → View
view_in b l =
    record {
      size = length b;
      scratch = length l.scratch;
      out = length l.out;
      good = true;
      capacity = capacity_in b;
      reading = reading_in b;
      letters = letters_in b;
      row = λ r. cond (used_in b r) (some (node_in b r)) none;
    }

-- 01 "a refusal answers its number, zero in every other field, and changes no byte lent"
unfoldable pub refused_outcome : ℕ → Word → Lent → Outcome
refused_outcome n b l = record { reply = refused_with n; store = b; lent = l }

-- a change: the store after it, and no other buffer touched
unfoldable pub changed : Reply → Word → Lent → Outcome
changed r b l = record { reply = r; store = b; lent = l }

-- what was written, at the front of a buffer whose later bytes stay
unfoldable pub written : Word → Word → Word
written w out = sets out 0 w

-- what a good store answers to a question, beside the number 0
unfoldable pub answer_to : Question → Word → Answer
answer_to the_length b = answer false 0 (length (letters_in b)) 0
answer_to the_count b = answer false 0 (count (rule_of b) (letters_in b)) 0
answer_to the_longest b = answer false 0 (longest_length (rule_of b) (letters_in b)) (longest_place (rule_of b) (letters_in b))
answer_to the_longest_length b = answer false 0 (longest_length (rule_of b) (letters_in b)) 0
answer_to the_occurrences b = wide_answer (occurrences_by_row (rule_of b) (letters_in b)) (occurrences_by_end (rule_of b) (letters_in b))
answer_to page b = answer false 0 (length (genbank (letters_in b))) 0
answer_to the_minimal_unique b = answer false 0 (length (minimal_unique (rule_of b) (letters_in b))) 0
answer_to the_pieces b = answer false 0 (palindromic_length (rule_of b) (letters_in b)) 0
answer_to (the_longest_at e) b = answer (stands_once (longest_before e b) (letters_in b)) (row_of b (spelt (longest_before e b))) 0 0
answer_to (the_letter i) b = answer false 0 (get_or (letters_in b) i 0) 0
answer_to (the_row r) b = answer false (row_of b (link_of (rule_of b) (node_in b r))) (twos_complement (length_of (node_in b r))) (row_of b (inner_of (node_in b r)))
answer_to (the_frequency r) b = answer false 0 (frequency (spelling_of (node_in b r)) (letters_in b)) 0
answer_to (spell r) b = answer false 0 (length (spelling_of (node_in b r))) 0
answer_to (find p) b = found_answer (found_of (member p (palindromes (rule_of b) (letters_in b))) (row_of b (spelt p)) (reported_mismatch (rule_of b) p))
answer_to (list name) b = answer false 0 (length (listing (rule_of b) name (letters_in b))) 0
answer_to (mark name sheet) b = answer (full_marks (sheet_counts (rule_of b) name (letters_in b) sheet)) 0 0 0

-- and what it leaves in the buffers that are lent with it
unfoldable pub lent_after : Question → Word → Lent → Lent
lent_after the_length b l = l
lent_after the_count b l = l
lent_after the_longest b l = l
lent_after the_longest_length b l = l
lent_after the_occurrences b l = l
lent_after page b l = record { scratch = l.scratch; out = written (genbank (letters_in b)) l.out }
lent_after the_minimal_unique b l = record { scratch = l.scratch; out = written (interval_bytes (minimal_unique (rule_of b) (letters_in b))) l.out }
lent_after the_pieces b l = record { scratch = l.scratch; out = written (end_bytes (factor_ends (rule_of b) (letters_in b))) l.out }
lent_after (the_longest_at e) b l = l
lent_after (the_letter i) b l = l
lent_after (the_row r) b l = l
lent_after (the_frequency r) b l = l
lent_after (spell r) b l = record { scratch = l.scratch; out = written (spelling_of (node_in b r)) l.out }
lent_after (find p) b l = l
lent_after (list name) b l =
    record { scratch = written (replicate (scratch_size (length (letters_in b))) 0) l.scratch; out = written (listing (rule_of b) name (letters_in b)) l.out }
lent_after (mark name sheet) b l =
    record { scratch = l.scratch; out = written (counts_bytes (sheet_counts (rule_of b) name (letters_in b) sheet)) l.out }

-- an accepted call. 01 "Questions and changes"; a question changes no byte of the store
unfoldable pub accepted_outcome : Call → Word → Lent → Outcome
accepted_outcome (opening way k) b l = changed (accepted false 0 0 0) (opened (reading_number way) k b) l
accepted_outcome (add e c) b l =
    changed (added_reply (added_of (brings_in e c b) (row_after e c b) (reported_steps (reading_in b) e c (letters_in b)))) (after_addition e c b) l
accepted_outcome (remove e) b l =
    changed (removed_reply (removed_of (takes_out e b) (letter_at e (letters_in b)) (row_of b (spelt (longest_before e b))))) (after_removal e b) l
accepted_outcome (turn way) b l = changed (accepted false 0 0 0) (turned (reading_number way) b) l
accepted_outcome (ask q) b l = record { reply = answered (answer_to q b); store = b; lent = lent_after q b l }

unfoldable pub unless_refused : ℕ → Call → Word → Lent → Outcome
unless_refused zero call b l = accepted_outcome call b l
unless_refused (suc n) call b l = refused_outcome (suc n) b l

-- the outcome of a call on a good store, and of an opening on any: carried out if no row of the table of numbers applies, and else refused
unfoldable pub outcome : Call → Word → Lent → Outcome
outcome call b l = unless_refused (refusal (rule_of b) (view_in b l) call) call b l

-- what a call on a store must come to: 3 first, for a store that is not good; else its outcome
pub record Answers (call : Call) (b : Word) (l : Lent) (o : Outcome) : Type 0 where
  pub good : Good b → o ≡ outcome call b l
  pub damaged : (Good b → ⊥) → o ≡ refused_outcome 3 b l
