-- One law for every question, in place of one for each. Where nothing refuses it, an answer packed as `answer_to` says keeps the promise
-- (`question-answered`), and its numbers fit (`question-packs`); what a call that is not refused tells of its arguments, test by test
-- (`none-applies`, `passed`). And one law for the questions that only a short output refuses: what such a question comes to, by the length of the
-- output (`Writing`, `with-room`, `without-room`). Rests on `Promises` and `Fits`.
use Prim.Native.Nat.{ℕ, zero, suc, ◌<◌, ◌≤◌}
use native.Mathlib.Omega.{arith}
use mathlib.Core.Path.{◌≡◌, refl, sym, ap, ap₂, ◌∙◌}
use mathlib.Core.Bool.{Bool, true, false}
use mathlib.Core.List.{List, [], ◌∷◌}
use lib.Dec.{ltb, eqb}
use lib.ListN.{length}
use borrow.Author.Tests.{lt-ltb, le-ltb, ltb-false}
use Rattle.palindromes.specs.Word.{Word}
use Rattle.palindromes.specs.Interval.{interval_bytes}
use Rattle.palindromes.specs.MinimalUnique.{minimal_unique}
use Rattle.palindromes.specs.Node.{spelling_of}
use Rattle.palindromes.specs.Genbank.{genbank}
use Rattle.palindromes.specs.Reading.{reading_number}
use Rattle.palindromes.specs.Factorization.{palindromic_length, factor_ends, end_bytes}
use Rattle.palindromes.specs.Bed.{is_identifier}
use Rattle.palindromes.specs.Sheet.{sheet_lines, is_sheet}
use Rattle.palindromes.specs.Marks.{sheet_counts, full_marks, low_bytes, counts_bytes}
use Rattle.palindromes.specs.Refusal.{Question, page, the_minimal_unique, the_pieces, spell, ask, fault, first_fault, faults, question_faults, refusal}
use Rattle.palindromes.specs.Refusal.{mark, is_free, spelling_length}
use Rattle.store.specs.Layout.{reading_in, used_in, letters_in}
use Rattle.store.specs.Good.{rule_of, node_in}
use Rattle.outcome.specs.Reply.{Reply, packed, accepted, Answer, answer, tells, answered}
use Rattle.outcome.specs.Outcome.{Lent, Outcome, view_in, written, answer_to, lent_after, accepted_outcome, refused_outcome, outcome}
use Rattle.outcome.specs.Promise.{lending, Promise}
use Rattle.outcome.proofs.Promises.{carried, Answerable}
use Rattle.outcome.proofs.Refusals.{spell-used, carried-out, refused-out}
use Rattle.outcome.proofs.Fits.{answer-fits}

-- ---- every question

-- the promise of one that nothing refuses
pub question-answered : (q : Question) (b : Word) (l : Lent) → Answerable (ask q) b l → {r : ℕ} {l' : Lent} → r ≡ packed (answered (answer_to q b))
    → l' ≡ lent_after q b l → Promise (ask q) b l r b l'
unfolding accepted_outcome
question-answered q b l a p e = carried (ask q) b l a.good a.clear (record { reply = p; store = refl; lent = e })

-- its numbers fit their two bytes each
pub question-packs : (q : Question) (b : Word) (l : Lent) → Answerable (ask q) b l
    → ((answer_to q b).row < 65536) × ((answer_to q b).first < 65536) × ((answer_to q b).second < 65536)
unfolding accepted
question-packs q b l a = let f = answer-fits a.good q l a.clear in (f.row, f.first, f.second)

-- what a call that is not refused tells: no test of its rows of the table applies
abbrev pub NoneApplies : List ℕ → Type 0
NoneApplies [] = Unit {0}
NoneApplies (n ∷ ns) = (n ≡ 0) × NoneApplies ns

pub none-applies : (ns : List ℕ) → first_fault ns ≡ 0 → NoneApplies ns
unfolding first_fault
none-applies [] e = tt
none-applies (zero ∷ ns) e = (refl, none-applies ns e)
none-applies (suc n ∷ ns) e = absurd (omega arith)

pub passed : (n : ℕ) (t : Bool) → fault (suc n) t ≡ 0 → t ≡ false
unfolding fault
passed n true e = absurd (omega arith)
passed n false e = refl

-- spelling: the row is in use, and there is room for what it spells
pub spell-allowed : (r : ℕ) (b : Word) (l : Lent) → Answerable (ask (spell r)) b l
    → (used_in b r ≡ true) × (length (spelling_of (node_in b r)) ≤ length l.out)
unfolding refusal faults question_faults view_in is_free spelling_length
spell-allowed r b l a =
    let u = spell-used b l r a.clear in
    let h = none-applies _ a.clear in
    (u, ltb-false (length l.out) (length (spelling_of (node_in b r))) (rw u at (passed 8 _ h.1.1.0)))

-- ---- questions that only a short output refuses

-- on the store b such a question answers x and writes w at the front of the output
pub record Writing (q : Question) (x : Answer) (w b : Word) : Type 0 where
  pub answers : answer_to q b ≡ x
  pub leaves : (l : Lent) → lent_after q b l ≡ lending l.scratch (written w l.out)
  pub measured : (l : Lent) → refusal (rule_of b) (view_in b l) (ask q) ≡ first_fault (fault 9 (ltb (length l.out) (length w)) ∷ [])

pub page-writing : (b : Word) → Writing page (tells (length (genbank (letters_in b)))) (genbank (letters_in b)) b
unfolding answer_to lent_after refusal faults question_faults view_in first_fault fault
page-writing b = record { answers = refl; leaves = λ l. refl; measured = λ l. refl }

pub minimal-writing : (b : Word)
    → let list = minimal_unique (rule_of b) (letters_in b) in
    Writing the_minimal_unique (tells (length list)) (interval_bytes list) b
unfolding answer_to lent_after refusal faults question_faults view_in first_fault fault
minimal-writing b = record { answers = refl; leaves = λ l. refl; measured = λ l. refl }

-- the pieces of a plain record
pub pieces-writing : (b : Word) → reading_in b ≡ 0
    → Writing the_pieces (tells (palindromic_length (rule_of b) (letters_in b))) (end_bytes (factor_ends (rule_of b) (letters_in b))) b
unfolding answer_to lent_after refusal faults question_faults view_in first_fault fault reading_number
pieces-writing b z =
    record {
      answers = refl;
      leaves = λ l. refl;
      measured = λ l.
          let short = ltb (length l.out) (length (end_bytes (factor_ends (rule_of b) (letters_in b)))) in
          ap (λ (m : ℕ). first_fault (fault 14 (eqb m 1) ∷ fault 9 short ∷ [])) z;
    }

-- a sheet that is one, marked under an identifier that is one
pub mark-writing : (b name sheet : Word) → is_identifier name ≡ true → is_sheet (sheet_lines sheet) ≡ true
    → let counts = sheet_counts (rule_of b) name (letters_in b) sheet in
    Writing (mark name sheet) (answer (full_marks counts) 0 0 0) (counts_bytes counts) b
unfolding answer_to lent_after refusal faults question_faults view_in first_fault fault counts_bytes low_bytes
mark-writing b name sheet h k = record { answers = refl; leaves = λ l. refl; measured = λ l. rw (h, k) refl }

module _ {q : Question} {x : Answer} {w b : Word} (f : Writing q x w b) (l : Lent) where
  pub too_short : length l.out < length w → refusal (rule_of b) (view_in b l) (ask q) ≡ 9
  unfolding first_fault fault
  too_short h = f.measured l ∙ ap (λ (t : Bool). first_fault (fault 9 t ∷ [])) (lt-ltb (length l.out) (length w) h)

  pub long-enough : length w ≤ length l.out → refusal (rule_of b) (view_in b l) (ask q) ≡ 0
  unfolding first_fault fault
  long-enough h = f.measured l ∙ ap (λ (t : Bool). first_fault (fault 9 t ∷ [])) (le-ltb (length l.out) (length w) h)

  -- and where it is not refused, there is room
  pub room : refusal (rule_of b) (view_in b l) (ask q) ≡ 0 → length w ≤ length l.out
  room z = ltb-false (length l.out) (length w) (passed 8 _ (none-applies _ (sym (f.measured l) ∙ z)).0)

  -- what it comes to
  abbrev came : Reply → Lent → Outcome
  came r m = record { reply = r; store = b; lent = m }

  pub with-room : length w ≤ length l.out
      → outcome (ask q) b l ≡ record { reply = answered x; store = b; lent = lending l.scratch (written w l.out) }
  unfolding accepted_outcome
  with-room h = carried-out (ask q) b l (long-enough h) ∙ ap₂ came (ap answered f.answers) (f.leaves l)

  pub without-room : length l.out < length w → outcome (ask q) b l ≡ refused_outcome 9 b l
  without-room h = refused-out (ask q) b l 8 (too_short h)
