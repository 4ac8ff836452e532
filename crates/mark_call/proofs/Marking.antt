-- What marking a sheet promises, on plain values. Rests on the one law for questions that write (`Writing` of outcome).
use Prim.Native.Nat.{ℕ, ◌≤◌, ◌<◌}
use mathlib.Core.Path.{◌≡◌, refl, sym, ap, ◌∙◌}
use mathlib.Core.Bool.{Bool, true, false, ◌&&◌}
use mathlib.Core.List.{List, []}
use mathlib.Core.Option.{Option, none, some}
use lib.Dec.{eqb}
use lib.ListN.{length}
use lib.Seq.{sets}
use Rattle.palindromes.specs.Word.{Word}
use Rattle.palindromes.specs.Bed.{is_identifier}
use Rattle.palindromes.specs.Sheet.{Line, sheet_lines, is_sheet, lines_in}
use Rattle.palindromes.specs.Marks.{Counts, counts_of, sheet_counts, full_marks, low_bytes, counts_bytes}
use Rattle.palindromes.specs.Refusal.{ask, mark}
use Rattle.store.specs.Layout.{letters_in}
use Rattle.store.specs.Good.{rule_of, Good}
use Rattle.outcome.specs.Reply.{packed, accepted}
use Rattle.outcome.specs.Outcome.{answer_to, lent_after, written}
use Rattle.outcome.specs.Promise.{Promise, lending}
use Rattle.outcome.specs.Verdict.{Verdict, judged}
use Rattle.outcome.proofs.Refusals.{mark-name, mark-sheet}
use Rattle.outcome.proofs.Promises.{Answerable}
use Rattle.outcome.proofs.Questions.{question-answered, mark-writing, too_short, long-enough}
use Rattle.std.specs.Prelude.{Some, None}
use Rattle.tally.specs.declared.Tally.{Tally}
use Rattle.tally.specs.Counts as tally
use Rattle.std.proofs.lemmas.Option.{same_Some}
use Rattle.marking.specs.SheetMarks.{counts_in, sheet_marks_of, marks_of}

-- what the reading of the sheet came to
module _ (σ : ℕ → ℕ) (name s : Word) where
  no-sheet : (o : Option (List Line)) → sheet_marks_of (counts_in σ name s [] o) ≡ None → is_sheet o ≡ false
  unfolding counts_in sheet_marks_of is_sheet
  no-sheet none e = refl
  no-sheet (some ls) e = cc

  a-sheet : (o : Option (List Line)) (t : Tally) → sheet_marks_of (counts_in σ name s [] o) ≡ Some t
      → (is_sheet o ≡ true) × (counts_of σ name s (lines_in o) ≡ tally.counts_in t)
  unfolding counts_in sheet_marks_of is_sheet lines_in counts_of
  a-sheet none t e = cc
  a-sheet (some ls) t e = (refl, ap tally.counts_in (same_Some _ t e))

module _ {b : Word} (g : Good b) (name sheet out : Word) where
  abbrev Judged : ℕ → Type 0
  Judged n = Verdict (ask (mark name sheet)) b (lending [] out) n

  pub bad-name : is_identifier name ≡ false → Judged 10
  bad-name h = judged g (sym (mark-name b (lending [] out) name sheet h))

  module _ (h : is_identifier name ≡ true) where
    pub bad-sheet : marks_of b name sheet ≡ None → Judged 13
    bad-sheet e = judged g (sym (mark-sheet b (lending [] out) name sheet h (no-sheet (rule_of b) name (letters_in b) (sheet_lines sheet) e)))

    module _ {t : Tally} (e : marks_of b name sheet ≡ Some t) where
      abbrev counts : Counts
      counts = tally.counts_in t

      read : (is_sheet (sheet_lines sheet) ≡ true) × (counts_of (rule_of b) name (letters_in b) (lines_in (sheet_lines sheet)) ≡ counts)
      read = a-sheet (rule_of b) name (letters_in b) (sheet_lines sheet) t e

      pub no_room : length out < 32 → Judged 9
      unfolding counts_bytes low_bytes
      no_room k = judged g (sym (too_short (mark-writing b name sheet h read.0) (lending [] out) k))

      clear : 32 ≤ length out → Answerable (ask (mark name sheet)) b (lending [] out)
      unfolding counts_bytes low_bytes
      clear k = record { good = g; clear = long-enough (mark-writing b name sheet h read.0) (lending [] out) k }

      pub marked : 32 ≤ length out → {x : ℕ} {full : Bool} {out' : Word} → full ≡ (eqb t.repeated 0 && eqb t.wrong 0 && eqb t.missing 0)
          → x ≡ packed (accepted full 0 0 0)
          → out' ≡ sets out 0 (counts_bytes counts)
          → Promise (ask (mark name sheet)) b (lending [] out) x b (lending [] out')
      unfolding answer_to lent_after written sheet_counts full_marks
      marked k f q z =
          let flag = f ∙ sym (ap full_marks read.1) in
          let bytes = z ∙ sym (ap (λ (k : Counts). sets out 0 (counts_bytes k)) read.1) in
          question-answered (mark name sheet) b (lending [] out) (clear k) (q ∙ ap (λ (k : Bool). packed (accepted k 0 0 0)) flag) (ap (lending []) bytes)
