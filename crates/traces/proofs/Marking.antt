-- Marking a sheet after every list of calls: `marking-after`. Rests on the state that the theorem about lists carries, on the one law for questions that
-- write (`writes`), and on the laws of marks (`mark_laws`).
use Prim.Native.Nat.{ℕ, ◌≤◌, ◌<◌}
use native.Mathlib.Omega.{arith}
use mathlib.Core.Path.{◌≡◌, ap, subst}
use mathlib.Core.Bool.{true}
use mathlib.Core.List.{List}
use lib.ListN.{length}
use Rattle.palindromes.specs.Word.{Word}
use Rattle.palindromes.specs.Reading.{Reading, reading_number, rule_in}
use Rattle.palindromes.specs.Bed.{is_identifier}
use Rattle.palindromes.specs.Sheet.{sheet_lines, is_sheet, lines_in}
use Rattle.palindromes.specs.Marks.{sheet_counts, full_marks, counts_bytes, counts_read}
use Rattle.palindromes.proofs.Palindromes.{count-length}
use Rattle.mark_laws.specs.Full.{Full}
use Rattle.mark_laws.proofs.Bytes.{counts-length, counts-read}
use Rattle.mark_laws.proofs.Totals.{right-missing, all_lines, lines-few}
use Rattle.mark_laws.proofs.Full.{full_is, is-full}
use Rattle.mark_laws.proofs.Own.{own-sheet, own-full}
use Rattle.mark_laws.proofs.Slips.{slip-not-full}
use Rattle.store.specs.Layout.{letters_in}
use Rattle.transitions.specs.Bytes.{Bytes}
use Rattle.outcome.specs.Reply.{refusal_in}
use Rattle.outcome.specs.Promise.{OpeningPromise}
use Rattle.outcome.proofs.Fits.{few}
use Rattle.outcome.proofs.Refusals.{mark-name, mark-sheet}
use Rattle.outcome.proofs.Questions.{mark-writing}
use Rattle.traces.specs.Run.{Step, store_after, Run, letters_after, reading_after, row_after}
use Rattle.traces.specs.Marking.{counts_after, Marked, Marking}
use Rattle.traces.proofs.State.{State}
use Rattle.traces.proofs.Theorem.{state-after}
use Rattle.traces.proofs.Writes.{writes, refuses}

-- ---- of any letters

-- the lines of a sheet are full marks' lines both ways
lines-full : (σ : ℕ → ℕ) (name s sheet : Word) → full_marks (sheet_counts σ name s sheet) ≡ true → Full σ name s (lines_in (sheet_lines sheet))
unfolding sheet_counts
lines-full σ name s sheet = full_is σ name s (lines_in (sheet_lines sheet))

full-lines : (σ : ℕ → ℕ) (name s sheet : Word) → Full σ name s (lines_in (sheet_lines sheet)) → full_marks (sheet_counts σ name s sheet) ≡ true
unfolding sheet_counts
full-lines σ name s sheet = is-full σ name s (lines_in (sheet_lines sheet))

-- no count of a sheet that a host can lend takes more than eight bytes
read-counts : (σ : ℕ → ℕ) (name s sheet : Word) → length s ≤ 1024 → length sheet < 18446744073709551616
    → counts_read (counts_bytes (sheet_counts σ name s sheet)) ≡ sheet_counts σ name s sheet
read-counts σ name s sheet h k =
    let t = sheet_counts σ name s sheet in
    let lines = all_lines σ name s sheet in
    let few = lines-few sheet in
    let missing = right-missing σ name s sheet in
    let most = count-length σ s in
    counts-read t
    (record {
      right = omega (arith, lines, few, k);
      repeated = omega (arith, lines, few, k);
      wrong = omega (arith, lines, few, k);
      missing = omega (arith, missing, most, h);
    })

module _ (m k : ℕ) (s : Word) (row : Word → ℕ) (b : Word) (st : State m k s row b) where
  -- the store's own rule and letters are those that follow from the arguments
  marked : (name sheet : Word) → is_identifier name ≡ true → is_sheet (sheet_lines sheet) ≡ true → Marked m s name sheet b
  marked name sheet h i =
      let own = writes st.good (mark-writing b name sheet h i) in
      subst (λ (w : Word). Marked m w name sheet b) st.letters (subst (λ (n : ℕ). Marked n (letters_in b) name sheet b) st.reading own)

  letters-few : length s ≤ 1024
  letters-few = omega (arith, few st.good, ap length st.letters)

  marking-of : Marking m s b
  marking-of =
      let σ = rule_in m in
      record {
        bad-name = λ name sheet h. refuses st.good 9 (λ l. mark-name b l name sheet h);
        bad-sheet = λ name sheet h i. refuses st.good 12 (λ l. mark-sheet b l name sheet h i);
        marked = marked;
        size = λ name sheet. counts-length (counts_after m s name sheet);
        read = λ name sheet. read-counts σ name s sheet letters-few;
        repeats = λ name sheet. right-missing σ name s sheet;
        lines = λ name sheet. all_lines σ name s sheet;
        full = λ name sheet. lines-full σ name s sheet;
        is-full = λ name sheet. full-lines σ name s sheet;
        own-sheet = λ name h. own-sheet name h σ s letters-few;
        own-full = λ name h. own-full name h σ s letters-few;
        slip = λ name sheet h. slip-not-full name h σ s letters-few sheet;
      }

-- 02 (xi). For either reading, every capacity and every lent store on which an opening answers 0, and every list of calls that follows, each of which
-- keeps the contract of its exported function
module _ (way : Reading) (k : ℕ) (b₀ : Word) (h : Bytes b₀) (a : ℕ) (b : Word) (p : OpeningPromise way k b₀ a b) (z : refusal_in a ≡ 0) where
  pub marking-after : {xs : List Step} → Run b xs → Marking (reading_after (reading_number way) xs) (letters_after k xs) (store_after b xs)
  marking-after {xs} r =
      let m = reading_after (reading_number way) xs in
      let row : Word → ℕ = λ w. row_after (reading_number way) k xs w in
      marking-of m k (letters_after k xs) row (store_after b xs) (state-after way k b₀ h a b p z r)
