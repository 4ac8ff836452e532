-- The fewest pieces after every list of calls: `pieces-after`; and where the last two calls turn the record to inverted and back: `pieces-back`. Rests
-- on the state that the theorem about lists carries, on the one law for questions that write (`writes`), and on the laws of factorizations in palindromes.
use Prim.Native.Nat.{ℕ, ◌≤◌}
use native.Mathlib.Omega.{arith}
use mathlib.Core.Path.{◌≡◌, refl, ap, ◌∙◌, subst}
use mathlib.Core.List.{List, ◌∷◌}
use lib.ListN.{length}
use Rattle.palindromes.specs.Word.{Word}
use Rattle.palindromes.specs.Palindrome.{plain}
use Rattle.palindromes.specs.Reading.{Reading, as_plain, as_inverted, reading_number, rule_in}
use Rattle.palindromes.specs.Factorization.{palindromic_length, factor_ends, end_bytes}
use Rattle.palindromes.specs.Refusal.{Call, the_pieces, turn}
use Rattle.palindromes.proofs.Readings.{rule-of-plain}
use Rattle.palindromes.proofs.PalindromicLengths.{length_most}
use Rattle.palindromes.proofs.MinimalFactorization.{factorization-minimal}
use Rattle.palindromes.proofs.OneFactorization.{factorization-one}
use Rattle.palindromes.proofs.FactorEnds.{ends-number, end-bytes-length, ends_read_lem}
use Rattle.series.proofs.SeriesBound.{steps-few}
use Rattle.store.specs.Layout.{letters_in}
use Rattle.store.specs.Good.{rule_of}
use Rattle.transitions.specs.Bytes.{Bytes}
use Rattle.outcome.specs.Reply.{refusal_in, tells}
use Rattle.outcome.specs.Promise.{OpeningPromise}
use Rattle.outcome.proofs.Fits.{few}
use Rattle.outcome.proofs.Refusals.{pieces-inverted}
use Rattle.outcome.proofs.Questions.{pieces-writing}
use Rattle.traces.specs.Run.{Step, store_after, Run, called, letters_step, letters_after, reading_step, reading_after, row_after}
use Rattle.traces.specs.Writes.{Writes, Refuses}
use Rattle.traces.specs.Pieces.{CutUp, Pieces, TurnedBack}
use Rattle.traces.proofs.State.{State}
use Rattle.traces.proofs.Theorem.{state-after}
use Rattle.traces.proofs.Writes.{writes, refuses}

module _ (m k : ℕ) (s : Word) (row : Word → ℕ) (b : Word) (st : State m k s row b) where
  -- the store's own pieces are those of the letters
  cut : m ≡ 0 → CutUp s b
  cut z =
      let rule : rule_of b ≡ plain = ap rule_in (st.reading ∙ z) ∙ rule-of-plain in
      let own = writes st.good (pieces-writing b (st.reading ∙ z)) in
      subst (λ (w : Word). CutUp w b) st.letters
      (subst (λ (σ : ℕ → ℕ). Writes the_pieces (tells (palindromic_length σ (letters_in b))) (end_bytes (factor_ends σ (letters_in b))) b) rule own)

  inverted : m ≡ 1 → Refuses the_pieces 14 b
  inverted z = refuses st.good 13 (λ l. pieces-inverted b l (st.reading ∙ z))

  letters-few : length s ≤ 1024
  letters-few = omega (arith, few st.good, ap length st.letters)

  pieces_of : Pieces m s b
  pieces_of =
      let r = factorization-minimal plain (λ c. refl) s in
      record {
        cut = cut;
        inverted = inverted;
        factors = r;
        one = λ ps a. factorization-one plain a r.1;
        read = ends_read_lem (factor_ends plain s);
        few = length_most plain s;
        most = omega (arith, end-bytes-length (factor_ends plain s), ends-number plain (λ c. refl) s, length_most plain s, letters-few);
        steps = steps-few plain (λ c. refl) s letters-few;
      }

-- 02 (xiv). For either reading, every capacity and every lent store on which an opening answers 0, and every list of calls that follows, each of
-- which keeps the contract of its exported function
module _ (way : Reading) (k : ℕ) (b₀ : Word) (h : Bytes b₀) (a : ℕ) (b : Word) (p : OpeningPromise way k b₀ a b) (z : refusal_in a ≡ 0) where
  pub pieces-after : {xs : List Step} → Run b xs → Pieces (reading_after (reading_number way) xs) (letters_after k xs) (store_after b xs)
  pieces-after {xs} r =
      let m = reading_after (reading_number way) xs in
      let row : Word → ℕ = λ w. row_after (reading_number way) k xs w in
      pieces_of m k (letters_after k xs) row (store_after b xs) (state-after way k b₀ h a b p z r)

  pub pieces-back : {xs : List Step} (first second : Step) → Run b (second ∷ first ∷ xs) → first.call ≡ turn as_inverted
      → second.call ≡ turn as_plain
      → TurnedBack (letters_after k xs) first.store second.store
  unfolding letters_after letters_step reading_after reading_step reading_number store_after
  pieces-back {xs} first second (called r x q) e f =
      let m = reading_after (reading_number way) xs in
      let s = letters_after k xs in
      let same = ap (λ (c : Call). letters_step k (letters_step k s first.call) c) f ∙ ap (λ (c : Call). letters_step k s c) e in
      record {
        turned = (pieces-after r).inverted (ap (reading_step m) e);
        back = subst (λ (w : Word). CutUp w second.store) same
            ((pieces-after (called r x q)).cut (ap (reading_step (reading_step m first.call)) f));
      }
