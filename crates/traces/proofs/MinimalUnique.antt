-- The minimal unique repeats after every list of calls: `minimal-unique-after`. Rests on the state that the theorem about lists carries, on the one
-- law for questions that write (`writes`), and on the laws of their list in palindromes.
use Prim.Native.Nat.{ℕ}
use native.Mathlib.Omega.{arith}
use mathlib.Core.Path.{◌≡◌, ap, ◌∙◌, subst}
use mathlib.Core.List.{List}
use lib.ListN.{length}
use Rattle.palindromes.specs.Word.{Word}
use Rattle.palindromes.specs.Reading.{Reading, reading_number, rule_in}
use Rattle.palindromes.specs.Interval.{Interval, interval_bytes}
use Rattle.palindromes.specs.MinimalUnique.{minimal_unique}
use Rattle.palindromes.specs.Refusal.{the_minimal_unique}
use Rattle.palindromes.proofs.Intervals.{interval-bytes-length, intervals-read}
use Rattle.palindromes.proofs.MinimalUniqueList.{minimal-few}
use Rattle.store.specs.Layout.{letters_in}
use Rattle.store.specs.Good.{rule_of}
use Rattle.transitions.specs.Bytes.{Bytes}
use Rattle.outcome.specs.Reply.{refusal_in, tells}
use Rattle.outcome.specs.Promise.{OpeningPromise}
use Rattle.outcome.proofs.Fits.{few}
use Rattle.outcome.proofs.Questions.{minimal-writing}
use Rattle.traces.specs.Run.{Step, store_after, Run, letters_after, reading_after, row_after}
use Rattle.traces.specs.Writes.{Writes}
use Rattle.traces.specs.MinimalUnique.{MinimalUniques}
use Rattle.traces.proofs.State.{State, rule-is}
use Rattle.traces.proofs.Theorem.{state-after}
use Rattle.traces.proofs.Writes.{writes}

module _ (m k : ℕ) (s : Word) (row : Word → ℕ) (b : Word) (st : State m k s row b) where
  -- the store's own list is that of the letters and the reading
  same-list : minimal_unique (rule_of b) (letters_in b) ≡ minimal_unique (rule_in m) s
  same-list = ap (λ (σ : ℕ → ℕ). minimal_unique σ (letters_in b)) (rule-is st) ∙ ap (minimal_unique (rule_in m)) st.letters

  minimal-uniques : MinimalUniques m s b
  minimal-uniques =
      let number = minimal-few (rule_in m) s in
      record {
        listed = subst (λ (x : List Interval). Writes the_minimal_unique (tells (length x)) (interval_bytes x) b) same-list
            (writes st.good (minimal-writing b));
        read = intervals-read (minimal_unique (rule_in m) s);
        few = number;
        most = omega (arith, interval-bytes-length (minimal_unique (rule_in m) s), number, few st.good, ap length st.letters);
      }

-- 02 (viii). For either reading, every capacity and every lent store on which an opening answers 0, and every list of calls that follows, each of
-- which keeps the contract of its exported function
module _ (way : Reading) (k : ℕ) (b₀ : Word) (h : Bytes b₀) (a : ℕ) (b : Word) (p : OpeningPromise way k b₀ a b) (z : refusal_in a ≡ 0) where
  pub minimal-unique-after : {xs : List Step} → Run b xs → MinimalUniques (reading_after (reading_number way) xs) (letters_after k xs) (store_after b xs)
  minimal-unique-after {xs} r =
      let m = reading_after (reading_number way) xs in
      let row : Word → ℕ = λ w. row_after (reading_number way) k xs w in
      minimal-uniques m k (letters_after k xs) row (store_after b xs) (state-after way k b₀ h a b p z r)
