-- The printed page after every list of calls: `pages-after`; and that the letters alone decide it: `same-page-after`, for any two lists, capacities and readings, with turns or without.
-- Rests on the state that the theorem about lists carries, on the one law for questions that write (`writes`, `same-written`), and on the laws of the page
-- (`genbank`).
use Prim.Native.Nat.{ℕ, ◌≤◌}
use native.Mathlib.Omega.{arith}
use mathlib.Core.Path.{◌≡◌, sym, ap, ◌∙◌, subst}
use mathlib.Core.Bool.{true}
use mathlib.Core.List.{List}
use lib.ListN.{length}
use Rattle.palindromes.specs.Word.{Word, all_letters}
use Rattle.palindromes.specs.Reading.{Reading, reading_number}
use Rattle.palindromes.specs.Genbank.{genbank}
use Rattle.palindromes.specs.Refusal.{page}
use Rattle.genbank.proofs.Size.{page-most}
use Rattle.genbank.proofs.ReadBack.{page-read}
use Rattle.store.specs.Layout.{letters_in}
use Rattle.store.specs.Good.{Good}
use Rattle.transitions.specs.Bytes.{Bytes}
use Rattle.outcome.specs.Reply.{refusal_in, tells}
use Rattle.outcome.specs.Promise.{OpeningPromise}
use Rattle.outcome.proofs.Fits.{few}
use Rattle.outcome.proofs.Questions.{Writing, page-writing}
use Rattle.traces.specs.Run.{Step, store_after, Run, letters_after, reading_after, row_after}
use Rattle.traces.specs.Claims.{SameAnswer}
use Rattle.traces.specs.Writes.{Writes}
use Rattle.traces.specs.Pages.{Pages}
use Rattle.traces.proofs.State.{State}
use Rattle.traces.proofs.Theorem.{state-after}
use Rattle.traces.proofs.Writes.{writes, same-written}

module _ (m k : ℕ) (s : Word) (row : Word → ℕ) (b : Word) (st : State m k s row b) where
  -- all of them are letters
  letters : all_letters s ≡ true
  letters = ap all_letters (sym st.letters) ∙ st.good.letters

  -- at most 1,024
  few-letters : length s ≤ 1024
  few-letters = omega (arith, few st.good, ap length st.letters)

  pages : Pages s b
  pages =
      record {
        printed = subst (λ (t : Word). Writes page (tells (length (genbank t))) (genbank t) b) st.letters (writes st.good (page-writing b));
        read = page-read s letters;
        most = page-most s few-letters;
      }

-- 02 (iv). For either reading, every capacity and every lent store on which an opening answers 0, and every list of calls that follows, each of which keeps the contract of its exported function
module _ (way : Reading) (k : ℕ) (b₀ : Word) (h : Bytes b₀) (a : ℕ) (b : Word) (p : OpeningPromise way k b₀ a b) (z : refusal_in a ≡ 0) where
  pub pages-after : {xs : List Step} → Run b xs → Pages (letters_after k xs) (store_after b xs)
  pages-after {xs} r =
      let m = reading_after (reading_number way) xs in
      let row : Word → ℕ = λ w. row_after (reading_number way) k xs w in
      pages m k (letters_after k xs) row (store_after b xs) (state-after way k b₀ h a b p z r)

-- good stores with the same letters print alike, whatever their readings, capacities and rows
same-page : (b c : Word) → Good b → Good c → letters_in b ≡ letters_in c → SameAnswer page b c
same-page b c g h e =
    same-written g h (subst (λ (s : Word). Writing page (tells (length (genbank s))) (genbank s) b) e (page-writing b)) (page-writing c)

-- and so do the stores that two lists of calls leave, where the same letters follow from their arguments; one list may have turns that the other has not
module _ (way : Reading) (k : ℕ) (b₀ : Word) (h : Bytes b₀) (a : ℕ) (b : Word) (p : OpeningPromise way k b₀ a b) (z : refusal_in a ≡ 0)
    (way' : Reading) (k' : ℕ) (c₀ : Word) (h' : Bytes c₀) (a' : ℕ) (c : Word) (p' : OpeningPromise way' k' c₀ a' c) (z' : refusal_in a' ≡ 0) where
  pub same-page-after : {xs ys : List Step} → Run b xs → Run c ys → letters_after k xs ≡ letters_after k' ys → SameAnswer page (store_after b xs) (store_after c ys)
  same-page-after {xs} {ys} r r' e =
      let st = state-after way k b₀ h a b p z r in
      let st' = state-after way' k' c₀ h' a' c p' z' r' in
      same-page (store_after b xs) (store_after c ys) st.good st'.good (st.letters ∙ e ∙ sym st'.letters)
