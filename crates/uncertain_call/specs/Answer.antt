-- DEFINITIONS. The promise of the call that tells the two lengths of a text of codes: 02 (xii). Nothing here is proved.
use Rattle.std.specs.Prelude.{ℕ, zero, suc, ◌≡◌, false, not, List, [], ◌∷◌, ltb, length}
use Rattle.palindromes.specs.Word.{Word}
use Rattle.palindromes.specs.Refusal.{fault, first_fault}
use Rattle.ambiguity.specs.Code.{all_codes}
use Rattle.ambiguity.specs.Longest.{longest_for_some, longest_for_every}
use Rattle.outcome.specs.Reply.{Reply, packed, accepted, refused_with}

-- 02 (xii) "text over the limit is refused with 5, tested first here, and any other byte, U among them, with 4"
unfoldable pub text_faults : Word → List ℕ
text_faults text = fault 5 (ltb 1024 (length text)) ∷ fault 4 (not (all_codes text)) ∷ []

unfoldable pub text_refusal : Word → ℕ
text_refusal text = first_fault (text_faults text)

-- both lengths where the number is 0, and the number alone where it is not
unfoldable pub lengths_reply : ℕ → Word → Reply
lengths_reply zero text = accepted false 0 (longest_for_some text) (longest_for_every text)
lengths_reply (suc n) text = refused_with (suc n)

-- 02 (xii) "for a text of up to 1,024 codes, .., give two lengths"
unfoldable pub uncertain_reply : Word → Reply
uncertain_reply text = lengths_reply (text_refusal text) text

-- the number r packs the answer to the text. The call is lent no store, and no buffer to write to
pub record UncertainPromise (text : Word) (r : ℕ) : Type 0 where
  pub reply : r ≡ packed (uncertain_reply text)
