-- A list of calls on an inverted record that meets the hypotheses of `every-list`: the store of `Example` is opened for an inverted record, A and T join the right end, and AT comes in with
-- T. A alone is no repeat there.
use Prim.Native.Nat.{ℕ}
use native.Mathlib.Omega.{arith}
use mathlib.Core.Path.{◌≡◌, refl, sym, ap, ◌∙◌, subst}
use mathlib.Core.Bool.{true, false}
use mathlib.Core.List.{List, [], ◌∷◌, cons-ne-nil}
use lib.ListN.{get_or}
use Rattle.palindromes.specs.Word.{Word, is_letter, all_letters, mismatch_from}
use Rattle.palindromes.specs.Palindrome.{mirror, first_mismatch, is_symmetric, Palindrome}
use Rattle.palindromes.specs.Mismatch.{reported_mismatch}
use Rattle.palindromes.specs.Reading.{as_inverted, complement, reading_number, rule_in}
use Rattle.palindromes.specs.Place.{Stands, starts_with, places_from, places, frequency, stands}
use Rattle.palindromes.specs.Record.{longest_suffix}
use Rattle.palindromes.specs.End.{at_right, added, without_last, longest_at}
use Rattle.palindromes.specs.Node.{link_of, inner_of}
use Rattle.palindromes.specs.Refusal.{the_row, find, add}
use Rattle.outcome.specs.Reply.{accepted, unpacked}
use Rattle.outcome.specs.Promise.{nothing}
use Rattle.traces.specs.Run.{Step, store_after, Run, begun, letters_step, letters_after, reading_step, reading_after, row_after}
use Rattle.traces.specs.Claims.{Replies, number_of, Table, EachCall, Claims}
use Rattle.traces.proofs.Possible.{step_of}
use Rattle.traces.proofs.Example.{start_in, more_in, one-more-in, claims-of}

abbrev start : Word
start = start_in as_inverted

pub with-A : List Step
with-A = more_in as_inverted [] (add at_right 65)

pub with-AT : List Step
with-AT = more_in as_inverted with-A (add at_right 84)

inverted-run : Run start with-AT
unfolding with-AT with-A
inverted-run = one-more-in as_inverted (one-more-in as_inverted begun (add at_right 65) tt) (add at_right 84) tt

pub inverted-claims : Claims 1 3 start with-AT
unfolding reading_number
inverted-claims = claims-of as_inverted inverted-run

letters-A : letters_after 3 with-A ≡ 65 ∷ []
unfolding with-A letters_after letters_step added is_letter
letters-A = refl

letters-AT : letters_after 3 with-AT ≡ 65 ∷ 84 ∷ []
unfolding with-AT letters_after letters_step added is_letter
letters-AT = rw letters-A refl

-- no call of the list changes the reading
inverted-A : reading_after 1 with-A ≡ 1
unfolding with-A reading_after reading_step
inverted-A = refl

inverted-AT : reading_after 1 with-AT ≡ 1
unfolding with-AT reading_after reading_step
inverted-AT = inverted-A

abbrev end : Word
end = store_after start with-AT

abbrev row_now : Word → ℕ
row_now w = row_after 1 3 with-AT w

its-table : Table 1 3 (letters_after 3 with-AT) row_now end
its-table = subst (λ (m : ℕ). Table m 3 (letters_after 3 with-AT) row_now end) inverted-AT inverted-claims.table

pub AT-repeat : Palindrome (rule_in 1) (65 ∷ 84 ∷ [])
unfolding mirror rule_in complement
AT-repeat = record { non-empty = cons-ne-nil 65 (84 ∷ []); symmetric = refl }

AT-stands : Stands (65 ∷ 84 ∷ []) (letters_after 3 with-AT)
AT-stands = record { before = []; after = []; whole = sym letters-AT }

-- AT is found, its link and its inner row are the empty string's
pub AT-found : Replies (find (65 ∷ 84 ∷ [])) end (accepted true (row_now (65 ∷ 84 ∷ [])) 0 0)
AT-found = its-table.found (65 ∷ 84 ∷ []) AT-repeat AT-stands

pub AT-fields : Replies (the_row (row_now (65 ∷ 84 ∷ []))) end (accepted false 1 2 1)
unfolding number_of link_of inner_of without_last longest_suffix is_symmetric first_mismatch mismatch_from mirror rule_in complement
AT-fields = its-table.fields (65 ∷ 84 ∷ []) AT-repeat AT-stands

-- A is absent, though it stands: it faces itself, and its partner is T
A-none : Palindrome (rule_in 1) (65 ∷ []) → ⊥
unfolding mirror rule_in complement
A-none p = omega (arith, ap (λ (w : Word). get_or w 0 0) p.symmetric)

pub A-absent : Replies (find (65 ∷ [])) end (accepted false 0 1 0)
unfolding all_letters is_letter reported_mismatch first_mismatch mismatch_from mirror rule_in complement
A-absent = its-table.absent (65 ∷ []) (cons-ne-nil 65 []) refl (λ p h. A-none p)

-- T brings in AT
pub AT-came : (unpacked (step_of (add at_right 84) (store_after start with-A) nothing).answer).flag ≡ true
unfolding EachCall with-AT stands frequency places places_from starts_with longest_at longest_suffix is_symmetric first_mismatch mismatch_from mirror added is_letter rule_in complement
AT-came =
    let claim = inverted-claims.each.0.addition at_right 84 refl in
    claim.comes-in (claim.accepted-if (rw letters-A refl)) ∙ rw (inverted-A, letters-A) refl
