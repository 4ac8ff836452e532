-- Every starred answer is right, at every capacity of its line: one claim over the whole table, `known-answers`; every answer of the inverted records, `inverted-answers`; what additions pass, `search-answers`; and where
-- pieces disagree with their reversals, `mismatch-answers`.
-- An answer depends on the capacity only through the test whether the record is full, which changes at most once as the capacity grows. So an answer that is
-- right at the least and at the greatest capacity of its line is right at all between, and the two ends are computed, for the whole table at once.
-- Assumes nothing.
use Prim.Native.Nat.{ℕ, ◌≤◌}
use mathlib.Core.Path.{◌≡◌, refl, sym, ◌∙◌}
use mathlib.Core.Bool.{Bool, true, false}
use mathlib.Core.Logic.{◌⊎◌, inl, inr}
use mathlib.Core.List.{List, [], ◌∷◌, map}
use native.Mathlib.Omega.{arith}
use lib.Dec.{leb}
use lib.ListN.{length}
use borrow.Author.Tests.{leb-true, leb-false, le-leb, lt-leb}
use Rattle.palindromes.specs.Word.{Word, is_letter, all_letters, is_empty, same_word, mismatch_from, member, keep, distinct}
use Rattle.palindromes.specs.Palindrome.{mirror, first_mismatch, is_symmetric, is_palindrome}
use Rattle.palindromes.specs.Mismatch.{reported_mismatch}
use Rattle.palindromes.specs.Reading.{complement}
use Rattle.palindromes.specs.Place.{starts_with, places_from, places, first, first_place}
use Rattle.palindromes.specs.Record.{prefixes, suffixes, suffixes_of_each, stretches, palindromes, count, greatest, least, longest_length, longest_place, longest_suffix}
use Rattle.palindromes.specs.End.{added, without_last, without_first, removed, letter_at, new_in}
use Rattle.palindromes.specs.Node.{link_of, inner_of, is_node}
use Rattle.palindromes.specs.SearchSteps.{candidates, serves, passed_before, search_steps}
use Rattle.palindromes.specs.Refusal.{fault, first_fault, faults, question_faults, refusal}
use Rattle.known_answers.specs.KnownAnswer.{Query, how_many, which_longest, addition, removal, the_link, the_inner, look, search, Answer, view_of, unless_refused, answer, KnownAnswer, Right, AllRight, none_left, one_more}
use Rattle.known_answers.specs.Starred.{starred}
use Rattle.known_answers.specs.Inverted.{inverted}
use Rattle.known_answers.specs.Searches.{searches}
use Rattle.known_answers.specs.Mismatches.{mismatches}

-- two capacities at which the record is full, or not, alike answer alike
same_answer : (σ : ℕ → ℕ) (k m : ℕ) (s : Word) (query : Query) → leb k (length s) ≡ leb m (length s) → answer σ k s query ≡ answer σ m s query
unfolding answer refusal faults question_faults view_of
same_answer σ k m s how_many e = refl
same_answer σ k m s which_longest e = refl
same_answer σ k m s (addition end c) e = rw e
same_answer σ k m s (removal end) e = refl
same_answer σ k m s (the_link w) e = refl
same_answer σ k m s (the_inner w) e = refl
same_answer σ k m s (look w) e = refl
same_answer σ k m s (search c) e = rw e

-- between two capacities the record is full as at one of them
full-as : (a b k n : ℕ) → a ≤ k → k ≤ b → (leb k n ≡ leb a n) ⊎ (leb k n ≡ leb b n)
full-as a b k n low high = go (leb k n) refl
  where
    go : (t : Bool) → leb k n ≡ t → (leb k n ≡ leb a n) ⊎ (leb k n ≡ leb b n)
    go true e = let below = leb-true k n e in inl (e ∙ sym (le-leb a n (omega arith)))
    go false e = let above = leb-false k n e in inr (e ∙ sym (lt-leb b n (omega arith)))

-- the answers at the two ends of a line's capacities, and what they must be
abbrev at-ends : KnownAnswer → List Answer
at-ends x = answer x.rule x.least x.letters x.query ∷ answer x.rule x.most x.letters x.query ∷ []

abbrev wanted : KnownAnswer → List Answer
wanted x = x.known ∷ x.known ∷ []

right-between : (x : KnownAnswer) → at-ends x ≡ wanted x → Right x
right-between x p k low high = go (full-as x.least x.most k (length x.letters) low high)
  where
    go : (leb k (length x.letters) ≡ leb x.least (length x.letters)) ⊎ (leb k (length x.letters) ≡ leb x.most (length x.letters))
        → answer x.rule k x.letters x.query ≡ x.known
    go (inl e) = same_answer x.rule k x.least x.letters x.query e ∙ cc
    go (inr e) = same_answer x.rule k x.most x.letters x.query e ∙ cc

all-between : (xs : List KnownAnswer) → map at-ends xs ≡ map wanted xs → AllRight xs
all-between [] p = none_left
all-between (x ∷ xs) p = one_more (right-between x (cc)) (all-between xs (cc))

computed : map at-ends starred ≡ map wanted starred
unfolding starred answer unless_refused view_of refusal faults question_faults fault first_fault is_letter all_letters is_empty same_word mismatch_from member keep distinct mirror first_mismatch is_symmetric is_palindrome reported_mismatch starts_with places_from places first first_place prefixes suffixes suffixes_of_each stretches palindromes count greatest least longest_length longest_place longest_suffix added without_last without_first removed letter_at new_in link_of inner_of is_node
computed = refl

-- and the same for inverted records
computed-inverted : map at-ends inverted ≡ map wanted inverted
unfolding inverted complement answer unless_refused view_of refusal faults question_faults fault first_fault is_letter all_letters is_empty same_word mismatch_from member keep distinct mirror first_mismatch is_symmetric is_palindrome reported_mismatch starts_with places_from places first first_place prefixes suffixes suffixes_of_each stretches palindromes count greatest least longest_length longest_place longest_suffix added without_last without_first removed letter_at new_in link_of inner_of is_node
computed-inverted = refl

-- and for what additions at the right pass
computed-searches : map at-ends searches ≡ map wanted searches
unfolding searches answer unless_refused view_of refusal faults fault first_fault is_letter is_empty same_word mismatch_from member keep mirror first_mismatch is_symmetric is_palindrome suffixes candidates serves passed_before search_steps
computed-searches = refl

-- and for where pieces disagree with their reversals
computed-mismatches : map at-ends mismatches ≡ map wanted mismatches
unfolding mismatches complement answer unless_refused view_of refusal faults question_faults fault first_fault is_letter all_letters is_empty same_word mismatch_from member keep distinct mirror first_mismatch is_symmetric is_palindrome reported_mismatch prefixes suffixes suffixes_of_each stretches palindromes
computed-mismatches = refl

-- the twelve starred sittings of document 01
pub known-answers : AllRight starred
known-answers = all-between starred computed

-- the answers of inverted records, GAATTC's among them
pub inverted-answers : AllRight inverted
inverted-answers = all-between inverted computed-inverted

-- what additions at the right of a plain record pass, AC's 1 and 2 among them
pub search-answers : AllRight searches
search-answers = all-between searches computed-searches

-- where pieces disagree with their reversals, CCAC's 2 among them
pub mismatch-answers : AllRight mismatches
mismatch-answers = all-between mismatches computed-mismatches
