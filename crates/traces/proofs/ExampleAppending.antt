-- What additions report, on lists of calls that come to their outcomes by the definitions: A and C at the right, with a question and a refused letter between them, reach the bound of `appending-bound`
-- (`AC-reaches`). It does not hold where letters go again (`removal-exceeds`) or come at the left (`left-exceeds`).
use Prim.Native.Nat.{ℕ, ◌+◌, ◌*◌, ◌-◌, ◌<◌, ◌≤◌}
use native.Mathlib.Omega.{arith}
use mathlib.Core.Path.{◌≡◌, refl, ap, ap₂, ◌∙◌, subst₂}
use mathlib.Core.Bool.{Bool, true, false, cond, ◌&&◌}
use mathlib.Core.List.{List, [], ◌∷◌, ◌++◌}
use lib.Dec.{ltb}
use lib.ListN.{length}
use borrow.Author.Tests.{eq-eqb, ne_eqb}
use Rattle.palindromes.specs.Word.{Word, is_letter, is_empty, same_word, mismatch_from, member, keep}
use Rattle.palindromes.specs.Palindrome.{plain, mirror, first_mismatch, is_symmetric, is_palindrome}
use Rattle.palindromes.specs.Reading.{as_plain, reading_number}
use Rattle.palindromes.specs.Record.{suffixes}
use Rattle.palindromes.specs.End.{End, at_left, at_right, added, removed, without_last}
use Rattle.palindromes.specs.SearchSteps.{candidates, serves, passed_before, search_steps, reported_steps}
use Rattle.palindromes.specs.Refusal.{Question, the_length, add, remove, ask}
use Rattle.palindromes.proofs.Tests.{false-not-true}
use Rattle.outcome.specs.Reply.{Reply, packed, refused_with, unpacked}
use Rattle.outcome.specs.Promise.{nothing}
use Rattle.traces.specs.Run.{Step, Run, begun, store_after, letters_step, letters_after, reading_step, reading_after, row_after}
use Rattle.traces.specs.Claims.{Called, EachCall}
use Rattle.traces.specs.Appending.{letter, question, OnlyAppends, taken_by, reported_by, taken_right, reported_sum}
use Rattle.traces.proofs.Appending.{appending-bound}
use Rattle.traces.proofs.Possible.{step_of}
use Rattle.traces.proofs.Example.{sevens, all-bytes, opened, promise, answers-zero, start, more, one_more, claims-of}

-- a list on the plain record of Example, the letters that stand after it, how many were taken at the right, and what was reported
record Counted (xs : List Step) (s : Word) (taken sum : ℕ) : Type 0 where
  run : Run start xs
  reading : reading_after 0 xs ≡ 0
  letters : letters_after 3 xs ≡ s
  taken_is : taken_right xs ≡ taken
  sum_is : reported_sum xs ≡ sum

-- ---- one call more

no-calls : Counted [] [] 0 0
unfolding reading_after letters_after taken_right reported_sum
no-calls = record { run = begun; reading = refl; letters = refl; taken_is = refl; sum_is = refl }

module _ {xs : List Step} {s : Word} {taken sum : ℕ} (h : Counted xs s taken sum) where
  module _ (e : End) (c : ℕ) where
    abbrev answer : ℕ
    answer = (step_of (add e c) (store_after start xs) nothing).answer

    abbrev Claim : ℕ → Word → Type 0
    Claim m t = Called m 3 t (λ w. row_after 0 3 xs w) (λ w. row_after 0 3 (more xs (add e c)) w) (store_after start xs) (step_of (add e c) (store_after start xs) nothing)

    claim : Claim 0 s
    unfolding EachCall reading_number
    claim = subst₂ Claim h.reading h.letters (claims-of as_plain (one_more h.run (add e c) tt)).each.0

    letters-then : letters_after 3 (more xs (add e c)) ≡ cond (is_letter c && ltb (length s) 3) (added e c s) s
    unfolding letters_after letters_step
    letters-then = rw h.letters refl

    reading-then : reading_after 0 (more xs (add e c)) ≡ 0
    unfolding reading_after reading_step
    reading-then = h.reading

    -- an accepted addition
    module _ (room : (is_letter c && ltb (length s) 3) ≡ true) where
      number-zero : (unpacked answer).number ≡ 0
      number-zero = (claim.addition e c refl).accepted-if room

      sum_then : reported_sum (more xs (add e c)) ≡ reported_steps 0 e c s + sum
      unfolding reported_sum reported_by unpacked
      sum_then = ap₂ (λ (p q : ℕ). p + q) ((claim.addition e c refl).steps number-zero) h.sum_is

    -- a refused one
    refused-first : (is_letter c && ltb (length s) 3) ≡ false → ((unpacked answer).number ≡ 0 → ⊥) × ((unpacked answer).first ≡ 0)
    unfolding unpacked refused_with
    refused-first r =
        let n : (unpacked answer).number ≡ 0 → ⊥ = λ z. false-not-true r ((claim.addition e c refl).only_if z) in
        (n, ap (λ (x : Reply). x.first) (claim.refused-leaves n).0)

  counted-right : (c : ℕ) → (is_letter c && ltb (length s) 3) ≡ true → Counted (more xs (add at_right c)) (s ++ (c ∷ [])) (1 + taken) (search_steps plain c s + sum)
  unfolding taken_right taken_by reported_steps reading_number unpacked added
  counted-right c r =
      record {
        run = one_more h.run (add at_right c) tt;
        reading = reading-then at_right c;
        letters = letters-then at_right c ∙ ap (λ (t : Bool). cond t (s ++ (c ∷ [])) s) r;
        taken_is = ap₂ (λ (t : Bool) (q : ℕ). cond t 1 0 + q) (eq-eqb _ 0 (number-zero at_right c r)) h.taken_is;
        sum_is = sum_then at_right c r;
      }

  counted-left : (c : ℕ) → (is_letter c && ltb (length s) 3) ≡ true → Counted (more xs (add at_left c)) (c ∷ s) taken sum
  unfolding taken_right taken_by reported_steps added
  counted-left c r =
      record {
        run = one_more h.run (add at_left c) tt;
        reading = reading-then at_left c;
        letters = letters-then at_left c ∙ ap (λ (t : Bool). cond t (c ∷ s) s) r;
        taken_is = omega (arith, h.taken_is);
        sum_is = omega (arith, sum_then at_left c r);
      }

  counted-refused : (c : ℕ) → (is_letter c && ltb (length s) 3) ≡ false → Counted (more xs (add at_right c)) s taken sum
  unfolding taken_right taken_by reported_sum reported_by unpacked
  counted-refused c r =
      let n = refused-first at_right c r in
      record {
        run = one_more h.run (add at_right c) tt;
        reading = reading-then at_right c;
        letters = letters-then at_right c ∙ ap (λ (t : Bool). cond t (added at_right c s) s) r;
        taken_is = rw (ne_eqb _ 0 n.0) (omega (arith, h.taken_is));
        sum_is = omega (arith, n.1, h.sum_is);
      }

  counted-removal : (e : End) → Counted (more xs (remove e)) (removed e s) taken sum
  unfolding reading_after reading_step letters_after letters_step taken_right taken_by reported_sum reported_by
  counted-removal e =
      record {
        run = one_more h.run (remove e) tt;
        reading = h.reading;
        letters = ap (removed e) h.letters;
        taken_is = omega (arith, h.taken_is);
        sum_is = omega (arith, h.sum_is);
      }

  counted-question : (q : Question) → Counted (more xs (ask q)) s taken sum
  unfolding reading_after reading_step letters_after letters_step taken_right taken_by reported_sum reported_by
  counted-question q =
      record { run = one_more h.run (ask q) tt; reading = h.reading; letters = h.letters; taken_is = omega (arith, h.taken_is); sum_is = omega (arith, h.sum_is) }

-- ---- Ac: 1 and 2, with N refused and the length asked between them

abbrev one-A : List Step
one-A = more [] (add at_right 65)

abbrev length-asked : List Step
length-asked = more (more one-A (add at_right 78)) (ask the_length)

pub Ac : List Step
Ac = more length-asked (add at_right 67)

A-counted : Counted one-A (65 ∷ []) 1 1
unfolding is_letter search_steps candidates serves passed_before suffixes keep member same_word is_palindrome is_symmetric first_mismatch mismatch_from is_empty mirror
A-counted = counted-right no-calls 65 refl

AC-counted : Counted Ac (65 ∷ 67 ∷ []) 2 3
unfolding Ac is_letter search_steps candidates serves passed_before suffixes keep member same_word is_palindrome is_symmetric first_mismatch mismatch_from is_empty mirror
AC-counted = counted-right (counted-question (counted-refused A-counted 78 refl) the_length) 67 refl

-- the theorem speaks of this list, and its bound is reached
AC-appends : OnlyAppends Ac
unfolding Ac OnlyAppends
AC-appends = (letter 67 refl, (question the_length refl, (letter 78 refl, (letter 65 refl, tt))))

pub AC-bound : reported_sum Ac ≤ 2 * taken_right Ac - 1
AC-bound =
    appending-bound 3 sevens all-bytes (packed (opened as_plain).reply) start (promise as_plain) (answers-zero as_plain) AC-counted.run AC-appends (omega (arith, AC-counted.taken_is))

pub AC-reaches : reported_sum Ac ≡ 2 * taken_right Ac - 1
AC-reaches = omega (arith, AC-counted.sum_is, AC-counted.taken_is)

-- ---- letters that go again: AAC reports 1, 1 and 3, and C reports 3 once more after it went, 8 for four letters

pub with-removal : List Step
with-removal = more (more (more (more one-A (add at_right 65)) (add at_right 67)) (remove at_right)) (add at_right 67)

removal-counted : Counted with-removal (65 ∷ 65 ∷ 67 ∷ []) 4 8
unfolding with-removal is_letter removed without_last search_steps candidates serves passed_before suffixes keep member same_word is_palindrome is_symmetric first_mismatch mismatch_from is_empty mirror
removal-counted = counted-right (counted-removal (counted-right (counted-right A-counted 65 refl) 67 refl) at_right) 67 refl

pub removal-exceeds : 2 * taken_right with-removal - 1 < reported_sum with-removal
removal-exceeds = omega (arith, removal-counted.sum_is, removal-counted.taken_is)

-- ---- letters that come at the left: A, A before it, which reports 0, and C, which reports 3, 4 for two letters

pub with-left : List Step
with-left = more (more one-A (add at_left 65)) (add at_right 67)

left-counted : Counted with-left (65 ∷ 65 ∷ 67 ∷ []) 2 4
unfolding with-left is_letter search_steps candidates serves passed_before suffixes keep member same_word is_palindrome is_symmetric first_mismatch mismatch_from is_empty mirror
left-counted = counted-right (counted-left A-counted 65 refl) 67 refl

pub left-exceeds : 2 * taken_right with-left - 1 < reported_sum with-left
left-exceeds = omega (arith, left-counted.sum_is, left-counted.taken_is)
