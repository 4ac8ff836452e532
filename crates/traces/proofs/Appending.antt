-- How much searching an appended record costs, over lists of calls: `appending-bound`, from what `every-list` claims of each call. What the additions report, with the length of the longest repeat at the
-- right end, is at most two for each letter taken (`Paid.paid`), since a search that passes much leaves little (`steps-most` of palindromes). Rests on `Theorem`.
use Prim.Native.Nat.{ℕ, zero, suc, ◌+◌, ◌*◌, ◌-◌, ◌≤◌}
use native.Mathlib.Omega.{arith}
use mathlib.Core.Path.{◌≡◌, refl, sym, ap, ap₂, ◌∙◌}
use mathlib.Core.Bool.{Bool, true, false, cond, ◌&&◌}
use mathlib.Core.Logic.{◌⊎◌, inl, inr, ⊎_elim}
use mathlib.Core.List.{List, [], ◌∷◌, ◌++◌}
use lib.Dec.{ltb}
use lib.ListN.{length, length-append}
use borrow.Author.Tests.{eq-eqb, ne_eqb}
use Rattle.palindromes.specs.Word.{Word, is_letter}
use Rattle.palindromes.specs.Palindrome.{plain}
use Rattle.palindromes.specs.Reading.{as_plain, reading_number}
use Rattle.palindromes.specs.Record.{longest_suffix}
use Rattle.palindromes.specs.End.{End, at_left, at_right, added, removed}
use Rattle.palindromes.specs.SearchSteps.{search_steps, reported_steps}
use Rattle.palindromes.specs.Refusal.{Call, opening, add, remove, turn, ask}
use Rattle.palindromes.proofs.Tests.{not-true-false}
use Rattle.palindromes.proofs.Words.{by_last, removed-empty, same_or_not}
use Rattle.palindromes.proofs.SearchSteps.{steps-most, some-grown}
use Rattle.transitions.specs.Bytes.{Bytes}
use Rattle.outcome.specs.Reply.{Reply, accepted, refused_with, refusal_in, first_in, unpacked}
use Rattle.outcome.specs.Promise.{OpeningPromise}
use Rattle.traces.specs.Run.{Step, Run, letters_step, letters_after, reading_step, reading_after}
use Rattle.traces.specs.Claims.{Called, EachCall}
use Rattle.traces.specs.Appending.{Appends, letter, question, in-force, refused, OnlyAppends, taken_by, reported_by, taken_right, reported_sum}
use Rattle.traces.proofs.Theorem.{every-list}

-- a number is 0 or not
zero_or_not : (n : ℕ) → (n ≡ 0) ⊎ (n ≡ 0 → ⊥)
zero_or_not zero = inl refl
zero_or_not (suc n) = inr (λ e. omega arith)

-- what holds of a list by which a plain record only took letters at the right
record Paid (k : ℕ) (xs : List Step) : Type 0 where
  reading : reading_after 0 xs ≡ 0
  taken : taken_right xs ≡ length (letters_after k xs)
  paid : reported_sum xs + length (longest_suffix plain (letters_after k xs)) ≤ 2 * length (letters_after k xs)

-- before the first call
nothing-paid : (k : ℕ) → Paid k []
unfolding reading_after taken_right reported_sum letters_after longest_suffix
nothing-paid k = record { reading = refl; taken = refl; paid = omega arith }

-- a call that leaves the letters and the reading, takes no letter and reports nothing
record Idle (m k : ℕ) (s : Word) (x : Step) : Type 0 where
  reading : reading_step m x.call ≡ m
  letters : letters_step k s x.call ≡ s
  taken : taken_by x.call x.answer ≡ 0
  reported : reported_by x.call x.answer ≡ 0

module _ (k : ℕ) (xs : List Step) (x : Step) (h : Paid k xs) where
  abbrev s : Word
  s = letters_after k xs

  idle : Idle (reading_after 0 xs) k s x → Paid k (x ∷ xs)
  unfolding reading_after taken_right reported_sum letters_after
  idle i =
      record {
        reading = i.reading ∙ h.reading;
        taken = ap₂ (λ (p q : ℕ). p + q) i.taken h.taken ∙ rw i.letters (omega arith);
        paid = rw (i.letters, i.reported) (omega (arith, h.paid));
      }

  module _ {row row' : Word → ℕ} {b : Word} (claim : Called (reading_after 0 xs) k s row row' b x) where
    -- ---- a refused call

    module _ (n : refusal_in x.answer ≡ 0 → ⊥) where
      -- it reports nothing
      nothing-first : first_in x.answer ≡ 0
      unfolding unpacked refused_with
      nothing-first = ap (λ (r : Reply). r.first) (claim.refused-leaves n).0

      -- an addition, at either end: its letter is none or the record is full
      not-added : (e : End) (c : ℕ) → x.call ≡ add e c → (is_letter c && ltb (length s) k) ≡ false
      unfolding unpacked
      not-added e c f = not-true-false (is_letter c && ltb (length s) k) (λ r. n ((claim.addition e c f).accepted-if r))

      none-taken : (e : End) (c : ℕ) → taken_by (add e c) x.answer ≡ 0
      unfolding taken_by
      none-taken at_left c = refl
      none-taken at_right c = ap (λ (t : Bool). cond t 1 0) (ne_eqb (refusal_in x.answer) 0 n)

      -- a removal: there is no letter
      not-removed : (e : End) → x.call ≡ remove e → removed e s ≡ s
      unfolding unpacked
      not-removed e f =
          ⊎_elim (λ z. ap (removed e) z ∙ removed-empty e ∙ sym z) (λ z. absurd (n ((claim.removal e f).accepted-if z))) (same_or_not s [])

      idle-refused : (call : Call) → x.call ≡ call → Idle (reading_after 0 xs) k s x
      unfolding reading_step letters_step taken_by reported_by unpacked accepted
      idle-refused (opening way i) f = rw f (record { reading = refl; letters = refl; taken = refl; reported = refl })
      idle-refused (add e c) f =
          rw f (record { reading = refl; letters = ap (λ (t : Bool). cond t (added e c s) s) (not-added e c f); taken = none-taken e c; reported = nothing-first })
      idle-refused (remove e) f = rw f (record { reading = refl; letters = not-removed e f; taken = refl; reported = refl })
      idle-refused (turn way) f = absurd (n (ap (λ (r : Reply). r.number) (claim.turning way f).accepted-zero))
      idle-refused (ask q) f = rw f (record { reading = refl; letters = refl; taken = refl; reported = refl })

    -- ---- an addition at the right

    module _ (c : ℕ) (f : x.call ≡ add at_right c) (z : refusal_in x.answer ≡ 0) where
      room : (is_letter c && ltb (length s) k) ≡ true
      unfolding unpacked
      room = (claim.addition at_right c f).only_if z

      -- what it reports, of a record that is still plain
      reports : first_in x.answer ≡ search_steps plain c s
      unfolding unpacked reported_steps reading_number
      reports = (claim.addition at_right c f).steps z ∙ ap (λ (m : ℕ). reported_steps m at_right c s) h.reading

      longer : letters_after k (x ∷ xs) ≡ s ++ (c ∷ [])
      unfolding letters_after letters_step added
      longer = rw (f, room) refl

      one-letter : Paid k (x ∷ xs)
      unfolding reading_after reading_step taken_right taken_by reported_sum reported_by
      one-letter =
          let size : length (s ++ (c ∷ [])) ≡ length s + 1 = length-append s (c ∷ []) in
          let one : taken_by (add at_right c) x.answer ≡ 1 = ap (λ (t : Bool). cond t 1 0) (eq-eqb (refusal_in x.answer) 0 z) in
          record {
            reading = rw f h.reading;
            taken = rw (longer, f) (omega (arith, size, one, h.taken));
            paid = rw (longer, f) (omega (arith, size, reports, h.paid, steps-most plain (λ y. refl) c s));
          }

    -- ---- any call of the list

    next-paid : Appends x → Paid k (x ∷ xs)
    unfolding reading_step letters_step taken_by reported_by reading_number
    next-paid (letter c f) = ⊎_elim (one-letter c f) (λ n. idle (idle-refused n (add at_right c) f)) (zero_or_not (refusal_in x.answer))
    next-paid (question q f) = idle (rw f (record { reading = refl; letters = refl; taken = refl; reported = refl }))
    next-paid (in-force f) = idle (rw f (record { reading = sym h.reading; letters = refl; taken = refl; reported = refl }))
    next-paid (refused n) = idle (idle-refused n x.call refl)

paid-of : (k : ℕ) (b : Word) (xs : List Step) → EachCall 0 k b xs → OnlyAppends xs → Paid k xs
unfolding EachCall OnlyAppends
paid-of k b [] c a = nothing-paid k
paid-of k b (x ∷ xs) c a = next-paid k xs x (paid-of k b xs c.1 a.1) c.0 a.0

-- a plain record that is not empty has a repeat at its right end
some-longest : (s : Word) → 1 ≤ length s → 1 ≤ length (longest_suffix plain s)
some-longest s l = ⊎_elim (λ e. absurd (omega (arith, ap length e))) (λ r. rw r.2 (some-grown plain (λ y. refl) r.1 r.0 refl)) (by_last s)

-- 02 (xiii). For every capacity and every lent store on which a plain opening answers 0, and every list of calls after it, each of which keeps the contract of its exported function, by which the record
-- only takes letters at the right: what the additions report adds up to at most twice the letters less one
module _ (k : ℕ) (b₀ : Word) (h : Bytes b₀) (a : ℕ) (b : Word) (p : OpeningPromise as_plain k b₀ a b) (z : refusal_in a ≡ 0) where
  pub appending-bound : {xs : List Step} → Run b xs → OnlyAppends xs → 1 ≤ taken_right xs → reported_sum xs ≤ 2 * taken_right xs - 1
  unfolding reading_number
  appending-bound {xs} r o n =
      let q = paid-of k b xs (every-list as_plain k b₀ h a b p z r).each o in
      omega (arith, q.paid, q.taken, some-longest (letters_after k xs) (omega (arith, q.taken)))

  -- the letters taken are then those of the record
  pub taken-letters : {xs : List Step} → Run b xs → OnlyAppends xs → taken_right xs ≡ length (letters_after k xs)
  unfolding reading_number
  taken-letters {xs} r o = (paid-of k b xs (every-list as_plain k b₀ h a b p z r).each o).taken
