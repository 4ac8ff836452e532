-- Where no repeat stands: 02 (vi) "an end without a repeat answers row 1 and "not once only". The longest repeat of a non-empty record that has none is length 0 at place 0", a list that
-- is empty though letters stand, and an addition that makes no repeat. In a plain record with letters every end has a repeat, but the laws hold in either reading. Rests on the
-- definitions of the answers and on the row of the empty string.
use Prim.Native.Nat.{ℕ, ◌≤◌, ◌<◌}
use native.Mathlib.Omega.{arith}
use mathlib.Core.Path.{◌≡◌, refl, sym, ap, ap₂, ◌∙◌}
use mathlib.Core.Bool.{Bool, true, false, cond, not}
use mathlib.Core.List.{List, [], ◌∷◌, ◌++◌, map}
use lib.Dec.{eqb}
use lib.ListN.{length, replicate}
use borrow.Author.Tests.{ltb-true, eqb-true, ne_eqb}
use Rattle.palindromes.specs.Word.{Word, keep}
use Rattle.palindromes.specs.Palindrome.{plain}
use Rattle.palindromes.specs.Reading.{reading_number, rule_in}
use Rattle.palindromes.specs.Place.{stands, frequency, starts_with, stands_once, first_place}
use Rattle.palindromes.specs.Record.{palindromes, greatest, least, longest_length, longest_place, longest_suffix}
use Rattle.palindromes.specs.End.{End, at_left, at_right, added, longest_at}
use Rattle.palindromes.specs.Node.{spelt}
use Rattle.palindromes.specs.Bed.{is_identifier, bed_lines, listing}
use Rattle.palindromes.specs.SearchSteps.{search_steps, reported_steps}
use Rattle.palindromes.specs.Refusal.{the_longest, the_longest_at, list, add, ask, scratch_size, refusal}
use Rattle.palindromes.proofs.Places.{frequency-cons, stands-is, stands-empty}
use Rattle.palindromes.proofs.Readings.{rule-of-plain}
use Rattle.palindromes.proofs.SearchSteps.{some-grown}
use Rattle.store.specs.Layout.{reading_in, letters_in}
use Rattle.store.specs.Good.{rule_of, Good}
use Rattle.transitions.specs.Rows.{row_of}
use Rattle.transitions.specs.Addition.{longest_after, brings_in, row_after}
use Rattle.transitions.specs.Removal.{longest_before}
use Rattle.transitions.proofs.Rows.{row-of-empty}
use Rattle.outcome.specs.Reply.{answer, accepted}
use Rattle.outcome.specs.Outcome.{Lent, view_in, written, answer_to, lent_after, accepted_outcome, changed}
use Rattle.outcome.proofs.Refusals.{list-scratch, list-accepted}
use Rattle.outcome.proofs.Replies.{reply-of-added}

-- ---- ends

-- the empty word stands at every place of a word, and at the end of it
often : (s : Word) → 0 < frequency [] s
unfolding stands
often s = ltb-true 0 (frequency [] s) (stands-is [] s (stands-empty s))

-- so it does not stand once only, where a letter stands
pub empty-not-once : (s : Word) → (s ≡ [] → ⊥) → stands_once [] s ≡ false
unfolding stands_once starts_with
empty-not-once [] n = absurd (n refl)
empty-not-once (x ∷ s) n = ne_eqb (frequency [] (x ∷ s)) 1 λ e. omega (arith, frequency-cons [] s x, often s)

module _ {b : Word} (g : Good b) where
  -- an end without a repeat answers row 1 and not once only
  pub end-without : (e : End) → (letters_in b ≡ [] → ⊥) → longest_before e b ≡ [] → answer_to (the_longest_at e) b ≡ answer false 1 0 0
  unfolding answer_to
  end-without e n h =
      ap (λ (w : Word). answer (stands_once w (letters_in b)) (row_of b (spelt w)) 0 0) h
      ∙ ap₂ (λ (once : Bool) (r : ℕ). answer once r 0 0) (empty-not-once (letters_in b) n) (row-of-empty g)

module _ (b : Word) (none : palindromes (rule_of b) (letters_in b) ≡ []) where
  -- ---- a record that has none

  -- the longest is length 0 at place 0
  pub longest-without : answer_to the_longest b ≡ answer false 0 0 0
  unfolding answer_to longest_length longest_place greatest least keep
  longest-without =
      ap (λ (ps : List Word). answer false 0 (greatest (map length ps)) (least (map (λ p. first_place p (letters_in b)) (keep (λ p. eqb (length p) (greatest (map length ps))) ps)))) none

  nothing-listed : (name : Word) → listing (rule_of b) name (letters_in b) ≡ []
  unfolding listing bed_lines
  nothing-listed name = ap (bed_lines name (letters_in b)) none

  -- the list answers no byte, writes none, and leaves zeros in its scratch
  pub list-without : (name : Word) (l : Lent)
      → (answer_to (list name) b ≡ answer false 0 0 0) × (lent_after (list name) b l ≡ record { scratch = written (replicate (scratch_size (length (letters_in b))) 0) l.scratch; out = l.out })
  unfolding answer_to lent_after written
  list-without name l = (
    ap (λ (w : Word). answer false 0 (length w) 0) (nothing-listed name),
    ap (λ (w : Word). record { scratch = written (replicate (scratch_size (length (letters_in b))) 0) l.scratch; out = written w l.out }) (nothing-listed name),
  )

  -- it needs no output, and its scratch all the same
  pub list-needs : (name : Word) (l : Lent) → is_identifier name ≡ true
      → (scratch_size (length (letters_in b)) ≤ length l.scratch → refusal (rule_of b) (view_in b l) (ask (list name)) ≡ 0)
      × (length l.scratch < scratch_size (length (letters_in b)) → refusal (rule_of b) (view_in b l) (ask (list name)) ≡ 9)
  list-needs name l h = (
    λ room. list-accepted b l name h room (omega (arith, ap length (nothing-listed name))),
    λ short. list-scratch b l name h short,
  )

-- ---- additions

-- it reports nothing of its search: in a plain record it would make a repeat, for a letter is one
none-reported : (e : End) (c : ℕ) (b : Word) → longest_after e c b ≡ [] → reported_steps (reading_in b) e c (letters_in b) ≡ 0
unfolding reported_steps reading_number longest_after longest_at added
none-reported at_left c b h = refl
none-reported at_right c b h = go (eqb (reading_in b) 0) refl
  where
    go : (t : Bool) → eqb (reading_in b) 0 ≡ t → cond t (search_steps plain c (letters_in b)) 0 ≡ 0
    go true f =
        let rule : rule_of b ≡ plain = ap rule_in (eqb-true (reading_in b) 0 f) ∙ rule-of-plain in
        let none : longest_suffix plain (letters_in b ++ (c ∷ [])) ≡ [] = ap (λ (σ : ℕ → ℕ). longest_suffix σ (letters_in b ++ (c ∷ []))) (sym rule) ∙ h in
        absurd (omega (arith, ap length none, some-grown plain (λ y. refl) c (letters_in b) refl))
    go false f = refl

-- an addition that makes no repeat answers 0, row 0 and nothing reported
pub addition-without : (e : End) (c : ℕ) (b : Word) (l : Lent) → longest_after e c b ≡ [] → (accepted_outcome (add e c) b l).reply ≡ accepted false 0 0 0
unfolding accepted_outcome changed brings_in
addition-without e c b l h =
    let not_new : brings_in e c b ≡ false = ap (λ (w : Word). not (stands w (letters_in b))) h ∙ ap not (stands-is [] (letters_in b) (stands-empty (letters_in b))) in
    reply-of-added (brings_in e c b) (row_after e c b) (reported_steps (reading_in b) e c (letters_in b))
    ∙ ap₂ (λ (t : Bool) (n : ℕ). accepted t (cond t (row_after e c b) 0) n 0) not_new (none-reported e c b h)
