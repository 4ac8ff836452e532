-- A list of calls that meets the hypotheses of `every-list`, and each claim drawn from it once. A store of 400 sevens is opened for three letters; G joins the left
-- end and leaves it; A joins the right end and C the left one; an opening for no letters and the letter N are refused; C is looked for and row 2 is asked; C joins the
-- right end, which makes CAC; A is refused, since the record is full; and the letter at the right goes. Each call comes to its outcome by the definitions.
use Prim.Native.Nat.{ℕ, zero, suc, ◌≤◌, ◌<◌}
use native.Mathlib.Omega.{arith}
use mathlib.Core.Path.{◌≡◌, refl, sym, ap, ◌∙◌, subst}
use mathlib.Core.Bool.{true, false, ◌&&◌}
use mathlib.Core.List.{List, [], ◌∷◌, cons-ne-nil}
use lib.Dec.{ltb}
use lib.ListN.{length, get_or, replicate, length-replicate}
use Rattle.palindromes.specs.Word.{Word, is_letter, all_letters, mismatch_from}
use Rattle.palindromes.specs.Palindrome.{mirror, first_mismatch, is_symmetric, Palindrome}
use Rattle.palindromes.specs.Mismatch.{reported_mismatch}
use Rattle.palindromes.specs.Reading.{Reading, as_plain, reading_number, rule_in}
use Rattle.palindromes.specs.Place.{Stands, starts_with, places_from, places, frequency, stands, stands_once}
use Rattle.palindromes.specs.Record.{longest_suffix}
use Rattle.palindromes.specs.End.{at_left, at_right, added, removed, without_first, without_last, longest_at}
use Rattle.palindromes.specs.Node.{link_of, inner_of}
use Rattle.palindromes.specs.Refusal.{the_row, spell, find, Call, opening, add, remove, ask, store_size, faults, refusal}
use Rattle.palindromes.proofs.Tests.{false-not-true}
use Rattle.palindromes.proofs.Places.{stands-is}
use Rattle.store.specs.Good.{rule_of, Good}
use Rattle.transitions.specs.Bytes.{Bytes}
use Rattle.outcome.specs.Reply.{accepted, refused_with, packed, refusal_in, unpacked}
use Rattle.outcome.specs.Outcome.{Outcome, outcome, accepted_outcome, changed, view_in}
use Rattle.outcome.specs.Promise.{nothing, OpeningPromise}
use Rattle.outcome.proofs.Refusals.{opening-accepted, opening-capacity, add-letter, carried-out}
use Rattle.outcome.proofs.Told.{opening-told}
use Rattle.traces.specs.Run.{Step, store_after, Run, begun, letters_step, letters_after, reading_step, reading_after, row_after}
use Rattle.traces.specs.Claims.{Replies, number_of, Table, Kept, Called, EachCall, Undone, Claims}
use Rattle.traces.proofs.Theorem.{every-list, always-good}
use Rattle.traces.proofs.Possible.{step_of, MayStand, keeps-contract, goes_on}

-- ---- the opening

pub sevens : Word
sevens = replicate 400 7

-- the store before the opening: any bytes would do
all-sevens : (n i : ℕ) → get_or (replicate n 7) i 0 < 256
all-sevens zero i = omega arith
all-sevens (suc n) zero = omega arith
all-sevens (suc n) (suc i) = all-sevens n i

pub all-bytes : Bytes sevens
unfolding sevens
all-bytes i = all-sevens 400 i

room : store_size 3 ≤ length sevens
unfolding sevens store_size
room = omega (arith, length-replicate {A = ℕ} 400 7)

-- opened in either reading, it comes to its outcome and answers 0
module _ (way : Reading) where
  abbrev pub opened : Outcome
  opened = outcome (opening way 3) sevens nothing

  accepted-opening : outcome (opening way 3) sevens nothing ≡ accepted_outcome (opening way 3) sevens nothing
  accepted-opening = carried-out (opening way 3) sevens nothing (opening-accepted sevens nothing way 3 refl room)

  pub promise : OpeningPromise way 3 sevens (packed opened.reply) opened.store
  unfolding accepted_outcome changed
  promise = record { left = record { reply = refl; store = refl; lent = sym (ap (λ (o : Outcome). o.lent) accepted-opening) } }

  pub answers-zero : refusal_in (packed opened.reply) ≡ 0
  unfolding unpacked accepted_outcome changed accepted
  answers-zero = ap (λ r. r.number) ((opening-told {l = nothing} promise refl).reply ∙ ap (λ (o : Outcome). o.reply) accepted-opening)

  abbrev pub start_in : Word
  start_in = opened.store

  -- a list with one call more, which comes to its outcome
  abbrev pub more_in : List Step → Call → List Step
  more_in xs call = step_of call (store_after start_in xs) nothing ∷ xs

  pub one-more-in : {xs : List Step} → Run start_in xs → (call : Call) → MayStand call (store_after start_in xs) nothing → Run start_in (more_in xs call)
  one-more-in r call h = goes_on way 3 sevens all-bytes (packed opened.reply) start_in promise answers-zero r call nothing h

  pub claims-of : {xs : List Step} → Run start_in xs → Claims (reading_number way) 3 start_in xs
  claims-of r = every-list way 3 sevens all-bytes (packed opened.reply) start_in promise answers-zero r

  pub stays-good : {xs : List Step} → Run start_in xs → Good (store_after start_in xs)
  stays-good r = always-good way 3 sevens all-bytes (packed opened.reply) start_in promise answers-zero r

-- ---- the calls, on a plain record

abbrev pub start : Word
start = start_in as_plain

abbrev pub more : List Step → Call → List Step
more = more_in as_plain

pub with-G : List Step
with-G = more [] (add at_left 71)

pub G-gone : List Step
G-gone = more with-G (remove at_left)

pub with-A : List Step
with-A = more G-gone (add at_right 65)

pub with-CA : List Step
with-CA = more with-A (add at_left 67)

pub opening-tried : List Step
opening-tried = more with-CA (opening as_plain 0)

pub N-tried : List Step
N-tried = more opening-tried (add at_right 78)

pub C-sought : List Step
C-sought = more N-tried (ask (find (67 ∷ [])))

pub row-asked : List Step
row-asked = more C-sought (ask (the_row 2))

pub with-CAC : List Step
with-CAC = more row-asked (add at_right 67)

pub A-tried : List Step
A-tried = more with-CAC (add at_left 65)

pub calls : List Step
calls = more A-tried (remove at_right)

-- an opening for no letters is refused with 1, whatever the store
zero-refused : (b : Word) → refusal (rule_of b) (view_in b nothing) (opening as_plain 0) ≡ 0 → ⊥
zero-refused b z = omega (arith, opening-capacity b nothing as_plain 0 refl)

pub one_more : {xs : List Step} → Run start xs → (call : Call) → MayStand call (store_after start xs) nothing → Run start (more xs call)
one_more r call h = one-more-in as_plain r call h

run-to-CA : Run start with-CA
unfolding with-CA with-A G-gone with-G
run-to-CA = let emptied = one_more (one_more begun (add at_left 71) tt) (remove at_left) tt in one_more (one_more emptied (add at_right 65) tt) (add at_left 67) tt

run-to-row : Run start row-asked
unfolding row-asked C-sought N-tried opening-tried
run-to-row =
    let tried = one_more (one_more run-to-CA (opening as_plain 0) (refl, zero-refused (store_after start with-CA))) (add at_right 78) tt in
    one_more (one_more tried (ask (find (67 ∷ []))) tt) (ask (the_row 2)) tt

pub run-to-CAC : Run start with-CAC
unfolding with-CAC
run-to-CAC = one_more run-to-row (add at_right 67) tt

pub a-run : Run start calls
unfolding calls A-tried
a-run = one_more (one_more run-to-CAC (add at_left 65) tt) (remove at_right) tt

pub its-claims : Claims 0 3 start calls
unfolding reading_number
its-claims = claims-of as_plain a-run

-- ---- the letters, from the arguments alone

before-CAC : letters_after 3 row-asked ≡ 67 ∷ 65 ∷ []
unfolding row-asked C-sought N-tried opening-tried with-CA with-A G-gone with-G letters_after letters_step added removed without_first is_letter
before-CAC = refl

pub in-CAC : letters_after 3 with-CAC ≡ 67 ∷ 65 ∷ 67 ∷ []
unfolding with-CAC letters_after letters_step added is_letter
in-CAC = rw before-CAC refl

letters-full : letters_after 3 A-tried ≡ 67 ∷ 65 ∷ 67 ∷ []
unfolding A-tried letters_after letters_step is_letter
letters-full = rw in-CAC refl

pub letters-left : letters_after 3 calls ≡ 67 ∷ 65 ∷ []
unfolding calls letters_after letters_step removed without_last
letters-left = rw letters-full refl

-- ---- the reading, from the arguments alone: no call of the list changes it

plain-CA : reading_after 0 with-CA ≡ 0
unfolding with-CA with-A G-gone with-G reading_after reading_step
plain-CA = refl

plain-tried : reading_after 0 opening-tried ≡ 0
unfolding opening-tried reading_after reading_step
plain-tried = plain-CA

plain-N : reading_after 0 N-tried ≡ 0
unfolding N-tried reading_after reading_step
plain-N = plain-tried

plain_row : reading_after 0 row-asked ≡ 0
unfolding row-asked C-sought reading_after reading_step
plain_row = plain-N

pub plain-CAC : reading_after 0 with-CAC ≡ 0
unfolding with-CAC reading_after reading_step
plain-CAC = plain_row

plain-full : reading_after 0 A-tried ≡ 0
unfolding A-tried reading_after reading_step
plain-full = plain-CAC

plain-left : reading_after 0 calls ≡ 0
unfolding calls reading_after reading_step
plain-left = plain-full

-- ---- after the list: C and A stand, each in a row of its own

abbrev end : Word
end = store_after start calls

abbrev row_now : Word → ℕ
row_now w = row_after 0 3 calls w

its-table : Table 0 3 (letters_after 3 calls) row_now end
its-table = subst (λ (m : ℕ). Table m 3 (letters_after 3 calls) row_now end) plain-left its-claims.table

pub letter : (c : ℕ) → Palindrome (rule_in 0) (c ∷ [])
unfolding mirror rule_in
letter c = record { non-empty = cons-ne-nil c []; symmetric = refl }

C-stands : Stands (67 ∷ []) (letters_after 3 calls)
C-stands = record { before = []; after = 65 ∷ []; whole = sym letters-left }

A-stands : Stands (65 ∷ []) (letters_after 3 calls)
A-stands = record { before = 67 ∷ []; after = []; whole = sym letters-left }

pub still-good : Good end
still-good = its-claims.shown.good

pub C-found : Replies (find (67 ∷ [])) end (accepted true (row_now (67 ∷ [])) 0 0)
C-found = its-table.found (67 ∷ []) (letter 67) C-stands

pub C-in-range : (2 ≤ row_now (67 ∷ [])) × (row_now (67 ∷ []) ≤ 4)
C-in-range = its-table.in-range (67 ∷ []) (letter 67) C-stands

pub own-rows : row_now (67 ∷ []) ≡ row_now (65 ∷ []) → ⊥
own-rows e =
    let same = its-table.alone (67 ∷ []) (65 ∷ []) (letter 67) C-stands (letter 65) A-stands e in
    omega (arith, ap (λ (w : Word). get_or w 0 0) same)

-- C's link is the empty string, in row 1, its length 1, and its inner row the imaginary one, 0
pub C-fields : Replies (the_row (row_now (67 ∷ []))) end (accepted false 1 1 0)
unfolding number_of link_of inner_of longest_suffix
C-fields = its-table.fields (67 ∷ []) (letter 67) C-stands

AA-nowhere : Stands (65 ∷ 65 ∷ []) (letters_after 3 calls) → ⊥
unfolding stands frequency places places_from starts_with
AA-nowhere h =
    let no : stands (65 ∷ 65 ∷ []) (letters_after 3 calls) ≡ false = rw letters-left refl in
    false-not-true no (stands-is (65 ∷ 65 ∷ []) (letters_after 3 calls) h)

-- AA reads alike and is merely not there
pub AA-absent : Replies (find (65 ∷ 65 ∷ [])) end (accepted false 0 0 0)
unfolding all_letters is_letter reported_mismatch first_mismatch mismatch_from mirror rule_in
AA-absent = its-table.absent (65 ∷ 65 ∷ []) (cons-ne-nil 65 (65 ∷ [])) refl (λ p h. AA-nowhere h)

-- CCAC, which is longer than the record, is no repeat: its second pair disagrees
CCAC-none : Palindrome (rule_in 0) (67 ∷ 67 ∷ 65 ∷ 67 ∷ []) → ⊥
unfolding mirror rule_in
CCAC-none p = omega (arith, ap (λ (w : Word). get_or w 1 0) p.symmetric)

pub CCAC-breaks : Replies (find (67 ∷ 67 ∷ 65 ∷ 67 ∷ [])) end (accepted false 0 2 0)
unfolding all_letters is_letter reported_mismatch first_mismatch mismatch_from mirror rule_in
CCAC-breaks = its-table.absent (67 ∷ 67 ∷ 65 ∷ 67 ∷ []) (cons-ne-nil 67 (67 ∷ 65 ∷ 67 ∷ [])) refl (λ p h. CCAC-none p)

-- no repeat has row 5, which is over capacity + 1
row-five : (w : Word) → Palindrome (rule_in 0) w → Stands w (letters_after 3 calls) → row_now w ≡ 5 → ⊥
row-five w p h e = omega (arith, (its-table.in-range w p h).1, e)

pub five-refused : Replies (the_row 5) end (refused_with 7)
five-refused = its-table.no_row 5 (omega arith) row-five

pub five-unspelt : Replies (spell 5) end (refused_with 7)
five-unspelt = its-table.no-spelling 5 (omega arith) row-five

-- ---- each call: with the calls before it

abbrev answered : List Step → Call → ℕ
answered xs call = (step_of call (store_after start xs) nothing).answer

-- what is claimed of a call that comes after the list, in the reading m
abbrev pub ClaimedIn : ℕ → List Step → Call → Type 0
ClaimedIn m xs call = Called m 3 (letters_after 3 xs) (λ w. row_after 0 3 xs w) (λ w. row_after 0 3 (more xs call) w) (store_after start xs) (step_of call (store_after start xs) nothing)

abbrev ClaimedOf : List Step → Call → Type 0
ClaimedOf xs call = ClaimedIn 0 xs call

in-plain : (xs : List Step) (call : Call) → reading_after 0 xs ≡ 0 → ClaimedIn (reading_after 0 xs) xs call → ClaimedOf xs call
in-plain xs call e h = subst (λ (m : ℕ). ClaimedIn m xs call) e h

of-removal : ClaimedOf A-tried (remove at_right)
unfolding EachCall calls
of-removal = in-plain A-tried (remove at_right) plain-full its-claims.each.0

-- the removal is accepted and takes C, and CAC with it, which stood once only; C itself stays, in its row
removal-accepted : (unpacked (answered A-tried (remove at_right))).number ≡ 0
removal-accepted = (of-removal.removal at_right refl).accepted-if (λ e. cons-ne-nil 67 (65 ∷ 67 ∷ []) (sym letters-full ∙ e))

pub CAC-went : (unpacked (answered A-tried (remove at_right))).flag ≡ true
unfolding stands_once frequency places places_from starts_with longest_at longest_suffix is_symmetric first_mismatch mismatch_from mirror rule_in
CAC-went = (of-removal.removal at_right refl).goes-out removal-accepted ∙ rw letters-full refl

C-stood : Stands (67 ∷ []) (letters_after 3 A-tried)
C-stood = record { before = []; after = 65 ∷ 67 ∷ []; whole = sym letters-full }

pub C-kept : Kept (67 ∷ []) (λ w. row_after 0 3 A-tried w) (λ w. row_after 0 3 calls w) (store_after start A-tried) (step_of (remove at_right) (store_after start A-tried) nothing).store
unfolding calls letters_after reading_step
C-kept = of-removal.kept (67 ∷ []) (letter 67) C-stood (letter 67) C-stands

-- the calls before it, last first
of-refused-A : ClaimedOf with-CAC (add at_left 65)
unfolding EachCall calls A-tried
of-refused-A = in-plain with-CAC (add at_left 65) plain-CAC its-claims.each.1.0

of-addition : ClaimedOf row-asked (add at_right 67)
unfolding EachCall calls A-tried with-CAC
of-addition = in-plain row-asked (add at_right 67) plain_row its-claims.each.1.1.0

each-to-row : EachCall 0 3 start row-asked
unfolding EachCall calls A-tried with-CAC
each-to-row = its-claims.each.1.1.1

of-question : ClaimedOf N-tried (ask (find (67 ∷ [])))
unfolding EachCall row-asked C-sought
of-question = in-plain N-tried (ask (find (67 ∷ []))) plain-N each-to-row.1.0

of-refused-N : ClaimedOf opening-tried (add at_right 78)
unfolding EachCall row-asked C-sought N-tried
of-refused-N = in-plain opening-tried (add at_right 78) plain-tried each-to-row.1.1.0

of-refused-opening : ClaimedOf with-CA (opening as_plain 0)
unfolding EachCall row-asked C-sought N-tried opening-tried
of-refused-opening = in-plain with-CA (opening as_plain 0) plain-CA each-to-row.1.1.1.0

-- the addition brings in CAC, which stood nowhere before
pub CAC-came : (unpacked (answered row-asked (add at_right 67))).flag ≡ true
unfolding stands frequency places places_from starts_with longest_at longest_suffix is_symmetric first_mismatch mismatch_from mirror added is_letter rule_in
CAC-came =
    let claim = of-addition.addition at_right 67 refl in
    claim.comes-in (claim.accepted-if (rw before-CAC refl)) ∙ rw before-CAC refl

-- a full record takes no letter
pub A-refused : refusal_in (answered with-CAC (add at_left 65)) ≡ 0 → ⊥
unfolding is_letter unpacked
A-refused z =
    let no : (is_letter 65 && ltb (length (letters_after 3 with-CAC)) 3) ≡ false = rw in-CAC refl in
    false-not-true no ((of-refused-A.addition at_left 65 refl).only_if z)

-- N is refused with 4 and the opening for no letters with 1, and what is refused leaves the store
pub N-answers-four : refusal_in (answered opening-tried (add at_right 78)) ≡ 4
unfolding is_letter refusal faults
N-answers-four = of-refused-N.number_is ∙ add-letter (store_after start opening-tried) nothing at_right 78 refl

pub opening-answers-one : refusal_in (answered with-CA (opening as_plain 0)) ≡ 1
unfolding refusal faults
opening-answers-one = of-refused-opening.number_is ∙ opening-capacity (store_after start with-CA) nothing as_plain 0 refl

pub N-leaves-store : (step_of (add at_right 78) (store_after start opening-tried) nothing).store ≡ store_after start opening-tried
N-leaves-store = (of-refused-N.refused-leaves (λ z. omega (arith, N-answers-four))).1

-- the search changes no byte of the store, and does not answer 3
pub search-leaves-store : (step_of (ask (find (67 ∷ []))) (store_after start N-tried) nothing).store ≡ store_after start N-tried
search-leaves-store = of-question.question-leaves (find (67 ∷ [])) refl

pub search-not-three : refusal_in (answered N-tried (ask (find (67 ∷ [])))) ≡ 3 → ⊥
search-not-three = of-question.never-three

-- ---- C added at the right once more and taken back: every question answers as before

abbrev first : Step
first = step_of (add at_right 67) end nothing

abbrev second : Step
second = step_of (remove at_right) first.store nothing

longer : Run start (first ∷ calls)
longer = one_more a-run (add at_right 67) tt

first-accepted : refusal_in first.answer ≡ 0
unfolding EachCall is_letter unpacked reading_number
first-accepted =
    let claims = claims-of as_plain longer in
    (claims.each.0.addition at_right 67 refl).accepted-if (rw letters-left refl)

pub taken_back : Undone end 67 first second
unfolding store_after
taken_back =
    its-claims.undone at_right 67 first second refl (keeps-contract (add at_right 67) end nothing still-good tt) first-accepted refl
    (keeps-contract (remove at_right) first.store nothing (stays-good as_plain longer) tt)
