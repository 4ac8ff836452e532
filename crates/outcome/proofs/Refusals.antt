-- When a call on a good store is refused, and that it is never refused with 3. Assumes nothing.
use Prim.Native.Nat.{ℕ, zero, suc, ◌<◌, ◌≤◌}
use mathlib.Core.Path.{◌≡◌, refl, ap}
use mathlib.Core.Bool.{Bool, true, false, not, ◌&&◌}
use mathlib.Core.List.{List, [], ◌∷◌}
use native.Mathlib.Omega.{arith}
use native.Mathlib.Decide.{dec_lt}
use lib.Dec.{eqb, leb, ltb}
use lib.ListN.{length}
use borrow.Author.Tests.{eq-eqb, lt-leb, le-leb, lt-ltb, le-ltb, leb-true, leb-false, ltb-true, ltb-false}
use Rattle.palindromes.specs.Word.{Word, is_letter, all_letters, is_empty}
use Rattle.palindromes.specs.Reading.{Reading, reading_number}
use Rattle.palindromes.specs.End.{End}
use Rattle.palindromes.specs.Node.{spelling_of}
use Rattle.palindromes.specs.Bed.{is_identifier, listing}
use Rattle.palindromes.specs.Sheet.{sheet_lines, is_sheet}
use Rattle.palindromes.specs.Refusal.{Question, the_length, the_count, the_longest, the_longest_length, the_occurrences, page, the_minimal_unique, the_pieces}
use Rattle.palindromes.specs.Refusal.{the_longest_at, the_letter, the_row, the_frequency, spell, find, list, mark, View, question_faults, Call, opening, add}
use Rattle.palindromes.specs.Refusal.{remove, turn, ask, fault, first_fault, is_free, spelling_length, store_size, scratch_size, faults, refusal}
use Rattle.palindromes.proofs.Tests.{both_true, false-not-true, non-empty-is}
use Rattle.store.specs.Layout.{capacity_in, reading_in, used_in, letters_in}
use Rattle.store.specs.Good.{rule_of, node_in}
use Rattle.outcome.specs.Outcome.{Lent, view_in, unless_refused, outcome, accepted_outcome, refused_outcome}

-- ---- the numbers

-- a number that a good store may answer: it fits its byte and is not 3. 0 stands for none
abbrev Other : ℕ → Type 0
Other n = (n < 256) × (n ≡ 3 → ⊥)

abbrev EachOther : List ℕ → Type 0
EachOther [] = Unit {0}
EachOther (n ∷ ns) = Other n × EachOther ns

none : Other 0
none = (omega arith, λ e. omega arith)

first-other : (ns : List ℕ) → EachOther ns → Other (first_fault ns)
unfolding first_fault
first-other [] a = none
first-other (zero ∷ ns) a = first-other ns a.1
first-other (suc n ∷ ns) a = a.0

-- a row of the table with another number than 3
row : (n : ℕ) (t : Bool) → (ltb n 256 && not (eqb n 3)) ≡ true → Other (fault n t)
unfolding fault
row n true h =
    let both = both_true (ltb n 256) (not (eqb n 3)) h in
    (ltb-true n 256 both.0, λ e. false-not-true (ap (λ (m : ℕ). not (eqb m 3)) e) both.1)
row n false h = none

-- the row of 3, on a good store
good-store : Other (fault 3 (not true))
unfolding fault
good-store = none

question-numbers : (σ : ℕ → ℕ) (v : View) (q : Question) → EachOther (question_faults σ v q)
unfolding question_faults
question-numbers σ v the_length = tt
question-numbers σ v the_count = tt
question-numbers σ v the_longest = (row 6 _ refl, tt)
question-numbers σ v the_longest_length = tt
question-numbers σ v the_occurrences = tt
question-numbers σ v page = (row 9 _ refl, tt)
question-numbers σ v the_minimal_unique = (row 9 _ refl, tt)
question-numbers σ v the_pieces = (row 14 _ refl, (row 9 _ refl, tt))
question-numbers σ v (the_longest_at e) = (row 6 _ refl, tt)
question-numbers σ v (the_letter i) = (row 7 _ refl, tt)
question-numbers σ v (the_row r) = (row 7 _ refl, tt)
question-numbers σ v (the_frequency r) = (row 7 _ refl, tt)
question-numbers σ v (spell r) = (row 7 _ refl, (row 9 _ refl, tt))
question-numbers σ v (find p) = (row 8 _ refl, (row 4 _ refl, tt))
question-numbers σ v (list name) =
    (row 10 _ refl, (row 9 _ refl, (row 9 _ refl, tt)))
question-numbers σ v (mark name sheet) =
    (row 10 _ refl, (row 13 _ refl, (row 9 _ refl, tt)))

-- the number of any call on a good store, and of an opening on any: one byte, and never 3
pub number-other : (b : Word) (l : Lent) (call : Call) → Other (refusal (rule_of b) (view_in b l) call)
unfolding refusal faults view_in
number-other b l (opening way k) = first-other _ (row 1 _ refl, (row 2 _ refl, tt))
number-other b l (add e c) = first-other _ (good-store, (row 4 _ refl, (row 5 _ refl, tt)))
number-other b l (remove e) = first-other _ (good-store, (row 6 _ refl, tt))
number-other b l (turn way) = first-other _ (good-store, tt)
number-other b l (ask q) = first-other _ (good-store, question-numbers _ _ q)

-- ---- when a call is carried out

-- a test that does not fail holds
not-false-true : (t : Bool) → (t ≡ false → ⊥) → t ≡ true
not-false-true true h = refl
not-false-true false h = absurd (h refl)

module _ (b : Word) (l : Lent) where
  pub add-letter : (e : End) (c : ℕ) → is_letter c ≡ false → refusal (rule_of b) (view_in b l) (add e c) ≡ 4
  unfolding refusal faults question_faults view_in first_fault fault
  add-letter e c h = rw h

  pub add-full : (e : End) (c : ℕ) → is_letter c ≡ true → capacity_in b ≤ length (letters_in b) → refusal (rule_of b) (view_in b l) (add e c) ≡ 5
  unfolding refusal faults question_faults view_in first_fault fault
  add-full e c h k = rw (h, le-leb (capacity_in b) (length (letters_in b)) k)

  pub add-accepted : (e : End) (c : ℕ) → is_letter c ≡ true → length (letters_in b) < capacity_in b → refusal (rule_of b) (view_in b l) (add e c) ≡ 0
  unfolding refusal faults question_faults view_in first_fault fault
  add-accepted e c h k = rw (h, lt-leb (capacity_in b) (length (letters_in b)) k)

  pub remove-empty : (e : End) → letters_in b ≡ [] → refusal (rule_of b) (view_in b l) (remove e) ≡ 6
  unfolding refusal faults question_faults view_in first_fault fault is_empty
  remove-empty e h = rw h

  pub remove-accepted : (e : End) → (letters_in b ≡ [] → ⊥) → refusal (rule_of b) (view_in b l) (remove e) ≡ 0
  unfolding refusal faults question_faults view_in first_fault fault
  remove-accepted e h = rw (non-empty-is (letters_in b) h)

  -- a good store can be turned, whatever it holds
  pub turn-accepted : (way : Reading) → refusal (rule_of b) (view_in b l) (turn way) ≡ 0
  unfolding refusal faults view_in first_fault fault
  turn-accepted way = refl

  pub find-accepted : (w : Word) → (w ≡ [] → ⊥) → all_letters w ≡ true → refusal (rule_of b) (view_in b l) (ask (find w)) ≡ 0
  unfolding refusal faults question_faults view_in first_fault fault
  find-accepted w h k = rw (non-empty-is w h, k)

  pub row-accepted : (r : ℕ) → used_in b r ≡ true → refusal (rule_of b) (view_in b l) (ask (the_row r)) ≡ 0
  unfolding refusal faults question_faults view_in first_fault fault is_free
  row-accepted r h = rw h

  pub row-free : (r : ℕ) → used_in b r ≡ false → refusal (rule_of b) (view_in b l) (ask (the_row r)) ≡ 7
  unfolding refusal faults question_faults view_in first_fault fault is_free
  row-free r h = rw h

  -- 02 (iii) "rows 0 and 1, free rows and rows over capacity + 1 are refused with 7"
  pub frequency-root : (r : ℕ) → r < 2 → refusal (rule_of b) (view_in b l) (ask (the_frequency r)) ≡ 7
  unfolding refusal faults question_faults view_in first_fault fault
  frequency-root r h = rw (lt-ltb r 2 h)

  pub frequency-free : (r : ℕ) → 2 ≤ r → used_in b r ≡ false → refusal (rule_of b) (view_in b l) (ask (the_frequency r)) ≡ 7
  unfolding refusal faults question_faults view_in first_fault fault is_free
  frequency-free r m h = rw (le-ltb r 2 m, h)

  pub frequency-accepted : (r : ℕ) → 2 ≤ r → used_in b r ≡ true → refusal (rule_of b) (view_in b l) (ask (the_frequency r)) ≡ 0
  unfolding refusal faults question_faults view_in first_fault fault is_free
  frequency-accepted r m h = rw (le-ltb r 2 m, h)

  pub occurrences-accepted : refusal (rule_of b) (view_in b l) (ask the_occurrences) ≡ 0
  unfolding refusal faults question_faults view_in first_fault fault
  occurrences-accepted = refl

  pub spell-free : (r : ℕ) → used_in b r ≡ false → refusal (rule_of b) (view_in b l) (ask (spell r)) ≡ 7
  unfolding refusal faults question_faults view_in first_fault fault is_free
  spell-free r h = rw h

  pub length-accepted : refusal (rule_of b) (view_in b l) (ask the_length) ≡ 0
  unfolding refusal faults question_faults view_in first_fault fault
  length-accepted = refl

  pub count-accepted : refusal (rule_of b) (view_in b l) (ask the_count) ≡ 0
  unfolding refusal faults question_faults view_in first_fault fault
  count-accepted = refl

  pub longest-length-accepted : refusal (rule_of b) (view_in b l) (ask the_longest_length) ≡ 0
  unfolding refusal faults question_faults view_in first_fault fault
  longest-length-accepted = refl

  pub longest-none : letters_in b ≡ [] → refusal (rule_of b) (view_in b l) (ask the_longest) ≡ 6
  unfolding refusal faults question_faults view_in first_fault fault is_empty
  longest-none h = rw h

  pub longest-accepted : (letters_in b ≡ [] → ⊥) → refusal (rule_of b) (view_in b l) (ask the_longest) ≡ 0
  unfolding refusal faults question_faults view_in first_fault fault
  longest-accepted h = rw (non-empty-is (letters_in b) h)

  pub longest-at-none : (e : End) → letters_in b ≡ [] → refusal (rule_of b) (view_in b l) (ask (the_longest_at e)) ≡ 6
  unfolding refusal faults question_faults view_in first_fault fault is_empty
  longest-at-none e h = rw h

  pub letter-outside : (i : ℕ) → length (letters_in b) ≤ i → refusal (rule_of b) (view_in b l) (ask (the_letter i)) ≡ 7
  unfolding refusal faults question_faults view_in first_fault fault
  letter-outside i h = rw (le-leb (length (letters_in b)) i h)

  pub letter-accepted : (i : ℕ) → i < length (letters_in b) → refusal (rule_of b) (view_in b l) (ask (the_letter i)) ≡ 0
  unfolding refusal faults question_faults view_in first_fault fault
  letter-accepted i h = rw (lt-leb (length (letters_in b)) i h)

  pub spell-short : (r : ℕ) → used_in b r ≡ true → length l.out < length (spelling_of (node_in b r)) → refusal (rule_of b) (view_in b l) (ask (spell r)) ≡ 9
  unfolding refusal faults question_faults view_in first_fault fault is_free spelling_length
  spell-short r h k = rw (h, lt-ltb (length l.out) (length (spelling_of (node_in b r))) k)

  pub spell-accepted : (r : ℕ) → used_in b r ≡ true → length (spelling_of (node_in b r)) ≤ length l.out → refusal (rule_of b) (view_in b l) (ask (spell r)) ≡ 0
  unfolding refusal faults question_faults view_in first_fault fault is_free spelling_length
  spell-accepted r h k = rw (h, le-ltb (length l.out) (length (spelling_of (node_in b r))) k)

  pub pieces-inverted : reading_in b ≡ 1 → refusal (rule_of b) (view_in b l) (ask the_pieces) ≡ 14
  unfolding refusal faults question_faults view_in first_fault fault reading_number
  pieces-inverted h = rw (eq-eqb (reading_in b) 1 h)

  pub find-empty : (w : Word) → w ≡ [] → refusal (rule_of b) (view_in b l) (ask (find w)) ≡ 8
  unfolding refusal faults question_faults view_in first_fault fault is_empty
  find-empty w h = rw h

  pub find-letters : (w : Word) → (w ≡ [] → ⊥) → all_letters w ≡ false → refusal (rule_of b) (view_in b l) (ask (find w)) ≡ 4
  unfolding refusal faults question_faults view_in first_fault fault
  find-letters w h k = rw (non-empty-is w h, k)

  pub list-name : (name : Word) → is_identifier name ≡ false → refusal (rule_of b) (view_in b l) (ask (list name)) ≡ 10
  unfolding refusal faults question_faults view_in first_fault fault
  list-name name h = rw h

  pub list-scratch : (name : Word) → is_identifier name ≡ true → length l.scratch < scratch_size (length (letters_in b)) → refusal (rule_of b) (view_in b l) (ask (list name)) ≡ 9
  unfolding refusal faults question_faults view_in first_fault fault
  list-scratch name h k = rw (h, lt-ltb (length l.scratch) (scratch_size (length (letters_in b))) k)

  pub list-out : (name : Word) → is_identifier name ≡ true → scratch_size (length (letters_in b)) ≤ length l.scratch → length l.out < length (listing (rule_of b) name (letters_in b))
      → refusal (rule_of b) (view_in b l) (ask (list name)) ≡ 9
  unfolding refusal faults question_faults view_in first_fault fault
  list-out name h k m = rw (h, le-ltb (length l.scratch) (scratch_size (length (letters_in b))) k, lt-ltb (length l.out) (length (listing (rule_of b) name (letters_in b))) m)

  pub list-accepted : (name : Word) → is_identifier name ≡ true → scratch_size (length (letters_in b)) ≤ length l.scratch → length (listing (rule_of b) name (letters_in b)) ≤ length l.out
      → refusal (rule_of b) (view_in b l) (ask (list name)) ≡ 0
  unfolding refusal faults question_faults view_in first_fault fault
  list-accepted name h k m = rw (h, le-ltb (length l.scratch) (scratch_size (length (letters_in b))) k, le-ltb (length l.out) (length (listing (rule_of b) name (letters_in b))) m)

  pub mark-name : (name sheet : Word) → is_identifier name ≡ false → refusal (rule_of b) (view_in b l) (ask (mark name sheet)) ≡ 10
  unfolding refusal faults question_faults view_in first_fault fault
  mark-name name sheet h = rw h

  pub mark-sheet : (name sheet : Word) → is_identifier name ≡ true → is_sheet (sheet_lines sheet) ≡ false
      → refusal (rule_of b) (view_in b l) (ask (mark name sheet)) ≡ 13
  unfolding refusal faults question_faults view_in first_fault fault
  mark-sheet name sheet h k = rw (h, k)

  pub opening-capacity : (way : Reading) (k : ℕ) → (leb 1 k && leb k 1024) ≡ false → refusal (rule_of b) (view_in b l) (opening way k) ≡ 1
  unfolding refusal faults question_faults view_in first_fault fault
  opening-capacity way k h = rw h

  pub opening-short : (way : Reading) (k : ℕ) → (leb 1 k && leb k 1024) ≡ true → length b < store_size k → refusal (rule_of b) (view_in b l) (opening way k) ≡ 2
  unfolding refusal faults question_faults view_in first_fault fault
  opening-short way k h m = rw (h, lt-ltb (length b) (store_size k) m)

  pub opening-accepted : (way : Reading) (k : ℕ) → (leb 1 k && leb k 1024) ≡ true → store_size k ≤ length b → refusal (rule_of b) (view_in b l) (opening way k) ≡ 0
  unfolding refusal faults question_faults view_in first_fault fault
  opening-accepted way k h m = rw (h, le-ltb (length b) (store_size k) m)

  -- ---- what a call that is carried out tells of its arguments

  pub add-allowed : (e : End) (c : ℕ) → refusal (rule_of b) (view_in b l) (add e c) ≡ 0 → (is_letter c ≡ true) × (length (letters_in b) < capacity_in b)
  add-allowed e c z = (letter, space (leb (capacity_in b) (length (letters_in b))) refl)
    where
      letter : is_letter c ≡ true
      letter = not-false-true (is_letter c) (λ h. omega (arith, add-letter e c h))

      space : (t : Bool) → leb (capacity_in b) (length (letters_in b)) ≡ t → length (letters_in b) < capacity_in b
      space true h = absurd (omega (arith, add-full e c letter (leb-true (capacity_in b) (length (letters_in b)) h)))
      space false h = leb-false (capacity_in b) (length (letters_in b)) h

  pub row-used : (r : ℕ) → refusal (rule_of b) (view_in b l) (ask (the_row r)) ≡ 0 → used_in b r ≡ true
  row-used r z = not-false-true (used_in b r) (λ h. omega (arith, row-free r h))

  pub frequency-row : (r : ℕ) → refusal (rule_of b) (view_in b l) (ask (the_frequency r)) ≡ 0 → (2 ≤ r) × (used_in b r ≡ true)
  frequency-row r z = (high, not-false-true (used_in b r) (λ h. omega (arith, frequency-free r high h)))
    where
      go : Dec (r < 2) → 2 ≤ r
      go (yes h) = absurd (omega (arith, frequency-root r h))
      go (no h) = omega arith

      high : 2 ≤ r
      high = go (dec_lt r 2)

  pub spell-used : (r : ℕ) → refusal (rule_of b) (view_in b l) (ask (spell r)) ≡ 0 → used_in b r ≡ true
  spell-used r z = not-false-true (used_in b r) (λ h. omega (arith, spell-free r h))

  pub list-named : (name : Word) → refusal (rule_of b) (view_in b l) (ask (list name)) ≡ 0 → is_identifier name ≡ true
  list-named name z = not-false-true (is_identifier name) (λ h. omega (arith, list-name name h))

-- ---- what the outcome then is

pub carried-out : (call : Call) (b : Word) (l : Lent) → refusal (rule_of b) (view_in b l) call ≡ 0 → outcome call b l ≡ accepted_outcome call b l
unfolding outcome unless_refused
carried-out call b l h = ap (λ (n : ℕ). unless_refused n call b l) h

pub refused-out : (call : Call) (b : Word) (l : Lent) (n : ℕ) → refusal (rule_of b) (view_in b l) call ≡ suc n → outcome call b l ≡ refused_outcome (suc n) b l
unfolding outcome unless_refused
refused-out call b l n h = ap (λ (m : ℕ). unless_refused m call b l) h

-- ---- an opening

-- an opening that is not refused has a capacity of 1 to 1,024 and room for it
pub opening-room : (way : Reading) (k : ℕ) (b : Word) (l : Lent) → refusal (rule_of b) (view_in b l) (opening way k) ≡ 0 → (1 ≤ k) × (k ≤ 1024) × (store_size k ≤ length b)
unfolding refusal faults question_faults view_in first_fault fault
opening-room way k b l h = go (leb 1 k) (leb k 1024) (ltb (length b) (store_size k)) refl refl refl h
  where
    go : (p q t : Bool) → leb 1 k ≡ p → leb k 1024 ≡ q → ltb (length b) (store_size k) ≡ t → first_fault (fault 1 (not (p && q)) ∷ fault 2 t ∷ []) ≡ 0 → (1 ≤ k) × (k ≤ 1024) × (store_size k ≤ length b)
    go true true true x y z e = absurd (omega arith)
    go true true false x y z e = (leb-true 1 k x, leb-true k 1024 y, ltb-false (length b) (store_size k) z)
    go true false t x y z e = absurd (omega arith)
    go false q t x y z e = absurd (omega arith)
