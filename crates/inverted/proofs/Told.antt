-- The table of a record with letters tells its reading: where the cell of the reading alone is changed in a good store, the store is not good, unless the record is empty. A plain record has
-- a row for each of its letters, an inverted one has no row of length 1. Rests on the laws of rows and on the frame laws of a write.
use Prim.Native.Nat.{ℕ, zero, suc, ◌+◌, ◌≤◌, ◌<◌}
use native.Mathlib.Omega.{arith}
use mathlib.Core.Path.{◌≡◌, refl, sym, ap, ap₂, ◌∙◌, subst}
use mathlib.Core.Bool.{Bool, true, ◌&&◌, ◌||◌}
use mathlib.Core.Logic.{⊎_elim}
use mathlib.Core.List.{[], ◌∷◌}
use lib.Dec.{ltb, eqb}
use lib.ListN.{length, take, drop}
use borrow.Author.Tests.{ne_eqb, eqb-true, eqb-false}
use Rattle.palindromes.specs.Word.{Word}
use Rattle.palindromes.specs.Palindrome.{Palindrome, mirror}
use Rattle.palindromes.specs.Reading.{rule_in}
use Rattle.palindromes.specs.Place.{Stands}
use Rattle.palindromes.specs.Node.{spelt}
use Rattle.palindromes.specs.Refusal.{store_size}
use Rattle.palindromes.proofs.Tests.{decided}
use Rattle.eertree.proofs.Rows.{reach_of, word_row, row-high}
use Rattle.store.specs.Layout.{cell, set_cell, capacity_in, size_in, count_in, reading_in, rank_in, used_in, letters_at, letters_in}
use Rattle.store.specs.Good.{rule_of, Good}
use Rattle.store.specs.Writes.{write, writes}
use Rattle.store.proofs.Writes.{cell_set, drop-writes}
use Rattle.transitions.specs.Rows.{row_of}
use Rattle.transitions.proofs.Rows.{covers, row-of-node, length-row}
use Rattle.inverted.proofs.Repeats.{even}

-- a letter alone is a repeat of a plain record
letter-alone : (c : ℕ) → Palindrome (rule_in 0) (c ∷ [])
unfolding mirror rule_in
letter-alone c = record { non-empty = λ e. let z : ◌≡◌ {A = ℕ} 0 1 = ap length (sym e) in omega arith; symmetric = refl }

-- two good stores with the same letters and the same stored lengths in the same used rows, the one plain and the other inverted, are empty
module _ {p q : Word} (g : Good p) (h : Good q) (plainly : reading_in p ≡ 0) (inverted : reading_in q ≡ 1)
    (letters : letters_in p ≡ letters_in q) (used : (r : ℕ) → used_in p r ≡ used_in q r) (lengths : (r : ℕ) → cell p r 0 ≡ cell q r 0) where
  no-letter : (c : ℕ) (s : Word) → letters_in p ≡ c ∷ s → ⊥
  no-letter c s e =
      let alone : Palindrome (rule_of p) (c ∷ []) = subst (λ (m : ℕ). Palindrome (rule_in m) (c ∷ [])) (sym plainly) (letter-alone c) in
      let stands : Stands (c ∷ []) (letters_in p) = record { before = []; after = s; whole = sym e } in
      let row = row_of p (spelt (c ∷ [])) in
      let held = row-of-node g (spelt (c ∷ [])) (alone.symmetric, stands) in
      let there : used_in q row ≡ true = sym (used row) ∙ held.0 in
      let word = word_row (covers h) row there (row-high (covers g) row held.1 alone.non-empty) in
      let one : length word.0 ≡ 1 =
      omega (arith, length-row g row held.0, ap reach_of held.1, lengths row, length-row h row there, ap reach_of word.1) in
      omega (arith, even h inverted word.0 word.2 word.3, one)

  pub both-empty : letters_in p ≡ []
  both-empty = go (letters_in p) refl
    where
      go : (s : Word) → letters_in p ≡ s → letters_in p ≡ []
      go [] e = e
      go (c ∷ s) e = absurd (no-letter c s e)

-- ---- the cell of the reading alone

-- of two numbers below 2 that are not equal, the one is the other's other
the-other : (v m n : ℕ) → v < 2 → (v ≡ m → ⊥) → m + n ≡ 1 → v ≡ n
the-other v m n l d e = ⊎_elim (λ z. absurd (d (eqb-true v m z))) (λ z. let f = eqb-false v m z in omega arith) (decided (eqb v m))

module _ {b : Word} (g : Good b) (v : ℕ) (small : v < 65536) where
  -- the store with another number there
  abbrev changed : Word
  changed = set_cell b 0 11 v

  header : 24 ≤ length b
  unfolding store_size
  header = omega (arith, g.sized.long-enough)

  pub new-reading : reading_in changed ≡ v
  unfolding reading_in
  new-reading = cell_set b 0 11 v (omega (arith, header)) (omega arith) small 0 11 (omega arith)

  pub same-cell : (r f : ℕ) → f < 11 → cell changed r f ≡ cell b r f
  same-cell r f l = cell_set b 0 11 v (omega (arith, header)) (omega arith) small r f (omega arith) ∙ cc (ne_eqb 11 f (λ e. omega arith))

  pub same-capacity : capacity_in changed ≡ capacity_in b
  unfolding capacity_in
  same-capacity = same-cell 0 8 (omega arith)

  pub same-used : (r : ℕ) → used_in changed r ≡ used_in b r
  unfolding used_in rank_in count_in
  same-used r =
      ap₂ (λ (k : ℕ) (t : Bool). ltb r 2 || (ltb r (k + 2) && t)) same-capacity (ap₂ (λ (i n : ℕ). ltb i n) (same-cell r 9 (omega arith)) (same-cell 0 10 (omega arith)))

  pub same-letters : letters_in changed ≡ letters_in b
  unfolding letters_in size_in writes
  same-letters =
      ap₂ (λ (n k : ℕ). take n (drop (letters_at k) changed)) (same-cell 0 9 (omega arith)) same-capacity
      ∙ ap (take (cell b 0 9)) (drop-writes b (write 0 11 v ∷ []) 1 (letters_at (capacity_in b)) (omega arith, omega arith, tt) (omega arith))

  -- where it still is a good store, the record is empty
  pub reading-told : Good changed → (v ≡ reading_in b → ⊥) → letters_in b ≡ []
  reading-told h other = go (reading_in b) refl
    where
      below : v < 2
      below = omega (arith, h.reading, new-reading)

      go : (m : ℕ) → reading_in b ≡ m → letters_in b ≡ []
      go zero e = both-empty g h e (new-reading ∙ the-other v 0 1 below (λ z. other (z ∙ sym e)) (omega arith)) (sym same-letters) (λ r. sym (same-used r)) (λ r. sym (same-cell r 0 (omega arith)))
      go (suc m) e =
          let one : reading_in b ≡ 1 = omega (arith, g.reading, e) in
          sym same-letters
          ∙ both-empty h g (new-reading ∙ the-other v 1 0 below (λ z. other (z ∙ sym one)) (omega arith)) one same-letters same-used (λ r. same-cell r 0 (omega arith))
