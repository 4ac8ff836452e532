-- What an accepted addition leaves in the bytes, cell by cell and in the letters. The run of writes is opened here and nowhere else.
-- Rests on the laws of runs (`Writes` of store, `AddedRuns`) and on `AddedWord`, by which every row of the run is one of the table.
use Prim.Native.Nat.{ℕ, suc, ◌+◌, ◌*◌, ◌≤◌, ◌<◌}
use native.Mathlib.Omega.{arith}
use mathlib.Core.Path.{◌≡◌, refl, sym, ap, ◌∙◌}
use mathlib.Core.Bool.{Bool, true, false, cond}
use mathlib.Core.Logic.{◌≢◌, inl, inr}
use mathlib.Core.List.{List, [], ◌++◌}
use lib.Dec.{eqb}
use lib.ListN.{length, get_or, take, drop}
use lib.Seq.{sets, length-sets}
use Rattle.palindromes.specs.Word.{Word}
use Rattle.palindromes.specs.Record.{count_of_length, longest_length}
use Rattle.palindromes.specs.End.{End, at_left, at_right, other, added}
use Rattle.palindromes.specs.Node.{spelt, link_of}
use Rattle.palindromes.specs.Refusal.{store_size}
use Rattle.palindromes.proofs.Letters.{letter-byte}
use Rattle.palindromes.proofs.Palindromes.{count-length}
use Rattle.palindromes.proofs.Order.{longest-length-fits}
use Rattle.palindromes.proofs.Lengths.{length-count-most}
use Rattle.store.specs.Layout.{cell, capacity_in, size_in, count_in, reading_in, end_cell, end_row, edge_cell, link_in, inner_in, outer_in, edge_in, order_in, rank_in, length_count_in, longest_length_in, letters_at, letters_in}
use Rattle.store.specs.Good.{rule_of, Sized}
use Rattle.store.specs.Writes.{Write}
use Rattle.store.proofs.Writes.{look, Fitting, RowsBelow, fitting-kept, cell-writes, length-writes, get_or-writes, drop-writes, cell-sets}
use Rattle.store.proofs.Parts.{sets-outside, drop-sets, sets-part}
use Rattle.store.proofs.Edges.{edge-low, edge-high}
use Rattle.store.proofs.Sizes.{used-below}
use Rattle.transitions.specs.Rows.{row_of, free_row}
use Rattle.transitions.specs.Opening.{used_bytes}
use Rattle.transitions.specs.Addition.{longest_after, brings_in, row_after, hang_writes, gain_writes, settle_writes, addition_writes, after_addition}
use Rattle.transitions.proofs.Rows.{row_fits, free-row, free-below, row-of-small, size_small, count_small, length-small, stored-length}
use Rattle.transitions.specs.Bytes.{Bytes}
use Rattle.transitions.proofs.AddedRuns.{Misses, Puts, look-misses, misses-after, look-puts, puts-after, bytes-sets, bytes-writes}
use Rattle.transitions.proofs.AddedWord.{Accepted, inner_row, link_row, last_letter, letters-after, length-after, longest-fits, longest-found, inner-found, longer-than-none, last_letter_lem}

-- ---- the layout

-- the bytes that a store uses lie within it
pub used-bytes-fit : {b : Word} → Sized b → used_bytes (capacity_in b) ≤ length b
unfolding store_size
used-bytes-fit h = omega (arith, h.long-enough)

-- the letters of a store, by its capacity and its number of letters
pub letters-from : (b : Word) (capacity size : ℕ) → capacity_in b ≡ capacity → size_in b ≡ size → letters_in b ≡ take size (drop (letters_at capacity) b)
unfolding letters_in
letters-from b capacity size p q = rw (p, q)

-- the cells of the ends are 8 and 9 of row 1
pub end-cells : (e : End) → (8 ≤ end_cell e) × (end_cell e < 10) × (end_cell e ≢ end_cell (other e))
end-cells at_left = omega arith
end-cells at_right = omega arith

-- ---- the run of an addition

-- with the row of a new palindrome, or without
abbrev run : Bool → End → ℕ → Word → List Write
run k e c b = cond k (hang_writes b (longest_after e c b) ++ gain_writes e c b) [] ++ settle_writes e b (longest_after e c b) (row_after e c b)

module _ {e : End} {c : ℕ} {b : Word} (a : Accepted e c b) where
  -- the row that the call's end gets is one of the table
  row-after-below : row_after e c b < capacity_in b + 2
  unfolding row_after
  row-after-below = go (brings_in e c b) refl
    where
      go : (k : Bool) → brings_in e c b ≡ k → cond k (free_row b) (row_of b (spelt (longest_after e c b))) < capacity_in b + 2
      go true k = free-below a.good a.room
      go false k = used-below b (row_of b (spelt (longest_after e c b))) (longest-found a k).0

  -- and so is the row that the other end gets
  other-after-below : cond (eqb (length (longest_after e c b)) (size_in b + 1)) (row_after e c b) (end_row b (other e)) < capacity_in b + 2
  other-after-below = go (eqb (length (longest_after e c b)) (size_in b + 1))
    where
      go : (t : Bool) → cond t (row_after e c b) (end_row b (other e)) < capacity_in b + 2
      go true = row-after-below
      go false = used-below b (end_row b (other e)) (a.good.ends (other e)).used

  -- the rows lie within the store
  rows_fit : 24 * (capacity_in b + 2) ≤ length b
  rows_fit = omega (arith, row_fits a.good.sized (capacity_in b + 1) (omega arith))

  -- every write lies in a row of the table
  run-below : RowsBelow (capacity_in b + 2) (addition_writes e c b)
  unfolding addition_writes hang_writes gain_writes settle_writes
  run-below = go (brings_in e c b) refl
    where
      go : (k : Bool) → brings_in e c b ≡ k → RowsBelow (capacity_in b + 2) (run k e c b)
      go true k = omega (arith, (free-row a.good a.room).low, free-below a.good a.room, used-below b (inner_row e c b) (inner-found a k).0, edge-high (last_letter e c b), longest-fits a, end-cells e, end-cells (other e))
      go false k = omega (arith, end-cells e, end-cells (other e))

  -- what every addition writes fits a cell
  small : (capacity_in b + 2 < 65536) × (row_after e c b < 65536) × (cond (eqb (length (longest_after e c b)) (size_in b + 1)) (row_after e c b) (end_row b (other e)) < 65536) × (size_in b + 1 < 65536) × (end_cell e < 12) × (end_cell (other e) < 12)
  small = omega (arith, a.good.sized.at_most, row-after-below, other-after-below, size_small a.good, end-cells e, end-cells (other e))

  -- so do the numbers that it carries
  carried-small : (count_of_length (rule_of b) (length (longest_after e c b)) (added e c (letters_in b)) < 65536) × (longest_length (rule_of b) (added e c (letters_in b)) < 65536)
  carried-small =
      let t = added e c (letters_in b) in
      let n : length t < 65536 = omega (arith, length-after a, size_small a.good) in
      (omega (arith, length-count-most (rule_of b) (length (longest_after e c b)) t, count-length (rule_of b) t), omega (arith, longest-length-fits (rule_of b) t))

  -- and so does each number of the run
  run-fitting : Fitting b (addition_writes e c b)
  unfolding addition_writes hang_writes gain_writes settle_writes
  run-fitting = go (brings_in e c b) refl
    where
      go : (k : Bool) → brings_in e c b ≡ k → Fitting b (run k e c b)
      go true k =
          omega (
            arith,
            rows_fit,
            (free-row a.good a.room).low,
            free-below a.good a.room,
            used-below b (inner_row e c b) (inner-found a k).0,
            row-of-small a.good (link_of (rule_of b) (spelt (longest_after e c b))),
            length-small a.good (longest_after e c b) (longest-fits a),
            letter-byte (last_letter e c b) (last_letter_lem a k),
            edge-high (last_letter e c b),
            count_small a.good,
            longest-fits a,
            carried-small,
            small,
          )
      go false k = omega (arith, rows_fit, small)

  -- ---- a cell of the table

  cell-after : (r f : ℕ) → r < capacity_in b + 2 → f < 12 → cell (after_addition e c b) r f ≡ look (addition_writes e c b) r f (cell b r f)
  unfolding after_addition
  cell-after r f l m =
      let b₀ = sets b (letters_at (capacity_in b)) (added e c (letters_in b)) in
      cell-writes b₀ (addition_writes e c b) (fitting-kept b b₀ (addition_writes e c b) (sym (length-sets b (letters_at (capacity_in b)) (added e c (letters_in b)))) run-fitting) r f m ∙ ap (look (addition_writes e c b) r f) (cell-sets b (letters_at (capacity_in b)) (added e c (letters_in b)) r f m (omega arith))

  -- it stays if the run misses it, and holds what the run puts there
  cell-kept : (r f : ℕ) → r < capacity_in b + 2 → f < 12 → Misses (addition_writes e c b) r f → cell (after_addition e c b) r f ≡ cell b r f
  cell-kept r f l m n = cell-after r f l m ∙ look-misses r f (addition_writes e c b) (cell b r f) n

  cell-put : (r f x : ℕ) → r < capacity_in b + 2 → f < 12 → Puts (addition_writes e c b) r f x → cell (after_addition e c b) r f ≡ x
  cell-put r f x l m p = cell-after r f l m ∙ look-puts r f (addition_writes e c b) (cell b r f) p

  -- ---- what every addition leaves as it was

  -- what the run with a new row misses, every run misses
  full-misses : (r f : ℕ) → Misses (run true e c b) r f → Misses (addition_writes e c b) r f
  unfolding addition_writes
  full-misses r f m = go (brings_in e c b)
    where
      go : (k : Bool) → Misses (run k e c b) r f
      go true = m
      go false = misses-after r f (hang_writes b (longest_after e c b) ++ gain_writes e c b) (settle_writes e b (longest_after e c b) (row_after e c b)) m

  -- the capacity
  pub capacity-after : capacity_in (after_addition e c b) ≡ capacity_in b
  unfolding capacity_in hang_writes gain_writes settle_writes
  capacity-after = cell-kept 0 8 (omega arith) (omega arith) (full-misses 0 8 (omega (arith, edge-high (last_letter e c b))))

  -- the order of the rows and their ranks
  pub order-after : (i : ℕ) → i < capacity_in b → order_in (after_addition e c b) i ≡ order_in b i
  unfolding order_in hang_writes gain_writes settle_writes
  order-after i l = cell-kept (i + 2) 8 (omega arith) (omega arith) (full-misses (i + 2) 8 (omega (arith, edge-high (last_letter e c b))))

  pub rank-after : (r : ℕ) → 2 ≤ r → r < capacity_in b + 2 → rank_in (after_addition e c b) r ≡ rank_in b r
  unfolding rank_in hang_writes gain_writes settle_writes
  rank-after r l m = cell-kept r 9 m (omega arith) (full-misses r 9 (omega (arith, edge-high (last_letter e c b))))

  -- the last cells: the reading, and those that have no field
  pub spare-after : (r : ℕ) → r < capacity_in b + 2 → cell (after_addition e c b) r 11 ≡ cell b r 11
  unfolding hang_writes gain_writes settle_writes
  spare-after r m = cell-kept r 11 m (omega arith) (full-misses r 11 (omega (arith, edge-high (last_letter e c b), end-cells e, end-cells (other e))))

  pub reading-after : reading_in (after_addition e c b) ≡ reading_in b
  unfolding reading_in
  reading-after = spare-after 0 (omega arith)

  -- ---- what every addition writes

  -- what stands at the end of every run
  settle-puts : (r f x : ℕ) → Puts (settle_writes e b (longest_after e c b) (row_after e c b)) r f x → Puts (addition_writes e c b) r f x
  unfolding addition_writes
  settle-puts r f x p = puts-after r f (cond (brings_in e c b) (hang_writes b (longest_after e c b) ++ gain_writes e c b) []) (settle_writes e b (longest_after e c b) (row_after e c b)) x p

  -- the number of letters
  pub size-after : size_in (after_addition e c b) ≡ size_in b + 1
  unfolding size_in settle_writes
  size-after = cell-put 0 9 (size_in b + 1) (omega arith) (omega arith) (settle-puts 0 9 (size_in b + 1) (inl (refl, refl, refl, omega arith)))

  -- the rows of both ends
  pub end_after : end_row (after_addition e c b) e ≡ row_after e c b
  unfolding end_row settle_writes
  end_after =
      let s = end-cells e in
      cell-put 1 (end_cell e) (row_after e c b) (omega arith) (omega arith) (settle-puts 1 (end_cell e) (row_after e c b) (inr (inl (refl, refl, refl, omega arith))))

  pub other-end-after : end_row (after_addition e c b) (other e) ≡ cond (eqb (length (longest_after e c b)) (size_in b + 1)) (row_after e c b) (end_row b (other e))
  unfolding end_row settle_writes
  other-end-after =
      let s = end-cells (other e) in
      let x = cond (eqb (length (longest_after e c b)) (size_in b + 1)) (row_after e c b) (end_row b (other e)) in
      cell-put 1 (end_cell (other e)) x (omega arith) (omega arith) (settle-puts 1 (end_cell (other e)) x (inr (inr (inl (refl, refl, refl, tt)))))

  -- ---- the row that a new palindrome gets

  module _ (k : brings_in e c b ≡ true) where
    -- what the run with the new row puts there
    new-put : (r f x : ℕ) → r < capacity_in b + 2 → f < 12 → Puts (run true e c b) r f x → cell (after_addition e c b) r f ≡ x
    unfolding addition_writes
    new-put r f x l m p = cell-put r f x l m (rw k p)

    -- the new row
    pub length-new : cell (after_addition e c b) (free_row b) 0 ≡ suc (length (longest_after e c b))
    unfolding hang_writes gain_writes settle_writes
    length-new =
        let q = free-row a.good a.room in
        new-put (free_row b) 0 (suc (length (longest_after e c b))) (free-below a.good a.room) (omega arith) (inl (refl, refl, stored-length (spelt (longest_after e c b)), omega (arith, edge-low (last_letter e c b))))

    pub link-new : link_in (after_addition e c b) (free_row b) ≡ link_row e c b
    unfolding link_in hang_writes gain_writes settle_writes
    link-new =
        let q = free-row a.good a.room in
        new-put (free_row b) 1 (link_row e c b) (free-below a.good a.room) (omega arith) (inr (inl (refl, refl, refl, omega (arith, edge-low (last_letter e c b)))))

    pub inner-new : inner_in (after_addition e c b) (free_row b) ≡ inner_row e c b
    unfolding inner_in hang_writes gain_writes settle_writes
    inner-new =
        let q = free-row a.good a.room in
        new-put (free_row b) 2 (inner_row e c b) (free-below a.good a.room) (omega arith) (inr (inr (inl (refl, refl, refl, omega (arith, edge-low (last_letter e c b))))))

    pub outer-new : outer_in (after_addition e c b) (free_row b) ≡ last_letter e c b
    unfolding outer_in hang_writes gain_writes settle_writes
    outer-new =
        let q = free-row a.good a.room in
        new-put (free_row b) 3 (last_letter e c b) (free-below a.good a.room) (omega arith) (inr (inr (inr (inl (refl, refl, refl, omega (arith, edge-low (last_letter e c b)))))))

    -- the edge that leads to it
    pub edge-new : edge_in (after_addition e c b) (inner_row e c b) (last_letter e c b) ≡ free_row b
    unfolding edge_in hang_writes gain_writes settle_writes
    edge-new =
        let f = edge-high (last_letter e c b) in
        new-put (inner_row e c b) (edge_cell (last_letter e c b)) (free_row b) (used-below b (inner_row e c b) (inner-found a k).0) (omega arith)
        (inr (inr (inr (inr (inl (refl, refl, refl, omega (arith, end-cells e, end-cells (other e))))))))

    -- and one palindrome more
    pub count-new : count_in (after_addition e c b) ≡ count_in b + 1
    unfolding count_in hang_writes gain_writes settle_writes
    count-new = new-put 0 10 (count_in b + 1) (omega arith) (omega arith) (inr (inr (inr (inr (inr (inl (refl, refl, refl, omega arith)))))))

    -- which is counted among those of its length, and may be the longest
    pub length-count-new : length_count_in (after_addition e c b) (length (longest_after e c b)) ≡ count_of_length (rule_of b) (length (longest_after e c b)) (added e c (letters_in b))
    unfolding length_count_in hang_writes gain_writes settle_writes
    length-count-new =
        let v = longest_after e c b in
        new-put (length v + 1) 10 (count_of_length (rule_of b) (length v) (added e c (letters_in b))) (omega (arith, longest-fits a)) (omega arith)
        (inr (inr (inr (inr (inr (inr (inl (refl, refl, refl, omega (arith, longer-than-none a k, end-cells e, end-cells (other e))))))))))

    pub longest-new : longest_length_in (after_addition e c b) ≡ longest_length (rule_of b) (added e c (letters_in b))
    unfolding longest_length_in hang_writes gain_writes settle_writes
    longest-new =
        new-put 1 10 (longest_length (rule_of b) (added e c (letters_in b))) (omega arith) (omega arith)
        (inr (inr (inr (inr (inr (inr (inr (inl (refl, refl, refl, omega (arith, end-cells e, end-cells (other e)))))))))))

  -- ---- every other cell of a row

  -- where there is no new row the number of palindromes stays
  pub count-old : brings_in e c b ≡ false → count_in (after_addition e c b) ≡ count_in b
  unfolding count_in addition_writes settle_writes
  count-old k = cell-kept 0 10 (omega arith) (omega arith) (rw k (omega (arith, end-cells e, end-cells (other e))))

  -- and so does the longest
  pub longest-old : brings_in e c b ≡ false → longest_length_in (after_addition e c b) ≡ longest_length_in b
  unfolding longest_length_in addition_writes settle_writes
  longest-old k = cell-kept 1 10 (omega arith) (omega arith) (rw k (omega (arith, end-cells e, end-cells (other e))))

  -- the number of palindromes of a length stays but for that of the new one
  pub length-count-kept : (j : ℕ) → 1 ≤ j → j ≤ capacity_in b → (brings_in e c b ≡ true → length (longest_after e c b) ≢ j) → length_count_in (after_addition e c b) j ≡ length_count_in b j
  unfolding length_count_in addition_writes hang_writes gain_writes settle_writes
  length-count-kept j l h n = cell-kept (j + 1) 10 (omega arith) (omega arith) (go (brings_in e c b) refl)
    where
      go : (k : Bool) → brings_in e c b ≡ k → Misses (run k e c b) (j + 1) 10
      go true k = let o = n k in omega (arith, edge-high (last_letter e c b), end-cells e, end-cells (other e))
      go false k = omega (arith, end-cells e, end-cells (other e))

  -- the cells of a row stay but for the new row's and the edge that leads to it
  pub row_kept : (r f : ℕ) → r < capacity_in b + 2 → f < 8 → (brings_in e c b ≡ true → (free_row b ≡ r → f < 4 → ⊥) × (inner_row e c b ≡ r → edge_cell (last_letter e c b) ≡ f → ⊥)) → cell (after_addition e c b) r f ≡ cell b r f
  unfolding addition_writes hang_writes gain_writes settle_writes
  row_kept r f l m n = cell-kept r f l (omega arith) (go (brings_in e c b) refl)
    where
      settled : Misses (settle_writes e b (longest_after e c b) (row_after e c b)) r f
      settled = omega (arith, end-cells e, end-cells (other e))

      go : (k : Bool) → brings_in e c b ≡ k → Misses (run k e c b) r f
      go true k =
          let own : free_row b ≡ r → f < 4 → ⊥ = (n k).0 in
          (λ p i. own p (omega arith), (λ p i. own p (omega arith), (λ p i. own p (omega arith), (λ p i. own p (omega arith), ((n k).1, (λ p i. omega arith, (λ p i. omega arith, (λ p i. omega arith, settled))))))))
      go false k = settled

  -- ---- the letters

  -- behind the rows the run changes nothing
  after-rows : drop (letters_at (capacity_in b)) (after_addition e c b) ≡ drop (letters_at (capacity_in b)) (sets b (letters_at (capacity_in b)) (added e c (letters_in b)))
  unfolding after_addition
  after-rows = drop-writes (sets b (letters_at (capacity_in b)) (added e c (letters_in b))) (addition_writes e c b) (capacity_in b + 2) (letters_at (capacity_in b)) run-below (omega arith)

  -- there is room for the letters
  letters-fit-after : letters_at (capacity_in b) + length (added e c (letters_in b)) ≤ used_bytes (capacity_in b)
  letters-fit-after = omega (arith, length-after a, a.room)

  -- the letter has joined its end
  pub letters-are : letters_in (after_addition e c b) ≡ added e c (letters_in b)
  letters-are =
      let w = added e c (letters_in b) in
      letters-from (after_addition e c b) (capacity_in b) (length w) capacity-after (size-after ∙ sym (length-after a))
      ∙ ap (take (length w)) after-rows
      ∙ sets-part b (letters_at (capacity_in b)) w (length w) refl (omega (arith, letters-fit-after, used-bytes-fit a.good.sized))

  -- the places behind it stay
  pub place_after : (i : ℕ) → letters_at (capacity_in b) + (size_in b + 1) ≤ i → get_or (after_addition e c b) i 0 ≡ get_or b i 0
  unfolding after_addition
  place_after i l =
      let w = added e c (letters_in b) in
      get_or-writes (sets b (letters_at (capacity_in b)) w) (addition_writes e c b) (capacity_in b + 2) i run-below (omega arith)
      ∙ sets-outside b (letters_at (capacity_in b)) w i (λ k h e. omega (arith, length-after a))

  -- ---- the store as a whole

  -- its length, and what stands behind the bytes that it uses
  pub length-kept : length (after_addition e c b) ≡ length b
  unfolding after_addition
  length-kept = length-writes (sets b (letters_at (capacity_in b)) (added e c (letters_in b))) (addition_writes e c b) ∙ length-sets b (letters_at (capacity_in b)) (added e c (letters_in b))

  pub rest-kept : drop (used_bytes (capacity_in b)) (after_addition e c b) ≡ drop (used_bytes (capacity_in b)) b
  unfolding after_addition
  rest-kept =
      let w = added e c (letters_in b) in
      drop-writes (sets b (letters_at (capacity_in b)) w) (addition_writes e c b) (capacity_in b + 2) (used_bytes (capacity_in b)) run-below (omega arith)
      ∙ drop-sets b (letters_at (capacity_in b)) w (used_bytes (capacity_in b)) letters-fit-after

  -- every number of the list stays a byte
  pub bytes-kept : Bytes b → Bytes (after_addition e c b)
  unfolding after_addition
  bytes-kept h = bytes-writes (addition_writes e c b) (sets b (letters_at (capacity_in b)) (added e c (letters_in b))) (bytes-sets b (letters_at (capacity_in b)) (added e c (letters_in b)) h (letters-after a))
