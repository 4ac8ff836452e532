-- What an accepted removal leaves in the bytes, cell by cell and in the letters. The run of writes is opened here and nowhere else.
-- Rests on the laws of runs of writes (`Writes` of store, and `Misses` and `Puts` of `AddedRuns`), on the rows of a good store, and on `RemovedWord`, by which the row that a removal takes out
-- is no root.
use Prim.Native.Nat.{ℕ, zero, suc, ◌+◌, ◌-◌, ◌≤◌, ◌<◌}
use native.Mathlib.Nat.{add-zero}
use native.Mathlib.Decide.{ℕ_discrete}
use native.Mathlib.Omega.{arith}
use mathlib.Core.Path.{◌≡◌, refl, sym, ap, ◌∙◌}
use mathlib.Core.Bool.{Bool, true, false, cond}
use mathlib.Core.Logic.{◌≢◌, inl, inr}
use mathlib.Core.List.{List, [], ◌∷◌, ◌++◌}
use lib.Dec.{eqb}
use lib.ListN.{length, get_or, set, take, drop}
use lib.Seq.{sets, length-sets, take-set-le, drop-set-add, drop-set-lt, get_or-drop, get_or-set_same}
use Rattle.palindromes.specs.Word.{Word}
use Rattle.palindromes.specs.Record.{count_of_length, longest_length}
use Rattle.palindromes.specs.End.{End, other, removed, longest_at}
use Rattle.palindromes.specs.Node.{spelt}
use Rattle.palindromes.proofs.Words.{stands-length}
use Rattle.palindromes.proofs.Palindromes.{count-length}
use Rattle.palindromes.proofs.Order.{longest-length-fits}
use Rattle.palindromes.proofs.Lengths.{length-count-most}
use Rattle.eertree.proofs.Shrink.{leaf-high}
use Rattle.eertree.proofs.Lengths.{more-letters, more-length-count, more-longest}
use Rattle.store.specs.Layout.{cell, capacity_in, size_in, count_in, reading_in, end_cell, end_row, link_in, inner_in, outer_in, edge_cell, edge_in, order_in, rank_in, length_count_in, longest_length_in, letters_at, letters_in}
use Rattle.store.specs.Good.{rule_of, node_in, Good}
use Rattle.store.specs.Writes.{Write}
use Rattle.store.proofs.Writes.{look, Fitting, RowsBelow, fitting-kept, cell-writes, length-writes, drop-writes, cell-sets}
use Rattle.store.proofs.Parts.{drop-sets, sets-part}
use Rattle.store.proofs.Edges.{edge-low, edge-high}
use Rattle.store.proofs.Sizes.{letters-length, used-below}
use Rattle.transitions.specs.Rows.{row_of}
use Rattle.transitions.specs.Opening.{used_bytes}
use Rattle.transitions.specs.Removal.{longest_before, takes_out, drop_writes, loss_writes, leave_writes, removal_writes, after_removal}
use Rattle.transitions.proofs.Rows.{covers, used-rank, count_most, row-of-small, end-small, link-small, size_small}
use Rattle.transitions.specs.Bytes.{Bytes}
use Rattle.transitions.proofs.AddedRuns.{Misses, Puts, look-misses, look-puts, misses-after, puts-after, bytes-set, bytes-sets, bytes-writes}
use Rattle.transitions.proofs.AddedBytes.{used-bytes-fit, letters-from, end-cells}
use Rattle.transitions.proofs.RemovedWord.{length-left, letters-left, one_less}

-- ---- the run of a removal

-- with the row of a palindrome that goes, or without
abbrev run : Bool → End → Word → List Write
run k e b = cond k (drop_writes b (end_row b e) ++ loss_writes e b) [] ++ leave_writes e b

module _ (e : End) {b : Word} (g : Good b) where
  -- the row of the call's end holds the longest palindrome there
  pub end-holds : node_in b (end_row b e) ≡ spelt (longest_before e b)
  unfolding longest_before
  end-holds = (g.ends e).holds

  -- if it is taken out it is no root and in use, so it has a rank
  module _ (k : takes_out e b ≡ true) where
    pub gone-high : 2 ≤ end_row b e
    gone-high = leaf-high (covers g) (one_less e g k) (g.ends e).used end-holds

    pub gone-low : end_row b e < capacity_in b + 2
    gone-low = used-below b (end_row b e) (g.ends e).used

    pub gone-rank : rank_in b (end_row b e) < count_in b
    gone-rank = used-rank b (end_row b e) gone-high (g.ends e).used

    -- and the last place in use is one
    pub last-place : count_in b - 1 < capacity_in b
    last-place = omega (arith, gone-rank, count_most g, g.sized.letters-fit)

    -- the rows that are written then are of the table
    gone-rows :
        (end_row b e < capacity_in b + 2)
        × (inner_in b (end_row b e) < capacity_in b + 2)
        × (rank_in b (end_row b e) < capacity_in b)
        × (order_in b (count_in b - 1) < capacity_in b + 2)
        × (count_in b - 1 < capacity_in b)
        × (edge_cell (outer_in b (end_row b e)) < 8)
    gone-rows = (
      gone-low,
      used-below b (inner_in b (end_row b e)) ((covers g).inner-is (end_row b e) (g.ends e).used).0,
      (g.rank (end_row b e) gone-high gone-low).high,
      (g.order (count_in b - 1) last-place).high,
      last-place,
      edge-high (outer_in b (end_row b e)),
    )

    -- it has a letter, and no more than there is room for
    pub gone-length : (0 < length (longest_before e b)) × (length (longest_before e b) ≤ capacity_in b)
    gone-length =
        let o = one_less e g k in
        (more-letters o, omega (arith, stands-length o.there, letters-length g.sized, g.sized.letters-fit))

    -- what is carried without it is not above what was
    carried-small :
        (count_of_length (rule_of b) (length (longest_before e b)) (removed e (letters_in b)) < 65536) × (longest_length (rule_of b) (removed e (letters_in b)) < 65536)
    carried-small =
        let o = one_less e g k in
        let n : length (letters_in b) < 65536 = omega (arith, letters-length g.sized, size_small g) in (
          omega (
            arith,
            more-length-count o (length (longest_before e b)),
            length-count-most (rule_of b) (length (longest_before e b)) (letters_in b),
            count-length (rule_of b) (letters_in b),
          ),
          omega (arith, more-longest o, longest-length-fits (rule_of b) (letters_in b)),
        )

  -- the row that the other end gets fits a cell
  other-left-small : cond (eqb (length (longest_before e b)) (size_in b)) (link_in b (end_row b e)) (end_row b (other e)) < 65536
  other-left-small = go (eqb (length (longest_before e b)) (size_in b))
    where
      go : (t : Bool) → cond t (link_in b (end_row b e)) (end_row b (other e)) < 65536
      go true = link-small g (end_row b e) (g.ends e).used
      go false = end-small g (other e)

  -- every write lies in a row of the table
  run-below : RowsBelow (capacity_in b + 2) (removal_writes e b)
  unfolding removal_writes drop_writes loss_writes leave_writes
  run-below = go (takes_out e b) refl
    where
      go : (t : Bool) → takes_out e b ≡ t → RowsBelow (capacity_in b + 2) (run t e b)
      go true k = omega (arith, gone-rows k, gone-length k, end-cells e, end-cells (other e))
      go false k = omega (arith, end-cells e, end-cells (other e))

  -- and its number fits its cell
  run-fitting : Fitting b (removal_writes e b)
  unfolding removal_writes drop_writes loss_writes leave_writes
  run-fitting = go (takes_out e b) refl
    where
      small : (capacity_in b + 2 < 65536) × (row_of b (spelt (longest_at (rule_of b) e (removed e (letters_in b)))) < 65536) × (size_in b - 1 < 65536) × (end_cell e < 12) × (end_cell (other e) < 12)
      small = omega (arith, g.sized.at_most, row-of-small g (spelt (longest_at (rule_of b) e (removed e (letters_in b)))), size_small g, end-cells e, end-cells (other e))

      go : (t : Bool) → takes_out e b ≡ t → Fitting b (run t e b)
      go true k = omega (arith, used-bytes-fit g.sized, gone-rows k, gone-length k, carried-small k, other-left-small, small)
      go false k = omega (arith, used-bytes-fit g.sized, other-left-small, small)

  -- ---- a cell of the table

  cell-after : (r f : ℕ) → r < capacity_in b + 2 → f < 12 → cell (after_removal e b) r f ≡ look (removal_writes e b) r f (cell b r f)
  unfolding after_removal
  cell-after r f l m =
      let w = removed e (letters_in b) ++ (0 ∷ []) in
      cell-writes (sets b (letters_at (capacity_in b)) w) (removal_writes e b) (fitting-kept b (sets b (letters_at (capacity_in b)) w) (removal_writes e b) (sym (length-sets b (letters_at (capacity_in b)) w)) run-fitting) r f m
      ∙ ap (look (removal_writes e b) r f) (cell-sets b (letters_at (capacity_in b)) w r f m (omega arith))

  cell-kept : (r f : ℕ) → r < capacity_in b + 2 → f < 12 → Misses (removal_writes e b) r f → cell (after_removal e b) r f ≡ cell b r f
  cell-kept r f l m n = cell-after r f l m ∙ look-misses r f (removal_writes e b) (cell b r f) n

  cell-put : (r f x : ℕ) → r < capacity_in b + 2 → f < 12 → Puts (removal_writes e b) r f x → cell (after_removal e b) r f ≡ x
  cell-put r f x l m p = cell-after r f l m ∙ look-puts r f (removal_writes e b) (cell b r f) p

  -- ---- what every removal leaves as it was

  -- the writes to the header and the ends miss the cell, and so do those that take a row out, if one goes
  either-misses : (r f : ℕ) → Misses (leave_writes e b) r f → (takes_out e b ≡ true → Misses (run true e b) r f) → Misses (removal_writes e b) r f
  unfolding removal_writes
  either-misses r f m n = go (takes_out e b) refl
    where
      go : (t : Bool) → takes_out e b ≡ t → Misses (run t e b) r f
      go true k = n k
      go false k = m

  full-misses : (r f : ℕ) → Misses (run true e b) r f → Misses (removal_writes e b) r f
  full-misses r f m = either-misses r f (misses-after r f (drop_writes b (end_row b e) ++ loss_writes e b) (leave_writes e b) m) λ k. m

  -- the capacity
  pub capacity-left : capacity_in (after_removal e b) ≡ capacity_in b
  unfolding capacity_in drop_writes loss_writes leave_writes
  capacity-left = cell-kept 0 8 (omega arith) (omega arith) (full-misses 0 8 (omega (arith, edge-high (outer_in b (end_row b e)))))

  -- the last cells: the reading, and those that have no field
  pub spare-left : (r : ℕ) → r < capacity_in b + 2 → cell (after_removal e b) r 11 ≡ cell b r 11
  unfolding drop_writes loss_writes leave_writes
  spare-left r m = cell-kept r 11 m (omega arith) (full-misses r 11 (omega (arith, edge-high (outer_in b (end_row b e)), end-cells e, end-cells (other e))))

  pub reading-left : reading_in (after_removal e b) ≡ reading_in b
  unfolding reading_in
  reading-left = spare-left 0 (omega arith)

  -- ---- what every removal writes

  leave-puts : (r f x : ℕ) → Puts (leave_writes e b) r f x → Puts (removal_writes e b) r f x
  unfolding removal_writes
  leave-puts r f x p = puts-after r f (cond (takes_out e b) (drop_writes b (end_row b e) ++ loss_writes e b) []) (leave_writes e b) x p

  -- the number of letters
  pub size-left : size_in (after_removal e b) ≡ size_in b - 1
  unfolding size_in leave_writes
  size-left = cell-put 0 9 (size_in b - 1) (omega arith) (omega arith) (leave-puts 0 9 (size_in b - 1) (inl (refl, refl, refl, omega arith)))

  -- the rows of both ends
  pub end-left : end_row (after_removal e b) e ≡ row_of b (spelt (longest_at (rule_of b) e (removed e (letters_in b))))
  unfolding end_row leave_writes
  end-left =
      let s = end-cells e in
      let x = row_of b (spelt (longest_at (rule_of b) e (removed e (letters_in b)))) in
      cell-put 1 (end_cell e) x (omega arith) (omega arith) (leave-puts 1 (end_cell e) x (inr (inl (refl, refl, refl, omega arith))))

  pub other-end-left : end_row (after_removal e b) (other e) ≡ cond (eqb (length (longest_before e b)) (size_in b)) (link_in b (end_row b e)) (end_row b (other e))
  unfolding end_row leave_writes
  other-end-left =
      let s = end-cells (other e) in
      let x = cond (eqb (length (longest_before e b)) (size_in b)) (link_in b (end_row b e)) (end_row b (other e)) in
      cell-put 1 (end_cell (other e)) x (omega arith) (omega arith) (leave-puts 1 (end_cell (other e)) x (inr (inr (inl (refl, refl, refl, tt)))))

  -- ---- the row that goes

  module _ (k : takes_out e b ≡ true) where
    gone-put : (r f x : ℕ) → r < capacity_in b + 2 → f < 12 → Puts (run true e b) r f x → cell (after_removal e b) r f ≡ x
    unfolding removal_writes
    gone-put r f x l m p = cell-put r f x l m (rw k p)

    -- its length, its link, its inner row and its outer letter are cleared
    pub row-cleared : (f : ℕ) → f < 4 → cell (after_removal e b) (end_row b e) f ≡ 0
    unfolding drop_writes loss_writes leave_writes
    row-cleared zero l = gone-put (end_row b e) 0 0 (gone-low k) (omega arith) (inl (refl, refl, refl, omega (arith, gone-high k, edge-low (outer_in b (end_row b e)))))
    row-cleared (suc zero) l = gone-put (end_row b e) 1 0 (gone-low k) (omega arith) (inr (inl (refl, refl, refl, omega (arith, gone-high k, edge-low (outer_in b (end_row b e))))))
    row-cleared (suc (suc zero)) l = gone-put (end_row b e) 2 0 (gone-low k) (omega arith) (inr (inr (inl (refl, refl, refl, omega (arith, gone-high k, edge-low (outer_in b (end_row b e)))))))
    row-cleared (suc (suc (suc zero))) l = gone-put (end_row b e) 3 0 (gone-low k) (omega arith) (inr (inr (inr (inl (refl, refl, refl, omega (arith, gone-high k, edge-low (outer_in b (end_row b e))))))))
    row-cleared (suc (suc (suc (suc f)))) l = absurd (omega arith)

    -- so is the edge that leads to it
    pub edge-cleared : edge_in (after_removal e b) (inner_in b (end_row b e)) (outer_in b (end_row b e)) ≡ 0
    unfolding edge_in drop_writes loss_writes leave_writes
    edge-cleared =
        let h = gone-rows k in
        gone-put (inner_in b (end_row b e)) (edge_cell (outer_in b (end_row b e))) 0 h.1 (omega arith)
        (inr (inr (inr (inr (inl (refl, refl, refl, omega (arith, end-cells e, end-cells (other e))))))))

    -- it changes places with the last row in use
    pub order-last : order_in (after_removal e b) (count_in b - 1) ≡ end_row b e
    unfolding order_in drop_writes loss_writes leave_writes
    order-last =
        gone-put (count_in b - 1 + 2) 8 (end_row b e) (omega (arith, last-place k)) (omega arith)
        (inr (inr (inr (inr (inr (inr (inr (inl (refl, refl, refl, omega arith)))))))))

    pub order-swapped : rank_in b (end_row b e) ≢ count_in b - 1 → order_in (after_removal e b) (rank_in b (end_row b e)) ≡ order_in b (count_in b - 1)
    unfolding order_in drop_writes loss_writes leave_writes
    order-swapped n =
        gone-put (rank_in b (end_row b e) + 2) 8 (order_in b (count_in b - 1)) (omega (arith, gone-rank k, last-place k)) (omega arith)
        (inr (inr (inr (inr (inr (inl (refl, refl, refl, omega arith)))))))

    pub rank-last : rank_in (after_removal e b) (end_row b e) ≡ count_in b - 1
    unfolding rank_in drop_writes loss_writes leave_writes
    rank-last =
        gone-put (end_row b e) 9 (count_in b - 1) (gone-low k) (omega arith)
        (inr (inr (inr (inr (inr (inr (inr (inr (inl (refl, refl, refl, omega (arith, gone-high k)))))))))))

    pub rank-swapped : order_in b (count_in b - 1) ≢ end_row b e → rank_in (after_removal e b) (order_in b (count_in b - 1)) ≡ rank_in b (end_row b e)
    unfolding rank_in drop_writes loss_writes leave_writes
    rank-swapped n =
        let o = g.order (count_in b - 1) (last-place k) in
        gone-put (order_in b (count_in b - 1)) 9 (rank_in b (end_row b e)) o.high (omega arith)
        (inr (inr (inr (inr (inr (inr (inl (refl, refl, refl, omega (arith, o.low)))))))))

    -- and one palindrome less is counted
    pub count_left : count_in (after_removal e b) ≡ count_in b - 1
    unfolding count_in drop_writes loss_writes leave_writes
    count_left =
        gone-put 0 10 (count_in b - 1) (omega arith) (omega arith)
        (inr (inr (inr (inr (inr (inr (inr (inr (inr (inl (refl, refl, refl, omega arith)))))))))))

    -- which was one of its length, and may have been the longest
    pub length-count-left : length_count_in (after_removal e b) (length (longest_before e b)) ≡ count_of_length (rule_of b) (length (longest_before e b)) (removed e (letters_in b))
    unfolding length_count_in drop_writes loss_writes leave_writes
    length-count-left =
        let v = longest_before e b in
        gone-put (length v + 1) 10 (count_of_length (rule_of b) (length v) (removed e (letters_in b))) (omega (arith, gone-length k)) (omega arith)
        (inr (inr (inr (inr (inr (inr (inr (inr (inr (inr (inl (refl, refl, refl, omega (arith, gone-length k, end-cells e, end-cells (other e))))))))))))))

    pub longest-length-left : longest_length_in (after_removal e b) ≡ longest_length (rule_of b) (removed e (letters_in b))
    unfolding longest_length_in drop_writes loss_writes leave_writes
    longest-length-left =
        gone-put 1 10 (longest_length (rule_of b) (removed e (letters_in b))) (omega arith) (omega arith)
        (inr (inr (inr (inr (inr (inr (inr (inr (inr (inr (inr (inl (refl, refl, refl, omega (arith, end-cells e, end-cells (other e)))))))))))))))

  -- ---- every other cell of a row

  -- where no row goes the number of palindromes stays
  pub count_kept : takes_out e b ≡ false → count_in (after_removal e b) ≡ count_in b
  unfolding count_in removal_writes leave_writes
  count_kept k = cell-kept 0 10 (omega arith) (omega arith) (rw k (omega (arith, end-cells e, end-cells (other e))))

  -- and so does the longest
  pub longest-length-kept : takes_out e b ≡ false → longest_length_in (after_removal e b) ≡ longest_length_in b
  unfolding longest_length_in removal_writes leave_writes
  longest-length-kept k = cell-kept 1 10 (omega arith) (omega arith) (rw k (omega (arith, end-cells e, end-cells (other e))))

  -- the number of palindromes of a length stays but for that of the one that goes
  pub length-count-kept : (j : ℕ) → 1 ≤ j → j ≤ capacity_in b → (takes_out e b ≡ true → length (longest_before e b) ≢ j) → length_count_in (after_removal e b) j ≡ length_count_in b j
  unfolding length_count_in drop_writes loss_writes leave_writes
  length-count-kept j l h n =
      cell-kept (j + 1) 10 (omega arith) (omega arith)
      (either-misses (j + 1) 10 (omega (arith, end-cells e, end-cells (other e))) λ k. omega (arith, n k, edge-high (outer_in b (end_row b e)), end-cells e, end-cells (other e)))

  -- the fields of a row stay but for the four cells of the row that goes and the edge that leads to it
  pub row_kept : (r f : ℕ) → r < capacity_in b + 2 → f < 8 → (takes_out e b ≡ true → (end_row b e ≡ r → f < 4 → ⊥) × (inner_in b (end_row b e) ≡ r → edge_cell (outer_in b (end_row b e)) ≡ f → ⊥)) → cell (after_removal e b) r f ≡ cell b r f
  unfolding drop_writes loss_writes leave_writes
  row_kept r f l m n =
      cell-kept r f l (omega arith)
      (either-misses r f settled λ k.
      let own : end_row b e ≡ r → f < 4 → ⊥ = (n k).0 in
      (λ p i. own p (omega arith), (λ p i. own p (omega arith), (λ p i. own p (omega arith), (λ p i. own p (omega arith), ((n k).1, omega (arith, end-cells e, end-cells (other e))))))))
    where
      settled : Misses (leave_writes e b) r f
      settled = omega (arith, end-cells e, end-cells (other e))

  -- the order stays but for the places of the two rows that change places, and so do the ranks
  pub order-kept : (i : ℕ) → i < capacity_in b → (takes_out e b ≡ true → (rank_in b (end_row b e) ≢ i) × (count_in b - 1 ≢ i)) → order_in (after_removal e b) i ≡ order_in b i
  unfolding order_in drop_writes loss_writes leave_writes
  order-kept i l n = cell-kept (i + 2) 8 (omega arith) (omega arith) (either-misses (i + 2) 8 (omega arith) λ k. omega (arith, n k, edge-high (outer_in b (end_row b e))))

  pub rank-kept : (r : ℕ) → 2 ≤ r → r < capacity_in b + 2 → (takes_out e b ≡ true → (end_row b e ≢ r) × (order_in b (count_in b - 1) ≢ r)) → rank_in (after_removal e b) r ≡ rank_in b r
  unfolding rank_in drop_writes loss_writes leave_writes
  rank-kept r l m n = cell-kept r 9 m (omega arith) (either-misses r 9 (omega arith) λ k. omega (arith, n k, edge-high (outer_in b (end_row b e))))

  -- ---- the store as a whole

  pub length-kept : length (after_removal e b) ≡ length b
  unfolding after_removal
  length-kept =
      length-writes (sets b (letters_at (capacity_in b)) (removed e (letters_in b) ++ (0 ∷ []))) (removal_writes e b)
      ∙ length-sets b (letters_at (capacity_in b)) (removed e (letters_in b) ++ (0 ∷ []))

-- ---- the letters

-- a number behind those that are set is one set more
sets-snoc : (w b : Word) (at x : ℕ) → sets b at (w ++ (x ∷ [])) ≡ set (sets b at w) (at + length w) x
sets-snoc [] b at x = rw add-zero
sets-snoc (y ∷ w) b at x =
    let i : suc at + length w ≡ at + suc (length w) = omega arith in
    sets-snoc w (set b at y) (suc at) x ∙ ap (λ (j : ℕ). set (sets (set b at y) (suc at) w) j x) i

-- lists that are equal from a place on have equal numbers there
pub behind : (xs ys : Word) (j : ℕ) → drop j xs ≡ drop j ys → (i : ℕ) → j ≤ i → get_or xs i 0 ≡ get_or ys i 0
behind xs ys j h i l =
    let k : j + (i - j) ≡ i = omega arith in
    cc (get_or-drop j xs (i - j) 0, get_or-drop j ys (i - j) 0)

module _ (e : End) {b : Word} (g : Good b) (n : 0 < size_in b) where
  -- the letters that are left are set, and the vacated place is zero
  letters-set : sets b (letters_at (capacity_in b)) (removed e (letters_in b) ++ (0 ∷ [])) ≡ set (sets b (letters_at (capacity_in b)) (removed e (letters_in b))) (letters_at (capacity_in b) + (size_in b - 1)) 0
  letters-set =
      let i : length (removed e (letters_in b)) ≡ size_in b - 1 = omega (arith, length-left e g n) in
      sets-snoc (removed e (letters_in b)) b (letters_at (capacity_in b)) 0 ∙ ap (λ (j : ℕ). set (sets b (letters_at (capacity_in b)) (removed e (letters_in b))) (letters_at (capacity_in b) + j) 0) i

  -- behind the rows nothing else is written
  after-rows : (i : ℕ) → letters_at (capacity_in b) ≤ i
      → drop i (after_removal e b) ≡ drop i (set (sets b (letters_at (capacity_in b)) (removed e (letters_in b))) (letters_at (capacity_in b) + (size_in b - 1)) 0)
  unfolding after_removal
  after-rows i l =
      drop-writes (sets b (letters_at (capacity_in b)) (removed e (letters_in b) ++ (0 ∷ []))) (removal_writes e b) (capacity_in b + 2) i (run-below e g) l ∙ ap (drop i) letters-set

  -- the letter has left its end
  pub letters-are : letters_in (after_removal e b) ≡ removed e (letters_in b)
  letters-are =
      let at = letters_at (capacity_in b) in
      let w = removed e (letters_in b) in
      let size : size_in b - 1 ≡ length w = omega (arith, length-left e g n) in
      letters-from (after_removal e b) (capacity_in b) (length w) (capacity-left e g) (size-left e g ∙ size)
      ∙ ap (take (length w)) (after-rows at (omega arith) ∙ drop-set-add at (sets b at w) (size_in b - 1) 0)
      ∙ take-set-le (length w) (drop at (sets b at w)) (size_in b - 1) 0 (omega arith)
      ∙ sets-part b at w (length w) refl (omega (arith, g.sized.letters-fit, used-bytes-fit g.sized))

  -- what stands behind the place that it left stays
  behind-letters : (i : ℕ) → letters_at (capacity_in b) + size_in b ≤ i → drop i (after_removal e b) ≡ drop i b
  behind-letters i l =
      let at = letters_at (capacity_in b) in
      let w = removed e (letters_in b) in
      after-rows i (omega arith) ∙ drop-set-lt i (sets b at w) (at + (size_in b - 1)) 0 (omega arith) ∙ drop-sets b at w i (omega (arith, length-left e g n))

  -- and so does what stands behind the bytes that the store uses
  pub rest-kept : drop (used_bytes (capacity_in b)) (after_removal e b) ≡ drop (used_bytes (capacity_in b)) b
  rest-kept = behind-letters (used_bytes (capacity_in b)) (omega (arith, g.sized.letters-fit))

  -- the place that the letter left is zero, as the free places behind it are
  pub places-free : (i : ℕ) → size_in b - 1 ≤ i → i < capacity_in b → get_or (after_removal e b) (letters_at (capacity_in b) + i) 0 ≡ 0
  places-free i l m = go (ℕ_discrete i (size_in b - 1))
    where
      go : Dec (i ≡ size_in b - 1) → get_or (after_removal e b) (letters_at (capacity_in b) + i) 0 ≡ 0
      go (yes p) =
          let at = letters_at (capacity_in b) in
          let l₀ = sets b at (removed e (letters_in b)) in
          let fits : at + i < length l₀ = omega (arith, length-sets b at (removed e (letters_in b)), used-bytes-fit g.sized) in
          behind (after_removal e b) (set l₀ (at + (size_in b - 1)) 0) (at + i) (after-rows (at + i) (omega arith)) (at + i) (omega arith)
          ∙ rw (← p) (get_or-set_same l₀ (at + i) 0 0 fits)
      go (no p) =
          let at = letters_at (capacity_in b) in
          behind (after_removal e b) b (at + i) (behind-letters (at + i) (omega arith)) (at + i) (omega arith) ∙ g.free-places i (omega arith) m

  -- every number of the list stays a byte
  pub bytes-kept : Bytes b → Bytes (after_removal e b)
  unfolding after_removal
  bytes-kept h =
      let at = letters_at (capacity_in b) in
      let w = removed e (letters_in b) in
      bytes-writes (removal_writes e b) (sets b at (w ++ (0 ∷ [])))
      (rw letters-set (bytes-set (sets b at w) (at + (size_in b - 1)) 0 (bytes-sets b at w h (letters-left e g n)) (omega arith)))
