-- The bytes of a good store follow from what it shows. Two good stores of one length with the same capacity and letters, the same nodes in the same rows and the same order of the rows
-- are equal byte by byte, if they are where the store has no field. So a change that brings back what a store shows brings back its bytes.
-- First, cells decide bytes: a number of two bytes is made of one low and one high byte only. Rests on the rows of a good store (`Rows`).
use Prim.Native.Nat.{ℕ, zero, suc, ◌+◌, ◌*◌, ◌/◌, ◌%◌, ◌-◌, ◌≤◌, ◌<◌}
use native.Mathlib.Nat.{add-zero, eq-or-lt_of_le, le_of_suc-le-suc}
use native.Mathlib.Decide.{dec_lt}
use native.Mathlib.Numerals.{add-one, add-two}
use native.Mathlib.Omega.{arith}
use mathlib.Core.Path.{◌≡◌, refl, sym, ap, ◌∙◌}
use mathlib.Core.Bool.{true, false}
use mathlib.Core.Logic.{⊎_elim}
use lib.ListN.{length, get_or}
use lib.Seq.{ext_get_or}
use Rattle.palindromes.specs.Word.{Word, is_letter, member}
use Rattle.palindromes.specs.Reading.{rule_in}
use Rattle.palindromes.specs.Record.{palindromes}
use Rattle.palindromes.specs.End.{End, at_left, at_right}
use Rattle.palindromes.specs.Node.{around}
use Rattle.palindromes.specs.Eertree.{EdgeIs}
use Rattle.palindromes.proofs.Tests.{decided}
use Rattle.eertree.proofs.Rows.{word_row}
use Rattle.store.specs.Layout.{cell_at, cell, capacity_in, size_in, count_in, reading_in, end_row, link_in, inner_in, outer_in, edge_cell, edge_in, order_in, rank_in, used_in, length_count_in, longest_length_in, letters_at, letters_in}
use Rattle.store.specs.Good.{rule_of, table_in, node_in, Good}
use Rattle.store.proofs.Sizes.{letters-length}
use Rattle.transitions.specs.Bytes.{Bytes}
use Rattle.transitions.proofs.Rows.{letter_at_lem, covers, length-row, outer-row}

-- ---- cells decide bytes

module _ (b b' : Word) (h : Bytes b) (h' : Bytes b') where
  -- equal cells have equal low bytes and equal high bytes
  both_bytes : (r f : ℕ) → cell b r f ≡ cell b' r f → (get_or b (cell_at r f) 0 ≡ get_or b' (cell_at r f) 0) × (get_or b (cell_at r f + 1) 0 ≡ get_or b' (cell_at r f + 1) 0)
  unfolding cell
  both_bytes r f e =
      let low = h (cell_at r f) in
      let low' = h' (cell_at r f) in
      omega arith

  each-byte : (r f : ℕ) → cell b r f ≡ cell b' r f → (k : ℕ) → k < 2 → get_or b (cell_at r f + k) 0 ≡ get_or b' (cell_at r f + k) 0
  each-byte r f e zero l = rw add-zero (both_bytes r f e).0
  each-byte r f e (suc zero) l = (both_bytes r f e).1
  each-byte r f e (suc (suc k)) l = absurd (omega arith)

  -- lists of bytes are equal if the cells of their first n rows are and all bytes behind these rows
  pub cells-decide : (n : ℕ) → length b ≡ length b' → ((r f : ℕ) → r < n → f < 12 → cell b r f ≡ cell b' r f) → ((i : ℕ) → 24 * n ≤ i → get_or b i 0 ≡ get_or b' i 0) → b ≡ b'
  cells-decide n e cells rest = ext_get_or 0 b b' e λ i l. go i (dec_lt i (24 * n))
    where
      go : (i : ℕ) → Dec (i < 24 * n) → get_or b i 0 ≡ get_or b' i 0
      go i (yes l) =
          let r = i / 24 in
          let f = i % 24 / 2 in
          let k = i % 2 in
          let at : cell_at r f + k ≡ i = omega arith in
          rw (← at) (each-byte r f (cells r f (omega arith) (omega arith)) k (omega arith))
      go i (no l) = rest i (omega arith)

-- ---- what two stores have in common

-- the two stores have the same reading, show the same letters and the same eertree in the same rows, and are equal where a store has no field: in the last cell of a row other than row 0, and
-- behind the places of the letters
pub record Alike (b b' : Word) : Type 0 where
  pub lengths : length b ≡ length b'
  pub capacity : capacity_in b ≡ capacity_in b'
  pub reading : reading_in b ≡ reading_in b'
  pub letters : letters_in b ≡ letters_in b'
  pub used : (r : ℕ) → used_in b r ≡ used_in b' r
  pub nodes : (r : ℕ) → used_in b r ≡ true → node_in b r ≡ node_in b' r
  pub order : (i : ℕ) → i < capacity_in b → order_in b i ≡ order_in b' i
  pub spare : (r : ℕ) → r < capacity_in b + 2 → cell b r 11 ≡ cell b' r 11
  pub rest : (i : ℕ) → letters_at (capacity_in b) + capacity_in b ≤ i → get_or b i 0 ≡ get_or b' i 0

-- the two stores agree in cell f of row r
abbrev Agree : Word → Word → ℕ → ℕ → Type 0
Agree b b' r f = cell b r f ≡ cell b' r f

-- what holds below n and at n holds below n + 1
and-next : (P : ℕ → Type 0) (n : ℕ) → ((f : ℕ) → f < n → P f) → P n → (f : ℕ) → f < suc n → P f
and-next P n below here f h = ⊎_elim (λ e. rw e here) (below f) (eq-or-lt_of_le (le_of_suc-le-suc h))

module _ {b b' : Word} (g : Good b) (g' : Good b') (a : Alike b b') where
  -- ---- the header

  same-rule : rule_of b ≡ rule_of b'
  same-rule = ap rule_in a.reading

  same_size : size_in b ≡ size_in b'
  same_size = sym (letters-length g.sized) ∙ ap length a.letters ∙ letters-length g'.sized

  same_count : count_in b ≡ count_in b'
  same_count = cc (g.count-is, g'.count-is, a.letters, same-rule)

  same-length-count : (k : ℕ) → 1 ≤ k → k ≤ capacity_in b → length_count_in b k ≡ length_count_in b' k
  same-length-count k l h = cc (g.length-counts k l h, g'.length-counts k l (omega (arith, a.capacity)), a.letters, same-rule)

  same-longest : longest_length_in b ≡ longest_length_in b'
  same-longest = cc (g.longest-is, g'.longest-is, a.letters, same-rule)

  -- ---- rows

  -- a node has one row in both stores
  same_row : (r q : ℕ) → used_in b r ≡ true → used_in b' q ≡ true → node_in b r ≡ node_in b' q → r ≡ q
  same_row r q u v e = g'.table.one-row r q (sym (a.used r) ∙ u) v (sym (a.nodes r u) ∙ e)

  same_end : (e : End) → end_row b e ≡ end_row b' e
  same_end e = same_row (end_row b e) (end_row b' e) (g.ends e).used (g'.ends e).used (cc ((g.ends e).holds, (g'.ends e).holds, a.letters, same-rule))

  -- what a used row says of its node
  module _ (r : ℕ) (u : used_in b r ≡ true) where
    u' : used_in b' r ≡ true
    u' = sym (a.used r) ∙ u

    same_length : Agree b b' r 0
    same_length = cc (length-row g r u, length-row g' r u', a.nodes r u)

    same-link : link_in b r ≡ link_in b' r
    same-link =
        let h = g.table.link-is r u in
        let h' = g'.table.link-is r u' in
        same_row (link_in b r) (link_in b' r) h.0 h'.0 (cc (h.1, h'.1, a.nodes r u, same-rule))

    same-inner : inner_in b r ≡ inner_in b' r
    same-inner =
        let h = g.table.inner-is r u in
        let h' = g'.table.inner-is r u' in
        same_row (inner_in b r) (inner_in b' r) h.0 h'.0 (cc (h.1, h'.1, a.nodes r u))

    same-outer : 2 ≤ r → outer_in b r ≡ outer_in b' r
    same-outer l =
        let h = word_row (covers g) r u l in
        outer-row g r u l h.1 ∙ sym (outer-row g' r u' l (sym (a.nodes r u) ∙ h.1))

    same-edge : (c : ℕ) → is_letter c ≡ true → edge_in b r c ≡ edge_in b' r c
    same-edge c l = ⊎_elim there nowhere (decided (member (around (rule_of b) c (node_in b r)) (palindromes (rule_of b) (letters_in b))))
      where
        e : EdgeIs (rule_of b) (letters_in b) (table_in b) (node_in b) r c
        e = g.table.edge-is r c u l

        e' : EdgeIs (rule_of b') (letters_in b') (table_in b') (node_in b') r c
        e' = g'.table.edge-is r c u' l

        same_word_lem : member (around (rule_of b) c (node_in b r)) (palindromes (rule_of b) (letters_in b)) ≡ member (around (rule_of b') c (node_in b' r)) (palindromes (rule_of b') (letters_in b'))
        same_word_lem = cc (a.nodes r u, a.letters, same-rule)

        there : member (around (rule_of b) c (node_in b r)) (palindromes (rule_of b) (letters_in b)) ≡ true → edge_in b r c ≡ edge_in b' r c
        there m =
            let h = e.there m in
            let h' = e'.there (sym same_word_lem ∙ m) in
            same_row (edge_in b r c) (edge_in b' r c) h.0 h'.0 (cc (h.1, h'.1, a.nodes r u, same-rule))

        nowhere : member (around (rule_of b) c (node_in b r)) (palindromes (rule_of b) (letters_in b)) ≡ false → edge_in b r c ≡ edge_in b' r c
        nowhere m = e.nowhere m ∙ sym (e'.nowhere (sym same_word_lem ∙ m))

  -- the roots' outer letters are zero
  outers : (r : ℕ) → used_in b r ≡ true → outer_in b r ≡ outer_in b' r
  outers zero u = cc (g.root-letters.0, g'.root-letters.0)
  outers (suc zero) u = cc (g.root-letters.1, g'.root-letters.1)
  outers (suc (suc r)) u = same-outer (suc (suc r)) u (omega arith)

  -- so the two agree in the first eight cells of a used row, and of a free row they are zero
  row-cells : (r : ℕ) → r < capacity_in b + 2 → (f : ℕ) → f < 8 → Agree b b' r f
  unfolding link_in inner_in outer_in edge_in edge_cell is_letter
  row-cells r l = ⊎_elim in_use free (decided (used_in b r))
    where
      in_use : used_in b r ≡ true → (f : ℕ) → f < 8 → Agree b b' r f
      in_use u =
          and-next (Agree b b' r) 7
          (and-next (Agree b b' r) 6
          (and-next (Agree b b' r) 5
          (and-next (Agree b b' r) 4
          (and-next (Agree b b' r) 3
          (and-next (Agree b b' r) 2
          (and-next (Agree b b' r) 1
          (and-next (Agree b b' r) 0 (λ f h. absurd (omega arith)) (same_length r u))
          (same-link r u))
          (same-inner r u))
          (outers r u))
          (same-edge r u 65 refl))
          (same-edge r u 67 refl))
          (same-edge r u 71 refl))
          (same-edge r u 84 refl)

      free : used_in b r ≡ false → (f : ℕ) → f < 8 → Agree b b' r f
      free u f h = g.free-rows r f l u h ∙ sym (g'.free-rows r f (omega (arith, a.capacity)) (sym (a.used r) ∙ u) h)

  -- ---- the order, and the other cells of a row

  -- a row's rank is where the order holds it
  same_rank : (r : ℕ) → 2 ≤ r → r < capacity_in b + 2 → rank_in b r ≡ rank_in b' r
  same_rank r l h =
      let k = g.rank r l h in
      let o : order_in b' (rank_in b r) ≡ r = sym (a.order (rank_in b r) k.high) ∙ k.back in
      sym (rw o at (g'.order (rank_in b r) (omega (arith, k.high, a.capacity))).back)

  -- the header, the rows of both ends, the order with the ranks, and the numbers of each length
  last-cells : (r : ℕ) → r < capacity_in b + 2 → Agree b b' r 8 × Agree b b' r 9 × Agree b b' r 10 × Agree b b' r 11
  unfolding capacity_in size_in count_in reading_in longest_length_in end_row order_in rank_in length_count_in
  last-cells zero l = (a.capacity, same_size, same_count, a.reading)
  last-cells (suc zero) l =
      (same_end at_left, same_end at_right, same-longest, a.spare 1 l)
  last-cells (suc (suc i)) l = (
    rw (add-two i) at (a.order i (omega arith)),
    same_rank (suc (suc i)) (omega arith) l,
    rw (add-one (suc i)) at (same-length-count (suc i) (omega arith) (omega arith)),
    a.spare (suc (suc i)) l,
  )

  all-cells : (r f : ℕ) → r < capacity_in b + 2 → f < 12 → Agree b b' r f
  all-cells r f l h =
      let e = last-cells r l in
      and-next (Agree b b' r) 11 (and-next (Agree b b' r) 10 (and-next (Agree b b' r) 9 (and-next (Agree b b' r) 8 (row-cells r l) e.0) e.1) e.2) e.3 f h

  -- ---- the letters

  -- a place holds its letter, or zero past the last
  places : (i : ℕ) → i < capacity_in b → get_or b (letters_at (capacity_in b) + i) 0 ≡ get_or b' (letters_at (capacity_in b) + i) 0
  places i l = go (dec_lt i (size_in b))
    where
      go : Dec (i < size_in b) → get_or b (letters_at (capacity_in b) + i) 0 ≡ get_or b' (letters_at (capacity_in b) + i) 0
      go (yes h) = cc (letter_at_lem b i h, letter_at_lem b' i (omega (arith, same_size)), a.letters, a.capacity)
      go (no h) = cc (g.free-places i (omega arith) l, g'.free-places i (omega (arith, same_size)) (omega (arith, a.capacity)), a.capacity)

  behind : (i : ℕ) → 24 * (capacity_in b + 2) ≤ i → get_or b i 0 ≡ get_or b' i 0
  behind i l = go (dec_lt i (letters_at (capacity_in b) + capacity_in b))
    where
      go : Dec (i < letters_at (capacity_in b) + capacity_in b) → get_or b i 0 ≡ get_or b' i 0
      go (yes h) =
          let k = i - letters_at (capacity_in b) in
          let e : letters_at (capacity_in b) + k ≡ i = omega arith in
          rw (← e) (places k (omega arith))
      go (no h) = a.rest i (omega arith)

  -- two good stores that show the same are equal
  pub determined : Bytes b → Bytes b' → b ≡ b'
  determined h h' = cells-decide b b' h h' (capacity_in b + 2) a.lengths all-cells behind
