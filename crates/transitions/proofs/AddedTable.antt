-- The rows after an accepted addition: which are used, what they hold, and that the table shows the eertree of the new letters. Where the addition brings nothing in, the used rows stay as
-- they were; where it brings a palindrome in, the first free row holds it, hung at the edge of its inner row.
-- Rests on the cells of `AddedBytes`, on `grow-new` and `covers-same` of the eertree, and on `node-from`, by which a row spells what it holds.
use Prim.Native.Nat.{ℕ, ◌+◌, ◌≤◌, ◌<◌}
use native.Mathlib.Decide.{dec_lt}
use native.Mathlib.Omega.{arith}
use mathlib.Core.Path.{◌≡◌, refl, sym, ap, ◌∙◌, subst, subst₂}
use mathlib.Core.Bool.{Bool, true, false, cond, ◌&&◌, ◌||◌, and-false}
use mathlib.Core.Logic.{◌⊎◌, inl, inr, ⊎_elim}
use lib.Dec.{eqb}
use borrow.Author.Tests.{eqb-true, eq-eqb, ne_eqb, lt-ltb}
use Rattle.palindromes.specs.Word.{Word}
use Rattle.palindromes.specs.Reading.{rule_in}
use Rattle.palindromes.specs.End.{End, added}
use Rattle.palindromes.specs.Node.{Node, spelt, around}
use Rattle.palindromes.specs.Eertree.{Shows, node_from}
use Rattle.palindromes.proofs.Tests.{both_true, both-are, false-not-true, decided}
use Rattle.palindromes.proofs.Lists.{either_true, left_is, right_is, same_test}
use Rattle.palindromes.proofs.Readings.{rule-inverse}
use Rattle.eertree.specs.Covers.{Covers, EdgesEnd}
use Rattle.eertree.proofs.Covers.{SamePalindromes, covers-renamed, covers-same, covers-shows, edges-end-renamed, edges-end-same}
use Rattle.eertree.proofs.Rows.{reach-length}
use Rattle.eertree.proofs.Nodes.{node-from}
use Rattle.eertree.proofs.Grow.{OneMore, Hung, same-added, grow-new, grow-new-edges}
use Rattle.store.specs.Layout.{cell, capacity_in, count_in, reading_in, edge_cell, length_in, link_in, inner_in, outer_in, edge_in, rank_in, used_in, letters_in}
use Rattle.store.specs.Good.{rule_of, table_in, node_in}
use Rattle.store.proofs.Edges.{edge-low, edge-high, edge_same}
use Rattle.store.proofs.Sizes.{used-below}
use Rattle.transitions.specs.Rows.{free_row}
use Rattle.transitions.specs.Addition.{longest_after, brings_in, after_addition}
use Rattle.transitions.proofs.Rows.{covers, edges-end, count_most, used-root, used-is, used-rank, free-row, free-below}
use Rattle.transitions.proofs.AddedWord.{Accepted, inner_row, last_letter, length-after, stood, one_more, inner-found, link-found, last_letter_lem, word-around}
use Rattle.transitions.proofs.AddedSame.{SameRows, covers-rows, edges-end-rows}
use Rattle.transitions.proofs.AddedBytes.{capacity-after, reading-after, rank-after, count-new, count-old, row_kept, length-new, link-new, inner-new, outer-new, edge-new, letters-are}

-- what a row holds after the addition: the new palindrome in the first free row, where there is one
node_after : End → ℕ → Word → ℕ → Node
node_after e c b r = cond (brings_in e c b && eqb r (free_row b)) (spelt (longest_after e c b)) (node_in b r)

-- ---- which rows are used

-- a row of the table that is no root is used if its rank is below the count
rank-used : (b : Word) (r : ℕ) → 2 ≤ r → r < capacity_in b + 2 → rank_in b r < count_in b → used_in b r ≡ true
rank-used b r l h k = used-is b r l h ∙ lt-ltb (rank_in b r) (count_in b) k

module _ {e : End} {c : ℕ} {b : Word} (a : Accepted e c b) where
  -- the rank of the first free row is the count
  free-rank : rank_in b (free_row b) ≡ count_in b
  unfolding free_row
  free-rank = (a.good.order (count_in b) (omega (arith, count_most a.good, a.room))).back

  -- a row of that rank is the first free row
  rank-free : (r : ℕ) → 2 ≤ r → r < capacity_in b + 2 → rank_in b r ≡ count_in b → r ≡ free_row b
  unfolding free_row
  rank-free r l h e = cc (a.good.rank r l h).back

  -- the count grows by one, or stays
  counts : ((brings_in e c b ≡ true) × (count_in (after_addition e c b) ≡ count_in b + 1)) ⊎ ((brings_in e c b ≡ false) × (count_in (after_addition e c b) ≡ count_in b))
  counts = ⊎_elim (λ k. inl (k, count-new a k)) (λ k. inr (k, count-old a k)) (decided (brings_in e c b))

  -- a row that is no root is used after if its rank is below the new count
  rank-used-after : (r : ℕ) → 2 ≤ r → r < capacity_in b + 2 → rank_in b r < count_in (after_addition e c b) → used_in (after_addition e c b) r ≡ true
  rank-used-after r l h k = rank-used (after_addition e c b) r l (rw (capacity-after a) h) (rw (rank-after a r l h) k)

  -- what was used is used
  pub used-kept : (r : ℕ) → used_in b r ≡ true → used_in (after_addition e c b) r ≡ true
  used-kept r u = go (dec_lt r 2)
    where
      go : Dec (r < 2) → used_in (after_addition e c b) r ≡ true
      go (yes l) = used-root (after_addition e c b) r l
      go (no l) =
          let m : 2 ≤ r = omega arith in
          rank-used-after r m (used-below b r u) (⊎_elim (λ k. omega (arith, k.1, used-rank b r m u)) (λ k. omega (arith, k.1, used-rank b r m u)) counts)

  -- so is the row of a palindrome that is new
  pub used-new : brings_in e c b ≡ true → used_in (after_addition e c b) (free_row b) ≡ true
  used-new k =
      let q = free-row a.good a.room in
      rank-used-after (free_row b) q.low (free-below a.good a.room) (omega (arith, free-rank, count-new a k))

  -- and nothing else
  pub used-rows : (r : ℕ) → used_in (after_addition e c b) r ≡ true → (used_in b r ≡ true) ⊎ ((brings_in e c b ≡ true) × (r ≡ free_row b))
  used-rows r u = go (dec_lt r 2)
    where
      below : r < capacity_in b + 2
      below = rw (capacity-after a) at (used-below (after_addition e c b) r u)

      ranked : 2 ≤ r → rank_in b r < count_in (after_addition e c b)
      ranked m = rw (rank-after a r m below) at (used-rank (after_addition e c b) r m u)

      rows : 2 ≤ r → Dec (rank_in b r < count_in b) → (used_in b r ≡ true) ⊎ ((brings_in e c b ≡ true) × (r ≡ free_row b))
      rows m (yes l) = inl (rank-used b r m below l)
      rows m (no l) = ⊎_elim (λ k. inr (k.0, rank-free r m below (omega (arith, k.1, ranked m)))) (λ k. absurd (omega (arith, k.1, ranked m))) counts

      go : Dec (r < 2) → (used_in b r ≡ true) ⊎ ((brings_in e c b ≡ true) × (r ≡ free_row b))
      go (yes l) = inl (used-root b r l)
      go (no l) = rows (omega arith) (dec_lt (rank_in b r) (count_in b))

  -- so which rows are used is a test on the row
  pub used-after : (r : ℕ) → used_in (after_addition e c b) r ≡ ((brings_in e c b && eqb r (free_row b)) || used_in b r)
  used-after r = same_test (used_in (after_addition e c b) r) (new || used_in b r) there back
    where
      new : Bool
      new = brings_in e c b && eqb r (free_row b)

      there : used_in (after_addition e c b) r ≡ true → (new || used_in b r) ≡ true
      there u = ⊎_elim (right_is new (used_in b r)) (λ m. left_is new (used_in b r) (both-are (brings_in e c b) (eqb r (free_row b)) m.0 (eq-eqb r (free_row b) m.1))) (used-rows r u)

      back : (new || used_in b r) ≡ true → used_in (after_addition e c b) r ≡ true
      back u = ⊎_elim fresh (used-kept r) (either_true new (used_in b r) u)
        where
          fresh : new ≡ true → used_in (after_addition e c b) r ≡ true
          fresh i = let t = both_true (brings_in e c b) (eqb r (free_row b)) i in rw (eqb-true r (free_row b) t.1) (used-new t.0)

  -- ---- what the used rows say

  -- a used row is not the first free one
  not_free : (r : ℕ) → used_in b r ≡ true → free_row b ≡ r → ⊥
  not_free r u e = false-not-true (free-row a.good a.room).unused (rw e u)

  -- so its length, link, inner row and outer letter stay
  fields-kept : (r f : ℕ) → used_in b r ≡ true → f < 4 → cell (after_addition e c b) r f ≡ cell b r f
  fields-kept r f u l = row_kept a r f (used-below b r u) (omega arith) λ k. (λ p i. not_free r u p, λ p i. omega (arith, edge-low (last_letter e c b)))

  -- and its edges but for the one that leads to the new row
  edges-kept : (r d : ℕ) → used_in b r ≡ true → (brings_in e c b ≡ true → inner_row e c b ≡ r → edge_cell (last_letter e c b) ≡ edge_cell d → ⊥) → edge_in (after_addition e c b) r d ≡ edge_in b r d
  unfolding edge_in
  edges-kept r d u n = row_kept a r (edge_cell d) (used-below b r u) (edge-high d) λ k. (λ p i. not_free r u p, n k)

  -- no edge leads from the new row
  edges-new : (d : ℕ) → edge_in (after_addition e c b) (free_row b) d ≡ 0
  unfolding edge_in
  edges-new d =
      let l = free-below a.good a.room in
      row_kept a (free_row b) (edge_cell d) l (edge-high d) (λ k. (λ p i. omega (arith, edge-low d), λ p i. not_free (inner_row e c b) (inner-found a k).0 (sym p)))
      ∙ a.good.free-rows (free_row b) (edge_cell d) l (free-row a.good a.room).unused (edge-high d)

  -- the same, field by field
  lengths-kept : (r : ℕ) → used_in b r ≡ true → length_in (after_addition e c b) r ≡ length_in b r
  unfolding length_in
  lengths-kept r u = rw (fields-kept r 0 u (omega arith))

  links-kept : (r : ℕ) → used_in b r ≡ true → link_in (after_addition e c b) r ≡ link_in b r
  unfolding link_in
  links-kept r u = fields-kept r 1 u (omega arith)

  inners-kept : (r : ℕ) → used_in b r ≡ true → inner_in (after_addition e c b) r ≡ inner_in b r
  unfolding inner_in
  inners-kept r u = fields-kept r 2 u (omega arith)

  pub outers-kept : (r : ℕ) → used_in b r ≡ true → outer_in (after_addition e c b) r ≡ outer_in b r
  unfolding outer_in
  outers-kept r u = fields-kept r 3 u (omega arith)

  -- ---- what the used rows hold

  -- what the used rows held, they hold
  old-node : (r : ℕ) → used_in b r ≡ true → node_after e c b r ≡ node_in b r
  unfolding node_after
  old-node r u = rw (ne_eqb r (free_row b) (λ p. not_free r u (sym p)), and-false (brings_in e c b))

  -- and the new row holds the new palindrome
  new-node : brings_in e c b ≡ true → node_after e c b (free_row b) ≡ spelt (longest_after e c b)
  unfolding node_after
  new-node k = rw (k, eq-eqb (free_row b) (free_row b) refl)

  -- ---- where nothing new comes, the rows stay

  same_rows : brings_in e c b ≡ false → SameRows (table_in b) (table_in (after_addition e c b))
  same_rows k =
      record {
        used-same = λ r. rw k at (used-after r);
        length-same = lengths-kept;
        link-same = links-kept;
        inner-same = inners-kept;
        outer_same = outers-kept;
        edge_same = λ r d u l. edges-kept r d u λ m. absurd (false-not-true k m);
      }

  -- ---- where a palindrome comes, its row hangs at the edge of its inner row

  hung : brings_in e c b ≡ true → Hung (rule_of b) (table_in b) (table_in (after_addition e c b)) (node_in b) (node_after e c b) (inner_row e c b) (last_letter e c b) (free_row b)
  unfolding length_in
  hung k =
      record {
        used-also = λ r. rw k at (used-after r);
        nodes-kept = old-node;
        new-node = new-node k ∙ ap spelt (word-around a k);
        length-new = cc (length-new a k, reach-length (spelt (longest_after e c b)), word-around a k);
        link-new = rw (link-new a k, ← word-around a k) (link-found a k);
        inner-new = inner-new a k;
        outer-new = outer-new a k;
        edge-new = edge-new a k;
        length-kept = lengths-kept;
        link-kept = links-kept;
        inner-kept = inners-kept;
        outer-kept = outers-kept;
        edge_kept = λ r d u l n. edges-kept r d u λ m p i. n (sym p, edge_same d (last_letter e c b) l (last_letter_lem a k) (sym i));
      }

  -- ---- the table

  -- where nothing new comes, the rows hold what they held
  nodes-stay : brings_in e c b ≡ false → (r : ℕ) → used_in (after_addition e c b) r ≡ true → node_after e c b r ≡ node_in b r
  nodes-stay k r u = old-node r (sym ((same_rows k).used-same r) ∙ u)

  -- and the palindromes stay
  pub same : brings_in e c b ≡ false → SamePalindromes (rule_of b) (letters_in b) (added e c (letters_in b))
  unfolding longest_after
  same k = same-added (rule_of b) (rule-inverse (reading_in b)) e (letters_in b) c (stood a k)

  -- else there is one more, the word around its inner row
  more : (k : brings_in e c b ≡ true) → OneMore (rule_of b) (letters_in b) (added e c (letters_in b)) (around (rule_of b) (last_letter e c b) (node_in b (inner_row e c b)))
  more k = subst (OneMore (rule_of b) (letters_in b) (added e c (letters_in b))) (word-around a k) (one_more a k)

  -- so the table covers the new letters
  covers-after : Covers (rule_of b) (added e c (letters_in b)) (table_in (after_addition e c b)) (node_after e c b)
  covers-after =
      ⊎_elim
      (λ k. grow-new (covers a.good) (more k) (inner-found a k).0 (hung k))
      (λ k. covers-renamed (nodes-stay k) (covers-same (same k) (covers-rows (same_rows k) (covers a.good))))
      (decided (brings_in e c b))

  -- and has no edge to a word that does not stand in them
  edges-after : EdgesEnd (rule_of b) (added e c (letters_in b)) (table_in (after_addition e c b)) (node_after e c b)
  edges-after = ⊎_elim (λ k. grow-new-edges (more k) (hung k) (edges-end a.good) λ d l. edges-new d) old (decided (brings_in e c b))
    where
      old : brings_in e c b ≡ false → EdgesEnd (rule_of b) (added e c (letters_in b)) (table_in (after_addition e c b)) (node_after e c b)
      old k =
          edges-end-renamed (rule_of b) (table_in (after_addition e c b)) (node_in b) (node_after e c b) (nodes-stay k)
          (edges-end-same (rule_of b) (table_in (after_addition e c b)) (node_in b) {s = letters_in b} (same k) (edges-end-rows (rule_of b) (letters_in b) (node_in b) (same_rows k) (edges-end a.good)))

  -- the partner rule is the same
  pub rule-after : rule_of (after_addition e c b) ≡ rule_of b
  rule-after = ap rule_in (reading-after a)

  -- a row spells what it holds
  node-after : (r : ℕ) → used_in (after_addition e c b) r ≡ true → node_in (after_addition e c b) r ≡ node_after e c b r
  unfolding node_in
  node-after r u =
      let b' = after_addition e c b in
      ap (λ (σ : ℕ → ℕ). node_from σ (inner_in b') (outer_in b') (capacity_in b' + 2) r) rule-after
      ∙ node-from covers-after (capacity_in b' + 2) r u (omega (arith, capacity-after a, length-after a, a.room))

  -- so every row holds what it held
  pub node_kept : (r : ℕ) → used_in b r ≡ true → node_in (after_addition e c b) r ≡ node_in b r
  node_kept r u = node-after r (used-kept r u) ∙ old-node r u

  -- and the new row holds the new palindrome
  pub node-new : brings_in e c b ≡ true → node_in (after_addition e c b) (free_row b) ≡ spelt (longest_after e c b)
  node-new k = node-after (free_row b) (used-new k) ∙ new-node k

  -- the table shows the eertree of the new letters
  pub table-after : Shows (rule_of (after_addition e c b)) (letters_in (after_addition e c b)) (table_in (after_addition e c b)) (node_in (after_addition e c b))
  table-after =
      let b' = after_addition e c b in
      subst₂ (λ (σ : ℕ → ℕ) (t : Word). Shows σ t (table_in b') (node_in b')) (sym rule-after) (sym (letters-are a))
      (covers-shows (covers-renamed node-after covers-after) (edges-end-renamed (rule_of b) (table_in b') (node_after e c b) (node_in b') node-after edges-after))
