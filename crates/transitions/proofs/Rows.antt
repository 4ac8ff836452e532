-- The rows of a good store. A good store is a table that covers its letters; the row that holds a node is the one row that `row_of` finds, and the link, the
-- inner row, the edges, the stored length and the outer letter of a used row are what the eertree says of its node. There is a free row while the store is not
-- full. Last, every number that an addition or a removal writes is small enough for a cell. Rests on the laws of tables that cover a record (`Covers`, `Rows`
-- of eertree) and on `count-length`: a record has no more palindromes than letters.
use Prim.Native.Nat.{ℕ, zero, suc, ◌+◌, ◌*◌, ◌≤◌, ◌<◌}
use native.Mathlib.Nat.{eq-or-lt_of_le, le_of_suc-le-suc}
use native.Mathlib.Omega.{arith}
use mathlib.Core.Path.{◌≡◌, refl, sym, ap, ◌∙◌, subst}
use mathlib.Core.Bool.{Bool, true, false, cond, ◌&&◌, true≢false}
use mathlib.Core.Logic.{◌⊎◌, inl, inr}
use mathlib.Core.List.{[]}
use lib.Dec.{ltb}
use lib.ListN.{length, get_or}
use lib.Seq.{get_or-take, get_or-drop}
use borrow.Author.Tests.{ltb-true, ltb-false, lt-ltb, le-ltb}
use Rattle.palindromes.specs.Word.{Word, is_letter, member}
use Rattle.palindromes.specs.Record.{palindromes}
use Rattle.palindromes.specs.End.{End, at_right, letter_at, longest_at}
use Rattle.palindromes.specs.Node.{Node, imaginary, spelt, length_of, link_of, inner_of, around}
use Rattle.palindromes.specs.Refusal.{store_size}
use Rattle.palindromes.proofs.Tests.{both_true, both-are, false-not-true, same_true, same-is}
use Rattle.palindromes.proofs.Palindromes.{palindromes-true, count-length}
use Rattle.palindromes.proofs.Growth.{letter-around}
use Rattle.eertree.specs.Covers.{NodeOf, Covers, EdgesEnd}
use Rattle.eertree.proofs.Covers.{node-is, shows-covers, shows-edges-end}
use Rattle.eertree.proofs.Rows.{reach_of, row-reach, word_row}
use Rattle.store.specs.Layout.{cell, capacity_in, size_in, count_in, end_row, length_in, link_in, inner_in, outer_in, edge_in, order_in, rank_in, used_in, letters_at}
use Rattle.store.specs.Layout.{letters_in}
use Rattle.store.specs.Writes.{stored}
use Rattle.store.specs.Good.{rule_of, table_in, node_in, Sized, Good}
use Rattle.store.proofs.Sizes.{letters-length, used-below}
use Rattle.transitions.specs.Rows.{same_node, least_below, row_of, free_row, Free}
use Rattle.transitions.proofs.Letters.{letters-piece, letter-at-end}

-- ---- the least number that passes a test

-- what one more number does to the least m that passes: it stays, or the new one is the first that passes, or still none passes
data Next (p : ℕ → Bool) (n m k : ℕ) : Type 0 where
  stays : m < n → k ≡ m → Next p n m k
  first : n ≤ m → p n ≡ true → k ≡ n → Next p n m k
  none : n ≤ m → p n ≡ false → k ≡ suc n → Next p n m k

module _ (p : ℕ → Bool) where
  least-next : (n : ℕ) → Next p n (least_below p n) (least_below p (suc n))
  unfolding least_below
  least-next n = go (ltb (least_below p n) n) (p n) refl refl
    where
      go : (s t : Bool) → ltb (least_below p n) n ≡ s → p n ≡ t → Next p n (least_below p n) (cond s (least_below p n) (cond t n (suc n)))
      go true t e f = stays (ltb-true (least_below p n) n e) refl
      go false true e f = first (ltb-false (least_below p n) n e) f refl
      go false false e f = none (ltb-false (least_below p n) n e) f refl

  -- it is at most the bound
  pub least-most : (n : ℕ) → least_below p n ≤ n
  unfolding least_below
  least-most zero = omega arith
  least-most (suc n) = go (least-most n) (least-next n)
    where
      go : least_below p n ≤ n → Next p n (least_below p n) (least_below p (suc n)) → least_below p (suc n) ≤ suc n
      go ih (stays h e) = omega arith
      go ih (first h f e) = omega arith
      go ih (none h f e) = omega arith

  -- if it is below the bound it passes
  pub least-passes : (n : ℕ) → least_below p n < n → p (least_below p n) ≡ true
  least-passes zero h = absurd (omega arith)
  least-passes (suc n) h = go (least-passes n) (least-next n)
    where
      go : (least_below p n < n → p (least_below p n) ≡ true) → Next p n (least_below p n) (least_below p (suc n)) → p (least_below p (suc n)) ≡ true
      go ih (stays k e) = rw e (ih k)
      go ih (first k f e) = rw e f
      go ih (none k f e) = absurd (omega arith)

  -- and it is at most whatever passes
  pub least-least : (n r : ℕ) → r < n → p r ≡ true → least_below p n ≤ r
  least-least zero r h e = absurd (omega arith)
  least-least (suc n) r h e = go (λ k. least-least n r k e) (least-next n) (eq-or-lt_of_le (le_of_suc-le-suc h))
    where
      go : (r < n → least_below p n ≤ r) → Next p n (least_below p n) (least_below p (suc n)) → (r ≡ n) ⊎ (r < n) → least_below p (suc n) ≤ r
      go ih (stays k i) (inl q) = omega arith
      go ih (stays k i) (inr q) = omega (arith, ih q)
      go ih (first k f i) (inl q) = omega arith
      go ih (first k f i) (inr q) = absurd (omega (arith, ih q))
      go ih (none k f i) (inl q) = absurd (false-not-true f (cc))
      go ih (none k f i) (inr q) = absurd (omega (arith, ih q))

  -- so if one number alone passes it is that one
  pub least-only : (n r : ℕ) → r < n → p r ≡ true → ((q : ℕ) → p q ≡ true → q ≡ r) → least_below p n ≡ r
  least-only n r h e only = only (least_below p n) (least-passes n (omega (arith, least-least n r h e)))

-- ---- the test of a node

-- it says what its name says
pub same-node-true : (u v : Node) → same_node u v ≡ true → u ≡ v
unfolding same_node
same-node-true imaginary imaginary h = refl
same-node-true imaginary (spelt w) h = absurd (true≢false (sym h))
same-node-true (spelt x) imaginary h = absurd (true≢false (sym h))
same-node-true (spelt x) (spelt w) h = ap spelt (same_true x w h)

pub same-node-is : {u v : Node} → u ≡ v → same_node u v ≡ true
unfolding same_node
same-node-is {u} e = subst (λ (v : Node). same_node u v ≡ true) e (go u)
  where
    go : (v : Node) → same_node v v ≡ true
    go imaginary = refl
    go (spelt w) = same-is refl

-- the number that a node's length is stored as
pub stored-length : (v : Node) → stored (length_of v) ≡ reach_of v
unfolding length_of
stored-length imaginary = refl
stored-length (spelt w) = refl

-- ---- the letters

-- each letter is read at its place
pub letter_at_lem : (b : Word) (i : ℕ) → i < size_in b → get_or (letters_in b) i 0 ≡ get_or b (letters_at (capacity_in b) + i) 0
unfolding letters_in
letter_at_lem b i h = rw (get_or-take, get_or-drop)

-- ---- which rows are used

module _ (b : Word) (r : ℕ) where
  -- the roots are
  pub used-root : r < 2 → used_in b r ≡ true
  unfolding used_in
  used-root h = cc (lt-ltb r 2 h)

  -- of the other rows those whose rank is below the count
  pub used-is : 2 ≤ r → r < capacity_in b + 2 → used_in b r ≡ ltb (rank_in b r) (count_in b)
  unfolding used_in
  used-is l h = cc (le-ltb r 2 l, lt-ltb r (capacity_in b + 2) h)

  -- so a used row that is no root has a rank below the count
  pub used-rank : 2 ≤ r → used_in b r ≡ true → rank_in b r < count_in b
  used-rank l u = ltb-true (rank_in b r) (count_in b) (sym (used-is l (used-below b r u)) ∙ u)

-- a row of the store lies within its bytes
pub row_fits : {b : Word} → Sized b → (r : ℕ) → r < capacity_in b + 2 → 24 * r + 24 ≤ length b
unfolding store_size
row_fits {b} h r l = omega (arith, h.long-enough)

-- ---- a good store

module _ {b : Word} (g : Good b) where
  -- a good store covers its letters
  pub covers : Covers (rule_of b) (letters_in b) (table_in b) (node_in b)
  covers = shows-covers g.table

  -- and has no edge to a word that does not stand
  pub edges-end : EdgesEnd (rule_of b) (letters_in b) (table_in b) (node_in b)
  edges-end = shows-edges-end g.table

  -- there are no more repeats than letters
  pub count_most : count_in b ≤ size_in b
  count_most = omega (arith, g.count-is, count-length (rule_of b) (letters_in b), letters-length g.sized)

  -- a row in use has a rank below the number of letters
  pub rank_below : (r : ℕ) → used_in b r ≡ true → 2 ≤ r → rank_in b r < size_in b
  rank_below r u l = omega (arith, used-rank b r l u, count_most)

  -- and no other row has the same
  pub rank-only : (r q : ℕ) → used_in b r ≡ true → used_in b q ≡ true → 2 ≤ r → 2 ≤ q → rank_in b r ≡ rank_in b q → r ≡ q
  rank-only r q u v l m e = cc ((g.rank r l (used-below b r u)).back, (g.rank q m (used-below b q v)).back)

  -- a used row lies within the bytes
  pub used-fits : (r : ℕ) → used_in b r ≡ true → 24 * r + 24 ≤ length b
  used-fits r u = row_fits g.sized r (used-below b r u)

  -- ---- the row of a node

  -- a used row is the row of what it holds, since no other row holds it
  pub row-of : (r : ℕ) (v : Node) → used_in b r ≡ true → node_in b r ≡ v → row_of b v ≡ r
  unfolding row_of
  row-of r v u e =
      least-only (λ q. used_in b q && same_node (node_in b q) v) (capacity_in b + 2) r (used-below b r u)
      (both-are (used_in b r) (same_node (node_in b r) v) u (same-node-is e)) λ q h.
      let t = both_true (used_in b q) (same_node (node_in b q) v) h in
      g.table.one-row q r t.0 u (same-node-true (node_in b q) v t.1 ∙ sym e)

  -- and every node has one
  pub row-of-node : (v : Node) → NodeOf (rule_of b) (letters_in b) v → (used_in b (row_of b v) ≡ true) × (node_in b (row_of b v) ≡ v)
  row-of-node v n =
      let h = g.table.each-node v (node-is (rule_of b) (letters_in b) v n) in
      rw (row-of h.0 v h.1 h.2) (h.1, h.2)

  -- the rows of the roots
  pub row-of-imaginary : row_of b imaginary ≡ 0
  row-of-imaginary = let h = g.table.row_zero in row-of 0 imaginary h.0 h.1

  pub row-of-empty : row_of b (spelt []) ≡ 1
  row-of-empty = let h = g.table.row_one in row-of 1 (spelt []) h.0 h.1

  -- and of the longest repeat at an end
  pub end_row_lem : (e : End) → end_row b e ≡ row_of b (spelt (longest_at (rule_of b) e (letters_in b)))
  end_row_lem e = let h = g.ends e in sym (row-of (end_row b e) (spelt (longest_at (rule_of b) e (letters_in b))) h.used h.holds)

  -- ---- what a used row says

  module _ (r : ℕ) (u : used_in b r ≡ true) where
    -- its link, its inner row and its edges are the rows of the nodes to which they lead; `edges-end` has the edges that lead nowhere
    pub link_row_lem : link_in b r ≡ row_of b (link_of (rule_of b) (node_in b r))
    link_row_lem = let h = covers.link-is r u in sym (row-of (link_in b r) (link_of (rule_of b) (node_in b r)) h.0 h.1)

    pub inner-row : inner_in b r ≡ row_of b (inner_of (node_in b r))
    inner-row = let h = covers.inner-is r u in sym (row-of (inner_in b r) (inner_of (node_in b r)) h.0 h.1)

    pub edge_row : (c : ℕ) → is_letter c ≡ true → NodeOf (rule_of b) (letters_in b) (spelt (around (rule_of b) c (node_in b r)))
        → edge_in b r c ≡ row_of b (spelt (around (rule_of b) c (node_in b r)))
    edge_row c l n = let h = covers.edge-there r c u l n in sym (row-of (edge_in b r c) (spelt (around (rule_of b) c (node_in b r))) h.0 h.1)

    -- its first cell holds its length plus one
    pub length-row : cell b r 0 ≡ reach_of (node_in b r)
    unfolding length_in
    length-row = row-reach covers r (cell b r 0) u refl

    -- and the outer letter of a row that is no root is the last letter of its word
    pub outer-row : 2 ≤ r → {w : Word} → node_in b r ≡ spelt w → outer_in b r ≡ letter_at at_right w
    outer-row l {w} e =
        let f : w ≡ around (rule_of b) (outer_in b r) (node_in b (inner_in b r)) = cc (covers.outer-is r u l) in
        cc (letter-around (rule_of b) (outer_in b r) (node_in b (inner_in b r)), f)

    pub outer-letter : 2 ≤ r → is_letter (outer_in b r) ≡ true
    outer-letter l =
        let h = word_row covers r u l in
        rw (outer-row l h.1) (letter-at-end at_right h.0 h.2.non-empty (letters-piece h.3 g.letters))

  -- ---- the next free row

  -- a row that is not used holds no repeat
  unused-none : (r : ℕ) → used_in b r ≡ false → (w : Word) → member w (palindromes (rule_of b) (letters_in b)) ≡ true → row_of b (spelt w) ≡ r
      → ⊥
  unused-none r u w m e =
      let p = palindromes-true (rule_of b) w (letters_in b) m in
      false-not-true (rw e u) (row-of-node (spelt w) (p.0.symmetric, p.1)).0

  -- while the store is not full there is one: a row of the table that is no root, and that no repeat has
  pub free-row : size_in b < capacity_in b → Free b (free_row b)
  unfolding free_row
  free-row h =
      let o = g.order (count_in b) (omega (arith, count_most)) in
      let u : used_in b (order_in b (count_in b)) ≡ false =
      used-is b (order_in b (count_in b)) o.low o.high ∙ le-ltb (rank_in b (order_in b (count_in b))) (count_in b) (omega (arith, o.back)) in
      record { low = o.low; high = omega (arith, o.high); unused = u; of_none = unused-none (order_in b (count_in b)) u }

  pub free-below : size_in b < capacity_in b → free_row b < capacity_in b + 2
  free-below h = omega (arith, (free-row h).high)

  -- ---- what is written fits a cell

  -- a row of the table, so a used row and the row of a node
  pub row_small : (r : ℕ) → r < capacity_in b + 2 → r < 65536
  row_small r h = omega (arith, g.sized.at_most)

  pub used-small : (r : ℕ) → used_in b r ≡ true → r < 65536
  used-small r u = row_small r (used-below b r u)

  pub row-of-small : (v : Node) → row_of b v < 65536
  unfolding row_of
  row-of-small v = omega (arith, g.sized.at_most, least-most (λ r. used_in b r && same_node (node_in b r) v) (capacity_in b + 2))

  -- the row of an end, and the link of a used row
  pub end-small : (e : End) → end_row b e < 65536
  end-small e = used-small (end_row b e) (g.ends e).used

  pub link-small : (r : ℕ) → used_in b r ≡ true → link_in b r < 65536
  link-small r u = used-small (link_in b r) (covers.link-is r u).0

  -- an array of 1,026 numbers has one for each used row, and for its link
  pub row_below : (r : ℕ) → used_in b r ≡ true → r < 1026
  row_below r u = omega (arith, used-below b r u, g.sized.at_most)

  pub link-below : {link : ℕ} (r : ℕ) → used_in b r ≡ true → link ≡ link_in b r → link < 1026
  link-below r u e = omega (arith, row_below (link_in b r) (covers.link-is r u).0)

  -- and one of 1,024 one for each letter
  pub size-most : size_in b ≤ 1024
  size-most = omega (arith, g.sized.at_most, g.sized.letters-fit)

  -- the number of letters and of repeats, and one more
  pub size_small : size_in b + 1 < 65536
  size_small = omega (arith, g.sized.at_most, g.sized.letters-fit)

  pub count_small : count_in b + 1 < 65536
  count_small = omega (arith, size_small, count_most)

  -- the stored length of a word for which the store has room
  pub length-small : (w : Word) → length w ≤ capacity_in b → stored (length_of (spelt w)) < 65536
  length-small w h = omega (arith, stored-length (spelt w), g.sized.at_most)
