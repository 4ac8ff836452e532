-- An opened store is good and empty: its cells are what `opened` writes over zeros, the two roots alone are in use, the order of the rows is the rising one and each row's rank follows.
-- What lies behind the bytes that the store uses stays. Rests on the frame laws of a run of writes (`Writes` of store) and on the eertree of the empty record (`Start`).
use Prim.Native.Nat.{ℕ, zero, suc, ◌+◌, ◌*◌, ◌-◌, ◌≤◌, ◌<◌}
use native.Mathlib.Nat.{zero-add, eq-or-lt_of_le, le_of_suc-le-suc}
use native.Mathlib.Decide.{dec_lt}
use native.Mathlib.Omega.{arith}
use mathlib.Core.Path.{◌≡◌, refl, ap, ◌∙◌}
use mathlib.Core.Bool.{true, false, cond, ◌&&◌, and-false}
use mathlib.Core.Logic.{◌≢◌, ◌⊎◌, inl, inr, ⊎_elim}
use mathlib.Core.List.{[], ◌∷◌, ◌++◌}
use lib.Dec.{eqb}
use lib.ListN.{length, get_or, set, drop, take, replicate, length-replicate, get_or-replicate, get_or-append}
use lib.IntN.{pos, pred_ℤ}
use lib.Seq.{sets, sets-eq, length-sets, drop_at}
use borrow.Author.Tests.{eq-eqb, ne_eqb}
use Rattle.palindromes.specs.Word.{Word, all_letters}
use Rattle.palindromes.specs.End.{End, at_left, at_right}
use Rattle.palindromes.specs.Refusal.{store_size}
use Rattle.palindromes.proofs.Longest.{longest-empty}
use Rattle.palindromes.proofs.Palindromes.{count-empty}
use Rattle.palindromes.proofs.Answers.{longest-length-empty}
use Rattle.palindromes.proofs.Lengths.{length-count-empty}
use Rattle.palindromes.proofs.Tests.{not-true-false, false-not-true}
use Rattle.eertree.proofs.Covers.{covers-shows}
use Rattle.eertree.proofs.Nodes.{root-zero, root-one}
use Rattle.store.specs.Layout.{cell_at, cell, capacity_in, size_in, count_in, reading_in, end_row, length_in, link_in, inner_in, outer_in, edge_cell, edge_in, order_in, rank_in, used_in, length_count_in, longest_length_in, letters_at, letters_in}
use Rattle.store.specs.Writes.{write}
use Rattle.store.specs.Good.{rule_of, table_in, node_in, Sized, OrderIs, RankIs, EndIs, Good}
use Rattle.store.proofs.Writes.{Fitting, look, RowsBelow, cell-writes, length-writes, drop-writes, get_or-writes}
use Rattle.store.proofs.Edges.{edge-low, edge-high}
use Rattle.transitions.specs.Bytes.{Bytes}
use Rattle.transitions.specs.Opening.{used_bytes, order_writes, head_writes, opening_writes, opened}
use Rattle.transitions.proofs.Rows.{used-root, used-rank}
use Rattle.transitions.proofs.Runs.{look-append, fitting-append, below-append}
use Rattle.transitions.proofs.AddedRuns.{bytes-set, bytes-writes}
use Rattle.transitions.proofs.Start.{Roots, roots-cover, roots-end}

-- ---- the order of the rows

-- one row more
order-next : (n r f v : ℕ) → look (order_writes (suc n)) r f v
    ≡ cond (eqb 9 f && eqb (n + 2) r) n (cond (eqb 8 f && eqb (n + 2) r) (n + 2) (look (order_writes n) r f v))
unfolding order_writes
order-next n r f v = look-append (order_writes n) (write (n + 2) 8 (n + 2) ∷ write (n + 2) 9 n ∷ []) r f v

-- the roots, and the fields of a row, are not written
order-keeps : (n r f v : ℕ) → (r < 2) ⊎ ((8 ≢ f) × (9 ≢ f)) → look (order_writes n) r f v ≡ v
unfolding order_writes
order-keeps zero r f v h = refl
order-keeps (suc n) r f v h =
    cc (order-next n r f v, off 8 (⊎_elim inl (λ k. inr k.0) h), off 9 (⊎_elim inl (λ k. inr k.1) h), order-keeps n r f v h)
  where
    off : (g : ℕ) → (r < 2) ⊎ (g ≢ f) → (eqb g f && eqb (n + 2) r) ≡ false
    off g (inl k) = cc (ne_eqb (n + 2) r (λ e. omega arith), and-false (eqb g f))
    off g (inr k) = cc (ne_eqb g f k)

-- place i holds row i + 2, and its rank is i
order-holds : (n i v : ℕ) → i < n → (look (order_writes n) (i + 2) 8 v ≡ i + 2) × (look (order_writes n) (i + 2) 9 v ≡ i)
order-holds zero i v h = absurd (omega arith)
order-holds (suc n) i v h = go (λ k. order-holds n i v k) (eq-or-lt_of_le (le_of_suc-le-suc h))
  where
    go : (i < n → (look (order_writes n) (i + 2) 8 v ≡ i + 2) × (look (order_writes n) (i + 2) 9 v ≡ i)) → (i ≡ n) ⊎ (i < n)
        → (look (order_writes (suc n)) (i + 2) 8 v ≡ i + 2) × (look (order_writes (suc n)) (i + 2) 9 v ≡ i)
    go ih (inl e) =
        let t = eq-eqb (n + 2) (i + 2) (omega arith) in
        (cc (order-next n (i + 2) 8 v, t), cc (order-next n (i + 2) 9 v, t))
    go ih (inr l) =
        let t = ne_eqb (n + 2) (i + 2) (λ e. omega arith) in
        let k = ih l in
        (cc (order-next n (i + 2) 8 v, t, k.0), cc (order-next n (i + 2) 9 v, t, k.1))

-- the writes fit a store that is long enough, and are to its rows
order-fits : (b : Word) (n : ℕ) → n ≤ 1024 → 24 * (n + 2) ≤ length b → Fitting b (order_writes n)
unfolding order_writes
order-fits b zero h l = tt
order-fits b (suc n) h l =
    fitting-append b (order_writes n) (write (n + 2) 8 (n + 2) ∷ write (n + 2) 9 n ∷ []) (order-fits b n (omega arith) (omega arith))
    (omega arith, omega arith, omega arith, (omega arith, omega arith, omega arith, tt))

order_below : (n m : ℕ) → n + 2 ≤ m → RowsBelow m (order_writes n)
unfolding order_writes
order_below zero m h = tt
order_below (suc n) m h =
    below-append m (order_writes n) (write (n + 2) 8 (n + 2) ∷ write (n + 2) 9 n ∷ []) (order_below n m (omega arith))
    (omega arith, omega arith, (omega arith, omega arith, tt))

-- ---- the bytes

-- the store with a zero in every byte that it uses
abbrev cleared : ℕ → Word → Word
cleared k b = sets b 0 (replicate (used_bytes k) 0)

-- opening keeps the length
pub opened-length : (m k : ℕ) (b : Word) → length (opened m k b) ≡ length b
unfolding opened
opened-length m k b = length-writes (cleared k b) (opening_writes m k) ∙ length-sets b 0 (replicate (used_bytes k) 0)

-- and leaves bytes
zeros-bytes : (n at : ℕ) (b : Word) → Bytes b → Bytes (sets b at (replicate n 0))
zeros-bytes zero at b h = h
zeros-bytes (suc n) at b h = zeros-bytes n (suc at) (set b at 0) (bytes-set b at 0 h (omega arith))

pub opened-bytes : (m k : ℕ) (b : Word) → Bytes b → Bytes (opened m k b)
unfolding opened
opened-bytes m k b h = bytes-writes (opening_writes m k) (cleared k b) (zeros-bytes (used_bytes k) 0 b h)

module _ (m k : ℕ) (b : Word) (reading : m < 2) (high : k ≤ 1024) (long : store_size k ≤ length b) where
  -- the bytes in use, and the rows, lie within the store
  bytes_fit : used_bytes k ≤ length b
  unfolding store_size
  bytes_fit = omega arith

  cleared-is : cleared k b ≡ replicate (used_bytes k) 0 ++ drop (used_bytes k) b
  cleared-is =
      let n : length (replicate {A = ℕ} (used_bytes k) 0) ≡ used_bytes k = length-replicate (used_bytes k) 0 in
      cc (sets-eq (replicate (used_bytes k) 0) b 0 (omega (arith, bytes_fit)), zero-add (used_bytes k), n)

  cleared-zero : (i : ℕ) → i < used_bytes k → get_or (cleared k b) i 0 ≡ 0
  cleared-zero i h =
      let n : length (replicate {A = ℕ} (used_bytes k) 0) ≡ used_bytes k = length-replicate (used_bytes k) 0 in
      ap (λ (l : Word). get_or l i 0) cleared-is ∙ get_or-append (replicate (used_bytes k) 0) (drop (used_bytes k) b) 0 i (omega arith) ∙ get_or-replicate (used_bytes k) i 0 0 h

  -- every cell of a cleared store is zero
  cleared-cell : (r f : ℕ) → r < k + 2 → f < 12 → cell (cleared k b) r f ≡ 0
  unfolding cell
  cleared-cell r f h l = omega (arith, cleared-zero (cell_at r f) (omega arith), cleared-zero (cell_at r f + 1) (omega arith))

  -- ---- what opening leaves

  opening-fits : Fitting (cleared k b) (opening_writes m k)
  unfolding opening_writes
  opening-fits =
      let n = length-sets b 0 (replicate (used_bytes k) 0) in
      let l = bytes_fit in
      fitting-append (cleared k b) (head_writes m k) (order_writes k) (omega arith) (order-fits (cleared k b) k high (omega arith))

  opening-below : RowsBelow (k + 2) (opening_writes m k)
  unfolding opening_writes
  opening-below = below-append (k + 2) (head_writes m k) (order_writes k) (omega arith) (order_below k (k + 2) (omega arith))

  -- a cell of the opened store
  opened-cell : (r f : ℕ) → r < k + 2 → f < 12 → cell (opened m k b) r f ≡ look (order_writes k) r f (look (head_writes m k) r f 0)
  unfolding opened opening_writes
  opened-cell r f h l = cell-writes (cleared k b) (opening_writes m k) opening-fits r f l ∙ ap (look (opening_writes m k) r f) (cleared-cell r f h l)

  -- a cell of a root, or one that is no place of the order and no rank
  opened-head : (r f : ℕ) → r < k + 2 → f < 12 → (r < 2) ⊎ ((8 ≢ f) × (9 ≢ f)) → cell (opened m k b) r f ≡ look (head_writes m k) r f 0
  opened-head r f h l e = opened-cell r f h l ∙ order-keeps k r f (look (head_writes m k) r f 0) e

  -- a root's cell
  opened-root : (r f : ℕ) → r < 2 → f < 12 → cell (opened m k b) r f ≡ look (head_writes m k) r f 0
  opened-root r f h l = opened-head r f (omega arith) l (inl h)

  -- a row is zero but for its place of the order and its rank
  opened-free : (r f : ℕ) → 2 ≤ r → r < k + 2 → f < 12 → (8 ≢ f) × (9 ≢ f) → cell (opened m k b) r f ≡ 0
  opened-free r f n h l d =
      let z = ne_eqb 0 r (λ e. omega arith) in
      let o = ne_eqb 1 r (λ e. omega arith) in
      opened-head r f h l (inr d) ∙ cc (z, o, and-false (eqb 8 f), and-false (eqb 11 f), and-false (eqb 0 f), and-false (eqb 9 f))

  -- place i of the order
  pub opened-order : (i : ℕ) → i < k → order_in (opened m k b) i ≡ i + 2
  unfolding order_in
  opened-order i h = opened-cell (i + 2) 8 (omega arith) (omega arith) ∙ (order-holds k i (look (head_writes m k) (i + 2) 8 0) h).0

  -- and the rank of the row that it holds
  opened-rank : (i : ℕ) → i < k → rank_in (opened m k b) (i + 2) ≡ i
  unfolding rank_in
  opened-rank i h = opened-cell (i + 2) 9 (omega arith) (omega arith) ∙ (order-holds k i (look (head_writes m k) (i + 2) 9 0) h).1

  -- ---- what an opened store shows

  -- the capacity that was asked for
  pub opened-capacity : capacity_in (opened m k b) ≡ k
  unfolding capacity_in
  opened-capacity = opened-root 0 8 (omega arith) (omega arith)

  -- the reading that was asked for
  pub opened-reading : reading_in (opened m k b) ≡ m
  unfolding reading_in
  opened-reading = opened-root 0 11 (omega arith) (omega arith)

  opened-size : size_in (opened m k b) ≡ 0
  unfolding size_in
  opened-size = opened-root 0 9 (omega arith) (omega arith)

  pub opened-count : count_in (opened m k b) ≡ 0
  unfolding count_in
  opened-count = opened-root 0 10 (omega arith) (omega arith)

  -- no palindrome of any length
  opened-length-count : (j : ℕ) → 1 ≤ j → j ≤ k → length_count_in (opened m k b) j ≡ 0
  unfolding length_count_in
  opened-length-count j l h = opened-free (j + 1) 10 (omega arith) (omega arith) (omega arith) (λ e. omega arith, λ e. omega arith)

  opened-longest : longest_length_in (opened m k b) ≡ 0
  unfolding longest_length_in
  opened-longest = opened-root 1 10 (omega arith) (omega arith)

  opened-end : (e : End) → end_row (opened m k b) e ≡ 1
  unfolding end_row
  opened-end at_left = opened-root 1 8 (omega arith) (omega arith)
  opened-end at_right = opened-root 1 9 (omega arith) (omega arith)

  -- no letter
  pub opened-letters : letters_in (opened m k b) ≡ []
  unfolding letters_in
  opened-letters = ap (λ (n : ℕ). take n (drop (letters_at (capacity_in (opened m k b))) (opened m k b))) opened-size

  -- no row in use but the roots
  pub opened-used : (r : ℕ) → 2 ≤ r → used_in (opened m k b) r ≡ false
  opened-used r h = not-true-false (used_in (opened m k b) r) λ u. omega (arith, used-rank (opened m k b) r h u, opened-count)

  -- what lies behind the bytes in use stays
  pub opened-rest : drop (used_bytes k) (opened m k b) ≡ drop (used_bytes k) b
  unfolding opened
  opened-rest =
      drop-writes (cleared k b) (opening_writes m k) (k + 2) (used_bytes k) opening-below (omega arith)
      ∙ ap (drop (used_bytes k)) cleared-is
      ∙ drop_at (replicate (used_bytes k) 0) (drop (used_bytes k) b) (used_bytes k) (length-replicate (used_bytes k) 0)

  -- the places of the letters are zero
  opened-places : (i : ℕ) → i < k → get_or (opened m k b) (letters_at k + i) 0 ≡ 0
  unfolding opened
  opened-places i h =
      get_or-writes (cleared k b) (opening_writes m k) (k + 2) (letters_at k + i) opening-below (omega arith) ∙ cleared-zero (letters_at k + i) (omega arith)

  -- the rows in use are the roots, and they lead nowhere
  opened-roots : Roots (table_in (opened m k b)) (node_in (opened m k b))
  unfolding node_in length_in link_in inner_in edge_in
  opened-roots =
      record {
        used-zero = used-root (opened m k b) 0 (omega arith);
        used-one = used-root (opened m k b) 1 (omega arith);
        only = λ r u. only r u (dec_lt r 2);
        node-zero = root-zero (rule_of (opened m k b)) (inner_in (opened m k b)) (outer_in (opened m k b)) (capacity_in (opened m k b) + 2);
        node-one = root-one (rule_of (opened m k b)) (inner_in (opened m k b)) (outer_in (opened m k b)) (capacity_in (opened m k b) + 2);
        length-zero = ap (λ (n : ℕ). pred_ℤ (pos n)) (opened-root 0 0 (omega arith) (omega arith));
        length-one = ap (λ (n : ℕ). pred_ℤ (pos n)) (opened-root 1 0 (omega arith) (omega arith));
        link = λ r h. root-field r 1 h (omega arith) (omega arith);
        inner = λ r h. root-field r 2 h (omega arith) (omega arith);
        edge = λ r c h l. root-field r (edge_cell c) h (omega (arith, edge-low c)) (edge-high c);
      }
    where
      only : (r : ℕ) → used_in (opened m k b) r ≡ true → Dec (r < 2) → r < 2
      only r u (yes h) = h
      only r u (no h) = absurd (false-not-true (opened-used r (omega arith)) u)

      root-field : (r f : ℕ) → r < 2 → 1 ≤ f → f < 8 → cell (opened m k b) r f ≡ 0
      root-field r f h n l =
          opened-root r f h (omega arith) ∙ cc (ne_eqb 8 f (λ e. omega arith), ne_eqb 11 f (λ e. omega arith), ne_eqb 0 f (λ e. omega arith), ne_eqb 9 f (λ e. omega arith))

  opened-sized : 1 ≤ k → Sized (opened m k b)
  unfolding store_size
  opened-sized low =
      let c = opened-capacity in
      let n = opened-size in
      let l = opened-length m k b in
      record { at_least_one = omega arith; at_most = omega arith; long-enough = omega arith; letters-fit = omega arith }

  -- both ends are at the empty word
  opened-ends : (e : End) → EndIs (opened m k b) e
  opened-ends e =
      record {
        used = rw (opened-end e) opened-roots.used-one;
        holds = cc (opened-end e, opened-roots.node-one, opened-letters, longest-empty (rule_of (opened m k b)) e);
      }

  -- the order is the rising one
  opened-order-is : (i : ℕ) → i < k → OrderIs (opened m k b) i
  opened-order-is i h =
      let o = opened-order i h in
      record { low = omega arith; high = omega (arith, opened-capacity); back = cc (o, opened-rank i h) }

  opened-rank-is : (r : ℕ) → 2 ≤ r → r < k + 2 → RankIs (opened m k b) r
  opened-rank-is r l h =
      let e : r - 2 + 2 ≡ r = omega arith in
      let o = opened-rank (r - 2) (omega arith) in
      let n : rank_in (opened m k b) r ≡ r - 2 = cc in
      record { high = omega (arith, opened-capacity); back = cc (n, opened-order (r - 2) (omega arith), e) }

  -- an opened store is good
  pub opened-good : 1 ≤ k → Good (opened m k b)
  unfolding reading_in outer_in all_letters
  opened-good low =
      let c = opened-capacity in
      record {
        sized = opened-sized low;
        reading = omega (arith, opened-reading);
        letters = rw opened-letters refl;
        table = rw opened-letters (covers-shows (roots-cover (rule_of (opened m k b)) opened-roots) (roots-end (rule_of (opened m k b)) opened-roots));
        count-is = cc (opened-count, opened-letters, count-empty (rule_of (opened m k b)));
        length-counts = λ j l h. cc (opened-length-count j l (omega arith), opened-letters, length-count-empty (rule_of (opened m k b)) j);
        longest-is = cc (opened-longest, opened-letters, longest-length-empty (rule_of (opened m k b)));
        ends = opened-ends;
        order = λ i h. opened-order-is i (omega arith);
        rank = λ r l h. opened-rank-is r l (omega arith);
        free-rows = λ r f h u l. free r f h u l (dec_lt r 2);
        root-letters = (opened-root 0 3 (omega arith) (omega arith), opened-root 1 3 (omega arith) (omega arith));
        free-places = λ i l h. rw c (opened-places i (omega arith));
      }
    where
      free : (r f : ℕ) → r < capacity_in (opened m k b) + 2 → used_in (opened m k b) r ≡ false → f < 8 → Dec (r < 2) → cell (opened m k b) r f ≡ 0
      free r f h u l (yes q) = absurd (false-not-true u (used-root (opened m k b) r q))
      free r f h u l (no q) = opened-free r f (omega arith) (omega (arith, opened-capacity)) (omega arith) (λ e. omega arith, λ e. omega arith)
