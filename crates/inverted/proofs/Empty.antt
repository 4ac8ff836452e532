-- An empty record shows the same in both readings: where the cell of the reading alone is changed, to 0 or 1, the store of an empty record stays good. The two roots alone are in use, and what
-- they say does not depend on the partner rule. Rests on the eertree of the empty record (`Start` of transitions) and on the cells that stay (`Told`).
use Prim.Native.Nat.{ℕ, zero, suc, ◌+◌, ◌≤◌, ◌<◌}
use native.Mathlib.Decide.{dec_lt}
use native.Mathlib.Omega.{arith}
use mathlib.Core.Path.{◌≡◌, refl, sym, ap, ◌∙◌}
use mathlib.Core.Bool.{true}
use mathlib.Core.List.{[], ◌∷◌}
use lib.IntN.{pos, pred_ℤ}
use Rattle.palindromes.specs.Word.{Word, is_letter, all_letters, member}
use Rattle.palindromes.specs.Record.{count}
use Rattle.palindromes.specs.End.{End, at_left, at_right, longest_at}
use Rattle.palindromes.specs.Node.{spelt}
use Rattle.palindromes.proofs.Longest.{longest-empty}
use Rattle.palindromes.proofs.Palindromes.{palindromes-empty, count-empty}
use Rattle.palindromes.proofs.Answers.{longest-length-empty}
use Rattle.palindromes.proofs.Lengths.{length-count-empty}
use Rattle.eertree.proofs.Covers.{covers-shows}
use Rattle.eertree.proofs.Nodes.{root-zero, root-one}
use Rattle.eertree.proofs.Rows.{reach_of, link-zero, link-one, inner-zero, inner-one}
use Rattle.store.specs.Layout.{cell, set_cell, capacity_in, size_in, count_in, end_row, end_cell, length_in, link_in, inner_in, outer_in, edge_cell, edge_in, order_in, rank_in, used_in, length_count_in, longest_length_in, letters_at, letters_in}
use Rattle.store.specs.Good.{rule_of, table_in, node_in, Sized, OrderIs, RankIs, EndIs, Good}
use Rattle.store.specs.Writes.{write, writes}
use Rattle.store.proofs.Edges.{edge-high}
use Rattle.store.proofs.Writes.{length-set-cell, get_or-writes}
use Rattle.transitions.specs.Rows.{row_of}
use Rattle.transitions.proofs.Rows.{covers, used-root, used-rank, end_row_lem, length-row, row-of-empty}
use Rattle.transitions.proofs.Start.{Roots, roots-cover, roots-end}
use Rattle.inverted.proofs.Told.{new-reading, same-cell, same-capacity, same-used, same-letters}

module _ {b : Word} (g : Good b) (empty : letters_in b ≡ []) (v : ℕ) (below : v < 2) where
  small : v < 65536
  small = omega arith

  abbrev now : Word
  now = set_cell b 0 11 v

  stays : (r f : ℕ) → f < 11 → cell now r f ≡ cell b r f
  stays = same-cell g v small

  no-letters : letters_in now ≡ []
  no-letters = same-letters g v small ∙ empty

  no-count : count_in now ≡ 0
  unfolding count_in
  no-count = stays 0 10 (omega arith) ∙ g.count-is ∙ ap (count (rule_of b)) empty ∙ count-empty (rule_of b)

  -- ---- the roots

  root-length : (r n : ℕ) → r < 2 → reach_of (node_in b r) ≡ n → cell now r 0 ≡ n
  root-length r n l e = stays r 0 (omega arith) ∙ length-row g r (used-root b r l) ∙ e

  of-roots : (P : ℕ → Type 0) → P 0 → P 1 → (r : ℕ) → r < 2 → P r
  of-roots P z o zero l = z
  of-roots P z o (suc zero) l = o
  of-roots P z o (suc (suc r)) l = absurd (omega arith)

  no_edge : (r c : ℕ) → r < 2 → is_letter c ≡ true → edge_in b r c ≡ 0
  unfolding member
  no_edge r c l h = (g.table.edge-is r c (used-root b r l) h).nowhere (cc (empty, palindromes-empty (rule_of b)))

  roots : Roots (table_in now) (node_in now)
  unfolding node_in length_in link_in inner_in edge_in
  roots =
      record {
        used-zero = used-root now 0 (omega arith);
        used-one = used-root now 1 (omega arith);
        only = λ r u. only r u (dec_lt r 2);
        node-zero = root-zero (rule_of now) (inner_in now) (outer_in now) (capacity_in now + 2);
        node-one = root-one (rule_of now) (inner_in now) (outer_in now) (capacity_in now + 2);
        length-zero = ap (λ (n : ℕ). pred_ℤ (pos n)) (root-length 0 0 (omega arith) (ap reach_of (covers g).row_zero.1));
        length-one = ap (λ (n : ℕ). pred_ℤ (pos n)) (root-length 1 1 (omega arith) (ap reach_of (covers g).row_one.1));
        link = λ r l. stays r 1 (omega arith) ∙ of-roots (λ (r : ℕ). link_in b r ≡ 0) (link-zero (covers g)) (link-one (covers g)) r l;
        inner = λ r l. stays r 2 (omega arith) ∙ of-roots (λ (r : ℕ). inner_in b r ≡ 0) (inner-zero (covers g)) (inner-one (covers g)) r l;
        edge = λ r c l h. stays r (edge_cell c) (omega (arith, edge-high c)) ∙ no_edge r c l h;
      }
    where
      only : (r : ℕ) → used_in now r ≡ true → Dec (r < 2) → r < 2
      only r u (yes h) = h
      only r u (no h) = absurd (omega (arith, used-rank now r (omega arith) u, no-count))

  -- ---- the rest of the store

  sized : Sized now
  unfolding size_in
  sized =
      let c = same-capacity g v small in
      let n = stays 0 9 (omega arith) in
      let l = length-set-cell b 0 11 v in
      let z = g.sized in
      record {
        at_least_one = omega (arith, z.at_least_one);
        at_most = omega (arith, z.at_most);
        long-enough = rw (c, l) z.long-enough;
        letters-fit = omega (arith, z.letters-fit);
      }

  ends : (e : End) → EndIs now e
  unfolding end_row
  ends e =
      let row : end_row now e ≡ 1 = stays 1 (end_cell e) (low e) ∙ end_row_lem g e ∙ ap (λ (s : Word). row_of b (spelt (longest_at (rule_of b) e s))) empty ∙ ap (λ (w : Word). row_of b (spelt w)) (longest-empty (rule_of b) e) ∙ row-of-empty g in
      record {
        used = rw row roots.used-one;
        holds = cc (row, roots.node-one, no-letters, longest-empty (rule_of now) e);
      }
    where
      low : (e : End) → end_cell e < 11
      low at_left = omega arith
      low at_right = omega arith

  order : (i : ℕ) → i < capacity_in now → OrderIs now i
  unfolding order_in rank_in
  order i l =
      let o = g.order i (omega (arith, same-capacity g v small)) in
      let same = stays (i + 2) 8 (omega arith) in
      record {
        low = omega (arith, o.low, same);
        high = omega (arith, o.high, same, same-capacity g v small);
        back = ap (λ (r : ℕ). cell now r 9) same ∙ stays (order_in b i) 9 (omega arith) ∙ o.back;
      }

  rank : (r : ℕ) → 2 ≤ r → r < capacity_in now + 2 → RankIs now r
  unfolding order_in rank_in
  rank r l h =
      let k = g.rank r l (omega (arith, same-capacity g v small)) in
      let same = stays r 9 (omega arith) in
      record {
        high = omega (arith, k.high, same, same-capacity g v small);
        back = ap (λ (i : ℕ). cell now (i + 2) 8) same ∙ stays (rank_in b r + 2) 8 (omega arith) ∙ k.back;
      }

  -- the empty record, in either reading
  pub empty-either : Good (set_cell b 0 11 v)
  unfolding all_letters outer_in length_count_in longest_length_in writes size_in
  empty-either =
      record {
        sized = sized;
        reading = rw (new-reading g v small) below;
        letters = rw no-letters refl;
        table = rw no-letters (covers-shows (roots-cover (rule_of now) roots) (roots-end (rule_of now) roots));
        count-is = cc (no-count, no-letters, count-empty (rule_of now));
        length-counts = λ k l h. cc (stays (k + 1) 10 (omega arith), g.length-counts k l (omega (arith, same-capacity g v small)), empty, no-letters, length-count-empty (rule_of b) k, length-count-empty (rule_of now) k);
        longest-is = cc (stays 1 10 (omega arith), g.longest-is, empty, no-letters, longest-length-empty (rule_of b), longest-length-empty (rule_of now));
        ends = ends;
        order = order;
        rank = rank;
        free-rows = λ r f h u l. stays r f (omega arith) ∙ g.free-rows r f (omega (arith, same-capacity g v small)) (sym (same-used g v small r) ∙ u) l;
        root-letters = (stays 0 3 (omega arith) ∙ g.root-letters.0, stays 1 3 (omega arith) ∙ g.root-letters.1);
        free-places = λ i l h.
            let c = same-capacity g v small in
            rw c (get_or-writes b (write 0 11 v ∷ []) 1 (letters_at (capacity_in b) + i) (omega arith, omega arith, tt) (omega arith) ∙ g.free-places i (omega (arith, stays 0 9 (omega arith))) (omega arith));
      }
