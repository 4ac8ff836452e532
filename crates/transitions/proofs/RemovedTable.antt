-- The rows after an accepted removal: which are used, what they hold, and that the table shows the eertree of the letters that are left. Where the removal takes nothing out, the used rows
-- stay as they were; where it takes a palindrome out, its row, a leaf, is free and zero.
-- Rests on the cells of `RemovedBytes`, on `RemovedOrder` for the rows in use, on `shrink` and `covers-same` of the eertree, and on `node-from`, by which a row spells what it holds.
use Prim.Native.Nat.{ℕ, zero, suc, ◌+◌, ◌-◌, ◌<◌}
use native.Mathlib.Decide.{dec_lt, ℕ_discrete}
use native.Mathlib.Omega.{arith}
use mathlib.Core.Path.{◌≡◌, refl, sym, ap, ◌∙◌, subst, subst₂}
use mathlib.Core.Bool.{Bool, true, false, not, ◌&&◌}
use mathlib.Core.Logic.{◌≢◌, ⊎_elim}
use lib.Dec.{eqb}
use borrow.Author.Tests.{eq-eqb, ne_eqb}
use Rattle.palindromes.specs.Word.{Word, is_letter}
use Rattle.palindromes.specs.Reading.{rule_in}
use Rattle.palindromes.specs.Place.{Stands}
use Rattle.palindromes.specs.End.{End, removed}
use Rattle.palindromes.specs.Node.{spelt}
use Rattle.palindromes.specs.Eertree.{Shows, node_from}
use Rattle.palindromes.proofs.Tests.{false-not-true, decided}
use Rattle.eertree.specs.Covers.{Covers, EdgesEnd}
use Rattle.eertree.proofs.Covers.{covers-renamed, covers-same, covers-shows, edges-end-renamed, edges-end-same}
use Rattle.eertree.proofs.Nodes.{node-from}
use Rattle.eertree.proofs.Shrink.{Dropped, shrink, shrink-edges, leaf-inners, leaf_edges}
use Rattle.store.specs.Layout.{cell, capacity_in, size_in, end_row, edge_cell, length_in, link_in, inner_in, outer_in, edge_in, used_in, letters_in}
use Rattle.store.specs.Good.{rule_of, table_in, node_in, Good}
use Rattle.store.proofs.Edges.{edge-low, edge-high, edge_same}
use Rattle.store.proofs.Sizes.{used-below}
use Rattle.transitions.specs.Removal.{longest_before, takes_out, after_removal}
use Rattle.transitions.proofs.Rows.{covers, edges-end, used-root, outer-letter}
use Rattle.transitions.proofs.AddedSame.{SameRows, covers-rows, edges-end-rows}
use Rattle.transitions.proofs.RemovedWord.{length-left, same_left, one_less}
use Rattle.transitions.proofs.RemovedBytes.{end-holds, gone-high, gone-low, capacity-left, reading-left, row-cleared, edge-cleared, row_kept, letters-are}
use Rattle.transitions.proofs.RemovedOrder.{used-gone, used-kept}

-- the four cells from 4 on are the edges' by the four letters
edge-letter : (i : ℕ) → i < 4 → (d : ℕ) × (is_letter d ≡ true) × (edge_cell d ≡ i + 4)
unfolding is_letter edge_cell
edge-letter zero l = (65, refl, refl)
edge-letter (suc zero) l = (67, refl, refl)
edge-letter (suc (suc zero)) l = (71, refl, refl)
edge-letter (suc (suc (suc zero))) l = (84, refl, refl)
edge-letter (suc (suc (suc (suc i)))) l = absurd (omega arith)

module _ (e : End) {b : Word} (g : Good b) where
  -- ---- what the used rows say

  -- the length, the link, the inner row and the outer letter of a row stay, unless it is the one that goes
  module _ (r : ℕ) (u : used_in b r ≡ true) (n : takes_out e b ≡ true → r ≢ end_row b e) where
    fields-kept : (f : ℕ) → f < 4 → cell (after_removal e b) r f ≡ cell b r f
    fields-kept f l = row_kept e g r f (used-below b r u) (omega arith) λ k. (λ p i. n k (sym p), λ p i. omega (arith, edge-low (outer_in b (end_row b e))))

    lengths-kept : length_in (after_removal e b) r ≡ length_in b r
    unfolding length_in
    lengths-kept = rw (fields-kept 0 (omega arith))

    links-kept : link_in (after_removal e b) r ≡ link_in b r
    unfolding link_in
    links-kept = fields-kept 1 (omega arith)

    inners-kept : inner_in (after_removal e b) r ≡ inner_in b r
    unfolding inner_in
    inners-kept = fields-kept 2 (omega arith)

    outers-kept : outer_in (after_removal e b) r ≡ outer_in b r
    unfolding outer_in
    outers-kept = fields-kept 3 (omega arith)

  -- and its edges but for the one that led to the row that goes
  edges-kept : (r d : ℕ) → used_in b r ≡ true → (takes_out e b ≡ true → inner_in b (end_row b e) ≡ r → edge_cell (outer_in b (end_row b e)) ≡ edge_cell d → ⊥) → edge_in (after_removal e b) r d ≡ edge_in b r d
  unfolding edge_in
  edges-kept r d u n = row_kept e g r (edge_cell d) (used-below b r u) (edge-high d) λ k. (λ p i. omega (arith, edge-low d), n k)

  -- ---- where nothing goes, the rows stay

  same_rows : takes_out e b ≡ false → SameRows (table_in b) (table_in (after_removal e b))
  same_rows k =
      record {
        used-same = λ r. used-kept e g r λ t. stays t;
        length-same = λ r u. lengths-kept r u λ t. stays t;
        link-same = λ r u. links-kept r u λ t. stays t;
        inner-same = λ r u. inners-kept r u λ t. stays t;
        outer_same = λ r u. outers-kept r u λ t. stays t;
        edge_same = λ r d u l. edges-kept r d u λ t. stays t;
      }
    where
      stays : {A : Type 0} → takes_out e b ≡ true → A
      stays t = absurd (false-not-true k t)

  -- ---- where a palindrome goes, its row does

  module _ (k : takes_out e b ≡ true) where
    used-less : (r : ℕ) → used_in (after_removal e b) r ≡ (not (eqb r (end_row b e)) && used_in b r)
    used-less r = go (ℕ_discrete r (end_row b e))
      where
        go : Dec (r ≡ end_row b e) → used_in (after_removal e b) r ≡ (not (eqb r (end_row b e)) && used_in b r)
        go (yes p) = cc (used-gone e g k, eq-eqb r (end_row b e) p)
        go (no p) = cc (used-kept e g r λ t. p, ne_eqb r (end_row b e) p)

    dropped : Dropped (table_in b) (table_in (after_removal e b)) (end_row b e)
    dropped =
        record {
          used-less = used-less;
          length-kept = λ r u n. lengths-kept r u λ t. n;
          link-kept = λ r u n. links-kept r u λ t. n;
          inner-kept = λ r u n. inners-kept r u λ t. n;
          outer-kept = λ r u n. outers-kept r u λ t. n;
          edge-gone = edge-cleared e g k;
          edge_kept = λ r d u n l away. edges-kept r d u λ t p i. away (sym p, edge_same d (outer_in b (end_row b e)) l (outer-letter g (end_row b e) (g.ends e).used (gone-high e g k)) (sym i));
        }

    -- it is left with nothing but zeros, since no edge led from it
    gone-zero : (f : ℕ) → f < 8 → cell (after_removal e b) (end_row b e) f ≡ 0
    unfolding edge_in
    gone-zero f l = go (dec_lt f 4)
      where
        edge : (d : ℕ) → is_letter d ≡ true → cell b (end_row b e) (edge_cell d) ≡ 0
        edge d = leaf_edges (covers g) (one_less e g k) (g.ends e).used (end-holds e g) (edges-end g) d

        go : Dec (f < 4) → cell (after_removal e b) (end_row b e) f ≡ 0
        go (yes m) = row-cleared e g k f m
        go (no m) =
            let d = edge-letter (f - 4) (omega arith) in
            let i : edge_cell d.0 ≡ f = omega (arith, d.2) in
            row_kept e g (end_row b e) f (gone-low e g k) l (λ t. (λ p j. m j, λ p j. leaf-inners (covers g) (one_less e g k) (g.ends e).used (end-holds e g) (end_row b e) (g.ends e).used p))
            ∙ subst (λ (j : ℕ). cell b (end_row b e) j ≡ 0) i (edge d.0 d.1)

  -- ---- the table

  -- the table covers the letters that are left, each row holding what it held
  covers-left : Covers (rule_of b) (removed e (letters_in b)) (table_in (after_removal e b)) (node_in b)
  covers-left =
      ⊎_elim
      (λ k. shrink (covers g) (one_less e g k) (g.ends e).used (end-holds e g) (dropped k))
      (λ k. covers-same (same_left e g k) (covers-rows (same_rows k) (covers g)))
      (decided (takes_out e b))

  edges-left : EdgesEnd (rule_of b) (removed e (letters_in b)) (table_in (after_removal e b)) (node_in b)
  edges-left =
      ⊎_elim
      (λ k. shrink-edges (covers g) (one_less e g k) (g.ends e).used (end-holds e g) (dropped k) (edges-end g))
      (λ k. edges-end-same (rule_of b) (table_in (after_removal e b)) (node_in b) {s = letters_in b} (same_left e g k) (edges-end-rows (rule_of b) (letters_in b) (node_in b) (same_rows k) (edges-end g)))
      (decided (takes_out e b))

  -- a used row that holds a word of what is left stays in use
  pub used-left : (r : ℕ) {w : Word} → used_in b r ≡ true → node_in b r ≡ spelt w → Stands w (removed e (letters_in b)) → used_in (after_removal e b) r ≡ true
  used-left r {w} u h p =
      used-kept e g r (λ k i.
      let same : w ≡ longest_before e b = cc (end-holds e g) in
      (one_less e g k).not-before (rw same at p)) ∙ u

  -- the partner rule is the same
  pub rule-left : rule_of (after_removal e b) ≡ rule_of b
  rule-left = ap rule_in (reading-left e g)

  -- ---- what is free

  -- the outer letters of the roots
  pub roots-left : (outer_in (after_removal e b) 0 ≡ 0) × (outer_in (after_removal e b) 1 ≡ 0)
  roots-left =
      let h = g.root-letters in
      (outers-kept 0 (used-root b 0 (omega arith)) (λ k p. omega (arith, gone-high e g k)) ∙ h.0, outers-kept 1 (used-root b 1 (omega arith)) (λ k p. omega (arith, gone-high e g k)) ∙ h.1)

  -- a free row is the one that went, or was free before
  pub free-left : (r f : ℕ) → r < capacity_in b + 2 → used_in (after_removal e b) r ≡ false → f < 8 → cell (after_removal e b) r f ≡ 0
  free-left r f l u m = go (takes_out e b) refl (ℕ_discrete r (end_row b e))
    where
      old : (takes_out e b ≡ true → r ≢ end_row b e) → cell (after_removal e b) r f ≡ 0
      old n =
          let free : used_in b r ≡ false = sym (used-kept e g r n) ∙ u in
          row_kept e g r f l m (λ k. (λ p i. n k (sym p), λ p i. false-not-true free (rw p at ((covers g).inner-is (end_row b e) (g.ends e).used).0))) ∙ g.free-rows r f l free m

      go : (t : Bool) → takes_out e b ≡ t → Dec (r ≡ end_row b e) → cell (after_removal e b) r f ≡ 0
      go true k (yes p) = rw p (gone-zero k f m)
      go true k (no p) = old λ t. p
      go false k d = old λ t. absurd (false-not-true k t)

module _ (e : End) {b : Word} (g : Good b) (n : 0 < size_in b) where
  -- every row that is used still holds what it held
  pub node-left : (r : ℕ) → used_in (after_removal e b) r ≡ true → node_in (after_removal e b) r ≡ node_in b r
  unfolding node_in
  node-left r u =
      let b' = after_removal e b in
      ap (λ (σ : ℕ → ℕ). node_from σ (inner_in b') (outer_in b') (capacity_in b' + 2) r) (rule-left e g)
      ∙ node-from (covers-left e g) (capacity_in b' + 2) r u (omega (arith, capacity-left e g, length-left e g n, g.sized.letters-fit))

  -- and the table shows the eertree of the letters that are left
  pub table-left : Shows (rule_of (after_removal e b)) (letters_in (after_removal e b)) (table_in (after_removal e b)) (node_in (after_removal e b))
  table-left =
      let b' = after_removal e b in
      subst₂ (λ (σ : ℕ → ℕ) (t : Word). Shows σ t (table_in b') (node_in b')) (sym (rule-left e g)) (sym (letters-are e g n))
      (covers-shows (covers-renamed node-left (covers-left e g)) (edges-end-renamed (rule_of b) (table_in b') (node_in b) (node_in b') node-left (edges-left e g)))
