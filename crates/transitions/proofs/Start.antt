-- The eertree of the empty record: a table in which the two roots alone are in use, and lead nowhere, covers it and shows it. For no word but the empty one stands in the
-- empty record. Rests on `Covers`.
use Prim.Native.Nat.{ℕ, zero, suc, ◌<◌}
use native.Mathlib.Omega.{arith}
use mathlib.Core.Path.{◌≡◌, refl}
use mathlib.Core.Bool.{true}
use mathlib.Core.List.{[]}
use lib.IntN.{pos, negsuc}
use Rattle.palindromes.specs.Word.{is_letter}
use Rattle.palindromes.specs.Node.{Node, imaginary, spelt, length_of, link_of, inner_of, around}
use Rattle.palindromes.specs.Eertree.{Table}
use Rattle.palindromes.proofs.Words.{stands-of-empty}
use Rattle.palindromes.proofs.Mirror.{mirror-empty}
use Rattle.palindromes.proofs.Places.{stands-empty}
use Rattle.eertree.specs.Covers.{NodeOf, Covers, EdgesEnd}
use Rattle.eertree.proofs.Covers.{around-not-empty}

-- the roots alone are in use, and lead nowhere
pub record Roots (T : Table) (node : ℕ → Node) : Type 0 where
  pub used-zero : T.used 0 ≡ true
  pub used-one : T.used 1 ≡ true
  pub only : (r : ℕ) → T.used r ≡ true → r < 2
  pub node-zero : node 0 ≡ imaginary
  pub node-one : node 1 ≡ spelt []
  pub length-zero : T.length 0 ≡ negsuc 0
  pub length-one : T.length 1 ≡ pos 0
  pub link : (r : ℕ) → r < 2 → T.link r ≡ 0
  pub inner : (r : ℕ) → r < 2 → T.inner r ≡ 0
  pub edge : (r c : ℕ) → r < 2 → is_letter c ≡ true → T.edge r c ≡ 0

-- what holds of both roots holds of every used row
module _ {T : Table} {node : ℕ → Node} (h : Roots T node) where
  both-roots : (P : ℕ → Type 0) → P 0 → P 1 → (r : ℕ) → T.used r ≡ true → P r
  both-roots P z o zero u = z
  both-roots P z o (suc zero) u = o
  both-roots P z o (suc (suc r)) u = absurd (omega (arith, h.only (suc (suc r)) u))

module _ (σ : ℕ → ℕ) where
  -- no word around a node is a node of the empty record
  none-around : (c : ℕ) (v : Node) → NodeOf σ [] (spelt (around σ c v)) → ⊥
  none-around c v n = around-not-empty σ c v (stands-of-empty n.1)

  module _ {T : Table} {node : ℕ → Node} (h : Roots T node) where
    -- such a table covers the empty record
    pub roots-cover : Covers σ [] T node
    unfolding length_of link_of inner_of
    roots-cover =
        record {
          row_zero = (h.used-zero, h.node-zero);
          row_one = (h.used-one, h.node-one);
          each_row = both-roots h (λ r. NodeOf σ [] (node r)) (rw h.node-zero tt) (rw h.node-one (mirror-empty σ, stands-empty []));
          each_word = λ w m p. (1, h.used-one, cc (h.node-one, stands-of-empty p));
          one-row = λ r q u v e. both-roots h (λ r. (node r ≡ node q → r ≡ q)) (zero_row q v) (one-row q v) r u e;
          length-is = both-roots h (λ r. T.length r ≡ length_of (node r)) (cc (h.length-zero, h.node-zero)) (cc (h.length-one, h.node-one));
          link-is = λ r u. to-zero (h.link r (h.only r u)) (both-roots h (λ r. link_of σ (node r) ≡ imaginary) (cc h.node-zero) (cc h.node-one) r u);
          inner-is = λ r u. to-zero (h.inner r (h.only r u)) (both-roots h (λ r. inner_of (node r) ≡ imaginary) (cc h.node-zero) (cc h.node-one) r u);
          outer-is = λ r u b. absurd (omega (arith, h.only r u));
          edge-there = λ r c u l n. absurd (none-around c (node r) n);
        }
      where
        to-zero : {i : ℕ} {v : Node} → i ≡ 0 → v ≡ imaginary → (T.used i ≡ true) × (node i ≡ v)
        to-zero e f = (cc h.used-zero, cc h.node-zero)

        zero_row : (q : ℕ) → T.used q ≡ true → node 0 ≡ node q → 0 ≡ q
        zero_row = both-roots h (λ q. (node 0 ≡ node q → 0 ≡ q)) (λ e. refl) (λ e. cc (h.node-zero, h.node-one))

        one-row : (q : ℕ) → T.used q ≡ true → node 1 ≡ node q → 1 ≡ q
        one-row = both-roots h (λ q. (node 1 ≡ node q → 1 ≡ q)) (λ e. cc (h.node-zero, h.node-one)) (λ e. refl)

    -- and no edge leads to a word that does not stand
    pub roots-end : EdgesEnd σ [] T node
    roots-end r c u l n = h.edge r c (h.only r u) l
