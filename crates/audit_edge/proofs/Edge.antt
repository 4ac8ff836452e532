-- The row that an edge leads to, in a good store. Rests on the laws of a good store.
use Prim.Native.Nat.{ℕ}
use mathlib.Core.Path.{◌≡◌}
use mathlib.Core.Bool.{true}
use Rattle.palindromes.specs.Word.{Word}
use Rattle.palindromes.specs.Node.{spelt, around}
use Rattle.palindromes.proofs.Growth.{around-injective}
use Rattle.eertree.proofs.Covers.{around-not-empty}
use Rattle.eertree.proofs.Rows.{row-high}
use Rattle.store.specs.Layout.{inner_in, outer_in, used_in}
use Rattle.store.specs.Good.{rule_of, node_in, Good}
use Rattle.store.proofs.Sizes.{used-below}
use Rattle.transitions.proofs.Rows.{covers}
use Rattle.audit_edge.specs.Edge.{PointsBack}

-- the row of the word around another row names that row and the letter
pub good-names : {b : Word} → Good b → (u d q : ℕ) → used_in b u ≡ true → used_in b q ≡ true → node_in b q ≡ spelt (around (rule_of b) d (node_in b u)) → PointsBack b u d q
good-names {b} g u d q v m e =
    let l = row-high (covers g) q e (around-not-empty (rule_of b) d (node_in b u)) in
    let i : around (rule_of b) (outer_in b q) (node_in b (inner_in b q)) ≡ around (rule_of b) d (node_in b u) = cc ((covers g).outer-is q m l, e) in
    let j = around-injective (rule_of b) (outer_in b q) d (node_in b (inner_in b q)) (node_in b u) i in
    record { low = l; high = used-below b q m; inner = g.table.one-row (inner_in b q) u ((covers g).inner-is q m).0 v j.1; outer = j.0 }
