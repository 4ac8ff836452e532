-- The next free row of a good store, the length of the palindrome that comes in, and the bytes that are left where it is inserted: the writes of the code are those that the definitions name
-- (`added_new`). Rests on the laws of a good store (`Rows` and `AddedWord` of transitions) and on the laws of what is carried (`Carrying` of length_counts).
use Prim.Native.Nat.{ℕ, ◌+◌, ◌*◌, ◌≤◌, ◌<◌}
use native.Mathlib.Decide.{dec_lt}
use native.Mathlib.Omega.{arith}
use mathlib.Core.Path.{◌≡◌, refl, ap, ◌∙◌}
use mathlib.Core.Bool.{cond}
use mathlib.Core.Logic.{◌≢◌}
use lib.Dec.{eqb}
use lib.IntN.{pos}
use lib.ListN.{length, take, drop}
use lib.Seq.{sets}
use mir.Syntax.{w32}
use mir.Val.{to_z, of_z}
use Rattle.palindromes.specs.Word.{Word}
use Rattle.palindromes.specs.End.{End, other, added}
use Rattle.palindromes.specs.Node.{length_of}
use Rattle.store.specs.Layout.{cell_at, cell, capacity_in, size_in, count_in, end_row, longest_length_in, edge_cell, order_in, length_count_in, letters_at, letters_in}
use Rattle.store.specs.Good.{Good}
use Rattle.store.specs.Writes.{writes}
use Rattle.store.specs.declared.rows.Row.{Row}
use Rattle.store.proofs.Signed.{kept}
use Rattle.store.proofs.Edges.{edge-high}
use Rattle.store.proofs.Writes.{Apart, cell_apart, cell-sets}
use Rattle.transitions.specs.Rows.{free_row}
use Rattle.transitions.specs.Addition.{longest_after, row_after, hang_writes, gain_writes, settle_writes, addition_writes, after_addition}
use Rattle.transitions.proofs.Rows.{count_most, row_fits, free-below}
use Rattle.transitions.proofs.AddedWord.{longest-room}
use Rattle.growth.specs.Steps.{FreshIs}
use Rattle.ends.specs.Steps.{end_writes}
use Rattle.length_counts.specs.Steps.{Gained}
use Rattle.length_counts.proofs.Carrying.{gained-count, gained-longest}
use Rattle.insertion.specs.Steps.{row_hung}

-- ---- the next free row

-- its place in the order and the row itself lie within the store
pub place-fits : {b : Word} → Good b → size_in b < capacity_in b → 24 * (count_in b + 2) + 24 ≤ length b
place-fits {b} g h = row_fits g.sized (count_in b + 2) (omega (arith, count_most g))

pub free-fits : {b : Word} → Good b → size_in b < capacity_in b → 24 * free_row b + 24 ≤ length b
free-fits {b} g h = row_fits g.sized (free_row b) (free-below g h)

-- it is the row that stands there
pub free-is : (b : Word) {count r : ℕ} → count ≡ count_in b → r ≡ order_in b count → r ≡ free_row b
unfolding free_row
free-is b e f = f ∙ ap (order_in b) e

-- ---- the length of the palindrome that comes in

-- it is what the row is to say
pub length-new : {b : Word} {e : End} {c : ℕ} {row : Row} → FreshIs b e c row → to_z w32 (of_z w32 row.length) ≡ pos (length (longest_after e c b))
unfolding length_of
length-new f = kept f.row-for.small ∙ f.row-for.length-is

-- ---- the bytes

-- cells of different fields are different, whatever their rows
fields-apart : (r f q g : ℕ) → f < g → g < 12 → cell_at r f ≢ cell_at q g
fields-apart r f q g l h e = go (dec_lt r q) (dec_lt q r)
  where
    go : Dec (r < q) → Dec (q < r) → ⊥
    go (yes i) d = omega arith
    go (no i) (yes j) = omega arith
    go (no i) (no j) = omega arith

module _ (b : Word) (w : Word) (at : ℕ) (row : Row) (r count : ℕ) where
  -- with the letters and the row written, the carried numbers are as before
  carried-kept : (q : ℕ) → 1 ≤ q → 24 * q + 24 ≤ at → cell (writes (sets b at w) (row_hung row r count)) q 10 ≡ cell b q 10
  carried-kept q l h =
      cell_apart (sets b at w) (row_hung row r count) q 10 away
      ∙ cell-sets b at w q 10 (omega arith) h
    where
      apart : (r f : ℕ) → f < 10 → cell_at r f ≢ cell_at q 10
      apart r f i = fields-apart r f q 10 i (omega arith)

      away : Apart (row_hung row r count) q 10
      away =
          let edge = apart row.inner (edge_cell row.outer) (omega (arith, edge-high row.outer)) in
          (apart r 0 (omega arith), (apart r 1 (omega arith), (apart r 2 (omega arith), (apart r 3 (omega arith), (edge, (λ e. omega arith, tt))))))

module _ {b : Word} (g : Good b) (room : size_in b < capacity_in b) (e : End) (c : ℕ) where
  -- what is carried for the length of the palindrome, and the largest length, before it is counted
  carried-before : (row : Row) (r count : ℕ) (w q : Word) → q ≡ writes (sets b (letters_at (capacity_in b)) w) (row_hung row r count)
      → (length_count_in q (length (longest_after e c b)) ≡ length_count_in b (length (longest_after e c b))) × (longest_length_in q ≡ longest_length_in b)
  unfolding length_count_in longest_length_in
  carried-before row r count w q h =
      let k = carried-kept b w (letters_at (capacity_in b)) row r count in
      let l = longest-room g room e c in
      rw h (k (length (longest_after e c b) + 1) (omega arith) (omega arith), k 1 (omega arith) (omega (arith, g.sized.at_least_one)))

  pub added_new : {p q h z : Word} {base n count r x : ℕ} {row : Row} → base ≡ letters_at (capacity_in b) → n ≡ size_in b → count ≡ count_in b → r ≡ free_row b
      → FreshIs b e c row → x ≡ cond (eqb (length (longest_after e c b)) (n + 1)) r (end_row b (other e))
      → p ≡ sets b base (added e c (take n (drop base b))) → q ≡ writes p (row_hung row r count) → Gained q (pos (length (longest_after e c b))) h → z ≡ writes h (end_writes e (n + 1) r x) → z ≡ after_addition e c b
  unfolding after_addition addition_writes hang_writes gain_writes settle_writes row_after letters_in writes
  added_new {q = q} {count = count} {r} {row = row} i j k m f y hp hq hg hz =
      let l = longest-room g room e c in
      let v = longest_after e c b in
      let before = carried-before row r count (added e c (letters_in b)) q (cc) in
      let n = gained-count g l e c f.new refl in
      let o = gained-longest g l e c f.new refl in
      rw f.new (cc (f.row-for.length-is, f.row-for.link-is, f.row-for.inner-is, f.row-for.outer-is, hg (length v) refl, before.0, before.1, n, o))
