-- The frame laws of the store: what a cell holds after a run of writes, and that every other cell, the bytes behind the written rows and the cells before a written
-- part stay as they were. `look` goes through the writes as the machine did, so that over a list that is written out each read after the writes computes.
-- Rests on the library's laws of `set` and on the laws of a written part.
use Prim.Native.Nat.{ℕ, ◌+◌, ◌*◌, ◌%◌, ◌/◌, ◌≤◌, ◌<◌}
use native.Mathlib.Nat.{add-zero}
use native.Mathlib.Omega.{arith}
use mathlib.Core.Path.{◌≡◌, refl, sym, ap, ◌∙◌}
use mathlib.Core.Logic.{◌≢◌}
use mathlib.Core.Bool.{Bool, true, false, cond, ◌&&◌}
use mathlib.Core.List.{List, [], ◌∷◌, ◌++◌}
use lib.Dec.{eqb}
use lib.ListN.{length, get_or, set, drop, length-set}
use lib.Seq.{sets, get_or-set_same, get_or-set_other, get_or-drop, drop-set-lt}
use borrow.Author.Tests.{eqb-true, eqb-false}
use Rattle.palindromes.specs.Word.{Word}
use Rattle.store.specs.Layout.{cell_at, cell, set_cell}
use Rattle.store.specs.Writes.{Write, writes}
use Rattle.store.proofs.Parts.{sets-outside}

-- ---- one write

-- a cell that is written holds what was written
written : (b : Word) (r f v : ℕ) → 24 * r + 24 ≤ length b → f < 12 → v < 65536 → cell (set_cell b r f v) r f ≡ v
unfolding cell set_cell
written b r f v long inside small =
    let at = cell_at r f in
    let low = set b at (v % 256) in
    let first : get_or (set low (at + 1) (v / 256 % 256)) at 0 ≡ v % 256 =
    get_or-set_other low (at + 1) at (v / 256 % 256) 0 (omega arith) ∙ get_or-set_same b at (v % 256) 0 (omega arith) in
    let second : get_or (set low (at + 1) (v / 256 % 256)) (at + 1) 0 ≡ v / 256 % 256 =
    get_or-set_same low (at + 1) (v / 256 % 256) 0 (rw length-set (omega arith)) in
    omega arith

-- a cell elsewhere stays
kept : (b : Word) (r f v q g : ℕ) → cell_at r f ≢ cell_at q g → cell (set_cell b r f v) q g ≡ cell b q g
unfolding cell set_cell
kept b r f v q g apart =
    let at = cell_at r f in
    let low = set b at (v % 256) in
    let there = cell_at q g in
    let first : get_or (set low (at + 1) (v / 256 % 256)) there 0 ≡ get_or b there 0 =
    get_or-set_other low (at + 1) there (v / 256 % 256) 0 (omega arith) ∙ get_or-set_other b at there (v % 256) 0 (omega arith) in
    let second : get_or (set low (at + 1) (v / 256 % 256)) (there + 1) 0 ≡ get_or b (there + 1) 0 =
    get_or-set_other low (at + 1) (there + 1) (v / 256 % 256) 0 (omega arith) ∙ get_or-set_other b at (there + 1) (v % 256) 0 (omega arith) in
    omega arith

-- so a read after a write is decided by the cell's numbers alone
pub cell_set : (b : Word) (r f v : ℕ) → 24 * r + 24 ≤ length b → f < 12 → v < 65536
    → (q g : ℕ) → g < 12 → cell (set_cell b r f v) q g ≡ cond (eqb f g && eqb r q) v (cell b q g)
cell_set b r f v long inside small q g within = by-test (eqb f g) (eqb r q) refl refl
  where
    by-test : (s t : Bool) → eqb f g ≡ s → eqb r q ≡ t → cell (set_cell b r f v) q g ≡ cond (s && t) v (cell b q g)
    by-test true true e d = rw (← eqb-true f g e, ← eqb-true r q d) (written b r f v long inside small)
    by-test true false e d =
        let n = eqb-false r q d in
        kept b r f v q g (omega arith)
    by-test false true e d =
        let n = eqb-false f g e in
        let row = eqb-true r q d in
        kept b r f v q g (omega arith)
    by-test false false e d =
        let n = eqb-false r q d in
        kept b r f v q g (omega arith)

pub length-set-cell : (b : Word) (r f v : ℕ) → length (set_cell b r f v) ≡ length b
unfolding set_cell
length-set-cell b r f v = simp length-set

-- ---- a run of writes

-- every write is to a cell of the store, and puts down what a cell can hold
abbrev pub Fitting : Word → List Write → Type 0
Fitting b [] = Unit {0}
Fitting b (w ∷ ws) = (24 * w.row + 24 ≤ length b) × (w.field < 12) × (w.value < 65536) × Fitting b ws

-- what a cell that held v holds after the writes
abbrev pub look : List Write → (r f v : ℕ) → ℕ
look [] r f v = v
look (w ∷ ws) r f v = look ws r f (cond (eqb w.field f && eqb w.row r) w.value v)

-- writes fit by the store's length alone
pub fitting-kept : (b d : Word) (ws : List Write) → length b ≡ length d → Fitting b ws → Fitting d ws
fitting-kept b d [] e h = tt
fitting-kept b d (w ∷ ws) e h = (omega arith, h.1, h.2, fitting-kept b d ws e h.3)

-- every cell after a run of writes
pub cell-writes : (b : Word) (ws : List Write) → Fitting b ws → (r f : ℕ) → f < 12 → cell (writes b ws) r f ≡ look ws r f (cell b r f)
unfolding writes
cell-writes b [] h r f inside = refl
cell-writes b (w ∷ ws) h r f inside =
    cell-writes (set_cell b w.row w.field w.value) ws
    (fitting-kept b (set_cell b w.row w.field w.value) ws (sym (length-set-cell b w.row w.field w.value)) h.3) r f inside
    ∙ ap (look ws r f) (cell_set b w.row w.field w.value h.0 h.1 h.2 r f inside)

-- every write of a run is to another cell
abbrev pub Apart : List Write → (r f : ℕ) → Type 0
Apart [] r f = Unit {0}
Apart (w ∷ ws) r f = (cell_at w.row w.field ≢ cell_at r f) × Apart ws r f

-- so the cell stays
pub cell_apart : (b : Word) (ws : List Write) (r f : ℕ) → Apart ws r f → cell (writes b ws) r f ≡ cell b r f
unfolding writes
cell_apart b [] r f h = refl
cell_apart b (w ∷ ws) r f h = cell_apart (set_cell b w.row w.field w.value) ws r f h.1 ∙ kept b w.row w.field w.value r f h.0

-- writes keep the store's length
pub length-writes : (b : Word) (ws : List Write) → length (writes b ws) ≡ length b
unfolding writes
length-writes b [] = refl
length-writes b (w ∷ ws) = length-writes (set_cell b w.row w.field w.value) ws ∙ length-set-cell b w.row w.field w.value

-- two runs are one
pub writes-append : (b : Word) (ws vs : List Write) → writes b (ws ++ vs) ≡ writes (writes b ws) vs
unfolding writes
writes-append b [] vs = refl
writes-append b (w ∷ ws) vs = writes-append (set_cell b w.row w.field w.value) ws vs

-- ---- the bytes behind the rows

-- every write is to the first k rows
abbrev pub RowsBelow : ℕ → List Write → Type 0
RowsBelow k [] = Unit {0}
RowsBelow k (w ∷ ws) = (w.row < k) × (w.field < 12) × RowsBelow k ws

-- so what stands from there on, the letters among it, stays
pub drop-writes : (b : Word) (ws : List Write) (k i : ℕ) → RowsBelow k ws → 24 * k ≤ i → drop i (writes b ws) ≡ drop i b
unfolding writes set_cell
drop-writes b [] k i h far = refl
drop-writes b (w ∷ ws) k i h far =
    let at = cell_at w.row w.field in
    drop-writes (set_cell b w.row w.field w.value) ws k i h.2 far
    ∙ drop-set-lt i (set b at (w.value % 256)) (at + 1) (w.value / 256 % 256) (omega arith)
    ∙ drop-set-lt i b at (w.value % 256) (omega arith)

pub get_or-writes : (b : Word) (ws : List Write) (k i : ℕ) → RowsBelow k ws → 24 * k ≤ i → get_or (writes b ws) i 0 ≡ get_or b i 0
get_or-writes b ws k i h far = cc (get_or-drop i b 0 0, get_or-drop i (writes b ws) 0 0, add-zero i, drop-writes b ws k i h far)

-- ---- the rows before a written part

-- a cell before the part stays
pub cell-sets : (b : Word) (at : ℕ) (w : Word) (r f : ℕ) → f < 12 → 24 * r + 24 ≤ at → cell (sets b at w) r f ≡ cell b r f
unfolding cell
cell-sets b at w r f inside before =
    let there = cell_at r f in
    let first = sets-outside b at w there (omega arith) in
    let second = sets-outside b at w (there + 1) (omega arith) in
    omega arith

-- ---- what a cell can hold
