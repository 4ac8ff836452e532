-- Runs of writes, one after the other: what a cell holds after both, and that both fit a store and keep to its first rows if each does. So the writes of a call can be looked through
-- part by part. Assumes nothing.
use Prim.Native.Nat.{ℕ}
use mathlib.Core.Path.{◌≡◌, refl}
use mathlib.Core.Bool.{cond, ◌&&◌}
use mathlib.Core.List.{List, [], ◌∷◌, ◌++◌}
use lib.Dec.{eqb}
use Rattle.palindromes.specs.Word.{Word}
use Rattle.store.specs.Writes.{Write}
use Rattle.store.proofs.Writes.{Fitting, look, RowsBelow}

-- a cell after both runs holds what the second leaves of what the first left
pub look-append : (ws vs : List Write) (r f v : ℕ) → look (ws ++ vs) r f v ≡ look vs r f (look ws r f v)
look-append [] vs r f v = refl
look-append (w ∷ ws) vs r f v = look-append ws vs r f (cond (eqb w.field f && eqb w.row r) w.value v)

-- both fit a store if each does
pub fitting-append : (b : Word) (ws vs : List Write) → Fitting b ws → Fitting b vs → Fitting b (ws ++ vs)
fitting-append b [] vs h k = k
fitting-append b (w ∷ ws) vs h k = (h.0, h.1, h.2, fitting-append b ws vs h.3 k)

-- and both are to the first n rows if each is
pub below-append : (n : ℕ) (ws vs : List Write) → RowsBelow n ws → RowsBelow n vs → RowsBelow n (ws ++ vs)
below-append n [] vs h k = k
below-append n (w ∷ ws) vs h k = (h.0, h.1, below-append n ws vs h.2 k)
