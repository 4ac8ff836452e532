-- What a chain of links gives to the code that walks along it: each row on the way lies within the store, and so does the row that the walk meets. Assumes nothing.
use Prim.Native.Nat.{ℕ, ◌+◌, ◌*◌, ◌≤◌, ◌<◌}
use native.Mathlib.Omega.{arith}
use mathlib.Core.Path.{◌≡◌}
use lib.ListN.{length}
use Rattle.std.specs.Prelude.{Option, Some}
use Rattle.palindromes.specs.Word.{Word}
use Rattle.store.specs.Layout.{cell, link_in}
use Rattle.walk.specs.Walk.{Chain, root, further, Meets, letter, nothing, here, onward}

-- the row of a chain lies within the store
pub chain_fits : {b : Word} {r : ℕ} → Chain b r → 24 * r + 24 ≤ length b
chain_fits (root e l) = omega arith
chain_fits (further l f g) = l

-- and if it is not row 0, its link is a row of the chain with a smaller stored length
pub chain_next : {b : Word} {r : ℕ} → Chain b r → (r ≡ 0 → ⊥) → (cell b (link_in b r) 0 < cell b r 0) × Chain b (link_in b r)
chain_next (root e l) n = absurd (n e)
chain_next (further l f g) n = (f, g)

-- so the row that a walk along the chain meets lies within the store
pub meets-fits : {b t : Word} {k d want r n u : ℕ} {o : Option ℕ} → Chain b r → Meets b t k d want r n o → o ≡ Some u → 24 * u + 24 ≤ length b
meets-fits {u} h (letter e w m z) f = let i : u ≡ 0 = cc in omega (arith, chain_fits h)
meets-fits {u} h (nothing e w m z) f = absurd (let i : ◌≡◌ {A = ℕ} 0 1 = cc in omega arith)
meets-fits {u} h (here {r} n g m z) f = let i : u ≡ r = cc in omega (arith, chain_fits h)
meets-fits {u} h (onward n g m e) f = meets-fits (chain_next h n).1 m f
