-- The cells of a row's edges: they are cells 4 to 7, and each letter has its own. So a write of another cell keeps every edge, and a write of one edge keeps the others.
-- Rests on the tests of numbers and on the four letters, case by case.
use Prim.Native.Nat.{ℕ, ◌≤◌, ◌<◌}
use native.Mathlib.Omega.{arith}
use mathlib.Core.Path.{◌≡◌, refl, sym, ap, ◌∙◌}
use mathlib.Core.Bool.{Bool, true, false, cond}
use lib.Dec.{eqb}
use Rattle.palindromes.specs.Word.{is_letter}
use Rattle.palindromes.proofs.Letters.{letter-cases}
use Rattle.store.specs.Layout.{edge_cell}

-- ---- where they are

edge-range : (c : ℕ) → (4 ≤ edge_cell c) × (edge_cell c < 8)
unfolding edge_cell
edge-range c = of (eqb c 65) (eqb c 67) (eqb c 71)
  where
    of : (s t u : Bool) → (4 ≤ cond s 4 (cond t 5 (cond u 6 7))) × (cond s 4 (cond t 5 (cond u 6 7)) < 8)
    of true t u = omega arith
    of false true u = omega arith
    of false false true = omega arith
    of false false false = omega arith

-- an edge's cell is none of the four cells before
pub edge-low : (c : ℕ) → 4 ≤ edge_cell c
edge-low c = (edge-range c).0

-- and none of those behind
pub edge-high : (c : ℕ) → edge_cell c < 8
edge-high c = (edge-range c).1

-- ---- whose they are

-- the letter of an edge's cell
abbrev edge_letter : ℕ → ℕ
edge_letter f = cond (eqb f 4) 65 (cond (eqb f 5) 67 (cond (eqb f 6) 71 84))

edge-letter : (c : ℕ) → is_letter c ≡ true → edge_letter (edge_cell c) ≡ c
unfolding edge_cell
edge-letter = letter-cases (λ x. edge_letter (edge_cell x) ≡ x) refl refl refl refl

-- two letters with one cell are one letter
pub edge_same : (c d : ℕ) → is_letter c ≡ true → is_letter d ≡ true → edge_cell c ≡ edge_cell d → c ≡ d
edge_same c d p q e = sym (edge-letter c p) ∙ ap edge_letter e ∙ edge-letter d q
