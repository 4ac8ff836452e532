-- What `rows_right` knows once the first r rows are passed: those that are no roots are right, and what they all have of edges and of something said is counted. Assumes nothing.
use Prim.Native.Nat.{ℕ, ◌+◌, ◌*◌, ◌≤◌, ◌<◌}
use native.Mathlib.Numerals.{add-one}
use native.Mathlib.Omega.{arith}
use borrow.Author.Count.{below_more}
use mathlib.Core.Path.{◌≡◌, refl, sym}
use Rattle.palindromes.specs.Word.{Word}
use Rattle.audit_fixed.specs.Counting.{one, count_below}
use Rattle.audit_rows.specs.Rows.{edges_of, edges_below, filled, RowRight}

module _ (b : Word) where
  -- the roots' edges, and no root says anything
  edges-first : edges_below b 2 ≡ edges_of b 0 + edges_of b 1
  unfolding count_below
  edges-first = omega arith

  said-first : count_below (filled b) 2 ≡ 0
  unfolding count_below filled
  said-first = refl

  -- a row more
  edges-next : (r : ℕ) → edges_below b (r + 1) ≡ edges_below b r + edges_of b r
  unfolding count_below
  edges-next r = rw (add-one r) (omega arith)

  said-next : (r : ℕ) → count_below (filled b) (r + 1) ≡ count_below (filled b) r + one (filled b r)
  unfolding count_below
  said-next r = rw (add-one r)

pub record Passed (b carried : Word) (edges said r : ℕ) : Type 0 where
  pub so_far : (j : ℕ) → j < r → 2 ≤ j → RowRight b carried j
  pub edges-is : edges ≡ edges_below b r
  pub edges_few : edges ≤ 4 * r
  pub said-is : said ≡ count_below (filled b) r
  pub said-few : said ≤ r

module _ {b carried : Word} where
  -- the roots
  pub passed-first : (x y : ℕ) → (x ≡ edges_of b 0) × (x ≤ 4) → (y ≡ edges_of b 1) × (y ≤ 4) → Passed b carried (x + y) 0 2
  passed-first x y e f =
      record {
        so_far = λ j l k. absurd (omega arith);
        edges-is = omega (arith, edges-first b);
        edges_few = omega arith;
        said-is = sym (said-first b);
        said-few = omega arith;
      }

  -- a row more
  pub passed-next : {edges said r x y : ℕ} → Passed b carried edges said r → RowRight b carried r → (x ≡ edges_of b r) × (x ≤ 4) → (y ≡ one (filled b r)) × (y ≤ 1)
      → Passed b carried (edges + x) (said + y) (r + 1)
  passed-next {r} p right e f =
      record {
        so_far = below_more (λ (j : ℕ). 2 ≤ j → RowRight b carried j) r p.so_far (λ k. right);
        edges-is = omega (arith, p.edges-is, edges-next b r);
        edges_few = omega (arith, p.edges_few);
        said-is = omega (arith, p.said-is, said-next b r);
        said-few = omega (arith, p.said-few);
      }
