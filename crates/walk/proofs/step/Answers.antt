use Rattle.std.proofs.Common.{ℕ, ◌≡◌, refl, subst}
use Rattle.std.specs.Prelude.{Option, Some, None}
use Rattle.palindromes.specs.Word.{Word}
use Rattle.store.specs.Layout.{edge_in}
use Rattle.walk.specs.Walk.{Meets, Stepped, grown, ended}
use Rattle.walk.proofs.Chains.{meets-fits}
use Rattle.walk.proofs.step.Goals as goal

module _ {b t : Word} {k d want start n : ℕ} {o : Option ℕ} (m : Meets b t k d want start n o) where
  -- the walk met row u, and q is at its edge by d
  edge-taken : (u : ℕ) → o ≡ Some u → (q : ℕ) → q ≡ edge_in b u d → Stepped b t k d want start q
  edge-taken u e q f = grown u n (subst (Meets b t k d want start n) e m) f

  -- it met none
  none-met : o ≡ None → Stepped b t k d want start 1
  none-met e = ended n (subst (Meets b t k d want start n) e m) refl

pub edge_of-requires : goal.edge_of-requires
edge_of-requires c = meets-fits c.requires.chain c.walk-search.ensures c.in-Some.is

pub returns-in-Some : goal.returns-in-Some
returns-in-Some c = edge-taken c.walk-search.ensures c.in-Some.u c.in-Some.is c.edge_of.result c.edge_of.ensures.0

pub returns-in-None : goal.returns-in-None
returns-in-None c = none-met c.walk-search.ensures c.in-None.is
