-- How the answer of a test is used: where the code goes on, the proposition holds, and where it stops, it does not. Assumes nothing.
use mathlib.Core.Path.{◌≡◌, sym, ◌∙◌}
use mathlib.Core.Bool.{Bool, true, false, true≢false}
use Rattle.audit_fixed.specs.Decides.{Decides}

-- the code goes on
pub holds : (P : Type 0) (t : Bool) → Decides t P → t ≡ true → P
holds P true d e = d
holds P false d e = absurd (true≢false (sym e))

-- the code stops
pub fails : (P : Type 0) (t : Bool) → Decides t P → t ≡ false → P → ⊥
fails P true d e = absurd (true≢false e)
fails P false d e = d

-- a test of one proposition is a test of another that holds together with it
pub carried : (P Q : Type 0) (t : Bool) → Decides t P → (P → Q) → (Q → P) → Decides t Q
carried P Q true d there back = there d
carried P Q false d there back = λ q. d (back q)

-- the answer of a test decides whether the test passes
pub test-decides : (t : Bool) {x : Bool} → t ≡ x → Decides t (x ≡ true)
test-decides true e = sym e
test-decides false e = λ f. true≢false (sym (e ∙ f))
