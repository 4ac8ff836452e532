-- What both changes share: what comes in and goes out, and the fields of an accepted reply.
use Prim.Native.Nat.{ℕ}
use mathlib.Core.Path.{◌≡◌, sym, ap, ◌∙◌}
use mathlib.Core.Bool.{Bool, false, cond, not}
use mathlib.Core.List.{[]}
use borrow.Author.Tests.{not-true, not-false}
use Rattle.palindromes.specs.Word.{Word}
use Rattle.palindromes.specs.Reading.{rule_in}
use Rattle.palindromes.specs.Place.{stands}
use Rattle.palindromes.specs.End.{new_in}
use Rattle.palindromes.proofs.Tests.{false-not-true}
use Rattle.palindromes.proofs.Places.{stands-true, stands-is}
use Rattle.palindromes.proofs.Palindromes.{fresh, fresh-old, fresh-new}
use Rattle.outcome.specs.Reply.{Reply, accepted}
use Rattle.traces.specs.Claims.{Moved}

-- a change that brings in v, or nothing where v stood
pub moved : (m : ℕ) (s t v : Word) (flag : Bool) → flag ≡ not (stands v s) → new_in (rule_in m) s t ≡ fresh v s → new_in (rule_in m) t s ≡ [] → Moved m s t v flag
moved m s t v flag e f g =
    record {
      one = λ h. f ∙ fresh-new v s (λ p. false-not-true (not-true (stands v s) (sym e ∙ h)) (stands-is v s p));
      none = λ h. f ∙ fresh-old v s (stands-true v s (not-false (stands v s) (sym e ∙ h)));
      back = g;
    }

-- the fields of an accepted reply
pub number-zero : {r : Reply} (t : Bool) (m n : ℕ) → r ≡ accepted t m n 0 → r.number ≡ 0
unfolding accepted
number-zero t m n e = ap (λ (x : Reply). x.number) e

pub zero-first : (t : Bool) (m n : ℕ) {r : Reply} → r ≡ accepted t (cond t m 0) n 0 → r.flag ≡ false → r.row ≡ 0
unfolding accepted
zero-first t m n e f =
    let off : t ≡ false = sym (ap (λ (x : Reply). x.flag) e) ∙ f in
    ap (λ (x : Reply). x.row) e ∙ ap (λ (x : Bool). cond x m 0) off
