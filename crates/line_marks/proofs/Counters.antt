-- Which counter goes up, by the case that a line's mark is. Assumes nothing.
use Prim.Native.Nat.{◌+◌}
use mathlib.Core.Path.{◌≡◌, refl}
use Rattle.palindromes.specs.Marks.{Mark, right, repeated, wrong}
use Rattle.line_marks.specs.declared.LineMark.TheVariants.{Right, Repeated, Wrong}
use Rattle.line_marks.specs.declared.SoFar.{SoFar}
use Rattle.line_marks.specs.LineMarks.{line_mark_of, with_mark}

pub goes-right : (t : SoFar) (m : Mark) → Right ≡ line_mark_of m
    → ◌≡◌ {A = SoFar} (record { right = t.right + 1; repeated = t.repeated; wrong = t.wrong }) (with_mark m t)
unfolding with_mark line_mark_of
goes-right t right e = refl
goes-right t repeated e = cc
goes-right t wrong e = cc

pub goes-repeated : (t : SoFar) (m : Mark) → Repeated ≡ line_mark_of m
    → ◌≡◌ {A = SoFar} (record { right = t.right; repeated = t.repeated + 1; wrong = t.wrong }) (with_mark m t)
unfolding with_mark line_mark_of
goes-repeated t right e = cc
goes-repeated t repeated e = refl
goes-repeated t wrong e = cc

pub goes-wrong : (t : SoFar) (m : Mark) → Wrong ≡ line_mark_of m
    → ◌≡◌ {A = SoFar} (record { right = t.right; repeated = t.repeated; wrong = t.wrong + 1 }) (with_mark m t)
unfolding with_mark line_mark_of
goes-wrong t right e = cc
goes-wrong t repeated e = cc
goes-wrong t wrong e = refl
