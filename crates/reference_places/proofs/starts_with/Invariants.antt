use Rattle.std.proofs.Common.{◌≡◌, drop}
use Rattle.palindromes.specs.Place.{starts_with}
use Rattle.reference_places.proofs.starts_with.Given as goal

-- whether the piece stands there is decided by what is left of both
abbrev pub invariant-loop-i : goal.invariant-loop-i
invariant-loop-i l = starts_with l.p (drop l.at l.s) ≡ starts_with (drop l.i l.p) (drop l.i l.rest)
