-- What is left of a length modulo 2 ^ 16.
use Rattle.std.proofs.Common.{ap, ◌∙◌, pos}
use Rattle.std.specs.Int.{int_rem_euclid}
use Rattle.store.proofs.Signed.{kept}
use Rattle.row_call.proofs.Asking.{low-bytes}
use Rattle.row_call.proofs.two_bytes.Goals as goal

pub returns : goal.returns
returns c = low-bytes _ _ c.requires (c.rem_euclid.ensures.value ∙ ap (λ z. int_rem_euclid z (pos 65536)) (kept c.requires))
