use Rattle.std.proofs.Common.{◌∙◌, sym}
use Rattle.store.specs.Writes.{writes}
use Rattle.store.proofs.Signed.{kept, stored_is}
use Rattle.store.proofs.rows.put_row.Goals as goal

pub returns : goal.returns
unfolding writes
returns c =
    let s = c.requires.1 in
    cc (c.to_stored.ensures s.number (kept s ∙ s.is) ∙ sym (stored_is s))
