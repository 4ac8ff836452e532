-- The stored length falls from a row to its inner row.
use Rattle.store.specs.Layout.{cell}
use Rattle.spelling.proofs.+spell_at.Given as goal

abbrev pub decreases-spell_at : goal.decreases-spell_at
decreases-spell_at l = cell l.b.now l.r 0
