-- Where the reading is another the record is made anew.
use Rattle.std.proofs.Common.{◌≢◌, sym, ◌∙◌}
use Rattle.walk.proofs.Stores.{header-fits}
use Rattle.transitions.proofs.Turned.{turned_same, turned-other}
use Rattle.turning.proofs.turn.Goals as goal

pub reading-requires : goal.reading-requires
reading-requires c = header-fits c.requires.sized

pub returns-then-reading-reading_number : goal.returns-then-reading-reading_number
returns-then-reading-reading_number c =
    let other : c.reading.result ≢ c.reading_number.result = c.if-reading-reading_number.true in
    c.remake.ensures ∙ sym (turned-other _ _ (λ e. other (c.reading.ensures.0 ∙ e ∙ sym c.reading_number.ensures)))

pub returns-else-reading-reading_number : goal.returns-else-reading-reading_number
returns-else-reading-reading_number c =
    sym (turned_same _ _ (sym c.reading.ensures.0 ∙ c.if-reading-reading_number.false ∙ c.reading_number.ensures))
