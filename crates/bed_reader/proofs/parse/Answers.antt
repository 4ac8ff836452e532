-- `bed_reader::parse` meets its contract: what is left to prove, by the places of the first two tabs.
use Rattle.std.proofs.Common.{arith, sym, ◌∙◌}
use Rattle.bed_reader.proofs.Parsing.{no-tab, second-most, one-tab, no_start, no_end, a-line, compared}
use Rattle.bed_reader.proofs.parse.Goals as goal

pub returns-then-n-first : goal.returns-then-n-first
returns-then-n-first c = no-tab _ _ _ c.find_byte-first.ensures c.if-n-first.true

pub overflow_add-second : goal.overflow_add-second
overflow_add-second c =
    omega (arith, second-most _ c.args.identifier.now _ c.find_byte-first.ensures c.if-n-first.false _ c.find_byte.ensures)

pub returns-then-n-second : goal.returns-then-n-second
returns-then-n-second c =
    one-tab _ _ _ c.find_byte-first.ensures c.if-n-first.false _ c.find_byte.ensures c.if-n-second.true

pub returns-in_err-start : goal.returns-in_err-start
returns-in_err-start c =
    c.from_residual.ensures
    ∙ no_start _ _ _ c.find_byte-first.ensures c.if-n-first.false _ c.find_byte.ensures c.if-n-second.false
    (sym c.read_number.ensures ∙ c.in_err-start.was)

pub returns-in_err-end : goal.returns-in_err-end
returns-in_err-end c =
    c.from_residual-in_err-end.ensures
    ∙ no_end _ _ _ c.find_byte-first.ensures c.if-n-first.false _ c.find_byte.ensures c.if-n-second.false
    (sym c.read_number-2.ensures ∙ c.in_err-end.was)

pub returns : goal.returns
returns c =
    a-line _ _ _ c.find_byte-first.ensures c.if-n-first.false _ c.find_byte.ensures c.if-n-second.false
    (sym c.read_number.ensures ∙ c.in_ok-start.was) (sym c.read_number-2.ensures ∙ c.in_ok-end.was)
    (c.eq.ensures ∙ compared _ _)
