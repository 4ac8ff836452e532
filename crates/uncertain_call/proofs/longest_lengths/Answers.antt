-- A text over the limit, one with a byte that is no code, and one of codes alone.
use Rattle.std.proofs.Common.{sym, ◌∙◌, arith}
use Rattle.uncertain_call.proofs.Answering.{refused_over, refused-code, lengths-told, part-within, sets-length}
use Rattle.uncertain_call.proofs.longest_lengths.Goals as goal

pub returns-then-n-gt1024 : goal.returns-then-n-gt1024
returns-then-n-gt1024 c = refused_over _ _ c.if-n-gt1024.true c.refuse.ensures

pub returns-then-not-read_sets : goal.returns-then-not-read_sets
returns-then-not-read_sets c =
    refused-code _ _ c.if-n-gt1024.false (sym c.read_sets.ensures.codes ∙ c.if-not-read_sets.true) c.refuse-then-not-read_sets.ensures

pub longest-found-requires : goal.longest-found-requires
longest-found-requires c =
    let codes = sym c.read_sets.ensures.codes ∙ c.if-not-read_sets.false in
    let read = c.read_sets.ensures.sets c.if-not-read_sets.false in
    let within = part-within _ c.if-n-gt1024.false codes _ _ read in
    let same = sets-length _ c.if-n-gt1024.false codes _ _ read in (within, omega arith)

pub returns : goal.returns
returns c =
    let codes = sym c.read_sets.ensures.codes ∙ c.if-not-read_sets.false in
    lengths-told _ c.if-n-gt1024.false codes _ _ (c.read_sets.ensures.sets c.if-not-read_sets.false) _ c.longest-found.ensures _ c.pack.ensures
