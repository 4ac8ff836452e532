use Rattle.std.proofs.Common.{◌∙◌}
use Rattle.minimal_unique.proofs.Written.{bytes-two, interval-written}
use Rattle.minimal_unique.proofs.put_interval.Goals as goal

pub returns-clause-written : goal.returns-clause-written
returns-clause-written c =
    let r = c.requires in
    interval-written c.args.out.now c.args.at c.args.start c.args.end r.at_in_bounds
    (c.copy_from_slice.ensures.after ∙ bytes-two c.args.start r.start_bound.0 c.to_le_bytes.ensures)
    (c.copy_from_slice-2.ensures.after ∙ bytes-two c.args.end r.start_bound.1 c.to_le_bytes-2.ensures)
