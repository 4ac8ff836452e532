use Rattle.std.proofs.Common.{◌-◌, length}
use Rattle.store.specs.Layout.{size_in}
use Rattle.frequencies.proofs.Handing.{Adding}
use Rattle.frequencies.proofs.add_along_links.Given as goal

abbrev pub invariant-loop-first : goal.invariant-loop-first
invariant-loop-first l = Adding l.b (size_in l.b - length l.yielded) l.counts l.total
