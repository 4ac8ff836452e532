-- `walk::replay::Replay::new` takes the frame and the partners of the store, before whose first letter the row is that of the empty string.
use Rattle.std.proofs.Common.{arith}
use Rattle.walk.proofs.Reading.{holds-first}
use Rattle.walk.proofs.replay.Replay.new.Goals as goal

pub returns-clause-ready : goal.returns-clause-ready
returns-clause-ready c =
    record {
      good = c.requires;
      frames = c.frame_of-frame.ensures;
      letter_partners = c.of_letters.ensures;
      within = omega arith;
      holds = holds-first c.requires;
    }
