-- A palindrome that is new takes a row that was free.
use Rattle.std.proofs.Common.{ap₂}
use Rattle.transitions.proofs.Rows.{free-row}
use Rattle.outcome.specs.declared.answers.Added.TheVariants.{New}
use Rattle.addition.proofs.add.Goals as goal

pub returns-in-Fresh : goal.returns-in-Fresh
returns-in-Fresh c =
    record {
      store = c.insert.ensures.0;
      answer = rw c.in-Fresh.ensures.0.new (ap₂ New c.insert.ensures.1 c.in-Fresh.ensures.1);
      free = λ t. free-row c.requires.good c.requires.b_bound;
    }
