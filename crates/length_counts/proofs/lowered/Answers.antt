-- What is left of the lengths is told by how many palindromes are as long as the one that goes, or one letter shorter.
use Rattle.std.proofs.Common.{◌-◌, sym, ◌∙◌, arith}
use Rattle.std.proofs.lemmas.Bool.{ltb-true, ltb-false}
use Rattle.walk.proofs.Stores.{header-fits}
use Rattle.length_counts.proofs.Carrying.{count_fits, counted-room, longer-left, equals-left, Alone, none_left, one-less-left, two-less-left}
use Rattle.length_counts.proofs.lowered.Goals as goal
use Rattle.length_counts.proofs.lowered.Goals.{then-k-longest, else-k-longest, Else-count_of_length-gt1}

-- where neither test holds no other is as long
alone : (c : Else-count_of_length-gt1) → Alone c.args.b.now c.args.k
alone c =
    elim c.if-k-longest.branch [
      | then-k-longest w ↦ absurd (omega (arith, ltb-false c.args.k c.longest-longest.result (sym w.value-is ∙ c.if-count_of_length-gt1.false)))
      | else-k-longest w ↦ record {
        room = counted-room c.requires.good c.args.k c.requires.nonzero;
        longest = omega (arith, w.if-k-longest.false, c.longest-longest.ensures.0);
        one = omega (arith, ltb-false 1 w.count_of_length.result (sym w.value-is ∙ c.if-count_of_length-gt1.false), w.count_of_length.ensures.0);
      }
    ]

pub longest-longest-requires : goal.longest-longest-requires
longest-longest-requires c = header-fits c.requires.good.sized

pub count_of_length-requires : goal.count_of_length-requires
count_of_length-requires c = count_fits c.requires.good c.args.k (counted-room c.requires.good c.args.k c.requires.nonzero)

pub count_of_length-requires-else-k-lt2 : goal.count_of_length-requires-else-k-lt2
count_of_length-requires-else-k-lt2 c = count_fits c.requires.good (c.args.k - 1) (omega (arith, counted-room c.requires.good c.args.k c.requires.nonzero))

pub returns-then-count_of_length-gt1 : goal.returns-then-count_of_length-gt1
returns-then-count_of_length-gt1 c =
    elim c.if-k-longest.branch [
      | then-k-longest w ↦ longer-left c.requires.good c.longest-longest.ensures.0 w.if-k-longest.true
      | else-k-longest w ↦
          equals-left c.requires.good c.longest-longest.ensures.0 w.if-k-longest.false (counted-room c.requires.good c.args.k c.requires.nonzero)
          (omega (arith, ltb-true 1 w.count_of_length.result (sym w.value-is ∙ c.if-count_of_length-gt1.true), w.count_of_length.ensures.0))
    ]

pub returns-then-k-lt2 : goal.returns-then-k-lt2
returns-then-k-lt2 c = none_left c.requires.good (alone (goal.at.returns-then-k-lt2 c).Else-count_of_length-gt1) c.if-k-lt2.true

pub returns-then-count_of_length-gt0 : goal.returns-then-count_of_length-gt0
returns-then-count_of_length-gt0 c =
    one-less-left c.requires.good (alone (goal.at.returns-then-count_of_length-gt0 c).Else-count_of_length-gt1) c.if-k-lt2.false
    (omega (arith, c.if-count_of_length-gt0.true, c.count_of_length-else-k-lt2.ensures.0))

pub returns-else-count_of_length-gt0 : goal.returns-else-count_of_length-gt0
returns-else-count_of_length-gt0 c =
    two-less-left c.requires.good (alone (goal.at.returns-else-count_of_length-gt0 c).Else-count_of_length-gt1) c.if-k-lt2.false
    (omega (arith, c.if-count_of_length-gt0.false, c.count_of_length-else-k-lt2.ensures.0))
