-- No refusal has the number 0, which stands for a call that is carried out.
use Rattle.std.proofs.Common.{◌≡◌}
use Rattle.refusal.specs.declared.Refusal.{Refusal}
use Rattle.refusal.specs.declared.Refusal.TheVariants.{Capacity, ShortStore, Damaged, NoLetter, TooManyLetters, Empty, NoSuchPlace}
use Rattle.refusal.specs.declared.Refusal.TheVariants.{EmptyPiece, ShortBuffer, Identifier, SecondHeader, LongText, NoSheet, Inverted}
use Rattle.refusal.specs.Number.{number_of}

pub no-refusal-zero : (r : Refusal) → number_of r ≡ 0 → ⊥
no-refusal-zero Capacity e = cc
no-refusal-zero ShortStore e = cc
no-refusal-zero Damaged e = cc
no-refusal-zero NoLetter e = cc
no-refusal-zero TooManyLetters e = cc
no-refusal-zero Empty e = cc
no-refusal-zero NoSuchPlace e = cc
no-refusal-zero EmptyPiece e = cc
no-refusal-zero ShortBuffer e = cc
no-refusal-zero Identifier e = cc
no-refusal-zero SecondHeader e = cc
no-refusal-zero LongText e = cc
no-refusal-zero NoSheet e = cc
no-refusal-zero Inverted e = cc
