-- What the contract of src/lib.rt says of the answer: it is that of the last letter.
use Rattle.std.specs.Prelude.{ℕ, ◌≡◌, [], ◌∷◌, ◌++◌}
use Rattle.palindromes.specs.Word.{Word}
use Rattle.palindromes.specs.End.{End}
use Rattle.walk.specs.Replay.{steps_towards}
use Rattle.transitions.specs.Rows.{free_row}
use Rattle.transitions.specs.Addition.{brings_in}
use Rattle.transitions.specs.Turning.{after_additions}
use Rattle.outcome.specs.Answers.{added_of}
use Rattle.outcome.specs.declared.answers.Added.{Added}

-- what the letter c brings to the store, and what its search passes
abbrev pub bringing : End → ℕ → Word → Added
bringing e c b = added_of (brings_in e c b) (free_row b) (steps_towards b e c)

-- the same, of a letter that is added after those of u
abbrev pub brought : End → Word → ℕ → Word → Added
brought e u c b = bringing e c (after_additions e u b)

-- the answer is what the last of the letters brings, if there are any
abbrev pub LastBrings : End → (letters store : Word) → Added → Type 0
LastBrings e w b a = (u : Word) (c : ℕ) → w ≡ u ++ (c ∷ []) → a ≡ brought e u c b
