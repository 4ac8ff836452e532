-- DEFINITIONS. The choices of bases for a text of codes: 02 (xii) "for some choice of bases, made at each place by itself". Nothing here is proved.
use Rattle.std.specs.Prelude.{ℕ}
use mathlib.Core.List.{List, [], ◌∷◌, Memᴰ, map, flat_map}
use Rattle.palindromes.specs.Word.{Word}
use Rattle.ambiguity.specs.Code.{bases_of}

-- b is one of the bases that the code x stands for
abbrev pub BaseOf : ℕ → ℕ → Type 0
BaseOf b x = Memᴰ b (bases_of x)

-- the word u is a choice for the text s: at each place a base that the code there stands for
pub data Choice : Word → Word → Type 0 where
  none : Choice [] []
  at_place : {b x : ℕ} {u s : Word} → BaseOf b x → Choice u s → Choice (b ∷ u) (x ∷ s)

-- all choices of a text: each base of its first code before each choice of the rest
unfoldable pub choices : Word → List Word
choices [] = [] ∷ []
choices (x ∷ s) = flat_map (λ b. map (λ u. b ∷ u) (choices s)) (bases_of x)
