-- DEFINITIONS. Plain records with their fewest pieces: 02 (xiv) "ACGAAG gives 3 pieces, ending at 1, 2 and 6", "an empty record has 0 pieces", and
-- records that can be cut into as few in more than one way, which the last piece that differs decides. Then calls that are refused, by the reading, the
-- room and the letters. Nothing here is proved.
use Rattle.std.specs.Prelude.{ℕ, true, List, [], ◌∷◌}
use Rattle.std.proofs.Math.Option.{none}
use Rattle.palindromes.specs.Word.{Word}
use Rattle.palindromes.specs.Refusal.{View, store_size}
use Rattle.known_answers.specs.KnownAnswer.{A, C, G, T}

-- letters, how many pieces, where they end, and this in bytes
pub record KnownPieces : Type 0 where
  pub letters : Word
  pub number : ℕ
  pub ends : List ℕ
  pub bytes : Word

unfoldable pub cuttings : List KnownPieces
cuttings =
    record { letters = []; number = 0; ends = []; bytes = [] }
    ∷ record { letters = A ∷ C ∷ G ∷ A ∷ A ∷ G ∷ []; number = 3; ends = 1 ∷ 2 ∷ 6 ∷ []; bytes = 1 ∷ 0 ∷ 2 ∷ 0 ∷ 6 ∷ 0 ∷ [] }
    ∷ record { letters = A ∷ C ∷ A ∷ C ∷ A ∷ C ∷ []; number = 2; ends = 1 ∷ 6 ∷ []; bytes = 1 ∷ 0 ∷ 6 ∷ 0 ∷ [] }
    ∷ record {
      letters = G ∷ A ∷ T ∷ T ∷ A ∷ C ∷ A ∷ [];
      number = 4;
      ends = 1 ∷ 2 ∷ 4 ∷ 7 ∷ [];
      bytes = 1 ∷ 0 ∷ 2 ∷ 0 ∷ 4 ∷ 0 ∷ 7 ∷ 0 ∷ [];
    }
    ∷ record { letters = A ∷ A ∷ A ∷ A ∷ []; number = 1; ends = 4 ∷ []; bytes = 4 ∷ 0 ∷ [] }
    ∷ record {
      letters = A ∷ C ∷ G ∷ T ∷ [];
      number = 4;
      ends = 1 ∷ 2 ∷ 3 ∷ 4 ∷ [];
      bytes = 1 ∷ 0 ∷ 2 ∷ 0 ∷ 3 ∷ 0 ∷ 4 ∷ 0 ∷ [];
    }
    ∷ []

-- a reading's number, letters, the bytes of room, and the refusal's number, 0 where there is none
pub record KnownRefusal : Type 0 where
  pub reading : ℕ
  pub letters : Word
  pub room : ℕ
  pub refused : ℕ

-- a good store that shows the letters in this reading, and so much room
unfoldable pub view_with : KnownRefusal → View
view_with x =
    record {
      size = store_size 1024;
      scratch = 0;
      out = x.room;
      good = true;
      capacity = 1024;
      reading = x.reading;
      letters = x.letters;
      row = λ r. none;
    }

unfoldable pub refusals : List KnownRefusal
refusals =
    record { reading = 0; letters = A ∷ C ∷ G ∷ A ∷ A ∷ G ∷ []; room = 6; refused = 0 }
    ∷ record { reading = 0; letters = A ∷ C ∷ G ∷ A ∷ A ∷ G ∷ []; room = 5; refused = 9 }
    ∷ record { reading = 0; letters = []; room = 0; refused = 0 }
    ∷ record { reading = 1; letters = A ∷ C ∷ G ∷ A ∷ A ∷ G ∷ []; room = 2048; refused = 14 }
    ∷ record { reading = 1; letters = A ∷ C ∷ G ∷ A ∷ A ∷ G ∷ []; room = 0; refused = 14 }
    ∷ record { reading = 1; letters = []; room = 0; refused = 14 }
    ∷ []
