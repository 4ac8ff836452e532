-- DEFINITIONS. What filling a record promises. Nothing here is proved.
use Rattle.std.specs.Prelude.{ℕ, ◌≡◌, Bool, true, false, ◌&&◌, leb, length}
use Rattle.palindromes.specs.Word.{Word, all_letters}
use Rattle.palindromes.specs.End.{at_right}
use Rattle.transitions.specs.Opening.{opened}
use Rattle.transitions.specs.Turning.{after_additions}

-- whether the store has room for 1,024 letters, and there are letters alone and no more than that
unfoldable pub fillable : Word → Word → Bool
fillable b w = leb 49408 (length b) && leb (length w) 1024 && all_letters w

-- a plain record is opened and takes the letters at the right, and their number is answered; or nothing is done
pub record Fills (b w : Word) (r : ℕ) (b' : Word) : Type 0 where
  pub filled : fillable b w ≡ true → (r ≡ length w) × (b' ≡ after_additions at_right w (opened 0 1024 b))
  pub left : fillable b w ≡ false → (r ≡ 0) × (b' ≡ b)
