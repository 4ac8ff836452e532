-- What a list of calls keeps true of its store: it is good, shows the letters that follow from the arguments, and each repeat has the row that follows
-- from the replies.
use Prim.Native.Nat.{ℕ, ◌<◌}
use mathlib.Core.Path.{◌≡◌, sym, ap, ◌∙◌}
use lib.ListN.{length, get_or}
use Rattle.palindromes.specs.Word.{Word}
use Rattle.palindromes.specs.Palindrome.{Palindrome}
use Rattle.palindromes.specs.Reading.{rule_in}
use Rattle.palindromes.specs.Place.{Stands}
use Rattle.palindromes.specs.Node.{spelt}
use Rattle.store.specs.Layout.{capacity_in, size_in, reading_in, letters_in}
use Rattle.store.specs.Good.{rule_of, Good}
use Rattle.store.proofs.Sizes.{letters-length}
use Rattle.transitions.specs.Rows.{row_of}

pub record State (m k : ℕ) (s : Word) (row : Word → ℕ) (b : Word) : Type 0 where
  pub good : Good b
  pub capacity : capacity_in b ≡ k
  pub reading : reading_in b ≡ m
  pub letters : letters_in b ≡ s
  pub rows : (w : Word) → Palindrome (rule_in m) w → Stands w s → row w ≡ row_of b (spelt w)
  pub bytes : (i : ℕ) → get_or b i 0 < 256

-- the rule that the record is read by
pub rule-is : {m k : ℕ} {s : Word} {row : Word → ℕ} {b : Word} → State m k s row b → rule_of b ≡ rule_in m
rule-is st = ap rule_in st.reading

-- how many letters stand
pub size_is : {m k : ℕ} {s : Word} {row : Word → ℕ} {b : Word} → State m k s row b → size_in b ≡ length s
size_is st = sym (letters-length st.good.sized) ∙ ap length st.letters
