-- Of a table of partners, of either reading: each entry undoes itself, and letters go to letters, by the laws of the rules. Assumes nothing.
use Prim.Native.Nat.{ℕ, ◌<◌}
use mathlib.Core.Path.{◌≡◌, ap, ◌∙◌}
use mathlib.Core.Bool.{true}
use mathlib.Core.List.{List}
use lib.ListN.{get_or}
use Rattle.palindromes.specs.Word.{is_letter}
use Rattle.palindromes.specs.Reading.{rule_in}
use Rattle.palindromes.proofs.Letters.{letter-byte}
use Rattle.palindromes.proofs.Readings.{rule-inverse, rule-byte, rule-letter}
use Rattle.partners.specs.Table.{PartnersIn}

module _ (m : ℕ) (t : List ℕ) (h : PartnersIn m t) where
  -- each entry's partner has the entry's number as its partner
  pub partner-undone : (c : ℕ) → c < 256 → get_or t (get_or t c 0) 0 ≡ c
  partner-undone c l = ap (λ (x : ℕ). get_or t x 0) (h c l) ∙ h (rule_in m c) (rule-byte m c l) ∙ rule-inverse m c

  -- and letters go to letters
  pub partner-letter : (c : ℕ) → is_letter c ≡ true → is_letter (get_or t c 0) ≡ true
  partner-letter c l = rw (h c (letter-byte c l)) (rule-letter m c l)
