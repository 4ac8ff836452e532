use Rattle.std.proofs.Common.{◌≡◌, ℕ, get_or, [], ◌∷◌, refl, sym, ◌∙◌, eq-eqb, ne_eqb}
use Rattle.palindromes.specs.Reading.{complement}
use Rattle.palindromes.proofs.Letters.{letter-cases}
use Rattle.palindromes.proofs.Readings.{rule-plain, rule-inverted}
use Rattle.partners.specs.Table.{place_of}
use Rattle.partners.proofs.of_letters.Goals as goal

pub returns-then-reading-eq1 : goal.returns-then-reading-eq1
unfolding complement
returns-then-reading-eq1 c x h =
    letter-cases (λ (y : ℕ). get_or (84 ∷ 71 ∷ 65 ∷ 67 ∷ []) (place_of y) 0 ≡ complement y) refl refl refl refl x h
    ∙ sym (rule-inverted _ (eq-eqb _ 1 c.if-reading-eq1.true) x)

pub returns-else-reading-eq1 : goal.returns-else-reading-eq1
returns-else-reading-eq1 c x h =
    letter-cases (λ (y : ℕ). get_or (65 ∷ 67 ∷ 84 ∷ 71 ∷ []) (place_of y) 0 ≡ y) refl refl refl refl x h
    ∙ sym (rule-plain _ (ne_eqb _ 1 c.if-reading-eq1.false) x)
