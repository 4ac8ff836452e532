-- A number over a byte's is no letter, and any other is one where its byte is.
use Rattle.std.proofs.Common.{◌≡◌, ℕ, ◌<◌, Bool, true, false, refl, sym, ap, ◌∙◌}
use Rattle.std.specs.Prelude.{Result, Ok, Err, OkIff, MatchResult}
use Rattle.palindromes.specs.Word.{is_letter}
use Rattle.palindromes.proofs.Letters.{letter-byte}
use Rattle.addition_call.proofs.is_letter.Goals as goal

no-byte : (n : ℕ) → (n < 256 → ⊥) → false ≡ is_letter n
no-byte n h = go (is_letter n) refl
  where
    go : (t : Bool) → is_letter n ≡ t → false ≡ is_letter n
    go true e = absurd (h (letter-byte n e))
    go false e = sym e

by-byte : {E : Type 0} (n : ℕ) (r : Result ℕ E) {t : Bool} → OkIff r (n < 256) n → MatchResult r (λ x. t ≡ is_letter x) (λ e. t ≡ false) → t ≡ is_letter n
by-byte n (Ok x) fits is = is ∙ ap is_letter fits.1
by-byte n (Err e) over is = is ∙ no-byte n over

pub returns : goal.returns
returns c = by-byte _ _ c.try_from.ensures c.is_ok_and.ensures
