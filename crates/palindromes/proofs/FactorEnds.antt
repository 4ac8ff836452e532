-- The ends of the factors of a word, in bytes: there is an end for each factor (`ends-number`), which takes two bytes (`end-bytes-length`), from which
-- it can be read back (`ends_read`). Rests on `Factorizations` and `MinimalFactorization`.
use Prim.Native.Nat.{ℕ, ◌*◌}
use native.Mathlib.Omega.{arith}
use mathlib.Core.Path.{◌≡◌, refl, sym, ap, ap₂, ◌∙◌}
use mathlib.Core.List.{List, [], ◌∷◌, ◌++◌}
use lib.ListN.{length}
use Rattle.palindromes.specs.Word.{Word}
use Rattle.palindromes.specs.Interval.{two_bytes}
use Rattle.palindromes.specs.Factorization.{palindromic_length, factor_ends, end_bytes, ends_read}
use Rattle.palindromes.proofs.Factorizations.{ends-count}
use Rattle.palindromes.proofs.MinimalFactorization.{factorization-minimal}

pub ends-number : (σ : ℕ → ℕ) → ((c : ℕ) → σ c ≡ c) → (s : Word) → length (factor_ends σ s) ≡ palindromic_length σ s
ends-number σ own s = let r = factorization-minimal σ own s in sym (ap length r.3) ∙ ends-count r.0 ∙ r.2

pub end-bytes-append : (a b : List ℕ) → end_bytes (a ++ b) ≡ end_bytes a ++ end_bytes b
unfolding end_bytes two_bytes
end-bytes-append [] b = refl
end-bytes-append (e ∷ a) b = rw (end-bytes-append a b)

pub ends_read_lem : (l : List ℕ) → ends_read (end_bytes l) ≡ l
unfolding end_bytes two_bytes ends_read
ends_read_lem [] = refl
ends_read_lem (e ∷ l) = ap₂ ◌∷◌ (omega arith) (ends_read_lem l)

pub end-bytes-length : (l : List ℕ) → length (end_bytes l) ≡ 2 * length l
unfolding end_bytes two_bytes
end-bytes-length [] = refl
end-bytes-length (e ∷ l) = omega (arith, end-bytes-length l)
