-- `reads_as_letter` answers whether the capital of a byte is a letter: that of these eight, and of no other. Assumes nothing.
use Prim.Native.Nat.{ℕ}
use borrow.Author.Tests.{ne_eqb}
use mathlib.Core.Path.{◌≡◌}
use mathlib.Core.Bool.{true, false}
use mathlib.Core.Logic.{◌⊎◌, inl, inr}
use Rattle.std.proofs.Common.{rules}
use Rattle.palindromes.specs.Word.{is_letter}
use Rattle.palindromes.specs.Fasta.{upper}
use Rattle.fasta_later_lines.proofs.Upper.{letter-kept}
use Rattle.fasta_later_lines.proofs.reads_as_letter.Goals as goal

-- one of the four capitals, or of their small letters
abbrev OneOf : ℕ → Type 0
OneOf x = (x ≡ 65) ⊎ ((x ≡ 67) ⊎ ((x ≡ 71) ⊎ ((x ≡ 84) ⊎ ((x ≡ 97) ⊎ ((x ≡ 99) ⊎ ((x ≡ 103) ⊎ (x ≡ 116)))))))

one_of : (x : ℕ) → OneOf x → true ≡ is_letter (upper x)
unfolding is_letter upper
one_of x (inl e) = rw e
one_of x (inr (inl e)) = rw e
one_of x (inr (inr (inl e))) = rw e
one_of x (inr (inr (inr (inl e)))) = rw e
one_of x (inr (inr (inr (inr (inl e))))) = rw e
one_of x (inr (inr (inr (inr (inr (inl e)))))) = rw e
one_of x (inr (inr (inr (inr (inr (inr (inl e))))))) = rw e
one_of x (inr (inr (inr (inr (inr (inr (inr e))))))) = rw e

none_of : (x : ℕ) → (OneOf x → ⊥) → false ≡ is_letter (upper x)
unfolding is_letter
none_of x n =
    let k = letter-kept x (λ e. n (search rules)) (λ e. n (search rules)) (λ e. n (search rules)) (λ e. n (search rules)) in
    cc (k, ne_eqb x 65 (λ e. n (search rules)), ne_eqb x 67 (λ e. n (search rules)), ne_eqb x 71 (λ e. n (search rules)), ne_eqb x 84 (λ e. n (search rules)))

pub returns-in-65 : goal.returns-in-65
returns-in-65 c = one_of c.args.b c.in-65.is

pub returns-in_default : goal.returns-in_default
returns-in_default c = none_of c.args.b (search rules)
