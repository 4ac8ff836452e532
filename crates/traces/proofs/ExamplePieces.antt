-- A list that turns a record to the inverted reading and back, and what the claims about pieces say of it: A and C join a plain record, which has two
-- pieces, ending at 1 and 2; turned to inverted it is refused with 14; turned back it has its pieces again, and three bytes, one less than they take, are
-- refused.
use Prim.Native.Nat.{ℕ}
use native.Mathlib.Omega.{arith}
use mathlib.Core.Path.{◌≡◌, refl, ap, ◌∙◌, subst}
use mathlib.Core.Bool.{false}
use mathlib.Core.List.{List, [], ◌∷◌}
use lib.ListN.{length, replicate}
use lib.Seq.{sets}
use Rattle.palindromes.specs.Word.{Word, is_letter, is_empty, mismatch_from, keep}
use Rattle.palindromes.specs.Palindrome.{plain, mirror, first_mismatch, is_symmetric, is_palindrome}
use Rattle.palindromes.specs.Reading.{as_plain, as_inverted}
use Rattle.palindromes.specs.Record.{suffixes}
use Rattle.palindromes.specs.End.{at_right, added}
use Rattle.palindromes.specs.Interval.{two_bytes}
use Rattle.palindromes.specs.Factorization.{starts, better, pick, choice, last_start, lengths_from, palindromic_lengths, ends_to, palindromic_length}
use Rattle.palindromes.specs.Factorization.{factor_ends, end_bytes}
use Rattle.palindromes.specs.Refusal.{the_pieces, add, turn, ask}
use Rattle.outcome.specs.Reply.{accepted, packed, refused_with, unpacked}
use Rattle.outcome.specs.Outcome.{Lent, written}
use Rattle.outcome.specs.Promise.{lending, nothing, Promise}
use Rattle.traces.specs.Run.{Step, store_after, Run, begun, letters_step, letters_after}
use Rattle.traces.specs.Pieces.{TurnedBack}
use Rattle.traces.proofs.Possible.{step_of}
use Rattle.traces.proofs.Pieces.{pieces-back}
use Rattle.traces.proofs.Example.{sevens, all-bytes, opened, promise, answers-zero, start, more, one_more}

pub with-AC : List Step
with-AC = more (more [] (add at_right 65)) (add at_right 67)

abbrev inverted : Step
inverted = step_of (turn as_inverted) (store_after start with-AC) nothing

abbrev back : Step
back = step_of (turn as_plain) (store_after start (inverted ∷ with-AC)) nothing

run : Run start (back ∷ inverted ∷ with-AC)
unfolding with-AC
run = one_more (one_more (one_more (one_more begun (add at_right 65) tt) (add at_right 67) tt) (turn as_inverted) tt) (turn as_plain) tt

Ac : letters_after 3 with-AC ≡ 65 ∷ 67 ∷ []
unfolding with-AC letters_after letters_step added is_letter
Ac = refl

claims : TurnedBack (65 ∷ 67 ∷ []) inverted.store back.store
claims =
    subst (λ (s : Word). TurnedBack s inverted.store back.store) Ac
    (pieces-back as_plain 3 sevens all-bytes (packed (opened as_plain).reply) start (promise as_plain) (answers-zero as_plain) inverted back run refl refl)

-- turned: 14, whatever room there is
pub AC-inverted : (l : Lent) (a : ℕ) (b' : Word) (l' : Lent) → Promise (ask the_pieces) inverted.store l a b' l' → unpacked a ≡ refused_with 14
AC-inverted l a b' l' p = (claims.turned l a b' l' p).told

-- and back
two : (palindromic_length plain (65 ∷ 67 ∷ []) ≡ 2) × (factor_ends plain (65 ∷ 67 ∷ []) ≡ 1 ∷ 2 ∷ [])
unfolding palindromic_length factor_ends ends_to palindromic_lengths lengths_from last_start choice pick better starts suffixes keep is_palindrome is_symmetric
    first_mismatch mismatch_from mirror is_empty
two = (refl, refl)

bytes : end_bytes (factor_ends plain (65 ∷ 67 ∷ [])) ≡ 1 ∷ 0 ∷ 2 ∷ 0 ∷ []
unfolding end_bytes two_bytes
bytes = ap end_bytes two.1

-- in a buffer of six sevens two stay
pub AC-pieces : (a : ℕ) (b' : Word) (l' : Lent) → Promise (ask the_pieces) back.store (lending [] (replicate 6 7)) a b' l'
    → (unpacked a ≡ accepted false 0 2 0) × (l'.out ≡ 1 ∷ 0 ∷ 2 ∷ 0 ∷ 7 ∷ 7 ∷ [])
unfolding written
AC-pieces a b' l' p =
    let q = claims.back.written (lending [] (replicate 6 7)) a b' l' p (omega (arith, ap length bytes)) in (
      q.told ∙ ap (λ (n : ℕ). accepted false 0 n 0) two.0,
      ap (λ (l : Lent). l.out) q.bytes ∙ ap (sets (replicate 6 7) 0) bytes,
    )

pub three-bytes-too-few : (a : ℕ) (b' : Word) (l' : Lent) → Promise (ask the_pieces) back.store (lending [] (replicate 3 7)) a b' l'
    → unpacked a ≡ refused_with 9
three-bytes-too-few a b' l' p = (claims.back.short (lending [] (replicate 3 7)) a b' l' p (omega (arith, ap length bytes))).told
