-- The list of `Example` as far as CAC, and what the claims about minimal unique repeats say of it: A alone, which stands once, at 1 to 2; CAC stands
-- once too, but so does the A inside it. Three bytes, one less than it takes, are refused.
use Prim.Native.Nat.{ℕ, ◌*◌}
use native.Mathlib.Omega.{arith}
use mathlib.Core.Path.{◌≡◌, refl, ap, ◌∙◌, subst}
use mathlib.Core.Bool.{false}
use mathlib.Core.List.{List, [], ◌∷◌}
use lib.ListN.{length, replicate}
use lib.Seq.{sets}
use Rattle.palindromes.specs.Word.{Word, is_empty, mismatch_from, keep}
use Rattle.palindromes.specs.Palindrome.{mirror, first_mismatch, is_symmetric, is_palindrome}
use Rattle.palindromes.specs.Reading.{as_plain, reading_number, rule_in}
use Rattle.palindromes.specs.Place.{starts_with, places_from, places, frequency, stands_once}
use Rattle.palindromes.specs.End.{without_first, without_last}
use Rattle.palindromes.specs.Interval.{Interval, interval, word_at, numbers_from, intervals_from, intervals, two_bytes, interval_bytes}
use Rattle.palindromes.specs.MinimalUnique.{inner_word, is_repeating, is_minimal_unique, minimal_unique}
use Rattle.palindromes.specs.Refusal.{the_minimal_unique, ask}
use Rattle.palindromes.proofs.Intervals.{interval-bytes-length}
use Rattle.outcome.specs.Reply.{accepted, packed, refused_with, unpacked}
use Rattle.outcome.specs.Outcome.{Lent, written}
use Rattle.outcome.specs.Promise.{lending, Promise}
use Rattle.traces.specs.Run.{store_after, letters_after}
use Rattle.traces.specs.MinimalUnique.{MinimalUniques}
use Rattle.traces.proofs.MinimalUnique.{minimal-unique-after}
use Rattle.traces.proofs.Example.{sevens, all-bytes, opened, promise, answers-zero, start, with-CAC, run-to-CAC, in-CAC, plain-CAC}

abbrev end : Word
end = store_after start with-CAC

abbrev CAC : Word
CAC = 67 ∷ 65 ∷ 67 ∷ []

claims : MinimalUniques 0 CAC end
unfolding reading_number
claims =
    subst (λ (s : Word). MinimalUniques 0 s end) in-CAC
    (subst (λ (m : ℕ). MinimalUniques m (letters_after 3 with-CAC) end) plain-CAC
    (minimal-unique-after as_plain 3 sevens all-bytes (packed (opened as_plain).reply) start (promise as_plain) (answers-zero as_plain) run-to-CAC))

A-alone : minimal_unique (rule_in 0) CAC ≡ interval 1 2 ∷ []
unfolding minimal_unique keep intervals intervals_from numbers_from is_minimal_unique is_repeating word_at inner_word without_first without_last
    is_palindrome is_symmetric first_mismatch mismatch_from mirror is_empty rule_in stands_once frequency places places_from starts_with
A-alone = refl

-- its four bytes
size : length (interval_bytes (minimal_unique (rule_in 0) CAC)) ≡ 4
size = interval-bytes-length (minimal_unique (rule_in 0) CAC) ∙ ap (λ (x : List Interval). 4 * length x) A-alone

-- in a buffer of six sevens two stay
pub interval-of-A : (a : ℕ) (b' : Word) (l' : Lent) → Promise (ask the_minimal_unique) end (lending [] (replicate 6 7)) a b' l'
    → (unpacked a ≡ accepted false 0 1 0) × (l'.out ≡ 1 ∷ 0 ∷ 2 ∷ 0 ∷ 7 ∷ 7 ∷ [])
unfolding written interval_bytes two_bytes
interval-of-A a b' l' p =
    let q = claims.listed.written (lending [] (replicate 6 7)) a b' l' p (omega (arith, size)) in (
      q.told ∙ ap (λ (x : List Interval). accepted false 0 (length x) 0) A-alone,
      ap (λ (l : Lent). l.out) q.bytes ∙ ap (λ (x : List Interval). sets (replicate 6 7) 0 (interval_bytes x)) A-alone,
    )

pub three-bytes-too-few : (a : ℕ) (b' : Word) (l' : Lent) → Promise (ask the_minimal_unique) end (lending [] (replicate 3 7)) a b' l'
    → unpacked a ≡ refused_with 9
three-bytes-too-few a b' l' p = (claims.listed.short (lending [] (replicate 3 7)) a b' l' p (omega (arith, size))).told
