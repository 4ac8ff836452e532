-- DEFINITIONS. Lists of calls by which a plain record only takes letters at the right, and what their additions report: 02 (xiii). Nothing here is proved.
use Rattle.std.specs.Prelude.{ℕ, zero, ◌+◌, ◌≡◌, cond, List, [], ◌∷◌, eqb}
use Rattle.palindromes.specs.Reading.{as_plain}
use Rattle.palindromes.specs.End.{at_left, at_right}
use Rattle.palindromes.specs.Refusal.{Question, Call, opening, add, remove, turn, ask}
use Rattle.outcome.specs.Reply.{refusal_in, first_in}
use Rattle.traces.specs.Run.{Step}

-- a call that takes a letter at the right or leaves the record: 02 (xiii) "only takes n letters at the right". A question leaves it, a turn to the plain reading, which is in force, and a refused call
pub data Appends (x : Step) : Type 0 where
  letter : (c : ℕ) → x.call ≡ add at_right c → Appends x
  question : (q : Question) → x.call ≡ ask q → Appends x
  in-force : x.call ≡ turn as_plain → Appends x
  refused : (refusal_in x.answer ≡ 0 → ⊥) → Appends x

unfoldable pub OnlyAppends : List Step → Type 0
OnlyAppends [] = Unit {0}
OnlyAppends (x ∷ xs) = Appends x × OnlyAppends xs

-- how many letters a call that answers a takes at the right: one, if it is an accepted addition there
unfoldable pub taken_by : Call → ℕ → ℕ
taken_by (opening way k) a = zero
taken_by (add at_right c) a = cond (eqb (refusal_in a) 0) 1 0
taken_by (add at_left c) a = zero
taken_by (remove e) a = zero
taken_by (turn way) a = zero
taken_by (ask q) a = zero

-- and what it reports of its search: `mirror_first` of the answer of an addition
unfoldable pub reported_by : Call → ℕ → ℕ
reported_by (opening way k) a = zero
reported_by (add e c) a = first_in a
reported_by (remove e) a = zero
reported_by (turn way) a = zero
reported_by (ask q) a = zero

-- 02 (xiii) "n letters at the right", over the list
unfoldable pub taken_right : List Step → ℕ
taken_right [] = zero
taken_right (x ∷ xs) = taken_by x.call x.answer + taken_right xs

-- "the numbers add up to"
unfoldable pub reported_sum : List Step → ℕ
reported_sum [] = zero
reported_sum (x ∷ xs) = reported_by x.call x.answer + reported_sum xs
