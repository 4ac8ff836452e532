-- DEFINITIONS. Lists of calls from an opening, as a host sees them; the letters and the reading that follow from the calls' arguments alone, and the rows that
-- follow from their arguments and answers alone: 01 "Lists of calls, for demand 3", 02 (vii). Nothing here is proved.
use Rattle.std.specs.Prelude.{ℕ, zero, ◌≡◌, cond, ◌&&◌, List, [], ◌∷◌, eqb, ltb, length}
use Rattle.palindromes.specs.Word.{Word, is_letter, same_word}
use Rattle.palindromes.specs.Reading.{reading_number, rule_in}
use Rattle.palindromes.specs.End.{added, removed, longest_at}
use Rattle.palindromes.specs.Refusal.{find, Call, opening, add, remove, turn, ask}
use Rattle.outcome.specs.Reply.{Reply, packed, refusal_in, row_in, unpacked}
use Rattle.outcome.specs.Outcome.{Lent, outcome}
use Rattle.outcome.specs.Promise.{nothing, Promise, OpeningPromise}

-- one call of a host: the call with its arguments, the buffers that it was lent beside the store, the number that it answered, and the store and the
-- buffers after it
pub record Step : Type 0 where
  pub call : Call
  pub lent : Lent
  pub answer : ℕ
  pub store : Word
  pub after : Lent

-- the contract of the exported function, in its own words. 01 "A list holds any store calls but accepted openings": an opening is a refused one, and it is
-- lent nothing but the store
unfoldable pub Stated : Call → Word → Lent → ℕ → Word → Lent → Type 0
Stated (opening way k) b l a b' l' = OpeningPromise way k b a b' × (l' ≡ l) × (refusal_in a ≡ 0 → ⊥)
Stated (add e c) b l a b' l' = Promise (add e c) b l a b' l'
Stated (remove e) b l a b' l' = Promise (remove e) b l a b' l'
Stated (turn way) b l a b' l' = Promise (turn way) b l a b' l'
Stated (ask q) b l a b' l' = Promise (ask q) b l a b' l'

abbrev pub Keeps : Word → Step → Type 0
Keeps b x = Stated x.call b x.lent x.answer x.store x.after

-- the store after the list, the last call first: 01 "as the last call left it, and nobody else writes there"
unfoldable pub store_after : Word → List Step → Word
store_after b [] = b
store_after b (x ∷ xs) = x.store

-- a list of calls on the store b that an opening left, the last one first. Each keeps its contract on the whole store as the call before left it; nothing
-- else is asked of it
pub data Run (b : Word) : List Step → Type 0 where
  begun : Run b []
  called : {xs : List Step} → Run b xs → (x : Step) → Keeps (store_after b xs) x → Run b (x ∷ xs)

-- the letters after one more call: 01 "an addition is accepted exactly if its letter is valid and the record is below full length; the letter then joins
-- that end. A removal is accepted exactly if a letter stands; the one at that end then goes. Every other call, and every refused one, leaves the letters"
unfoldable pub letters_step : ℕ → Word → Call → Word
letters_step k s (opening way n) = s
letters_step k s (add e c) = cond (is_letter c && ltb (length s) k) (added e c s) s
letters_step k s (remove e) = removed e s
letters_step k s (turn way) = s
letters_step k s (ask q) = s

-- the letters after the list, in a store of capacity k, from the arguments alone
unfoldable pub letters_after : ℕ → List Step → Word
letters_after k [] = []
letters_after k (x ∷ xs) = letters_step k (letters_after k xs) x.call

-- the reading after one more call: 02 (vii) "two calls, one for each reading, turn a good store to that reading"; every other call leaves it
unfoldable pub reading_step : ℕ → Call → ℕ
reading_step m (opening way n) = m
reading_step m (add e c) = m
reading_step m (remove e) = m
reading_step m (turn way) = reading_number way
reading_step m (ask q) = m

-- the reading after the list, of a record that was opened in the reading m, from the arguments alone
unfoldable pub reading_after : ℕ → List Step → ℕ
reading_after m [] = m
reading_after m (x ∷ xs) = reading_step (reading_after m xs) x.call

-- the row that find answers for a piece on the store b: `mirror_row_of` of its number
unfoldable pub row_found : Word → Word → ℕ
row_found b w = row_in (packed (outcome (ask (find w)) b nothing).reply)

-- the row of a repeat after one more call, where m is the reading before it and b the store that it left: an addition that answers 1 brings in the longest
-- repeat at its end, with the row that it answers. 02 (vii) "a change to the other reading counts as bringing in every repeat of the new reading, each with the row
-- that find answers right after it"; one to the reading in force brings in none
unfoldable pub row_step : ℕ → Word → Call → Reply → Word → (Word → ℕ) → Word → ℕ
row_step m s (opening way n) r b old w = old w
row_step m s (add e c) r b old w = cond (r.flag && same_word w (longest_at (rule_in m) e (added e c s))) r.row (old w)
row_step m s (remove e) r b old w = old w
row_step m s (turn way) r b old w = cond (eqb m (reading_number way)) (old w) (row_found b w)
row_step m s (ask q) r b old w = old w

-- 01 "the row that it got from the last call that brought it in (an addition's is the one it answered)", from the arguments and the answers alone: find's are its
-- answers too. m is the reading of the opening
unfoldable pub row_after : ℕ → ℕ → List Step → Word → ℕ
row_after m k [] w = zero
row_after m k (x ∷ xs) w = row_step (reading_after m xs) (letters_after k xs) x.call (unpacked x.answer) x.store (λ v. row_after m k xs v) w
