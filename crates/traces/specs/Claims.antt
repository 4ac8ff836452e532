-- DEFINITIONS. What is claimed of every list of calls: 01 "Lists of calls, for demand 3", the three points with their negative halves, 02 (vii) on changes of the
-- reading, and that the store stays good. All of it is said of what a host has in hand: arguments, lent bytes, and the fields of the answers. m is the reading of
-- the record, k its capacity, s the letters, row the rows of their repeats and b the store. Nothing here is proved.
use Rattle.std.specs.Prelude.{ℕ, ◌+◌, ◌≤◌, ◌≡◌, Bool, true, false, ◌&&◌, not, List, [], ◌∷◌, ltb, length}
use Rattle.palindromes.specs.Word.{Word, is_letter, all_letters}
use Rattle.palindromes.specs.Palindrome.{Palindrome}
use Rattle.palindromes.specs.Mismatch.{reported_mismatch}
use Rattle.palindromes.specs.Reading.{Reading, reading_number, rule_in}
use Rattle.palindromes.specs.Place.{Stands, stands, stands_once}
use Rattle.palindromes.specs.Record.{palindromes}
use Rattle.palindromes.specs.End.{End, added, removed, letter_at, longest_at, not_among, new_in}
use Rattle.palindromes.specs.Node.{Node, imaginary, spelt, link_of, inner_of}
use Rattle.palindromes.specs.SearchSteps.{reported_steps}
use Rattle.palindromes.specs.Refusal.{Question, the_row, spell, find, add, remove, turn, ask, refusal}
use Rattle.eertree.specs.Entries.{IsEertree}
use Rattle.store.specs.Layout.{capacity_in, reading_in, letters_in}
use Rattle.store.specs.Good.{table_in, node_in, Good}
use Rattle.outcome.specs.Reply.{Reply, refused_with, accepted, refusal_in, unpacked}
use Rattle.outcome.specs.Outcome.{Lent, view_in}
use Rattle.outcome.specs.Promise.{Promise}
use Rattle.traces.specs.Run.{Step, Keeps, store_after, letters_step, letters_after, reading_step, reading_after, row_after}

-- ---- questions

-- whatever buffers come with the question, its answer has these fields
abbrev pub Replies : Question → Word → Reply → Type 0
Replies q b r = (l : Lent) (a : ℕ) (b' : Word) (l' : Lent) → Promise (ask q) b l a b' l' → unpacked a ≡ r

-- 01 "with the same arguments and buffers, gives the same answer, number and bytes" on either store
abbrev pub SameAnswer : Question → Word → Word → Type 0
SameAnswer q b c =
    (l : Lent) (a a' : ℕ) (b' c' : Word) (l' l'' : Lent) → Promise (ask q) b l a b' l' → Promise (ask q) c l a' c' l'' → (a ≡ a') × (l' ≡ l'')

-- ---- after the list

-- 01 "a store made by opening and accepted calls is always good". What it shows are the letters that follow from the arguments, and its rows are the
-- eertree of those letters
pub record Shown (m k : ℕ) (s b : Word) : Type 0 where
  pub good : Good b
  pub capacity : capacity_in b ≡ k
  pub reading : reading_in b ≡ m
  pub letters : letters_in b ≡ s
  pub table : IsEertree (rule_in m) s (table_in b) (node_in b)

-- the number of a node's row: 0 and 1 for the roots, and the repeat's own for any other
unfoldable pub number_of : (Word → ℕ) → Node → ℕ
number_of row imaginary = 0
number_of row (spelt []) = 1
number_of row (spelt (x ∷ w)) = row (x ∷ w)

-- the second point: what find, the row question and spell answer after the list. 02 (x): beside its row or absence find answers the first pair of the piece that disagrees, none for a repeat
pub record Table (m k : ℕ) (s : Word) (row : Word → ℕ) (b : Word) : Type 0 where
  pub found : (w : Word) → Palindrome (rule_in m) w → Stands w s → Replies (find w) b (accepted true (row w) 0 0)
  pub in-range : (w : Word) → Palindrome (rule_in m) w → Stands w s → (2 ≤ row w) × (row w ≤ k + 1)
  pub alone : (v w : Word) → Palindrome (rule_in m) v → Stands v s → Palindrome (rule_in m) w → Stands w s → row v ≡ row w → v ≡ w
  pub fields : (w : Word) → Palindrome (rule_in m) w → Stands w s
      → Replies (the_row (row w)) b (accepted false (number_of row (link_of (rule_in m) (spelt w))) (length w) (number_of row (inner_of (spelt w))))
  pub absent : (w : Word) → (w ≡ [] → ⊥) → all_letters w ≡ true → (Palindrome (rule_in m) w → Stands w s → ⊥) → Replies (find w) b (accepted false 0 (reported_mismatch (rule_in m) w) 0)
  pub no_row : (r : ℕ) → 2 ≤ r → ((w : Word) → Palindrome (rule_in m) w → Stands w s → row w ≡ r → ⊥) → Replies (the_row r) b (refused_with 7)
  pub no-spelling : (r : ℕ) → 2 ≤ r → ((w : Word) → Palindrome (rule_in m) w → Stands w s → row w ≡ r → ⊥) → Replies (spell r) b (refused_with 7)

-- ---- each call of the list

-- a change from the letters s to t brings in v and nothing else, or nothing, and takes out nothing
pub record Moved (m : ℕ) (s t v : Word) (flag : Bool) : Type 0 where
  pub one : flag ≡ true → new_in (rule_in m) s t ≡ v ∷ []
  pub none : flag ≡ false → new_in (rule_in m) s t ≡ []
  pub back : new_in (rule_in m) t s ≡ []

-- an addition that answers r: accepted exactly if the letter is valid and the record below full length. The longest repeat at the end, read after it, comes
-- in exactly if it stood nowhere before; then 1 and the row that it has from now on, else 0 and row 0. 02 (xiii): what it reports of its search is decided by the letters
-- alone
pub record Added (m k : ℕ) (s : Word) (row' : Word → ℕ) (e : End) (c : ℕ) (r : Reply) : Type 0 where
  pub accepted-if : (is_letter c && ltb (length s) k) ≡ true → r.number ≡ 0
  pub only_if : r.number ≡ 0 → (is_letter c && ltb (length s) k) ≡ true
  pub comes-in : r.number ≡ 0 → r.flag ≡ not (stands (longest_at (rule_in m) e (added e c s)) s)
  pub moves : r.number ≡ 0 → Moved m s (added e c s) (longest_at (rule_in m) e (added e c s)) r.flag
  pub new_row : r.flag ≡ true → r.row ≡ row' (longest_at (rule_in m) e (added e c s))
  pub no_row : r.flag ≡ false → r.row ≡ 0
  pub steps : r.number ≡ 0 → r.first ≡ reported_steps m e c s

-- a removal that answers r: accepted exactly if a letter stands, and that is its letter. The longest repeat at the end, read before it, goes exactly if it
-- stood once only; then 1 and the row that it had, else 0 and row 0
pub record Removed (m : ℕ) (s : Word) (row : Word → ℕ) (e : End) (r : Reply) : Type 0 where
  pub accepted-if : (s ≡ [] → ⊥) → r.number ≡ 0
  pub only_if : r.number ≡ 0 → s ≡ [] → ⊥
  pub letter-is : r.number ≡ 0 → r.first ≡ letter_at e s
  pub goes-out : r.number ≡ 0 → r.flag ≡ stands_once (longest_at (rule_in m) e s) s
  pub moves : r.number ≡ 0 → Moved m (removed e s) s (longest_at (rule_in m) e s) r.flag
  pub old_row : r.flag ≡ true → r.row ≡ row (longest_at (rule_in m) e s)
  pub no_row : r.flag ≡ false → r.row ≡ 0

-- a turn to the reading n that answers r, from the reading m and the store b to the store b'; row are the rows before it and row' those after. It is always accepted,
-- and answers zero throughout. To the reading in force it leaves every byte and every row. To the other one it brings in every repeat of that reading, each with the row
-- that find answers right after it, and takes out every one of the old: no repeat stands before and after, so none keeps its row, and find answers absent for
-- those of the old reading
pub record Turned (m n k : ℕ) (s : Word) (row row' : Word → ℕ) (b b' : Word) (r : Reply) : Type 0 where
  pub accepted-zero : r ≡ accepted false 0 0 0
  pub in-force : m ≡ n → (b' ≡ b) × ((w : Word) → row' w ≡ row w)
  pub comes-in : (m ≡ n → ⊥) → not_among (palindromes (rule_in m) s) (palindromes (rule_in n) s) ≡ palindromes (rule_in n) s
  pub goes-out : (m ≡ n → ⊥) → not_among (palindromes (rule_in n) s) (palindromes (rule_in m) s) ≡ palindromes (rule_in m) s
  pub new-rows : Table n k s row' b'
  pub none_kept : (m ≡ n → ⊥) → (w : Word) → Palindrome (rule_in m) w → Stands w s → Palindrome (rule_in n) w → ⊥
  pub old-absent : (m ≡ n → ⊥) → (w : Word) → Palindrome (rule_in m) w → Stands w s → Replies (find w) b' (accepted false 0 (reported_mismatch (rule_in n) w) 0)

-- a repeat that stands before and after a call, each time as one of the reading then in force, keeps its row, and the row's length, link and inner row: find
-- answers the same number on both stores, and so does the row question for that row, whose answer holds the three
pub record Kept (w : Word) (row row' : Word → ℕ) (b b' : Word) : Type 0 where
  pub same_row : row' w ≡ row w
  pub same-found : SameAnswer (find w) b b'
  pub same-fields : SameAnswer (the_row (row w)) b b'

-- any call x, where b is the store before it, m the reading, s the letters, row the rows before and row' those after. It answers the number of the table of numbers for
-- what it meets; a refused one, and every question, leaves the store, and a refused one the buffers too
pub record Called (m k : ℕ) (s : Word) (row row' : Word → ℕ) (b : Word) (x : Step) : Type 0 where
  pub number_is : refusal_in x.answer ≡ refusal (rule_in m) (view_in b x.lent) x.call
  pub never-three : refusal_in x.answer ≡ 3 → ⊥
  pub refused-leaves : (refusal_in x.answer ≡ 0 → ⊥) → (unpacked x.answer ≡ refused_with (refusal_in x.answer)) × (x.store ≡ b) × (x.after ≡ x.lent)
  pub question-leaves : (q : Question) → x.call ≡ ask q → x.store ≡ b
  pub addition : (e : End) (c : ℕ) → x.call ≡ add e c → Added m k s row' e c (unpacked x.answer)
  pub removal : (e : End) → x.call ≡ remove e → Removed m s row e (unpacked x.answer)
  pub turning : (way : Reading) → x.call ≡ turn way → Turned m (reading_number way) k s row row' b x.store (unpacked x.answer)
  pub kept :
      (w : Word) → Palindrome (rule_in m) w → Stands w s → Palindrome (rule_in (reading_step m x.call)) w → Stands w (letters_step k s x.call)
      → Kept w row row' b x.store

-- the first point: of every call of the list, with the calls before it
unfoldable pub EachCall : ℕ → ℕ → Word → List Step → Type 0
EachCall m k b [] = Unit {0}
EachCall m k b (x ∷ xs) =
    Called (reading_after m xs) k (letters_after k xs) (λ w. row_after m k xs w) (λ w. row_after m k (x ∷ xs) w) (store_after b xs) x × EachCall m k b xs

-- ---- an addition undone

-- the third point: the addition `first` on the store b, accepted, and at once the removal `second` at the same end. The store is byte for byte what it was,
-- and every question gives what it would have given before the two
pub record Undone (b : Word) (c : ℕ) (first second : Step) : Type 0 where
  pub accepted-too : refusal_in second.answer ≡ 0
  pub same-letter : (unpacked second.answer).first ≡ c
  pub same_flag : (unpacked second.answer).flag ≡ (unpacked first.answer).flag
  pub same_row : (unpacked second.answer).row ≡ (unpacked first.answer).row
  pub same_store : second.store ≡ b
  pub same-answers : (q : Question) → SameAnswer q b second.store

-- all that is claimed of the list xs, on the store b that an opening of capacity k left in the reading m
pub record Claims (m k : ℕ) (b : Word) (xs : List Step) : Type 0 where
  pub shown : Shown (reading_after m xs) k (letters_after k xs) (store_after b xs)
  pub table : Table (reading_after m xs) k (letters_after k xs) (λ w. row_after m k xs w) (store_after b xs)
  pub each : EachCall m k b xs
  pub undone :
      (e : End) (c : ℕ) (x y : Step) → x.call ≡ add e c → Keeps (store_after b xs) x → refusal_in x.answer ≡ 0 → y.call ≡ remove e → Keeps x.store y
      → Undone (store_after b xs) c x y
