-- DEFINITIONS. What a line of a table of known answers says of the exported calls: on every good store with its letters, read by its rule, and of a
-- capacity of its line, a call that keeps its promise answers what the line says, with the rows of the repeats that it names. Nothing here is proved.
use Rattle.std.specs.Prelude.{ℕ, ◌≤◌, ◌≡◌, true, false, List, [], ◌∷◌}
use Rattle.palindromes.specs.Word.{Word}
use Rattle.palindromes.specs.End.{at_right}
use Rattle.palindromes.specs.Node.{spelt}
use Rattle.palindromes.specs.Refusal.{the_count, the_longest, the_row, find, Call, add, remove, ask}
use Rattle.store.specs.Layout.{capacity_in, reading_in, letters_in}
use Rattle.store.specs.Good.{rule_of, Good}
use Rattle.transitions.specs.Rows.{row_of}
use Rattle.transitions.specs.Bytes.{Bytes}
use Rattle.outcome.specs.Reply.{Reply, accepted, refused_with, unpacked}
use Rattle.outcome.specs.Outcome.{Lent}
use Rattle.outcome.specs.Promise.{Promise}
use Rattle.traces.specs.Claims.{Replies}
use Rattle.known_answers.specs.KnownAnswer.{Query, how_many, which_longest, addition, removal, the_link, the_inner, look, search, KnownAnswer}
use Rattle.known_answers.specs.KnownAnswer.{Answer, refused, number, length_at, comes_in, goes_out, row, found, absent}

-- the call that a query stands for, on the store b: a row that is named by its repeat is that repeat's
unfoldable pub call_for : Word → Query → Call
call_for b how_many = ask the_count
call_for b which_longest = ask the_longest
call_for b (addition e c) = add e c
call_for b (removal e) = remove e
call_for b (the_link w) = ask (the_row (row_of b (spelt w)))
call_for b (the_inner w) = ask (the_row (row_of b (spelt w)))
call_for b (look w) = ask (find w)
call_for b (search c) = add at_right c

-- the field in which a row is answered: the inner row is the second number
unfoldable pub row_field : Query → Reply → ℕ
row_field (the_inner w) r = r.second
row_field how_many r = r.row
row_field which_longest r = r.row
row_field (addition e c) r = r.row
row_field (removal e) r = r.row
row_field (the_link w) r = r.row
row_field (look w) r = r.row
row_field (search c) r = r.row

-- the repeats ws that come in or go out: with the flag 1 there is one, whose row in the store b is answered; with the flag 0 there is none, and row 0
pub record OneOrNone (ws : List Word) (b : Word) (r : Reply) : Type 0 where
  pub moved : r.flag ≡ true → (w : Word) × (ws ≡ w ∷ []) × (r.row ≡ row_of b (spelt w))
  pub none-moved : r.flag ≡ false → (ws ≡ []) × (r.row ≡ 0)

-- the fields r, answered on the store b, which is b' after the call, say what the answer says
unfoldable pub Says : Word → Word → Reply → Query → Answer → Type 0
Says b b' r q (refused n) = (r ≡ refused_with n) × (b' ≡ b)
Says b b' r q (number n) = (r.number ≡ 0) × (r.first ≡ n)
Says b b' r q (length_at n i) = r ≡ accepted false 0 n i
Says b b' r q (comes_in ws n) = (r.number ≡ 0) × OneOrNone ws b' r × Replies the_count b' (accepted false 0 n 0)
Says b b' r q (goes_out c ws n) = (r.number ≡ 0) × (r.first ≡ c) × OneOrNone ws b r × Replies the_count b' (accepted false 0 n 0)
Says b b' r q (row v) = (r.number ≡ 0) × (row_field q r ≡ row_of b v)
Says b b' r q (found v n) = r ≡ accepted true (row_of b v) n 0
Says b b' r q (absent n) = r ≡ accepted false 0 n 0

-- 02 (xiii): what a search passes is reported in plain records alone
unfoldable pub Reported : Word → Query → Type 0
Reported b (search c) = reading_in b ≡ 0
Reported b how_many = Unit {0}
Reported b which_longest = Unit {0}
Reported b (addition e c) = Unit {0}
Reported b (removal e) = Unit {0}
Reported b (the_link w) = Unit {0}
Reported b (the_inner w) = Unit {0}
Reported b (look w) = Unit {0}

-- the line x is what the calls answer
abbrev pub Answered : KnownAnswer → Type 0
Answered x =
    (b : Word) → Good b → Bytes b → rule_of b ≡ x.rule → letters_in b ≡ x.letters → x.least ≤ capacity_in b → capacity_in b ≤ x.most
    → Reported b x.query
    → (l : Lent) (a : ℕ) (b' : Word) (l' : Lent) → Promise (call_for b x.query) b l a b' l' → Says b b' (unpacked a) x.query x.known

-- and so is every line of the list
pub data AllAnswered : List KnownAnswer → Type 0 where
  all-answered : AllAnswered []
  and-answered : {x : KnownAnswer} {xs : List KnownAnswer} → Answered x → AllAnswered xs → AllAnswered (x ∷ xs)
