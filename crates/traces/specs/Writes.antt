-- DEFINITIONS. What is claimed of a question that writes to its output and that only a short output refuses, whatever buffers come with the call: on
-- the store b it answers x and writes the bytes w. Nothing here is proved.
use Rattle.std.specs.Prelude.{ℕ, ◌≤◌, ◌<◌, ◌≡◌, length, take}
use Rattle.palindromes.specs.Word.{Word}
use Rattle.palindromes.specs.Refusal.{Question, ask}
use Rattle.outcome.specs.Reply.{refused_with, unpacked, Answer, answered}
use Rattle.outcome.specs.Outcome.{Lent, written}
use Rattle.outcome.specs.Promise.{lending, Promise}

-- there is room: the bytes stand at the front of the output. 02 (iv) "here and in every later output, bytes beyond those written stay"
pub record Written (x : Answer) (w b : Word) (l : Lent) (a : ℕ) (b' : Word) (l' : Lent) : Type 0 where
  pub told : unpacked a ≡ answered x
  pub store : b' ≡ b
  pub bytes : l' ≡ lending l.scratch (written w l.out)
  pub front : take (length w) l'.out ≡ w

-- refused with a number, and every byte stays
pub record Refused (n : ℕ) (b : Word) (l : Lent) (a : ℕ) (b' : Word) (l' : Lent) : Type 0 where
  pub told : unpacked a ≡ refused_with n
  pub store : b' ≡ b
  pub bytes : l' ≡ l

-- one or the other, by the length of the output: 9 where there is no room
pub record Writes (q : Question) (x : Answer) (w b : Word) : Type 0 where
  pub written : (l : Lent) (a : ℕ) (b' : Word) (l' : Lent) → Promise (ask q) b l a b' l' → length w ≤ length l.out
      → Written x w b l a b' l'
  pub short : (l : Lent) (a : ℕ) (b' : Word) (l' : Lent) → Promise (ask q) b l a b' l' → length l.out < length w → Refused 9 b l a b' l'

-- refused whatever buffers come with it
abbrev pub Refuses : Question → ℕ → Word → Type 0
Refuses q n b = (l : Lent) (a : ℕ) (b' : Word) (l' : Lent) → Promise (ask q) b l a b' l' → Refused n b l a b' l'
