-- What a good store carries of lengths lies within it (`count_fits`, `counted-room`), and tells what is carried after a change: with one palindrome more (`gained-count`, `gained-longest`) or one less
-- (`lost-count`), and the largest length without it, by what is carried for its length and for one letter less (`longer-left` to `two-less-left`). Last, the length of a row's palindrome by the number
-- that stores it. Rests on the laws of a good store (`Rows` of transitions), on `AddedWord` and `RemovedWord`, and on `Lowering`.
use Prim.Native.Nat.{ℕ, suc, ◌+◌, ◌*◌, ◌-◌, ◌≤◌, ◌<◌, max}
use native.Mathlib.Omega.{arith}
use mathlib.Core.Path.{◌≡◌, ap, ◌∙◌}
use mathlib.Core.Bool.{true}
use lib.IntN.{ℤ, pos, pred_ℤ}
use lib.ListN.{length}
use Rattle.palindromes.specs.Word.{Word}
use Rattle.palindromes.specs.Record.{count_of_length, longest_length}
use Rattle.palindromes.specs.End.{End, added, removed}
use Rattle.palindromes.proofs.Words.{some-letters}
use Rattle.palindromes.proofs.Order.{longest-length-fits}
use Rattle.palindromes.proofs.Lengths.{length-counted, counted-most}
use Rattle.eertree.proofs.Rows.{reach_of, row-reach, word_row}
use Rattle.eertree.proofs.Grow.{OneMore}
use Rattle.eertree.proofs.Lengths.{more-letters, more-longest}
use Rattle.store.specs.Layout.{capacity_in, end_row, longest_length_in, length_in, used_in, length_count_in, letters_in}
use Rattle.store.specs.Good.{rule_of, node_in, Good}
use Rattle.store.specs.Lengths.{Stored}
use Rattle.store.proofs.Sizes.{letters-length}
use Rattle.transitions.specs.Addition.{longest_after, brings_in}
use Rattle.transitions.specs.Removal.{longest_before, takes_out}
use Rattle.transitions.proofs.Rows.{covers, row_fits}
use Rattle.transitions.proofs.AddedWord.{brought}
use Rattle.transitions.proofs.RemovedWord.{one_less}
use Rattle.transitions.proofs.RemovedBytes.{end-holds}
use Rattle.length_counts.specs.Steps.{LengthIn, Lowered}
use Rattle.length_counts.proofs.Lowering.{one-of-length, longer-stay, equals-stay, none_stays, one-shorter, two-shorter}

-- ---- what is carried for a length

-- a small length can be stored
pub length-stored : {b : Word} {z : ℤ} → LengthIn b z → Stored z
length-stored l = record { number = suc l.letters; small = omega (arith, l.small); is = l.is }

module _ {b : Word} (g : Good b) (k : ℕ) where
  -- the number of palindromes of a length that has room lies within the store
  pub count_fits : k ≤ capacity_in b → 24 * (k + 1) + 24 ≤ length b
  count_fits h = row_fits g.sized (k + 1) (omega arith)

  -- and a length that some have is one
  pub counted-room : 0 < count_of_length (rule_of b) k (letters_in b) → k ≤ capacity_in b
  counted-room h =
      omega (
        arith,
        counted-most (rule_of b) k (letters_in b) h,
        longest-length-fits (rule_of b) (letters_in b),
        letters-length g.sized,
        g.sized.letters-fit,
      )

-- for the length of a palindrome that comes or goes, what is carried is how many have it
counted-for : {b s t w : Word} (g : Good b) → OneMore (rule_of b) s t w → {k : ℕ} → k ≤ capacity_in b → k ≡ length w → length_count_in b k ≡ count_of_length (rule_of b) (length w) (letters_in b)
counted-for {b} g o {k} room i = g.length-counts k (omega (arith, more-letters o)) room ∙ ap (λ j. count_of_length (rule_of b) j (letters_in b)) i

-- ---- one palindrome more

module _ {b : Word} (g : Good b) {k : ℕ} (room : k ≤ capacity_in b) where
  module _ (e : End) (c : ℕ) (t : brings_in e c b ≡ true) (i : k ≡ length (longest_after e c b)) where
    pub gained-count : count_of_length (rule_of b) (length (longest_after e c b)) (added e c (letters_in b)) ≡ length_count_in b k + 1
    gained-count = let o = brought e c b t in omega (arith, one-of-length o, counted-for g o room i)

    pub gained-longest : longest_length (rule_of b) (added e c (letters_in b)) ≡ max (longest_length_in b) k
    gained-longest = omega (arith, g.longest-is, more-longest (brought e c b t))

  -- ---- one palindrome less

  pub lost-count : (e : End) → takes_out e b ≡ true → k ≡ length (longest_before e b)
      → length_count_in b k ≡ count_of_length (rule_of b) (length (longest_before e b)) (removed e (letters_in b)) + 1
  lost-count e t i = let o = one_less e g t in omega (arith, one-of-length o, counted-for g o room i)

-- ---- the largest length without it

module _ {b : Word} (g : Good b) {k longest : ℕ} (m : longest ≡ longest_length_in b) where
  -- some are longer than the one that goes
  pub longer-left : k < longest → Lowered b k longest
  longer-left h e t i = omega (arith, g.longest-is, longer-stay (one_less e g t) (omega (arith, g.longest-is)))

  -- none is longer, but some others are as long
  pub equals-left : longest ≤ k → k ≤ capacity_in b → 1 < length_count_in b k → Lowered b k longest
  equals-left l room h e t i =
      let o = one_less e g t in
      omega (arith, g.longest-is, equals-stay o (omega (arith, g.longest-is)) (omega (arith, counted-for g o room i)))

-- no other palindrome has k letters or more
pub record Alone (b : Word) (k : ℕ) : Type 0 where
  pub room : k ≤ capacity_in b
  pub longest : longest_length_in b ≤ k
  pub one : length_count_in b k ≤ 1

module _ {b : Word} (g : Good b) {k : ℕ} (a : Alone b k) where
  -- a single letter that goes alone leaves nothing
  pub none_left : k < 2 → Lowered b k 0
  none_left s e t i =
      let o = one_less e g t in
      none_stays o (omega (arith, g.longest-is, a.longest)) (omega (arith, counted-for g o a.room i, a.one)) (omega arith)

  module _ (s : 2 ≤ k) where
    -- how many are one letter shorter than the one that goes
    shorter : (e : End) → k ≡ length (longest_before e b) → length_count_in b (k - 1) ≡ count_of_length (rule_of b) (length (longest_before e b) - 1) (letters_in b)
    shorter e i = g.length-counts (k - 1) (omega arith) (omega (arith, a.room)) ∙ ap (λ j. count_of_length (rule_of b) (j - 1) (letters_in b)) i

    -- those of one letter less stay
    pub one-less-left : 0 < length_count_in b (k - 1) → Lowered b k (k - 1)
    one-less-left p e t i =
        let o = one_less e g t in
        ap (λ j. j - 1) i
        ∙ one-shorter o (omega (arith, g.longest-is, a.longest)) (omega (arith, counted-for g o a.room i, a.one)) (omega arith) (omega (arith, shorter e i))

    -- there are none, and the word inside the one that goes stays
    pub two-less-left : length_count_in b (k - 1) ≡ 0 → Lowered b k (k - 2)
    two-less-left z e t i =
        let o = one_less e g t in
        ap (λ j. j - 2) i
        ∙ two-shorter o (omega (arith, g.longest-is, a.longest)) (omega (arith, counted-for g o a.room i, a.one)) (omega arith) (omega (arith, shorter e i))

-- ---- the length of a row

-- some palindrome has k letters
pub record Counted (b : Word) (k : ℕ) : Type 0 where
  pub some : 1 ≤ k
  pub room : k ≤ capacity_in b
  pub counted : 0 < count_of_length (rule_of b) k (letters_in b)

module _ {b : Word} (g : Good b) {q : ℕ} (u : used_in b q ≡ true) (m : ℕ) (f : length_in b q ≡ pred_ℤ (pos m)) where
  -- a row that is no root holds a palindrome
  pub row-counted : 2 ≤ q → Counted b (m - 1)
  row-counted l =
      let w = word_row (covers g) q u l in
      let k : length w.0 ≡ m - 1 = omega (arith, row-reach (covers g) q m u f, ap reach_of w.1) in
      let n = rw k at (length-counted (rule_of b) w.0 (letters_in b) w.2 w.3) in
      record { some = omega (arith, some-letters w.0 w.2.non-empty); room = counted-room g (m - 1) n; counted = n }

  -- the row of an end holds the longest there
  pub row-length : (e : End) → q ≡ end_row b e → m - 1 ≡ length (longest_before e b)
  row-length e h = omega (arith, row-reach (covers g) q m u f, ap reach_of (ap (node_in b) h ∙ end-holds e g))
