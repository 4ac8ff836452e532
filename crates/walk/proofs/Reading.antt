-- Reading the letters of a good store again, from left to right. Each step over the next letter leads from the row of the longest palindrome that ends what is read to the row of the longest that then
-- ends it (`good-step`); that is what the row spells, and no longer than what is read. One letter more brings that palindrome, and every other stands as it did (`met-ending`, `met-other`, `ending-row`);
-- where a root's row is come to, nothing is new (`root-old`). And what an addition reads of a good store, towards either end.
-- Rests on `Found`, on `step-there` of tables and on `prefix-met` of palindromes.
use Prim.Native.Nat.{ℕ, ◌+◌, ◌≤◌, ◌<◌}
use native.Mathlib.Omega.{arith}
use native.Mathlib.Numerals.{add-one}
use mathlib.Core.Path.{◌≡◌, sym, ap, ◌∙◌, subst}
use mathlib.Core.Bool.{true, false, not, or-false}
use mathlib.Core.Logic.{⊎_elim}
use mathlib.Core.List.{[], ◌∷◌, ◌++◌}
use lib.ListN.{length, get_or, take, drop, length-take, take-append-drop}
use lib.Seq.{take-suc, take-length}
use Rattle.std.specs.Prelude.{Some, None}
use Rattle.palindromes.specs.Word.{Word, is_letter, same_word}
use Rattle.palindromes.specs.Place.{Stands, stands}
use Rattle.palindromes.specs.Record.{longest_suffix}
use Rattle.palindromes.specs.End.{End}
use Rattle.palindromes.specs.Node.{Node, spelt, spelling_of}
use Rattle.palindromes.proofs.Tests.{not-true-false, same_true}
use Rattle.palindromes.proofs.Words.{same_or_not, suffix-length, suffix-of-empty, suffix-stands, prefix-stands}
use Rattle.palindromes.proofs.Places.{stands-is, stands-empty}
use Rattle.palindromes.proofs.Answers.{prefix-met}
use Rattle.palindromes.proofs.Longest.{longest-suffix}
use Rattle.palindromes.proofs.Letters.{letter-of}
use Rattle.palindromes.proofs.Readings.{rule-inverse}
use Rattle.eertree.specs.Covers.{NodeOf, Covers}
use Rattle.eertree.proofs.Covers.{shows-covers}
use Rattle.eertree.proofs.Replay.{step-there}
use Rattle.eertree.proofs.Rows.{row-high}
use Rattle.store.specs.Layout.{size_in, used_in, reading_in, letters_in}
use Rattle.store.specs.Good.{rule_of, table_in, node_in, Good}
use Rattle.store.proofs.Sizes.{letters-length}
use Rattle.walk.specs.Walk.{Chain, Stepped, grown, ended}
use Rattle.walk.specs.Replay.{letters_towards, ending_in, new_at, Holds}
use Rattle.walk.proofs.Found.{chain, meets-longest}
use Rattle.walk.proofs.Towards.{towards-length, covers-towards}
use Rattle.walk.proofs.Stores.{rows_fit}

-- from every used row of a good store the links lead down to row 0
pub good-chain : {b : Word} → Good b → (r : ℕ) → used_in b r ≡ true → Chain b r
good-chain {b} g r u = chain b (shows-covers g.table) (rows_fit g.sized) r u

-- ---- towards an end

module _ {b : Word} (g : Good b) (e : End) where
  -- its rows cover the letters as they are read towards either end
  pub covers-read : Covers (rule_of b) (letters_towards b e) (table_in b) (node_in b)
  covers-read = covers-towards (rule_of b) (rule-inverse (reading_in b)) e (shows-covers g.table)

  -- there are as many as the header says
  pub read_length : length (letters_towards b e) ≡ size_in b
  read_length = towards-length (rule_of b) e (letters_in b) ∙ letters-length g.sized

-- ---- from left to right

-- one letter more is read
pub read_more : (t : Word) (k : ℕ) → k < length t → take (k + 1) t ≡ take k t ++ (get_or t k 0 ∷ [])
read_more t k h = rw (add-one, take-suc t k 0)

-- what is read stands in the whole
pub read-stands : (t : Word) (k : ℕ) → Stands (take k t) t
read-stands t k = prefix-stands (record { after = drop k t; whole = take-append-drop k t })

module _ {b : Word} (g : Good b) where
  -- before the first letter the row is that of the empty string
  pub holds-first : Holds b 0 1
  holds-first =
      let h = shows-covers g.table in
      record { used = h.row_one.0; holds = h.row_one.1 ∙ ap spelt (sym (suffix-of-empty (longest-suffix (rule_of b) []).suffix)) }

  -- all of them are read when as many are as the header says
  pub read_whole : (k : ℕ) → k ≡ size_in b → take k (letters_in b) ≡ letters_in b
  read_whole k e = rw (e, ← letters-length g.sized) (take-length (letters_in b))

  -- what is read next is a letter
  pub read-letter : (k : ℕ) {d : ℕ} → k < size_in b → d ≡ get_or (letters_in b) k 0 → is_letter d ≡ true
  read-letter k l e = rw e (letter-of (letters_in b) k (omega (arith, letters-length g.sized)) g.letters)

  -- after one letter more it is the row that the step leads to
  module _ {k row d : ℕ} (l : k < size_in b) (e : d ≡ get_or (letters_in b) k 0) (a : Holds b k row) where
    more-letters : k < length (letters_in b)
    more-letters = omega (arith, letters-length g.sized)

    more : take (k + 1) (letters_in b) ≡ take k (letters_in b) ++ (d ∷ [])
    more = rw e (read_more (letters_in b) k more-letters)

    pub good-step : (q : ℕ) → Stepped b (letters_in b) k d (rule_of b d) row q → Holds b (k + 1) q
    good-step q (grown u n m f) =
        let h = shows-covers g.table in
        let w = meets-longest b h (rule-inverse (reading_in b)) (letters_in b) k d (omega (arith, more-letters)) row n (Some u) a.used a.holds m in
        let p = step-there h (take k (letters_in b)) d (subst (λ (x : Word). Stands x (letters_in b)) more (read-stands (letters_in b) (k + 1))) (read-letter k l e) u w.0 w.1 in
        record { used = rw f p.0; holds = rw (f, more) p.1 }
    good-step q (ended n m f) =
        let h = shows-covers g.table in
        let w : longest_suffix (rule_of b) (take k (letters_in b) ++ (d ∷ [])) ≡ [] = meets-longest b h (rule-inverse (reading_in b)) (letters_in b) k d (omega (arith, more-letters)) row n None a.used a.holds m in
        record { used = rw f h.row_one.0; holds = rw (f, more, w) h.row_one.1 }

-- ---- what one letter more brings

module _ {b : Word} (g : Good b) where
  -- a root's row holds the empty word
  pub root-empty : {k last : ℕ} → Holds b k last → last < 2 → ending_in b k ≡ []
  root-empty {k} {last} h m = ⊎_elim (λ e. e) (λ n. absurd (omega (arith, row-high (shows-covers g.table) last h.holds n))) (same_or_not (ending_in b k) [])

  -- which stood before
  pub root-old : (k : ℕ) {last : ℕ} → Holds b (k + 1) last → last < 2 → new_at b k ≡ false
  root-old k h m = ap not (stands-is (ending_in b (k + 1)) (take k (letters_in b)) (rw (root-empty h m) (stands-empty (take k (letters_in b)))))

  module _ {k last : ℕ} (l : k < size_in b) (h : Holds b (k + 1) last) where
    -- a palindrome of the record other than the one that ends there stands if it did before
    pub met-other : (r : ℕ) (w : Word) → used_in b r ≡ true → node_in b r ≡ spelt w → (w ≡ ending_in b (k + 1) → ⊥) → stands w (take k (letters_in b)) ≡ stands w (take (k + 1) (letters_in b))
    met-other r w u e n =
        let m : NodeOf (rule_of b) (letters_in b) (spelt w) = subst (NodeOf (rule_of b) (letters_in b)) e ((shows-covers g.table).each_row r u) in
        let f : same_word w (ending_in b (k + 1)) ≡ false = not-true-false (same_word w (ending_in b (k + 1))) λ t. n (same_true w (ending_in b (k + 1)) t) in
        cc (add-one k, prefix-met (rule_of b) (letters_in b) w k (omega (arith, letters-length g.sized)) m.0, or-false (stands w (take k (letters_in b))))

    -- and that one stands
    pub met-ending : stands (ending_in b (k + 1)) (take (k + 1) (letters_in b)) ≡ true
    met-ending = stands-is (ending_in b (k + 1)) (take (k + 1) (letters_in b)) (suffix-stands (longest-suffix (rule_of b) (take (k + 1) (letters_in b))).suffix)

    -- whose row is its own
    pub ending-row : (r : ℕ) (w : Word) → used_in b r ≡ true → node_in b r ≡ spelt w → w ≡ ending_in b (k + 1) → r ≡ last
    ending-row r w u e i = g.table.one-row r last u h.used (cc h.holds)

-- the row come to spells the longest palindrome that ends the letters read
pub ending-length : {b : Word} {k r : ℕ} → Holds b k r → length (spelling_of (node_in b r)) ≡ length (ending_in b k)
unfolding spelling_of
ending-length h = ap (λ (v : Node). length (spelling_of v)) h.holds

-- which has no more letters than they are
pub ending-most : (b : Word) (k : ℕ) → length (ending_in b k) ≤ k
ending-most b k = omega (arith, suffix-length (longest-suffix (rule_of b) (take k (letters_in b))).suffix, length-take k (letters_in b))
