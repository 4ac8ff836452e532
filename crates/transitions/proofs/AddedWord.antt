-- The word that an addition can bring in, before any byte is written. Where the longest palindrome v at the call's end stood before, the palindromes stay. Where it did not, the record has
-- v more: v is then not empty, it is the word around its inner node by its last letter, that letter is one of the record's, and its inner node and its link are nodes of the record before.
-- Rests on `one-more-added` of the eertree, on `around-inner`, `inner-of` and `link-stands`, and on the rows of a good store.
use Prim.Native.Nat.{ℕ, ◌+◌, ◌≤◌, ◌<◌}
use native.Mathlib.Omega.{arith}
use mathlib.Core.Path.{◌≡◌, ap, ◌∙◌}
use mathlib.Core.Bool.{true, false}
use mathlib.Core.Logic.{⊎_elim}
use mathlib.Core.List.{[], ◌∷◌}
use lib.ListN.{length}
use borrow.Author.Tests.{not-true, not-false}
use Rattle.palindromes.specs.Word.{Word, is_letter, all_letters}
use Rattle.palindromes.specs.Palindrome.{Symmetric}
use Rattle.palindromes.specs.Place.{Stands, stands}
use Rattle.palindromes.specs.End.{End, at_right, added, letter_at}
use Rattle.palindromes.specs.Node.{Node, imaginary, spelt, link_of, inner_of, spelling_of, around}
use Rattle.palindromes.proofs.Tests.{both-are}
use Rattle.palindromes.proofs.Words.{stands-length, added-length}
use Rattle.palindromes.proofs.Longest.{longest-suffix}
use Rattle.palindromes.proofs.Places.{stands-true, stands-false}
use Rattle.palindromes.proofs.NewIn.{longest-at}
use Rattle.palindromes.proofs.Growth.{inner-of, link-stands, around-inner}
use Rattle.palindromes.proofs.Readings.{rule-inverse}
use Rattle.eertree.specs.Covers.{NodeOf}
use Rattle.eertree.proofs.Rows.{reach_of, link-reach, inner-reach}
use Rattle.eertree.proofs.Grow.{OneMore, one-more-added}
use Rattle.eertree.proofs.Lengths.{more-palindrome, more-letters}
use Rattle.store.specs.Layout.{capacity_in, size_in, reading_in, used_in, letters_in}
use Rattle.store.specs.Good.{rule_of, node_in, Good}
use Rattle.store.proofs.Sizes.{letters-length}
use Rattle.transitions.specs.Rows.{row_of}
use Rattle.transitions.specs.Addition.{longest_after, brings_in}
use Rattle.transitions.proofs.Letters.{letters-piece, letters-added, letter-at-end}
use Rattle.transitions.proofs.Rows.{row-of-node}

-- ---- one palindrome more

-- the link of a palindrome stands where it does
link-of : (σ : ℕ → ℕ) (w : Word) {s : Word} → Symmetric σ w → Stands w s → Symmetric σ (spelling_of (link_of σ (spelt w))) × Stands (spelling_of (link_of σ (spelt w))) s
unfolding spelling_of link_of
link-of σ [] m p = (m, p)
link-of σ (x ∷ w) m p = ((longest-suffix σ w).symmetric, link-stands σ p)

module _ {σ : ℕ → ℕ} {s t w : Word} (o : OneMore σ s t w) where
  -- a node of t that is shorter is a node of s
  shorter-old : (v : Node) → Symmetric σ (spelling_of v) × Stands (spelling_of v) t → reach_of v < reach_of (spelt w) → NodeOf σ s v
  unfolding spelling_of
  shorter-old imaginary p l = tt
  shorter-old (spelt x) p l = (p.0, ⊎_elim (λ e. absurd (omega (arith, ap length e))) (λ q. q) (o.only x p.0 p.1))

  not-imaginary : spelt w ≡ imaginary → ⊥
  not-imaginary e = let z : ◌≡◌ {A = ℕ} 0 1 = cc in omega arith

  -- so its inner node is one of s
  pub inner-old : NodeOf σ s (inner_of (spelt w))
  inner-old = shorter-old (inner_of (spelt w)) (inner-of σ w o.symmetric o.there) (inner-reach (spelt w) not-imaginary)

  -- and so is its link
  pub link-old : NodeOf σ s (link_of σ (spelt w))
  link-old = shorter-old (link_of σ (spelt w)) (link-of σ w o.symmetric o.there) (link-reach σ (spelt w) not-imaginary)

-- ---- an addition

-- where the longest palindrome at the call's end stood nowhere, the record has it more
pub brought : (e : End) (c : ℕ) (b : Word) → brings_in e c b ≡ true → OneMore (rule_of b) (letters_in b) (added e c (letters_in b)) (longest_after e c b)
unfolding brings_in longest_after
brought e c b k = one-more-added (rule_of b) (rule-inverse (reading_in b)) e (letters_in b) c (stands-false (longest_after e c b) (letters_in b) (not-true (stands (longest_after e c b) (letters_in b)) k))

-- it stands in the letters after the addition, so a store that has room for the letter has room for it
longest-in : (e : End) (c : ℕ) (b : Word) → Symmetric (rule_of b) (longest_after e c b) × Stands (longest_after e c b) (added e c (letters_in b))
unfolding longest_after
longest-in e c b = longest-at (rule_of b) (rule-inverse (reading_in b)) e (added e c (letters_in b))

pub longest-room : {b : Word} → Good b → size_in b < capacity_in b → (e : End) (c : ℕ) → length (longest_after e c b) ≤ capacity_in b
longest-room {b} g h e c = omega (arith, stands-length (longest-in e c b).1, added-length e c (letters_in b), letters-length g.sized)

-- what an addition asks for: a good store, a letter, and room for it
pub record Accepted (e : End) (c : ℕ) (b : Word) : Type 0 where
  pub good : Good b
  pub letter : is_letter c ≡ true
  pub room : size_in b < capacity_in b

-- the rows of the inner node and of the link of that longest palindrome, and its last letter
abbrev pub inner_row : End → ℕ → Word → ℕ
inner_row e c b = row_of b (inner_of (spelt (longest_after e c b)))

abbrev pub link_row : End → ℕ → Word → ℕ
link_row e c b = row_of b (link_of (rule_of b) (spelt (longest_after e c b)))

abbrev pub last_letter : End → ℕ → Word → ℕ
last_letter e c b = letter_at at_right (longest_after e c b)

module _ {e : End} {c : ℕ} {b : Word} (a : Accepted e c b) where
  -- the letters after it
  pub letters-after : all_letters (added e c (letters_in b)) ≡ true
  letters-after = letters-added e c (letters_in b) ∙ both-are (is_letter c) (all_letters (letters_in b)) a.letter a.good.letters

  pub length-after : length (added e c (letters_in b)) ≡ size_in b + 1
  length-after = omega (arith, added-length e c (letters_in b), letters-length a.good.sized)

  -- the longest palindrome at the call's end stands in them, and has room in the store
  pub longest-stands : Symmetric (rule_of b) (longest_after e c b) × Stands (longest_after e c b) (added e c (letters_in b))
  longest-stands = longest-in e c b

  pub longest-fits : length (longest_after e c b) ≤ capacity_in b
  longest-fits = longest-room a.good a.room e c

  -- it stood before, and then its row is used
  pub stood : brings_in e c b ≡ false → Stands (longest_after e c b) (letters_in b)
  unfolding brings_in
  stood k = stands-true (longest_after e c b) (letters_in b) (not-false (stands (longest_after e c b) (letters_in b)) k)

  pub longest-found : brings_in e c b ≡ false → (used_in b (row_of b (spelt (longest_after e c b))) ≡ true) × (node_in b (row_of b (spelt (longest_after e c b))) ≡ spelt (longest_after e c b))
  longest-found k = row-of-node a.good (spelt (longest_after e c b)) (longest-stands.0, stood k)

  module _ (k : brings_in e c b ≡ true) where
    -- or the record has it more
    pub one_more : OneMore (rule_of b) (letters_in b) (added e c (letters_in b)) (longest_after e c b)
    one_more = brought e c b k

    -- and then the rows of its inner node and of its link are used
    pub inner-found : (used_in b (inner_row e c b) ≡ true) × (node_in b (inner_row e c b) ≡ inner_of (spelt (longest_after e c b)))
    inner-found = row-of-node a.good (inner_of (spelt (longest_after e c b))) (inner-old one_more)

    pub link-found : (used_in b (link_row e c b) ≡ true) × (node_in b (link_row e c b) ≡ link_of (rule_of b) (spelt (longest_after e c b)))
    link-found = row-of-node a.good (link_of (rule_of b) (spelt (longest_after e c b))) (link-old one_more)

    -- it has a letter
    pub longer-than-none : 0 < length (longest_after e c b)
    longer-than-none = more-letters one_more

    -- its last letter is a letter
    pub last_letter_lem : is_letter (last_letter e c b) ≡ true
    last_letter_lem = letter-at-end at_right (longest_after e c b) (more-palindrome one_more).non-empty (letters-piece longest-stands.1 letters-after)

    -- and it is the word around its inner row by that letter
    pub word-around : longest_after e c b ≡ around (rule_of b) (last_letter e c b) (node_in b (inner_row e c b))
    word-around = cc (around-inner (rule_of b) (longest_after e c b) (more-palindrome one_more).non-empty longest-stands.0, inner-found.1)
