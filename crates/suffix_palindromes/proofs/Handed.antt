-- Numbers that are handed down the links while the letters are read from left to right. The row that a letter leads to gets the number of its palindrome, and every other row whose palindrome stands
-- in what is read had its number before (`handed-next`, `handed-root`). The row's link was met before it (`linked`), so the row's mark is its link's, or 1 if the row is the wanted one
-- (`marks-other`, `marks-wanted`), and its chain is one longer than its link's (`chains-word`). The marks add up to the frequency (`frequency-next`), the chains to all palindromes by their ends
-- (`by-end-next`).
-- Rests on what one letter more brings (`Reading` and `Links` of the walk), on `SuffixPalindromes`, `Frequency` and `Occurrences` of palindromes, and on the laws of a good store's rows: no two hold the same node.
use Prim.Native.Nat.{ℕ, suc, ◌+◌, ◌≤◌, ◌<◌}
use native.Mathlib.Omega.{arith}
use native.Mathlib.Numerals.{add-one}
use native.Mathlib.Decide.{ℕ_discrete}
use mathlib.Core.Path.{◌≡◌, sym, ap, ◌∙◌, subst}
use mathlib.Core.Bool.{Bool, true, false, cond, ◌||◌}
use mathlib.Core.Logic.{◌⊎◌, inl, inr, ⊎_elim}
use mathlib.Core.List.{[]}
use lib.ListN.{length, get_or, set, take, replicate, length-set, length-take, length-replicate, get_or-replicate}
use lib.Seq.{get_or-set_same, get_or-set_other}
use Rattle.palindromes.specs.Word.{Word, same_word, member}
use Rattle.palindromes.specs.Palindrome.{Palindrome}
use Rattle.palindromes.specs.Place.{Stands, frequency}
use Rattle.palindromes.specs.Record.{suffixes, longest_suffix}
use Rattle.palindromes.specs.Occurrences.{occurrences_by_end}
use Rattle.palindromes.specs.Node.{Node, spelt, spelling_of}
use Rattle.palindromes.proofs.Tests.{not-true-false, same_true, same-is}
use Rattle.palindromes.proofs.Lists.{not-in-nil}
use Rattle.palindromes.proofs.Words.{same_or_not, stands-length, stands-of-empty}
use Rattle.palindromes.proofs.Places.{stands-true, stands-is, stands-empty}
use Rattle.palindromes.proofs.SuffixPalindromes.{ending-none, ending-longest, ending-link, ending-few, ends-link}
use Rattle.palindromes.proofs.Frequency.{palindrome-frequency, frequency-empty, frequency-most}
use Rattle.palindromes.proofs.Occurrences.{by-end-empty, prefix-by-end, occurrences-limit}
use Rattle.eertree.proofs.Rows.{word_row}
use Rattle.store.specs.Layout.{size_in, link_in, used_in, letters_in}
use Rattle.store.specs.Good.{rule_of, node_in, Good}
use Rattle.store.proofs.Sizes.{letters-length}
use Rattle.transitions.proofs.Rows.{covers, row_below, size-most}
use Rattle.walk.specs.Replay.{ending_in, Holds}
use Rattle.walk.proofs.Reading.{root-empty, met-other}
use Rattle.walk.proofs.Links.{linked}
use Rattle.suffix_palindromes.specs.Handed.{ending_with, chain_length, Handed, Hands}

-- what a node spells
spells : {n : Node} {w : Word} → n ≡ spelt w → spelling_of n ≡ w
unfolding spelling_of
spells e = ap spelling_of e

-- no word ends the empty one
pub ends-none : (w : Word) → ending_with w [] ≡ 0
unfolding suffixes
ends-none w = ap {B = ℕ} (λ (t : Bool). cond t 1 0) (not-in-nil w)

-- nor any palindrome
pub chain-none : (σ : ℕ → ℕ) → chain_length σ [] ≡ 0
chain-none σ = ap length (ending-none σ)

module _ {b : Word} (g : Good b) where
  -- while a letter is left to read it is one of the record
  read-size : (k : ℕ) → k < size_in b → k < length (letters_in b)
  read-size k l = omega (arith, letters-length g.sized)

  -- ---- the first letter

  -- before it the empty word alone stands
  pub handed-first : {f : Word → ℕ} {values : Word} → f [] ≡ 0 → values ≡ replicate 1026 0 → Handed b f 0 values
  handed-first {f} {values} none z =
      record {
        long = ap length z ∙ length-replicate {A = ℕ} 1026 0;
        tells = λ r v u e s. ap (λ (l : Word). get_or l r 0) z ∙ get_or-replicate 1026 r 0 0 (row_below g r u) ∙ sym (ap f (stands-of-empty s) ∙ none);
      }

  -- ---- one letter more

  module _ {k row : ℕ} (l : k < size_in b) (h : Holds b (k + 1) row) where
    -- a palindrome that stands now ends the letters read, or stood before
    here-or-before : (r : ℕ) (v : Word) → used_in b r ≡ true → node_in b r ≡ spelt v → Stands v (take (k + 1) (letters_in b)) → (v ≡ ending_in b (k + 1)) ⊎ Stands v (take k (letters_in b))
    here-or-before r v u e s =
        ⊎_elim inl (λ n. inr (stands-true v (take k (letters_in b)) (met-other g l h r v u e n ∙ stands-is v (take (k + 1) (letters_in b)) s))) (same_or_not v (ending_in b (k + 1)))

    -- the row gets the number of its word, and the others keep theirs
    handed-next : {f : Word → ℕ} {old : Word} → 2 ≤ row → Handed b f k old → Handed b f (k + 1) (set old row (f (ending_in b (k + 1))))
    handed-next {f} {old} m a = record { long = length-set old row value ∙ a.long; tells = λ r v u e s. go r v u e s (ℕ_discrete r row) }
      where
        value : ℕ
        value = f (ending_in b (k + 1))

        go : (r : ℕ) (v : Word) → used_in b r ≡ true → node_in b r ≡ spelt v → Stands v (take (k + 1) (letters_in b)) → Dec (r ≡ row) → get_or (set old row value) r 0 ≡ f v
        go r v u e s (yes p) =
            let n : v ≡ ending_in b (k + 1) = cc (h.holds, e, p) in
            rw (p, n) (get_or-set_same old row value 0 (omega (arith, a.long, row_below g row h.used)))
        go r v u e s (no p) =
            get_or-set_other old row r value 0 p
            ∙ ⊎_elim (λ n. absurd (p ((covers g).one-row r row u h.used (cc (h.holds, e, n))))) (a.tells r v u e) (here-or-before r v u e s)

    -- where no palindrome ends the letters every number stays
    handed-root : {f : Word → ℕ} {old : Word} → row < 2 → Handed b f k old → Handed b f (k + 1) old
    handed-root {f} {old} m a =
        record {
          long = a.long;
          tells = λ r v u e s. a.tells r v u e (⊎_elim (empty v) (λ t. t) (here-or-before r v u e s));
        }
      where
        empty : (v : Word) → v ≡ ending_in b (k + 1) → Stands v (take k (letters_in b))
        empty v n = rw (n, root-empty g h m) (stands-empty (take k (letters_in b)))

    -- the number of the link
    link-value : {f : Word → ℕ} {old : Word} (m : 2 ≤ row) → Handed b f k old → get_or old (link_in b row) 0 ≡ f (longest_suffix (rule_of b) (linked g l h m).rest)
    link-value m a = let t = linked g l h m in a.tells (link_in b row) (longest_suffix (rule_of b) t.rest) t.used t.holds t.stood

  -- ---- what a row is handed

  -- a root nothing
  pub hands-root : {f : Word → ℕ} {row : ℕ} {old : Word} → f [] ≡ 0 → row < 2 → Hands b f row old old 0
  hands-root {f} none m k l h a = (handed-root l h m a, sym (ap f (root-empty g h m) ∙ none))

  -- any other row what follows from the numbers so far
  hands-word : {f : Word → ℕ} {row value answer : ℕ} {old : Word} → 2 ≤ row → answer ≡ value
      → ((k : ℕ) → k < size_in b → Holds b (k + 1) row → Handed b f k old → value ≡ f (ending_in b (k + 1))) → Hands b f row old (set old row value) answer
  hands-word m e is k l h a = let v = is k l h a in (rw v (handed-next l h m a), e ∙ v)

  -- the length of a chain is one more than that of the link's
  pub chains-word : {row link answer : ℕ} {old : Word} → 2 ≤ row → link ≡ link_in b row → answer ≡ get_or old link 0 + 1
      → Hands b (chain_length (rule_of b)) row old (set old row (get_or old link 0 + 1)) answer
  chains-word {row} {link} {answer} {old} m e p =
      hands-word m p λ k l h a.
      let t = linked g l h m in
      let c : chain_length (rule_of b) (ending_in b (k + 1)) ≡ chain_length (rule_of b) (longest_suffix (rule_of b) t.rest) + 1 =
      ap (chain_length (rule_of b)) t.ends ∙ ap length (ending-link (rule_of b) t.first t.rest t.symmetric) ∙ sym (add-one (chain_length (rule_of b) (longest_suffix (rule_of b) t.rest))) in
      omega (arith, c, link-value l h m a, ap (λ (r : ℕ). get_or old r 0) e)

  -- fewer palindromes than letters end the link, so one more fits
  pub chain-small : {k row : ℕ} {old : Word} → k < size_in b → Holds b (k + 1) row → 2 ≤ row → Handed b (chain_length (rule_of b)) k old → get_or old (link_in b row) 0 < 65535
  chain-small {k} {row} l h m a =
      let t = linked g l h m in
      let v = longest_suffix (rule_of b) t.rest in
      omega (arith, link-value l h m a, ending-few (rule_of b) v, stands-length t.stood, length-take k (letters_in b), l, size-most g)

  module _ {wanted : ℕ} (u : used_in b wanted ≡ true) (w : 2 ≤ wanted) where
    -- the wanted row's palindrome
    abbrev pub wanted_word : Word
    wanted_word = spelling_of (node_in b wanted)

    wanted-holds : node_in b wanted ≡ spelt wanted_word
    wanted-holds = let p = word_row (covers g) wanted u w in p.1 ∙ ap spelt (sym (spells p.1))

    wanted-palindrome : Palindrome (rule_of b) wanted_word
    wanted-palindrome = let p = word_row (covers g) wanted u w in subst (Palindrome (rule_of b)) (sym (spells p.1)) p.2

    -- it ends a word if it is that word, or if it ends that word's link
    wanted-ends : {k row : ℕ} (l : k < size_in b) (h : Holds b (k + 1) row) (m : 2 ≤ row)
        → ending_with wanted_word (ending_in b (k + 1)) ≡ cond (same_word wanted_word (ending_in b (k + 1)) || member wanted_word (suffixes (longest_suffix (rule_of b) (linked g l h m).rest))) 1 0
    wanted-ends {k} {row} l h m =
        let t = linked g l h m in
        rw t.ends (ap {B = ℕ} (λ (x : Bool). cond x 1 0) (ends-link (rule_of b) wanted_word wanted-palindrome t.first t.rest t.symmetric))

    -- the wanted row is marked with 1
    pub marks-wanted : {row value answer : ℕ} {old : Word} → 2 ≤ row → row ≡ wanted → value ≡ 1 → answer ≡ value → Hands b (ending_with wanted_word) row old (set old row value) answer
    marks-wanted {row} m e p q =
        hands-word m q λ k l h a.
        let n : wanted_word ≡ ending_in b (k + 1) = cc (wanted-holds, h.holds, e) in
        let t = longest_suffix (rule_of b) (linked g l h m).rest in
        p ∙ sym (wanted-ends l h m ∙ ap {B = ℕ} (λ (x : Bool). cond (x || member wanted_word (suffixes t)) 1 0) (same-is n))

    -- and any other as its link is
    pub marks-other : {row link value answer : ℕ} {old : Word} → 2 ≤ row → (row ≡ wanted → ⊥) → link ≡ link_in b row → value ≡ get_or old link 0 → answer ≡ value
        → Hands b (ending_with wanted_word) row old (set old row value) answer
    marks-other {row} {link} {value} {answer} {old} m d e p q =
        hands-word m q λ k l h a.
        let v = ending_in b (k + 1) in
        let t = longest_suffix (rule_of b) (linked g l h m).rest in
        let other : same_word wanted_word v ≡ false = not-true-false (same_word wanted_word v) λ s. d ((covers g).one-row row wanted h.used u (cc (wanted-holds, h.holds, same_true wanted_word v s))) in
        p ∙ ap (λ (r : ℕ). get_or old r 0) e ∙ link-value l h m a ∙ sym (wanted-ends l h m ∙ ap {B = ℕ} (λ (x : Bool). cond (x || member wanted_word (suffixes t)) 1 0) other)

    -- ---- what is answered adds up

    -- no letter
    pub frequency-first : frequency wanted_word (take 0 (letters_in b)) ≡ 0
    frequency-first = frequency-empty wanted_word wanted-palindrome.non-empty

    -- a letter more
    pub frequency-next : (k : ℕ) → k < size_in b → frequency wanted_word (take (k + 1) (letters_in b)) ≡ frequency wanted_word (take k (letters_in b)) + ending_with wanted_word (ending_in b (k + 1))
    frequency-next k l = rw (add-one k) (palindrome-frequency (rule_of b) wanted_word wanted-palindrome (letters_in b) k (read-size k l))

    -- never more than the letters
    pub frequency-small : (k : ℕ) → frequency wanted_word (take k (letters_in b)) ≤ k
    frequency-small k = omega (arith, frequency-most wanted_word wanted-palindrome.non-empty (take k (letters_in b)), length-take k (letters_in b))

  -- the same of all palindromes by their ends
  pub by-end-first : occurrences_by_end (rule_of b) (take 0 (letters_in b)) ≡ 0
  by-end-first = by-end-empty (rule_of b)

  pub by-end-next : (k : ℕ) → k < size_in b → occurrences_by_end (rule_of b) (take (k + 1) (letters_in b)) ≡ occurrences_by_end (rule_of b) (take k (letters_in b)) + chain_length (rule_of b) (ending_in b (k + 1))
  by-end-next k l =
      rw (add-one k)
      (prefix-by-end (rule_of b) (letters_in b) k (read-size k l)
      ∙ ap (λ (n : ℕ). occurrences_by_end (rule_of b) (take k (letters_in b)) + n) (ap length (ending-longest (rule_of b) (take (suc k) (letters_in b)))))

  pub by-end-small : (k : ℕ) → occurrences_by_end (rule_of b) (take k (letters_in b)) ≤ 524800
  by-end-small k = occurrences-limit (rule_of b) (take k (letters_in b)) (omega (arith, length-take k (letters_in b), letters-length g.sized, size-most g))
