-- The search for a piece in a good store. A piece that disagrees with its reversal is no palindrome, and one that is longer than the record is none of its own. Any other is looked for from its centre outwards, and
-- the row so far must have an edge by each letter. Each step leads to the row of the node that `Search` says is reached; an edge that is missing says that the piece is no palindrome of the record, and the last row is the piece's own.
-- Rests on `Search` and `Mismatch` of palindromes and on the laws of a good store's rows.
use Prim.Native.Nat.{ℕ, ◌+◌, ◌-◌, ◌/◌, ◌%◌, ◌≤◌, ◌<◌, min}
use native.Mathlib.Omega.{arith}
use native.Mathlib.Decide.{dec_lt}
use native.Mathlib.Numerals.{add-one}
use mathlib.Core.Path.{◌≡◌, refl, sym, ap, ap₂, ◌∙◌, subst}
use mathlib.Core.Bool.{Bool, true, false, cond}
use mathlib.Core.Logic.{⊎_elim}
use mathlib.Core.List.{[]}
use lib.Dec.{eqb}
use lib.ListN.{length, get_or, get_or-eq_default}
use Rattle.palindromes.specs.Word.{Word, is_letter, all_letters, member}
use Rattle.palindromes.specs.Palindrome.{Symmetric, first_mismatch}
use Rattle.palindromes.specs.Mismatch.{Mismatch, reported_mismatch}
use Rattle.palindromes.specs.Reading.{rule_in}
use Rattle.palindromes.specs.Record.{palindromes}
use Rattle.palindromes.specs.Node.{imaginary, spelt, around}
use Rattle.palindromes.proofs.Tests.{decided, not-true-false, mismatch-none}
use Rattle.palindromes.proofs.Words.{stands-length}
use Rattle.palindromes.proofs.Palindromes.{palindromes-true, palindromes-is}
use Rattle.palindromes.proofs.Search.{centre_of, reached, reached-start, reached-suc, reached-whole, missing-edge}
use Rattle.palindromes.proofs.Mismatch.{mismatch-rule, mismatch-half}
use Rattle.palindromes.proofs.Readings.{rule-inverse, rule-letter}
use Rattle.palindromes.proofs.Letters.{letter-of, letter-byte, letter-not-zero}
use Rattle.eertree.specs.Covers.{NodeOf}
use Rattle.partners.specs.Table.{PartnersIn}
use Rattle.mismatch.specs.Rule as lent
use Rattle.mismatch.proofs.Rules.{partner-within}
use Rattle.store.specs.Layout.{size_in, reading_in, edge_in, used_in, letters_in}
use Rattle.store.specs.Good.{rule_of, node_in, Good}
use Rattle.store.proofs.Sizes.{letters-length}
use Rattle.transitions.specs.Rows.{row_of}
use Rattle.transitions.proofs.Rows.{covers, row-of}
use Rattle.outcome.specs.declared.answers.Found.{Found}
use Rattle.outcome.specs.declared.answers.Found.TheVariants as found
use Rattle.outcome.specs.Answers.{found_of}
use Rattle.std.specs.Prelude.{Option, Some, None}
use Rattle.search.specs.Search.{is_palindrome_in, reached_of, reached_in, found_in}

-- what is known when the letters of the piece from its middle up to the place k have been read
pub record Along (b p : Word) (k row : ℕ) : Type 0 where
  pub low : length p / 2 ≤ k
  pub high : k ≤ length p
  pub used : used_in b row ≡ true
  pub holds : node_in b row ≡ reached (rule_of b) p k

-- what find answers for a piece that reads alike, by where the edges led
abbrev pub answered : Option ℕ → Found
answered (Some row) = found.At row 0
answered None = found.Absent 0

-- a table of partners is the store's rule on the letters of a piece, so the pairs compared by it are those of the store's reading
pub by-partners : (b p t : Word) → PartnersIn (reading_in b) t → all_letters p ≡ true → (n r : ℕ) → n ≡ length p - length p / 2 → Mismatch (lent.rule_of t) p n r
    → first_mismatch (rule_of b) p ≡ r
by-partners b p t h z n r e m =
    mismatch-half (rule_of b) p (rule-inverse (reading_in b)) n r e (mismatch-rule (lent.rule_of t) (rule_of b) p same n r (omega arith) m)
  where
    same : (i : ℕ) → i < length p → lent.rule_of t (get_or p i 0) ≡ rule_of b (get_or p i 0)
    same i l = sym (partner-within t x (inside (dec_lt x (length t)))) ∙ entry
      where
        x : ℕ
        x = get_or p i 0

        letter : is_letter x ≡ true
        letter = letter-of p i l z

        entry : get_or t x 0 ≡ rule_in (reading_in b) x
        entry = h x (letter-byte x letter)

        -- a letter lies within the table, since its partner is a letter and so not 0
        inside : Dec (x < length t) → x < length t
        inside (yes l) = l
        inside (no l) = absurd (omega (arith, entry, get_or-eq_default t 0 {n = x} (omega arith), letter-not-zero (rule_in (reading_in b) x) (rule-letter (reading_in b) x letter)))

module _ {b : Word} (g : Good b) (p : Word) where
  -- a palindrome of the record agrees with its reversal
  listed-agrees : is_palindrome_in b p ≡ true → first_mismatch (rule_of b) p ≡ 0
  listed-agrees m = mismatch-none (rule_of b) p (palindromes-true (rule_of b) p (letters_in b) m).0.symmetric

  -- ---- what find answers

  -- what it hands on, by the first mismatch
  handed-on : (t : Bool) {n : ℕ} → is_palindrome_in b p ≡ t → first_mismatch (rule_of b) p ≡ n → found_in b p ≡ found_of t (row_of b (spelt p)) (min n 65535)
  unfolding reported_mismatch
  handed-on t e f = ap₂ (λ (t : Bool) (n : ℕ). found_of t (row_of b (spelt p)) (min n 65535)) e f

  pub by-mismatch : {pair r : ℕ} → first_mismatch (rule_of b) p ≡ pair → (pair ≡ 0 → ⊥) → r ≡ min pair 65535 → found.Absent r ≡ found_in b p
  by-mismatch f n e = ap found.Absent e ∙ sym (handed-on false (not-true-false (is_palindrome_in b p) λ m. n (sym f ∙ listed-agrees m)) f)

  pub too_long : first_mismatch (rule_of b) p ≡ 0 → size_in b < length p → found.Absent 0 ≡ found_in b p
  too_long f h =
      sym (handed-on false (not-true-false (is_palindrome_in b p) λ m. omega (arith, letters-length g.sized, stands-length (palindromes-true (rule_of b) p (letters_in b) m).1)) f)

  pub by-edges : first_mismatch (rule_of b) p ≡ 0 → (x : Option ℕ) → x ≡ reached_in b p → answered x ≡ found_in b p
  by-edges f x e = go (is_palindrome_in b p) refl
    where
      go : (t : Bool) → is_palindrome_in b p ≡ t → answered x ≡ found_in b p
      go true h = ap answered (e ∙ ap (λ (t : Bool). reached_of t (row_of b (spelt p))) h) ∙ sym (handed-on true h f)
      go false h = ap answered (e ∙ ap (λ (t : Bool). reached_of t (row_of b (spelt p))) h) ∙ sym (handed-on false h f)

  -- ---- along the edges

  -- it sets out at the root in the centre
  pub along-first : (row : ℕ) → row ≡ cond (eqb (length p % 2) 0) 1 0 → Along b p (length p / 2) row
  unfolding centre_of
  along-first row e =
      let h = go (eqb (length p % 2) 0) in
      record { low = omega arith; high = omega arith; used = rw e h.0; holds = rw e h.1 ∙ sym (reached-start (rule_of b) p) }
    where
      go : (t : Bool) → (used_in b (cond t 1 0) ≡ true) × (node_in b (cond t 1 0) ≡ cond t (spelt []) imaginary)
      go true = (covers g).row_one
      go false = (covers g).row_zero

  module _ (k row : ℕ) (a : Along b p k row) where
    -- the whole piece has been read: it is a palindrome of the record, and the row is its own
    pub along-last : (p ≡ [] → ⊥) → Symmetric (rule_of b) p → k ≡ length p → Some row ≡ reached_in b p
    along-last n s e =
        let h : node_in b row ≡ spelt p = cc (a.holds, reached-whole (rule_of b) p s) in
        let m : NodeOf (rule_of b) (letters_in b) (spelt p) = subst (NodeOf (rule_of b) (letters_in b)) h ((covers g).each_row row a.used) in
        sym (ap₂ reached_of (palindromes-is (rule_of b) p (letters_in b) (record { non-empty = n; symmetric = s }) m.1) (row-of g row (spelt p) a.used h))

    module _ (l : k < length p) (z : all_letters p ≡ true) (q : ℕ) (e : q ≡ edge_in b row (get_or p k 0)) where
      abbrev next : Word
      next = around (rule_of b) (get_or p k 0) (node_in b row)

      letter : is_letter (get_or p k 0) ≡ true
      letter = letter-of p k l z

      -- there is no edge by the next letter
      pub no_edge : q ≡ 0 → None ≡ reached_in b p
      no_edge f =
          let absent : is_palindrome_in b p ≡ false =
          missing-edge (rule_of b) (letters_in b) p k a.low l
          (rw (← a.holds) (not-true-false (member next (palindromes (rule_of b) (letters_in b))) λ m.
          let t = (g.table.edge-is row (get_or p k 0) a.used letter).there m in
          let w : ◌≡◌ {A = ℕ} 0 1 = cc (t.1, e, f, (covers g).row_zero.1) in
          omega arith)) in
          sym (ap (λ (t : Bool). reached_of t (row_of b (spelt p))) absent)

      -- there is one
      pub along-next : (q ≡ 0 → ⊥) → Along b p (k + 1) q
      along-next n =
          ⊎_elim
          (λ m.
          let t = (g.table.edge-is row (get_or p k 0) a.used letter).there m in
          record {
            low = omega (arith, a.low);
            high = omega arith;
            used = rw e t.0;
            holds = rw (e, t.1, add-one) (cc (a.holds, reached-suc (rule_of b) p k a.low l));
          })
          (λ m. absurd (n (e ∙ (g.table.edge-is row (get_or p k 0) a.used letter).nowhere m)))
          (decided (member next (palindromes (rule_of b) (letters_in b))))
