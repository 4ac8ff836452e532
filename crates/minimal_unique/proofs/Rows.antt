-- Which rows of a good store hold minimal unique palindromes, by the marks of a row and of its inner row. Rests on 003 lemma 5 (`minimal-by-node` of
-- palindromes).
use Prim.Native.Nat.{ℕ, zero, suc, ◌≤◌, ◌<◌}
use native.Mathlib.Omega.{arith}
use native.Mathlib.Decide.{dec_lt}
use mathlib.Core.Path.{◌≡◌, refl, sym, ap, ◌∙◌, subst}
use mathlib.Core.Bool.{Bool, true, false, ◌&&◌}
use mathlib.Core.Logic.{inl, inr}
use mathlib.Core.List.{[]}
use lib.Dec.{ltb, eqb}
use lib.ListN.{get_or}
use borrow.Author.Tests.{eq-eqb, ne_eqb, lt-ltb, le-ltb}
use Rattle.palindromes.specs.Word.{Word}
use Rattle.palindromes.specs.Place.{frequency}
use Rattle.palindromes.specs.Node.{Node, spelt, inner_of, spelling_of}
use Rattle.palindromes.specs.MinimalUnique.{is_repeating, is_minimal_unique}
use Rattle.palindromes.proofs.Palindromes.{palindromes-is}
use Rattle.palindromes.proofs.MinimalUnique.{repeating-empty, repeating-some, minimal-empty, minimal-by-node}
use Rattle.eertree.proofs.Rows.{word_row}
use Rattle.store.specs.Layout.{size_in, used_in, inner_in, letters_in}
use Rattle.store.specs.Good.{rule_of, node_in, Good}
use Rattle.transitions.proofs.Rows.{covers}
use Rattle.walk.proofs.Reading.{read_whole}
use Rattle.unique_rows.specs.Marks.{StandsFor, Marks}

-- the row's palindrome is minimal unique
abbrev pub minimal_in : Word → ℕ → Bool
minimal_in b r = is_minimal_unique (rule_of b) (letters_in b) (spelling_of (node_in b r))

-- a mark is 1 exactly of what stands once, and 2 exactly of what stands more often
marked-once : {m n : ℕ} → StandsFor m n → m ≡ 1 → n ≡ 1
marked-once (inl h) e = omega arith
marked-once (inr h) e = absurd (omega arith)

not-marked-once : {m n : ℕ} → StandsFor m n → (m ≡ 1 → ⊥) → n ≡ 1 → ⊥
not-marked-once (inl h) d e = d (omega arith)
not-marked-once (inr h) d e = omega arith

marked-twice : {m n : ℕ} → StandsFor m n → ltb 1 n ≡ eqb m 2
marked-twice {m} {n} (inl h) = le-ltb 1 n (omega arith) ∙ sym (ne_eqb m 2 λ e. omega arith)
marked-twice {m} {n} (inr h) = lt-ltb 1 n h.1 ∙ sym (eq-eqb m 2 h.0)

module _ {b : Word} (g : Good b) where
  -- a root's row spells nothing
  root-spells : (r : ℕ) → r < 2 → spelling_of (node_in b r) ≡ []
  unfolding spelling_of
  root-spells zero l = ap spelling_of (covers g).row_zero.1
  root-spells (suc zero) l = ap spelling_of (covers g).row_one.1
  root-spells (suc (suc r)) l = absurd (omega arith)

  pub root-not : (r : ℕ) → r < 2 → minimal_in b r ≡ false
  root-not r l = ap (is_minimal_unique (rule_of b) (letters_in b)) (root-spells r l) ∙ minimal-empty (rule_of b) (letters_in b)

  -- by how often the row's palindrome stands, and what its inner row spells
  by-inner : (r : ℕ) (u : used_in b r ≡ true) (l : 2 ≤ r)
      → minimal_in b r ≡ (eqb (frequency (word_row (covers g) r u l).0 (letters_in b)) 1 && is_repeating (spelling_of (node_in b (inner_in b r))) (letters_in b))
  unfolding spelling_of
  by-inner r u l =
      let held = word_row (covers g) r u l in
      let w = held.0 in
      let inner : inner_of (spelt w) ≡ node_in b (inner_in b r) = ap inner_of (sym held.1) ∙ sym ((covers g).inner-is r u).1 in
      ap (λ (v : Node). is_minimal_unique (rule_of b) (letters_in b) (spelling_of v)) held.1
      ∙ minimal-by-node (rule_of b) (letters_in b) w
      ∙ rw (palindromes-is (rule_of b) w (letters_in b) held.2 held.3, inner) refl

  module _ {marks : Word} (a : Marks b (size_in b) marks) where
    -- the mark of a row, once all letters are read
    mark_of : (r : ℕ) (u : used_in b r ≡ true) (l : 2 ≤ r) → StandsFor (get_or marks r 0) (frequency (word_row (covers g) r u l).0 (letters_in b))
    mark_of r u l =
        let held = word_row (covers g) r u l in
        subst (λ (s : Word). StandsFor (get_or marks r 0) (frequency held.0 s)) (read_whole g (size_in b) refl) (a.each r held.0 u l held.1)

    -- whether an inner row spells nothing or stands at least twice
    repeating : (r : ℕ) → used_in b r ≡ true → is_repeating (spelling_of (node_in b r)) (letters_in b) ≡ eqb (get_or marks r 0) 2
    unfolding spelling_of
    repeating r u = go (dec_lt r 2)
      where
        go : Dec (r < 2) → is_repeating (spelling_of (node_in b r)) (letters_in b) ≡ eqb (get_or marks r 0) 2
        go (yes l) = rw (root-spells r l) (repeating-empty (letters_in b) ∙ sym (eq-eqb (get_or marks r 0) 2 (a.root r l)))
        go (no l) =
            let held = word_row (covers g) r u (omega arith) in
            rw held.1 (repeating-some held.0 (letters_in b) held.2.non-empty ∙ marked-twice (mark_of r u (omega arith)))

    pub not-once : (r : ℕ) → used_in b r ≡ true → (get_or marks r 0 ≡ 1 → ⊥) → minimal_in b r ≡ false
    not-once r u d = go (dec_lt r 2)
      where
        go : Dec (r < 2) → minimal_in b r ≡ false
        go (yes l) = root-not r l
        go (no l) =
            let m : 2 ≤ r = omega arith in
            let other = ne_eqb (frequency (word_row (covers g) r u m).0 (letters_in b)) 1 (not-marked-once (mark_of r u m) d) in
            by-inner r u m ∙ rw other refl

    pub once : (r : ℕ) → used_in b r ≡ true → get_or marks r 0 ≡ 1 → minimal_in b r ≡ eqb (get_or marks (inner_in b r) 0) 2
    once r u e = go (dec_lt r 2)
      where
        go : Dec (r < 2) → minimal_in b r ≡ eqb (get_or marks (inner_in b r) 0) 2
        go (yes l) = absurd (omega (arith, a.root r l))
        go (no l) =
            let m : 2 ≤ r = omega arith in
            let alone = eq-eqb (frequency (word_row (covers g) r u m).0 (letters_in b)) 1 (marked-once (mark_of r u m) e) in
            by-inner r u m ∙ rw alone (repeating (inner_in b r) ((covers g).inner-is r u).0)
