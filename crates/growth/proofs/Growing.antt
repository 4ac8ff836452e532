-- What a letter makes at an end of a good store. The walk from the end's row, for the letter as it is read towards the end, meets the row around which
-- the letter makes the longest palindrome (`met`), past as many others as the search passes candidates (`passed`). That palindrome stood before exactly if the row's edge by the letter leads on (`found-new`, `found-old`); where the walk meets no row there
-- is none (`found_none`). Of a new palindrome the link is found by a second walk (`link-single`, `link-stepped`), and its length, inner row and outer letter follow (`row-for`).
-- Rests on `Found`, `Towards` and `Reading` of walk, on the laws of a good store (`Rows` of transitions) and on the growth of palindromes.
use Prim.Native.Nat.{ℕ, suc, ◌+◌}
use native.Mathlib.Omega.{arith}
use mathlib.Core.Path.{◌≡◌, refl, sym, ap, ◌∙◌, subst, subst₃}
use mathlib.Core.Bool.{true, not}
use mathlib.Core.Logic.{⊎_elim}
use mathlib.Core.List.{[], ◌∷◌, ◌++◌}
use lib.ListN.{length, take, length-append}
use lib.IntN.{ℤ, pos, pred_ℤ}
use lib.Seq.{take_all}
use Rattle.std.specs.Prelude.{Option, Some, None}
use Rattle.palindromes.specs.Word.{Word, is_letter}
use Rattle.palindromes.specs.Palindrome.{Symmetric}
use Rattle.palindromes.specs.Place.{Suffix, Stands, stands}
use Rattle.palindromes.specs.Record.{longest_suffix}
use Rattle.palindromes.specs.End.{End, at_left, at_right}
use Rattle.palindromes.specs.Node.{Node, imaginary, spelt, length_of, inner_of, around}
use Rattle.palindromes.specs.SearchSteps.{search_steps}
use Rattle.palindromes.proofs.Tests.{not-true-false, false-not-true, decided}
use Rattle.palindromes.proofs.Words.{suffix-append, suffix_trans, suffix-snoc-back, suffix-stands}
use Rattle.palindromes.proofs.Places.{stands-true, stands-is, stands-empty}
use Rattle.palindromes.proofs.Longest.{longest-suffix}
use Rattle.palindromes.proofs.Growth.{link-of-framed, link-of-letter, link-stood, inner-around, letter-around}
use Rattle.palindromes.proofs.Readings.{rule-inverse, rule-letter}
use Rattle.eertree.specs.Covers.{NodeOf}
use Rattle.eertree.proofs.Rows.{reach_of, row-reach-most, imaginary-row}
use Rattle.store.specs.Layout.{cell, size_in, reading_in, end_row, link_in, edge_in, used_in, letters_in}
use Rattle.store.specs.Good.{rule_of, node_in, Good}
use Rattle.store.specs.Lengths.{Stored}
use Rattle.store.specs.Side.{end_of}
use Rattle.store.specs.declared.letters.Side.{Side}
use Rattle.store.specs.declared.rows.Row.{Row}
use Rattle.store.proofs.Sizes.{letters-length}
use Rattle.walk.specs.Walk.{Meets, Stepped, grown, ended, Found}
use Rattle.walk.specs.Frame.{Frames, seen_in, partner_in}
use Rattle.walk.specs.Replay.{letters_towards, letter_towards}
use Rattle.walk.specs.declared.frame.Frame.{Frame}
use Rattle.walk.proofs.Found.{meets-longest, meets-steps, meets-link}
use Rattle.walk.proofs.Towards.{longest-towards, longest-towards-added, stands-towards}
use Rattle.walk.proofs.Stores.{framed-letters, framed-rule}
use Rattle.walk.proofs.Reading.{covers-read, read_length}
use Rattle.transitions.specs.Rows.{row_of}
use Rattle.transitions.specs.Addition.{longest_after, brings_in}
use Rattle.transitions.proofs.Rows.{covers, edges-end, row-of, row-of-empty, edge_row, length-row}
use Rattle.growth.specs.Steps.{read_as, made, link_row, Met, Passed, RowFor, StoodIs}

-- ---- words

-- the length of the word around a node is the node's length plus two
pub around-length : (σ : ℕ → ℕ) (d : ℕ) (v : Node) → length_of (spelt (around σ d v)) ≡ pred_ℤ (pos (reach_of v + 2))
unfolding length_of around
around-length σ d imaginary = refl
around-length σ d (spelt w) =
    let k : suc (suc (length (w ++ (d ∷ [])))) ≡ suc (length w) + 2 = omega (arith, length-append w (d ∷ [])) in
    ap (λ (m : ℕ). pred_ℤ (pos m)) k

-- a letter and its partner, as they are read towards an end: the one is the letter read, and the other that one's partner
pub read-letter : (b : Word) (e : End) (c p : ℕ) → p ≡ rule_of b c → read_as e c p ≡ letter_towards (rule_of b) e c
read-letter b at_right c p h = refl
read-letter b at_left c p h = h

pub read-partner : (b : Word) (e : End) (c p : ℕ) → p ≡ rule_of b c → read_as e p c ≡ rule_of b (read_as e c p)
read-partner b at_right c p h = h
read-partner b at_left c p h = sym (ap (rule_of b) h ∙ rule-inverse (reading_in b) c)

-- a letter as it is read towards an end is a letter
pub letter-read : (b : Word) (e : End) (c d : ℕ) → d ≡ letter_towards (rule_of b) e c → is_letter c ≡ true → is_letter d ≡ true
letter-read b at_right c d f l = rw f l
letter-read b at_left c d f l = rw f (rule-letter (reading_in b) c l)

-- what holds of a walk over the letters that the frame of a store shows, all of them read, holds of the store's letters as they are read towards the end
pub framed : {b : Word} {f : Frame} → Frames b f → (side : Side) (d : ℕ) {start row : ℕ} → start ≡ row → (P : Word → ℕ → ℕ → ℕ → Type 0)
    → P (seen_in b f side) f.n (partner_in f d) start → P (letters_towards b (end_of side)) (size_in b) (rule_of b d) row
framed {b} {f} h side d {start} same P m =
    subst (λ (r : ℕ). P (letters_towards b (end_of side)) (size_in b) (rule_of b d) r) same
    (subst₃ (λ (t : Word) (k want : ℕ). P t k want start) (framed-letters h side) h.size_is (framed-rule h d) m)

-- ---- what is found

module _ {b : Word} (g : Good b) (e : End) where
  -- all the letters are read
  read_all : take (size_in b) (letters_towards b e) ≡ letters_towards b e
  read_all = take_all (size_in b) (letters_towards b e) (omega (arith, read_length g e))

  -- the end's row holds the longest palindrome that ends them
  end-longest : node_in b (end_row b e) ≡ spelt (longest_suffix (rule_of b) (take (size_in b) (letters_towards b e)))
  end-longest = (g.ends e).holds ∙ ap spelt (longest-towards (rule_of b) (rule-inverse (reading_in b)) e (letters_in b) ∙ sym (ap (longest_suffix (rule_of b)) read_all))

  -- ---- the walks

  -- the walk from the end's row meets the row around which the next letter makes the longest palindrome
  pub met : (d n : ℕ) (o : Option ℕ) → Meets b (letters_towards b e) (size_in b) d (rule_of b d) (end_row b e) n o → Met b e d o
  met d n o m =
      subst (λ (q : Word). Found (rule_of b) (used_in b) (node_in b) q d o) read_all
      (meets-longest b (covers-read g e) (rule-inverse (reading_in b)) (letters_towards b e) (size_in b) d (omega (arith, read_length g e)) (end_row b e) n o (g.ends e).used end-longest m)

  -- and passes as many rows as the search passes candidates
  pub passed : (d n : ℕ) (o : Option ℕ) → Meets b (letters_towards b e) (size_in b) d (rule_of b d) (end_row b e) n o → Passed b e d n
  passed d n o m =
      subst (λ (q : Word). n ≡ search_steps (rule_of b) d q) read_all
      (meets-steps b (covers-read g e) (rule-inverse (reading_in b)) (letters_towards b e) (size_in b) d (omega (arith, read_length g e)) (end_row b e) n o (g.ends e).used end-longest m)

  module _ (d u : ℕ) (l : is_letter d ≡ true) (h : Met b e d (Some u)) where
    -- what the letter makes is a palindrome, and ends what is then read
    grown-symmetric : Symmetric (rule_of b) (made b d u)
    grown-symmetric = subst (Symmetric (rule_of b)) h.1 (longest-suffix (rule_of b) (letters_towards b e ++ (d ∷ []))).symmetric

    grown-suffix : Suffix (made b d u) (letters_towards b e ++ (d ∷ []))
    grown-suffix = subst (λ (x : Word). Suffix x (letters_towards b e ++ (d ∷ []))) h.1 (longest-suffix (rule_of b) (letters_towards b e ++ (d ∷ []))).suffix

    -- the link of a letter alone is the empty string
    pub link-single : u ≡ 0 → 1 ≡ link_row b (made b d u)
    link-single z =
        let f : node_in b u ≡ imaginary = ap (node_in b) z ∙ g.table.row_zero.1 in
        cc (f, link-of-letter (rule_of b) d, row-of-empty g)

    -- the walk from the link of a row w, which ends what is read, finds the link of what the letter makes of w
    module _ (w : Word) (f : node_in b u ≡ spelt w) where
      around-word : Suffix (rule_of b d ∷ w ++ (d ∷ [])) (letters_towards b e ++ (d ∷ []))
      unfolding around
      around-word = subst (λ (v : Node). Suffix (around (rule_of b) d v) (letters_towards b e ++ (d ∷ []))) f grown-suffix

      word-ends : Suffix w (take (size_in b) (letters_towards b e))
      word-ends =
          subst (λ (q : Word). Suffix w q) (sym read_all)
          (suffix_trans (suffix-append (rule_of b d ∷ []) w) (suffix-snoc-back {u = rule_of b d ∷ w} d d around-word).0)

      -- that link stood before
      link-node : NodeOf (rule_of b) (letters_in b) (spelt (longest_suffix (rule_of b) (w ++ (d ∷ []))))
      unfolding around
      link-node =
          let y : Symmetric (rule_of b) (rule_of b d ∷ w ++ (d ∷ [])) = subst (λ (v : Node). Symmetric (rule_of b) (around (rule_of b) d v)) f grown-symmetric in
          let m = (longest-suffix (rule_of b) (w ++ (d ∷ []))).symmetric in
          (m, (stands-towards (rule_of b) (rule-inverse (reading_in b)) e m).1 (link-stood (rule_of b) (letters_towards b e) d y (suffix-stands around-word)))

      step-link : (q : ℕ) → Stepped b (letters_towards b e) (size_in b) d (rule_of b d) (link_in b u) q → q ≡ row_of b (spelt (longest_suffix (rule_of b) (w ++ (d ∷ []))))
      step-link q (grown v n m k) =
          let i = meets-link b (covers-read g e) (rule-inverse (reading_in b)) (letters_towards b e) (size_in b) d (omega (arith, read_length g e)) u n (Some v) w h.0 f word-ends m in
          let stood : NodeOf (rule_of b) (letters_in b) (spelt (around (rule_of b) d (node_in b v))) = subst (λ (x : Word). NodeOf (rule_of b) (letters_in b) (spelt x)) i.1 link-node in
          cc (k, edge_row g v i.0 d l stood, i.1)
      step-link q (ended n m k) =
          let i : longest_suffix (rule_of b) (w ++ (d ∷ [])) ≡ [] =
          meets-link b (covers-read g e) (rule-inverse (reading_in b)) (letters_towards b e) (size_in b) d (omega (arith, read_length g e)) u n None w h.0 f word-ends m in
          cc (k, i, row-of-empty g)

    pub link-stepped : (u ≡ 0 → ⊥) → (q : ℕ) → Stepped b (letters_towards b e) (size_in b) d (rule_of b d) (link_in b u) q
        → q ≡ link_row b (made b d u)
    link-stepped n q s = go (node_in b u) refl
      where
        go : (v : Node) → node_in b u ≡ v → q ≡ link_row b (made b d u)
        go imaginary f = absurd (n (imaginary-row (covers g) u h.0 f))
        go (spelt w) f = cc (step-link w f q s, f, link-of-framed (rule_of b) d w)

    -- ---- the row of a new palindrome

    -- a length that is two more than that of the row met is stored as a small number
    pub two-more : {y : ℤ} → y ≡ pred_ℤ (pos (cell b u 0 + 2)) → Stored y
    two-more f =
        let reach = length-row g u h.0 in
        let most = row-reach-most (covers g) u h.0 in
        record {
          number = cell b u 0 + 2;
          small = omega (arith, letters-length g.sized, g.sized.letters-fit, g.sized.at_most);
          is = f;
        }

    -- so the row around it says what is right of the new palindrome
    pub row-for : (row : Row) {link : ℕ} → row.length ≡ pred_ℤ (pos (cell b u 0 + 2)) → row.link ≡ link → row.inner ≡ u → row.outer ≡ d
        → link ≡ link_row b (made b d u) → RowFor b (made b d u) row
    row-for row i j k m found =
        record {
          length-is = cc (i, length-row g u h.0, around-length (rule_of b) d (node_in b u));
          link-is = j ∙ found;
          inner-is = k ∙ sym (row-of g u (inner_of (spelt (made b d u))) h.0 (sym (inner-around (rule_of b) d (node_in b u))));
          outer-is = m ∙ sym (letter-around (rule_of b) d (node_in b u));
          inner-used = rw k h.0;
          small = two-more i;
        }

  -- ---- whether the palindrome is new

  module _ (c d : ℕ) (same : d ≡ letter_towards (rule_of b) e c) where
    -- the longest palindrome at the end after the addition
    longest-read : longest_after e c b ≡ longest_suffix (rule_of b) (letters_towards b e ++ (d ∷ []))
    unfolding longest_after
    longest-read = rw same (longest-towards-added (rule_of b) (rule-inverse (reading_in b)) e c (letters_in b))

    pub longest-met : (u : ℕ) → Met b e d (Some u) → longest_after e c b ≡ made b d u
    longest-met u h = longest-read ∙ h.1

    longest-symmetric : Symmetric (rule_of b) (longest_after e c b)
    longest-symmetric = subst (Symmetric (rule_of b)) (sym longest-read) (longest-suffix (rule_of b) (letters_towards b e ++ (d ∷ []))).symmetric

    -- the walk met none: there is no palindrome, and so none is new
    pub found_none : Met b e d None → StoodIs b e c 1
    unfolding brings_in
    found_none h =
        let f : longest_after e c b ≡ [] = longest-read ∙ h in
        let x : stands (longest_after e c b) (letters_in b) ≡ true = rw f (stands-is [] (letters_in b) (stands-empty (letters_in b))) in
        let r = g.table.row_one in
        record { old = ap not x; used = r.0; holds = cc (r.1, f) }

    module _ (u : ℕ) (l : is_letter d ≡ true) (h : Met b e d (Some u)) where
      -- it stands as a node if it stands
      longest-node : stands (longest_after e c b) (letters_in b) ≡ true → NodeOf (rule_of b) (letters_in b) (spelt (made b d u))
      longest-node x =
          subst (λ (v : Word). NodeOf (rule_of b) (letters_in b) (spelt v)) (longest-met u h)
          (longest-symmetric, stands-true (longest_after e c b) (letters_in b) x)

      -- the edge of the row met leads nowhere: the palindrome is new
      pub found-new : edge_in b u d ≡ 0 → brings_in e c b ≡ true
      unfolding brings_in
      found-new z =
          ap not (not-true-false (stands (longest_after e c b) (letters_in b)) λ x.
          let q = (covers g).edge-there u d h.0 l (longest-node x) in
          let y : ◌≡◌ {A = ℕ} 0 1 = cc (q.1, z, g.table.row_zero.1) in
          omega arith)

      -- it leads on: the palindrome stood before, in the row at the edge
      pub found-old : (edge_in b u d ≡ 0 → ⊥) → StoodIs b e c (edge_in b u d)
      unfolding brings_in
      found-old n = ⊎_elim yes-stood (λ x. absurd (n (edges-end g u d h.0 l λ a. false-not-true x (back a)))) (decided (stands (longest_after e c b) (letters_in b)))
        where
          back : NodeOf (rule_of b) (letters_in b) (spelt (made b d u)) → stands (longest_after e c b) (letters_in b) ≡ true
          back a = stands-is (longest_after e c b) (letters_in b) (subst (λ (v : Word). Stands v (letters_in b)) (sym (longest-met u h)) a.1)

          yes-stood : stands (longest_after e c b) (letters_in b) ≡ true → StoodIs b e c (edge_in b u d)
          yes-stood x =
              let q = (covers g).edge-there u d h.0 l (longest-node x) in
              record { old = ap not x; used = q.0; holds = q.1 ∙ ap spelt (sym (longest-met u h)) }
