-- A table that shows an eertree is the eertree, row numbers apart: `is-eertree`. Rests on `Shows` alone, and on that no palindrome is listed twice.
use Prim.Native.Nat.{ℕ}
use native.Mathlib.Omega.{arith}
use mathlib.Core.Path.{◌≡◌, refl, sym, ap, ap₂, ◌∙◌, subst}
use mathlib.Core.Bool.{Bool, true, false, cond}
use mathlib.Core.List.Memᴰ
use mathlib.Core.List.{List, [], ◌∷◌, map, Memᴰ}
use mathlib.Core.Logic.{⊎_elim}
use mathlib.Core.Option.{none, some}
use lib.Dec.{eqb}
use borrow.Author.Tests.{eqb-true}
use Rattle.palindromes.specs.Word.{Word, alphabet, is_letter, member}
use Rattle.palindromes.specs.Record.{palindromes}
use Rattle.palindromes.specs.Node.{Node, imaginary, spelt, spelling_of, around, is_node}
use Rattle.palindromes.specs.Eertree.{nodes, edge_of, Entry, entry_of, eertree, Table, Shows}
use Rattle.palindromes.proofs.Tests.{false-not-true, not-true-false}
use Rattle.palindromes.proofs.Lists.{Once, member-true, member_is}
use Rattle.palindromes.proofs.Palindromes.{palindromes-true, palindromes-once}
use Rattle.eertree.specs.Entries.{edge_held, entry_at, NoneTwice, IsEertree}

-- ---- the nodes, each once

not-imaginary : {w : Word} → spelt w ≡ imaginary → ⊥
not-imaginary e = let z : ◌≡◌ {A = ℕ} 0 1 = cc in omega arith

pub same_word_lem : {v w : Word} → spelt v ≡ spelt w → v ≡ w
same_word_lem e = cc

-- the entries of nodes that differ differ
module _ (σ : ℕ → ℕ) (s : Word) where
  same-node : {u v : Node} → entry_of σ s u ≡ entry_of σ s v → u ≡ v
  unfolding entry_of
  same-node e = ap (λ (x : Entry). x.node) e

  words-once : (l : List Word) → Once l → NoneTwice (map (entry_of σ s) (map spelt l))
  words-once [] h = tt
  words-once (w ∷ l) h = (again, words-once l h.1)
    where
      again : Memᴰ (entry_of σ s (spelt w)) (map (entry_of σ s) (map spelt l)) → ⊥
      again m =
          let v = Memᴰ.of_map (entry_of σ s) (map spelt l) m in
          let u = Memᴰ.of_map spelt l v.1 in
          let e : u.0 ≡ w = same_word_lem (u.2 ∙ same-node v.2) in
          false-not-true h.0 (member_is (subst (λ (x : Word). Memᴰ x l) e u.1))

  -- a root is no word of the list
  not-a-word : (v : Node) (l : List Word) → ((w : Word) → Memᴰ w l → spelt w ≡ v → ⊥) → Memᴰ (entry_of σ s v) (map (entry_of σ s) (map spelt l)) → ⊥
  not-a-word v l h m =
      let u = Memᴰ.of_map (entry_of σ s) (map spelt l) m in
      let w = Memᴰ.of_map spelt l u.1 in
      h w.0 w.1 (w.2 ∙ same-node u.2)

  roots-differ : entry_of σ s imaginary ≡ entry_of σ s (spelt []) → ⊥
  roots-differ e = not-imaginary (sym (same-node e))

  -- the empty word is no mirror repeat
  no-empty : (w : Word) → Memᴰ w (palindromes σ s) → spelt w ≡ spelt [] → ⊥
  no-empty w m e = (palindromes-true σ w s (member_is m)).0.non-empty (same_word_lem e)

  eertree-once : NoneTwice (eertree σ s)
  unfolding eertree nodes
  eertree-once = (
    λ m. ⊎_elim roots-differ (not-a-word imaginary (palindromes σ s) (λ w h e. not-imaginary e)) (Memᴰ.cases_cons m),
    (not-a-word (spelt []) (palindromes σ s) no-empty, words-once (palindromes σ s) (palindromes-once σ s)),
  )

  -- a node is one of the list, and each of the list is one
  listed : (v : Node) → is_node σ s v ≡ true → Memᴰ v (nodes σ s)
  unfolding nodes is_node
  listed imaginary h = Memᴰ.head refl
  listed (spelt []) h = Memᴰ.tail (Memᴰ.head refl)
  listed (spelt (x ∷ w)) h = Memᴰ.tail (Memᴰ.tail (Memᴰ.map spelt (member-true (x ∷ w) (palindromes σ s) h)))

  a_word : (w : Word) → Memᴰ w (palindromes σ s) → is_node σ s (spelt w) ≡ true
  unfolding is_node
  a_word [] m = refl
  a_word (x ∷ w) m = member_is m

  is-node : (v : Node) → Memᴰ v (nodes σ s) → is_node σ s v ≡ true
  unfolding nodes is_node
  is-node v m = ⊎_elim (λ e. rw e refl) (λ h. ⊎_elim (λ e. rw e refl) word (Memᴰ.cases_cons h)) (Memᴰ.cases_cons m)
    where
      word : Memᴰ v (map spelt (palindromes σ s)) → is_node σ s v ≡ true
      word h = let w = Memᴰ.of_map spelt (palindromes σ s) h in subst (λ (u : Node). is_node σ s u ≡ true) w.2 (a_word w.0 w.1)

-- ---- a row is the entry of what it holds

module _ {σ : ℕ → ℕ} {s : Word} {T : Table} {node : ℕ → Node} (h : Shows σ s T node) where
  -- row 0 is not that of a word
  not-zero : (q : ℕ) {w : Word} → node q ≡ spelt w → eqb q 0 ≡ false
  not-zero q e = not-true-false (eqb q 0) (λ z. not-imaginary (sym e ∙ ap node (eqb-true q 0 z) ∙ h.row_zero.1))

  edge-held : (r c : ℕ) → T.used r ≡ true → is_letter c ≡ true → edge_held node (T.edge r c) ≡ edge_of σ s (node r) c
  unfolding edge_held edge_of spelling_of
  edge-held r c u l = go (member (around σ c (node r)) (palindromes σ s)) refl
    where
      go : (t : Bool) → member (around σ c (node r)) (palindromes σ s) ≡ t
          → cond (eqb (T.edge r c) 0) none (some (spelling_of (node (T.edge r c)))) ≡ cond (member (around σ c (node r)) (palindromes σ s)) (some (around σ c (node r))) none
      go true e =
          let there = ((h.edge-is r c u l).there e).1 in
          ap₂ (λ (t : Bool) (v : Node). cond t none (some (spelling_of v))) (not-zero (T.edge r c) there) there
          ∙ ap (λ (t : Bool). cond t (some (around σ c (node r))) none) (sym e)
      go false e =
          ap (λ (q : ℕ). cond (eqb q 0) none (some (spelling_of (node q)))) ((h.edge-is r c u l).nowhere e)
          ∙ ap (λ (t : Bool). cond t (some (around σ c (node r))) none) (sym e)

  edges-held : (r : ℕ) → T.used r ≡ true → map (λ c. edge_held node (T.edge r c)) alphabet ≡ map (edge_of σ s (node r)) alphabet
  unfolding alphabet is_letter
  edges-held r u = cc (edge-held r 65 u refl, edge-held r 67 u refl, edge-held r 71 u refl, edge-held r 84 u refl)

  entry-is : (r : ℕ) → T.used r ≡ true → entry_at T node r ≡ entry_of σ s (node r)
  unfolding entry_at entry_of
  entry-is r u = rw (h.length-is r u, (h.link-is r u).1, (h.inner-is r u).1, edges-held r u) refl

  -- DEMAND 2. The used rows of a table that shows an eertree, row numbers apart, are exactly the eertree's entries, each once
  pub is-eertree : IsEertree σ s T node
  unfolding eertree
  is-eertree =
      record {
        each_row = λ r u. subst (λ (x : Entry). Memᴰ x (eertree σ s)) (sym (entry-is r u)) (Memᴰ.map (entry_of σ s) (listed σ s (node r) (h.each_row r u)));
        each-entry = λ x m.
            let v = Memᴰ.of_map (entry_of σ s) (nodes σ s) m in
            let r = h.each-node v.0 (is-node σ s v.0 v.1) in
            (r.0, r.1, entry-is r.0 r.1 ∙ ap (entry_of σ s) r.2 ∙ v.2);
        one-row = λ r q u v e. h.one-row r q u v (same-node σ s (sym (entry-is r u) ∙ e ∙ entry-is q v));
        entries-once = eertree-once σ s;
      }
