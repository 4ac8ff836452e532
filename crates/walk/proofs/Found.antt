-- What the walk along the links finds, over the rows of a store that cover a record: the longest palindrome with one letter more, and whether there is any. `Meets` says what the walk does in
-- terms of the store's bytes; here each of its tests is read as a fact of words. The walk may be for the letters read, from the longest palindrome that ends them (`meets-longest`), or
-- for a palindrome that ends them, from its link (`meets-link`), which finds the link of what the palindrome grows to.
-- The rows are those of a store of which any set is used, so that a store that is met row by row is meant too.
-- Rests on `Walk` and `Faces` of palindromes, on the laws of tables, and for `Chain` on the fall of the links.
use Prim.Native.Nat.{ℕ, zero, suc, ◌+◌, ◌*◌, ◌-◌, ◌≤◌, ◌<◌}
use native.Mathlib.Omega.{arith}
use mathlib.Core.Path.{◌≡◌, refl, sym, ap, ◌∙◌, subst}
use mathlib.Core.Bool.{Bool, true, false, ◌&&◌}
use mathlib.Core.Logic.{◌⊎◌, inl, inr, ⊎_elim, ◌↔◌}
use mathlib.Core.List.{◌∷◌}
use lib.Dec.{leb, eqb}
use lib.ListN.{length, get_or, take}
use lib.Seq.{length-take-le, get_or-take}
use borrow.Author.Tests.{leb-true, le-leb, eqb-true, eqb-false, eq-eqb}
use Rattle.std.specs.Prelude.{Option}
use Rattle.palindromes.specs.Word.{Word}
use Rattle.palindromes.specs.Palindrome.{SelfInverse}
use Rattle.palindromes.specs.Place.{Suffix}
use Rattle.palindromes.specs.Record.{longest_suffix}
use Rattle.palindromes.specs.Node.{Node, imaginary, spelt, link_of}
use Rattle.palindromes.proofs.Tests.{both_true, both-are, false-not-true, decided}
use Rattle.palindromes.proofs.Words.{suffix_refl, suffix_trans}
use Rattle.palindromes.specs.SearchSteps.{search_steps}
use Rattle.palindromes.proofs.SearchSteps.{steps_from, steps-start, steps-imaginary, steps-served, steps-passed}
use Rattle.palindromes.proofs.Growth.{Walk, Faces, preceded-within, nothing-longest, walk-hit, walk-from-link}
use Rattle.eertree.specs.Covers.{NodeOf, Covers, with_used}
use Rattle.eertree.proofs.Rows.{reach_of, link-reach, row-reach, imaginary-row, link-falls, faces-at, faces-outside}
use Rattle.eertree.proofs.Replay.{walk_first, walk-next}
use Rattle.store.specs.Layout.{cell, length_in, link_in}
use Rattle.store.specs.Good.{table_in}
use Rattle.walk.specs.Walk.{Found, faces_at, Chain, root, further, Meets, letter, nothing, here, onward}

-- the used rows lie within the store
abbrev pub RowsFit : Word → (ℕ → Bool) → Type 0
RowsFit b used = (r : ℕ) → used r ≡ true → 24 * r + 24 ≤ length b

-- ---- one test of the walk

-- of the first k letters of t: the test at the place that a word's length tells says which letter stands before the word
faces-test : (t : Word) (k want : ℕ) (u : Word) → k ≤ length t → Suffix u (take k t)
    → ((leb (suc (length u)) k && eqb (get_or t (k - suc (length u)) 0) want) ≡ true) ↔ Suffix (want ∷ u) (take k t)
faces-test t k want u l a = (there, back)
  where
    p : Word
    p = take k t

    size : length p ≡ k
    size = length-take-le k t l

    same : suc (length u) ≤ k → get_or t (k - suc (length u)) 0 ≡ get_or p (length p - suc (length u)) 0
    same h = rw size (sym (get_or-take k t (k - suc (length u)) 0 (omega arith)))

    there : (leb (suc (length u)) k && eqb (get_or t (k - suc (length u)) 0) want) ≡ true → Suffix (want ∷ u) p
    there e =
        let b = both_true (leb (suc (length u)) k) (eqb (get_or t (k - suc (length u)) 0) want) e in
        let h = leb-true (suc (length u)) k b.0 in
        (faces-at want u p a (omega (arith, size))).0 (sym (same h) ∙ eqb-true (get_or t (k - suc (length u)) 0) want b.1)

    back : Suffix (want ∷ u) p → (leb (suc (length u)) k && eqb (get_or t (k - suc (length u)) 0) want) ≡ true
    back s =
        let h : suc (length u) ≤ k = omega (arith, size, faces-outside s) in
        both-are (leb (suc (length u)) k) (eqb (get_or t (k - suc (length u)) 0) want)
        (le-leb (suc (length u)) k h)
        (eq-eqb (get_or t (k - suc (length u)) 0) want (same h ∙ (faces-at want u p a (faces-outside s)).1 s))

-- and the same in a word q that ends them, for a word that is shorter than q, or where q is all of them
faces-within : (t : Word) (k want : ℕ) (q u : Word) → k ≤ length t → Suffix q (take k t) → Suffix u q → (length u < length q) ⊎ (q ≡ take k t)
    → ((leb (suc (length u)) k && eqb (get_or t (k - suc (length u)) 0) want) ≡ true) ↔ Suffix (want ∷ u) q
faces-within t k want q u l x a (inl m) =
    let f = faces-test t k want u l (suffix_trans a x) in
    let g = preceded-within want x m in
    (λ e. g.1 (f.0 e), λ p. f.1 (g.0 p))
faces-within t k want q u l x a (inr e) = rw e (faces-test t k want u l (rw e at a))

module _ {σ : ℕ → ℕ} {s : Word} (b : Word) {used : ℕ → Bool} {node : ℕ → Node} (h : Covers σ s (with_used used (table_in b)) node) where
  -- ---- the rows of the store

  -- the number stored as a row's length is the row's reach
  pub stored-reach : (r : ℕ) → used r ≡ true → cell b r 0 ≡ reach_of (node r)
  unfolding length_in
  stored-reach r u = row-reach h r (cell b r 0) u refl

  -- by the reach of a row, for `chain`
  chain-within : RowsFit b used → (n r : ℕ) → used r ≡ true → reach_of (node r) < n → Chain b r
  chain-within fit zero r u l = absurd (omega arith)
  chain-within fit (suc n) r u l = go (decided (eqb r 0)) (chain-within fit n (link_in b r) (h.link-is r u).0)
    where
      go : (eqb r 0 ≡ true) ⊎ (eqb r 0 ≡ false) → (reach_of (node (link_in b r)) < n → Chain b (link_in b r)) → Chain b r
      go (inl e) ih = let z = eqb-true r 0 e in root z (omega (arith, fit 0 h.row_zero.0))
      go (inr e) ih =
          let z = eqb-false r 0 e in
          let f = link-falls h r u z in
          further (fit r u) (omega (arith, f, stored-reach r u, stored-reach (link_in b r) (h.link-is r u).0)) (ih (omega (arith, f)))

  -- so from every used row the links lead down to row 0: what the walk's code asks of the store
  pub chain : RowsFit b used → (r : ℕ) → used r ≡ true → Chain b r
  chain fit r u = chain-within fit (suc (reach_of (node r))) r u (omega arith)

  -- the test of the walk at a row other than row 0 says whether the partner of d stands before the row's word, in the letters read and in a palindrome that ends them
  faces-row : (t : Word) (k d : ℕ) (q : Word) → k ≤ length t → Suffix q (take k t) → (r : ℕ) → used r ≡ true → (r ≡ 0 → ⊥)
      → Walk σ d q (node r) → (reach_of (node r) ≤ length q) ⊎ (q ≡ take k t) → (faces_at b t k (σ d) r ≡ true) ↔ Faces σ d q (node r)
  faces-row t k d q l x r u n a i = go (node r) refl
    where
      go : (v : Node) → node r ≡ v → (faces_at b t k (σ d) r ≡ true) ↔ Faces σ d q (node r)
      go imaginary e = absurd (n (imaginary-row h r u e))
      go (spelt w) e =
          let c = subst (Walk σ d q) e a in
          rw (stored-reach r u, e) (faces-within t k (σ d) q w l x c.suffix (rw e at i))

  -- ---- the walk

  module _ (inv : SelfInverse σ) (t : Word) (k d : ℕ) (l : k ≤ length t) where
    -- the walk for d in a word q that ends the letters read, from a row whose word is shorter than q, or from any if q is all that is read: it finds what is longest behind q with d
    pub meets-within : (q : Word) → Suffix q (take k t) → (r n : ℕ) (o : Option ℕ) → used r ≡ true → Walk σ d q (node r) → (reach_of (node r) ≤ length q) ⊎ (q ≡ take k t)
        → Meets b t k d (σ d) r n o → Found σ used node q d o
    meets-within q x r n o u a i (letter e w m z) =
        let f = h.row_zero in
        rw z (f.0, rw f.1 (walk-hit σ inv d q imaginary (subst (Walk σ d q) (ap node e ∙ f.1) a) w))
    meets-within q x r n o u a i (nothing e w m z) = rw z (nothing-longest σ d q (subst (Walk σ d q) (ap node e ∙ h.row_zero.1) a) w)
    meets-within q x r n o u a i (here z f m e) = rw e (u, walk-hit σ inv d q (node r) a ((faces-row t k d q l x r u z a i).0 f))
    meets-within q x r n o u a i (onward {m = m} z f g e) =
        meets-within q x (link_in b r) m o (h.link-is r u).0
        (walk-next h d q r u a λ y. false-not-true f ((faces-row t k d q l x r u z a i).1 y))
        (⊎_elim (λ j. inl (omega (arith, link-falls h r u z))) inr i) g

    -- from the row of the longest palindrome that ends the letters read: it finds the longest with d
    pub meets-longest : (r n : ℕ) (o : Option ℕ) → used r ≡ true → node r ≡ spelt (longest_suffix σ (take k t)) → Meets b t k d (σ d) r n o → Found σ used node (take k t) d o
    meets-longest r n o u e m = meets-within (take k t) suffix_refl r n o u (walk_first σ d (take k t) (node r) e) (inr refl) m

    -- and it passes as many rows as the search passes candidates
    steps-within : (r n : ℕ) (o : Option ℕ) → used r ≡ true → Walk σ d (take k t) (node r) → Meets b t k d (σ d) r n o → n ≡ steps_from σ d (take k t) (node r)
    steps-within r n o u a (letter e w m z) = m ∙ sym (ap (steps_from σ d (take k t)) (ap node e ∙ h.row_zero.1) ∙ steps-imaginary σ d (take k t))
    steps-within r n o u a (nothing e w m z) = m ∙ sym (ap (steps_from σ d (take k t)) (ap node e ∙ h.row_zero.1) ∙ steps-imaginary σ d (take k t))
    steps-within r n o u a (here z f m e) = m ∙ sym (steps-served σ d (take k t) (node r) (λ y. z (imaginary-row h r u y)) a ((faces-row t k d (take k t) l suffix_refl r u z a (inr refl)).0 f))
    steps-within r n o u a (onward {m = m} z f g e) =
        let miss : Faces σ d (take k t) (node r) → ⊥ = λ y. false-not-true f ((faces-row t k d (take k t) l suffix_refl r u z a (inr refl)).1 y) in
        let next = steps-within (link_in b r) m o (h.link-is r u).0 (walk-next h d (take k t) r u a miss) g in
        e ∙ ap (λ (i : ℕ). i + 1) next ∙ sym (steps-passed σ d (take k t) (node r) (λ y. z (imaginary-row h r u y)) a miss ∙ ap (λ (v : Node). steps_from σ d (take k t) v + 1) (sym (h.link-is r u).1))

    pub meets-steps : (r n : ℕ) (o : Option ℕ) → used r ≡ true → node r ≡ spelt (longest_suffix σ (take k t)) → Meets b t k d (σ d) r n o → n ≡ search_steps σ d (take k t)
    meets-steps r n o u e m =
        steps-within r n o u (walk_first σ d (take k t) (node r) e) m ∙ ap (steps_from σ d (take k t)) e ∙ steps-start σ d (take k t)

    -- from the link of the row of a palindrome w that ends them: it finds the longest behind w with d, which is the link of what d makes of w
    pub meets-link : (u n : ℕ) (o : Option ℕ) (w : Word) → used u ≡ true → node u ≡ spelt w → Suffix w (take k t) → Meets b t k d (σ d) (link_in b u) n o → Found σ used node w d o
    meets-link u n o w m e x g =
        let i = h.link-is u m in
        let f : node (link_in b u) ≡ link_of σ (spelt w) = i.1 ∙ ap (link_of σ) e in
        let v : NodeOf σ s (spelt w) = subst (NodeOf σ s) e (h.each_row u m) in
        meets-within w x (link_in b u) n o i.0
        (subst (Walk σ d w) (sym f) (walk-from-link σ d w v.0))
        (inl (omega (arith, ap reach_of f, link-reach σ (spelt w) λ z. let y : ◌≡◌ {A = ℕ} 0 1 = cc in omega arith)))
        g
