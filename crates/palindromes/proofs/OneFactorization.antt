-- There is one factorization of a word that 02 (xiv) asks for (`factorization-one`): two such have as many factors, of the same lengths, and so are the
-- same. So whichever has the property has the number and the ends of the recurrence (`factors-are`). Rests on `MinimalFactorization`.
use Prim.Native.Nat.{ℕ, ◌<◌}
use native.Mathlib.Omega.{arith}
use mathlib.Core.Path.{◌≡◌, refl, sym, ap, ◌∙◌}
use mathlib.Core.Bool.{true, ◌&&◌}
use mathlib.Core.Logic.{◌⊎◌, inl, inr, ⊎_elim}
use mathlib.Core.List.{List, [], ◌∷◌, map, reverse, flatten, reverse-reverse}
use lib.Dec.{ltb, eqb}
use lib.ListN.{length, take, drop, length-map, length-reverse}
use lib.Seq.{take_at, drop_at}
use borrow.Author.Tests.{ltb-true, eqb-true}
use Rattle.palindromes.specs.Word.{Word}
use Rattle.palindromes.proofs.Tests.{both_true}
use Rattle.palindromes.proofs.Lists.{either_true}
use Rattle.palindromes.specs.Factorization.{ends_of, lengths_from_last, not_above, MinimalFactorization, palindromic_length, factor_ends}
use Rattle.palindromes.proofs.MinimalFactorization.{factorization-minimal}

-- ---- lengths

-- what the test says
not-above-true : (x y : ℕ) (xs ys : List ℕ) → not_above (x ∷ xs) (y ∷ ys) ≡ true → (x < y) ⊎ ((x ≡ y) × (not_above xs ys ≡ true))
unfolding not_above
not-above-true x y xs ys h =
    ⊎_elim
    (λ l. inl (ltb-true x y l))
    (λ r. let b = both_true (eqb x y) (not_above xs ys) r in inr (eqb-true x y b.0, b.1))
    (either_true (ltb x y) (eqb x y && not_above xs ys) h)

not-above-both : (xs ys : List ℕ) → length xs ≡ length ys → not_above xs ys ≡ true → not_above ys xs ≡ true → xs ≡ ys
not-above-both [] [] n a b = refl
not-above-both [] (y ∷ ys) n a b = absurd (omega arith)
not-above-both (x ∷ xs) [] n a b = absurd (omega arith)
not-above-both (x ∷ xs) (y ∷ ys) n a b = go (not-above-both xs ys (omega arith)) (not-above-true x y xs ys a) (not-above-true y x ys xs b)
  where
    go : (not_above xs ys ≡ true → not_above ys xs ≡ true → xs ≡ ys) → (x < y) ⊎ ((x ≡ y) × (not_above xs ys ≡ true))
        → (y < x) ⊎ ((y ≡ x) × (not_above ys xs ≡ true)) → x ∷ xs ≡ y ∷ ys
    go ih (inl l) (inl m) = absurd (omega arith)
    go ih (inl l) (inr m) = absurd (omega (arith, m.0))
    go ih (inr l) (inl m) = absurd (omega (arith, l.0))
    go ih (inr l) (inr m) = cc (l.0, ih l.1 m.1)

lengths-count : (ps : List Word) → length (lengths_from_last ps) ≡ length ps
unfolding lengths_from_last
lengths-count ps = length-reverse (map length ps) ∙ length-map ps length

lengths-back : (ps qs : List Word) → lengths_from_last ps ≡ lengths_from_last qs → map length ps ≡ map length qs
unfolding lengths_from_last
lengths-back ps qs e = sym (reverse-reverse (map length ps)) ∙ ap reverse e ∙ reverse-reverse (map length qs)

-- factors of the same lengths that make up the same word are the same
same-pieces : (ps qs : List Word) → map length ps ≡ map length qs → flatten ps ≡ flatten qs → ps ≡ qs
unfolding flatten
same-pieces [] [] n e = refl
same-pieces [] (q ∷ qs) n e = absurd (omega (arith, ap length n))
same-pieces (p ∷ ps) [] n e = absurd (omega (arith, ap length n))
same-pieces (p ∷ ps) (q ∷ qs) n e =
    let l : length p ≡ length q = cc in
    let m : map length ps ≡ map length qs = cc in
    let h : p ≡ q = sym (take_at p (flatten ps) (length p) refl) ∙ ap (λ (w : Word). take (length p) w) e ∙ take_at q (flatten qs) (length p) (sym l) in
    let t : flatten ps ≡ flatten qs =
    sym (drop_at p (flatten ps) (length p) refl) ∙ ap (λ (w : Word). drop (length p) w) e ∙ drop_at q (flatten qs) (length p) (sym l) in
    cc (h, same-pieces ps qs m t)

-- ---- factorizations

pub factorization-one : (σ : ℕ → ℕ) {s : Word} {ps qs : List Word} → MinimalFactorization σ s ps → MinimalFactorization σ s qs → ps ≡ qs
factorization-one σ {s} {ps} {qs} a b =
    let n : length ps ≡ length qs = omega (arith, a.fewest qs b.factors, b.fewest ps a.factors) in
    let l : lengths_from_last ps ≡ lengths_from_last qs =
    not-above-both (lengths_from_last ps) (lengths_from_last qs) (lengths-count ps ∙ n ∙ sym (lengths-count qs)) (b.last-longest ps a.factors n)
    (a.last-longest qs b.factors (sym n)) in
    same-pieces ps qs (lengths-back ps qs l) (a.factors.whole ∙ sym b.factors.whole)

-- every such factorization has the number and the ends of the recurrence
pub factors-are : (σ : ℕ → ℕ) → ((c : ℕ) → σ c ≡ c) → {s : Word} {ps : List Word} → MinimalFactorization σ s ps
    → (length ps ≡ palindromic_length σ s) × (ends_of ps ≡ factor_ends σ s)
factors-are σ own {s} {ps} m =
    let r = factorization-minimal σ own s in
    let e : ps ≡ r.0 = factorization-one σ m r.1 in
    (ap length e ∙ r.2, ap ends_of e ∙ r.3)
