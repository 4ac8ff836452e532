-- The left end with one letter more at the right. Where no palindrome ends the letters it stays (`left-none`). Where the longest that
-- ends them stood before, what began them does (`left-known`). Else it is new: all of them (`left-whole`) or not (`left-kept`). Rests on what begins letters (`Prefixes`), on what stands again (`Again`), and on the rows of the longest and of its link.
use Prim.Native.Nat.{ℕ, ◌+◌, ◌≤◌}
use native.Mathlib.Omega.{arith}
use mathlib.Core.Path.{◌≡◌, refl, sym, ap, ◌∙◌, subst}
use mathlib.Core.Bool.{Bool, true, false, cond, ◌||◌}
use mathlib.Core.Logic.{inl, inr, ⊎_elim}
use mathlib.Core.List.{[], ◌∷◌, ◌++◌}
use lib.Dec.{eqb}
use lib.IntN.{pos}
use lib.ListN.{length, length-append}
use borrow.Author.Tests.{eqb-true, eqb-false, eq-eqb, ne_eqb}
use Rattle.palindromes.specs.Word.{Word}
use Rattle.palindromes.specs.Palindrome.{SelfInverse}
use Rattle.palindromes.specs.Place.{Stands, stands}
use Rattle.palindromes.specs.Record.{longest_suffix, longest_prefix}
use Rattle.palindromes.specs.End.{at_left, removed, longest_at}
use Rattle.palindromes.specs.Node.{spelt, length_of, link_of}
use Rattle.palindromes.proofs.Tests.{not-true-false}
use Rattle.palindromes.proofs.Lists.{same_test, either_true, left_is, right_is}
use Rattle.palindromes.proofs.Words.{stands-length, suffix-length, suffix-full}
use Rattle.palindromes.proofs.Longest.{longest-suffix}
use Rattle.palindromes.proofs.NewIn.{longest-at}
use Rattle.palindromes.proofs.Places.{stands-true, stands-is, stands-empty}
use Rattle.palindromes.proofs.Readings.{rule-inverse}
use Rattle.store.specs.Layout.{reading_in, length_in, link_in}
use Rattle.store.specs.Good.{rule_of, node_in}
use Rattle.ends.specs.Reach.{Reaches}
use Rattle.ends.specs.declared.Reach.{Reach}
use Rattle.audit_left.specs.Left.{Reads}
use Rattle.audit_left.proofs.Prefixes.{rest, rest-length, link-whole, ends-rest, prefix-kept, prefix-whole, short-all, short-kept}
use Rattle.audit_left.proofs.Again.{again-there, again-back}
use Rattle.audit_left.proofs.Known.{short-known}

-- the store's partner rule undoes itself
inverse : (b : Word) → SelfInverse (rule_of b)
inverse b = rule-inverse (reading_in b)

module _ {b : Word} {used : ℕ → Bool} {p : Word} {d k q : ℕ} (s : Reads b used p d k q) where
  -- the length that row q stores
  pub size_is : length_in b q ≡ pos (length (longest_suffix (rule_of b) (p ++ (d ∷ []))))
  unfolding length_of
  size_is = s.covers.length-is q s.row-used ∙ ap length_of s.row-holds

  module _ {left : Reach} (l : Reaches b used at_left p left) where
    -- the row of the longest that begins the letters but the first, from that of the longest that ends them
    short_row : {r short : ℕ} → used r ≡ true → node_in b r ≡ spelt (longest_suffix (rule_of b) (rest p d)) → ((n : ℕ) → length_in b r ≡ pos n → short ≡ cond (eqb n k) r left.short)
        → (used short ≡ true) × (node_in b short ≡ spelt (longest_prefix (rule_of b) (rest p d)))
    unfolding length_of longest_at
    short_row {r} {short} u h f = go (eqb size k) refl (f size (s.covers.length-is r u ∙ ap length_of h))
      where
        size : ℕ
        size = length (longest_suffix (rule_of b) (rest p d))

        go : (t : Bool) → eqb size k ≡ t → short ≡ cond t r left.short → (used short ≡ true) × (node_in b short ≡ spelt (longest_prefix (rule_of b) (rest p d)))
        go true t e = rw e (u, h ∙ ap spelt (sym (short-all (rule_of b) p d (inverse b) (eqb-true size k t ∙ s.size))))
        go false t e = rw e (l.short-used, l.short-holds ∙ ap spelt (sym (short-kept (rule_of b) p d (inverse b) λ i. eqb-false size k t (i ∙ sym s.size))))

    -- what began the letters stands in them but the first exactly if it did, or its row is that of the longest that ends them
    stands-rest : length (longest_suffix (rule_of b) (p ++ (d ∷ []))) ≤ length p → (eqb q left.row || left.again) ≡ stands (longest_prefix (rule_of b) p) (rest p d)
    unfolding longest_at
    stands-rest less = same_test (eqb q left.row || left.again) (stands w (rest p d)) there back
      where
        w : Word
        w = longest_prefix (rule_of b) p

        there : (eqb q left.row || left.again) ≡ true → stands w (rest p d) ≡ true
        there h =
            stands-is w (rest p d)
            (again-back (rule_of b) (inverse b) p d less
            (⊎_elim
            (λ e. let f : node_in b q ≡ node_in b left.row = ap (node_in b) (eqb-true q left.row e) in inl (cc (s.row-holds, l.row-holds)))
            (λ e. inr (stands-true w (removed at_left p) (sym l.again-is ∙ e)))
            (either_true (eqb q left.row) left.again h)))

        back : stands w (rest p d) ≡ true → (eqb q left.row || left.again) ≡ true
        back h =
            ⊎_elim
            (λ e. left_is (eqb q left.row) left.again (eq-eqb q left.row (s.covers.one-row q left.row s.row-used l.row-used (s.row-holds ∙ ap spelt e ∙ sym l.row-holds))))
            (λ e. right_is (eqb q left.row) left.again (l.again-is ∙ stands-is w (removed at_left p) e))
            (again-there (rule_of b) (inverse b) p d less (longest-at (rule_of b) (inverse b) at_left p).0 (stands-true w (rest p d) h))

    -- the longest that ends the letters is all of them, and stands nowhere else
    pub left-whole : {short : ℕ} → length (longest_suffix (rule_of b) (p ++ (d ∷ []))) ≡ k + 1 → ((n : ℕ) → length_in b (link_in b q) ≡ pos n → short ≡ cond (eqb n k) (link_in b q) left.short)
        → Reaches b used at_left (p ++ (d ∷ [])) (record { row = q; short = short; again = false })
    unfolding longest_at
    left-whole {short} n f =
        let i = s.covers.link-is q s.row-used in
        let all = suffix-full (longest-suffix (rule_of b) (p ++ (d ∷ []))).suffix (omega (arith, s.size, length-append p (d ∷ []))) in
        let e = prefix-whole (rule_of b) p d (inverse b) (omega (arith, s.size)) in
        let r = short_row i.0 (i.1 ∙ ap (link_of (rule_of b)) (s.row-holds ∙ ap spelt all) ∙ link-whole (rule_of b) p d) f in
        record {
          row-used = s.row-used;
          row-holds = s.row-holds ∙ ap spelt (sym e);
          short-used = r.0;
          short-holds = r.1;
          again-is =
              sym (not-true-false (stands (longest_prefix (rule_of b) (p ++ (d ∷ []))) (rest p d)) λ h. omega (arith, s.size, rest-length p d, stands-length (stands-true _ (rest p d) h), ap length e));
        }

    -- it is new, and not all of them
    pub left-kept : {short : ℕ} → (length (longest_suffix (rule_of b) (p ++ (d ∷ []))) ≡ k + 1 → ⊥) → (Stands (longest_suffix (rule_of b) (p ++ (d ∷ []))) p → ⊥)
        → ((n : ℕ) → length_in b q ≡ pos n → short ≡ cond (eqb n k) q left.short) → Reaches b used at_left (p ++ (d ∷ [])) (record { row = left.row; short = short; again = left.again })
    unfolding longest_at
    left-kept {short} n new f =
        let m : length (longest_suffix (rule_of b) (p ++ (d ∷ []))) ≤ length p = omega (arith, n, s.size, suffix-length (longest-suffix (rule_of b) (p ++ (d ∷ []))).suffix, length-append p (d ∷ [])) in
        let e = prefix-kept (rule_of b) p d (inverse b) m in
        let r = short_row s.row-used (s.row-holds ∙ ap spelt (ends-rest (rule_of b) p d (inverse b) m)) f in
        record {
          row-used = l.row-used;
          row-holds = l.row-holds ∙ ap spelt (sym e);
          short-used = r.0;
          short-holds = r.1;
          again-is = rw e (ap (λ (t : Bool). t || left.again) (sym (ne_eqb q left.row other)) ∙ stands-rest m);
        }
      where
        -- its row is not that of what began the letters, which stood
        other : q ≡ left.row → ⊥
        other i =
            let j : longest_suffix (rule_of b) (p ++ (d ∷ [])) ≡ longest_prefix (rule_of b) p = cc (s.row-holds, l.row-holds, i) in
            new (subst (λ (v : Word). Stands v p) (sym j) (longest-at (rule_of b) (inverse b) at_left p).1)

-- the longest that ends the letters stood before: what began them does, with the first letter and without it
pub left-known : {b : Word} {used : ℕ → Bool} {p : Word} {d k q : ℕ} {left after : Reach} → Reads b used p d k q → Reaches b used at_left p left → Stands (longest_suffix (rule_of b) (p ++ (d ∷ []))) p
    → (after.row ≡ left.row) × (after.short ≡ left.short) × (after.again ≡ (eqb q left.row || left.again)) → Reaches b used at_left (p ++ (d ∷ [])) after
unfolding longest_at
left-known {b} {p} {d} s l h e =
    let less = stands-length h in
    let kept = prefix-kept (rule_of b) p d (inverse b) less in
    record {
      row-used = rw e.0 l.row-used;
      row-holds = rw e.0 (l.row-holds ∙ ap spelt (sym kept));
      short-used = rw e.1 l.short-used;
      short-holds = rw e.1 (l.short-holds ∙ ap spelt (sym (short-known (rule_of b) (inverse b) p d h)));
      again-is = rw kept (e.2 ∙ stands-rest s l less);
    }

-- no palindrome ends the letters: what began them stands in them but the first only if it did
pub left-none : {b : Word} {used : ℕ → Bool} {p : Word} (d : ℕ) {left : Reach} → longest_suffix (rule_of b) (p ++ (d ∷ [])) ≡ [] → Reaches b used at_left p left → Reaches b used at_left (p ++ (d ∷ [])) left
unfolding longest_at
left-none {b} {p} d e l =
    record {
      row-used = l.row-used;
      row-holds = l.row-holds ∙ ap spelt (sym kept);
      short-used = l.short-used;
      short-holds = l.short-holds ∙ ap spelt (sym (short-known (rule_of b) (inverse b) p d (rw e (stands-empty p))));
      again-is = rw kept (l.again-is ∙ same_test (stands w (removed at_left p)) (stands w (rest p d)) there back);
    }
  where
    w : Word
    w = longest_prefix (rule_of b) p

    less : length (longest_suffix (rule_of b) (p ++ (d ∷ []))) ≤ length p
    less = omega (arith, ap length e)

    kept : longest_prefix (rule_of b) (p ++ (d ∷ [])) ≡ w
    kept = prefix-kept (rule_of b) p d (inverse b) less

    there : stands w (removed at_left p) ≡ true → stands w (rest p d) ≡ true
    there h = stands-is w (rest p d) (again-back (rule_of b) (inverse b) p d less (inr (stands-true w (removed at_left p) h)))

    back : stands w (rest p d) ≡ true → stands w (removed at_left p) ≡ true
    back h =
        stands-is w (removed at_left p)
        (⊎_elim
        (λ f. subst (λ (v : Word). Stands v (removed at_left p)) (sym e ∙ f) (stands-empty (removed at_left p)))
        (λ f. f)
        (again-there (rule_of b) (inverse b) p d less (longest-at (rule_of b) (inverse b) at_left p).0 (stands-true w (rest p d) h)))
