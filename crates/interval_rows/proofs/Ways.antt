-- The way from the row at a right end to the row of a stretch. A row below a row below a row lies below it too (`below-trans`), and the link does
-- (`below-link`), so whatever jumps are put together of links and jumps lie below their rows (`jumps-set`). A step keeps what `Near` says: along a jump since
-- of two ends of one word the shorter ends the longer (`near-far`), along a link since it is the longest (`near-link`). Rests on the laws of ends of words, on
-- `longest-suffix` and on the laws of a good store's rows. Assumes nothing.
use Rattle.std.proofs.Common.{◌≡◌, ℕ, ◌+◌, ◌-◌, ◌<◌, ◌≤◌, true, ◌⊎◌, [], ◌∷◌, length, get_or, take, set, replicate, sym, refl, ap, ◌∙◌, subst, ⊎_elim, arith, length-drop, length-set, take-append-drop, length-take, get_or-set_other, get_or-set_same}
use native.Mathlib.Decide.{ℕ_discrete}
use lib.ListN.{length-replicate, get_or-replicate}
use Rattle.std.specs.Prelude.{None}
use Rattle.palindromes.specs.Word.{Word}
use Rattle.palindromes.specs.Palindrome.{Palindrome, Symmetric}
use Rattle.palindromes.specs.Place.{Suffix}
use Rattle.palindromes.specs.Node.{Node, imaginary, spelt, spelling_of, link_of}
use Rattle.palindromes.proofs.Words.{suffix_refl, suffix-empty, suffix_trans, suffix-length, suffix-full, suffix-shorter, suffix-cons, suffix-of-cons}
use Rattle.palindromes.proofs.Intervals.{word-between}
use Rattle.palindromes.proofs.Longest.{longest-suffix}
use Rattle.eertree.proofs.Rows.{row-high, word_row}
use Rattle.store.specs.Layout.{size_in, link_in, used_in, letters_in}
use Rattle.store.specs.Good.{rule_of, node_in, Good}
use Rattle.store.proofs.Sizes.{letters-length}
use Rattle.transitions.proofs.Rows.{covers, row_below}
use Rattle.walk.specs.Replay.{ending_in, Holds}
use Rattle.end_rows.specs.EndRows.{EndRows}
use Rattle.interval_rows.specs.IntervalRow.{word_in, word_between, IsRowOf, RowOf, Below, Jumps, Near, Leads}

-- ---- words

-- what the link of a node spells ends what the node spells, is shorter, and every shorter palindrome that ends the one ends the other
link-ends : (σ : ℕ → ℕ) (v : Node) → Suffix (spelling_of (link_of σ v)) (spelling_of v)
unfolding link_of spelling_of
link-ends σ imaginary = suffix_refl
link-ends σ (spelt []) = suffix_refl
link-ends σ (spelt (x ∷ t)) = suffix-cons x (longest-suffix σ t).suffix

link-length : (σ : ℕ → ℕ) (v : Node) → length (spelling_of (link_of σ v)) ≤ length (spelling_of v) - 1
unfolding link_of spelling_of
link-length σ imaginary = omega arith
link-length σ (spelt []) = omega arith
link-length σ (spelt (x ∷ t)) = omega (arith, suffix-length (longest-suffix σ t).suffix)

link-most : (σ : ℕ → ℕ) (v : Node) (w : Word) → Symmetric σ w → length w < length (spelling_of v) → Suffix w (spelling_of v)
    → Suffix w (spelling_of (link_of σ v))
unfolding link_of spelling_of
link-most σ imaginary w p l s = absurd (omega (arith, l))
link-most σ (spelt []) w p l s = absurd (omega (arith, l))
link-most σ (spelt (x ∷ t)) w p l s = ⊎_elim (λ e. absurd (omega (arith, l, ap length e))) ((longest-suffix σ t).most w p) (suffix-of-cons x s)

-- ---- the row at the stretch's end

pub row-at-end : {b ends : Word} {start end row : ℕ} → EndRows b ends → start < end → end ≤ size_in b → row ≡ get_or ends (end - 1) 0 → Holds b end row
row-at-end {b} {ends} {end = end} r l h e =
    let k : end - 1 + 1 ≡ end = omega arith in
    rw e (subst (λ (i : ℕ). Holds b i (get_or ends (end - 1) 0)) k (r.each (end - 1) (omega arith)))

-- ---- below

below-trans : {b : Word} {r p q : ℕ} → Below b r p → Below b p q → Below b r q
below-trans x y = record { used = y.used; ends = suffix_trans y.ends x.ends; shorter = omega (arith, x.shorter, y.shorter) }

module _ {b : Word} (g : Good b) where
  -- the imaginary string lies below every row
  below_root : (r : ℕ) → Below b r 0
  unfolding spelling_of
  below_root r =
      let z = (covers g).row_zero in
      let e : word_in b 0 ≡ [] = ap spelling_of z.1 in
      record { used = z.0; ends = rw e (suffix-empty (word_in b r)); shorter = omega (arith, ap length e) }

  pub below-link : (r : ℕ) → used_in b r ≡ true → Below b r (link_in b r)
  below-link r u =
      let k = (covers g).link-is r u in
      let e : word_in b (link_in b r) ≡ spelling_of (link_of (rule_of b) (node_in b r)) = ap spelling_of k.1 in
      record { used = k.0; ends = rw e (link-ends (rule_of b) (node_in b r)); shorter = rw e (link-length (rule_of b) (node_in b r)) }

  -- ---- jumps

  pub jumps-first : {jumps : Word} → jumps ≡ replicate 1026 0 → Jumps b jumps
  jumps-first {jumps} z =
      record {
        long = ap length z ∙ length-replicate {A = ℕ} 1026 0;
        each = λ r u. subst (Below b r) (sym (ap (λ (l : Word). get_or l r 0) z ∙ get_or-replicate 1026 r 0 0 (row_below g r u))) (below_root r);
      }

  -- a row's link and its jump are rows in use, so that there is a place for each
  pub link-used : (row : ℕ) {near : ℕ} → used_in b row ≡ true → near ≡ link_in b row → (used_in b near ≡ true) × (near < 1026)
  link-used row {near} u e = let v : used_in b near ≡ true = rw e (below-link row u).used in (v, row_below g near v)

  pub jump-used : {jumps : Word} (row : ℕ) {far : ℕ} → Jumps b jumps → used_in b row ≡ true → far ≡ get_or jumps row 0 → (used_in b far ≡ true) × (far < 1026)
  jump-used row {far} j u e = let v : used_in b far ≡ true = rw e (j.each row u).used in (v, row_below g far v)

  -- a row's jump goes to its link, or to the jump of the link's jump
  pub jumps-set : {jumps : Word} (row near far further to : ℕ) → Jumps b jumps → used_in b row ≡ true → near ≡ link_in b row
      → far ≡ get_or jumps near 0 → further ≡ get_or jumps far 0 → (to ≡ near) ⊎ (to ≡ further)
      → Jumps b (set jumps row to)
  jumps-set {jumps} row near far further to j u en ef eg way = record { long = length-set jumps row to ∙ j.long; each = λ r v. go r v (ℕ_discrete r row) }
    where
      to-near : Below b row near
      to-near = rw en (below-link row u)

      to-far : Below b near far
      to-far = rw ef (j.each near to-near.used)

      to-further : Below b far further
      to-further = rw eg (j.each far to-far.used)

      lands : Below b row to
      lands = ⊎_elim (λ e. rw e to-near) (λ e. rw e (below-trans to-near (below-trans to-far to-further))) way

      go : (r : ℕ) → used_in b r ≡ true → Dec (r ≡ row) → Below b r (get_or (set jumps row to) r 0)
      go r v (yes p) = rw (p, get_or-set_same jumps row to 0 (omega (arith, j.long, row_below g row u))) lands
      go r v (no p) = rw (get_or-set_other jumps row r to 0 p) (j.each r v)

  -- ---- near

  pub near_first : {end row : ℕ} {w : Word} → Suffix w (take end (letters_in b)) → Holds b end row → Near b end w row
  unfolding spelling_of
  near_first {end} {row} {w} s h =
      let l = longest-suffix (rule_of b) (take end (letters_in b)) in
      let e : word_in b row ≡ ending_in b end = ap spelling_of h.holds in
      record { used = h.used; ends = rw e l.suffix; all = λ p. rw e (l.most w p.symmetric s) }

  pub near-link : {n row : ℕ} → used_in b row ≡ true → n < length (word_in b row) → Leads b n row (link_in b row)
  near-link {n} {row} u m end w s e a =
      let k = below-link row u in
      let f : word_in b (link_in b row) ≡ spelling_of (link_of (rule_of b) (node_in b row)) = ap spelling_of ((covers g).link-is row u).1 in (
        record {
          used = k.used;
          ends =
              suffix_trans k.ends a.ends;
          all = λ p. rw f (link-most (rule_of b) (node_in b row) w p.symmetric (omega (arith, m, e)) (a.all p));
        },
        omega (arith, m, k.shorter),
      )

  pub near-far : {n row far : ℕ} → Below b row far → n < length (word_in b row) → n ≤ length (word_in b far) → Leads b n row far
  near-far {n} {row} {far} k m l end w s e a =
      let t = suffix_trans k.ends a.ends in
      (record { used = k.used; ends = t; all = λ p. suffix-shorter s t (omega (arith, l, e)) }, omega (arith, m, k.shorter))

  -- ---- found, or not

  pub near-found : {end row : ℕ} {w : Word} → Suffix w (take end (letters_in b)) → 0 < length w → length (word_in b row) ≡ length w → Near b end w row
      → IsRowOf b w row
  unfolding spelling_of
  near-found {end} {row} {w} s m e a = go (node_in b row) refl
    where
      same : word_in b row ≡ w
      same = suffix-full (suffix-shorter a.ends s (omega (arith, e))) (omega (arith, e))

      go : (v : Node) → node_in b row ≡ v → IsRowOf b w row
      go imaginary q = absurd (omega (arith, m, e, ap (λ (x : Node). length (spelling_of x)) q))
      go (spelt v) q =
          let f : v ≡ w = sym (ap spelling_of q) ∙ same in
          let n : node_in b row ≡ spelt w = q ∙ ap spelt f in
          let high : 2 ≤ row = row-high (covers g) row n (λ z. omega (arith, m, ap length z)) in
          let p = word_row (covers g) row a.used high in
          let k : p.0 ≡ w = ap spelling_of (sym p.1 ∙ n) in
          record { used = a.used; high = high; holds = n; palindrome = subst (Palindrome (rule_of b)) k p.2 }

  pub near_none : {end row : ℕ} {w : Word} → length (word_in b row) < length w → Near b end w row → RowOf b w None
  near_none l a p = omega (arith, l, suffix-length (a.all p))

  -- the word between two places ends the letters up to the second
  pub between_ends : (start end : ℕ) → Suffix (word_between b start end) (take end (letters_in b))
  between_ends start end =
      let t = take end (letters_in b) in
      rw (word-between start end (letters_in b)) (record { before = take start t; whole = take-append-drop start t })

  pub between-length : (start end : ℕ) → end ≤ size_in b → length (word_between b start end) ≡ end - start
  between-length start end l =
      let t = take end (letters_in b) in
      ap length (word-between start end (letters_in b))
      ∙ omega (arith, length-drop start t, length-take end (letters_in b), letters-length g.sized)
