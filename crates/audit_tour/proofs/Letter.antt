-- The tour letter by letter. Where no letter is read, the roots cover what is read (`tour-start`). Then the walk finds the row that the next letter grows, or none (`tour-grows`,
-- `tour-none`); along its edge the tour comes to a row met before (`tour-old`) or to one that is right and is now met (`tour-new`). In a good store every test on the way
-- passes (`good-back`, `good_new`), since each row met is in use and holds what it holds in the whole table.
-- Rests on the replay of eertree (`read_none`, `read-old`, `read-new`, `step-there`), on what a walk finds (`Found` of walk) and on the laws of a good store.
use Prim.Native.Nat.{ℕ, zero, suc, ◌+◌, ◌*◌, ◌≤◌, ◌<◌}
use native.Mathlib.Numerals.{add-one}
use native.Mathlib.Omega.{arith}
use mathlib.Core.Path.{◌≡◌, refl, sym, ap, ◌∙◌, subst}
use mathlib.Core.Bool.{Bool, true, false, ◌||◌}
use mathlib.Core.Logic.{⊎_elim}
use mathlib.Core.List.{[], ◌∷◌, ◌++◌}
use lib.Dec.{eqb}
use lib.IntN.{pos, pred_ℤ}
use lib.ListN.{length, get_or, drop, set, length-append, length-set, take-append-drop}
use lib.Seq.{length-take-le, take-suc}
use borrow.Author.Tests.{eqb-true, eq-eqb, lt-ltb}
use Rattle.std.specs.Prelude.{Option, Some, None}
use Rattle.palindromes.specs.Word.{Word, is_letter}
use Rattle.palindromes.specs.Palindrome.{Symmetric}
use Rattle.palindromes.specs.Place.{Stands, Suffix, stands}
use Rattle.palindromes.specs.Record.{count, longest_suffix}
use Rattle.palindromes.specs.End.{End, at_left, at_right, longest_at}
use Rattle.palindromes.specs.Node.{Node, imaginary, spelt, link_of, around}
use Rattle.palindromes.specs.Eertree.{Table, node_from}
use Rattle.palindromes.proofs.Tests.{not-true-false}
use Rattle.palindromes.proofs.Lists.{either_true, left_is, right_is}
use Rattle.palindromes.proofs.Words.{suffix-length, suffix-stands, suffix-append, suffix_trans, suffix-snoc-back, prefix-stands, stands-of-empty}
use Rattle.palindromes.proofs.Longest.{longest-suffix}
use Rattle.palindromes.proofs.Growth.{link-of-letter, link-of-framed, link-stood}
use Rattle.palindromes.proofs.Places.{stands-true, stands-is, stands-empty}
use Rattle.palindromes.proofs.Palindromes.{count-empty, count-snoc, count-length}
use Rattle.palindromes.proofs.Readings.{rule-inverse}
use Rattle.palindromes.proofs.Letters.{letter-of}
use Rattle.eertree.specs.Covers.{NodeOf, Covers, with_used}
use Rattle.eertree.proofs.Covers.{around-not-empty}
use Rattle.eertree.proofs.Rows.{reach_of, reach-length, imaginary-row}
use Rattle.eertree.proofs.Nodes.{root-zero, root-one, node-from-step, node-from}
use Rattle.eertree.proofs.Grow.{same-snoc, one-more-snoc}
use Rattle.eertree.proofs.Replay.{Fits, step-there, read_none, read-old, read-fresh, read-new}
use Rattle.store.specs.Layout.{cell, capacity_in, count_in, reading_in, length_in, link_in, inner_in, outer_in, edge_in, rank_in, used_in, letters_in}
use Rattle.store.specs.Good.{rule_of, table_in, node_in, Good}
use Rattle.store.proofs.Sizes.{letters-length}
use Rattle.walk.specs.Frame.{Frames}
use Rattle.walk.specs.Walk.{Chain, Meets, Stepped, grown, ended, Found}
use Rattle.walk.specs.declared.frame.Frame.{Frame}
use Rattle.walk.proofs.Found.{stored-reach, chain, meets-longest, meets-link}
use Rattle.walk.proofs.Stores.{rows_fit}
use Rattle.transitions.proofs.Rows.{covers, used-root, used-is, used-rank, row_fits, length-row}
use Rattle.transitions.proofs.Start.{Roots, roots-cover}
use Rattle.ends.specs.Reach.{Reaches}
use Rattle.ends.specs.declared.Reach.{Reach}
use Rattle.audit_fixed.specs.Counting.{count_below}
use Rattle.audit_left.specs.Left.{Reads, LeftNew}
use Rattle.audit_left.proofs.Reaches.{left-start, right-start, right-after, reaches_more}
use Rattle.audit_left.proofs.Left.{left-known, left-none}
use Rattle.audit_edge.specs.Edge.{PointsBack, Walkable, LinkFound, alone, within, NewRow, right, not-longer, not-used, not-linked}
use Rattle.audit_edge.proofs.Edge.{good-names}
use Rattle.audit_lengths.specs.Lengths.{LengthsOf, Countable, Counted}
use Rattle.audit_lengths.proofs.Lengths.{lengths-empty, lengths-same, lengths-more, count_small}
use Rattle.audit_tour.specs.Tour.{Ready, read_in, met_in, marked_row, Blank, reach_at, Toured, Arrived, Reading, Grows}
use Rattle.audit_tour.specs.declared.Tour.{Tour}
use Rattle.audit_tour.proofs.Marks.{met-root, met-marked, met-unmarked, blank-met, met-set, none-marked, one-marked}

-- ---- words

module _ (σ : ℕ → ℕ) (p : Word) (d : ℕ) where
  -- the count stays where the longest palindrome with a letter more stood before, and else rises by one
  count-old : Stands (longest_suffix σ (p ++ (d ∷ []))) p → count σ (p ++ (d ∷ [])) ≡ count σ p
  count-old h = omega (arith, rw (stands-is (longest_suffix σ (p ++ (d ∷ []))) p h) at (count-snoc σ p d))

  count-new : (Stands (longest_suffix σ (p ++ (d ∷ []))) p → ⊥) → count σ (p ++ (d ∷ [])) ≡ count σ p + 1
  count-new h =
      let n : stands (longest_suffix σ (p ++ (d ∷ []))) p ≡ false = not-true-false (stands (longest_suffix σ (p ++ (d ∷ []))) p) (λ e. h (stands-true (longest_suffix σ (p ++ (d ∷ []))) p e)) in
      omega (arith, rw n at (count-snoc σ p d))

-- ---- nodes

-- the word around a node reaches two further
around-reach : (σ : ℕ → ℕ) (d : ℕ) (v : Node) → reach_of (spelt (around σ d v)) ≡ reach_of v + 2
unfolding around
around-reach σ d imaginary = refl
around-reach σ d (spelt w) = omega (arith, length-append w (d ∷ []))

-- a row of the store that is no root spells the word around its inner row
node-in-step : (b : Word) (q : ℕ) → 2 ≤ q → node_in b q ≡ spelt (around (rule_of b) (outer_in b q) (node_from (rule_of b) (inner_in b) (outer_in b) (capacity_in b + 1) (inner_in b q)))
unfolding node_in
node-in-step b q l =
    let e : capacity_in b + 2 ≡ suc (capacity_in b + 1) = omega arith in
    ap (λ (n : ℕ). node_from (rule_of b) (inner_in b) (outer_in b) n q) e ∙ node-from-step (rule_of b) (inner_in b) (outer_in b) (capacity_in b + 1) q l

-- ---- the start

-- rows 0 and 1 spell the roots
node-zero : (b : Word) → node_in b 0 ≡ imaginary
unfolding node_in
node-zero b = root-zero (rule_of b) (inner_in b) (outer_in b) (capacity_in b + 2)

node-one : (b : Word) → node_in b 1 ≡ spelt []
unfolding node_in
node-one b = root-one (rule_of b) (inner_in b) (outer_in b) (capacity_in b + 2)

-- the rows of the store with no edges
abbrev bare : Word → Word → Table
bare b marks = record { used = met_in marks; length = length_in b; link = link_in b; inner = inner_in b; outer = outer_in b; edge = λ r c. 0 }

module _ {b marks carried : Word} (z : Ready b) (n : Blank marks) (y : Blank carried) where
  -- both roots lead to the imaginary string
  root-link : (r : ℕ) → r < 2 → link_in b r ≡ 0
  root-link zero l = z.roots.imaginary.link
  root-link (suc zero) l = z.roots.empty.link
  root-link (suc (suc r)) l = absurd (omega arith)

  root-inner : (r : ℕ) → r < 2 → inner_in b r ≡ 0
  root-inner zero l = z.roots.imaginary.inner
  root-inner (suc zero) l = z.roots.empty.inner
  root-inner (suc (suc r)) l = absurd (omega arith)

  bare-roots : Roots (bare b marks) (node_in b)
  bare-roots =
      record {
        used-zero = met-root marks 0 (omega arith);
        used-one = met-root marks 1 (omega arith);
        only = blank-met n;
        node-zero = node-zero b;
        node-one = node-one b;
        length-zero = z.roots.imaginary.length-is;
        length-one = z.roots.empty.length-is;
        link = root-link;
        inner = root-inner;
        edge = λ r c h l. refl;
      }

  start-covers : Covers (rule_of b) [] (with_used (met_in marks) (table_in b)) (node_in b)
  start-covers =
      let h = roots-cover (rule_of b) bare-roots in
      record {
        row_zero = h.row_zero;
        row_one = h.row_one;
        each_row = h.each_row;
        each_word = h.each_word;
        one-row = h.one-row;
        length-is = h.length-is;
        link-is = h.link-is;
        inner-is = h.inner-is;
        outer-is = h.outer-is;
        edge-there = λ r c u l m. absurd (around-not-empty (rule_of b) c (node_in b r) (stands-of-empty m.1));
      }

  -- before the first letter the tour stands at the empty string
  pub tour-start : Toured b marks carried [] (record { row = 1; before = 1; known = true; left = 1; second = 1; again = true; met = 0 })
  tour-start =
      let root = met-root marks 1 (omega arith) in
      record {
        long = n.long;
        used = λ r u. used-root b r (blank-met n r u);
        covers = start-covers;
        ends = by_end (left-start root (node-one b)) (right-start root (node-one b));
        met-is = sym (count-empty (rule_of b));
        marked = sym (none-marked n (capacity_in b + 2));
        lengths = lengths-empty (rule_of b) y.long y.zero;
      }
    where
      none : Tour
      none = record { row = 1; before = 1; known = true; left = 1; second = 1; again = true; met = 0 }

      by_end : Reaches b (met_in marks) at_left [] (reach_at at_left none) → Reaches b (met_in marks) at_right [] (reach_at at_right none) → (e : End) → Reaches b (met_in marks) e [] (reach_at e none)
      by_end l r at_left = l
      by_end l r at_right = r

-- ---- a letter

module _ {b marks carried : Word} {k : ℕ} {t : Tour} (s : Reading b marks carried k t) where
  letters-more : k < length (letters_in b)
  letters-more = omega (arith, letters-length s.ready.sized)

  read_length : length (read_in b k) ≡ k
  read_length = length-take-le k (letters_in b) (omega (arith, letters-more))

  -- no more rows are met than letters read
  pub met-most : t.met ≤ k
  met-most = omega (arith, s.toured.met-is, count-length (rule_of b) (read_in b k), read_length)

  -- from every row met the links lead down to row 0
  pub met-chain : (r : ℕ) → met_in marks r ≡ true → Chain b r
  met-chain r u = chain b s.toured.covers (λ q m. rows_fit s.ready.sized q (s.toured.used q m)) r u

  module _ {d : ℕ} (e : d ≡ get_or (letters_in b) k 0) where
    letter-next : is_letter d ≡ true
    letter-next = rw e (letter-of (letters_in b) k letters-more s.ready.letters)

    read_next : read_in b (k + 1) ≡ read_in b k ++ (d ∷ [])
    read_next = rw (add-one k, e) (take-suc (letters_in b) k 0 letters-more)

    read-stands : Stands (read_in b k ++ (d ∷ [])) (letters_in b)
    read-stands = rw (← read_next) (prefix-stands (record { after = drop (k + 1) (letters_in b); whole = take-append-drop (k + 1) (letters_in b) }))

    -- the tour comes to row q, which holds the longest palindrome that then ends the letters
    module _ {marks' carried' : Word} (long : length marks' ≡ 1026) (used : (r : ℕ) → met_in marks' r ≡ true → used_in b r ≡ true)
        (cov : Covers (rule_of b) (read_in b k ++ (d ∷ [])) (with_used (met_in marks') (table_in b)) (node_in b)) (lengths : LengthsOf (rule_of b) (read_in b k ++ (d ∷ [])) carried') where
      arrived : {q m : ℕ} {known : Bool} {left : Reach} {after : Tour} → Arrived t q known left m after → Reaches b (met_in marks') at_left (read_in b k ++ (d ∷ [])) left
          → met_in marks' q ≡ true → node_in b q ≡ spelt (longest_suffix (rule_of b) (read_in b k ++ (d ∷ []))) → met_in marks' t.row ≡ true
          → known ≡ stands (longest_suffix (rule_of b) (read_in b k ++ (d ∷ []))) (read_in b k) → m ≡ count (rule_of b) (read_in b k ++ (d ∷ [])) → m ≡ count_below (marked_row marks') (capacity_in b + 2)
          → Toured b marks' carried' (read_in b (k + 1)) after
      unfolding longest_at
      arrived {after} x l u f v a c i = rw read_next (record { long = long; used = used; covers = cov; ends = ends; met-is = x.met-is ∙ c; marked = x.met-is ∙ i; lengths = lengths })
        where
          ends : (e : End) → Reaches b (met_in marks') e (read_in b k ++ (d ∷ [])) (reach_at e after)
          ends at_left = rw x.left_is l
          ends at_right = rw x.right_is (right-after (read_in b k) d u f v (s.toured.ends at_right).row-holds a)

    -- the walk finds a row to grow, or none
    module _ {n : ℕ} {o : Option ℕ} (m : Meets b (letters_in b) k d (rule_of b d) t.row n o) where
      found : Found (rule_of b) (met_in marks) (node_in b) (read_in b k) d o
      unfolding longest_at
      found = meets-longest b s.toured.covers (rule-inverse (reading_in b)) (letters_in b) k d (omega (arith, letters-more)) t.row n o (s.toured.ends at_right).row-used (s.toured.ends at_right).row-holds m

      pub tour-grows : (u : ℕ) → o ≡ Some u → Grows b marks k d u
      tour-grows u f =
          let g : Found (rule_of b) (met_in marks) (node_in b) (read_in b k) d (Some u) = subst (Found (rule_of b) (met_in marks) (node_in b) (read_in b k) d) f found in
          record { next = e; met = g.0; longest = g.1 }

      pub tour-none : {after : Tour} → o ≡ None → Arrived t 1 true (reach_at at_left t) t.met after → Toured b marks carried (read_in b (k + 1)) after
      tour-none f x =
          let g : longest_suffix (rule_of b) (read_in b k ++ (d ∷ [])) ≡ [] = subst (Found (rule_of b) (met_in marks) (node_in b) (read_in b k) d) f found in
          let stood : Stands (longest_suffix (rule_of b) (read_in b k ++ (d ∷ []))) (read_in b k) = rw g (stands-empty (read_in b k)) in
          arrived s.toured.long s.toured.used (read_none s.toured.covers d g) (lengths-same (same-snoc (rule_of b) (read_in b k) d stood) s.toured.lengths)
          x (left-none d g (s.toured.ends at_left)) (met-root marks 1 (omega arith)) (node-one b ∙ ap spelt (sym g)) (s.toured.ends at_right).row-used (sym (stands-is _ (read_in b k) stood))
          (s.toured.met-is ∙ sym (count-old (rule_of b) (read_in b k) d stood)) s.toured.marked

  module _ {d u : ℕ} (w : Grows b marks k d u) where
    -- from row u the links can be walked
    pub grown-walkable : {f : Frame} → Frames b f → Walkable b f k u
    grown-walkable h = record { sized = s.ready.sized; framed = h; more = s.more; chain = met-chain u w.met }

    -- what is read with the letter, at the row that it leads to
    reads : (marks' : Word) {q : ℕ} → Covers (rule_of b) (read_in b k ++ (d ∷ [])) (with_used (met_in marks') (table_in b)) (node_in b) → met_in marks' q ≡ true
        → node_in b q ≡ spelt (longest_suffix (rule_of b) (read_in b k ++ (d ∷ []))) → Reads b (met_in marks') (read_in b k) d k q
    reads marks' cov m f = record { size = sym read_length; covers = cov; row-used = m; row-holds = f }

    -- to a row met before
    pub tour-old : {q : ℕ} {left : Reach} {after : Tour} → PointsBack b u d q → get_or marks q 0 ≡ 1 → (left.row ≡ t.left) × (left.short ≡ t.second) × (left.again ≡ (eqb q t.left || t.again)) → Arrived t q true left t.met after
        → Toured b marks carried (read_in b (k + 1)) after
    tour-old {q} r f l x =
        let i = met-marked marks q f in
        let o = read-old s.toured.covers u d w.met w.longest q i r.low r.inner r.outer in
        arrived w.next s.toured.long s.toured.used o.0 (lengths-same (same-snoc (rule_of b) (read_in b k) d o.2) s.toured.lengths)
        x (left-known (reads marks o.0 i o.1) (s.toured.ends at_left) o.2 l) i o.1 (s.toured.ends at_right).row-used (sym (stands-is _ (read_in b k) o.2))
        (s.toured.met-is ∙ sym (count-old (rule_of b) (read_in b k) d o.2)) s.toured.marked

    -- the word of row u ends the letters read, if it has one
    word-ends : (v : Word) → node_in b u ≡ spelt v → Suffix v (read_in b k)
    unfolding around
    word-ends v f =
        let x : Suffix (rule_of b d ∷ v ++ (d ∷ [])) (read_in b k ++ (d ∷ [])) =
        subst (λ (y : Word). Suffix y (read_in b k ++ (d ∷ []))) (w.longest ∙ ap (around (rule_of b) d) f) (longest-suffix (rule_of b) (read_in b k ++ (d ∷ []))).suffix in
        suffix_trans (suffix-append (rule_of b d ∷ []) v) (suffix-snoc-back d d x).0

    -- the link of what d makes of it stood before
    link-stands-read : (v : Word) → node_in b u ≡ spelt v → NodeOf (rule_of b) (read_in b k) (spelt (longest_suffix (rule_of b) (v ++ (d ∷ []))))
    unfolding around
    link-stands-read v f =
        let o = longest-suffix (rule_of b) (read_in b k ++ (d ∷ [])) in
        let e = w.longest ∙ ap (around (rule_of b) d) f in (
          (longest-suffix (rule_of b) (v ++ (d ∷ []))).symmetric,
          link-stood (rule_of b) (read_in b k) d (subst (Symmetric (rule_of b)) e o.symmetric)
              (subst (λ (y : Word). Stands y (read_in b k ++ (d ∷ []))) e (suffix-stands o.suffix)),
        )

    -- what the second walk finds is the row of the link
    link-holds : (x : ℕ) → LinkFound b k d u x → (met_in marks x ≡ true) × (node_in b x ≡ link_of (rule_of b) (spelt (around (rule_of b) d (node_in b u))))
    link-holds x (alone i j) =
        let f : node_in b u ≡ imaginary = ap (node_in b) i ∙ node-zero b in
        rw (j, f) (met-root marks 1 (omega arith), node-one b ∙ sym (link-of-letter (rule_of b) d))
    link-holds x (within i st) = by (node_in b u) refl
      where
        framed : (v : Word) → node_in b u ≡ spelt v → spelt (longest_suffix (rule_of b) (v ++ (d ∷ []))) ≡ link_of (rule_of b) (spelt (around (rule_of b) d (node_in b u)))
        framed v f = sym (ap (λ (y : Node). link_of (rule_of b) (spelt (around (rule_of b) d y))) f ∙ link-of-framed (rule_of b) d v)

        walked : (v : Word) → node_in b u ≡ spelt v → (n : ℕ) (o : Option ℕ) → Meets b (letters_in b) k d (rule_of b d) (link_in b u) n o → Found (rule_of b) (met_in marks) (node_in b) v d o
        walked v f n o m = meets-link b s.toured.covers (rule-inverse (reading_in b)) (letters_in b) k d (omega (arith, letters-more)) u n o v w.met f (word-ends v f) m

        stepped : (v : Word) → node_in b u ≡ spelt v → Stepped b (letters_in b) k d (rule_of b d) (link_in b u) x
            → (met_in marks x ≡ true) × (node_in b x ≡ link_of (rule_of b) (spelt (around (rule_of b) d (node_in b u))))
        stepped v f (grown y n m j) =
            let g : (met_in marks y ≡ true) × (longest_suffix (rule_of b) (v ++ (d ∷ [])) ≡ around (rule_of b) d (node_in b y)) = walked v f n (Some y) m in
            let o = s.toured.covers.edge-there y d g.0 (letter-next w.next) (subst (λ (x : Word). NodeOf (rule_of b) (read_in b k) (spelt x)) g.1 (link-stands-read v f)) in
            rw j (o.0, o.1 ∙ ap spelt (sym g.1) ∙ framed v f)
        stepped v f (ended n m j) =
            let g : longest_suffix (rule_of b) (v ++ (d ∷ [])) ≡ [] = walked v f n None m in
            rw j (met-root marks 1 (omega arith), node-one b ∙ ap spelt (sym g) ∙ framed v f)

        by : (y : Node) → node_in b u ≡ y → (met_in marks x ≡ true) × (node_in b x ≡ link_of (rule_of b) (spelt (around (rule_of b) d (node_in b u))))
        by imaginary f = absurd (i (imaginary-row s.toured.covers u w.met f))
        by (spelt v) f = stepped v f st

    module _ {q : ℕ} (r : PointsBack b u d q) where
      -- a row that names u and d spells the word around u by d
      new_word : node_in b q ≡ spelt (around (rule_of b) d (node_in b u))
      new_word =
          let j = node-from s.toured.covers (capacity_in b + 1) u w.met (omega (arith, read_length, s.ready.sized.letters-fit)) in
          cc (node-in-step b q r.low, r.inner, r.outer, j)

      -- so if its length and its link are right, all of it is
      new-fits : cell b q 0 ≡ cell b u 0 + 2 → LinkFound b k d u (link_in b q) → Fits (rule_of b) (with_used (met_in marks) (table_in b)) (node_in b) u d q
      unfolding length_in
      new-fits c x =
          let l = link-holds (link_in b q) x in
          let o = new_word in
          let n : cell b q 0 ≡ reach_of (node_in b q) = omega (arith, stored-reach b s.toured.covers u w.met, around-reach (rule_of b) d (node_in b u), ap reach_of o) in
          record {
            word = o;
            length-right = ap (λ (m : ℕ). pred_ℤ (pos m)) n ∙ sym (reach-length (node_in b q));
            link-right = (l.0, l.1 ∙ ap (link_of (rule_of b)) (sym o));
            inner-right = r.inner;
            outer-right = r.outer;
          }

      -- and that link lies within the store
      pub new-link : NewRow b k d u q true → 24 * link_in b q + 24 ≤ length b
      new-link (right c y x) = rows_fit s.ready.sized (link_in b q) (s.toured.used (link_in b q) (link-holds (link_in b q) x).0)

      mark-inside : q < length marks
      mark-inside = omega (arith, s.toured.long, r.high, s.ready.sized.at_most)

      used-more : rank_in b q < count_in b → (i : ℕ) → met_in (set marks q 1) i ≡ true → used_in b i ≡ true
      used-more y i m =
          ⊎_elim
          (λ e. subst (λ (j : ℕ). used_in b j ≡ true) (sym (eqb-true i q e)) (used-is b q r.low r.high ∙ lt-ltb (rank_in b q) (count_in b) y))
          (s.toured.used i)
          (either_true (eqb i q) (met_in marks i) (sym (met-set marks q mark-inside i) ∙ m))

      -- a row that is longer than u by two has the length of the longest palindrome, plus one
      new-reach : cell b q 0 ≡ cell b u 0 + 2 → cell b q 0 ≡ length (longest_suffix (rule_of b) (read_in b k ++ (d ∷ []))) + 1
      new-reach c = omega (arith, stored-reach b s.toured.covers u w.met, around-reach (rule_of b) d (node_in b u), ap length w.longest)

      -- which can be counted
      pub new-countable : NewRow b k d u q true → Countable b carried q
      new-countable (right c y x) =
          let n = new-reach c in
          let v = longest_suffix (rule_of b) (read_in b k ++ (d ∷ [])) in
          let fits : length v ≤ 1024 = omega (arith, suffix-length (longest-suffix (rule_of b) (read_in b k ++ (d ∷ []))).suffix, length-append (read_in b k) (d ∷ []), read_length, s.more, s.ready.sized.letters-fit, s.ready.sized.at_most) in
          record {
            inside = row_fits s.ready.sized q r.high;
            long = s.toured.lengths.long;
            some = omega arith;
            most = omega arith;
            few = rw n (count_small (length v) s.toured.lengths (omega arith) fits (omega (arith, read_length, s.more, s.ready.sized.letters-fit, s.ready.sized.at_most)));
          }

      -- to a row that is met for the first time
      pub tour-new : {left : Reach} {carried' : Word} {after : Tour} → q ≡ edge_in b u d → (get_or marks q 0 ≡ 1 → ⊥) → NewRow b k d u q true → LeftNew b k q (reach_at at_left t) left
          → Arrived t q false left (t.met + 1) after → length carried' ≡ length carried → Counted carried (cell b q 0) carried' → Toured b (set marks q 1) carried' (read_in b (k + 1)) after
      tour-new f n (right c y x) l arrives same counted =
          let old = met-unmarked marks q r.low n in
          let also = met-set marks q mark-inside in
          let fresh = read-fresh s.toured.covers u d w.met w.longest (letter-next w.next) (subst (λ (j : ℕ). met_in marks j ≡ false) f old) in
          let cov = read-new s.toured.covers u d w.met w.longest (letter-next w.next) q (sym f) old (new-fits c x) (met_in (set marks q 1)) also in
          let kept : (j : ℕ) → met_in marks j ≡ true → met_in (set marks q 1) j ≡ true = λ j m. also j ∙ right_is (eqb j q) (met_in marks j) m in
          let here = also q ∙ left_is (eqb q q) (met_in marks q) (eq-eqb q q refl) in
          let holds = new_word ∙ ap spelt (sym w.longest) in
          arrived w.next (length-set marks q 1 ∙ s.toured.long) (used-more y) cov (lengths-more (one-more-snoc (rule_of b) (read_in b k) d fresh) s.toured.lengths (new-reach c) same counted)
          arrives (l (met_in (set marks q 1)) (read_in b k) d (reads (set marks q 1) cov here holds) fresh (reaches_more kept (s.toured.ends at_left))) here holds (kept t.row (s.toured.ends at_right).row-used)
          (sym (not-true-false (stands _ (read_in b k)) (λ e. fresh (stands-true _ (read_in b k) e))))
          (omega (arith, s.toured.met-is, count-new (rule_of b) (read_in b k) d fresh))
          (omega (arith, s.toured.marked, one-marked marks q (capacity_in b + 2) mark-inside r.low n r.high))

    -- ---- in a good store

    module _ (g : Good b) {q : ℕ} (f : q ≡ edge_in b u d) where
      -- the edge leads to the row of the longest palindrome
      edge-good : (used_in b q ≡ true) × (node_in b q ≡ spelt (around (rule_of b) d (node_in b u)))
      edge-good =
          let o = step-there (covers g) (read_in b k) d (read-stands w.next) (letter-next w.next) u (s.toured.used u w.met) w.longest in
          rw f (o.0, o.1 ∙ ap spelt w.longest)

      -- which names u and d
      pub good-back : PointsBack b u d q
      good-back = good-names g u d q (s.toured.used u w.met) edge-good.0 edge-good.1

      -- and is longer by two, is in use, and has the link that the second walk finds
      pub good_new : NewRow b k d u q false → ⊥
      good_new (not-longer n) =
          n (omega (arith, length-row g q edge-good.0, length-row g u (s.toured.used u w.met), ap reach_of edge-good.1, around-reach (rule_of b) d (node_in b u)))
      good_new (not-used l) = omega (arith, used-rank b q good-back.low edge-good.0)
      good_new (not-linked x o n) =
          let i = link-holds x o in
          let j = (covers g).link-is q edge-good.0 in
          n (g.table.one-row (link_in b q) x j.0 (s.toured.used x i.0) (j.1 ∙ ap (link_of (rule_of b)) edge-good.1 ∙ sym i.1))
