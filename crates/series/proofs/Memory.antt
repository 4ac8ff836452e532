-- What is kept with a row is there when it is asked for: 001 section 4.1, "lemmas 4.4 and 4.5 ensure that when we access dp[link[v]] .. it is exactly
-- the value computed diff[v] steps before". The invariant of all ends is `Fresh`, that of the walk at one end `Walked`: a walk visits the leaders and
-- no other row, so what is kept with a row is of the last end at which it led. Where a leader is of one series with its link, the link led before and
-- ended nowhere since (`taken`), so the guard lets its choice through, and the walk goes on behind the whole series (`next-after`): each turn leaves
-- one series fewer (`turn-series`), and the walk at an end takes as many turns as there are series (`first-series`). Rests on `Leaders` and the rows
-- of a table that covers a record.
use Prim.Native.Nat.{ℕ, zero, suc, ◌+◌, ◌-◌, ◌≤◌, ◌<◌}
use native.Mathlib.Omega.{arith}
use native.Mathlib.Decide.{dec_le, ℕ_discrete}
use mathlib.Core.Path.{◌≡◌, refl, sym, ap, ◌∙◌, subst}
use mathlib.Core.Bool.{Bool, true, cond, ◌&&◌}
use mathlib.Core.List.{[], ◌∷◌, ◌++◌, append_assoc}
use lib.Dec.{eqb}
use lib.ListN.{length, take, drop, length-append, length-take, length-drop, take-append-drop}
use lib.Seq.{take-take, take_at}
use borrow.Author.Tests.{eqb-true, eq-eqb}
use Rattle.palindromes.specs.Word.{Word}
use Rattle.palindromes.specs.Palindrome.{Symmetric, Palindrome}
use Rattle.palindromes.specs.Record.{longest_suffix}
use Rattle.palindromes.specs.Node.{Node, spelt, link_of, spelling_of}
use Rattle.palindromes.specs.Eertree.{Table}
use Rattle.palindromes.proofs.Words.{no-letters, suffix-length}
use Rattle.palindromes.proofs.Mirror.{symmetric-suffix}
use Rattle.palindromes.proofs.Longest.{longest-suffix}
use Rattle.palindromes.proofs.Tests.{both-are, both_true, not-true-false}
use Rattle.eertree.specs.Covers.{Covers}
use Rattle.eertree.proofs.Rows.{reach_of, word_row, empty-row, row-high}
use Rattle.series.specs.Series.{series, linked, Same, After, stop, pass, Leader}
use Rattle.series.specs.Memory.{next_row, Remembers, Fresh, Walked, LeadsAt}
use Rattle.series.proofs.SeriesCount.{linked-symmetric, linked-suffix, linked-shorter, series-none, series-longest}
use Rattle.series.proofs.Leaders.{after-shorter, after-series, leader-first, leader-next, leader-skip, leader-link, leader-quiet}

-- what a row and its link spell
pub record Spells (σ : ℕ → ℕ) (word : ℕ → Word) (used : ℕ → Bool) (link reach : ℕ → ℕ) (r : ℕ) : Type 0 where
  pub symmetric : Symmetric σ (word r)
  pub some : 0 < length (word r)
  pub reaches : reach r ≡ suc (length (word r))
  pub link-used : used (link r) ≡ true
  pub link-word : word (link r) ≡ linked σ (word r)
  pub link-reaches : reach (link r) ≡ suc (length (linked σ (word r)))
  pub link-high : 0 < length (linked σ (word r)) → 2 ≤ link r
  pub link-low : length (linked σ (word r)) ≤ 0 → link r ≡ 1

-- ---- where a walk goes on

module _ (link reach begins after : ℕ → ℕ) (i row : ℕ) where
  abbrev first : Bool
  first = eqb (begins (link row)) (i + 1 - reach row + 1)

  abbrev second : Bool
  second = eqb (reach (link row)) (reach (link (link row)) + (reach row - reach (link row)))

  -- behind what is kept with the link, if that was kept for the same beginning, and the differences are the same
  pub next-kept : begins (link row) ≡ i + 1 - reach row + 1 → reach (link row) ≡ reach (link (link row)) + (reach row - reach (link row))
      → next_row link reach begins after i row ≡ after (link row)
  unfolding next_row
  next-kept a b =
      ap
      (λ (t : Bool). cond t (after (link row)) (link row))
      (both-are first second (eq-eqb (begins (link row)) (i + 1 - reach row + 1) a)
      (eq-eqb (reach (link row)) (reach (link (link row)) + (reach row - reach (link row))) b))

  -- and else at the link
  pub next-link : (begins (link row) ≡ i + 1 - reach row + 1 → reach (link row) ≡ reach (link (link row)) + (reach row - reach (link row)) → ⊥)
      → next_row link reach begins after i row ≡ link row
  unfolding next_row
  next-link n =
      ap (λ (t : Bool). cond t (after (link row)) (link row)) (not-true-false (first && second) (λ t. go (both_true first second t)))
    where
      go : (first ≡ true) × (second ≡ true) → ⊥
      go t =
          n (eqb-true (begins (link row)) (i + 1 - reach row + 1) t.0)
          (eqb-true (reach (link row)) (reach (link (link row)) + (reach row - reach (link row))) t.1)

-- ---- the invariants

module _ {σ : ℕ → ℕ} {s : Word} {T : Table} {node : ℕ → Node} (h : Covers σ s T node) (reach : ℕ → ℕ)
    (tells : (r : ℕ) → T.used r ≡ true → reach r ≡ reach_of (node r)) where
  abbrev word : ℕ → Word
  word r = spelling_of (node r)

  -- ---- rows

  pub spells : (r : ℕ) → T.used r ≡ true → 2 ≤ r → Spells σ word T.used T.link reach r
  unfolding spelling_of link_of linked
  spells r u l = let p = word_row h r u l in go p.0 p.1 p.2
    where
      go : (w : Word) → node r ≡ spelt w → Palindrome σ w → Spells σ word T.used T.link reach r
      go [] e p = absurd (p.non-empty refl)
      go (x ∷ t) e p =
          let k : node (T.link r) ≡ spelt (longest_suffix σ t) = (h.link-is r u).1 ∙ ap (link_of σ) e in
          let f : word r ≡ x ∷ t = ap spelling_of e in
          let g : linked σ (word r) ≡ longest_suffix σ t = ap (linked σ) f in
          record {
            symmetric = rw f p.symmetric;
            some = omega (arith, ap length f);
            reaches = omega (arith, tells r u, ap reach_of e, ap length f);
            link-used = (h.link-is r u).0;
            link-word = ap spelling_of k ∙ sym g;
            link-reaches = omega (arith, tells (T.link r) (h.link-is r u).0, ap reach_of k, ap length g);
            link-high = λ n. row-high h (T.link r) k (λ z. omega (arith, ap length z, ap length g));
            link-low = λ n. empty-row h (T.link r) (h.link-is r u).0 (k ∙ ap spelt (no-letters (longest_suffix σ t) (omega (arith, ap length g))));
          }

  -- two rows that spell the same are one
  same_row : (r q : ℕ) → T.used r ≡ true → 2 ≤ r → T.used q ≡ true → 2 ≤ q → word r ≡ word q → r ≡ q
  unfolding spelling_of
  same_row r q u l v m e =
      let a = word_row h r u l in
      let b = word_row h q v m in
      h.one-row r q u v (a.1 ∙ ap spelt (sym (ap spelling_of a.1) ∙ e ∙ ap spelling_of b.1) ∙ sym b.1)

  -- a root spells nothing
  root-empty : (r : ℕ) → r < 2 → word r ≡ []
  unfolding spelling_of
  root-empty zero l = ap spelling_of h.row_zero.1
  root-empty (suc zero) l = ap spelling_of h.row_one.1
  root-empty (suc (suc r)) l = absurd (omega arith)

  root-reach : (r : ℕ) → r < 2 → reach r ≤ 1
  root-reach zero l = omega (arith, tells 0 h.row_zero.0, ap reach_of h.row_zero.1)
  root-reach (suc zero) l = omega (arith, tells 1 h.row_one.0, ap reach_of h.row_one.1)
  root-reach (suc (suc r)) l = absurd (omega arith)

  module _ {begins after : ℕ → ℕ} where
    -- before the first end nothing has led
    pub fresh-first : begins 1 ≡ 0 → Fresh σ s word T.used reach begins after 1
    fresh-first z = record { root = z; each = λ r j u l n d q. absurd (omega (arith, d.some, suffix-length d.suffix, length-take j s)) }

    module _ {i : ℕ} where
      -- the walk starts at the longest
      pub walked-first : Fresh σ s word T.used reach begins after i → (row : ℕ) → T.used row ≡ true
          → node row ≡ spelt (longest_suffix σ (take i s)) → Walked σ s word T.used reach begins after i row
      unfolding spelling_of
      walked-first f row u e =
          let w : word row ≡ longest_suffix σ (take i s) = ap spelling_of e in
          record {
            root = f.root;
            row-used = u;
            here = λ l. subst (λ (v : Word). Leader σ v (take i s)) (sym w) (leader-first σ (take i s) (omega (arith, (spells row u l).some, ap length w)));
            before = λ r j v l n d q c. f.each r j v l n d q;
            done = λ r v l d c.
                absurd
                (omega (
                  arith,
                  suffix-length ((longest-suffix σ (take i s)).most (word r) d.symmetric d.suffix),
                  (spells r v l).reaches,
                  tells row u,
                  ap reach_of e,
                ));
          }

      -- and ends at a root
      pub walked-last : (row : ℕ) → Walked σ s word T.used reach begins after i row → row < 2 → Fresh σ s word T.used reach begins after (i + 1)
      walked-last row w l = record { root = w.root; each = λ r j u m n d q. go r j u m n d q (ℕ_discrete j i) }
        where
          go : (r j : ℕ) → T.used r ≡ true → 2 ≤ r → j < i + 1 → LeadsAt σ s word r j
              → ((k : ℕ) → j < k → k < i + 1 → LeadsAt σ s word r k → ⊥) → Dec (j ≡ i)
              → Remembers σ word T.used reach begins after r j
          go r j u m n d q (yes e) = rw e (w.done r u m (rw e at d) (omega (arith, root-reach row l, (spells r u m).reaches, (spells r u m).some)))
          go r j u m n d q (no e) = w.before r j u m (omega arith) d (λ k a b c. q k a (omega arith) c) (λ c. absurd (q i (omega arith) (omega arith) c))

      module _ {row : ℕ} (w : Walked σ s word T.used reach begins after i row) (high : 2 ≤ row) (fits : i ≤ length s) where
        abbrev sp : Spells σ word T.used T.link reach row
        sp = spells row w.row-used high

        abbrev lead : Leader σ (word row) (take i s)
        lead = w.here high

        abbrev p : Word
        p = lead.suffix.before

        abbrev v : Word
        v = word row

        abbrev u : Word
        u = linked σ (word row)

        length-i : length p + length v ≡ i
        length-i = sym (length-append p v) ∙ ap length lead.suffix.whole ∙ omega (arith, length-take i s)

        -- 001 lemmas 4.4 and 4.5: what is kept with the link is of the end at which the link stood at the beginning of the palindrome
        pub taken : Same σ (word row) → Remembers σ word T.used reach begins after (T.link row) (length (p ++ u))
        taken m =
            let a = symmetric-suffix σ (linked-symmetric σ v) sp.symmetric (linked-suffix σ v) in
            let e = a.after in
            let lu : length u < length v = linked-shorter σ v sp.some in
            let lj : length (p ++ u) ≡ length p + length u = length-append p u in
            let whole : p ++ v ≡ take i s = lead.suffix.whole in
            let cut : (p ++ u) ++ e ≡ take i s = append_assoc p u e ∙ ap (λ (x : Word). p ++ x) a.whole ∙ whole in
            let there : take (length (p ++ u)) s ≡ p ++ u =
            sym (take-take (length (p ++ u)) i s (omega (arith, length-i))) ∙ ap (take (length (p ++ u))) (sym cut)
            ∙ take_at (p ++ u) e (length (p ++ u)) refl in
            let led : Leader σ u (p ++ u) = leader-link σ p (subst (Leader σ v) (sym whole) lead) m in
            let led₂ : Leader σ (word (T.link row)) (take (length (p ++ u)) s) = rw (there, sp.link-word) led in
            w.before (T.link row) (length (p ++ u)) sp.link-used (sp.link-high led.some) (omega (arith, length-i)) led₂ (quiet m)
            (λ c. omega (arith, sp.reaches, sp.link-reaches))
          where
            quiet : Same σ v → (k : ℕ) → length (p ++ u) < k → k < i → LeadsAt σ s word (T.link row) k → ⊥
            quiet m k a b d =
                let q = take k s in
                let lq : length q ≡ k = omega (arith, length-take k s) in
                let r = drop k (take i s) in
                let lr : 0 < length r = omega (arith, length-drop k (take i s), length-take i s) in
                let f : q ++ r ≡ p ++ v =
                ap (λ (x : Word). x ++ r) (sym (take-take k i s (omega arith))) ∙ take-append-drop k (take i s) ∙ sym lead.suffix.whole in
                leader-quiet σ p q r sp.symmetric sp.some m f (omega arith) (λ z. omega (arith, ap length z)) (rw sp.link-word at d.suffix)

        -- so the walk goes on behind the series
        abbrev next : ℕ
        next = next_row T.link reach begins after i row

        -- the length of the link's link, where the link is no root
        link-link : 0 < length u → reach (T.link (T.link row)) ≡ suc (length (linked σ u))
        link-link n = (spells (T.link row) sp.link-used (sp.link-high n)).link-reaches ∙ ap (λ (x : Word). suc (length (linked σ x))) sp.link-word

        -- the guard never refuses a choice where the differences agree
        pub next-same : Same σ (word row) → next ≡ after (T.link row)
        next-same m =
            next-kept T.link reach begins after i row
            (omega (arith, (taken m).begin, length-append p u, length-i, sp.reaches, sp.link-reaches))
            (omega (arith, link-link (omega (arith, sp.some)), sp.reaches, sp.link-reaches, linked-shorter σ v sp.some))

        -- and lets none through where they do not
        pub next-other : (Same σ (word row) → ⊥) → next ≡ T.link row
        next-other m = next-link T.link reach begins after i row (λ a b. go a b (dec_le (length u) 0))
          where
            go : begins (T.link row) ≡ i + 1 - reach row + 1 → reach (T.link row) ≡ reach (T.link (T.link row)) + (reach row - reach (T.link row))
                → Dec (length u ≤ 0) → ⊥
            go a b (yes k) = omega (arith, ap begins (sp.link-low k), w.root)
            go a b (no k) = m (omega (arith, link-link (omega arith), sp.reaches, sp.link-reaches, linked-shorter σ v sp.some))

        pub next-after : After σ (word row) (word next) × (T.used next ≡ true)
        next-after = go (ℕ_discrete (length v + length (linked σ u)) (length u + length u))
          where
            go : Dec (Same σ v) → After σ (word row) (word next) × (T.used next ≡ true)
            go (yes m) =
                let r = taken m in
                let e = next-same m in
                let rest = subst (λ (x : Word). After σ x (word (after (T.link row)))) sp.link-word r.next in
                (subst (λ (n : ℕ). After σ v (word n)) (sym e) (pass m rest), ap T.used e ∙ r.next-used)
            go (no m) = let e = next-other m in (stop m (ap word e ∙ sp.link-word), ap T.used e ∙ sp.link-used)

        -- each turn leaves one series fewer
        pub turn-series : series σ (word row) ≡ suc (series σ (word next))
        turn-series = after-series σ next-after.0 sp.symmetric sp.some

        -- it goes on at a shorter row
        next-falls : reach next < reach row
        next-falls = go (dec_le 2 next)
          where
            go : Dec (2 ≤ next) → reach next < reach row
            go (yes l) = omega (arith, (spells next next-after.1 l).reaches, after-shorter σ next-after.0 sp.some, sp.reaches)
            go (no l) = omega (arith, root-reach next (omega arith), sp.some, sp.reaches)

        -- what is kept then
        pub walked_next : {begins₂ after₂ : ℕ → ℕ} → begins₂ row ≡ i + 1 - reach row + 1 → after₂ row ≡ next
            → ((r : ℕ) → (r ≡ row → ⊥) → (begins₂ r ≡ begins r) × (after₂ r ≡ after r))
            → Walked σ s word T.used reach begins₂ after₂ i next
        walked_next {begins₂} {after₂} a b c =
            record {
              root = (c 1 (λ e. omega arith)).0 ∙ w.root;
              row-used = next-after.1;
              here = λ l. leader-next σ next-after.0 sp.symmetric sp.some lead.suffix (spells next next-after.1 l).some;
              before = λ r j y l n d q k.
                  old r j (λ e. different r y l k e) (w.before r j y l n d q (λ x. omega (arith, k x, next-falls)));
              done = λ r y l d k. new r y l d k (ℕ_discrete r row) (dec_le (reach r) (reach row));
            }
          where
            different : (r : ℕ) → T.used r ≡ true → 2 ≤ r → (LeadsAt σ s word r i → reach r ≤ reach next) → r ≡ row → ⊥
            different r y l k e = omega (arith, next-falls, ap reach e, k (subst (λ (n : ℕ). LeadsAt σ s word n i) (sym e) lead))

            old : (r j : ℕ) → (r ≡ row → ⊥) → Remembers σ word T.used reach begins after r j
                → Remembers σ word T.used reach begins₂ after₂ r j
            old r j n m =
                let k = c r n in
                record {
                  begin = omega (arith, k.0, m.begin);
                  next-used = ap T.used k.1 ∙ m.next-used;
                  next = subst (λ (x : ℕ). After σ (word r) (word x)) (sym k.1) m.next;
                }

            mine : Remembers σ word T.used reach begins₂ after₂ row i
            mine =
                record {
                  begin = omega (arith, a, sp.reaches, length-i);
                  next-used = ap T.used b ∙ next-after.1;
                  next = subst (λ (x : ℕ). After σ v (word x)) (sym b) next-after.0;
                }

            short : (r : ℕ) → T.used r ≡ true → 2 ≤ r → reach next < reach r → Dec (2 ≤ next) → length (word next) < length (word r)
            short r y l k (yes n) = omega (arith, (spells next next-after.1 n).reaches, (spells r y l).reaches)
            short r y l k (no n) = omega (arith, (spells r y l).some, ap length (root-empty next (omega arith)))

            new : (r : ℕ) → T.used r ≡ true → 2 ≤ r → LeadsAt σ s word r i → reach next < reach r → Dec (r ≡ row)
                → Dec (reach r ≤ reach row) → Remembers σ word T.used reach begins₂ after₂ r i
            new r y l d k (yes e) z = subst (λ (n : ℕ). Remembers σ word T.used reach begins₂ after₂ n i) (sym e) mine
            new r y l d k (no e) (yes z) =
                let below : length (word r) ≤ length v = omega (arith, sp.reaches, (spells r y l).reaches) in
                let same = leader-skip σ next-after.0 sp.symmetric sp.some lead.suffix d (short r y l k (dec_le 2 next)) below in
                absurd (e (same_row r row y l w.row-used high same))
            new r y l d k (no e) (no z) = old r i e (w.done r y l d (omega arith))

  -- ---- how many turns there are

  -- at a root none is left
  pub last-series : (row : ℕ) → row < 2 → series σ (word row) ≡ 0
  last-series row l = ap (series σ) (root-empty row l) ∙ series-none σ

  -- at the row of the longest palindrome those of the letters
  pub first-series : (i row : ℕ) → node row ≡ spelt (longest_suffix σ (take i s)) → series σ (word row) ≡ series σ (take i s)
  unfolding spelling_of
  first-series i row e = ap (series σ) (ap spelling_of e) ∙ sym (series-longest σ (take i s))
