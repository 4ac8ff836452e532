-- Handing the numbers on, backwards in the order in which the rows are met. The row that is new at a right end has its whole number by then, since a row that ends with its palindrome is met no earlier;
-- and what it hands to its link, which stood before, is what all palindromes that end the link lose with the row. Rests on `Weigh`, on the links of `SuffixPalindromes` and on what one letter more brings.
use Prim.Native.Nat.{ℕ, ◌+◌, ◌≤◌, ◌<◌}
use native.Mathlib.Omega.{arith}
use native.Mathlib.Numerals.{add-one}
use native.Mathlib.Decide.{dec_lt, ℕ_discrete}
use mathlib.Core.Path.{◌≡◌, refl, sym, ap, ◌∙◌, subst}
use mathlib.Core.Bool.{Bool, true, false, cond, ◌&&◌, ◌||◌, and-false}
use mathlib.Core.Logic.{◌≢◌, ⊎_elim}
use mathlib.Core.List.{[], ◌∷◌, ◌++◌}
use lib.Dec.{ltb}
use lib.ListN.{length, get_or, set, take, length-set}
use lib.Seq.{get_or-set_other}
use borrow.Author.Tests.{lt-ltb, le-ltb, not-true, not-false}
use Rattle.palindromes.specs.Word.{Word, same_word, member}
use Rattle.palindromes.specs.Palindrome.{Palindrome}
use Rattle.palindromes.specs.Place.{Stands, Suffix, frequency, stands}
use Rattle.palindromes.specs.Record.{suffixes, longest_suffix}
use Rattle.palindromes.specs.Occurrences.{occurrences_by_row}
use Rattle.palindromes.specs.Node.{Node, imaginary, spelt, spelling_of}
use Rattle.palindromes.proofs.Tests.{both_true, false-not-true, not-true-false, same_true}
use Rattle.palindromes.proofs.Words.{same_or_not, suffix_refl, suffix-of-empty, suffix-stands, stands-trans, stands-snoc}
use Rattle.palindromes.proofs.Places.{stands-true, stands-is, stands-empty}
use Rattle.palindromes.proofs.Stretches.{suffixes-true, suffixes-is}
use Rattle.palindromes.proofs.Longest.{longest-suffix}
use Rattle.palindromes.proofs.Palindromes.{longest-palindrome}
use Rattle.palindromes.proofs.SuffixPalindromes.{ends-link}
use Rattle.palindromes.proofs.Frequency.{frequency-most}
use Rattle.palindromes.proofs.Occurrences.{occurrences-agree, occurrences-limit, frequencies_of, by-row-whole, by-row-empty, prefix-by-row}
use Rattle.eertree.proofs.Entries.{same_word_lem}
use Rattle.eertree.proofs.Rows.{empty-row, row-high}
use Rattle.store.specs.Layout.{size_in, used_in, link_in, letters_in}
use Rattle.store.specs.Good.{rule_of, node_in, Good}
use Rattle.store.proofs.Sizes.{letters-length}
use Rattle.transitions.proofs.Rows.{covers, used-root, row_below, size-most}
use Rattle.walk.specs.Replay.{ending_in, new_at, Holds}
use Rattle.walk.proofs.Reading.{read_more, read-stands, read_whole, met-other, met-ending, ending-row}
use Rattle.walk.proofs.Links.{Linked, linked}
use Rattle.end_rows.specs.EndRows.{FirstRows}
use Rattle.frequencies.specs.Frequencies.{RowFrequencies}
use Rattle.frequencies.specs.Counts.{weigh, ends_with, open_with, HandedFrom, Handable, handed, handed_on}
use Rattle.frequencies.proofs.Counting.{none-stands}
use Rattle.frequencies.proofs.Weigh.{counted, weigh-set, weigh-agree, weigh-without, weigh-none, weigh-least}

-- a row in use whose palindrome stands is open to those that end it
opened : (b : Word) (k r : ℕ) (v w : Word) → stands v (take k (letters_in b)) ≡ true → used_in b r ≡ true → node_in b r ≡ spelt v → open_with b k w r ≡ member w (suffixes v)
unfolding spelling_of
opened b k r v w s u e = rw (e, s, u) refl

module _ {b : Word} (g : Good b) {k : ℕ} (l : k < size_in b) where
  abbrev here : Word
  here = ending_in b (k + 1)

  abbrev before : Word
  before = take k (letters_in b)

  abbrev after : Word
  after = take (k + 1) (letters_in b)

  in_letters : k < length (letters_in b)
  in_letters = omega (arith, letters-length g.sized)

  -- what is read is one letter longer
  longer : after ≡ before ++ (get_or (letters_in b) k 0 ∷ [])
  longer = read_more (letters_in b) k in_letters

  -- so what stood stands
  stands-later : {w : Word} → Stands w before → Stands w after
  stands-later h = rw longer (stands-snoc (get_or (letters_in b) k 0) h)

  -- a row other than the one come to stands as it did
  module _ {last : ℕ} (h : Holds b (k + 1) last) where
    as_before : (r : ℕ) → used_in b r ≡ true → r ≢ last → stands (spelling_of (node_in b r)) before ≡ stands (spelling_of (node_in b r)) after
    unfolding spelling_of
    as_before r u n = go (node_in b r) refl
      where
        go : (v : Node) → node_in b r ≡ v → stands (spelling_of v) before ≡ stands (spelling_of v) after
        go imaginary e = stands-is [] before (stands-empty before) ∙ sym (stands-is [] after (stands-empty after))
        go (spelt w) e = met-other g l h r w u e (λ i. n (ending-row g l h r w u e i))

    -- and so do the rows that end with a palindrome
    open-before : (w : Word) (r : ℕ) → r ≢ last → open_with b (k + 1) w r ≡ open_with b k w r
    open-before w r n = go (used_in b r) refl
      where
        tail : Bool
        tail = member w (suffixes (spelling_of (node_in b r)))

        go : (t : Bool) → used_in b r ≡ t → (stands (spelling_of (node_in b r)) after && (t && tail)) ≡ (stands (spelling_of (node_in b r)) before && (t && tail))
        go true u = ap (λ (x : Bool). x && tail) (sym (as_before r u n))
        go false u = and-false (stands (spelling_of (node_in b r)) after) ∙ sym (and-false (stands (spelling_of (node_in b r)) before))

    -- ---- nothing new

    module _ (old : new_at b k ≡ false) where
      stood : stands here before ≡ true
      stood = not-false (stands here before) old

      -- then every row stands as it did
      all-before : (w : Word) (r : ℕ) → open_with b (k + 1) w r ≡ open_with b k w r
      unfolding spelling_of
      all-before w r = go (ℕ_discrete r last)
        where
          go : Dec (r ≡ last) → open_with b (k + 1) w r ≡ open_with b k w r
          go (no n) = open-before w r n
          go (yes e) =
              let f : stands (spelling_of (node_in b r)) after ≡ stands (spelling_of (node_in b r)) before = rw (e, h.holds) (met-ending g l h ∙ sym stood) in
              ap (λ (x : Bool). x && ends_with b w r) f

      pub handed-old : {counts : Word} → HandedFrom b (k + 1) counts → HandedFrom b k counts
      handed-old {counts} c =
          record {
            long = c.long;
            waiting = λ w p s. sym (weigh-agree (open_with b (k + 1) w) (open_with b k w) counts (all-before w)) ∙ c.waiting w p (stands-later s);
            done = λ r w u m e s. c.done r w u m e (sym (same r w u e s) ∙ s);
          }
        where
          same : (r : ℕ) (w : Word) → used_in b r ≡ true → node_in b r ≡ spelt w → stands w before ≡ false → stands w before ≡ stands w after
          same r w u e s = met-other g l h r w u e (λ i. false-not-true s (rw i stood))

    -- ---- a row is new

    module _ (new : new_at b k ≡ true) where
      fresh : stands here before ≡ false
      fresh = not-true (stands here before) new

      not-empty : here ≡ [] → ⊥
      not-empty e = false-not-true fresh (stands-is here before (rw e (stands-empty before)))

      high : 2 ≤ last
      high = row-high (covers g) last h.holds not-empty

      repeat : Palindrome (rule_of b) here
      repeat = longest-palindrome (rule_of b) after not-empty

      link : Linked b k last
      link = linked g l h high

      -- the palindrome of its link, which stood before
      abbrev shorter : Word
      shorter = longest_suffix (rule_of b) link.rest

      -- its row is another
      other : link_in b last ≢ last
      other e =
          let i : here ≡ shorter = same_word_lem (sym h.holds ∙ ap (node_in b) (sym e) ∙ link.holds) in
          false-not-true fresh (stands-is here before (rw i link.stood))

      module _ {counts : Word} (c : HandedFrom b (k + 1) counts) where
        in-counts : last < length counts
        in-counts = omega (arith, row_below g last h.used, c.long)

        link-in-counts : link_in b last < length counts
        link-in-counts = omega (arith, row_below g (link_in b last) link.used, c.long)

        -- the rows that end with w: the new one does as long as it waits
        open-new : (w : Word) → open_with b (k + 1) w last ≡ member w (suffixes here)
        open-new w = opened b (k + 1) last here w (met-ending g l h) h.used h.holds

        open_gone : (w : Word) → open_with b k w last ≡ false
        unfolding spelling_of
        open_gone w = let f : stands (spelling_of (node_in b last)) before ≡ false = rw h.holds fresh in ap (λ (x : Bool). x && ends_with b w last) f

        open-link : (w : Word) → open_with b k w (link_in b last) ≡ member w (suffixes shorter)
        open-link w = opened b k (link_in b last) shorter w (stands-is shorter before link.stood) link.used link.holds

        -- a palindrome that stood before ends the new one exactly if it ends its link
        ends-both : (w : Word) → Palindrome (rule_of b) w → Stands w before → member w (suffixes here) ≡ member w (suffixes shorter)
        ends-both w p s =
            let f : same_word w here ≡ false = not-true-false (same_word w here) λ t. false-not-true fresh (stands-is here before (subst (λ (v : Word). Stands v before) (same_true w here t) s)) in
            ap (λ (v : Word). member w (suffixes v)) link.ends ∙ ends-link (rule_of b) w p link.first link.rest link.symmetric
            ∙ ap (λ (t : Bool). t || member w (suffixes shorter)) (ap (same_word w) (sym link.ends) ∙ f)

        -- ---- its own number is whole

        pub new-whole : get_or counts last 0 ≡ frequency here (letters_in b)
        new-whole =
            let ends : member here (suffixes here) ≡ true = suffixes-is here here not-empty suffix_refl in
            let f = weigh-without (open_with b (k + 1) here) (λ r. false) counts last in-counts (open-new here ∙ ends) refl (λ r n. open-before here r n ∙ alone r) in
            omega (arith, f, weigh-none (λ r. false) counts (λ r. refl), c.waiting here repeat (stands-true here after (met-ending g l h)))
          where
            -- no row that stood ends with it, since it would have stood there too
            alone : (r : ℕ) → open_with b k here r ≡ false
            alone r =
                not-true-false (open_with b k here r) λ t.
                let v = spelling_of (node_in b r) in
                let a = both_true (stands v before) (ends_with b here r) t in
                let e = (suffixes-true here v (both_true (used_in b r) (member here (suffixes v)) a.1).1).1 in
                false-not-true fresh (stands-is here before (stands-trans (suffix-stands e) (stands-true v before a.0)))

        -- ---- what the rows that wait lose with it

        lost : (w : Word) → Palindrome (rule_of b) w → Stands w before
            → weigh (open_with b (k + 1) w) counts ≡ counted (open_with b k w (link_in b last)) (get_or counts last 0) + weigh (open_with b k w) counts
        lost w p s = go (member w (suffixes shorter)) refl
          where
            go : (t : Bool) → member w (suffixes shorter) ≡ t
                → weigh (open_with b (k + 1) w) counts ≡ counted (open_with b k w (link_in b last)) (get_or counts last 0) + weigh (open_with b k w) counts
            go true e =
                let at = open-new w ∙ ends-both w p s ∙ e in
                rw (open-link w, e) (weigh-without (open_with b (k + 1) w) (open_with b k w) counts last in-counts at (open_gone w) (open-before w))
            go false e = rw (open-link w, e) (omega (arith, weigh-agree (open_with b (k + 1) w) (open_with b k w) counts (λ r. same r (ℕ_discrete r last))))
              where
                same : (r : ℕ) → Dec (r ≡ last) → open_with b (k + 1) w r ≡ open_with b k w r
                same r (yes i) = rw i (open-new w ∙ ends-both w p s ∙ e ∙ sym (open_gone w))
                same r (no n) = open-before w r n

        -- ---- its link's can be raised

        -- a link that is no root's is a palindrome
        link-repeat : 2 ≤ link_in b last → Palindrome (rule_of b) shorter
        link-repeat m =
            record {
              non-empty = λ e. let i = empty-row (covers g) (link_in b last) link.used (link.holds ∙ ap spelt e) in omega arith;
              symmetric = (longest-suffix (rule_of b) link.rest).symmetric;
            }

        pub new-few : 2 ≤ link_in b last → get_or counts (link_in b last) 0 + get_or counts last 0 < 65536
        new-few m =
            let v = shorter in
            let p = link-repeat m in
            let at : open_with b k v (link_in b last) ≡ true = open-link v ∙ suffixes-is v v p.non-empty suffix_refl in
            let f : weigh (open_with b (k + 1) v) counts ≡ get_or counts last 0 + weigh (open_with b k v) counts = lost v p link.stood ∙ ap (λ (t : Bool). counted t (get_or counts last 0) + weigh (open_with b k v) counts) at in
            omega (
              arith,
              f,
              c.waiting v p (stands-later link.stood),
              weigh-least (open_with b k v) counts (link_in b last) link-in-counts at,
              frequency-most v p.non-empty (letters_in b),
              letters-length g.sized,
              size-most g,
            )

        -- ---- and is

        abbrev raised : Word
        raised = set counts (link_in b last) (get_or counts (link_in b last) 0 + get_or counts last 0)

        -- whatever is not the link's stays, and is whole where the row no longer waits
        whole : (r : ℕ) (w : Word) → used_in b r ≡ true → 2 ≤ r → node_in b r ≡ spelt w → stands w before ≡ false → get_or counts r 0 ≡ frequency w (letters_in b)
        whole r w u m e s = ⊎_elim own later (same_or_not w here)
          where
            own : w ≡ here → get_or counts r 0 ≡ frequency w (letters_in b)
            own i = rw (ending-row g l h r w u e i, i) new-whole

            later : (w ≡ here → ⊥) → get_or counts r 0 ≡ frequency w (letters_in b)
            later n = c.done r w u m e (sym (met-other g l h r w u e n) ∙ s)

        not-link : (r : ℕ) (w : Word) → node_in b r ≡ spelt w → stands w before ≡ false → r ≢ link_in b last
        not-link r w e s i =
            let j : w ≡ shorter = same_word_lem (sym e ∙ ap (node_in b) i ∙ link.holds) in
            false-not-true s (stands-is w before (rw j link.stood))

        to-root : link_in b last < 2 → HandedFrom b k counts
        to-root m =
            record {
              long = c.long;
              waiting = λ w p s. let z = ap (λ (t : Bool). counted t (get_or counts last 0)) (closed w p) in omega (arith, lost w p s, z, c.waiting w p (stands-later s));
              done = whole;
            }
          where
            -- a root ends with no palindrome
            closed : (w : Word) → Palindrome (rule_of b) w → open_with b k w (link_in b last) ≡ false
            closed w p =
                open-link w ∙ not-true-false (member w (suffixes shorter)) λ t.
                let e = suffixes-true w shorter t in
                let n : shorter ≡ [] → ⊥ = λ i. e.0 (suffix-of-empty (subst (Suffix w) i e.1)) in
                omega (arith, row-high (covers g) (link_in b last) link.holds n)

        to_row : HandedFrom b k raised
        to_row =
            record {
              long = length-set counts (link_in b last) (get_or counts (link_in b last) 0 + get_or counts last 0) ∙ c.long;
              waiting = λ w p s. gains w (open_with b k w (link_in b last)) refl ∙ sym (lost w p s) ∙ c.waiting w p (stands-later s);
              done = λ r w u m e s. get_or-set_other counts (link_in b last) r (get_or counts (link_in b last) 0 + get_or counts last 0) 0 (not-link r w e s) ∙ whole r w u m e s;
            }
          where
            gains : (w : Word) (t : Bool) → open_with b k w (link_in b last) ≡ t → weigh (open_with b k w) raised ≡ counted (open_with b k w (link_in b last)) (get_or counts last 0) + weigh (open_with b k w) counts
            gains w t e =
                let x = get_or counts (link_in b last) 0 in
                let y = get_or counts last 0 in
                let a : weigh (open_with b k w) raised + counted t x ≡ weigh (open_with b k w) counts + counted t (x + y) = rw (← e) (weigh-set (open_with b k w) counts (link_in b last) (x + y) link-in-counts) in
                rw e (omega (arith, a, split t x y))
              where
                split : (t : Bool) (x y : ℕ) → counted t (x + y) ≡ counted t x + counted t y
                split true x y = refl
                split false x y = omega arith

        pub handed-new : HandedFrom b k (handed_on b counts last)
        handed-new = rw (le-ltb last 2 high) (go (dec_lt (link_in b last) 2))
          where
            go : Dec (link_in b last < 2) → HandedFrom b k (cond (ltb (link_in b last) 2) counts raised)
            go (yes m) = rw (lt-ltb (link_in b last) 2 m) (to-root m)
            go (no m) = rw (le-ltb (link_in b last) 2 (omega arith)) to_row

-- ---- right end by right end

-- what holds when the right ends after the first k have been gone back over
pub record Adding (b : Word) (k : ℕ) (counts : Word) (total : ℕ) : Type 0 where
  pub inside : k ≤ size_in b
  pub rows : HandedFrom b k counts
  pub sum : total + frequencies_of (rule_of b) (letters_in b) (take k (letters_in b)) ≡ occurrences_by_row (rule_of b) (letters_in b)

module _ {b : Word} (g : Good b) where
  -- before the first
  pub adding-first : {counts : Word} → HandedFrom b (size_in b) counts → Adding b (size_in b) counts 0
  adding-first c =
      let all = read_whole g (size_in b) refl in
      record { inside = omega arith; rows = c; sum = omega (arith, ap (frequencies_of (rule_of b) (letters_in b)) all, by-row-whole (rule_of b) (letters_in b)) }

  -- after the last each number is the frequency, and their sum is known
  pub adding-last : {counts : Word} {total : ℕ} → Adding b 0 counts total → RowFrequencies b counts × (total ≡ occurrences_by_row (rule_of b) (letters_in b))
  adding-last {counts} a =
      (record { long = a.rows.long; each = λ r w u l e. a.rows.done r w u l e (none-stands g r w u l e) }, omega (arith, a.sum, by-row-empty (rule_of b) (letters_in b)))

  -- the sum is small all the way
  pub adding-small : {k : ℕ} {counts : Word} {total : ℕ} → Adding b k counts total → total ≤ 524800
  adding-small a =
      omega (arith, a.sum, occurrences-agree (rule_of b) (letters_in b), occurrences-limit (rule_of b) (letters_in b) (omega (arith, letters-length g.sized, size-most g)))

  module _ {firsts : Word} {k : ℕ} (l : k < size_in b) (f : FirstRows b firsts) where
    abbrev first : ℕ
    first = get_or firsts k 0

    -- the row at a right end, where no new one is met
    met : (r : ℕ) × Holds b (k + 1) r
    met =
        let v = longest-suffix (rule_of b) (take (k + 1) (letters_in b)) in
        let r = (covers g).each_word (ending_in b (k + 1)) v.symmetric (stands-trans (suffix-stands v.suffix) (read-stands (letters_in b) (k + 1))) in
        (r.0, record { used = r.1; holds = r.2 })

    pub handable : {n : ℕ} {counts : Word} → n ≡ k + 1 → HandedFrom b n counts → Handable b counts first
    handable {n} {counts} e a = go (new_at b k) refl
      where
        c : HandedFrom b (k + 1) counts
        c = subst (λ (x : ℕ). HandedFrom b x counts) e a

        go : (t : Bool) → new_at b k ≡ t → Handable b counts first
        go true n =
            let h = f.new k l n in
            let w = new-whole g l h n c in
            record {
              long = c.long;
              used = h.used;
              small = λ m. omega (arith, w, frequency-most (ending_in b (k + 1)) (not-empty g l h n) (letters_in b), letters-length g.sized, size-most g);
              few = λ m. new-few g l h n c;
            }
        go false n =
            let o = f.old k l n in
            record { long = c.long; used = used-root b first o; small = λ m. absurd (omega arith); few = λ m. absurd (omega arith) }

    pub adding-next : {n total : ℕ} {counts : Word} → n ≡ k + 1 → Adding b n counts total → Adding b k (handed_on b counts first) (total + handed counts first)
    adding-next {n} {total} {counts} e a = go (new_at b k) refl
      where
        c : HandedFrom b (k + 1) counts
        c = subst (λ (x : ℕ). HandedFrom b x counts) e a.rows

        here-sum : frequencies_of (rule_of b) (letters_in b) (take n (letters_in b))
            ≡ frequencies_of (rule_of b) (letters_in b) (take k (letters_in b)) + cond (stands (ending_in b (k + 1)) (take k (letters_in b))) 0 (frequency (ending_in b (k + 1)) (letters_in b))
        here-sum = rw (e, add-one) (prefix-by-row (rule_of b) (letters_in b) k (omega (arith, letters-length g.sized)))

        go : (t : Bool) → new_at b k ≡ t → Adding b k (handed_on b counts first) (total + handed counts first)
        go true m =
            let h = f.new k l m in
            let s = ap (λ (t : Bool). cond t 0 (frequency (ending_in b (k + 1)) (letters_in b))) (not-true (stands (ending_in b (k + 1)) (take k (letters_in b))) m) in
            let z = ap (λ (t : Bool). cond t 0 (get_or counts first 0)) (le-ltb first 2 (high g l h m)) in
            record { inside = omega arith; rows = handed-new g l h m c; sum = omega (arith, a.sum, here-sum, s, z, new-whole g l h m c) }
        go false m =
            let o = lt-ltb first 2 (f.old k l m) in
            let s = ap (λ (t : Bool). cond t 0 (frequency (ending_in b (k + 1)) (letters_in b))) (not-false (stands (ending_in b (k + 1)) (take k (letters_in b))) m) in
            let z = ap (λ (t : Bool). cond t 0 (get_or counts first 0)) o in
            record { inside = omega arith; rows = rw o (handed-old g l met.1 m c); sum = omega (arith, a.sum, here-sum, s, z) }
