-- Marks with one letter more. A palindrome that does not end the letters read stands as often as before; one that ends them is that of the row met
-- there, or ends it. Where that row was met before, whatever else ends it stood twice already (`again`); where it is new, its link stands at least
-- twice now, and whatever else ends the link stood twice already (`first`). Rests on `ends-twice` of palindromes and on the link of the row met
-- (`linked` of the walk).
use Prim.Native.Nat.{ℕ, zero, suc, ◌+◌, ◌≤◌, ◌<◌}
use native.Mathlib.Omega.{arith}
use native.Mathlib.Numerals.{add-one}
use native.Mathlib.Decide.{dec_lt, ℕ_discrete}
use mathlib.Core.Path.{◌≡◌, sym, ap, ◌∙◌, subst}
use mathlib.Core.Bool.{true, false, not, ◌||◌}
use mathlib.Core.Logic.{◌⊎◌, inl, inr, ⊎_elim}
use lib.ListN.{length, get_or, set, take, replicate, length-set, length-replicate, get_or-replicate}
use lib.Seq.{get_or-set_same, get_or-set_other}
use borrow.Author.Tests.{ltb-true, lt-ltb, le-ltb}
use Rattle.palindromes.specs.Word.{Word, same_word, member}
use Rattle.palindromes.specs.Palindrome.{Symmetric, Palindrome}
use Rattle.palindromes.specs.Place.{Stands, stands, frequency}
use Rattle.palindromes.specs.Record.{suffixes, longest_suffix}
use Rattle.palindromes.specs.Node.{spelt, spelling_of}
use Rattle.palindromes.proofs.Tests.{decided, same_true}
use Rattle.palindromes.proofs.Lists.{either_true, right_is}
use Rattle.palindromes.proofs.Words.{suffix_refl}
use Rattle.palindromes.proofs.Places.{stands-true, stands-is, stands-empty}
use Rattle.palindromes.proofs.Stretches.{suffixes-true, suffixes-is}
use Rattle.palindromes.proofs.Longest.{longest-suffix}
use Rattle.palindromes.proofs.SuffixPalindromes.{ends-link}
use Rattle.palindromes.proofs.Frequency.{one, frequency-empty, palindrome-frequency, ends-twice}
use Rattle.eertree.proofs.Rows.{word_row}
use Rattle.store.specs.Layout.{size_in, link_in, used_in, letters_in}
use Rattle.store.specs.Good.{rule_of, node_in, Good}
use Rattle.store.proofs.Sizes.{letters-length}
use Rattle.transitions.proofs.Rows.{covers, row_below}
use Rattle.walk.specs.Replay.{ending_in, new_at, Holds}
use Rattle.walk.proofs.Reading.{root-empty}
use Rattle.walk.proofs.Links.{Linked, linked}
use Rattle.unique_rows.specs.Marks.{StandsFor, Marks}

-- ---- one mark

-- what is marked with 0 does not stand, and what has another mark does
none-marked : {m n : ℕ} → StandsFor m n → m ≡ 0 → n ≡ 0
none-marked (inl h) e = omega arith
none-marked (inr h) e = absurd (omega arith)

some-marked : {m n : ℕ} → StandsFor m n → (m ≡ 0 → ⊥) → 0 < n
some-marked (inl h) e = omega arith
some-marked (inr h) e = omega arith

-- a mark stays where the number stays, or was large already
same-mark : {m n n' : ℕ} → StandsFor m n → (n' ≡ n) ⊎ ((1 < n) × (n ≤ n')) → StandsFor m n'
same-mark {m} a (inl e) = subst (λ (x : ℕ). StandsFor m x) (sym e) a
same-mark (inl h) (inr k) = absurd (omega arith)
same-mark (inr h) (inr k) = inr (h.0, omega arith)

-- ---- the letters

-- a word that stands has a place
stands-some : {w s : Word} → Stands w s → 0 < frequency w s
unfolding stands
stands-some {w} {s} c = ltb-true 0 (frequency w s) (stands-is w s c)

some-stands : (w s : Word) → 0 < frequency w s → Stands w s
unfolding stands
some-stands w s h = stands-true w s (lt-ltb 0 (frequency w s) h)

module _ {b : Word} (g : Good b) where
  -- what a row holds is a palindrome
  row-palindrome : (r : ℕ) (w : Word) → used_in b r ≡ true → 2 ≤ r → node_in b r ≡ spelt w → Palindrome (rule_of b) w
  unfolding spelling_of
  row-palindrome r w u m e = let p = word_row (covers g) r u m in subst (Palindrome (rule_of b)) (ap spelling_of (sym p.1 ∙ e)) p.2

  -- before the first letter the roots alone are marked
  pub marks-first : {marks : Word} → marks ≡ replicate 1026 0 → Marks b 0 (set (set marks 0 2) 1 2)
  marks-first {marks} z = record { long = length-set (set marks 0 2) 1 2 ∙ length-set marks 0 2 ∙ long; root = root; each = each }
    where
      long : length marks ≡ 1026
      long = ap length z ∙ length-replicate {A = ℕ} 1026 0

      root : (r : ℕ) → r < 2 → get_or (set (set marks 0 2) 1 2) r 0 ≡ 2
      root zero l = get_or-set_other (set marks 0 2) 1 0 2 0 (λ e. omega arith) ∙ get_or-set_same marks 0 2 0 (omega (arith, long))
      root (suc zero) l = get_or-set_same (set marks 0 2) 1 2 0 (omega (arith, long, length-set marks 0 2))
      root (suc (suc r)) l = absurd (omega arith)

      each : (r : ℕ) (w : Word) → used_in b r ≡ true → 2 ≤ r → node_in b r ≡ spelt w
          → StandsFor (get_or (set (set marks 0 2) 1 2) r 0) (frequency w (take 0 (letters_in b)))
      each r w u m e =
          let none = frequency-empty w (row-palindrome r w u m e).non-empty in
          let empty = ap (λ (x : Word). get_or x r 0) z ∙ get_or-replicate 1026 r 0 0 (row_below g r u) in
          let kept = get_or-set_other (set marks 0 2) 1 r 2 0 (λ e. omega arith) ∙ get_or-set_other marks 0 r 2 0 (λ e. omega arith) in
          inl (kept ∙ empty ∙ sym none, omega (arith, none))

  module _ {k row : ℕ} (l : k < size_in b) (h : Holds b (k + 1) row) where
    -- how often a palindrome stands with a letter more
    next : (w : Word) → Palindrome (rule_of b) w
        → frequency w (take (k + 1) (letters_in b)) ≡ frequency w (take k (letters_in b)) + one (member w (suffixes (ending_in b (k + 1))))
    next w p = rw (add-one k) (palindrome-frequency (rule_of b) w p (letters_in b) k (omega (arith, letters-length g.sized)))

    -- the mark of a palindrome stays where it ends the letters only if it ends a longer one that stood before
    kept : (w v : Word) → Palindrome (rule_of b) w → Symmetric (rule_of b) v → Stands v (take k (letters_in b)) → (w ≡ v → ⊥)
        → (member w (suffixes (ending_in b (k + 1))) ≡ true → member w (suffixes v) ≡ true)
        → {m : ℕ} → StandsFor m (frequency w (take k (letters_in b))) → StandsFor m (frequency w (take (k + 1) (letters_in b)))
    kept w v p y c d ends a =
        same-mark a
        (⊎_elim
        (λ t. inr (ends-twice (rule_of b) p.symmetric y (suffixes-true w v (ends t)).1 d c, omega (arith, next w p)))
        (λ f. inl (omega (arith, next w p, ap one f)))
        (decided (member w (suffixes (ending_in b (k + 1))))))

    -- another row holds another palindrome
    other_word : (r : ℕ) (w : Word) → used_in b r ≡ true → node_in b r ≡ spelt w → (r ≡ row → ⊥) → w ≡ ending_in b (k + 1) → ⊥
    other_word r w u e n i = n ((covers g).one-row r row u h.used (cc (h.holds, e, i)))

    -- the palindrome of the row met stands once more
    ending-next : (m : 2 ≤ row) → frequency (ending_in b (k + 1)) (take (k + 1) (letters_in b)) ≡ frequency (ending_in b (k + 1)) (take k (letters_in b)) + 1
    ending-next m =
        let p = row-palindrome row (ending_in b (k + 1)) h.used m h.holds in
        omega (arith, next (ending_in b (k + 1)) p, ap one (suffixes-is (ending_in b (k + 1)) (ending_in b (k + 1)) p.non-empty suffix_refl))

    -- ---- met again

    module _ {old : Word} (a : Marks b k old) (n : get_or old row 0 ≡ 0 → ⊥) where
      -- it stood before
      stood : Stands (ending_in b (k + 1)) (take k (letters_in b))
      stood = go (dec_lt row 2)
        where
          go : Dec (row < 2) → Stands (ending_in b (k + 1)) (take k (letters_in b))
          go (yes m) = rw (root-empty g h m) (stands-empty (take k (letters_in b)))
          go (no m) =
              let q = ending_in b (k + 1) in
              some-stands q (take k (letters_in b)) (some-marked (a.each row q h.used (omega arith) h.holds) n)

      pub again-old : new_at b k ≡ false
      again-old = ap not (stands-is (ending_in b (k + 1)) (take k (letters_in b)) stood)

      pub again : Marks b (k + 1) (set old row 2)
      again =
          record {
            long = length-set old row 2 ∙ a.long;
            root = λ r m. root r m (ℕ_discrete r row);
            each = λ r w u m e. each r w u m e (ℕ_discrete r row);
          }
        where
          here : get_or (set old row 2) row 0 ≡ 2
          here = get_or-set_same old row 2 0 (omega (arith, a.long, row_below g row h.used))

          root : (r : ℕ) → r < 2 → Dec (r ≡ row) → get_or (set old row 2) r 0 ≡ 2
          root r m (yes e) = rw e here
          root r m (no e) = get_or-set_other old row r 2 0 e ∙ a.root r m

          each : (r : ℕ) (w : Word) → used_in b r ≡ true → 2 ≤ r → node_in b r ≡ spelt w → Dec (r ≡ row)
              → StandsFor (get_or (set old row 2) r 0) (frequency w (take (k + 1) (letters_in b)))
          each r w u m e (yes i) =
              let q : w ≡ ending_in b (k + 1) = cc (h.holds, e, i) in
              rw (i, q) (inr (here, omega (arith, ending-next (omega arith), stands-some stood)))
          each r w u m e (no i) =
              rw (get_or-set_other old row r 2 0 i)
              (kept w (ending_in b (k + 1)) (row-palindrome r w u m e) (longest-suffix (rule_of b) (take (k + 1) (letters_in b))).symmetric stood
              (other_word r w u e i) (λ t. t) (a.each r w u m e))

    -- ---- met first

    module _ {old : Word} (a : Marks b k old) (n : get_or old row 0 ≡ 0) where
      -- it is no root's
      high : 2 ≤ row
      high = go (dec_lt row 2)
        where
          go : Dec (row < 2) → 2 ≤ row
          go (yes m) = absurd (omega (arith, a.root row m))
          go (no m) = omega arith

      none : frequency (ending_in b (k + 1)) (take k (letters_in b)) ≡ 0
      none = none-marked (a.each row (ending_in b (k + 1)) h.used high h.holds) n

      pub first-new : new_at b k ≡ true
      unfolding stands
      first-new = ap not (le-ltb 0 (frequency (ending_in b (k + 1)) (take k (letters_in b))) (omega (arith, none)))

      -- its link
      abbrev its : Linked b k row
      its = linked g l h high

      abbrev link_word : Word
      link_word = longest_suffix (rule_of b) its.rest

      -- what else ends it ends the link
      ends_it : (w : Word) → Palindrome (rule_of b) w
          → member w (suffixes (ending_in b (k + 1))) ≡ (same_word w (ending_in b (k + 1)) || member w (suffixes link_word))
      ends_it w p = rw its.ends (ends-link (rule_of b) w p its.first its.rest its.symmetric)

      pub first : {link : ℕ} → link ≡ link_in b row → Marks b (k + 1) (set (set old link 2) row 1)
      first {link} e =
          record {
            long = length-set (set old link 2) row 1 ∙ length-set old link 2 ∙ a.long;
            root = λ r m. get_or-set_other (set old link 2) row r 1 0 (λ i. omega (arith, high)) ∙ root r m (ℕ_discrete r link);
            each = λ r w u m i. each r w u m i (ℕ_discrete r row) (ℕ_discrete r link);
          }
        where
          marked : get_or (set old link 2) link 0 ≡ 2
          marked = get_or-set_same old link 2 0 (omega (arith, a.long, e, row_below g (link_in b row) its.used))

          root : (r : ℕ) → r < 2 → Dec (r ≡ link) → get_or (set old link 2) r 0 ≡ 2
          root r m (yes i) = rw i marked
          root r m (no i) = get_or-set_other old link r 2 0 i ∙ a.root r m

          -- the link stands at least twice now
          twice-now : Palindrome (rule_of b) link_word → 1 < frequency link_word (take (k + 1) (letters_in b))
          twice-now p =
              let itself = suffixes-is link_word link_word p.non-empty suffix_refl in
              let ends = ends_it link_word p ∙ right_is (same_word link_word (ending_in b (k + 1))) (member link_word (suffixes link_word)) itself in
              omega (arith, next link_word p, ap one ends, stands-some its.stood)

          each : (r : ℕ) (w : Word) → used_in b r ≡ true → 2 ≤ r → node_in b r ≡ spelt w → Dec (r ≡ row) → Dec (r ≡ link)
              → StandsFor (get_or (set (set old link 2) row 1) r 0) (frequency w (take (k + 1) (letters_in b)))
          each r w u m i (yes p) d =
              let q : w ≡ ending_in b (k + 1) = cc (h.holds, i, p) in
              let here = get_or-set_same (set old link 2) row 1 0 (omega (arith, a.long, length-set old link 2, row_below g row h.used)) in
              rw (p, q) (inl (here ∙ sym (omega (arith, ending-next high, none)), omega (arith, ending-next high, none)))
          each r w u m i (no p) (yes d) =
              let q : w ≡ link_word = cc (its.holds, i, d, e) in
              rw (get_or-set_other (set old link 2) row r 1 0 p)
              (inr (ap (λ (x : ℕ). get_or (set old link 2) x 0) d ∙ marked, rw q (twice-now (subst (Palindrome (rule_of b)) q (row-palindrome r w u m i)))))
          each r w u m i (no p) (no d) =
              rw (get_or-set_other (set old link 2) row r 1 0 p, get_or-set_other old link r 2 0 d)
              (kept w link_word (row-palindrome r w u m i) (longest-suffix (rule_of b) its.rest).symmetric its.stood
              (λ q. d ((covers g).one-row r (link_in b row) u its.used (cc (its.holds, i, q)) ∙ sym e))
              (λ t. ⊎_elim (λ y. absurd (other_word r w u i p (same_true w (ending_in b (k + 1)) y))) (λ y. y)
              (either_true (same_word w (ending_in b (k + 1))) (member w (suffixes link_word)) (sym (ends_it w (row-palindrome r w u m i)) ∙ t)))
              (a.each r w u m i))
