-- Counting at each right end the row of the longest palindrome there: a palindrome has been counted exactly if it stands in what is read, so that the rows first met are known; and a palindrome stands as
-- often as rows are counted that end with it. At the end nothing has been handed on yet.
-- Rests on `Weigh`, on `frequency` letter by letter, and on what one letter more brings.
use Prim.Native.Nat.{ℕ, zero, suc, ◌+◌, ◌≤◌, ◌<◌}
use native.Mathlib.Omega.{arith}
use native.Mathlib.Numerals.{add-one}
use native.Mathlib.Decide.{dec_lt, ℕ_discrete}
use mathlib.Core.Path.{◌≡◌, refl, sym, ap, ◌∙◌, subst}
use mathlib.Core.Bool.{Bool, true, false, cond, not, ◌&&◌, and-false}
use mathlib.Core.Logic.{◌⊎◌, ◌≢◌, ⊎_elim}
use mathlib.Core.List.{[]}
use lib.Dec.{ltb}
use lib.ListN.{length, get_or, set, take, replicate, length-set, length-replicate}
use lib.Seq.{get_or-set_same, get_or-set_other}
use borrow.Author.Tests.{lt-ltb, le-ltb}
use Rattle.palindromes.specs.Word.{Word, member}
use Rattle.palindromes.specs.Palindrome.{Palindrome}
use Rattle.palindromes.specs.Place.{frequency, stands}
use Rattle.palindromes.specs.Record.{suffixes}
use Rattle.palindromes.specs.Node.{Node, imaginary, spelt, spelling_of}
use Rattle.palindromes.proofs.Tests.{false-not-true, not-true-false}
use Rattle.palindromes.proofs.Words.{stands-of-empty}
use Rattle.palindromes.proofs.Places.{stands-true, stands-is, stands-empty}
use Rattle.palindromes.proofs.SuffixPalindromes.{ends-longest}
use Rattle.palindromes.proofs.Frequency.{frequency-empty, prefix-frequency}
use Rattle.eertree.specs.Covers.{NodeOf}
use Rattle.eertree.proofs.Rows.{word_row}
use Rattle.store.specs.Layout.{size_in, used_in, letters_in}
use Rattle.store.specs.Good.{rule_of, node_in, Good}
use Rattle.store.proofs.Sizes.{letters-length}
use Rattle.transitions.proofs.Rows.{covers, row_below}
use Rattle.walk.specs.Replay.{ending_in, new_at, Holds}
use Rattle.walk.proofs.Reading.{read_whole, root-old, met-other, met-ending, ending-row}
use Rattle.end_rows.specs.EndRows.{FirstRows}
use Rattle.frequencies.specs.Counts.{weigh, ends_with, open_with, HandedFrom}
use Rattle.frequencies.proofs.Weigh.{counted, weigh-set, weigh-agree, weigh-noughts}

-- what holds when the first k right ends have been counted; `rows` is what `ends` held at first
pub record Counting (b rows : Word) (k : ℕ) (ends counts : Word) : Type 0 where
  pub same : length ends ≡ length rows
  pub long : length counts ≡ 1026
  pub rest : (j : ℕ) → k ≤ j → get_or ends j 0 ≡ get_or rows j 0
  pub new : (j : ℕ) → j < k → new_at b j ≡ true → Holds b (j + 1) (get_or ends j 0)
  pub old : (j : ℕ) → j < k → new_at b j ≡ false → get_or ends j 0 < 2
  pub small : (r : ℕ) → get_or counts r 0 ≤ k
  pub stood : (r : ℕ) (w : Word) → used_in b r ≡ true → 2 ≤ r → node_in b r ≡ spelt w → ltb 0 (get_or counts r 0) ≡ stands w (take k (letters_in b))
  pub weight : (w : Word) → Palindrome (rule_of b) w → weigh (ends_with b w) counts ≡ frequency w (take k (letters_in b))

noughts : (n r : ℕ) → get_or {A = ℕ} (replicate n 0) r 0 ≡ 0
noughts zero r = refl
noughts (suc n) zero = refl
noughts (suc n) (suc r) = noughts n r

module _ {b : Word} (g : Good b) where
  -- ---- the first letter

  -- before it the palindrome of no row stands
  pub none-stands : (r : ℕ) (w : Word) → used_in b r ≡ true → 2 ≤ r → node_in b r ≡ spelt w → stands w [] ≡ false
  none-stands r w u l n =
      let d = word_row (covers g) r u l in
      let f : w ≡ d.0 = cc d.1 in
      not-true-false (stands w []) λ t. d.2.non-empty (cc (stands-of-empty (stands-true w [] t)))

  pub counting-first : (rows counts : Word) → counts ≡ replicate 1026 0 → Counting b rows 0 rows counts
  counting-first rows counts e =
      rw e (record {
        same = refl;
        long = length-replicate {A = ℕ} 1026 0;
        rest = λ j l. refl;
        new = λ j l. absurd (omega arith);
        old = λ j l. absurd (omega arith);
        small = λ r. omega (arith, noughts 1026 r);
        stood = λ r w u l n. ap (ltb 0) (noughts 1026 r) ∙ sym (none-stands r w u l n);
        weight = λ w p. weigh-noughts (ends_with b w) 1026 ∙ sym (frequency-empty w p.non-empty);
      })

  -- ---- one letter more

  module _ {rows ends counts : Word} {k row : ℕ} (l : k < size_in b) (c : Counting b rows k ends counts) (h : Holds b (k + 1) row) where
    abbrev here : Word
    here = ending_in b (k + 1)

    abbrev more : Word
    more = set counts row (get_or counts row 0 + 1)

    in_letters : k < length (letters_in b)
    in_letters = omega (arith, letters-length g.sized)

    in-counts : row < length counts
    in-counts = omega (arith, row_below g row h.used, c.long)

    -- a row other than a root's was counted before exactly if its palindrome is not new
    counted-new : 2 ≤ row → new_at b k ≡ not (ltb 0 (get_or counts row 0))
    counted-new m = ap not (sym (c.stood row here h.used m h.holds))

    known : (get_or counts row 0 ≡ 0 → ⊥) → new_at b k ≡ false
    known n = go (dec_lt row 2)
      where
        go : Dec (row < 2) → new_at b k ≡ false
        go (yes m) = root-old g k h m
        go (no m) = counted-new (omega arith) ∙ ap not (lt-ltb 0 (get_or counts row 0) (omega arith))

    unknown : get_or counts row 0 ≡ 0 → new_at b k ≡ false → row < 2
    unknown e o = go (dec_lt row 2)
      where
        go : Dec (row < 2) → row < 2
        go (yes m) = m
        go (no m) = absurd (false-not-true o (counted-new (omega arith) ∙ ap not (le-ltb 0 (get_or counts row 0) (omega arith))))

    small-next : (r : ℕ) → get_or more r 0 ≤ k + 1
    small-next r = go (ℕ_discrete r row)
      where
        go : Dec (r ≡ row) → get_or more r 0 ≤ k + 1
        go (yes e) = rw e (omega (arith, c.small row, get_or-set_same counts row (get_or counts row 0 + 1) 0 in-counts))
        go (no n) = omega (arith, c.small r, get_or-set_other counts row r (get_or counts row 0 + 1) 0 n)

    stood-next : (r : ℕ) (w : Word) → used_in b r ≡ true → 2 ≤ r → node_in b r ≡ spelt w → ltb 0 (get_or more r 0) ≡ stands w (take (k + 1) (letters_in b))
    stood-next r w u m e = go (ℕ_discrete r row)
      where
        go : Dec (r ≡ row) → ltb 0 (get_or more r 0) ≡ stands w (take (k + 1) (letters_in b))
        go (yes i) =
            let f : w ≡ here = cc h.holds in
            rw (i, get_or-set_same counts row (get_or counts row 0 + 1) 0 in-counts, f) (lt-ltb 0 (get_or counts row 0 + 1) (omega arith) ∙ sym (met-ending g l h))
        go (no n) =
            rw (get_or-set_other counts row r (get_or counts row 0 + 1) 0 n) (c.stood r w u m e ∙ met-other g l h r w u e (λ f. n (ending-row g l h r w u e f)))

    weight-next : (w : Word) → Palindrome (rule_of b) w → weigh (ends_with b w) more ≡ frequency w (take (k + 1) (letters_in b))
    unfolding spelling_of
    weight-next w p = go (member w (suffixes (take (k + 1) (letters_in b)))) refl
      where
        -- the row ends with w exactly if the letters read do
        ended : (t : Bool) → member w (suffixes (take (k + 1) (letters_in b))) ≡ t → ends_with b w row ≡ t
        ended t e =
            ap (λ (u : Bool). u && member w (suffixes (spelling_of (node_in b row)))) h.used
            ∙ ap (λ (v : Node). member w (suffixes (spelling_of v))) h.holds
            ∙ sym (ends-longest (rule_of b) w p (take (k + 1) (letters_in b)))
            ∙ e

        one_more : (t : Bool) (n : ℕ) → counted t (n + 1) ≡ counted t n + cond t 1 0
        one_more true n = refl
        one_more false n = refl

        go : (t : Bool) → member w (suffixes (take (k + 1) (letters_in b))) ≡ t → weigh (ends_with b w) more ≡ frequency w (take (k + 1) (letters_in b))
        go t e =
            let n = get_or counts row 0 in
            let a : weigh (ends_with b w) more + counted t n ≡ weigh (ends_with b w) counts + counted t (n + 1) = rw (← ended t e) (weigh-set (ends_with b w) counts row (n + 1) in-counts) in
            let f : frequency w (take (k + 1) (letters_in b)) ≡ frequency w (take k (letters_in b)) + cond t 1 0 = rw (← e, add-one) (prefix-frequency w p.non-empty (letters_in b) k in_letters) in
            omega (arith, a, f, one_more t n, c.weight w p)

    abbrev Marked : Word → Type 0
    Marked new = ((get_or counts row 0 ≡ 0 → ⊥) × (new ≡ set ends k 0)) ⊎ ((get_or counts row 0 ≡ 0) × (new ≡ ends))

    pub counting-next : row ≡ get_or rows k 0 → size_in b ≤ length rows → (marked : Word) → Marked marked → Counting b rows (k + 1) marked more
    counting-next i f marked o =
        record {
          same = ⊎_elim (λ w. ap length w.1 ∙ length-set ends k 0 ∙ c.same) (λ w. ap length w.1 ∙ c.same) o;
          long = length-set counts row (get_or counts row 0 + 1) ∙ c.long;
          rest = λ j m. elsewhere j (λ e. omega arith) ∙ c.rest j (omega arith);
          new = λ j m t. new j m t (ℕ_discrete j k);
          old = λ j m t. old j m t (ℕ_discrete j k);
          small = small-next;
          stood = stood-next;
          weight = weight-next;
        }
      where
        elsewhere : (j : ℕ) → j ≢ k → get_or marked j 0 ≡ get_or ends j 0
        elsewhere j n = ⊎_elim (λ w. ap (λ (x : Word). get_or x j 0) w.1 ∙ get_or-set_other ends k j 0 0 n) (λ w. ap (λ (x : Word). get_or x j 0) w.1) o

        kept : get_or counts row 0 ≡ 0 → get_or marked k 0 ≡ row
        kept z = ⊎_elim (λ w. absurd (w.0 z)) (λ w. ap (λ (x : Word). get_or x k 0) w.1 ∙ c.rest k (omega arith) ∙ sym i) o

        new : (j : ℕ) → j < k + 1 → new_at b j ≡ true → Dec (j ≡ k) → Holds b (j + 1) (get_or marked j 0)
        new j m t (yes e) = rw e (⊎_elim (λ w. absurd (false-not-true (known w.0) (subst (λ (x : ℕ). new_at b x ≡ true) e t))) (λ w. rw (kept w.0) h) o)
        new j m t (no n) = rw (elsewhere j n) (c.new j (omega arith) t)

        old : (j : ℕ) → j < k + 1 → new_at b j ≡ false → Dec (j ≡ k) → get_or marked j 0 < 2
        old j m t (yes e) =
            rw e (⊎_elim (λ w. rw (w.1, get_or-set_same ends k 0 0 (omega (arith, c.same))) (omega arith)) (λ w. rw (kept w.0) (unknown w.0 (subst (λ (x : ℕ). new_at b x ≡ false) e t))) o)
        old j m t (no n) = rw (elsewhere j n) (c.old j (omega arith) t)

  -- ---- after the last letter

  -- every row in use stands in the record
  whole-stands : (r : ℕ) → used_in b r ≡ true → stands (spelling_of (node_in b r)) (letters_in b) ≡ true
  unfolding spelling_of
  whole-stands r u = go (node_in b r) ((covers g).each_row r u)
    where
      go : (v : Node) → NodeOf (rule_of b) (letters_in b) v → stands (spelling_of v) (letters_in b) ≡ true
      go imaginary n = stands-is [] (letters_in b) (stands-empty (letters_in b))
      go (spelt w) n = stands-is w (letters_in b) n.1

  module _ {rows ends counts : Word} {k : ℕ} (e : k ≡ size_in b) (c : Counting b rows k ends counts) where
    all : take (size_in b) (letters_in b) ≡ letters_in b
    all = read_whole g (size_in b) refl

    pub first_rows : size_in b ≤ length rows → FirstRows b ends
    first_rows f =
        record { long = omega (arith, c.same); new = λ j l. c.new j (omega arith); old = λ j l. c.old j (omega arith) }

    pub none-handed : HandedFrom b (size_in b) counts
    unfolding spelling_of
    none-handed =
        record {
          long = c.long;
          waiting = λ w p s. weigh-agree (open_with b (size_in b) w) (ends_with b w) counts (opened w) ∙ c.weight w p ∙ ap (λ (x : ℕ). frequency w (take x (letters_in b))) e ∙ ap (frequency w) all;
          done = λ r w u l n s. absurd (false-not-true s (rw all (subst (λ (v : Node). stands (spelling_of v) (letters_in b) ≡ true) n (whole-stands r u))));
        }
      where
        opened : (w : Word) (r : ℕ) → open_with b (size_in b) w r ≡ ends_with b w r
        opened w r = go (used_in b r) refl
          where
            go : (t : Bool) → used_in b r ≡ t
                → (stands (spelling_of (node_in b r)) (take (size_in b) (letters_in b)) && (t && member w (suffixes (spelling_of (node_in b r))))) ≡ (t && member w (suffixes (spelling_of (node_in b r))))
            go true u =
                let f : stands (spelling_of (node_in b r)) (take (size_in b) (letters_in b)) ≡ true = rw all (whole-stands r u) in
                ap (λ (x : Bool). x && member w (suffixes (spelling_of (node_in b r)))) f
            go false u = and-false (stands (spelling_of (node_in b r)) (take (size_in b) (letters_in b)))
