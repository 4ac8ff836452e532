-- The walk over the series of the palindromes that end the first i letters. `Turn` is what holds at the row that it has come to: the better of the place
-- so far and the places at which the palindromes from that row on begin is the place where the last factor begins (`rest`), what is kept is true, and
-- what is kept with the rows that lead is of the last ends at which they did (`walked`). It holds at the row of the longest palindrome (`turn-start`),
-- passes over a whole series (`turn-next`, `turn_one`) and tells the place at a root (`turn-done`, `turn-fresh`), and by then there was a turn for each
-- series (`turn-count`). Rests on `Jumping`, on `Choice` and `ending-longest` of palindromes and on `Runs` and `Memory` of series.
use Prim.Native.Nat.{ℕ, ◌+◌, ◌-◌, ◌≤◌, ◌<◌}
use native.Mathlib.Omega.{arith}
use native.Mathlib.Decide.{ℕ_discrete}
use mathlib.Core.Path.{◌≡◌, sym, ap, ◌∙◌, subst}
use mathlib.Core.Bool.{true}
use mathlib.Core.List.{List, map}
use lib.ListN.{length, get_or, set, take, length-set, length-take}
use lib.Seq.{get_or-set_same, get_or-set_other}
use Rattle.palindromes.specs.Word.{Word}
use Rattle.palindromes.specs.Record.{suffix_palindromes}
use Rattle.palindromes.specs.Node.{spelling_of}
use Rattle.palindromes.proofs.SuffixPalindromes.{ending-longest}
use Rattle.palindromes.specs.Factorization.{starts, better, pick, choice, last_start}
use Rattle.palindromes.proofs.Choice.{better-below, pick_first}
use Rattle.series.specs.Series.{series}
use Rattle.series.proofs.Memory.{walked-first, walked-last, walked_next, turn-series, first-series, last-series}
use Rattle.series.proofs.SeriesBound.{series-length}
use Rattle.series.proofs.Runs.{starts_in, starts-root, starts-link, reach-falls}
use Rattle.store.specs.Layout.{size_in, used_in, letters_in}
use Rattle.store.specs.Good.{rule_of, node_in, Good}
use Rattle.store.proofs.Sizes.{letters-length}
use Rattle.transitions.proofs.Rows.{covers, row_below}
use Rattle.walk.specs.Replay.{Holds}
use Rattle.last_factor.specs.Kept.{reach_in, factors_in, start_in, KeptIn, Known, Memos, EndsAt, word_in, next_in, FreshIn, WalkedIn, series_at}
use Rattle.last_factor.specs.Kept.{memo, begin_of, next_of, place_of}
use Rattle.last_factor.proofs.Jumping.{better-known, tells, PassesIn, passes}

-- the three numbers of a memo
pub memo-begin : (begin next place : ℕ) → begin < 2048 → next < 2048 → begin_of (memo begin next place) ≡ begin
memo-begin begin next place h k = omega arith

pub memo-next : (begin next place : ℕ) → begin < 2048 → next < 2048 → next_of (memo begin next place) ≡ next
memo-next begin next place h k = omega arith

pub memo-place : (begin next place : ℕ) → begin < 2048 → next < 2048 → place_of (memo begin next place) ≡ place
memo-place begin next place h k = omega arith

-- a choice more is kept
memos-set : {b memos : Word} → Memos b memos → {row p cut next : ℕ} (v : ℕ) → row < 1026 → used_in b row ≡ true → KeptIn b p row cut next
    → begin_of v ≡ p + 1 → next_of v ≡ next → place_of v ≡ cut → Memos b (set memos row v)
memos-set {b} {memos} m {row} {p} {cut} {next} v l u k x y z =
    record { long = length-set memos row v ∙ m.long; each = λ r q h e. go r q h e (ℕ_discrete r row) }
  where
    here : get_or (set memos row v) row 0 ≡ v
    here = get_or-set_same memos row v 0 (omega (arith, m.long))

    go : (r q : ℕ) → r < 1026 → begin_of (get_or (set memos row v) r 0) ≡ q + 1 → Dec (r ≡ row)
        → (used_in b r ≡ true) × KeptIn b q r (place_of (get_or (set memos row v) r 0)) (next_of (get_or (set memos row v) r 0))
    go r q h e (yes s) =
        let i : q ≡ p = omega (arith, ap (λ (j : ℕ). begin_of (get_or (set memos row v) j 0)) s, e, ap begin_of here) in
        rw (s, i, here, y, z) (u, k)
    go r q h e (no s) =
        let there : get_or (set memos row v) r 0 ≡ get_or memos r 0 = get_or-set_other memos row r v 0 s in
        rw there (m.each r q h (ap begin_of (sym there) ∙ e))

-- the places at which the palindromes that end row r's own begin, where it ends at i
abbrev starts_of : Word → ℕ → ℕ → List ℕ
starts_of b i r = starts_in (rule_of b) i (spelling_of (node_in b r))

-- what holds at the row and the place that the walk has come to
pub record Turn (b : Word) (i : ℕ) (memos : Word) (row place turns : ℕ) : Type 0 where
  pub used : used_in b row ≡ true
  pub reaches : reach_in b row ≤ i + 1
  pub low : place < i
  pub rest : pick (factors_in b) place (starts_of b i row) ≡ start_in b i
  pub kept : Memos b memos
  pub walked : WalkedIn b memos i row
  pub counted : turns + series (rule_of b) (word_in b row) ≡ series_at b i

module _ {b : Word} (g : Good b) {i : ℕ} where
  -- the palindromes that end the letters are those that end the longest
  starts-longest : (r : ℕ) → Holds b i r → i ≤ size_in b → starts (rule_of b) (take i (letters_in b)) ≡ starts_of b i r
  unfolding starts spelling_of
  starts-longest r h l =
      let t = take i (letters_in b) in
      let n : length t ≡ i = omega (arith, length-take i (letters_in b), letters-length g.sized) in
      ap (λ (k : ℕ). map (λ p. k - length p) (suffix_palindromes (rule_of b) t)) n ∙ ap (map (λ p. i - length p)) (ending-longest (rule_of b) t)
      ∙ ap (starts_in (rule_of b) i) (sym (ap spelling_of h.holds))

  pub turn-start : {memos : Word} {longest place : ℕ} → EndsAt b i longest → Holds b i longest → i ≤ size_in b → Memos b memos → FreshIn b memos i
      → place ≡ i + 1 - reach_in b longest → Turn b i memos longest place 0
  unfolding last_start
  turn-start {memos} {longest} {place} e h l m f p =
      let s = starts-link (covers g) (reach_in b) (tells g) i longest e.used e.high in
      record {
        used = e.used;
        reaches = e.reaches;
        low = omega (arith, s.1, reach-falls (covers g) (reach_in b) (tells g) longest e.used (omega (arith, e.high)), e.reaches);
        rest =
            ap (λ (x : ℕ). pick (factors_in b) x (starts_of b i longest)) p ∙ ap (pick (factors_in b) (i + 1 - reach_in b longest)) s.0
            ∙ pick_first (factors_in b) (i + 1 - reach_in b longest) _
            ∙ ap (choice (factors_in b)) (sym (starts-longest longest h l ∙ s.0));
        kept = m;
        walked = walked-first (covers g) (reach_in b) (tells g) f longest e.used h.holds;
        counted = omega (arith, first-series (covers g) (reach_in b) (tells g) i longest h.holds);
      }

  module _ {memos : Word} {row place turns : ℕ} (t : Turn b i memos row place turns) where
    -- the row may be taken up
    pub turn-ends : 2 ≤ row → i ≤ 1024 → EndsAt b i row
    turn-ends h l = record { used = t.used; high = h; reaches = t.reaches; small = l }

    -- at a root the place is found
    pub turn-done : row < 2 → place ≡ start_in b i
    unfolding pick
    turn-done h = sym (ap (pick (factors_in b) place) (starts-root (covers g) (reach_in b) (tells g) i row h)) ∙ t.rest

    -- and every series has been passed
    pub turn-count : row < 2 → turns ≡ series_at b i
    turn-count h = omega (arith, t.counted, last-series (covers g) (reach_in b) (tells g) row h)

    -- there are no more of them than letters
    pub turn-few : turns ≤ i
    turn-few = omega (arith, t.counted, series-length (rule_of b) (take i (letters_in b)), length-take i (letters_in b))

    -- and what is kept is of the last ends
    pub turn-fresh : row < 2 → FreshIn b memos (i + 1)
    turn-fresh h = walked-last (covers g) (reach_in b) (tells g) row t.walked h

    module _ {chosen next : ℕ} (k : KeptIn b (i + 1 - reach_in b row) row chosen next) where
      pub turn-passes : PassesIn g i row chosen next
      turn-passes = passes g k t.used (omega (arith, t.reaches))

      -- the row after the whole series
      module _ (high : 2 ≤ row) (fits : i ≤ size_in b) (e : next ≡ next_in b memos i row) where
        inside : i ≤ length (letters_in b)
        inside = omega (arith, letters-length g.sized)

        -- one series fewer
        pub turn_one : series (rule_of b) (word_in b row) ≡ series (rule_of b) (word_in b next) + 1
        turn_one = omega (arith, turn-series (covers g) (reach_in b) (tells g) t.walked high inside, ap (λ (r : ℕ). series (rule_of b) (word_in b r)) e)

        turn-walked : (v : ℕ) → begin_of v ≡ i + 1 - reach_in b row + 1 → next_of v ≡ next → WalkedIn b (set memos row v) i next
        turn-walked v q n =
            let below = row_below g row t.used in
            let here : get_or (set memos row v) row 0 ≡ v = get_or-set_same memos row v 0 (omega (arith, t.kept.long)) in
            let others : (r : ℕ) → (r ≡ row → ⊥) → get_or (set memos row v) r 0 ≡ get_or memos r 0 = λ r d. get_or-set_other memos row r v 0 d in
            subst (WalkedIn b (set memos row v) i) (sym e)
            (walked_next (covers g) (reach_in b) (tells g) t.walked high inside (ap begin_of here ∙ q) (ap next_of here ∙ n ∙ e)
            (λ r d. (ap begin_of (others r d), ap next_of (others r d))))

      pub turn-next : (high : 2 ≤ row) → i ≤ size_in b → next ≡ next_in b memos i row → {factors : Word} → Known b i factors
          → (v : ℕ) {start : ℕ}
          → begin_of v ≡ i + 1 - reach_in b row + 1 → next_of v ≡ next → place_of v ≡ chosen → start ≡ better (λ p. get_or factors p 0) place chosen
          → Turn b i (set memos row v) next start (turns + 1)
      turn-next high fits n {factors} f v {start} x y z q =
          let p = turn-passes in
          let w : start ≡ better (factors_in b) place chosen = q ∙ better-known f place chosen t.low p.place in
          record {
            used = p.used;
            reaches = omega (arith, p.shorter, t.reaches);
            low = rw w (better-below (factors_in b) place chosen i t.low p.place);
            rest = ap (λ (j : ℕ). pick (factors_in b) j (starts_of b i next)) w ∙ sym (p.same place) ∙ t.rest;
            kept = memos-set t.kept v (row_below g row t.used) t.used k x y z;
            walked = turn-walked high fits n v x y;
            counted = omega (arith, t.counted, turn_one high fits n);
          }
