-- What a series of palindromes gives to the code that takes it up: the rows lie within the store, the places before the end, and the choice kept with
-- a row's link, made for the same place, is with one place more the row's (`longer`); a row without one is alone (`alone`). Rests on `Runs` of series
-- and on the rows of a good store.
use Prim.Native.Nat.{ℕ, ◌+◌, ◌-◌, ◌≤◌, ◌<◌}
use native.Mathlib.Omega.{arith}
use mathlib.Core.Path.{◌≡◌, sym, ap, ◌∙◌}
use mathlib.Core.Bool.{true}
use lib.ListN.{length, get_or}
use Rattle.palindromes.specs.Word.{Word}
use Rattle.palindromes.specs.Factorization.{better}
use Rattle.series.proofs.Runs.{Passes, kept-alone, kept-longer, kept-passes, reach-falls, starts-link}
use Rattle.series.proofs.Memory.{next-kept, next-link}
use Rattle.eertree.proofs.Rows.{reach_of}
use Rattle.store.specs.Layout.{cell_at, link_in, used_in}
use Rattle.store.specs.Good.{node_in, Good}
use Rattle.transitions.proofs.Rows.{covers, length-row, row_below, used-fits}
use Rattle.last_factor.specs.Kept.{reach_in, factors_in, KeptIn, Known, Memos, EndsAt, next_in, begin_of, next_of, place_of}

-- of two known places the better is the better
pub better-known : {b : Word} {i : ℕ} {factors : Word} → Known b i factors → (a q : ℕ) → a < i → q < i
    → better (λ p. get_or factors p 0) a q ≡ better (factors_in b) a q
unfolding better
better-known k a q h l = cc (k.each a h, k.each q l)

module _ {b : Word} (g : Good b) where
  -- the store tells how far a used row reaches
  pub tells : (r : ℕ) → used_in b r ≡ true → reach_in b r ≡ reach_of (node_in b r)
  tells r u = length-row g r u

  -- its cells lie within the store
  pub cell-fits : (r : ℕ) → used_in b r ≡ true → cell_at r 0 + 1 < length b
  cell-fits r u = omega (arith, used-fits g r u)

  -- a kept choice as a walk uses it
  abbrev pub PassesIn : (i r cut next : ℕ) → Type 0
  PassesIn = Passes (covers g) (reach_in b) tells (factors_in b)

  pub passes : {i p r cut next : ℕ} → KeptIn b p r cut next → used_in b r ≡ true → i + 1 ≡ p + reach_in b r → PassesIn i r cut next
  passes {i} a u e = kept-passes (covers g) (reach_in b) tells a u i e

  module _ {i row : ℕ} (e : EndsAt b i row) {link : ℕ} (l : link ≡ link_in b row) where
    abbrev pub start : ℕ
    start = i + 1 - reach_in b row

    -- the link of the row is a row, shorter, and not the imaginary string
    pub link-used : used_in b link ≡ true
    link-used = rw l ((covers g).link-is row e.used).0

    pub link-shorter : reach_in b link < reach_in b row
    link-shorter = rw l (reach-falls (covers g) (reach_in b) tells row e.used (omega (arith, e.high)))

    pub link-present : 1 ≤ reach_in b link
    link-present = rw l (starts-link (covers g) (reach_in b) tells 0 row e.used e.high).1

    -- alone
    pub alone : {place : ℕ} → place ≡ start → KeptIn b start row place link
    alone z = rw (z, l) (kept-alone (factors_in b) start row e.high (omega (arith, ap (reach_in b) l, link-shorter)))

    -- with what its link has
    module _ {memos : Word} (m : Memos b memos) (t : begin_of (get_or memos link 0) ≡ start + 1) where
      -- what is kept with it: the place chosen there and the row after
      abbrev chosen : ℕ
      chosen = place_of (get_or memos link 0)

      abbrev behind : ℕ
      behind = next_of (get_or memos link 0)

      taken : KeptIn b start link chosen behind
      taken = (m.each link start (row_below g link link-used) t).1

      taken-passes : PassesIn (start + reach_in b link - 1) link chosen behind
      taken-passes = passes taken link-used (omega (arith, link-present))

      pub next-used : used_in b behind ≡ true
      next-used = taken-passes.used

      -- the place one more, and the kept one
      pub last-low : reach_in b behind + (reach_in b row - reach_in b link) ≤ i + 1
      last-low = omega (arith, taken-passes.shorter, link-shorter, e.reaches)

      pub last-high : i + 1 - (reach_in b behind + (reach_in b row - reach_in b link)) < i
      last-high = omega (arith, last-low, taken-passes.present, link-shorter)

      pub kept_high : chosen < i
      kept_high = omega (arith, taken-passes.place, link-shorter, e.reaches)

      pub longer : {factors : Word} → Known b i factors → {place next : ℕ} → next ≡ behind
          → reach_in b link ≡ reach_in b (link_in b link) + (reach_in b row - reach_in b link)
          → place ≡ better (λ p. get_or factors p 0) chosen (i + 1 - (reach_in b behind + (reach_in b row - reach_in b link)))
          → KeptIn b start row place next
      longer k {place} {next} v d q =
          let x = reach_in b row - reach_in b link in
          let z : start + reach_in b row - (reach_in b behind + x) ≡ i + 1 - (reach_in b behind + x) = omega (arith, e.reaches) in
          let w : place ≡ better (factors_in b) chosen (start + reach_in b row - (reach_in b behind + x)) =
          q ∙ better-known k chosen (i + 1 - (reach_in b behind + x)) kept_high last-high ∙ ap (better (factors_in b) chosen) (sym z) in
          rw (v, w) (kept-longer (factors_in b) l taken e.high x (omega (arith, link-shorter)) d)

-- ---- the row after the series

abbrev begins : Word → ℕ → ℕ
begins memos r = begin_of (get_or memos r 0)

abbrev after : Word → ℕ → ℕ
after memos r = next_of (get_or memos r 0)

module _ (b memos : Word) (i row : ℕ) {link : ℕ} (l : link ≡ link_in b row) {next : ℕ} where
  -- that which is kept with the link
  pub jump_kept : begins memos link ≡ i + 1 - reach_in b row + 1 → reach_in b link ≡ reach_in b (link_in b link) + (reach_in b row - reach_in b link)
      → next ≡ after memos link → next ≡ next_in b memos i row
  jump_kept t d e = e ∙ ap (after memos) l ∙ sym (next-kept (link_in b) (reach_in b) (begins memos) (after memos) i row (rw l at t) (rw l at d))

  -- or the link
  pub jump-link : (begins memos link ≡ i + 1 - reach_in b row + 1 → reach_in b link ≡ reach_in b (link_in b link) + (reach_in b row - reach_in b link) → ⊥)
      → next ≡ link → next ≡ next_in b memos i row
  jump-link n e = e ∙ l ∙ sym (next-link (link_in b) (reach_in b) (begins memos) (after memos) i row (rw l at n))
