-- What a rule gives at numbers in order: as many entries as numbers, and the rule at each. So a constant table of all byte values that antt computes to be
-- such a list has the rule at every entry. Assumes nothing.
use Prim.Native.Nat.{ℕ, zero, suc, ◌+◌, ◌<◌}
use native.Mathlib.Nat.{add-zero, zero-add, add-suc, suc-add, le_of_suc-le-suc, not-suc-le-zero}
use mathlib.Core.Path.{◌≡◌, refl, sym, ap, ◌∙◌}
use mathlib.Core.List.{List, [], ◌∷◌}
use lib.ListN.{length, get_or}

module _ (f : ℕ → ℕ) where
  -- what the rule gives at n numbers from i on
  unfoldable pub entries_from : ℕ → ℕ → List ℕ
  entries_from i zero = []
  entries_from i (suc n) = f i ∷ entries_from (suc i) n

  pub entries-length : (n i : ℕ) → length (entries_from i n) ≡ n
  unfolding entries_from
  entries-length zero i = refl
  entries-length (suc n) i = ap suc (entries-length n (suc i))

  pub entry-from : (n i k : ℕ) → k < n → get_or (entries_from i n) k 0 ≡ f (i + k)
  unfolding entries_from
  entry-from zero i k h = absurd (not-suc-le-zero h)
  entry-from (suc n) i zero h = ap f (sym (add-zero i))
  entry-from (suc n) i (suc k) h = entry-from n (suc i) k (le_of_suc-le-suc h) ∙ ap f (suc-add i k ∙ sym (add-suc i k))

  -- entry k of a table of all byte values
  pub entry_at : (k : ℕ) → k < 256 → get_or (entries_from 0 256) k 0 ≡ f k
  entry_at k h = entry-from 256 0 k h ∙ ap f (zero-add k)
