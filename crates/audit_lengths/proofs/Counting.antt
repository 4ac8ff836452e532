-- One more at a place, and then at place 1 the larger of what stands there and the length of that place: what the writes of `count_row` leave. Assumes nothing.
use Prim.Native.Nat.{ℕ, ◌+◌, ◌-◌, ◌≤◌, ◌<◌, max}
use native.Mathlib.Omega.{arith}
use mathlib.Core.Path.{◌≡◌, ap, ◌∙◌}
use mathlib.Core.Logic.{◌≢◌}
use lib.ListN.{length, get_or, set, length-set}
use lib.Seq.{get_or-set_same, get_or-set_other}
use Rattle.palindromes.specs.Word.{Word}
use Rattle.audit_lengths.specs.Lengths.{Counted}

-- the list with one more at a place
abbrev raised : Word → ℕ → Word
raised c m = set c m (get_or c m 0 + 1)

module _ (c : Word) (m : ℕ) (long : length c ≡ 1026) (some : 2 ≤ m) (most : m < 1026) where
  here : get_or (raised c m) m 0 ≡ get_or c m 0 + 1
  here = get_or-set_same c m (get_or c m 0 + 1) 0 (omega arith)

  away : (i : ℕ) → i ≢ m → get_or (raised c m) i 0 ≡ get_or c i 0
  away i n = get_or-set_other c m i (get_or c m 0 + 1) 0 n

  -- and the larger of the two lengths at place 1
  pub counted : Counted c m (set (raised c m) 1 (max (get_or (raised c m) 1 0) (m - 1)))
  counted =
      let x = max (get_or (raised c m) 1 0) (m - 1) in
      let l : 1 < length (raised c m) = omega (arith, length-set c m (get_or c m 0 + 1)) in
      record {
        here = get_or-set_other (raised c m) 1 m x 0 (λ e. omega arith) ∙ here;
        largest = get_or-set_same (raised c m) 1 x 0 l ∙ ap (λ (y : ℕ). max y (m - 1)) (away 1 (λ e. omega arith));
        others = λ i n o. get_or-set_other (raised c m) 1 i x 0 n ∙ away i o;
      }
