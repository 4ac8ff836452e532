-- What a turn is for a store whose letters have been set aside. Rests on `Turned` of transitions. Assumes nothing.
use Prim.Native.Nat.{ℕ, ◌+◌, ◌*◌, ◌≤◌, ◌<◌}
use native.Mathlib.Omega.{arith}
use mathlib.Core.Path.{◌≡◌, ap, ap₂, ◌∙◌}
use mathlib.Core.Bool.{true}
use lib.ListN.{length, take, drop}
use Rattle.palindromes.specs.Word.{Word, all_letters}
use Rattle.palindromes.specs.Refusal.{store_size}
use Rattle.palindromes.specs.End.{at_right}
use Rattle.store.specs.Layout.{capacity_in, size_in, letters_in}
use Rattle.store.specs.Good.{Good}
use Rattle.walk.proofs.Stores.{store_long}
use Rattle.transitions.specs.Opening.{opened}
use Rattle.transitions.specs.Turning.{after_additions}
use Rattle.transitions.proofs.Turned.{can-take, letters-few}

module _ {b : Word} (g : Good b) {k n : ℕ} (capacity : k ≡ capacity_in b) (size : n ≡ size_in b) where
  -- the letters lie within the store, and are no more than a record may have
  pub letters-within : (n ≤ 1024) × (24 * (k + 2) + n ≤ length b)
  letters-within = (omega (arith, g.sized.letters-fit, g.sized.at_most), omega (arith, g.sized.letters-fit, store_long g.sized))

  -- the store can be opened anew
  pub can-open : (1 ≤ k) × (k ≤ 1024) × (store_size k ≤ length b)
  can-open = rw capacity (g.sized.at_least_one, g.sized.at_most, g.sized.long-enough)

  module _ (l : Word) (aside : take n l ≡ take n (drop (24 * (k + 2)) b)) where
    -- what was set aside are the letters of the record
    pub letters-aside : take n l ≡ letters_in b
    unfolding letters_in
    letters-aside = aside ∙ ap₂ (λ (i j : ℕ). take i (drop (24 * (j + 2)) b)) size capacity

    -- they can join the record that is opened
    pub can-join : (m : ℕ) {b' : Word} → m < 2 → b' ≡ opened m k b → Good b' × (all_letters (take n l) ≡ true) × (size_in b' + length (take n l) ≤ capacity_in b')
    can-join m below e =
        let o = can-open in
        let h = can-take m k b below o.0 o.1 o.2 (letters_in b) (omega (arith, letters-few g)) in
        rw (e, letters-aside) (h.0, g.letters, h.1)

    -- and make it what the record of these letters is in that reading
    pub joined : (m : ℕ) {b' b'' : Word} → b' ≡ opened m k b → b'' ≡ after_additions at_right (take n l) b' → b'' ≡ after_additions at_right (letters_in b) (opened m (capacity_in b) b)
    joined m e f = f ∙ ap₂ (after_additions at_right) letters-aside (e ∙ ap (λ (j : ℕ). opened m j b) capacity)
