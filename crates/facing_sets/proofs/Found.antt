-- The longest stretch whose facing sets meet is the longest mirror repeat: for some choice where the sets are those of all codes, for every choice where
-- they are those of the certain codes. Rests on `Facing` and `Longest` of `ambiguity`. Assumes nothing.
use Prim.Native.Nat.{ℕ, zero, suc, ◌+◌, ◌-◌, ◌<◌, ◌≤◌}
use native.Mathlib.Omega.{arith}
use native.Mathlib.Nat.{le_antisymm}
use mathlib.Core.Path.{◌≡◌, refl, sym, ap, ◌∙◌}
use mathlib.Core.Bool.{Bool, true}
use mathlib.Core.List.{[], ◌++◌, map, append_assoc}
use lib.Count.{ones, ones_in}
use lib.ListN.{length, get_or, length-append, length-map, get_or-map, get_or-append}
use lib.Seq.{get_or-append-add}
use Rattle.palindromes.specs.Word.{Word}
use Rattle.palindromes.specs.Place.{Stands}
use Rattle.palindromes.specs.Interval.{interval, word_at}
use Rattle.palindromes.proofs.Intervals.{interval-cut}
use Rattle.ambiguity.specs.Code.{codes, bases_in, bases_of, four_bits, set_of, number_of_bases, is_certain, all_codes}
use Rattle.ambiguity.specs.Longest.{is_mirror_for_some, is_mirror_for_every, longest_passing, longest_for_some, longest_for_every}
use Rattle.ambiguity.specs.Facing.{FacingPairs, Meet, certain_set_of}
use Rattle.ambiguity.proofs.Codes.{settled-meet, meet-settled, certain-meets}
use Rattle.ambiguity.proofs.Facing.{some-facing, facing-some, every-facing, facing-every}
use Rattle.ambiguity.proofs.Longest.{passing-most, passing-bound, of-codes, mirror-some-true, mirror-some-is, mirror-every-true, mirror-every-is}
use Rattle.facing_sets.specs.Facing.{Facing, LongestFacing}
use Rattle.facing_sets.specs.Search.{Within}

-- ---- sets and stretches, place by place

-- 0 is no code and has the empty set
set-none : set_of 0 ≡ 0
unfolding set_of bases_of codes bases_in four_bits
set-none = refl

certain-none : certain_set_of 0 ≡ 0
unfolding certain_set_of is_certain number_of_bases set_of bases_of codes bases_in four_bits ones ones_in
certain-none = refl

sets-at : (f : ℕ → ℕ) → f 0 ≡ 0 → (s : Word) (i : ℕ) → get_or (map f s) i 0 ≡ f (get_or s i 0)
sets-at f z s i = ap (λ (d : ℕ). get_or (map f s) i d) (sym z) ∙ get_or-map f s i 0

-- a letter of a stretch
letter-in : {w s : Word} (c : Stands w s) (i : ℕ) → i < length w → get_or s (length c.before + i) 0 ≡ get_or w i 0
letter-in {w} c i l =
    ap (λ (x : Word). get_or x (length c.before + i) 0) (sym c.whole ∙ append_assoc c.before w c.after)
    ∙ get_or-append-add c.before (w ++ c.after) i 0
    ∙ get_or-append w c.after 0 i l

-- the sets of certain codes are within those of all
pub certain-within : (text : Word) → Within (map certain_set_of text) (map set_of text)
certain-within text =
    record {
      same_length = length-map text certain_set_of ∙ sym (length-map text set_of);
      within = λ i j m.
          let at : (k : ℕ) → get_or (map certain_set_of text) k 0 ≡ certain_set_of (get_or text k 0) = λ k. sets-at certain_set_of certain-none text k in
          let to : (k : ℕ) → get_or (map set_of text) k 0 ≡ set_of (get_or text k 0) = λ k. sets-at set_of set-none text k in
          rw (to i, to j) (certain-meets (get_or text i 0) (get_or text j 0) (rw (at i, at j) at m));
    }

-- ---- the pairs of a stretch

module _ (f : ℕ → ℕ) (z : f 0 ≡ 0) {w s : Word} (c : Stands w s) where
  pairs-facing : FacingPairs (λ x y. Meet (f x) (f y)) w → Facing (map f s) (length c.before) (length c.before + length w)
  pairs-facing h i j l m e =
      let a = length c.before in
      let g = h (i - a) (j - a) (omega arith) (omega arith) in
      rw (at i l (omega arith), at j (omega arith) (omega arith)) g
    where
      at : (k : ℕ) → length c.before ≤ k → k - length c.before < length w → get_or (map f s) k 0 ≡ f (get_or w (k - length c.before) 0)
      at k n o =
          let a = length c.before in
          let same : k ≡ a + (k - a) = omega arith in
          sets-at f z s k ∙ ap f (ap (λ (x : ℕ). get_or s x 0) same ∙ letter-in c (k - a) o)

  facing-pairs : Facing (map f s) (length c.before) (length c.before + length w) → FacingPairs (λ x y. Meet (f x) (f y)) w
  facing-pairs h i j m e =
      let a = length c.before in
      let at : (k : ℕ) → k < length w → f (get_or w k 0) ≡ get_or (map f s) (a + k) 0 = λ k o. sym (sets-at f z s (a + k) ∙ ap f (letter-in c k o)) in
      rw (at i (omega arith), at j (omega arith)) (h (a + i) (a + j) (omega arith) (omega arith) (omega arith))

-- a test that facing sets decide: what the code finds is the length of the longest stretch that passes
module _ (f : ℕ → ℕ) (z : f 0 ≡ 0) (t : Word → Bool) (s : Word)
    (sound : (w : Word) → Stands w s → t w ≡ true → FacingPairs (λ x y. Meet (f x) (f y)) w)
    (full : (w : Word) → Stands w s → (w ≡ [] → ⊥) → FacingPairs (λ x y. Meet (f x) (f y)) w → t w ≡ true) where
  longest-passing : (r : ℕ) → LongestFacing (map f s) r → longest_passing t s ≡ r
  longest-passing r h = le_antisymm (passing-bound t s r below) (above r refl)
    where
      fits : {w : Word} (c : Stands w s) → length c.before + length w ≤ length s
      fits {w} c = omega (arith, ap length c.whole, length-append (c.before ++ w) c.after, length-append c.before w)

      below : (w : Word) → Stands w s → (w ≡ [] → ⊥) → t w ≡ true → length w ≤ r
      below w c n e =
          let a = length c.before in
          omega (arith, h.most a (a + length w) (omega arith) (omega (arith, fits c, length-map s f)) (pairs-facing f z c (sound w c e)))

      above : (k : ℕ) → r ≡ k → r ≤ longest_passing t s
      above zero e = omega arith
      above (suc k) e =
          let a = h.reached.start in
          let b = interval-cut s (interval a (a + r)) (record { some = omega arith; fits = omega (arith, h.reached.fits, length-map s f) }) in
          let w = word_at s (interval a (a + r)) in
          let c = b.0 in
          let len : length w ≡ r = omega (arith, b.2) in
          let n : w ≡ [] → ⊥ = λ q. omega (arith, ap length q) in
          let there : Facing (map f s) (length c.before) (length c.before + length w) = rw (b.1, len) h.reached.facing in
          omega (arith, passing-most t s w c n (full w c n (facing-pairs f z c there)))

-- ---- the two lengths

module _ (s : Word) (c : all_codes s ≡ true) where
  -- the first, from the sets of all codes
  pub first-length : (r : ℕ) → LongestFacing (map set_of s) r → longest_for_some s ≡ r
  unfolding longest_for_some
  first-length =
      longest-passing set_of set-none is_mirror_for_some s
      (λ w h e. some-facing w (mirror-some-true w e))
      (λ w h n p. mirror-some-is w (facing-some w n (of-codes h c) p))

  -- the second, from those of the certain codes
  pub second-length : (r : ℕ) → LongestFacing (map certain_set_of s) r → longest_for_every s ≡ r
  unfolding longest_for_every
  second-length =
      longest-passing certain_set_of certain-none is_mirror_for_every s
      (λ w h e i j l q. settled-meet (get_or w i 0) (get_or w j 0) (every-facing w (of-codes h c) (mirror-every-true w e) i j l q))
      (λ w h n p. mirror-every-is w (facing-every w n λ i j l q. meet-settled (get_or w i 0) (get_or w j 0) (p i j l q)))
