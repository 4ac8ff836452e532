-- The first mismatch of a word, pair by pair: what `Mismatch` says of the outer half of the pairs, or of all, is what `first_mismatch` computes. Rests on the letters of the mirror (`mirror-at`) and on the comparison of two words (`Tests`).
-- A partner rule that undoes itself is asked for only where the outer half decides.
use Prim.Native.Nat.{ℕ, zero, suc, ◌+◌, ◌-◌, ◌/◌, ◌≤◌, ◌<◌}
use native.Mathlib.Omega.{arith}
use native.Mathlib.Decide.{dec_lt}
use native.Mathlib.Nat.{eq-or-lt_of_le, le_of_suc-le-suc}
use mathlib.Core.Path.{◌≡◌, refl, sym, ap, ◌∙◌}
use mathlib.Core.Bool.{Bool, true, false, cond}
use mathlib.Core.Logic.{⊎_elim}
use mathlib.Core.List.{[], ◌∷◌}
use lib.Dec.{eqb}
use lib.ListN.{length, get_or}
use lib.Seq.{ext_get_or}
use borrow.Author.Tests.{eqb-true, eqb-false, eq-eqb, ne_eqb}
use Rattle.palindromes.specs.Word.{Word, mismatch_from}
use Rattle.palindromes.specs.Palindrome.{SelfInverse, mirror, Symmetric, first_mismatch}
use Rattle.palindromes.specs.Mismatch.{Agrees, Mismatch, all-agree, first-at, reported_mismatch}
use Rattle.palindromes.proofs.Tests.{mismatch-zero, mismatch-none}
use Rattle.palindromes.proofs.Mirror.{mirror-length, mirror-at}

-- two words that agree before the place i, and not there
mismatch-from-at : (k i : ℕ) (u v : Word) → i < length u → i < length v → ((j : ℕ) → j < i → get_or u j 0 ≡ get_or v j 0) → (get_or u i 0 ≡ get_or v i 0 → ⊥) → mismatch_from k u v ≡ k + i
unfolding mismatch_from
mismatch-from-at k i [] v l m h d = absurd (omega arith)
mismatch-from-at k i (x ∷ u) [] l m h d = absurd (omega arith)
mismatch-from-at k zero (x ∷ u) (y ∷ v) l m h d = ap (λ (t : Bool). cond t (mismatch_from (suc k) u v) k) (ne_eqb x y d) ∙ omega arith
mismatch-from-at k (suc i) (x ∷ u) (y ∷ v) l m h d =
    ap (λ (t : Bool). cond t (mismatch_from (suc k) u v) k) (eq-eqb x y (h 0 (omega arith)))
    ∙ mismatch-from-at (suc k) i u v (omega arith) (omega arith) (λ j n. h (suc j) (omega arith)) d
    ∙ omega arith

module _ (σ : ℕ → ℕ) (w : Word) where
  -- a letter of the word and that of its reversal are the same exactly if the pair agrees
  agrees-mirror : (i : ℕ) → i < length w → Agrees σ w i → get_or w i 0 ≡ get_or (mirror σ w) i 0
  agrees-mirror i l h = h ∙ sym (mirror-at σ w i l)

  mirror-agrees : (i : ℕ) → i < length w → get_or w i 0 ≡ get_or (mirror σ w) i 0 → Agrees σ w i
  mirror-agrees i l h = h ∙ mirror-at σ w i l

  -- a word equals its reversal exactly if every pair agrees
  pub symmetric-agrees : Symmetric σ w → (i : ℕ) → i < length w → Agrees σ w i
  symmetric-agrees h i l = mirror-agrees i l (ap (λ (u : Word). get_or u i 0) (sym h))

  agrees-symmetric : ((i : ℕ) → i < length w → Agrees σ w i) → Symmetric σ w
  agrees-symmetric h =
      ext_get_or 0 (mirror σ w) w (mirror-length σ w) λ i l. let m : i < length w = omega (arith, mirror-length σ w) in sym (agrees-mirror i m (h i m))

  -- under a rule that undoes itself the pairs of the outer half decide, for each letter of the other half faces one of that
  half-agrees : SelfInverse σ → ((i : ℕ) → i < length w - length w / 2 → Agrees σ w i) → (i : ℕ) → i < length w → Agrees σ w i
  half-agrees inv h i l = go (dec_lt i (length w - length w / 2))
    where
      go : Dec (i < length w - length w / 2) → Agrees σ w i
      go (yes m) = h i m
      go (no m) =
          let across : length w - 1 - (length w - 1 - i) ≡ i = omega arith in
          sym (ap σ (h (length w - 1 - i) (omega arith) ∙ ap (λ (j : ℕ). σ (get_or w j 0)) across) ∙ inv (get_or w i 0))

  first-mismatch-at : (k : ℕ) → k < length w → ((i : ℕ) → i < k → Agrees σ w i) → (Agrees σ w k → ⊥) → first_mismatch σ w ≡ suc k
  unfolding first_mismatch
  first-mismatch-at k l h d =
      mismatch-from-at 1 k w (mirror σ w) l (omega (arith, mirror-length σ w)) (λ i m. agrees-mirror i (omega arith) (h i m)) (λ e. d (mirror-agrees k l e)) ∙ omega arith

  -- some pairs decide, if a word in which they agree equals its reversal
  mismatch-is : (n r : ℕ) → n ≤ length w → (((i : ℕ) → i < n → Agrees σ w i) → Symmetric σ w) → Mismatch σ w n r → first_mismatch σ w ≡ r
  mismatch-is n r l s (all-agree f e) = mismatch-none σ w (s f) ∙ sym e
  mismatch-is n r l s (first-at k m f d e) = first-mismatch-at k (omega arith) f d ∙ sym e

  -- all of them do, whatever the rule
  pub mismatch-whole : (n r : ℕ) → n ≡ length w → Mismatch σ w n r → first_mismatch σ w ≡ r
  mismatch-whole n r e = mismatch-is n r (omega arith) (λ h. agrees-symmetric (λ i l. h i (omega arith)))

  -- the first of some pairs that disagrees, if there is one
  some-mismatch : (n : ℕ) → (r : ℕ) × Mismatch σ w n r
  some-mismatch zero = (0, all-agree (λ i h. absurd (omega arith)) refl)
  some-mismatch (suc n) = go (some-mismatch n).0 (some-mismatch n).1
    where
      pair : (f : (i : ℕ) → i < n → Agrees σ w i) (t : Bool) → eqb (get_or w n 0) (σ (get_or w (length w - 1 - n) 0)) ≡ t → (r : ℕ) × Mismatch σ w (suc n) r
      pair f true e =
          (0, all-agree (λ i h. ⊎_elim (λ o. rw o (eqb-true _ _ e)) (λ o. f i o) (eq-or-lt_of_le (le_of_suc-le-suc h))) refl)
      pair f false e = (suc n, first-at n (omega arith) f (eqb-false _ _ e) refl)

      go : (r : ℕ) → Mismatch σ w n r → (r : ℕ) × Mismatch σ w (suc n) r
      go r (all-agree f e) = pair f (eqb (get_or w n 0) (σ (get_or w (length w - 1 - n) 0))) refl
      go r (first-at k l f d e) = (r, first-at k (omega arith) f d e)

  module _ (inv : SelfInverse σ) where
    -- the outer half does, the middle letter of an odd word among it, where the rule undoes itself
    pub mismatch-half : (n r : ℕ) → n ≡ length w - length w / 2 → Mismatch σ w n r → first_mismatch σ w ≡ r
    mismatch-half n r e = mismatch-is n r (omega arith) (λ h. agrees-symmetric (half-agrees inv (λ i l. h i (omega arith))))

    -- 02 (x), pair by pair: what the number says
    pub mismatch-pairs : Mismatch σ w (length w - length w / 2) (first_mismatch σ w)
    mismatch-pairs =
        let s = some-mismatch (length w - length w / 2) in
        rw (mismatch-half (length w - length w / 2) s.0 refl s.1) s.1

-- two rules that agree on the letters of a word find the same mismatch
pub mismatch-rule : (σ τ : ℕ → ℕ) (w : Word) → ((i : ℕ) → i < length w → σ (get_or w i 0) ≡ τ (get_or w i 0)) → (n r : ℕ) → n ≤ length w → Mismatch σ w n r → Mismatch τ w n r
mismatch-rule σ τ w h n r l (all-agree f e) = all-agree (λ i m. f i m ∙ h (length w - 1 - i) (omega arith)) e
mismatch-rule σ τ w h n r l (first-at k m f d e) =
    first-at k m (λ i o. f i o ∙ h (length w - 1 - i) (omega arith)) (λ a. d (a ∙ sym (h (length w - 1 - k) (omega arith)))) e

-- ---- what is handed on

-- it too is 0 exactly if the word equals its reversal: so an absent piece with 0 reads alike
pub unreported-symmetric : (σ : ℕ → ℕ) (w : Word) → reported_mismatch σ w ≡ 0 → Symmetric σ w
unfolding reported_mismatch
unreported-symmetric σ w h = mismatch-zero σ w (omega arith)

pub mismatch-unreported : (σ : ℕ → ℕ) (w : Word) → Symmetric σ w → reported_mismatch σ w ≡ 0
unfolding reported_mismatch
mismatch-unreported σ w h = rw (mismatch-none σ w h) refl

pub mismatch-small : (σ : ℕ → ℕ) (w : Word) → reported_mismatch σ w < 65536
unfolding reported_mismatch
mismatch-small σ w = omega arith
