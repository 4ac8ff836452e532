-- The longest palindrome and its leftmost place, by the new palindromes at the ends. Rests on `Listing`.
use Prim.Native.Nat.{ℕ, min, max}
use native.Mathlib.Omega.{arith}
use mathlib.Core.Path.{◌≡◌, refl, sym, ap, ◌∙◌}
use mathlib.Core.Bool.{Bool, true, false, cond, not}
use mathlib.Core.List.{List, [], ◌∷◌, map}
use lib.Dec.{eqb}
use lib.ListN.{length}
use borrow.Author.Tests.{eqb-true}
use Rattle.std.specs.List.{filter, fold, range_with_len, reduce}
use Rattle.std.specs.Option.{unwrap_or}
use Rattle.palindromes.specs.Word.{Word, keep}
use Rattle.palindromes.specs.Place.{first_place}
use Rattle.palindromes.specs.Record.{palindromes, greatest, least, longest_length, longest_place}
use Rattle.reference_listing.proofs.Listing.{non-empty, new, palindromes-filter}

-- ---- the greatest and the least of a list

greatest-fold : (k : ℕ) (ks : List ℕ) → fold max k ks ≡ max k (greatest ks)
unfolding greatest
greatest-fold k [] = omega arith
greatest-fold k (j ∷ ks) = omega (arith, greatest-fold (max k j) ks)

reduce-greatest : (ks : List ℕ) → unwrap_or (reduce max ks) 0 ≡ greatest ks
unfolding greatest
reduce-greatest [] = refl
reduce-greatest (k ∷ ks) = greatest-fold k ks

least-min : (k j : ℕ) (ks : List ℕ) → least (min k j ∷ ks) ≡ min k (least (j ∷ ks))
unfolding least
least-min k j [] = refl
least-min k j (i ∷ ks) = omega arith

least-fold : (k : ℕ) (ks : List ℕ) → fold min k ks ≡ least (k ∷ ks)
unfolding least
least-fold k [] = refl
least-fold k (j ∷ ks) = least-fold (min k j) ks ∙ least-min k j ks

reduce-least : (ks : List ℕ) → unwrap_or (reduce min ks) 0 ≡ least ks
unfolding least
reduce-least [] = refl
reduce-least (k ∷ ks) = least-fold k ks

-- ---- words that are empty

not-false : (t : Bool) → not t ≡ false → t ≡ true
not-false true e = refl
not-false false e = sym e

-- they do not change the greatest length
greatest-non-empty : (ws : List Word) → greatest (map length ws) ≡ greatest (map length (filter non-empty ws))
unfolding greatest
greatest-non-empty [] = refl
greatest-non-empty (w ∷ ws) = go (non-empty w) refl (greatest-non-empty ws)
  where
    go : (t : Bool) → non-empty w ≡ t → greatest (map length ws) ≡ greatest (map length (filter non-empty ws))
        → max (length w) (greatest (map length ws)) ≡ greatest (map length (cond t (w ∷ filter non-empty ws) (filter non-empty ws)))
    go true e rest = ap (max (length w)) rest
    go false e rest = omega (arith, rest, eqb-true (length w) 0 (not-false (eqb (length w) 0) e))

keep-filter : (test : Word → Bool) (ws : List Word) → filter test ws ≡ keep test ws
unfolding keep
keep-filter test [] = refl
keep-filter test (w ∷ ws) = ap (λ (vs : List Word). cond (test w) (w ∷ vs) vs) (keep-filter test ws)

module _ (σ : ℕ → ℕ) (s : Word) where
  lengths : (es : List ℕ) → map (λ (e : ℕ). length (new σ s e)) es ≡ map length (map (new σ s) es)
  lengths [] = refl
  lengths (e ∷ es) = ap (λ (ks : List ℕ). length (new σ s e) ∷ ks) (lengths es)

  pub longest-found : unwrap_or (reduce max (map (λ (e : ℕ). length (new σ s e)) (range_with_len 1 (length s)))) 0 ≡ longest_length σ s
  unfolding longest_length
  longest-found =
      let es : List ℕ = range_with_len 1 (length s) in
      reduce-greatest (map (λ (e : ℕ). length (new σ s e)) es) ∙ ap greatest (lengths es) ∙ greatest-non-empty (map (new σ s) es)
      ∙ ap (λ (ws : List Word). greatest (map length ws)) (sym (palindromes-filter σ s))

  pub place-found : (n : ℕ) → n ≡ longest_length σ s
      → unwrap_or (reduce min (map (λ w. first_place w s) (filter (λ w. eqb (length w) n) (filter non-empty (map (new σ s) (range_with_len 1 (length s))))))) 0
      ≡ longest_place σ s
  unfolding longest_place
  place-found n e =
      let places : List Word → List ℕ = map (λ (w : Word). first_place w s) in
      reduce-least _ ∙ ap (λ (ws : List Word). least (places (filter (λ w. eqb (length w) n) ws))) (sym (palindromes-filter σ s))
      ∙ ap (λ (ws : List Word). least (places ws)) (keep-filter (λ w. eqb (length w) n) (palindromes σ s))
      ∙ ap (λ (k : ℕ). least (places (keep (λ w. eqb (length w) k) (palindromes σ s)))) e
