-- The stretches of a record: its non-empty suffixes are the non-empty words that end it, one letter more at the right end adds the suffixes of the new record to
-- the list, and so the list holds exactly the non-empty words that stand in the record. Rests on proofs/Lists.antt, on the cuts of proofs/Words.antt and on
-- the prefixes of a longer record, proofs/Longest.antt.
use Prim.Native.Nat.{ℕ}
use mathlib.Core.Path.{◌≡◌, refl, sym, ◌∙◌}
use mathlib.Core.Bool.{true, ◌||◌}
use mathlib.Core.Logic.{◌⊎◌, inl, inr}
use mathlib.Core.List.{List, [], ◌∷◌, ◌++◌, append_assoc, append-nil, cons-ne-nil}
use Rattle.palindromes.specs.Word.{Word, member}
use Rattle.palindromes.specs.Place.{Suffix, Stands}
use Rattle.palindromes.specs.Record.{prefixes, suffixes, suffixes_of_each, stretches}
use Rattle.palindromes.proofs.Tests.{false-not-true}
use Rattle.palindromes.proofs.Words.{suffix_refl, suffix-cons, suffix-of-cons, suffix-of-empty, suffix-stands, stands-of-empty, stands-snoc, stands-of-snoc, snoc-induction}
use Rattle.palindromes.proofs.Longest.{prefixes-snoc}
use Rattle.palindromes.proofs.Lists.{either_true, right_is, left_is, not-in-nil, member-first, member-later, first-or-later, member-append}

-- ---- suffixes

-- the listed suffixes are not empty and end the record
pub suffixes-true : (w s : Word) → member w (suffixes s) ≡ true → (w ≡ [] → ⊥) × Suffix w s
unfolding suffixes
suffixes-true w [] m = absurd (false-not-true (not-in-nil w) m)
suffixes-true w (x ∷ s) m = go (suffixes-true w s) (first-or-later w (x ∷ s) (suffixes s) m)
  where
    go : (member w (suffixes s) ≡ true → (w ≡ [] → ⊥) × Suffix w s) → (w ≡ x ∷ s) ⊎ (member w (suffixes s) ≡ true) → (w ≡ [] → ⊥) × Suffix w (x ∷ s)
    go ih (inl e) = (λ n. cons-ne-nil x s (sym e ∙ n), rw e suffix_refl)
    go ih (inr m) = ((ih m).0, suffix-cons x (ih m).1)

-- a word that is not empty and ends the record is listed
pub suffixes-is : (w s : Word) → (w ≡ [] → ⊥) → Suffix w s → member w (suffixes s) ≡ true
unfolding suffixes
suffixes-is w [] h p = absurd (h (suffix-of-empty p))
suffixes-is w (x ∷ s) h p = go (suffixes-is w s h) (suffix-of-cons x p)
  where
    go : (Suffix w s → member w (suffixes s) ≡ true) → (w ≡ x ∷ s) ⊎ Suffix w s → member w ((x ∷ s) ∷ suffixes s) ≡ true
    go ih (inl e) = rw e (member-first (x ∷ s) (suffixes s))
    go ih (inr q) = member-later w (x ∷ s) (suffixes s) (ih q)

-- ---- stretches

suffixes-of-joined : (ps qs : List Word) → suffixes_of_each (ps ++ qs) ≡ suffixes_of_each ps ++ suffixes_of_each qs
unfolding suffixes_of_each
suffixes-of-joined [] qs = refl
suffixes-of-joined (p ∷ ps) qs = cc (suffixes-of-joined ps qs, append_assoc (suffixes p) (suffixes_of_each ps) (suffixes_of_each qs))

-- one letter more at the right end: the stretches so far, and then those that end with the new letter
pub stretches-snoc : (s : Word) (c : ℕ) → stretches (s ++ (c ∷ [])) ≡ stretches s ++ suffixes (s ++ (c ∷ []))
unfolding stretches suffixes_of_each
stretches-snoc s c = cc (prefixes-snoc s c, suffixes-of-joined (prefixes s) ((s ++ (c ∷ [])) ∷ []), append-nil (suffixes (s ++ (c ∷ []))))

pub stretches-empty : stretches [] ≡ []
unfolding stretches prefixes suffixes_of_each
stretches-empty = refl

-- a stretch of the record is not empty and stands in it
pub stretches-true : (w s : Word) → member w (stretches s) ≡ true → (w ≡ [] → ⊥) × Stands w s
stretches-true w = snoc-induction (λ s. member w (stretches s) ≡ true → (w ≡ [] → ⊥) × Stands w s) none step
  where
    none : member w (stretches []) ≡ true → (w ≡ [] → ⊥) × Stands w []
    none m = absurd (false-not-true (not-in-nil w) (rw stretches-empty at m))

    step : (s : Word) (c : ℕ) → (member w (stretches s) ≡ true → (w ≡ [] → ⊥) × Stands w s) → member w (stretches (s ++ (c ∷ []))) ≡ true → (w ≡ [] → ⊥) × Stands w (s ++ (c ∷ []))
    step s c ih m = go (either_true (member w (stretches s)) (member w (suffixes (s ++ (c ∷ [])))) (rw (stretches-snoc, member-append) at m))
      where
        go : (member w (stretches s) ≡ true) ⊎ (member w (suffixes (s ++ (c ∷ []))) ≡ true) → (w ≡ [] → ⊥) × Stands w (s ++ (c ∷ []))
        go (inl m) = ((ih m).0, stands-snoc c (ih m).1)
        go (inr m) = let h = suffixes-true w (s ++ (c ∷ [])) m in (h.0, suffix-stands h.1)

-- a word that is not empty and stands in the record is one of its stretches
pub stretches-is : (w s : Word) → (w ≡ [] → ⊥) → Stands w s → member w (stretches s) ≡ true
stretches-is w s h = snoc-induction (λ s. Stands w s → member w (stretches s) ≡ true) (λ p. absurd (h (stands-of-empty p))) step s
  where
    step : (s : Word) (c : ℕ) → (Stands w s → member w (stretches s) ≡ true) → Stands w (s ++ (c ∷ [])) → member w (stretches (s ++ (c ∷ []))) ≡ true
    step s c ih p = rw (stretches-snoc, member-append) (go (stands-of-snoc s c p))
      where
        go : Stands w s ⊎ Suffix w (s ++ (c ∷ [])) → (member w (stretches s) || member w (suffixes (s ++ (c ∷ [])))) ≡ true
        go (inl q) = left_is (member w (stretches s)) (member w (suffixes (s ++ (c ∷ [])))) (ih q)
        go (inr q) = right_is (member w (stretches s)) (member w (suffixes (s ++ (c ∷ [])))) (suffixes-is w (s ++ (c ∷ [])) h q)
