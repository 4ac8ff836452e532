-- The first place with the smallest number. To choose in a list after a place is to choose in the list and then between the two (`pick-cons`), so
-- that a choice kept for some places serves for more (`pick-append`, `choice-snoc`). Of places that rise the chosen one has a number not above any
-- other's, and stands before those with the same (`choice-before`). Rests on the tests of numbers.
use Prim.Native.Nat.{ℕ, ◌≤◌, ◌<◌}
use native.Mathlib.Omega.{arith}
use native.Mathlib.Decide.{dec_le}
use mathlib.Core.Path.{◌≡◌, refl, sym, ap, ◌∙◌}
use mathlib.Core.Logic.{◌⊎◌, inl, inr, ⊎_elim}
use mathlib.Core.List.{List, [], ◌∷◌, ◌++◌}
use mathlib.Core.List.Memᴰ
use mathlib.Core.List.{Memᴰ}
use borrow.Author.Tests.{lt-ltb, le-ltb}
use Rattle.palindromes.proofs.Places.{Rising}
use Rattle.palindromes.specs.Factorization.{better, pick, choice}

-- which of two places is better
data Better (f : ℕ → ℕ) (a p q : ℕ) : Type 0 where
  second : f p < f a → q ≡ p → Better f a p q
  first : f a ≤ f p → q ≡ a → Better f a p q

module _ (f : ℕ → ℕ) where
  -- the second where its number is smaller
  pub better-second : (a p : ℕ) → f p < f a → better f a p ≡ p
  unfolding better
  better-second a p h = rw (lt-ltb (f p) (f a) h) refl

  -- and else the first
  pub better-first : (a p : ℕ) → f a ≤ f p → better f a p ≡ a
  unfolding better
  better-first a p h = rw (le-ltb (f p) (f a) h) refl

  better-case : (a p : ℕ) → Better f a p (better f a p)
  better-case a p = go (dec_le (f a) (f p))
    where
      go : Dec (f a ≤ f p) → Better f a p (better f a p)
      go (yes h) = first h (better-first a p h)
      go (no h) = let l : f p < f a = omega arith in second l (better-second a p l)

  -- what bounds both bounds it
  pub better-below : (a p n : ℕ) → a < n → p < n → better f a p < n
  better-below a p n h k = go (better-case a p)
    where
      go : Better f a p (better f a p) → better f a p < n
      go (second l e) = omega arith
      go (first l e) = omega arith

  -- three places: it is the same whichever two are compared first
  better-better : (a b c : ℕ) → better f a (better f b c) ≡ better f (better f a b) c
  better-better a b c = go (better-case b c) (better-case a b)
    where
      go : Better f b c (better f b c) → Better f a b (better f a b) → better f a (better f b c) ≡ better f (better f a b) c
      go (second h e) (second k d) = cc (e, d, better-second a c (omega arith))
      go (second h e) (first k d) = cc (e, d)
      go (first h e) (second k d) = cc (e, d)
      go (first h e) (first k d) = cc (e, d, better-first a c (omega arith))

  -- a place before a list: the choice of the list, and then the better of both
  pick-cons : (a p : ℕ) (ps : List ℕ) → pick f (better f a p) ps ≡ better f a (pick f p ps)
  unfolding pick
  pick-cons a p [] = refl
  pick-cons a p (q ∷ ps) = ap (λ (x : ℕ). pick f x ps) (sym (better-better a p q)) ∙ pick-cons a (better f p q) ps

  -- two lists one after the other
  pick-append : (a : ℕ) (ps qs : List ℕ) → pick f a (ps ++ qs) ≡ pick f (pick f a ps) qs
  unfolding pick
  pick-append a [] qs = refl
  pick-append a (p ∷ ps) qs = pick-append (better f a p) ps qs

  -- what is chosen so far, and the choice of what comes next
  pub pick-choice : (a p : ℕ) (ps qs : List ℕ) → pick f a ((p ∷ ps) ++ qs) ≡ pick f (better f a (choice f (p ∷ ps))) qs
  unfolding pick choice
  pick-choice a p ps qs = pick-append (better f a p) ps qs ∙ ap (λ (x : ℕ). pick f x qs) (pick-cons a p ps)

  -- one place more
  pub choice-snoc : (p : ℕ) (ps : List ℕ) (q : ℕ) → choice f ((p ∷ ps) ++ (q ∷ [])) ≡ better f (choice f (p ∷ ps)) q
  unfolding choice pick
  choice-snoc p ps q = pick-append p ps (q ∷ [])

  -- a place against itself
  better-same : (a : ℕ) → better f a a ≡ a
  better-same a = better-first a a (omega arith)

  -- to begin with the first place is to choose
  pub pick_first : (p : ℕ) (ps : List ℕ) → pick f p (p ∷ ps) ≡ choice f (p ∷ ps)
  unfolding pick choice
  pick_first p ps = ap (λ (x : ℕ). pick f x ps) (better-same p)

  -- ---- which one it is

  -- it is one of the list
  pick-in : (a : ℕ) (ps : List ℕ) → Memᴰ (pick f a ps) (a ∷ ps)
  unfolding pick
  pick-in a [] = Memᴰ.head refl
  pick-in a (p ∷ ps) = go (better-case a p) (Memᴰ.cases_cons (pick-in (better f a p) ps))
    where
      go : Better f a p (better f a p) → (pick f (better f a p) ps ≡ better f a p) ⊎ Memᴰ (pick f (better f a p) ps) ps
          → Memᴰ (pick f (better f a p) ps) (a ∷ p ∷ ps)
      go (second h e) (inl m) = Memᴰ.tail (Memᴰ.head (m ∙ e))
      go (first h e) (inl m) = Memᴰ.head (m ∙ e)
      go b (inr m) = Memᴰ.tail (Memᴰ.tail m)

  pub choice-in : (p : ℕ) (ps : List ℕ) → Memᴰ (choice f (p ∷ ps)) (p ∷ ps)
  unfolding choice
  choice-in p ps = pick-in p ps

  -- it comes before q: its number is smaller, or the same and it stands no further right
  abbrev pub Before : ℕ → ℕ → Type 0
  Before c q = (f c < f q) ⊎ ((f c ≡ f q) × (c ≤ q))

  before-trans : {a b c : ℕ} → Before a b → Before b c → Before a c
  before-trans (inl h) (inl k) = inl (omega arith)
  before-trans (inl h) (inr k) = inl (omega (arith, k.0))
  before-trans (inr h) (inl k) = inl (omega (arith, h.0))
  before-trans (inr h) (inr k) = inr (h.0 ∙ k.0, omega (arith, h.1, k.1))

  -- the better of two that rise comes before both, and rises towards what follows both
  better-before : (a p : ℕ) → a < p → Before (better f a p) a × Before (better f a p) p
  better-before a p l = go (better-case a p)
    where
      go : Better f a p (better f a p) → Before (better f a p) a × Before (better f a p) p
      go (second h e) = rw e (inl h, inr (refl, omega arith))
      go (first h e) = rw e (inr (refl, omega arith), order (dec_le (f p) (f a)))
        where
          order : Dec (f p ≤ f a) → Before a p
          order (yes k) = inr (omega arith, omega arith)
          order (no k) = inl (omega arith)

  better-rising : (a p : ℕ) (ps : List ℕ) → Rising (a ∷ p ∷ ps) → Rising (better f a p ∷ ps)
  better-rising a p ps r = go (better-case a p)
    where
      go : Better f a p (better f a p) → Rising (better f a p ∷ ps)
      go (second h e) = rw e r.1
      go (first h e) = rw e ((λ j m. r.0 j (Memᴰ.tail m)), r.1.1)

  pick-before : (a : ℕ) (ps : List ℕ) → Rising (a ∷ ps) → (q : ℕ) → Memᴰ q (a ∷ ps) → Before (pick f a ps) q
  unfolding pick
  pick-before a [] r q m = go (Memᴰ.cases_cons m)
    where
      go : (q ≡ a) ⊎ Memᴰ q [] → Before a q
      go (inl e) = rw e (inr (refl, omega arith))
      go (inr n) = absurd (mathlib.Core.List.Memᴰ.not-nil n)
  pick-before a (p ∷ ps) r q m =
      go (better-before a p (r.0 p (Memᴰ.head refl))) (pick-before (better f a p) ps (better-rising a p ps r)) (Memᴰ.cases_cons m)
    where
      go : Before (better f a p) a × Before (better f a p) p → ((q : ℕ) → Memᴰ q (better f a p ∷ ps) → Before (pick f (better f a p) ps) q)
          → (q ≡ a) ⊎ Memᴰ q (p ∷ ps)
          → Before (pick f (better f a p) ps) q
      go b ih (inl e) = rw e (before-trans (ih (better f a p) (Memᴰ.head refl)) b.0)
      go b ih (inr n) =
          ⊎_elim
          (λ e. rw e (before-trans (ih (better f a p) (Memᴰ.head refl)) b.1))
          (λ k. ih q (Memᴰ.tail k))
          (Memᴰ.cases_cons n)

  -- of places that rise the chosen one comes before every other
  pub choice-before : (p : ℕ) (ps : List ℕ) → Rising (p ∷ ps) → (q : ℕ) → Memᴰ q (p ∷ ps) → Before (choice f (p ∷ ps)) q
  unfolding choice
  choice-before p ps r q m = pick-before p ps r q m
