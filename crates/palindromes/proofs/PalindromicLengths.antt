-- The numbers of factors as a recurrence: 0 before the first letter, and after each letter one more than at the place where the last factor begins
-- (`lengths-zero`, `lengths-next`). Both read the finished list, in which the numbers stay as they were when it was made. Rests on `Starts` and on
-- the library's laws of lists.
use Prim.Native.Nat.{ℕ, zero, suc, ◌≤◌, ◌<◌}
use native.Mathlib.Omega.{arith}
use native.Mathlib.Nat.{eq-or-lt_of_le, le_of_suc-le-suc}
use mathlib.Core.Path.{◌≡◌, refl, sym, ap, ◌∙◌}
use mathlib.Core.Logic.{⊎_elim}
use mathlib.Core.List.{List, [], ◌∷◌, ◌++◌, append_assoc, append-nil}
use mathlib.Core.List.Memᴰ
use mathlib.Core.List.{Memᴰ}
use mathlib.Core.Bool.{Bool, true, false, cond}
use lib.Dec.{ltb}
use lib.ListN.{length, get_or, take, length-append, length-take, get_or-append}
use lib.Seq.{get_or_at, take-append-le, take-length}
use Rattle.palindromes.specs.Word.{Word}
use Rattle.palindromes.proofs.Words.{snoc-induction}
use Rattle.palindromes.specs.Factorization.{starts, better, pick, choice, last_start, lengths_from, palindromic_lengths, palindromic_length}
use Rattle.palindromes.proofs.Starts.{starts-below, start-below}

-- numbers that agree on the places of a list choose the same
pick-agree : (f g : ℕ → ℕ) (a : ℕ) (ps : List ℕ) → ((q : ℕ) → Memᴰ q (a ∷ ps) → f q ≡ g q) → pick f a ps ≡ pick g a ps
unfolding pick better
pick-agree f g a [] h = refl
pick-agree f g a (p ∷ ps) h =
    let e : better f a p ≡ better g a p = cc (h p (Memᴰ.tail (Memᴰ.head refl)), h a (Memᴰ.head refl)) in
    pick-agree f g (better f a p) ps
    (λ q m. ⊎_elim (λ n. rw n (same (ltb (f p) (f a)))) (λ n. h q (Memᴰ.tail (Memᴰ.tail n))) (Memᴰ.cases_cons m))
    ∙ ap (λ (x : ℕ). pick g x ps) e
  where
    same : (t : Bool) → f (cond t p a) ≡ g (cond t p a)
    same true = h p (Memᴰ.tail (Memᴰ.head refl))
    same false = h a (Memᴰ.head refl)

choice-agree : (f g : ℕ → ℕ) (ps : List ℕ) → ((q : ℕ) → Memᴰ q ps → f q ≡ g q) → choice f ps ≡ choice g ps
unfolding choice
choice-agree f g [] h = refl
choice-agree f g (p ∷ ps) h = pick-agree f g p ps h

-- a word of some length is not empty
some : {t : Word} → 0 < length t → t ≡ [] → ⊥
some h e = omega (arith, ap length e)

module _ (σ : ℕ → ℕ) where
  -- letters read in two parts
  lengths-from-append : (t : Word) (known : List ℕ) (a b : Word) → lengths_from σ t known (a ++ b) ≡ lengths_from σ (t ++ a) (lengths_from σ t known a) b
  unfolding lengths_from
  lengths-from-append t known [] b = ap (λ (u : Word). lengths_from σ u known b) (sym (append-nil t))
  lengths-from-append t known (c ∷ a) b =
      let next = known ++ (suc (get_or known (last_start σ known (t ++ (c ∷ []))) 0) ∷ []) in
      lengths-from-append (t ++ (c ∷ [])) next a b
      ∙ ap (λ (u : Word). lengths_from σ u (lengths_from σ (t ++ (c ∷ [])) next a) b) (append_assoc t (c ∷ []) a)

  -- one letter more: one number more
  lengths-snoc : (s : Word) (c : ℕ)
      → let known = palindromic_lengths σ s in
      palindromic_lengths σ (s ++ (c ∷ [])) ≡ known ++ (suc (get_or known (last_start σ known (s ++ (c ∷ []))) 0) ∷ [])
  unfolding palindromic_lengths lengths_from
  lengths-snoc s c = lengths-from-append [] (0 ∷ []) s (c ∷ [])

  lengths-length : (s : Word) → length (palindromic_lengths σ s) ≡ suc (length s)
  unfolding palindromic_lengths lengths_from
  lengths-length = snoc-induction (λ s. length (palindromic_lengths σ s) ≡ suc (length s)) refl λ s c ih.
      ap length (lengths-snoc s c) ∙ simp length-append (omega (arith, ih))

  -- the numbers so far stay
  lengths-stay : (s : Word) (c k : ℕ) → k ≤ length s → get_or (palindromic_lengths σ (s ++ (c ∷ []))) k 0 ≡ get_or (palindromic_lengths σ s) k 0
  lengths-stay s c k h =
      ap (λ (l : List ℕ). get_or l k 0) (lengths-snoc s c) ∙ get_or-append (palindromic_lengths σ s) _ 0 k (omega (arith, lengths-length s))

  -- and so do the places at which factors begin that end up to there
  start-stays : (s : Word) (c : ℕ) (t : Word) → length t ≤ suc (length s)
      → last_start σ (palindromic_lengths σ (s ++ (c ∷ []))) t ≡ last_start σ (palindromic_lengths σ s) t
  unfolding last_start
  start-stays s c t h = choice-agree _ _ (starts σ t) λ q m. lengths-stay s c q (omega (arith, starts-below σ q t m))

  -- ---- the recurrence

  pub lengths-zero : (s : Word) → get_or (palindromic_lengths σ s) 0 0 ≡ 0
  unfolding palindromic_lengths lengths_from
  lengths-zero = snoc-induction (λ s. get_or (palindromic_lengths σ s) 0 0 ≡ 0) refl λ s c ih. lengths-stay s c 0 (omega arith) ∙ ih

  -- the number at a place is one more than that at the place where the last factor begins
  abbrev Next : Word → ℕ → Type 0
  Next s i = get_or (palindromic_lengths σ s) (suc i) 0 ≡ suc (get_or (palindromic_lengths σ s) (last_start σ (palindromic_lengths σ s) (take (suc i) s)) 0)

  pub lengths-next : (s : Word) (i : ℕ) → i < length s → Next s i
  lengths-next = snoc-induction
      (λ s. (i : ℕ) → i < length s → Next s i)
      (λ i h. absurd (omega arith))
      λ s c ih i h. ⊎_elim (whole s c i) (λ l. within s c i l (ih i l)) (eq-or-lt_of_le (omega (arith, length-append s (c ∷ []))))
    where
      within : (s : Word) (c i : ℕ) → i < length s → Next s i → Next (s ++ (c ∷ [])) i
      within s c i l ih =
          let t = take (suc i) s in
          let some-t : t ≡ [] → ⊥ = some (omega (arith, length-take (suc i) s)) in
          let known = palindromic_lengths σ s in
          let e : take (suc i) (s ++ (c ∷ [])) ≡ t = take-append-le (suc i) s (c ∷ []) (omega arith) in
          let k : last_start σ (palindromic_lengths σ (s ++ (c ∷ []))) (take (suc i) (s ++ (c ∷ []))) ≡ last_start σ (palindromic_lengths σ s) t =
          ap (last_start σ (palindromic_lengths σ (s ++ (c ∷ [])))) e ∙ start-stays s c t (omega (arith, length-take (suc i) s)) in
          cc (
            k,
            ih,
            lengths-stay s c (suc i) (omega arith),
            lengths-stay s c (last_start σ known t) (omega (arith, length-take (suc i) s, start-below σ known t some-t)),
          )

      whole : (s : Word) (c i : ℕ) → i ≡ length s → Next (s ++ (c ∷ [])) i
      whole s c i e =
          let t = s ++ (c ∷ []) in
          let z : length t ≡ suc (length s) = simp length-append (omega arith) in
          let w : take (suc i) t ≡ t = rw (e, ← z) (take-length t) in
          let k = last_start σ (palindromic_lengths σ s) t in
          let n : suc (get_or (palindromic_lengths σ s) k 0) ≡ get_or (palindromic_lengths σ t) (suc i) 0 =
          sym
          (ap (λ (l : List ℕ). get_or l (suc i) 0) (lengths-snoc s c)
          ∙ get_or_at (palindromic_lengths σ s) (suc (get_or (palindromic_lengths σ s) k 0)) [] 0 (suc i) (omega (arith, lengths-length s))) in
          cc (n, w, start-stays s c t (omega arith), lengths-stay s c k (omega (arith, start-below σ (palindromic_lengths σ s) t (some (omega arith)))))

  -- there are no more factors than letters
  most-to : (s : Word) (n k : ℕ) → k ≤ n → n ≤ length s → get_or (palindromic_lengths σ s) k 0 ≤ k
  most-to s zero k h l = let e : k ≡ 0 = omega arith in rw e (omega (arith, lengths-zero s))
  most-to s (suc n) k h l =
      ⊎_elim (λ e. rw e (whole λ c m. most-to s n c m (omega arith))) (λ m. most-to s n k (le_of_suc-le-suc m) (omega arith)) (eq-or-lt_of_le h)
    where
      whole : ((c : ℕ) → c ≤ n → get_or (palindromic_lengths σ s) c 0 ≤ c) → get_or (palindromic_lengths σ s) (suc n) 0 ≤ suc n
      whole ih =
          let t = take (suc n) s in
          let c = last_start σ (palindromic_lengths σ s) t in
          let b : c < length t = start-below σ (palindromic_lengths σ s) t (some (omega (arith, length-take (suc n) s))) in
          omega (arith, lengths-next s n l, ih c (omega (arith, length-take (suc n) s)), length-take (suc n) s)

  pub lengths-most : (s : Word) (k : ℕ) → k ≤ length s → get_or (palindromic_lengths σ s) k 0 ≤ k
  lengths-most s k h = most-to s (length s) k h (omega arith)

  -- nor has the whole record
  pub length_most : (s : Word) → palindromic_length σ s ≤ length s
  unfolding palindromic_length
  length_most s = lengths-most s (length s) (omega arith)
