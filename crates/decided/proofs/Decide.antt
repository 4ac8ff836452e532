-- How decisions are put together: of a record field by field, of an implication, of a statement on every number below a bound, on some number below it,
-- on every word of a list and on both ends; and that equal nodes can be told. Pairs, equal numbers, integers, truth values and words, `◌≤◌` and `◌<◌` are
-- decided by the library, in whose type `Dec` every decision here stands. Rests on the laws of `member` in `Lists`.
use Prim.Native.Nat.{ℕ, zero, suc, ◌<◌}
use native.Mathlib.Omega.{arith}
use native.Mathlib.Decide.{ℕ_discrete, dec_lt, map_dec}
use mathlib.Core.Path.{◌≡◌, refl, sym, ap, subst⁻¹}
use mathlib.Core.Bool.{Bool, true, ◌||◌}
use mathlib.Core.Logic.Dec
use mathlib.Core.Logic.{◌⊎◌, inl, inr, ⊎_elim, dite}
use mathlib.Core.List.{List, [], ◌∷◌, List-discrete}
use Rattle.palindromes.specs.Word.{Word, member}
use Rattle.palindromes.specs.End.{End, at_left, at_right}
use Rattle.palindromes.specs.Node.{Node, imaginary, spelt}
use Rattle.palindromes.proofs.Tests.{false-not-true}
use Rattle.palindromes.proofs.Lists.{either_true, not-in-nil, member-first, member-later, first-or-later}

-- a record needs a part: where the part fails the record fails, and where it holds the other parts are left
pub need : {A R : Type 0} → Dec A → (R → A) → (A → Dec R) → Dec R
need (yes a) part rest = rest a
need (no n) part rest = no (λ r. n (part r))

-- an implication between decided statements
pub implied : {A B : Type 0} → Dec A → Dec B → Dec (A → B)
implied (yes a) d = map_dec (λ b a. b) (λ f. f a) d
implied (no n) d = yes (λ a. absurd (n a))

-- what follows from each of two tests follows where one of them passes: so bounds are read off a test
pub from_either : {A : Type 0} {a b : Bool} → (a ≡ true → A) → (b ≡ true → A) → (a || b) ≡ true → A
from_either {a} {b} f g e = ⊎_elim f g (either_true a b e)

-- ---- numbers below a bound

-- where each number has one of two properties, one below the bound has the first or all have the second
one-or-all : {P Q : ℕ → Type 0} → ((r : ℕ) → P r ⊎ Q r) → (n : ℕ) → ((r : ℕ) × (r < n) × P r) ⊎ ((r : ℕ) → r < n → Q r)
one-or-all d zero = inr (λ r h. absurd (omega arith))
one-or-all {P} {Q} d (suc n) = go (one-or-all d n) (d n)
  where
    go : ((r : ℕ) × (r < n) × P r) ⊎ ((r : ℕ) → r < n → Q r) → P n ⊎ Q n → ((r : ℕ) × (r < suc n) × P r) ⊎ ((r : ℕ) → r < suc n → Q r)
    go (inl x) last = inl (x.0, omega arith, x.2)
    go (inr f) (inl p) = inl (n, omega arith, p)
    go (inr f) (inr q) = inr (λ r h. dite (ℕ_discrete r n) (λ e. subst⁻¹ Q e q) (λ other. f r (omega arith)))

module _ {Q P : ℕ → Type 0} (n : ℕ) (bound : (r : ℕ) → Q r → r < n) (q : (r : ℕ) → Dec (Q r)) (p : (r : ℕ) → Dec (P r)) where
  -- a statement on all numbers of a kind that has a bound
  pub all-within : Dec ((r : ℕ) → Q r → P r)
  all-within =
      ⊎_elim
      (λ x. no (λ f. x.2 (f x.0)))
      (λ f. yes (λ r h. f r (bound r h) h))
      (one-or-all (λ r. dite (implied (q r) (p r)) inr inl) n)

  -- and on some number of that kind
  pub some-within : Dec ((r : ℕ) × Q r × P r)
  some-within =
      ⊎_elim
      (λ x. yes (x.0, x.2.0, x.2.1))
      (λ f. no (λ x. f x.0 (bound x.0 x.1) (x.1, x.2)))
      (one-or-all (λ r. dite (Dec.and (q r) (p r)) inl inr) n)

-- a statement on all numbers below a bound
pub all-below : {P : ℕ → Type 0} (n : ℕ) → ((r : ℕ) → Dec (P r)) → Dec ((r : ℕ) → r < n → P r)
all-below n p = all-within n (λ r h. h) (λ r. dec_lt r n) p

-- ---- words, nodes and ends

-- a statement on all words of a list
pub all_in : {P : Word → Type 0} (l : List Word) → ((w : Word) → Dec (P w)) → Dec ((w : Word) → member w l ≡ true → P w)
all_in [] p = yes (λ w m. absurd (false-not-true (not-in-nil w) m))
all_in {P} (v ∷ l) p =
    need (p v) (λ f. f v (member-first v l)) λ first.
    need (all_in l p) (λ f w m. f w (member-later w v l m)) λ later.
    yes (λ w m. ⊎_elim (λ e. subst⁻¹ P e first) (later w) (first-or-later w v l m))

-- the imaginary string is no word
imaginary-not-spelt : {w : Word} → imaginary ≡ spelt w → ⊥
imaginary-not-spelt e = let z : ◌≡◌ {A = ℕ} 0 1 = cc in omega arith

-- whether two nodes are equal
pub Node-discrete : (u v : Node) → Dec (u ≡ v)
Node-discrete imaginary imaginary = yes refl
Node-discrete imaginary (spelt w) = no imaginary-not-spelt
Node-discrete (spelt w) imaginary = no (λ e. imaginary-not-spelt (sym e))
Node-discrete (spelt u) (spelt v) = map_dec (ap spelt) (λ e. cc) (List-discrete ℕ_discrete u v)

-- a statement on both ends
pub both_ends : {P : End → Type 0} → ((e : End) → Dec (P e)) → Dec ((e : End) → P e)
both_ends p =
    need (p at_left) (λ f. f at_left) λ left.
    need (p at_right) (λ f. f at_right) λ right.
    yes (elim [ at_left ↦ left | at_right ↦ right ])
