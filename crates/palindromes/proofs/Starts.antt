-- The places at which the palindromes that end a word begin: which they are (`starts-true`, `starts_is`), that they rise (`starts-rising`), that they
-- are before the word's end, and that there is one if every letter is its own partner (`starts-some`). Rests on `Stretches` and the tests of
-- palindromes.
use Prim.Native.Nat.{ℕ, ◌-◌, ◌≤◌, ◌<◌}
use native.Mathlib.Omega.{arith}
use mathlib.Core.Path.{◌≡◌, refl, sym, ap, ◌∙◌}
use mathlib.Core.Bool.{Bool, true, false, cond}
use mathlib.Core.Logic.{⊎_elim}
use mathlib.Core.List.{List, [], ◌∷◌, ◌++◌, map, cons-ne-nil}
use mathlib.Core.List.Memᴰ
use mathlib.Core.List.{Memᴰ}
use lib.ListN.{length, get_or, length-append}
use Rattle.palindromes.specs.Word.{Word, member, keep}
use Rattle.palindromes.specs.Palindrome.{Palindrome, is_palindrome}
use Rattle.palindromes.specs.Place.{Suffix}
use Rattle.palindromes.specs.Record.{suffixes, suffix_palindromes, longest_suffix}
use Rattle.palindromes.proofs.Tests.{both_true, both-are, palindrome-true, palindrome-is}
use Rattle.palindromes.proofs.Lists.{member-true, member_is, member-keep}
use Rattle.palindromes.proofs.Words.{by_last, suffix-length, some-letters}
use Rattle.palindromes.proofs.Stretches.{suffixes-true, suffixes-is}
use Rattle.palindromes.proofs.Places.{Rising}
use Rattle.palindromes.proofs.Longest.{longest-suffix}
use Rattle.palindromes.proofs.Growth.{letter-symmetric}
use Rattle.palindromes.specs.Factorization.{starts, choice, last_start}
use Rattle.palindromes.proofs.Choice.{choice-in}

module _ (σ : ℕ → ℕ) where
  -- a palindrome that ends the word begins at one of the places, and one begins at each of them
  pub starts_is : (w t : Word) → Palindrome σ w → (a : Suffix w t) → Memᴰ (length a.before) (starts σ t)
  unfolding starts
  starts_is w t p a =
      let m : member w (suffix_palindromes σ t) ≡ true =
      member-keep w (is_palindrome σ) (suffixes t)
      ∙ both-are (member w (suffixes t)) (is_palindrome σ w) (suffixes-is w t p.non-empty a) (palindrome-is σ w p) in
      let e : length t - length w ≡ length a.before = omega (arith, length-append a.before w, ap length a.whole) in
      rw e at (Memᴰ.map (λ (v : Word). length t - length v) (member-true w (suffix_palindromes σ t) m))

  pub starts-true : (k : ℕ) (t : Word) → Memᴰ k (starts σ t) → (w : Word) × Palindrome σ w × (a : Suffix w t) × (length a.before ≡ k)
  unfolding starts
  starts-true k t m =
      let r = Memᴰ.of_map (λ (v : Word). length t - length v) (suffix_palindromes σ t) m in
      let w = r.0 in
      let h = both_true (member w (suffixes t)) (is_palindrome σ w) (sym (member-keep w (is_palindrome σ) (suffixes t)) ∙ member_is r.1) in
      let a = (suffixes-true w t h.0).1 in
      (w, palindrome-true σ w h.1, a, omega (arith, r.2, length-append a.before w, ap length a.whole))

  -- each is before the end
  pub starts-below : (k : ℕ) (t : Word) → Memᴰ k (starts σ t) → k < length t
  starts-below k t m =
      let r = starts-true k t m in
      omega (arith, r.3, some-letters r.0 r.1.non-empty, length-append r.2.before r.0, ap length r.2.whole)

  -- they rise
  kept-rising : (n : ℕ) (p : Word → Bool) (t : Word) → length t ≤ n → Rising (map (λ v. n - length v) (keep p (suffixes t)))
  unfolding suffixes keep
  kept-rising n p [] h = tt
  kept-rising n p (x ∷ t) h = go (p (x ∷ t)) (kept-rising n p t (omega arith))
    where
      above : (j : ℕ) → Memᴰ j (map (λ v. n - length v) (keep p (suffixes t))) → n - length (x ∷ t) < j
      above j m =
          let r = Memᴰ.of_map (λ (v : Word). n - length v) (keep p (suffixes t)) m in
          let k = both_true (member r.0 (suffixes t)) (p r.0) (sym (member-keep r.0 p (suffixes t)) ∙ member_is r.1) in
          omega (arith, r.2, suffix-length (suffixes-true r.0 t k.0).1)

      go : (b : Bool) → Rising (map (λ v. n - length v) (keep p (suffixes t)))
          → Rising (map (λ v. n - length v) (cond b ((x ∷ t) ∷ keep p (suffixes t)) (keep p (suffixes t))))
      go true ih = (above, ih)
      go false ih = ih

  pub starts-rising : (t : Word) → Rising (starts σ t)
  unfolding starts
  starts-rising t = kept-rising (length t) (is_palindrome σ) t (omega arith)

  -- the last letter alone is a palindrome, so there is one
  pub starts-some : ((c : ℕ) → σ c ≡ c) → (t : Word) → (t ≡ [] → ⊥) → (k : ℕ) × (ks : List ℕ) × (starts σ t ≡ k ∷ ks)
  starts-some own t n = ⊎_elim (λ e. absurd (n e)) (λ r. go (starts σ t) refl (letter r.0 r.1 r.2)) (by_last t)
    where
      letter : (u : Word) (c : ℕ) → t ≡ u ++ (c ∷ []) → Memᴰ (length u) (starts σ t)
      letter u c e =
          starts_is (c ∷ []) t (record { non-empty = cons-ne-nil c []; symmetric = letter-symmetric σ c (own c) }) (record { before = u; whole = sym e })

      go : {j : ℕ} (l : List ℕ) → starts σ t ≡ l → Memᴰ j (starts σ t) → (k : ℕ) × (ks : List ℕ) × (starts σ t ≡ k ∷ ks)
      go [] e m = absurd (Memᴰ.not-nil (rw e at m))
      go (k ∷ ks) e m = (k, ks, e)

  -- nor is the longest of them empty
  pub longest-some : ((c : ℕ) → σ c ≡ c) → (t : Word) → (t ≡ [] → ⊥) → longest_suffix σ t ≡ [] → ⊥
  longest-some own t n e =
      ⊎_elim
      (λ z. n z)
      (λ r.
      let a : Suffix (r.1 ∷ []) t = record { before = r.0; whole = sym r.2 } in
      omega (arith, suffix-length ((longest-suffix σ t).most (r.1 ∷ []) (letter-symmetric σ r.1 (own r.1)) a), ap length e))
      (by_last t)

  -- whatever the numbers, the last factor begins before the end
  pub start-below : (known : List ℕ) (t : Word) → (t ≡ [] → ⊥) → last_start σ known t < length t
  unfolding last_start choice
  start-below known t n = go (starts σ t) refl
    where
      go : (l : List ℕ) → starts σ t ≡ l → choice (λ p. get_or known p 0) l < length t
      go [] e = some-letters t n
      go (k ∷ ks) e = starts-below (choice (λ p. get_or known p 0) (k ∷ ks)) t (rw e (choice-in (λ p. get_or known p 0) k ks))
