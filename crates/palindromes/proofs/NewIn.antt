-- What a change brings in and takes out: the members of `new_in σ s t` are the palindromes of t that do not stand in s. An addition at either end brings in
-- the longest palindrome at that end, where it is fresh, and takes nothing out; a removal takes out the longest that was there, where it stands nowhere else, and brings
-- nothing in; the count goes by one or stays. Rests on proofs/Palindromes.antt, and on `new-is-longest` and `gone-is-longest` of proofs/Change.antt.
use Prim.Native.Nat.{ℕ, ◌+◌}
use native.Mathlib.Omega.{arith}
use mathlib.Core.Path.{◌≡◌, ap}
use mathlib.Core.Bool.{true, false, not, cond, and_comm}
use mathlib.Core.Logic.{◌⊎◌, ⊎_elim}
use mathlib.Core.List.{List, []}
use lib.ListN.{length}
use borrow.Author.Tests.{not-true}
use Rattle.palindromes.specs.Word.{Word, member, keep}
use Rattle.palindromes.specs.Palindrome.{SelfInverse, mirror, Symmetric, Palindrome}
use Rattle.palindromes.specs.Place.{Stands, stands}
use Rattle.palindromes.specs.Record.{palindromes, count}
use Rattle.palindromes.specs.End.{End, at_left, at_right, added, removed, longest_at, new_in}
use Rattle.palindromes.proofs.Tests.{both_true, both-are, not-true-false, false-not-true}
use Rattle.palindromes.proofs.Words.{suffix-stands}
use Rattle.palindromes.proofs.Mirror.{stands-in-mirror}
use Rattle.palindromes.proofs.Longest.{longest-suffix, longest-prefix}
use Rattle.palindromes.proofs.Change.{stands-added, stands-removed, new-is-longest, gone-is-longest}
use Rattle.palindromes.proofs.Lists.{Once, keep-none, member-keep, length-keep-not, once-keep, once-same-length}
use Rattle.palindromes.proofs.Places.{stands-empty}
use Rattle.palindromes.proofs.Palindromes.{fresh, fresh-length, only-fresh, palindromes-true, palindromes-is, palindromes-once}

module _ (σ : ℕ → ℕ) where
  -- ---- members

  -- what is new in t is a palindrome of t that does not stand in s
  pub new-in-true : (w s t : Word) → member w (new_in σ s t) ≡ true → Palindrome σ w × Stands w t × (Stands w s → ⊥)
  unfolding new_in
  new-in-true w s t m =
      let h = both_true (member w (palindromes σ t)) (not (member w (palindromes σ s))) (rw member-keep at m) in
      let p = palindromes-true σ w t h.0 in
      (p.0, p.1, λ q. false-not-true (not-true (member w (palindromes σ s)) h.1) (palindromes-is σ w s p.0 q))

  -- a palindrome of t that does not stand in s is new in t
  pub new-in-is : (w s t : Word) → Palindrome σ w → Stands w t → (Stands w s → ⊥) → member w (new_in σ s t) ≡ true
  unfolding new_in
  new-in-is w s t p q out =
      let old : member w (palindromes σ s) ≡ false = not-true-false (member w (palindromes σ s)) λ m. out (palindromes-true σ w s m).1 in
      rw member-keep (both-are (member w (palindromes σ t)) (not (member w (palindromes σ s))) (palindromes-is σ w t p q) (ap not old))

  -- nothing is new twice
  pub new-in-once : (s t : Word) → Once (new_in σ s t)
  unfolding new_in
  new-in-once s t = once-keep (λ p. not (member p (palindromes σ s))) (palindromes σ t) (palindromes-once σ t)

  -- where all that stands in t stands in s nothing is new
  pub new-in-none : (s t : Word) → ((w : Word) → Stands w t → Stands w s) → new_in σ s t ≡ []
  unfolding new_in
  new-in-none s t h =
      keep-none (λ p. not (member p (palindromes σ s))) (palindromes σ t) λ w m.
      let p = palindromes-true σ w t m in
      ap not (palindromes-is σ w s p.0 (h w p.1))

  -- so an addition takes nothing out
  pub gone-in-added : (e : End) (s : Word) (c : ℕ) → new_in σ (added e c s) s ≡ []
  gone-in-added e s c = new-in-none (added e c s) s λ w p. stands-added e c p

  -- and a removal brings nothing in
  pub new-in-removed : (e : End) (s : Word) → new_in σ s (removed e s) ≡ []
  new-in-removed e s = new-in-none s (removed e s) λ w p. stands-removed e s p

  -- where every palindrome of t is w or stands in s, what is new is w, if it is fresh
  new-in-one : (w s t : Word) → Symmetric σ w → Stands w t → ((v : Word) → Symmetric σ v → Stands v t → (v ≡ w) ⊎ Stands v s) → new_in σ s t ≡ fresh w s
  new-in-one w s t h k only = only-fresh w s (new_in σ s t) (new-in-once s t) sound full
    where
      sound : (v : Word) → member v (new_in σ s t) ≡ true → (v ≡ w) × (Stands v s → ⊥)
      sound v m =
          let p = new-in-true v s t m in
          (⊎_elim (λ e. e) (λ q. absurd (p.2 q)) (only v p.0.symmetric p.1), p.2)

      full : (Stands w s → ⊥) → member w (new_in σ s t) ≡ true
      full out = new-in-is w s t (record { non-empty = λ e. out (rw e (stands-empty s)); symmetric = h }) k out

  -- the palindromes of t are those of s, less what is gone and with what is new
  pub count-new-in : (s t : Word) → count σ t + length (new_in σ t s) ≡ count σ s + length (new_in σ s t)
  unfolding count new_in
  count-new-in s t =
      omega (
        arith,
        length-keep-not (λ p. member p (palindromes σ s)) (palindromes σ t),
        length-keep-not (λ p. member p (palindromes σ t)) (palindromes σ s),
        once-same-length (shared s t) (shared t s) (once-shared s t) (once-shared t s) same,
      )
    where
      shared : Word → Word → List Word
      shared s t = keep (λ p. member p (palindromes σ s)) (palindromes σ t)

      once-shared : (s t : Word) → Once (shared s t)
      once-shared s t = once-keep (λ p. member p (palindromes σ s)) (palindromes σ t) (palindromes-once σ t)

      same : (w : Word) → member w (shared s t) ≡ member w (shared t s)
      same w = cc (member-keep w (λ p. member p (palindromes σ s)) (palindromes σ t), member-keep w (λ p. member p (palindromes σ t)) (palindromes σ s), and_comm (member w (palindromes σ t)) (member w (palindromes σ s)))

module _ (σ : ℕ → ℕ) (inv : SelfInverse σ) where
  -- ---- the longest at an end

  -- the longest palindrome at an end equals its reversal and stands in the record
  pub longest-at : (e : End) (s : Word) → Symmetric σ (longest_at σ e s) × Stands (longest_at σ e s) s
  unfolding longest_at
  longest-at at_right s =
      let l = longest-suffix σ s in
      (l.symmetric, suffix-stands l.suffix)
  longest-at at_left s =
      let l = longest-suffix σ (mirror σ s) in
      rw (longest-prefix σ inv s) (l.symmetric, (stands-in-mirror σ inv l.symmetric).1 (suffix-stands l.suffix))

  -- ---- one letter more

  -- an addition brings in the longest palindrome at that end, where it is fresh
  pub new-in-added : (e : End) (s : Word) (c : ℕ) → new_in σ s (added e c s) ≡ fresh (longest_at σ e (added e c s)) s
  new-in-added e s c =
      let l = longest-at e (added e c s) in
      new-in-one σ (longest_at σ e (added e c s)) s (added e c s) l.0 l.1 λ v h p. new-is-longest σ inv e s v c h p

  -- and raises the count by one then, by nothing otherwise
  pub count-added : (e : End) (s : Word) (c : ℕ) → count σ (added e c s) ≡ count σ s + cond (stands (longest_at σ e (added e c s)) s) 0 1
  count-added e s c =
      omega (
        arith,
        count-new-in σ s (added e c s),
        ap length (gone-in-added σ e s c),
        ap length (new-in-added e s c),
        fresh-length (longest_at σ e (added e c s)) s,
      )

  -- ---- one letter less

  -- a removal takes out the longest palindrome at that end, where it stands nowhere else
  pub gone-in-removed : (e : End) (s : Word) → new_in σ (removed e s) s ≡ fresh (longest_at σ e s) (removed e s)
  gone-in-removed e s =
      let l = longest-at e s in
      new-in-one σ (longest_at σ e s) (removed e s) s l.0 l.1 λ v h p. gone-is-longest σ inv e s v h p

  -- and lowers the count by one then, by nothing otherwise
  pub count-removed : (e : End) (s : Word) → count σ s ≡ count σ (removed e s) + cond (stands (longest_at σ e s) (removed e s)) 0 1
  count-removed e s =
      omega (
        arith,
        count-new-in σ s (removed e s),
        ap length (gone-in-removed e s),
        ap length (new-in-removed σ e s),
        fresh-length (longest_at σ e s) (removed e s),
      )
