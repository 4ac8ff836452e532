-- The list of a record's palindromes as BED lines, when the record is read letter by letter from the left: one letter more adds a line exactly if the longest
-- palindrome at its end did not stand before, and that line ends there; no line written before changes. So one walk from left to right writes the whole list.
-- Rests on `palindromes-snoc` of `Palindromes`, on `first-place-append` of `Places` and on `first-end-new` of `Order`; nothing here knows of digits.
use Prim.Native.Nat.{ℕ, suc, ◌+◌, ◌-◌, ◌<◌}
use native.Mathlib.Omega.{arith}
use mathlib.Core.Path.{◌≡◌, refl, ap}
use mathlib.Core.Bool.{Bool, true, false, cond}
use mathlib.Core.List.{List, [], ◌∷◌, ◌++◌, append_assoc, append-nil}
use lib.ListN.{length, take, get_or}
use lib.Seq.{take-suc, length-take-le}
use Rattle.palindromes.specs.Word.{Word, member}
use Rattle.palindromes.specs.Place.{Stands, stands, first_place}
use Rattle.palindromes.specs.Record.{palindromes, longest_suffix}
use Rattle.palindromes.specs.Bed.{bed_line, bed_lines, listing}
use Rattle.palindromes.proofs.Words.{suffix-stands}
use Rattle.palindromes.proofs.Longest.{longest-suffix}
use Rattle.palindromes.proofs.Lists.{member-first, member-later}
use Rattle.palindromes.proofs.Places.{stands-false, first-place-append}
use Rattle.palindromes.proofs.Palindromes.{fresh, palindromes-true, palindromes-empty, palindromes-snoc}
use Rattle.palindromes.proofs.Order.{first-end-new}

-- ---- lines

-- the lines of two joined lists are their lines joined
pub bed-lines-append : (name s : Word) (a b : List Word) → bed_lines name s (a ++ b) ≡ bed_lines name s a ++ bed_lines name s b
unfolding bed_lines
bed-lines-append name s [] b = refl
bed-lines-append name s (w ∷ a) b =
    cc (bed-lines-append name s a b, append_assoc (bed_line name (first_place w s) (first_place w s + length w)) (bed_lines name s a) (bed_lines name s b))

-- letters more at the right end change no line of a word that stood before
pub bed-lines-prefix : (name p q : Word) (l : List Word) → ((w : Word) → member w l ≡ true → Stands w p) → bed_lines name (p ++ q) l ≡ bed_lines name p l
unfolding bed_lines
bed-lines-prefix name p q [] h = refl
bed-lines-prefix name p q (w ∷ l) h =
    cc (first-place-append w p q (h w (member-first w l)), bed-lines-prefix name p q l λ v m. h v (member-later v w l m))

-- ---- the list

-- a word that ends a record and did not stand before the last letter came has its first place at the end
pub new-first-place : (w p : Word) (c : ℕ) → Stands w (p ++ (c ∷ [])) → (Stands w p → ⊥) → first_place w (p ++ (c ∷ [])) ≡ suc (length p) - length w
new-first-place w p c h n = omega (arith, first-end-new w p c h n)

module _ (σ : ℕ → ℕ) (name : Word) where
  -- the empty record has no line
  pub listing-empty : listing σ name [] ≡ []
  unfolding listing bed_lines
  listing-empty = ap (bed_lines name []) (palindromes-empty σ)

  -- one letter more adds the line of the longest palindrome at the end, where it did not stand before, and changes nothing else
  pub listing-snoc : (p : Word) (c : ℕ)
      → listing σ name (p ++ (c ∷ [])) ≡ listing σ name p ++ cond (stands (longest_suffix σ (p ++ (c ∷ []))) p) [] (bed_line name (suc (length p) - length (longest_suffix σ (p ++ (c ∷ [])))) (suc (length p)))
  unfolding listing bed_lines fresh
  listing-snoc p c = cc (palindromes-snoc σ p c, bed-lines-append name t (palindromes σ p) (fresh v p), old, new (stands v p) refl)
    where
      t : Word
      t = p ++ (c ∷ [])

      v : Word
      v = longest_suffix σ t

      old : bed_lines name t (palindromes σ p) ≡ bed_lines name p (palindromes σ p)
      old = bed-lines-prefix name p (c ∷ []) (palindromes σ p) λ w m. (palindromes-true σ w p m).1

      new : (b : Bool) → stands v p ≡ b → bed_lines name t (cond b [] (v ∷ [])) ≡ cond b [] (bed_line name (suc (length p) - length v) (suc (length p)))
      new true e = refl
      new false e =
          let h : Stands v t = suffix-stands (longest-suffix σ t).suffix in
          cc (new-first-place v p c h (stands-false v p e), first-end-new v p c h (stands-false v p e), append-nil (bed_line name (first_place v t) (first_place v t + length v)))

  -- the same, the number of a prefix's letters being its name
  pub prefix-listing : (s : Word) (k : ℕ) → k < length s
      → listing σ name (take (suc k) s) ≡ listing σ name (take k s) ++ cond (stands (longest_suffix σ (take (suc k) s)) (take k s)) [] (bed_line name (suc k - length (longest_suffix σ (take (suc k) s))) (suc k))
  prefix-listing s k h =
      let e : length (take k s) ≡ k = length-take-le k s (omega arith) in
      cc (take-suc s k 0 h, listing-snoc (take k s) (get_or s k 0))
