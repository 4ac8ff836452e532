-- What is asked of the partner rules, of either reading: each undoes itself, the partner of a byte is a byte, and that of a letter a letter. What is so of inverted records alone: no
-- letter is its own partner, so that the middle letter of an odd piece disagrees with itself, a repeat has an even length and no single letter is one. Where the middle letter agrees, in plain records. And that no word is a repeat in
-- both readings. Rests on the four letters (`Letters`) and on the pairs of a word (`Mismatch`).
use Prim.Native.Nat.{ℕ, suc, ◌+◌, ◌-◌, ◌/◌, ◌%◌, ◌≤◌, ◌<◌}
use native.Mathlib.Decide.{dec_lt}
use native.Mathlib.Omega.{arith}
use mathlib.Core.Path.{◌≡◌, refl, sym, ap, ◌∙◌}
use mathlib.Core.Bool.{Bool, true, false, cond}
use mathlib.Core.List.{[], ◌∷◌}
use lib.Dec.{eqb}
use lib.ListN.{length, get_or}
use borrow.Author.Tests.{eqb-true, eqb-false}
use Rattle.palindromes.specs.Word.{Word, is_letter, all_letters}
use Rattle.palindromes.specs.Palindrome.{SelfInverse, plain, Symmetric, first_mismatch}
use Rattle.palindromes.specs.Mismatch.{Agrees, Mismatch, all-agree, first-at}
use Rattle.palindromes.specs.Reading.{Reading, as_plain, as_inverted, complement, reading_number, rule_in}
use Rattle.palindromes.proofs.Letters.{letter-cases, letter-of}
use Rattle.palindromes.proofs.Mismatch.{symmetric-agrees, mismatch-pairs}

-- ---- the two rules

-- 02 (vi) "every byte's partner has that byte as its partner"
pub complement-inverse : SelfInverse complement
unfolding complement
complement-inverse x = of (eqb x 65) (eqb x 84) (eqb x 67) (eqb x 71) refl refl refl refl
  where
    of : (s t u v : Bool) → eqb x 65 ≡ s → eqb x 84 ≡ t → eqb x 67 ≡ u → eqb x 71 ≡ v → complement (cond s 84 (cond t 65 (cond u 71 (cond v 67 x)))) ≡ x
    of true t u v e e₁ e₂ e₃ = sym (eqb-true x 65 e)
    of false true u v e e₁ e₂ e₃ = sym (eqb-true x 84 e₁)
    of false false true v e e₁ e₂ e₃ = sym (eqb-true x 67 e₂)
    of false false false true e e₁ e₂ e₃ = sym (eqb-true x 71 e₃)
    of false false false false e e₁ e₂ e₃ = cc (e, e₁, e₂, e₃)

-- the rule of each reading, by its number
pub rule-plain : (m : ℕ) → eqb m 1 ≡ false → (x : ℕ) → rule_in m x ≡ x
unfolding rule_in
rule-plain m e x = ap (λ (t : Bool). cond t (complement x) x) e

pub rule-inverted : (m : ℕ) → eqb m 1 ≡ true → (x : ℕ) → rule_in m x ≡ complement x
unfolding rule_in
rule-inverted m e x = ap (λ (t : Bool). cond t (complement x) x) e

-- so that of a plain record is the plain rule
pub rule-of-plain : rule_in 0 ≡ plain
unfolding rule_in
rule-of-plain = refl

-- so the rule of either reading undoes itself
pub rule-inverse : (m : ℕ) → SelfInverse (rule_in m)
unfolding rule_in
rule-inverse m x = of (eqb m 1)
  where
    of : (t : Bool) → cond t (complement (cond t (complement x) x)) (cond t (complement x) x) ≡ x
    of true = complement-inverse x
    of false = refl

-- the partner of a byte is a byte
pub rule-byte : (m x : ℕ) → x < 256 → rule_in m x < 256
unfolding rule_in complement
rule-byte m x h = of (eqb m 1) (eqb x 65) (eqb x 84) (eqb x 67) (eqb x 71)
  where
    of : (r s t u v : Bool) → cond r (cond s 84 (cond t 65 (cond u 71 (cond v 67 x)))) x < 256
    of true true t u v = omega arith
    of true false true u v = omega arith
    of true false false true v = omega arith
    of true false false false true = omega arith
    of true false false false false = h
    of false s t u v = h

-- and the partner of a letter is a letter, so that a record is one of letters from both ends
pub rule-letter : (m c : ℕ) → is_letter c ≡ true → is_letter (rule_in m c) ≡ true
unfolding rule_in is_letter complement
rule-letter m c h = of (eqb m 1)
  where
    of : (t : Bool) → is_letter (cond t (complement c) c) ≡ true
    of true = letter-cases (λ (x : ℕ). is_letter (complement x) ≡ true) refl refl refl refl c h
    of false = h

-- a reading's number is 0 or 1
pub number-below : (r : Reading) → reading_number r < 2
unfolding reading_number
number-below as_plain = omega arith
number-below as_inverted = omega arith

-- ---- inverted records

-- no letter is its own partner
no-letter-alone : (m c : ℕ) → eqb m 1 ≡ true → is_letter c ≡ true → rule_in m c ≡ c → ⊥
unfolding complement
no-letter-alone m c e h f = letter-cases (λ (x : ℕ). complement x ≡ x → ⊥) (λ g. omega arith) (λ g. omega arith) (λ g. omega arith) (λ g. omega arith) c h (sym (rule-inverted m e c) ∙ f)

-- the middle letter of an odd piece faces itself: 02 (x) it "is the last pair", and here it disagrees
pub middle-disagrees : (m : ℕ) → eqb m 1 ≡ true → (w : Word) → all_letters w ≡ true → length w % 2 ≡ 1 → Agrees (rule_in m) w (length w / 2) → ⊥
middle-disagrees m e w all odd h =
    let inside : length w / 2 < length w = omega arith in
    let faces : length w - 1 - length w / 2 ≡ length w / 2 = omega arith in
    no-letter-alone m (get_or w (length w / 2) 0) e (letter-of w (length w / 2) inside all) (sym (h ∙ ap (λ (i : ℕ). rule_in m (get_or w i 0)) faces))

-- so every odd piece of letters has a mismatch
pub odd-mismatch : (m : ℕ) → eqb m 1 ≡ true → (w : Word) → all_letters w ≡ true → length w % 2 ≡ 1 → 0 < first_mismatch (rule_in m) w
odd-mismatch m e w all odd = go (first_mismatch (rule_in m) w) (mismatch-pairs (rule_in m) w (rule-inverse m))
  where
    go : (r : ℕ) → Mismatch (rule_in m) w (length w - length w / 2) r → 0 < r
    go r (all-agree f h) = absurd (middle-disagrees m e w all odd (f (length w / 2) (omega arith)))
    go r (first-at k l f d h) = omega arith

-- 02 (vi) "its repeats have even length"
pub even-length : (m : ℕ) → eqb m 1 ≡ true → (w : Word) → all_letters w ≡ true → Symmetric (rule_in m) w → length w % 2 ≡ 0
even-length m e w all h = go (dec_lt (length w / 2 + length w / 2) (length w))
  where
    go : Dec (length w / 2 + length w / 2 < length w) → length w % 2 ≡ 0
    go (no l) = omega arith
    go (yes l) = absurd (middle-disagrees m e w all (omega arith) (symmetric-agrees (rule_in m) w h (length w / 2) (omega arith)))

-- ---- plain records

-- there the middle letter agrees with itself
pub middle-agrees : (w : Word) → length w % 2 ≡ 1 → Agrees plain w (length w / 2)
middle-agrees w odd =
    let faces : length w - 1 - length w / 2 ≡ length w / 2 = omega arith in
    ap (λ (i : ℕ). get_or w i 0) (sym faces)

-- so a mismatch lies before it, and is at most half the length
pub plain-pairs : (w : Word) → first_mismatch plain w ≤ length w / 2
plain-pairs w = go (first_mismatch plain w) (mismatch-pairs plain w (λ x. refl))
  where
    go : (r : ℕ) → Mismatch plain w (length w - length w / 2) r → r ≤ length w / 2
    go r (all-agree f e) = omega arith
    go r (first-at k l f d e) = within (dec_lt k (length w / 2))
      where
        within : Dec (k < length w / 2) → r ≤ length w / 2
        within (yes h) = omega arith
        within (no h) = let middle : k ≡ length w / 2 = omega arith in absurd (d (rw middle (middle-agrees w (omega arith))))

-- ---- both readings

-- 02 (vii): no word of letters is a repeat in both readings, for its first letter would be its own partner
pub one-reading : (m n : ℕ) → m < 2 → n < 2 → (m ≡ n → ⊥) → (w : Word) → (w ≡ [] → ⊥) → all_letters w ≡ true → Symmetric (rule_in m) w → Symmetric (rule_in n) w → ⊥
one-reading m n below below' differ [] some all h h' = some refl
one-reading m n below below' differ (c ∷ w) some all h h' = go (eqb m 1) (eqb n 1) refl refl
  where
    letter : is_letter c ≡ true
    letter = letter-of (c ∷ w) 0 (omega arith) all

    alike : rule_in m c ≡ rule_in n c
    alike =
        let across : suc (length w) - 1 - length w ≡ 0 = omega arith in
        cc (symmetric-agrees (rule_in m) (c ∷ w) h (length w) (omega arith), symmetric-agrees (rule_in n) (c ∷ w) h' (length w) (omega arith))

    go : (s t : Bool) → eqb m 1 ≡ s → eqb n 1 ≡ t → ⊥
    go true true e f = differ (eqb-true m 1 e ∙ sym (eqb-true n 1 f))
    go true false e f = no-letter-alone m c e letter (alike ∙ rule-plain n f c)
    go false true e f = no-letter-alone n c f letter (sym alike ∙ rule-plain m e c)
    go false false e f = differ (omega (arith, eqb-false m 1 e, eqb-false n 1 f))
