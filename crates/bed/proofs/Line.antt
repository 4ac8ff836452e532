-- A BED line can be read back: no other identifier, start and end have the same line, whatever follows it. An identifier holds no tab, and the digits
-- of a number neither a tab nor an LF, so each field ends at the first byte that cannot stand in it.
-- Rests on the laws of `decimal`, that digits are digits and say their number. Assumes nothing.
use Prim.Native.Nat.{ℕ, ◌+◌, ◌<◌}
use native.Mathlib.Omega.{arith}
use mathlib.Core.Path.{◌≡◌, refl, sym, ap, ◌∙◌}
use mathlib.Core.Bool.{true, ◌&&◌}
use mathlib.Core.List.{[], ◌∷◌, ◌++◌, append_assoc, head-eq_of_cons-eq, tail-eq_of_cons-eq, Memᴰ}
use lib.Dec.{leb}
use lib.ListN.{length, length-append}
use Rattle.palindromes.specs.Word.{Word}
use Rattle.palindromes.specs.Bed.{is_identifier_byte, all_identifier_bytes, is_identifier, decimal, bed_line}
use Rattle.palindromes.proofs.Tests.{both_true, false-not-true}
use Rattle.decimal.proofs.Decimal.{digit-bytes, decimal_injective}

-- two words that are cut at the first place of a byte are cut alike
pub first-cut : (c : ℕ) (u v x y : Word) → (Memᴰ c u → ⊥) → (Memᴰ c v → ⊥) → u ++ (c ∷ x) ≡ v ++ (c ∷ y) → (u ≡ v) × (x ≡ y)
first-cut c [] [] x y p q e = (refl, tail-eq_of_cons-eq e)
first-cut c [] (b ∷ v) x y p q e = absurd (q (Memᴰ.head (head-eq_of_cons-eq e)))
first-cut c (a ∷ u) [] x y p q e = absurd (p (Memᴰ.head (sym (head-eq_of_cons-eq e))))
first-cut c (a ∷ u) (b ∷ v) x y p q e =
    let r = first-cut c u v x y (λ m. p (Memᴰ.tail m)) (λ m. q (Memᴰ.tail m)) (tail-eq_of_cons-eq e) in
    (cc (head-eq_of_cons-eq e, r.0), r.1)

-- every byte of an identifier may stand in one
pub identifier-bytes : {b : ℕ} {w : Word} → Memᴰ b w → all_identifier_bytes w ≡ true → is_identifier_byte b ≡ true
unfolding all_identifier_bytes
identifier-bytes (Memᴰ.head {x = a} {xs = w} e) h = ap is_identifier_byte e ∙ (both_true (is_identifier_byte a) (all_identifier_bytes w) h).0
identifier-bytes (Memᴰ.tail {x = a} {xs = w} m) h = identifier-bytes m (both_true (is_identifier_byte a) (all_identifier_bytes w) h).1

-- the tab cannot stand in one
no-tab : (w : Word) → is_identifier w ≡ true → Memᴰ 9 w → ⊥
unfolding is_identifier is_identifier_byte
no-tab w h m = false-not-true refl (identifier-bytes m (both_true (leb 1 (length w) && leb (length w) 32) (all_identifier_bytes w) h).1)

-- and no byte below 48 among digits
no_digit : (c : ℕ) → c < 48 → (n : ℕ) → Memᴰ c (decimal n) → ⊥
no_digit c h n m = let d = digit-bytes n c m in omega arith

-- the line's fields, bracketed from the right, in front of any text
pub line-fields : (name : Word) (a b : ℕ) (rest : Word) → bed_line name a b ++ rest ≡ name ++ (9 ∷ (decimal a ++ (9 ∷ (decimal b ++ (10 ∷ rest)))))
unfolding bed_line
line-fields name a b rest = simp append_assoc

-- the first line of a text decides its identifier, start and end, and the text behind it
pub first-line : (name name' : Word) (a b a' b' : ℕ) (rest rest' : Word) → is_identifier name ≡ true → is_identifier name' ≡ true
    → bed_line name a b ++ rest ≡ bed_line name' a' b' ++ rest' → (name ≡ name') × (a ≡ a') × (b ≡ b') × (rest ≡ rest')
first-line name name' a b a' b' rest rest' h h' e =
    let tab : (n : ℕ) → Memᴰ 9 (decimal n) → ⊥ = no_digit 9 (omega arith) in
    let lf : (n : ℕ) → Memᴰ 10 (decimal n) → ⊥ = no_digit 10 (omega arith) in
    let whole = sym (line-fields name a b rest) ∙ e ∙ line-fields name' a' b' rest' in
    let first = first-cut 9 name name' _ _ (no-tab name h) (no-tab name' h') whole in
    let second = first-cut 9 (decimal a) (decimal a') _ _ (tab a) (tab a') first.1 in
    let third = first-cut 10 (decimal b) (decimal b') rest rest' (lf b) (lf b') second.1 in
    (first.0, decimal_injective a a' second.0, decimal_injective b b' third.0, third.1)

-- a line can be read back: lines of identifiers are equal only if all three fields are
pub line-injective : (name name' : Word) (a b a' b' : ℕ) → is_identifier name ≡ true → is_identifier name' ≡ true
    → bed_line name a b ≡ bed_line name' a' b' → (name ≡ name') × (a ≡ a') × (b ≡ b')
line-injective name name' a b a' b' h h' e =
    let r = first-line name name' a b a' b' [] [] h h' (ap (λ (l : Word). l ++ []) e) in
    (r.0, r.1, r.2)

-- how long a line is: an identifier, the digits of two numbers, two tabs and an LF
pub line-size : (name : Word) (a b : ℕ) → length (bed_line name a b) ≡ length name + length (decimal a) + length (decimal b) + 3
unfolding bed_line
line-size name a b = simp length-append (omega arith)
