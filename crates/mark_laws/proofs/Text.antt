-- The text of a sheet's lines: words without a tab or LF (`Clear`) are parts by themselves; a number is written in one way (`number_small`); a line of
-- the list is read back (`bed-first`), and one whose digits are no number makes that there is no sheet (`no_line`). Rests on the laws of decimal digits.
use Prim.Native.Nat.{ℕ, ◌+◌, ◌/◌, ◌≤◌, ◌<◌}
use native.Mathlib.Omega.{arith}
use native.Mathlib.Decide.{dec_lt}
use mathlib.Core.Path.{◌≡◌, refl, sym, ap, ◌∙◌, subst}
use mathlib.Core.Bool.{true, false, ◌&&◌, not}
use mathlib.Core.Logic.{⊎_elim}
use mathlib.Core.List.Memᴰ
use mathlib.Core.List.{List, [], ◌∷◌, ◌++◌, append_assoc, cons-ne-nil, Memᴰ}
use mathlib.Core.Option.{Option, none, some}
use lib.Dec.{eqb, leb}
use lib.ListN.{length}
use borrow.Author.Tests.{eqb-true, leb-true, le-leb, eq-eqb, ne_eqb, not-true}
use Rattle.palindromes.specs.Word.{Word}
use Rattle.palindromes.specs.Bed.{is_identifier_byte, all_identifier_bytes, is_identifier, decimal, bed_line}
use Rattle.palindromes.specs.Digits.{value}
use Rattle.palindromes.specs.Sheet.{in_first, split, all_digits, needless_zero, is_number, Line, line_of, with_line, lines_of, sheet_lines}
use Rattle.palindromes.proofs.Tests.{both_true, both-are, not-true-false, false-not-true}
use Rattle.decimal.proofs.Decimal.{length_more, some-digit, digits-below, digit-bytes, value-decimal, no-leading-zero}
use Rattle.bed_reader.proofs.Fields.{split-some}
use Rattle.mark_laws.specs.Slip.{field_line}
use Rattle.mark_laws.proofs.Canonical.{canonical}

-- ---- words without a byte

abbrev Clear : ℕ → Word → Type 0
Clear c w = (b : ℕ) → Memᴰ b w → b ≡ c → ⊥

split-clear : (c : ℕ) (w t : Word) → Clear c w → split c (w ++ c ∷ t) ≡ w ∷ split c t
unfolding split in_first
split-clear c [] t h = rw (eq-eqb c c refl)
split-clear c (b ∷ w) t h = rw (ne_eqb b c (h b (Memᴰ.head refl)), split-clear c w t (λ x m. h x (Memᴰ.tail m)))

split-alone : (c : ℕ) (w : Word) → Clear c w → split c w ≡ w ∷ []
unfolding split in_first
split-alone c [] h = refl
split-alone c (b ∷ w) h = rw (ne_eqb b c (h b (Memᴰ.head refl)), split-alone c w (λ x m. h x (Memᴰ.tail m)))

clear-append : {c : ℕ} (u v : Word) → Clear c u → Clear c v → Clear c (u ++ v)
clear-append u v g h b m = ⊎_elim (g b) (h b) (Memᴰ.append_cases u m)

clear-cons : {c : ℕ} (x : ℕ) (w : Word) → (x ≡ c → ⊥) → Clear c w → Clear c (x ∷ w)
clear-cons x w g h b (Memᴰ.head e) f = g (sym e ∙ f)
clear-cons x w g h b (Memᴰ.tail m) f = h b m f

-- digits, and the bytes of an identifier
digits-clear : (w : Word) (c : ℕ) → all_digits w ≡ true → c < 48 → Clear c w
unfolding all_digits
digits-clear [] c p h b m f = elim m [ ]
digits-clear (x ∷ v) c p h b (Memᴰ.head e) f =
    omega (arith, leb-true 48 x (both_true (leb 48 x) (leb x 57) (both_true (leb 48 x && leb x 57) (all_digits v) p).0).0)
digits-clear (x ∷ v) c p h b (Memᴰ.tail m) f =
    digits-clear v c (both_true (leb 48 x && leb x 57) (all_digits v) p).1 h b m f

name-bytes : (w : Word) → all_identifier_bytes w ≡ true → (b : ℕ) → Memᴰ b w → is_identifier_byte b ≡ true
unfolding all_identifier_bytes
name-bytes [] h b m = elim m [ ]
name-bytes (x ∷ v) h b (Memᴰ.head e) = rw e (both_true (is_identifier_byte x) (all_identifier_bytes v) h).0
name-bytes (x ∷ v) h b (Memᴰ.tail m) =
    name-bytes v (both_true (is_identifier_byte x) (all_identifier_bytes v) h).1 b m

name-clear : (name : Word) (c : ℕ) → is_identifier name ≡ true → is_identifier_byte c ≡ false → Clear c name
unfolding is_identifier
name-clear name c h n b m e =
    let each = (both_true (leb 1 (length name) && leb (length name) 32) (all_identifier_bytes name) h).1 in
    false-not-true n (subst (λ (x : ℕ). is_identifier_byte x ≡ true) e (name-bytes name each b m))

-- ---- numbers

all_digits_lem : (w : Word) → ((b : ℕ) → Memᴰ b w → (48 ≤ b) × (b ≤ 57)) → all_digits w ≡ true
unfolding all_digits
all_digits_lem [] h = refl
all_digits_lem (b ∷ w) h =
    let d = h b (Memᴰ.head refl) in
    let here = both-are (leb 48 b) (leb b 57) (le-leb 48 b d.0) (le-leb b 57 d.1) in
    both-are (leb 48 b && leb b 57) (all_digits w) here (all_digits_lem w (λ x m. h x (Memᴰ.tail m)))

pub decimal-digits : (n : ℕ) → all_digits (decimal n) ≡ true
decimal-digits n = all_digits_lem (decimal n) (digit-bytes n)

no-needless : (n : ℕ) → needless_zero (decimal n) ≡ false
unfolding needless_zero
no-needless n = go (decimal n) refl
  where
    go : (w : Word) → decimal n ≡ w → needless_zero w ≡ false
    go [] e = refl
    go (b ∷ []) e = refl
    go (b ∷ d ∷ w) e =
        not-true-false (eqb b 48)
        λ t. cons-ne-nil d w (no-leading-zero n (d ∷ w) (e ∙ ap (λ (x : ℕ). x ∷ d ∷ w) (eqb-true b 48 t))).1

decimal-number : (n : ℕ) → n < 10000 → is_number (decimal n) ≡ true
unfolding is_number
decimal-number n h =
    let low = le-leb 1 (length (decimal n)) (some-digit n) in
    let high = le-leb (length (decimal n)) 4 (digits-below 3 n (omega arith)) in
    simp (low, high, decimal-digits n, no-needless n)

-- what a number is made of
number-parts : (w : Word) → is_number w ≡ true → ((0 < length w) × (length w ≤ 4)) × ((all_digits w ≡ true) × (needless_zero w ≡ false))
unfolding is_number
number-parts w h =
    let x = both_true (leb 1 (length w) && leb (length w) 4 && all_digits w) (not (needless_zero w)) h in
    let y = both_true (leb 1 (length w) && leb (length w) 4) (all_digits w) x.0 in
    let z = both_true (leb 1 (length w)) (leb (length w) 4) y.0 in
    let low = leb-true 1 (length w) z.0 in
    ((omega arith, leb-true (length w) 4 z.1), (y.1, not-true (needless_zero w) x.1))

-- four digits say less than 10,000
decimal-small : (n : ℕ) → length (decimal n) ≤ 4 → n < 10000
decimal-small n h = go (dec_lt n 10000)
  where
    tenth : (k : ℕ) → 10 ≤ k → length (decimal k) ≡ length (decimal (k / 10)) + 1
    tenth k g = length_more k g

    go : Dec (n < 10000) → n < 10000
    go (yes g) = g
    go (no g) =
        let a = tenth n (omega arith) in
        let b = tenth (n / 10) (omega arith) in
        let c = tenth (n / 10 / 10) (omega arith) in
        let d = tenth (n / 10 / 10 / 10) (omega arith) in
        absurd (omega (arith, a, b, c, d, some-digit (n / 10 / 10 / 10 / 10)))

-- a number is the decimal digits of what it says, which is below 10,000
pub number_small : (w : Word) → is_number w ≡ true → (decimal (value w) ≡ w) × (value w < 10000)
number_small w h =
    let d = number-parts w h in
    let c = canonical w d.1.0 d.1.1 d.0.0 in
    (c, decimal-small (value w) (omega (arith, ap length c, d.0.1)))

-- ---- a line

abbrev pub line_at : Word → ℕ → ℕ → Line
line_at name start end = record { name = name; start = start; end = end }

module _ (name : Word) (h : is_identifier name ≡ true) where
  -- the line before its LF
  abbrev text : Word → Word → Word
  text u v = name ++ (9 ∷ u) ++ (9 ∷ v)

  text-clear : (u v : Word) → all_digits u ≡ true → all_digits v ≡ true → Clear 10 (text u v)
  text-clear u v p q =
      clear-append (name ++ (9 ∷ u)) (9 ∷ v)
      (clear-append name (9 ∷ u) (name-clear name 10 h not-lf) (clear-cons 9 u (λ e. omega arith) (digits-clear u 10 p (omega arith))))
      (clear-cons 9 v (λ e. omega arith) (digits-clear v 10 q (omega arith)))
    where
      not-lf : is_identifier_byte 10 ≡ false
      not-lf = unfold is_identifier_byte in refl

  text-fields : (u v : Word) → all_digits u ≡ true → all_digits v ≡ true → split 9 (text u v) ≡ name ∷ u ∷ v ∷ []
  text-fields u v p q =
      ap (split 9) (append_assoc name (9 ∷ u) (9 ∷ v))
      ∙ split-clear 9 name (u ++ 9 ∷ v) (name-clear name 9 h not-tab)
      ∙ ap (λ (ws : List Word). name ∷ ws) (split-clear 9 u v (digits-clear u 9 p (omega arith)) ∙ ap (λ (ws : List Word). u ∷ ws) last)
    where
      last : split 9 v ≡ v ∷ []
      last = split-alone 9 v (digits-clear v 9 q (omega arith))

      not-tab : is_identifier_byte 9 ≡ false
      not-tab = unfold is_identifier_byte in refl

  text-line : (start end : ℕ) → start < 10000 → end < 10000
      → line_of (split 9 (text (decimal start) (decimal end))) ≡ some (line_at name start end)
  unfolding line_of
  text-line start end p q =
      let fields = text-fields (decimal start) (decimal end) (decimal-digits start) (decimal-digits end) in
      rw (fields, decimal-number start p, decimal-number end q, value-decimal start, value-decimal end)

  -- a field of digits that is no number
  text-none : (u v : Word) → all_digits u ≡ true → all_digits v ≡ true → (is_number u && is_number v) ≡ false
      → line_of (split 9 (text u v)) ≡ none
  unfolding line_of
  text-none u v p q e = rw (text-fields u v p q, e)

  -- a line in front, whatever its two fields of digits
  text-first : (u v rest : Word) → all_digits u ≡ true → all_digits v ≡ true
      → sheet_lines (field_line name u v ++ rest) ≡ with_line (line_of (split 9 (text u v))) (sheet_lines rest)
  unfolding sheet_lines lines_of
  text-first u v rest p q =
      let r = split-some 10 rest in
      rw (append_assoc (text u v) (10 ∷ []) rest, split-clear 10 (text u v) rest (text-clear u v p q), r.2) refl

  pub no_line : (u v rest : Word) → all_digits u ≡ true → all_digits v ≡ true → (is_number u && is_number v) ≡ false
      → sheet_lines (field_line name u v ++ rest) ≡ none
  unfolding with_line
  no_line u v rest p q e =
      text-first u v rest p q ∙ ap (λ (o : Option Line). with_line o (sheet_lines rest)) (text-none u v p q e)

  -- a line of the list in front
  pub bed-first : (start end : ℕ) (rest : Word) → start < 10000 → end < 10000
      → sheet_lines (bed_line name start end ++ rest) ≡ with_line (some (line_at name start end)) (sheet_lines rest)
  unfolding bed_line
  bed-first start end rest p q =
      text-first (decimal start) (decimal end) rest (decimal-digits start) (decimal-digits end)
      ∙ ap (λ (o : Option Line). with_line o (sheet_lines rest)) (text-line start end p q)
