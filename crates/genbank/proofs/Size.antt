-- How long a page is: a full line has 75 columns, and n letters make 10 + n + (n + 9) / 10 + 10 × ((n + 59) / 60) bytes, 1,317 at 1,024 letters. A place has its nine columns
-- while it is below 1,000,000,000.
-- Rests on the laws of cutting a word and on how many digits a number has. Assumes nothing.
use Prim.Native.Nat.{ℕ, suc, ◌+◌, ◌-◌, ◌*◌, ◌/◌, ◌≤◌, ◌<◌}
use native.Mathlib.Omega.{arith}
use mathlib.Core.Path.{◌≡◌, refl, ap, ◌∙◌}
use mathlib.Core.List.{[], ◌∷◌, ◌++◌, map, append_assoc}
use lib.ListN.{length, replicate, take, drop, length-append, length-map, length-drop, length-replicate}
use Rattle.palindromes.specs.Word.{Word}
use Rattle.palindromes.specs.Bed.{decimal}
use Rattle.palindromes.specs.Genbank.{lower, cut, groups, right_justified, origin_line, origin_lines, origin_head, origin_end, genbank}
use Rattle.decimal.proofs.Decimal.{digits-below}
use Rattle.genbank.proofs.Cut.{cut-none, cut-more, by-cut, parts}

-- the first group behind its blank, then the others
pub groups-more : (w : Word) → 0 < length w → groups (cut 10 w) ≡ (32 ∷ map lower (take 10 w)) ++ groups (cut 10 (drop 10 w))
unfolding groups
groups-more w h = rw (cut-more 9 w h) refl

-- a blank for each group, and the letters
pub groups-size : (w : Word) → length (groups (cut 10 w)) ≡ length w + (length w + 9) / 10
groups-size = by-cut 9 (λ w. length (groups (cut 10 w)) ≡ length w + (length w + 9) / 10) (unfold groups in rw (cut-none 10) refl) λ w h ih.
    omega (
      arith,
      ap length (groups-more w h),
      length-append (32 ∷ map lower (take 10 w)) (groups (cut 10 (drop 10 w))),
      length-map (take 10 w) lower,
      ih,
      parts 10 w,
      length-drop 10 w,
    )

-- nine columns for a place
pub place-size : (place : ℕ) → place < 1000000000 → length (right_justified 9 (decimal place)) ≡ 9
unfolding right_justified
place-size place h =
    omega (arith, length-append (replicate (9 - length (decimal place)) 32) (decimal place), length-replicate {A = ℕ} (9 - length (decimal place)) 32, digits-below 8 place h)

-- a line without its LF
pub line-size : (place : ℕ) (w : Word) → place < 1000000000 → length (origin_line place w) ≡ 9 + length w + (length w + 9) / 10
unfolding origin_line
line-size place w h = omega (arith, length-append (right_justified 9 (decimal place)) (groups (cut 10 w)), place-size place h, groups-size w)

-- its place, then its groups, then its LF
pub line-parts : (place : ℕ) (w : Word) → origin_line place w ++ (10 ∷ []) ≡ right_justified 9 (decimal place) ++ (groups (cut 10 w) ++ (10 ∷ []))
unfolding origin_line
line-parts place w = append_assoc (right_justified 9 (decimal place)) (groups (cut 10 w)) (10 ∷ [])

-- 02 (iv) "a full line is 75 columns wide"
pub full-line : (place : ℕ) (w : Word) → place < 1000000000 → length w ≡ 60 → length (origin_line place w) ≡ 75
full-line place w h e = omega (arith, line-size place w h)

-- the lines between the outer two
pub lines_more : (place : ℕ) (w : Word) → 0 < length w → origin_lines place (cut 60 w) ≡ origin_line place (take 60 w) ++ (10 ∷ origin_lines (place + 60) (cut 60 (drop 60 w)))
unfolding origin_lines
lines_more place w h = rw (cut-more 59 w h) refl

-- a line of sixty letters, or the last, is full groups of ten and the groups of the rest; and it is one line
tens : (n t d : ℕ) → t + d ≡ n → d ≡ n - 60 → (t + 9) / 10 + (d + 9) / 10 ≡ (n + 9) / 10
tens n t d e f = omega arith

sixties : (n d : ℕ) → 0 < n → d ≡ n - 60 → (d + 59) / 60 + 1 ≡ (n + 59) / 60
sixties n d h f = omega arith

-- so its length and that of the later lines add up
line-and-lines : (t d a b c l r : ℕ) {n p q x : ℕ} → x ≡ l + suc r → l ≡ 9 + t + a → r ≡ d + b + 10 * c → t + d ≡ n → a + b ≡ p → c + 1 ≡ q → x ≡ n + p + 10 * q
line-and-lines t d a b c l r whole first later letters blanks lines = omega arith

-- a line has nine columns and an LF beside its letters and their blanks
pub lines-size : (w : Word) (place : ℕ) → place + 60 * ((length w + 59) / 60) < 1000000060
    → length (origin_lines place (cut 60 w)) ≡ length w + (length w + 9) / 10 + 10 * ((length w + 59) / 60)
lines-size =
    by-cut 59
    (λ w. (place : ℕ) → place + 60 * ((length w + 59) / 60) < 1000000060 → length (origin_lines place (cut 60 w)) ≡ length w + (length w + 9) / 10 + 10 * ((length w + 59) / 60))
    (λ place h. unfold origin_lines in rw (cut-none 60) refl)
    (λ w h ih place b.
    let line : Word = origin_line place (take 60 w) in
    let later : Word = origin_lines (place + 60) (cut 60 (drop 60 w)) in
    let lines : (length (drop 60 w) + 59) / 60 + 1 ≡ (length w + 59) / 60 = sixties (length w) (length (drop 60 w)) h (length-drop 60 w) in
    line-and-lines _ _ _ _ _ _ _ (ap length (lines_more place w h) ∙ length-append line (10 ∷ later)) (line-size place (take 60 w) (omega arith)) (ih (place + 60) (omega (arith, lines))) (parts 60 w)
    (tens (length w) (length (take 60 w)) (length (drop 60 w)) (parts 60 w) (length-drop 60 w)) lines)

-- the page: seven bytes, then its lines and the last one
pub page-parts : (s : Word) → length (genbank s) ≡ 7 + length (origin_lines 1 (cut 60 s) ++ origin_end)
unfolding genbank origin_head
page-parts s = omega arith

pub page-size : (s : Word) → length s < 999999999 → length (genbank s) ≡ 10 + length s + (length s + 9) / 10 + 10 * ((length s + 59) / 60)
unfolding origin_end
page-size s h = omega (arith, page-parts s, length-append (origin_lines 1 (cut 60 s)) origin_end, lines-size s 1 (omega arith))

-- 1,317 bytes at 1,024 letters, and no more at fewer
pub page-most : (s : Word) → length s ≤ 1024 → length (genbank s) ≤ 1317
page-most s h = omega (arith, page-size s (omega arith))

pub longest-page : (s : Word) → length s ≡ 1024 → length (genbank s) ≡ 1317
longest-page s e = page-size s (omega (arith, e)) ∙ ap (λ (n : ℕ). 10 + n + (n + 9) / 10 + 10 * ((n + 59) / 60)) e
