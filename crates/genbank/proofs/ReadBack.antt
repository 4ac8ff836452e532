-- A page can be read back: its small letters, read as capitals, are the record's letters, so that two records with the same page are equal.
-- Rests on the laws of cutting a word and on those of decimal digits. Assumes nothing.
use Prim.Native.Nat.{ℕ, zero, suc, ◌+◌, ◌-◌, ◌<◌}
use native.Mathlib.Omega.{arith}
use mathlib.Core.Path.{◌≡◌, refl, sym, ap, ◌∙◌}
use mathlib.Core.Bool.{Bool, true, false, cond}
use mathlib.Core.List.{[], ◌∷◌, ◌++◌, map, append-nil, Memᴰ}
use lib.ListN.{length, take, drop, replicate, take-append-drop}
use borrow.Author.Tests.{lt-leb}
use Rattle.palindromes.specs.Word.{Word, is_letter, all_letters}
use Rattle.palindromes.specs.Bed.{decimal}
use Rattle.palindromes.specs.Fasta.{upper}
use Rattle.palindromes.specs.Genbank.{lower, cut, groups, right_justified, origin_line, origin_lines, origin_head, origin_end, genbank}
use Rattle.palindromes.proofs.Tests.{both_true}
use Rattle.palindromes.proofs.Letters.{letter-cases, letters-parts}
use Rattle.decimal.proofs.Decimal.{digit-bytes}
use Rattle.genbank.specs.ReadBack.{is_small, read_back}
use Rattle.genbank.proofs.Cut.{cut-none, by-cut}
use Rattle.genbank.proofs.Size.{groups-more, lines_more}

-- ---- byte by byte

read-append : (u v : Word) → read_back (u ++ v) ≡ read_back u ++ read_back v
unfolding read_back
read-append [] v = refl
read-append (b ∷ u) v = go (read-append u v) (is_small b)
  where
    go : read_back (u ++ v) ≡ read_back u ++ read_back v → (t : Bool) → cond t (upper b ∷ read_back (u ++ v)) (read_back (u ++ v)) ≡ cond t (upper b ∷ read_back u) (read_back u) ++ read_back v
    go e true = ap (λ (w : Word). upper b ∷ w) e
    go e false = e

-- a byte below the small letters is passed over
passed : (b : ℕ) (u : Word) → b < 97 → read_back (b ∷ u) ≡ read_back u
unfolding read_back is_small
passed b u h = rw (lt-leb 97 b h)

-- so are blanks and digits
all-passed : (u : Word) → ((b : ℕ) → Memᴰ b u → b < 97) → read_back u ≡ []
all-passed [] h = unfold read_back in refl
all-passed (b ∷ u) h = passed b u (h b (Memᴰ.head refl)) ∙ all-passed u (λ c m. h c (Memᴰ.tail m))

blanks-passed : (n : ℕ) → read_back (replicate n 32) ≡ []
blanks-passed zero = unfold read_back in refl
blanks-passed (suc n) = passed 32 (replicate n 32) (omega arith) ∙ blanks-passed n

place-passed : (place : ℕ) → read_back (right_justified 9 (decimal place)) ≡ []
unfolding right_justified
place-passed place =
    let blanks : ℕ = 9 - length (decimal place) in
    read-append (replicate blanks 32) (decimal place)
    ∙ ap (λ (w : Word). w ++ read_back (decimal place)) (blanks-passed blanks)
    ∙ all-passed (decimal place) (λ b m. omega (arith, digit-bytes place b m))

-- a letter in lower case is read as the letter
one-letter : (x : ℕ) (u : Word) → is_letter x ≡ true → read_back (lower x ∷ u) ≡ x ∷ read_back u
unfolding read_back is_small lower upper
one-letter x u h = letter-cases (λ y. read_back (lower y ∷ u) ≡ y ∷ read_back u) refl refl refl refl x h

letters-read : (w : Word) → all_letters w ≡ true → read_back (map lower w) ≡ w
unfolding all_letters
letters-read [] h = unfold read_back in refl
letters-read (x ∷ w) h =
    let both = both_true (is_letter x) (all_letters w) h in
    one-letter x (map lower w) both.0 ∙ ap (λ (u : Word). x ∷ u) (letters-read w both.1)

-- ---- groups, lines and the page

groups-read : (w : Word) → all_letters w ≡ true → read_back (groups (cut 10 w)) ≡ w
groups-read = by-cut 9 (λ w. all_letters w ≡ true → read_back (groups (cut 10 w)) ≡ w) (λ h. unfold groups read_back in rw (cut-none 10) refl)
    λ w h ih a.
    let group : Word = map lower (take 10 w) in
    let later : Word = groups (cut 10 (drop 10 w)) in
    ap read_back (groups-more w h)
    ∙ passed 32 (group ++ later) (omega arith)
    ∙ read-append group later
    ∙ ap (λ (u : Word). u ++ read_back later) (letters-read (take 10 w) (letters-parts 10 w a).0)
    ∙ ap (λ (u : Word). take 10 w ++ u) (ih (letters-parts 10 w a).1)
    ∙ take-append-drop 10 w

line_read : (place : ℕ) (w : Word) → all_letters w ≡ true → read_back (origin_line place w) ≡ w
unfolding origin_line
line_read place w a =
    read-append (right_justified 9 (decimal place)) (groups (cut 10 w)) ∙ ap (λ (u : Word). u ++ read_back (groups (cut 10 w))) (place-passed place) ∙ groups-read w a

lines-read : (w : Word) → all_letters w ≡ true → (place : ℕ) → read_back (origin_lines place (cut 60 w)) ≡ w
lines-read = by-cut 59 (λ w. all_letters w ≡ true → (place : ℕ) → read_back (origin_lines place (cut 60 w)) ≡ w) (λ a place. unfold origin_lines read_back in rw (cut-none 60) refl)
    λ w h ih a place.
    let line : Word = origin_line place (take 60 w) in
    let later : Word = origin_lines (place + 60) (cut 60 (drop 60 w)) in
    ap read_back (lines_more place w h)
    ∙ read-append line (10 ∷ later)
    ∙ ap (λ (u : Word). u ++ read_back (10 ∷ later)) (line_read place (take 60 w) (letters-parts 60 w a).0)
    ∙ ap (λ (u : Word). take 60 w ++ u) (passed 10 later (omega arith) ∙ ih (letters-parts 60 w a).1 (place + 60))
    ∙ take-append-drop 60 w

-- 02 (iv): the record's letters, from the page alone
pub page-read : (s : Word) → all_letters s ≡ true → read_back (genbank s) ≡ s
unfolding genbank origin_head origin_end read_back is_small
page-read s a =
    let lines : Word = origin_lines 1 (cut 60 s) in
    read-append origin_head (lines ++ origin_end) ∙ read-append lines origin_end ∙ append-nil (read_back lines) ∙ lines-read s a 1

pub page-injective : (s t : Word) → all_letters s ≡ true → all_letters t ≡ true → genbank s ≡ genbank t → s ≡ t
page-injective s t a b e = sym (page-read s a) ∙ ap read_back e ∙ page-read t b
