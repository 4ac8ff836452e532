-- The definitions of the later lines, read at a place of the text: the kind of a byte by its tests, and what `read_lines` makes of a byte of each kind.
-- Both passes rest on it. Rests on `at_place` and on the capital of a byte (`Upper`). Assumes nothing.
use Prim.Native.Nat.{ℕ, suc, ◌+◌, ◌≤◌, ◌<◌}
use mathlib.Core.Path.{◌≡◌, refl, sym, ap, ◌∙◌}
use mathlib.Core.Bool.{Bool, true, false, cond, ◌&&◌, and-false, true≢false}
use native.Mathlib.Omega.{arith}
use mathlib.Core.Logic.{◌⊎◌, inl, inr}
use mathlib.Core.List.{[]}
use lib.Dec.{eqb}
use lib.ListN.{length, drop, get_or, drop_of_length-le}
use borrow.Author.Tests.{ne_eqb}
use Rattle.palindromes.specs.Word.{Word, is_letter}
use Rattle.palindromes.specs.Fasta.{starts_with_lf, upper, Kind, second_header, line_end, before_lf, letter, other, kind_of, fault, letters, with_letter, read_byte, read_lines}
use Rattle.fasta_first_line.proofs.Places.{at_place}
use Rattle.fasta_later_lines.proofs.Upper.{upper-same, letter-kept}

-- a conjunction of which a half is false
not-both : (x y : Bool) → (x ≡ false) ⊎ (y ≡ false) → (x && y) ≡ false
not-both x y (inl e) = rw e
not-both x y (inr e) = rw e (and-false x)

-- the kind of a byte by its own tests; it is read as its capital, which moves none of them but that of a letter
module _ (line_start : Bool) (b : ℕ) (t : Word) where
  -- a line's first byte is a second `>`
  pub kind-header : line_start ≡ true → eqb b 62 ≡ true → kind_of line_start (upper b) t ≡ second_header
  unfolding kind_of
  kind-header p e = rw (p, upper-same b 62 (omega arith), e)

  -- an LF ends a line, wherever it stands
  pub kind-line-end : b ≡ 10 → kind_of line_start (upper b) t ≡ line_end
  unfolding kind_of upper
  kind-line-end e = rw (e, and-false line_start)

  -- a CR with an LF after it belongs to the line's end
  pub kind-before-lf : b ≡ 13 → starts_with_lf t ≡ true → kind_of line_start (upper b) t ≡ before_lf
  unfolding kind_of upper
  kind-before-lf e p = rw (e, p, and-false line_start)

  -- a CR with no LF after it is a byte that is not a letter
  pub kind-lone-cr : b ≡ 13 → starts_with_lf t ≡ false → kind_of line_start (upper b) t ≡ other
  unfolding kind_of upper is_letter
  kind-lone-cr e p = rw (e, p, and-false line_start)

  -- the four letters
  pub kind-letter : is_letter (upper b) ≡ true → kind_of line_start (upper b) t ≡ letter
  unfolding kind_of is_letter
  kind-letter h = simp (h, not-both line_start (eqb (upper b) 62) (inr (other_byte 62 refl)), other_byte 10 refl, other_byte 13 refl)
    where
      -- a byte that is no letter is another
      other_byte : (x : ℕ) → is_letter x ≡ false → eqb (upper b) x ≡ false
      other_byte x f = ne_eqb (upper b) x λ e. true≢false (sym h ∙ ap is_letter e ∙ f)

  -- and no other byte
  pub letter-kind : kind_of line_start (upper b) t ≡ letter → is_letter (upper b) ≡ true
  unfolding kind_of
  letter-kind e = only (line_start && eqb (upper b) 62) (eqb (upper b) 10) (eqb (upper b) 13 && starts_with_lf t) (is_letter (upper b)) e
    where
      only : (p q r s : Bool) → cond p second_header (cond q line_end (cond r before_lf (cond s letter other))) ≡ letter → s ≡ true
      only true q r s e = absurd (let z : ◌≡◌ {A = ℕ} 0 1 = cc in omega arith)
      only false true r s e = absurd (let z : ◌≡◌ {A = ℕ} 0 1 = cc in omega arith)
      only false false true s e = absurd (let z : ◌≡◌ {A = ℕ} 0 1 = cc in omega arith)
      only false false false true e = refl
      only false false false false e = absurd (let z : ◌≡◌ {A = ℕ} 0 1 = cc in omega arith)

  -- what passes none of the tests is not a letter, a `>` inside a line among it
  pub kind-other : (line_start ≡ false) ⊎ (eqb b 62 ≡ false) → (b ≡ 10 → ⊥) → (b ≡ 13 → ⊥) → is_letter (upper b) ≡ false → kind_of line_start (upper b) t ≡ other
  unfolding kind_of
  kind-other h lf cr l =
      simp (
        upper-same b 62 (omega arith),
        upper-same b 10 (omega arith),
        upper-same b 13 (omega arith),
        not-both line_start (eqb b 62) h,
        ne_eqb b 10 lf,
        ne_eqb b 13 cr,
        l,
      )

  -- every byte but a, c, g and t is what it is when it is read as it stands
  pub kind-kept : (b ≡ 97 → ⊥) → (b ≡ 99 → ⊥) → (b ≡ 103 → ⊥) → (b ≡ 116 → ⊥) → kind_of line_start (upper b) t ≡ kind_of line_start b t
  unfolding kind_of
  kind-kept no-a no-c no-g no-t = rw (upper-same b 62 (omega arith), upper-same b 10 (omega arith), upper-same b 13 (omega arith), letter-kept b no-a no-c no-g no-t)

-- the byte at a place as it is read, and its kind
abbrev pub read_at : Word → ℕ → ℕ
read_at s i = upper (get_or s i 0)

abbrev pub kind_at : Word → ℕ → Bool → Kind
kind_at s i line_start = kind_of line_start (read_at s i) (drop (i + 1) s)

module _ (s : Word) (i : ℕ) (inside : i < length s) (line_start : Bool) where
  -- one byte is read, then the text from the next place on
  reads_byte : (room : ℕ) → read_lines (drop i s) line_start room ≡ read_byte (kind_at s i line_start) line_start room (read_at s i) (λ start left. read_lines (drop (i + 1) s) start left)
  unfolding read_lines
  reads_byte room = rw (at_place s i inside)

  -- a second header is fault 11
  pub at-header : (room : ℕ) → kind_at s i line_start ≡ second_header → read_lines (drop i s) line_start room ≡ fault 11
  unfolding read_byte
  at-header room k = reads_byte room ∙ rw k

  -- a byte that is not a letter is fault 4, whatever the room
  pub at_other : (room : ℕ) → kind_at s i line_start ≡ other → read_lines (drop i s) line_start room ≡ fault 4
  unfolding read_byte
  at_other room k = reads_byte room ∙ rw k

  -- after a line's end the next line begins
  pub at-line-end : (room : ℕ) → kind_at s i line_start ≡ line_end → read_lines (drop i s) line_start room ≡ read_lines (drop (i + 1) s) true room
  unfolding read_byte
  at-line-end room k = reads_byte room ∙ rw k

  -- the CR of a CR LF is passed over
  pub at-before-lf : (room : ℕ) → kind_at s i line_start ≡ before_lf → read_lines (drop i s) line_start room ≡ read_lines (drop (i + 1) s) line_start room
  unfolding read_byte
  at-before-lf room k = reads_byte room ∙ rw k

  -- a letter with no room left is fault 5
  pub at-letter-full : kind_at s i line_start ≡ letter → read_lines (drop i s) line_start 0 ≡ fault 5
  unfolding read_byte
  at-letter-full k = reads_byte 0 ∙ rw k

  -- a letter with room stands in front of what the rest yields
  pub at-letter : (room : ℕ) → kind_at s i line_start ≡ letter
      → read_lines (drop i s) line_start (suc room) ≡ with_letter (read_at s i) (read_lines (drop (i + 1) s) false room)
  unfolding read_byte
  at-letter room k = reads_byte (suc room) ∙ rw k

-- past the text there are no letters
pub at-end : (s : Word) (i : ℕ) (line_start : Bool) (room : ℕ) → length s ≤ i → read_lines (drop i s) line_start room ≡ letters []
unfolding read_lines
at-end s i line_start room outside = rw (drop_of_length-le s outside)
