-- What an accepted text says: its identifier is one and stands after the first byte, and its letters are letters, at most 1,024.
-- Rests on the kinds of bytes (`LaterLines`). Assumes nothing.
use Prim.Native.Nat.{ℕ, zero, suc, ◌+◌, ◌≤◌}
use mathlib.Core.Path.{◌≡◌, refl, sym, ap, ◌∙◌}
use mathlib.Core.Bool.{Bool, true, false, ◌&&◌}
use mathlib.Core.List.{[], ◌∷◌}
use native.Mathlib.Omega.{arith}
use lib.Dec.{leb, eqb}
use lib.ListN.{length, take, drop}
use lib.Seq.{length-take-le}
use borrow.Author.Tests.{leb-true}
use Rattle.palindromes.specs.Word.{Word, is_letter, all_letters}
use Rattle.palindromes.specs.Bed.{is_identifier_byte, all_identifier_bytes, is_identifier}
use Rattle.palindromes.specs.Fasta.{refused, accepted, identifier_length, ends_identifier, good_first_line, after_first_line, upper, Kind, second_header, line_end, before_lf, letter, other, kind_of, Body, fault, letters, with_letter, read_byte, read_lines, with_identifier, read_fasta}
use Rattle.palindromes.proofs.Tests.{both_true}
use Rattle.fasta_later_lines.proofs.LaterLines.{letter-kind}
use Rattle.fasta_later_lines.proofs.Writing.{no-fault}

-- ---- the identifier

-- it is no longer than the text it is read from
identifier-fits : (t : Word) → identifier_length t ≤ length t
unfolding identifier_length
identifier-fits [] = omega arith
identifier-fits (b ∷ t) = by_byte (identifier-fits t) (is_identifier_byte b)
  where
    by_byte : identifier_length t ≤ length t → (x : Bool) → elim x [ true ↦ suc (identifier_length t) | false ↦ zero ] ≤ suc (length t)
    by_byte h true = omega arith
    by_byte h false = omega arith

-- and its bytes may stand in one
identifier-clean : (t : Word) → all_identifier_bytes (take (identifier_length t) t) ≡ true
unfolding identifier_length all_identifier_bytes
identifier-clean [] = refl
identifier-clean (b ∷ t) = by_byte (identifier-clean t) (is_identifier_byte b) refl
  where
    by_byte : all_identifier_bytes (take (identifier_length t) t) ≡ true → (x : Bool) → is_identifier_byte b ≡ x → all_identifier_bytes (take (elim x [ true ↦ suc (identifier_length t) | false ↦ zero ]) (b ∷ t)) ≡ true
    by_byte h true e = rw (e, h)
    by_byte h false e = refl

-- ---- the letters

same-letters : (u w : Word) → letters u ≡ letters w → u ≡ w
same-letters u w e = cc

-- letters, at most as many as there was room for
abbrev pub Within : ℕ → Word → Type 0
Within room w = (all_letters w ≡ true) × (length w ≤ room)

-- one byte keeps that so, if what is read after it does
byte-within : (k : Kind) (start : Bool) (room b : ℕ) (next : Bool → ℕ → Body) (w : Word) → (k ≡ letter → is_letter b ≡ true)
    → ((s : Bool) (left : ℕ) (u : Word) → next s left ≡ letters u → Within left u) → read_byte k start room b next ≡ letters w → Within room w
unfolding read_byte with_letter all_letters
byte-within second_header start room b next w is h e = absurd (no-fault 11 w e)
byte-within line_end start room b next w is h e = h true room w e
byte-within before_lf start room b next w is h e = h start room w e
byte-within letter start zero b next w is h e = absurd (no-fault 5 w e)
byte-within letter start (suc room) b next w is h e = with-body (next false room) refl e
  where
    with-body : (body : Body) → next false room ≡ body → with_letter b body ≡ letters w → Within (suc room) w
    with-body (fault n) f g = absurd (no-fault n w g)
    with-body (letters u) f g =
        let d = h false room u f in
        rw (sym (same-letters (b ∷ u) w g), is refl, d.0) (refl, omega (arith, d.1))
byte-within other start room b next w is h e = absurd (no-fault 4 w e)

-- the later lines
lines-within : (t : Word) (start : Bool) (room : ℕ) (w : Word) → read_lines t start room ≡ letters w → Within room w
unfolding read_lines all_letters
lines-within [] start room w e = rw (sym (same-letters [] w e)) (refl, omega arith)
lines-within (b ∷ t) start room w e =
    byte-within (kind_of start (upper b) t) start room (upper b) (λ s left. read_lines t s left) w (letter-kind start b t) (λ s left u f. lines-within t s left u f) e

-- ---- the text

pub record Accepts (text : Word) (n : ℕ) (w : Word) : Type 0 where
  pub identifier : is_identifier (take n (drop 1 text)) ≡ true
  pub short : n ≤ 32
  pub fits : n + 1 ≤ length text
  pub letters : Within 1024 w

pub no-refusal : (k n : ℕ) (w : Word) → refused k ≡ accepted n w → ⊥
no-refusal k n w e = let z : ◌≡◌ {A = ℕ} 0 1 = cc in omega arith

-- a good first line has an identifier of at most 32 bytes
module _ (b : ℕ) (t : Word) (e : good_first_line (b ∷ t) ≡ true) where
  tests : (leb 1 (identifier_length t) ≡ true) × (leb (identifier_length t) 32 ≡ true)
  unfolding good_first_line
  tests =
      let line = both_true (eqb b 62 && leb 1 (identifier_length t) && leb (identifier_length t) 32) (ends_identifier (drop (identifier_length t) t)) e in
      let high = both_true (eqb b 62 && leb 1 (identifier_length t)) (leb (identifier_length t) 32) line.0 in
      ((both_true (eqb b 62) (leb 1 (identifier_length t)) high.0).1, high.1)

  good-identifier : is_identifier (take (identifier_length t) t) ≡ true
  unfolding is_identifier
  good-identifier = rw (length-take-le (identifier_length t) t (identifier-fits t), tests.0, tests.1, identifier-clean t)

  good_length : identifier_length t ≤ 32
  good_length = leb-true (identifier_length t) 32 tests.1

-- an accepted text
pub accepts : (text : Word) (n : ℕ) (w : Word) → read_fasta text ≡ accepted n w → Accepts text n w
unfolding read_fasta with_identifier
accepts [] n w e = absurd (no-refusal 10 n w e)
accepts (b ∷ t) n w e = by-line (good_first_line (b ∷ t)) refl e
  where
    by-body : (body : Body) → read_lines (after_first_line t) true 1024 ≡ body → good_first_line (b ∷ t) ≡ true → with_identifier (identifier_length t) body ≡ accepted n w → Accepts (b ∷ t) n w
    by-body (fault k) f g h = absurd (no-refusal k n w h)
    by-body (letters u) f g h =
        let m : identifier_length t ≡ n = cc in
        let v : u ≡ w = cc in
        record {
          identifier = rw (sym m) (good-identifier b t g);
          short = omega (arith, good_length b t g, m);
          fits = omega (arith, identifier-fits t, m);
          letters = rw (sym v) (lines-within (after_first_line t) true 1024 u f);
        }

    by-line : (x : Bool) → good_first_line (b ∷ t) ≡ x
        → elim x [ true ↦ with_identifier (identifier_length t) (read_lines (after_first_line t) true 1024) | false ↦ refused 10 ] ≡ accepted n w → Accepts (b ∷ t) n w
    by-line true g h = by-body (read_lines (after_first_line t) true 1024) refl g h
    by-line false g h = absurd (no-refusal 10 n w h)

-- ---- a refusal's number

-- a fault of the later lines is 11, 4 or 5
byte-fault : (k : Kind) (start : Bool) (room b : ℕ) (next : Bool → ℕ → Body) (n : ℕ) → ((s : Bool) (left n : ℕ) → next s left ≡ fault n → n ≤ 11)
    → read_byte k start room b next ≡ fault n → n ≤ 11
unfolding read_byte with_letter
byte-fault second_header start room b next n h e = let z : 11 ≡ n = cc in omega arith
byte-fault line_end start room b next n h e = h true room n e
byte-fault before_lf start room b next n h e = h start room n e
byte-fault letter start zero b next n h e = let z : 5 ≡ n = cc in omega arith
byte-fault letter start (suc room) b next n h e = with-body (next false room) refl e
  where
    with-body : (body : Body) → next false room ≡ body → with_letter b body ≡ fault n → n ≤ 11
    with-body (fault m) f g = h false room n (f ∙ g)
    with-body (letters u) f g = absurd (no-fault n (b ∷ u) (sym g))
byte-fault other start room b next n h e = let z : 4 ≡ n = cc in omega arith

lines-fault : (t : Word) (start : Bool) (room n : ℕ) → read_lines t start room ≡ fault n → n ≤ 11
unfolding read_lines
lines-fault [] start room n e = absurd (no-fault n [] (sym e))
lines-fault (b ∷ t) start room n e = byte-fault (kind_of start (upper b) t) start room (upper b) (λ s left. read_lines t s left) n (λ s left m f. lines-fault t s left m f) e

-- the reader's own numbers are at most 11
pub refusal-small : (text : Word) (k : ℕ) → read_fasta text ≡ refused k → k ≤ 11
unfolding read_fasta with_identifier
refusal-small [] k e = let z : 10 ≡ k = cc in omega arith
refusal-small (b ∷ t) k e = by-line (good_first_line (b ∷ t)) e
  where
    by-body : (body : Body) → read_lines (after_first_line t) true 1024 ≡ body → with_identifier (identifier_length t) body ≡ refused k → k ≤ 11
    by-body (fault m) f h = lines-fault (after_first_line t) true 1024 k (f ∙ ap fault (let z : m ≡ k = cc in z))
    by-body (letters u) f h = absurd (no-refusal k (identifier_length t) u (sym h))

    by-line : (x : Bool) → elim x [ true ↦ with_identifier (identifier_length t) (read_lines (after_first_line t) true 1024) | false ↦ refused 10 ] ≡ refused k → k ≤ 11
    by-line true h = by-body (read_lines (after_first_line t) true 1024) refl h
    by-line false h = let z : 10 ≡ k = cc in omega arith
