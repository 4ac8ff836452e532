-- The pass that writes: at each place the letters left are good, have room, and written after those that stand make the buffer that is wanted; each
-- turn keeps that so. In good lines a byte that is not a letter belongs to a line's end. Rests on the laws of `LaterLines`. Assumes nothing.
use Prim.Native.Nat.{ℕ, zero, suc, ◌+◌, ◌-◌, ◌≤◌, ◌<◌}
use mathlib.Core.Path.{◌≡◌, refl, sym, ap, ◌∙◌}
use mathlib.Core.Bool.{Bool, true, false, true≢false}
use mathlib.Core.List.{[], ◌∷◌}
use native.Mathlib.Omega.{arith}
use native.Mathlib.Numerals.{add-one}
use lib.ListN.{length, drop, get_or, set, length-set}
use lib.Seq.{sets, length-sets}
use Rattle.palindromes.specs.Word.{Word, is_letter}
use Rattle.palindromes.specs.Fasta.{Kind, second_header, line_end, before_lf, letter, other, Body, fault, letters, with_letter, read_lines}
use Rattle.fasta_later_lines.specs.Passes.{letters_of}
use Rattle.fasta_later_lines.proofs.LaterLines.{read_at, kind_at, kind-letter, letter-kind, at-header, at_other, at-line-end, at-before-lf, at-letter-full, at-letter, at-end}

-- at place i, with n letters written, writing the letters that are left makes the buffer `whole`; whether a line begins there matters to the reading alone
pub record Writing (s : Word) (i n : ℕ) (out whole : Word) : Type 0 where
  pub line_start : Bool
  pub left : Word
  pub good : read_lines (drop i s) line_start (1024 - n) ≡ letters left
  pub fits : n + length left ≤ length out
  pub same : sets out n left ≡ whole

-- before the first place all the letters are left
pub nothing_written : (s : Word) (i : ℕ) (out : Word)
    → read_lines (drop i s) true 1024 ≡ letters (letters_of (read_lines (drop i s) true 1024))
    → length (letters_of (read_lines (drop i s) true 1024)) ≤ length out
    → Writing s i 0 out (sets out 0 (letters_of (read_lines (drop i s) true 1024)))
nothing_written s i out good room = record { line_start = true; left = letters_of (read_lines (drop i s) true 1024); good = good; fits = omega arith; same = refl }

-- past the last place no letter is left, so the buffer is the one wanted
pub all-written : (s : Word) (i n : ℕ) (out whole : Word) → Writing s i n out whole → length s ≤ i → out ≡ whole
all-written s i n out whole so_far outside =
    let none : [] ≡ so_far.left = cc (at-end s i so_far.line_start (1024 - n) outside) in
    rw (← none) at so_far.same

-- the buffer keeps its length
pub keeps-length : {s : Word} {i n : ℕ} {out whole : Word} → Writing s i n out whole → length out ≡ length whole
keeps-length {n = n} {out = out} so_far = sym (length-sets out n so_far.left) ∙ ap length so_far.same

-- a fault is not letters
pub no-fault : (k : ℕ) (w : Word) → fault k ≡ letters w → ⊥
no-fault k w e = let z : ◌≡◌ {A = ℕ} 0 1 = cc in omega arith

-- letters that begin with a letter that was read
letter-first : (b : ℕ) (body : Body) (w : Word) → with_letter b body ≡ letters w → (v : Word) × (body ≡ letters v) × (w ≡ b ∷ v)
unfolding with_letter
letter-first b (fault k) w e = absurd (no-fault k w e)
letter-first b (letters v) w e = (v, refl, cc)

module _ {s : Word} {i n : ℕ} {out whole : Word} (so_far : Writing s i n out whole) (inside : i < length s) where
  abbrev start : Bool
  start = so_far.line_start

  -- a byte that is not a letter is passed over
  pub other-passed : is_letter (read_at s i) ≡ false → Writing s (i + 1) n out whole
  other-passed no-letter = by_kind (kind_at s i start) refl
    where
      on : (begins : Bool) → read_lines (drop i s) start (1024 - n) ≡ read_lines (drop (i + 1) s) begins (1024 - n) → Writing s (i + 1) n out whole
      on begins e = record { line_start = begins; left = so_far.left; good = sym e ∙ so_far.good; fits = so_far.fits; same = so_far.same }

      by_kind : (k : Kind) → kind_at s i start ≡ k → Writing s (i + 1) n out whole
      by_kind second_header e = absurd (no-fault 11 so_far.left (sym (at-header s i inside start (1024 - n) e) ∙ so_far.good))
      by_kind line_end e = on true (at-line-end s i inside start (1024 - n) e)
      by_kind before_lf e = on start (at-before-lf s i inside start (1024 - n) e)
      by_kind letter e = absurd (true≢false (sym (letter-kind start (get_or s i 0) (drop (i + 1) s) e) ∙ no-letter))
      by_kind other e = absurd (no-fault 4 so_far.left (sym (at_other s i inside start (1024 - n) e) ∙ so_far.good))

  module _ (a-letter : is_letter (read_at s i) ≡ true) where
    -- the letter at the place is the first of those that are left
    first-left : (v : Word) × (read_lines (drop (i + 1) s) false (1024 - (n + 1)) ≡ letters v) × (so_far.left ≡ read_at s i ∷ v)
    first-left = go (1024 - n) refl
      where
        is : kind_at s i start ≡ letter
        is = kind-letter start (get_or s i 0) (drop (i + 1) s) a-letter

        go : (room : ℕ) → 1024 - n ≡ room → (v : Word) × (read_lines (drop (i + 1) s) false (1024 - (n + 1)) ≡ letters v) × (so_far.left ≡ read_at s i ∷ v)
        go zero e = absurd (no-fault 5 so_far.left (sym (at-letter-full s i inside start is) ∙ (rw e at so_far.good)))
        go (suc room) e =
            let less : 1024 - (n + 1) ≡ room = omega arith in
            rw less (letter-first (read_at s i) (read_lines (drop (i + 1) s) false room) so_far.left (sym (at-letter s i inside start room is) ∙ (rw e at so_far.good)))

    -- its place lies in the buffer
    pub has_room : n < length out
    has_room = omega (arith, ap length first-left.2, so_far.fits)

    -- it is written after those that stand
    pub letter-written : Writing s (i + 1) (n + 1) (set out n (read_at s i)) whole
    letter-written =
        let f = first-left in
        record {
          line_start = false;
          left = f.0;
          good = f.1;
          fits = rw length-set (omega (arith, ap length f.2, so_far.fits));
          same = rw (add-one n) (rw f.2 at so_far.same);
        }
