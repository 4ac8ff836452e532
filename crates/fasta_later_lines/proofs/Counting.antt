-- The pass that counts: at each place the letters counted and what the rest yields make the answer for all the lines, and each turn keeps that so.
-- Rests on the laws of `LaterLines`. Assumes nothing.
use Rattle.std.specs.Prelude.{Result, Ok, Err}
use Prim.Native.Nat.{ℕ, suc, ◌+◌, ◌-◌, ◌≤◌, ◌<◌}
use mathlib.Core.Path.{◌≡◌, refl, sym, ap, ◌∙◌}
use mathlib.Core.Bool.{Bool, true, false}
use native.Mathlib.Omega.{arith}
use lib.ListN.{length, drop}
use Rattle.palindromes.specs.Word.{Word}
use Rattle.palindromes.specs.Fasta.{Body, fault, letters, with_letter, read_lines}
use Rattle.fasta_later_lines.specs.Passes.{kind_named, tally_after}
use Rattle.fasta_later_lines.specs.declared.ByteKind.{ByteKind}
use Rattle.fasta_later_lines.specs.declared.ByteKind.TheVariants.{SecondHeader, LineEnd, BeforeLf, Letter, Other}
use Rattle.fasta_later_lines.proofs.LaterLines.{read_at, kind_at, at-header, at_other, at-line-end, at-before-lf, at-letter-full, at-letter, at-end}

-- at place i, with n letters counted, the rest yields the answer `whole`
pub record Counted (s : Word) (i : ℕ) (line_start : Bool) (n : ℕ) (whole : Result ℕ ℕ) : Type 0 where
  pub room : n ≤ 1024
  pub rest : tally_after n (read_lines (drop i s) line_start (1024 - n)) ≡ whole

-- before the first place nothing is counted
pub nothing-counted : (s : Word) (i : ℕ) → Counted s i true 0 (tally_after 0 (read_lines (drop i s) true 1024))
nothing-counted s i = record { room = omega arith; rest = refl }

-- past the last place the letters counted are the answer
pub all-counted : (s : Word) (i : ℕ) (line_start : Bool) (n : ℕ) (whole : Result ℕ ℕ) → Counted s i line_start n whole → length s ≤ i → Ok n ≡ whole
unfolding tally_after
all-counted s i line_start n whole so_far outside = ap (λ (m : ℕ). Ok m) (omega arith) ∙ rw (at-end s i line_start (1024 - n) outside) at so_far.rest

-- a letter in front is one letter more
one-counted : (n b : ℕ) (body : Body) → tally_after n (with_letter b body) ≡ tally_after (n + 1) body
unfolding tally_after with_letter
one-counted n b (fault k) = refl
one-counted n b (letters w) = ap (λ (m : ℕ). Ok m) (omega arith)

module _ {s : Word} {i : ℕ} {line_start : Bool} {n : ℕ} {whole : Result ℕ ℕ} (so_far : Counted s i line_start n whole) (inside : i < length s)
    {kind : ByteKind} (met : kind_named kind ≡ kind_at s i line_start) where
  -- a `>` that begins a line
  pub header-counted : kind ≡ SecondHeader → Err 11 ≡ whole
  unfolding kind_named tally_after
  header-counted k = rw (at-header s i inside line_start (1024 - n) (sym met ∙ ap kind_named k)) at so_far.rest

  -- a byte that is not a letter
  pub other-counted : kind ≡ Other → Err 4 ≡ whole
  unfolding kind_named tally_after
  other-counted k = rw (at_other s i inside line_start (1024 - n) (sym met ∙ ap kind_named k)) at so_far.rest

  -- the 1,025th letter
  pub full-counted : kind ≡ Letter → n ≡ 1024 → Err 5 ≡ whole
  unfolding kind_named tally_after
  full-counted k full = rw (full, at-letter-full s i inside line_start (sym met ∙ ap kind_named k)) at so_far.rest

  module _ {n' : ℕ} {line_start' : Bool} where
    -- after an LF a line begins
    pub line-end-counted : kind ≡ LineEnd → n' ≡ n → line_start' ≡ true → Counted s (i + 1) line_start' n' whole
    unfolding kind_named
    line-end-counted k same starts =
        rw (same, starts) (record { room = so_far.room; rest = rw (at-line-end s i inside line_start (1024 - n) (sym met ∙ ap kind_named k)) at so_far.rest })

    -- the CR of a CR LF changes nothing
    pub before-lf-counted : kind ≡ BeforeLf → n' ≡ n → line_start' ≡ line_start → Counted s (i + 1) line_start' n' whole
    unfolding kind_named
    before-lf-counted k same starts =
        rw (same, starts) (record { room = so_far.room; rest = rw (at-before-lf s i inside line_start (1024 - n) (sym met ∙ ap kind_named k)) at so_far.rest })

    -- a letter within the room is counted
    pub letter-counted : kind ≡ Letter → (n ≡ 1024 → ⊥) → n' ≡ n + 1 → line_start' ≡ false → Counted s (i + 1) line_start' n' whole
    unfolding kind_named
    letter-counted k fits more starts =
        let left : 1024 - n ≡ suc (1024 - (n + 1)) = omega arith in
        rw (more, starts)
        (record {
          room = omega arith;
          rest = sym (one-counted n (read_at s i) (read_lines (drop (i + 1) s) false (1024 - (n + 1)))) ∙ (rw (left, at-letter s i inside line_start (1024 - (n + 1)) (sym met ∙ ap kind_named k)) at so_far.rest);
        })
