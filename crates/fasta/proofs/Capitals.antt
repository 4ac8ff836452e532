-- 02 (i): a text and the text with its later lines in capitals are read alike, and have the same identifier.
-- Rests on the capital of a byte (`Upper`) and on what a first line decides (`Answering`). Assumes nothing.
use Prim.Native.Nat.{ℕ, zero, suc}
use native.Mathlib.Omega.{arith}
use mathlib.Core.Path.{◌≡◌, refl, sym, ap, ◌∙◌}
use mathlib.Core.Bool.{Bool, true, false, true≢false}
use mathlib.Core.Logic.{⊎_elim}
use mathlib.Core.List.{[], ◌∷◌, map}
use lib.Dec.{eqb}
use lib.ListN.{length, take, drop, length-map}
use borrow.Author.Tests.{eqb-true}
use Rattle.palindromes.specs.Word.{Word}
use Rattle.palindromes.specs.Bed.{is_identifier_byte}
use Rattle.palindromes.specs.Fasta.{accepted, identifier_length, starts_with_lf, ends_identifier, good_first_line, after_first_line, upper, kind_of, Body, fault, letters, read_lines, with_identifier, read_fasta}
use Rattle.fasta.specs.Capitals.{upper_later_lines}
use Rattle.palindromes.proofs.Tests.{false-not-true, not-true-false, decided}
use Rattle.fasta_later_lines.proofs.Upper.{upper-upper, upper-same}
use Rattle.fasta.proofs.Answering.{bad-text, good-text}
use Rattle.fasta.proofs.Accepted.{no-refusal}

-- ---- the later lines

lf-upper : (t : Word) → starts_with_lf (map upper t) ≡ starts_with_lf t
unfolding starts_with_lf
lf-upper [] = refl
lf-upper (b ∷ t) = upper-same b 10 (omega arith)

kind-upper : (start : Bool) (b : ℕ) (t : Word) → kind_of start b (map upper t) ≡ kind_of start b t
unfolding kind_of
kind-upper start b t = rw (lf-upper t)

lines-upper : (t : Word) (start : Bool) (room : ℕ) → read_lines (map upper t) start room ≡ read_lines t start room
unfolding read_lines
lines-upper [] start room = refl
lines-upper (b ∷ t) start room = simp (upper-upper b, kind-upper start (upper b) t, lines-upper t)

-- ---- the first line, which ends with the first LF

module _ (b : ℕ) (t : Word) where
  after-lf : eqb b 10 ≡ true → (upper_later_lines (b ∷ t) ≡ b ∷ map upper t) × (after_first_line (b ∷ t) ≡ t)
  unfolding upper_later_lines after_first_line
  after-lf e = (rw (e, upper_later_lines), rw (e, after_first_line))

  before-lf : eqb b 10 ≡ false → (upper_later_lines (b ∷ t) ≡ b ∷ upper_later_lines t) × (after_first_line (b ∷ t) ≡ after_first_line t)
  unfolding upper_later_lines after_first_line
  before-lf e = (rw (e, upper_later_lines), rw (e, after_first_line))

  in-identifier : is_identifier_byte b ≡ true → identifier_length (b ∷ t) ≡ suc (identifier_length t)
  unfolding identifier_length
  in-identifier e = rw (e, identifier_length)

  past-identifier : is_identifier_byte b ≡ false → identifier_length (b ∷ t) ≡ zero
  unfolding identifier_length
  past-identifier e = rw (e, identifier_length)

pub same_length : (s : Word) → length (upper_later_lines s) ≡ length s
unfolding upper_later_lines
same_length [] = refl
same_length (b ∷ t) =
    ⊎_elim (λ e. ap length (after-lf b t e).0 ∙ ap suc (length-map t upper)) (λ e. ap length (before-lf b t e).0 ∙ ap suc (same_length t)) (decided (eqb b 10))

-- what stands behind it is in capitals
after-later : (t : Word) → after_first_line (upper_later_lines t) ≡ map upper (after_first_line t)
unfolding upper_later_lines after_first_line
after-later [] = refl
after-later (b ∷ t) = ⊎_elim ends (goes_on (after-later t)) (decided (eqb b 10))
  where
    ends : eqb b 10 ≡ true → after_first_line (upper_later_lines (b ∷ t)) ≡ map upper (after_first_line (b ∷ t))
    ends e = ap after_first_line (after-lf b t e).0 ∙ (after-lf b (map upper t) e).1 ∙ ap (map upper) (sym (after-lf b t e).1)

    goes_on : after_first_line (upper_later_lines t) ≡ map upper (after_first_line t) → eqb b 10 ≡ false → after_first_line (upper_later_lines (b ∷ t)) ≡ map upper (after_first_line (b ∷ t))
    goes_on h e = ap after_first_line (before-lf b t e).0 ∙ (before-lf b (upper_later_lines t) e).1 ∙ h ∙ ap (map upper) (sym (before-lf b t e).1)

-- an LF is no byte of an identifier
no-lf : (b : ℕ) → is_identifier_byte b ≡ true → eqb b 10 ≡ false
unfolding is_identifier_byte
no-lf b h = not-true-false (eqb b 10) (λ e. true≢false (sym h ∙ ap is_identifier_byte (eqb-true b 10 e)))

-- so an identifier stays, and what stands behind it
record SameIdentifier (t : Word) : Type 0 where
  bytes : take (identifier_length t) (upper_later_lines t) ≡ take (identifier_length t) t
  long : identifier_length (upper_later_lines t) ≡ identifier_length t
  rest : drop (identifier_length t) (upper_later_lines t) ≡ upper_later_lines (drop (identifier_length t) t)

module _ (b : ℕ) (t : Word) where
  identifier-on : is_identifier_byte b ≡ true → SameIdentifier t → SameIdentifier (b ∷ t)
  identifier-on e same =
      let n = in-identifier b t e in
      let u = (before-lf b t (no-lf b e)).0 in
      record { bytes = rw (n, u) (ap (λ (w : Word). b ∷ w) same.bytes); long = rw (u, n, in-identifier b (upper_later_lines t) e) (ap suc same.long); rest = rw (n, u) same.rest }

  identifier-ends : is_identifier_byte b ≡ false → SameIdentifier (b ∷ t)
  unfolding upper_later_lines
  identifier-ends e = let n = past-identifier b t e in record { bytes = rw n; long = past-identifier b _ e ∙ sym n; rest = rw n }

same-identifier : (t : Word) → SameIdentifier t
unfolding identifier_length upper_later_lines
same-identifier [] = record { bytes = refl; long = refl; rest = refl }
same-identifier (b ∷ t) = ⊎_elim (λ e. identifier-on b t e (same-identifier t)) (identifier-ends b t) (decided (is_identifier_byte b))

lf-later : (t : Word) → starts_with_lf (upper_later_lines t) ≡ starts_with_lf t
unfolding starts_with_lf upper_later_lines
lf-later [] = refl
lf-later (b ∷ t) = refl

ends-later : (t : Word) → ends_identifier (upper_later_lines t) ≡ ends_identifier t
unfolding ends_identifier upper_later_lines
ends-later [] = refl
ends-later (b ∷ t) = by-lf (eqb b 10) refl
  where
    by-lf : (x : Bool) → eqb b 10 ≡ x → ends_identifier (upper_later_lines (b ∷ t)) ≡ ends_identifier (b ∷ t)
    by-lf true e = rw (eqb-true b 10 e)
    by-lf false e = rw (e, lf-later t)

-- ---- the text

-- a text that begins with an LF has no good first line
lf-first : (b : ℕ) (t : Word) → eqb b 10 ≡ true → good_first_line (b ∷ t) ≡ false
unfolding good_first_line
lf-first b t e = rw (eqb-true b 10 e)

good-later : (b : ℕ) (t : Word) → eqb b 10 ≡ false → good_first_line (upper_later_lines (b ∷ t)) ≡ good_first_line (b ∷ t)
unfolding good_first_line
good-later b t e =
    let same = same-identifier t in
    ap good_first_line (before-lf b t e).0 ∙ rw (same.long, same.rest, ends-later (drop (identifier_length t) t))

module _ (b : ℕ) (t : Word) where
  -- a bad first line decides either text
  both-bad : good_first_line (b ∷ t) ≡ false → good_first_line (upper_later_lines (b ∷ t)) ≡ false → read_fasta (upper_later_lines (b ∷ t)) ≡ read_fasta (b ∷ t)
  both-bad p q = bad-text (upper_later_lines (b ∷ t)) q ∙ sym (bad-text (b ∷ t) p)

  -- a good one leaves it to the later lines
  both-good : eqb b 10 ≡ false → good_first_line (b ∷ t) ≡ true → read_fasta (upper_later_lines (b ∷ t)) ≡ read_fasta (b ∷ t)
  both-good e p =
      let u = (before-lf b t e).0 in
      let later : drop 1 (upper_later_lines (b ∷ t)) ≡ upper_later_lines t = ap (drop 1) u in
      good-text (upper_later_lines (b ∷ t)) (identifier_length t) (good-later b t e ∙ p) (sym (ap identifier_length later ∙ (same-identifier t).long))
      ∙ rw (later, after-later t, lines-upper (after_first_line t) true 1024) (sym (good-text (b ∷ t) (identifier_length t) p refl))

-- the reader's answer, number and letters are those of the text in capitals
pub read_upper : (s : Word) → read_fasta (upper_later_lines s) ≡ read_fasta s
unfolding upper_later_lines
read_upper [] = refl
read_upper (b ∷ t) = ⊎_elim from-lf from-other (decided (eqb b 10))
  where
    from-lf : eqb b 10 ≡ true → read_fasta (upper_later_lines (b ∷ t)) ≡ read_fasta (b ∷ t)
    from-lf e = both-bad b t (lf-first b t e) (ap good_first_line (after-lf b t e).0 ∙ lf-first b (map upper t) e)

    from-other : eqb b 10 ≡ false → read_fasta (upper_later_lines (b ∷ t)) ≡ read_fasta (b ∷ t)
    from-other e = ⊎_elim (both-good b t e) (λ p. both-bad b t p (good-later b t e ∙ p)) (decided (good_first_line (b ∷ t)))

-- the identifier's length is that of an accepted text's answer
identifier-counted : (k : ℕ) (body : Body) (n : ℕ) (w : Word) → with_identifier k body ≡ accepted n w → k ≡ n
unfolding with_identifier
identifier-counted k (fault j) n w e = absurd (no-refusal j n w e)
identifier-counted k (letters u) n w e = cc

-- and so is the identifier of a text that is read
pub identifier-upper : (s : Word) (n : ℕ) (w : Word) → read_fasta s ≡ accepted n w → take n (drop 1 (upper_later_lines s)) ≡ take n (drop 1 s)
unfolding upper_later_lines
identifier-upper [] n w e = refl
identifier-upper (b ∷ t) n w e = ⊎_elim from-good (λ p. absurd (no-refusal 10 n w (sym (bad-text (b ∷ t) p) ∙ e))) (decided (good_first_line (b ∷ t)))
  where
    from-good : good_first_line (b ∷ t) ≡ true → take n (drop 1 (upper_later_lines (b ∷ t))) ≡ take n t
    from-good p =
        let later = (before-lf b t (not-true-false (eqb b 10) (λ q. false-not-true (lf-first b t q) p))).0 in
        let long = identifier-counted (identifier_length t) (read_lines (after_first_line t) true 1024) n w (sym (good-text (b ∷ t) (identifier_length t) p refl) ∙ e) in
        ap (λ (x : Word). take n (drop 1 x)) later ∙ (rw long at (same-identifier t).bytes)
