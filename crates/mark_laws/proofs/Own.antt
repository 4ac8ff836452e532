-- The record's own list is a sheet with a line for each repeat, `own-lines` and `own-sheet`, and has full marks under its own identifier, `own-full`.
-- Rests on the laws of a line's text, of first places and of the list of repeats.
use Prim.Native.Nat.{ℕ, suc, ◌+◌, ◌≤◌}
use native.Mathlib.Omega.{arith}
use mathlib.Core.Path.{◌≡◌, refl, sym, ap, ◌∙◌, subst}
use mathlib.Core.Bool.{Bool, true, false, cond, ◌||◌}
use mathlib.Core.List.{List, [], ◌∷◌, map, Memᴰ}
use mathlib.Core.Option.{some}
use lib.ListN.{length}
use Rattle.palindromes.specs.Word.{Word, same_word, member}
use Rattle.palindromes.specs.Palindrome.{Palindrome}
use Rattle.palindromes.specs.Place.{Stands, first_place}
use Rattle.palindromes.specs.Record.{palindromes}
use Rattle.palindromes.specs.Bed.{is_identifier, bed_lines, listing}
use Rattle.palindromes.specs.Sheet.{split, Line, with_line, lines_of, sheet_lines, is_sheet, lines_in}
use Rattle.palindromes.specs.Marks.{is_naming, named, sheet_counts, full_marks}
use Rattle.palindromes.proofs.Tests.{same_true, same_refl}
use Rattle.palindromes.proofs.Lists.{not-in-nil, member-cons, member-first, member-later, Once}
use Rattle.palindromes.proofs.Words.{some-letters}
use Rattle.palindromes.proofs.Places.{first-place, first-end-fits}
use Rattle.palindromes.proofs.Intervals.{cut-interval}
use Rattle.palindromes.proofs.Palindromes.{palindromes-is, palindromes-true, palindromes-once}
use Rattle.mark_laws.specs.Full.{names, namers, Full}
use Rattle.mark_laws.proofs.Missing.{is-naming}
use Rattle.mark_laws.proofs.Text.{line_at, bed-first}
use Rattle.mark_laws.proofs.Full.{names_more, names-not, is-full}

-- the line of a repeat in the list
abbrev pub own_line : (name s p : Word) → Line
own_line name s p = line_at name (first_place p s) (first_place p s + length p)

-- every word of the list is a repeat of the record
abbrev pub Repeats : (ℕ → ℕ) → Word → List Word → Type 0
Repeats σ s ps = (p : Word) → member p ps ≡ true → member p (palindromes σ s) ≡ true

module _ (name : Word) (h : is_identifier name ≡ true) (σ : ℕ → ℕ) (s : Word) (few : length s ≤ 1024) where
  -- a repeat's line has numbers of at most four digits
  pub end_fits : (p : Word) → member p (palindromes σ s) ≡ true → first_place p s + length p ≤ length s
  end_fits p m = first-end-fits p s (palindromes-true σ p s m).1

  -- lines of the list, whichever they are, in whatever order
  pub lines-of : (ps : List Word) → Repeats σ s ps → sheet_lines (bed_lines name s ps) ≡ some (map (own_line name s) ps)
  unfolding bed_lines sheet_lines lines_of split with_line
  lines-of [] k = refl
  lines-of (p ∷ ps) k =
      let m = end_fits p (k p (member-first p ps)) in
      bed-first name h (first_place p s) (first_place p s + length p) (bed_lines name s ps) (omega arith) (omega arith)
      ∙ ap (with_line (some (own_line name s p))) (lines-of ps (λ q n. k q (member-later q p ps n)))

  -- the list has a line for each repeat, at its first place
  own-lines : sheet_lines (listing σ name s) ≡ some (map (own_line name s) (palindromes σ s))
  unfolding listing
  own-lines = lines-of (palindromes σ s) (λ p m. m)

  own-named : (p : Word) → Stands p s → named s (own_line name s p) ≡ p
  unfolding named
  own-named p d = let f = first-place p s d in cut-interval f.0 (first_place p s) (first_place p s + length p) f.1 refl

  own-naming : (p : Word) → member p (palindromes σ s) ≡ true → is_naming σ name s (own_line name s p) ≡ true
  own-naming p m =
      let d = palindromes-true σ p s m in
      let some = some-letters p d.0.non-empty in
      let repeat = subst (Palindrome σ) (sym (own-named p d.1)) d.0 in
      is-naming σ name s (own_line name s p) (same_refl name) (omega (arith, some)) (end_fits p m) repeat

  -- it names its repeat and no other
  own-names : (p q : Word) → member q (palindromes σ s) ≡ true → names σ name s p (own_line name s q) ≡ same_word p q
  unfolding names
  own-names p q m = rw (own-naming q m, own-named q (palindromes-true σ q s m).1) refl

  own-namers : (p : Word) (ps : List Word) → Once ps → Repeats σ s ps
      → namers σ name s p (map (own_line name s) ps) ≡ cond (member p ps) 1 0
  unfolding namers
  own-namers p [] o k = sym (ap (λ (t : Bool). cond t 1 0) (not-in-nil p))
  own-namers p (q ∷ ps) o k = go (same_word p q) refl (own-namers p ps o.1 (λ r m. k r (member-later r q ps m)))
    where
      named_here : names σ name s p (own_line name s q) ≡ same_word p q
      named_here = own-names p q (k q (member-first q ps))

      -- whether p is one of the list, by whether it is the first
      in_list : (t : Bool) → same_word p q ≡ t → ◌≡◌ {A = ℕ} (cond (member p (q ∷ ps)) 1 0) (cond (t || member p ps) 1 0)
      in_list t e = ap (λ (u : Bool). cond u 1 0) (member-cons p q ps ∙ ap (λ (u : Bool). u || member p ps) e)

      go : (t : Bool) → same_word p q ≡ t → namers σ name s p (map (own_line name s) ps) ≡ cond (member p ps) 1 0
          → namers σ name s p (map (own_line name s) (q ∷ ps)) ≡ cond (member p (q ∷ ps)) 1 0
      go true e ih =
          let new : member p ps ≡ false = subst (λ (w : Word). member w ps ≡ false) (sym (same_true p q e)) o.0 in
          let none : namers σ name s p (map (own_line name s) ps) ≡ 0 = ih ∙ ap (λ (t : Bool). cond t 1 0) new in
          names_more σ name s p (own_line name s q) (map (own_line name s) ps) (named_here ∙ e) ∙ ap suc none ∙ sym (in_list true e)
      go false e ih = names-not σ name s p (own_line name s q) (map (own_line name s) ps) (named_here ∙ e) ∙ ih ∙ sym (in_list false e)

  own-each : (ps : List Word) → Repeats σ s ps → (l : Line) → Memᴰ l (map (own_line name s) ps) → is_naming σ name s l ≡ true
  own-each [] k l m = elim m [ ]
  own-each (q ∷ ps) k l (Memᴰ.head e) =
      subst (λ (x : Line). is_naming σ name s x ≡ true) (sym e) (own-naming q (k q (member-first q ps)))
  own-each (q ∷ ps) k l (Memᴰ.tail m) = own-each ps (λ r n. k r (member-later r q ps n)) l m

  pub own-lines-full : Full σ name s (map (own_line name s) (palindromes σ s))
  own-lines-full =
      record {
        one_line = λ p q d.
            own-namers p (palindromes σ s) (palindromes-once σ s) (λ r m. m) ∙ ap (λ (t : Bool). cond t 1 0) (palindromes-is σ p s q d);
        no_other = own-each (palindromes σ s) (λ r m. m);
      }

  -- the record's own list is a sheet, and has full marks
  pub own-sheet : is_sheet (sheet_lines (listing σ name s)) ≡ true
  unfolding is_sheet
  own-sheet = rw own-lines

  pub own-full : full_marks (sheet_counts σ name s (listing σ name s)) ≡ true
  unfolding sheet_counts lines_in
  own-full = rw own-lines (is-full σ name s (map (own_line name s) (palindromes σ s)) own-lines-full)
