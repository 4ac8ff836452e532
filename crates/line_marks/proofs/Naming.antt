-- A line's mark on a good store: it names a repeat exactly if its stretch has a row, and that repeat is named already exactly if the row's bit is set. A right
-- line sets the bit, and then one repeat less is missing. Rests on the laws of lists without repetition, of bits, and of a good store's rows.
use Prim.Native.Nat.{ℕ, ◌-◌, ◌*◌, ◌/◌, ◌≤◌, ◌<◌}
use native.Mathlib.Omega.{arith}
use mathlib.Core.Path.{◌≡◌, refl, sym, ap, ◌∙◌, subst}
use mathlib.Core.Bool.{Bool, true, false, cond, ◌&&◌, ◌||◌, not}
use mathlib.Core.Logic.{◌≢◌, ⊎_elim}
use mathlib.Core.List.{List, [], ◌∷◌}
use lib.ListN.{length, get_or, replicate, length-replicate, get_or-replicate}
use borrow.Author.Tests.{not-true, not-false}
use Rattle.palindromes.specs.Word.{Word, same_word, member}
use Rattle.palindromes.specs.Palindrome.{Palindrome}
use Rattle.palindromes.specs.Record.{palindromes}
use Rattle.palindromes.specs.Node.{spelt}
use Rattle.palindromes.specs.Sheet.{Line}
use Rattle.palindromes.specs.Marks.{is_naming, named, with_named}
use Rattle.palindromes.proofs.Tests.{not-true-false, same_true}
use Rattle.palindromes.proofs.Lists.{not-in-nil, member-cons, member-first}
use Rattle.palindromes.proofs.Words.{same_or_not}
use Rattle.palindromes.proofs.Palindromes.{palindromes-is}
use Rattle.bitmap.specs.Bitmap.{bit_at, with_bit, in_window}
use Rattle.bitmap.proofs.Bits.{bit-same, bit-other, bit-none, with-length, window-is}
use Rattle.store.specs.Layout.{size_in, rank_in, used_in, letters_in}
use Rattle.store.specs.Good.{rule_of, node_in, Good}
use Rattle.store.proofs.Sizes.{letters-length}
use Rattle.transitions.proofs.Rows.{covers, rank_below, rank-only, size-most}
use Rattle.mark_laws.proofs.Missing.{all-missing, one_less, mark-wrong, mark-repeated, mark-right, not-agreeing, not-below, too_far, no-repeat, is-naming}
use Rattle.mark_laws.proofs.Missing.{named-stands}
use Rattle.bed_reader.specs.declared.Entry.{Entry}
use Rattle.bed_reader.specs.Reading.{entry_of}
use Rattle.interval_rows.specs.IntervalRow.{word_between, IsRowOf}
use Rattle.line_marks.specs.declared.LineMark.{LineMark}
use Rattle.line_marks.specs.declared.LineMark.TheVariants.{Right, Repeated, Wrong}
use Rattle.line_marks.specs.LineMarks.{line_mark_of, mark_in, before_next, Named}

-- ---- a line on a good store

module _ {b : Word} (g : Good b) where
  -- before the first line no bit is set
  pub none_named : (marks : Word) → marks ≡ replicate 128 0 → Named b marks []
  none_named marks e =
      record {
        long = ap length e ∙ length-replicate {A = ℕ} 128 0;
        tells = λ r w u h n. bit-none marks (rank_in b r)
            (ap (λ (m : Word). get_or m (rank_in b r / 8) 0) e
            ∙ get_or-replicate {A = ℕ} 128 (rank_in b r / 8) 0 0 (omega (arith, rank_below g r u h, size-most g))) ∙ sym (not-in-nil w);
        left = omega (arith, all-missing (rule_of b) (letters_in b));
      }

  module _ (identifier : Word) (before : List Word) (l : Line) {x : Entry} (e : entry_of identifier l ≡ x) (old : Word) (a : Named b old before) where
    abbrev Told : LineMark → Word → Type 0
    Told r new = (r ≡ line_mark_of (mark_in b identifier before l)) × Named b new (before_next b identifier before l)

    agrees-is : same_word l.name identifier ≡ x.agrees
    unfolding entry_of
    agrees-is = ap (λ (y : Entry). y.agrees) e

    start_is : l.start ≡ x.start
    unfolding entry_of
    start_is = ap (λ (y : Entry). y.start) e

    end_is : l.end ≡ x.end
    unfolding entry_of
    end_is = ap (λ (y : Entry). y.end) e

    size_is : length (letters_in b) ≡ size_in b
    size_is = letters-length g.sized

    named-is : named (letters_in b) l ≡ word_between b x.start x.end
    unfolding named
    named-is = rw (start_is, end_is)

    wrong-line : is_naming (rule_of b) identifier (letters_in b) l ≡ false → Told Wrong old
    unfolding line_mark_of with_named
    wrong-line h = rw (mark-wrong (rule_of b) identifier (letters_in b) l before h) (refl, a)

    pub told-other-name : x.agrees ≡ false → Told Wrong old
    told-other-name h = wrong-line (not-agreeing (rule_of b) identifier (letters_in b) l (agrees-is ∙ h))

    pub told-not-below : x.end ≤ x.start → Told Wrong old
    told-not-below h = wrong-line (not-below (rule_of b) identifier (letters_in b) l (omega (arith, start_is, end_is)))

    pub told-too-far : size_in b < x.end → Told Wrong old
    told-too-far h = wrong-line (too_far (rule_of b) identifier (letters_in b) l (omega (arith, end_is, size_is)))

    pub told-no-repeat : (Palindrome (rule_of b) (word_between b x.start x.end) → ⊥) → Told Wrong old
    told-no-repeat h = wrong-line (no-repeat (rule_of b) identifier (letters_in b) l (λ p. h (subst (Palindrome (rule_of b)) named-is p)))

    module _ (p : x.agrees ≡ true) (q : x.start < x.end) (k : x.end ≤ size_in b) (row : ℕ) (is_row : IsRowOf b (word_between b x.start x.end) row) where
      palindrome : Palindrome (rule_of b) (named (letters_in b) l)
      palindrome = subst (Palindrome (rule_of b)) (sym named-is) is_row.palindrome

      naming : is_naming (rule_of b) identifier (letters_in b) l ≡ true
      naming = is-naming (rule_of b) identifier (letters_in b) l (agrees-is ∙ p) (omega (arith, start_is, end_is)) (omega (arith, end_is, size_is)) palindrome

      row-names : node_in b row ≡ spelt (named (letters_in b) l)
      row-names = is_row.holds ∙ ap spelt (sym named-is)

      in-marks : rank_in b row < 8 * length old
      in-marks = omega (arith, rank_below g row is_row.used is_row.high, size-most g, a.long)

      has-bit : bit_at old (rank_in b row) ≡ member (named (letters_in b) l) before
      has-bit = a.tells row (named (letters_in b) l) is_row.used is_row.high row-names

      -- the bit is set: the repeat is named already
      told-repeated : bit_at old (rank_in b row) ≡ true → Told Repeated old
      unfolding line_mark_of with_named
      told-repeated t = rw (mark-repeated (rule_of b) identifier (letters_in b) l before naming (sym has-bit ∙ t)) (refl, a)

      -- it is not: now it is
      tells-new : (r : ℕ) (v : Word) → used_in b r ≡ true → 2 ≤ r → node_in b r ≡ spelt v
          → bit_at (with_bit old (rank_in b row)) (rank_in b r) ≡ member v (named (letters_in b) l ∷ before)
      tells-new r v m i o = ⊎_elim here other (same_or_not v (named (letters_in b) l))
        where
          here : v ≡ named (letters_in b) l → bit_at (with_bit old (rank_in b row)) (rank_in b r) ≡ member v (named (letters_in b) l ∷ before)
          here f =
              let same : r ≡ row = (covers g).one-row r row m is_row.used (cc (row-names)) in
              rw (same, f) (bit-same old (rank_in b row) in-marks ∙ sym (member-first (named (letters_in b) l) before))

          other : (v ≡ named (letters_in b) l → ⊥) → bit_at (with_bit old (rank_in b row)) (rank_in b r) ≡ member v (named (letters_in b) l ∷ before)
          other f =
              let apart : rank_in b r ≢ rank_in b row = λ y. f (cc (rank-only g r row m is_row.used i is_row.high y, row-names)) in
              bit-other old (rank_in b row) (rank_in b r) in-marks apart ∙ a.tells r v m i o
              ∙ sym (member-cons v (named (letters_in b) l) before
              ∙ ap (λ (t : Bool). t || member v before)
              (not-true-false (same_word v (named (letters_in b) l)) λ y. f (same_true v (named (letters_in b) l) y)))

      stands-there : member (named (letters_in b) l) (palindromes (rule_of b) (letters_in b)) ≡ true
      unfolding named
      stands-there = palindromes-is (rule_of b) (named (letters_in b) l) (letters_in b) palindrome (named-stands (rule_of b) identifier (letters_in b) l)

      told-right : bit_at old (rank_in b row) ≡ false → Told Right (with_bit old (rank_in b row))
      unfolding line_mark_of with_named
      told-right t =
          let m : member (named (letters_in b) l) before ≡ false = sym has-bit ∙ t in
          rw (mark-right (rule_of b) identifier (letters_in b) l before naming m) (
            refl,
            record {
              long = with-length old (rank_in b row) ∙ a.long;
              tells = tells-new;
              left = omega (arith, one_less (rule_of b) (letters_in b) (named (letters_in b) l) before stands-there m, a.left);
            },
          )

      -- as the bitmap answers
      module _ {rank : ℕ} {first : Bool} {new : Word} (z : rank ≡ rank_in b row) (f : first ≡ (in_window 0 rank old && not (bit_at old (rank - 0))))
          (m : new ≡ cond first (with_bit old (rank - 0)) old) where
        first-is : first ≡ not (bit_at old (rank_in b row))
        first-is =
            let d : rank - 0 ≡ rank_in b row = omega arith in
            f ∙ rw (d, z, window-is 0 (rank_in b row) old (omega arith) (omega (arith, in-marks))) refl

        pub told-first : first ≡ true → Told Right new
        told-first t =
            let d : rank - 0 ≡ rank_in b row = omega arith in
            subst (Told Right) (sym (m ∙ rw (t, d) refl)) (told-right (not-true (bit_at old (rank_in b row)) (sym first-is ∙ t)))

        pub told-again : first ≡ false → Told Repeated new
        told-again t = subst (Told Repeated) (sym (m ∙ rw t refl)) (told-repeated (not-false (bit_at old (rank_in b row)) (sym first-is ∙ t)))
