-- A sheet has full marks exactly if each repeat is named by one line and every line names a repeat: `full_is` and `is-full`. So a sheet with full marks has
-- them no longer once a line goes or comes twice, `dropped`, once one of its lines names another repeat or none, `changed`, or once one number of a line is
-- another, `same_end` and `same_start`. Line by line from the repeats that are named so far: each of those is due no line, and each other one line.
use Prim.Native.Nat.{ℕ, suc, ◌+◌, ◌-◌}
use native.Mathlib.Omega.{arith}
use mathlib.Core.Path.{◌≡◌, refl, sym, ap, ◌∙◌, subst}
use mathlib.Core.Bool.{Bool, true, false, cond, ◌&&◌, ◌||◌, not}
use mathlib.Core.List.Memᴰ
use mathlib.Core.List.{List, [], ◌∷◌, ◌++◌, Memᴰ}
use lib.Dec.{eqb}
use lib.ListN.{length}
use borrow.Author.Tests.{eqb-true, eq-eqb}
use Rattle.palindromes.specs.Word.{Word, same_word, member, keep}
use Rattle.palindromes.specs.Record.{palindromes}
use Rattle.palindromes.specs.Sheet.{Line}
use Rattle.palindromes.specs.Marks.{is_naming, named, right, repeated, wrong, Counts, counted, with_named, missing_from, counts_from, counts_of, full_marks}
use Rattle.palindromes.proofs.Tests.{both_true, both-are, not-true-false, false-not-true, same_true, same_refl}
use Rattle.palindromes.proofs.Lists.{not-in-nil, member-cons, member-keep, member-length, keep-none}
use Rattle.palindromes.proofs.Palindromes.{palindromes-is, palindromes-true}
use Rattle.mark_laws.specs.Full.{names, namers, Full}
use Rattle.mark_laws.proofs.Missing.{naming-true, named-stands, naming-repeat, named-length}
use Rattle.mark_laws.proofs.Totals.{Marks, is-wrong, is-repeated, is_right, marks, counts-cons}

-- counts of full marks
pub record AllRight (t : Counts) : Type 0 where
  pub repeated : t.repeated ≡ 0
  pub wrong : t.wrong ≡ 0
  pub missing : t.missing ≡ 0

full-true : (t : Counts) → full_marks t ≡ true → AllRight t
unfolding full_marks
full-true t e =
    let x = both_true (eqb t.repeated 0 && eqb t.wrong 0) (eqb t.missing 0) e in
    let y = both_true (eqb t.repeated 0) (eqb t.wrong 0) x.0 in
    record { repeated = eqb-true t.repeated 0 y.0; wrong = eqb-true t.wrong 0 y.1; missing = eqb-true t.missing 0 x.1 }

all-right-full : (t : Counts) → AllRight t → full_marks t ≡ true
unfolding full_marks
all-right-full t a =
    both-are (eqb t.repeated 0 && eqb t.wrong 0) (eqb t.missing 0)
    (both-are (eqb t.repeated 0) (eqb t.wrong 0) (eq-eqb t.repeated 0 a.repeated) (eq-eqb t.wrong 0 a.wrong))
    (eq-eqb t.missing 0 a.missing)

-- a line more names a repeat once more, or not
module _ (σ : ℕ → ℕ) (identifier s : Word) where
  pub names_more : (p : Word) (l : Line) (ls : List Line) → names σ identifier s p l ≡ true
      → namers σ identifier s p (l ∷ ls) ≡ suc (namers σ identifier s p ls)
  unfolding namers
  names_more p l ls e = rw e

  pub names-not : (p : Word) (l : Line) (ls : List Line) → names σ identifier s p l ≡ false
      → namers σ identifier s p (l ∷ ls) ≡ namers σ identifier s p ls
  unfolding namers
  names-not p l ls e = rw e

  names-its : (l : Line) → is_naming σ identifier s l ≡ true → names σ identifier s (named s l) l ≡ true
  unfolding names
  names-its l e = both-are (is_naming σ identifier s l) (same_word (named s l) (named s l)) e (same_refl (named s l))

  names-other : (p : Word) (l : Line) → same_word p (named s l) ≡ false → names σ identifier s p l ≡ false
  unfolding names
  names-other p l e = not-true-false _ λ t. false-not-true e (both_true (is_naming σ identifier s l) (same_word p (named s l)) t).1

  -- what is due to each repeat, once some are named
  abbrev due : List Word → Word → ℕ
  due before p = cond (member p before) 0 1

  record Rest (before : List Word) (ls : List Line) : Type 0 where
    pub one_line : (p : Word) → member p (palindromes σ s) ≡ true → namers σ identifier s p ls ≡ due before p
    pub no_other : (l : Line) → Memᴰ l ls → is_naming σ identifier s l ≡ true

  -- ---- no line is left

  none-due : (before : List Word) → missing_from σ s before ≡ 0 → Rest before []
  unfolding missing_from namers
  none-due before e = record { one_line = λ p m. go p m (member p before) refl; no_other = λ l m. absurd (Memᴰ.not-nil m) }
    where
      go : (p : Word) → member p (palindromes σ s) ≡ true → (t : Bool) → member p before ≡ t → ◌≡◌ {A = ℕ} 0 (cond t 0 1)
      go p m true f = refl
      go p m false f =
          let unnamed : Word → Bool = λ q. not (member q before) in
          let due = member-keep p unnamed (palindromes σ s) ∙ both-are (member p (palindromes σ s)) (unnamed p) m (ap not f) in
          absurd (omega (arith, e, member-length p (keep unnamed (palindromes σ s)) due))

  none-missing : (before : List Word) → Rest before [] → missing_from σ s before ≡ 0
  unfolding missing_from namers
  none-missing before r = ap length (keep-none (λ q. not (member q before)) (palindromes σ s) λ p m. go p m (member p before) refl)
    where
      go : (p : Word) → member p (palindromes σ s) ≡ true → (t : Bool) → member p before ≡ t → not (member p before) ≡ false
      go p m true f = ap not f
      go p m false f = absurd (omega (arith, r.one_line p m ∙ ap (λ (t : Bool). cond t 0 1) f))

  -- ---- a line more

  module _ (before : List Word) (l : Line) (ls : List Line) (e : is_naming σ identifier s l ≡ true) (f : member (named s l) before ≡ false) where
    -- the same is due to every repeat, with the line or once its repeat is named
    due-same : (p : Word) (t : Bool) → same_word p (named s l) ≡ t
        → (namers σ identifier s p (l ∷ ls) ≡ due before p → namers σ identifier s p ls ≡ due (named s l ∷ before) p)
        × (namers σ identifier s p ls ≡ due (named s l ∷ before) p → namers σ identifier s p (l ∷ ls) ≡ due before p)
    due-same p true h =
        let q = same_true p (named s l) h in
        let n : namers σ identifier s p (l ∷ ls) ≡ suc (namers σ identifier s p ls) =
        names_more p l ls (subst (λ (w : Word). names σ identifier s w l ≡ true) (sym q) (names-its l e)) in
        let x : due before p ≡ 1 = ap (λ (u : Bool). cond u 0 1) (subst (λ (w : Word). member w before ≡ false) (sym q) f) in
        let y : due (named s l ∷ before) p ≡ 0 =
        ap (λ (u : Bool). cond u 0 1) (member-cons p (named s l) before ∙ ap (λ (u : Bool). u || member p before) h) in
        (λ z. omega arith, λ z. omega arith)
    due-same p false h =
        let n : namers σ identifier s p (l ∷ ls) ≡ namers σ identifier s p ls = names-not p l ls (names-other p l h) in
        let y : due (named s l ∷ before) p ≡ due before p =
        ap (λ (u : Bool). cond u 0 1) (member-cons p (named s l) before ∙ ap (λ (u : Bool). u || member p before) h) in
        (λ z. sym n ∙ z ∙ sym y, λ z. n ∙ z ∙ y)

    rest-next : Rest before (l ∷ ls) → Rest (named s l ∷ before) ls
    rest-next r = record {
      one_line =
          λ p m. (due-same p (same_word p (named s l)) refl).0 (r.one_line p m);
      no_other = λ k m. r.no_other k (Memᴰ.tail m);
    }

    rest_back : Rest (named s l ∷ before) ls → Rest before (l ∷ ls)
    rest_back r = record { one_line = λ p m. (due-same p (same_word p (named s l)) refl).1 (r.one_line p m); no_other = go }
      where
        go : (k : Line) → Memᴰ k (l ∷ ls) → is_naming σ identifier s k ≡ true
        go k (Memᴰ.head q) = subst (λ (x : Line). is_naming σ identifier s x ≡ true) (sym q) e
        go k (Memᴰ.tail m) = r.no_other k m

  -- ---- both ways

  rest_of : (before : List Word) (ls : List Line) → AllRight (counts_from σ identifier s before ls) → Rest before ls
  unfolding counts_from counted with_named
  rest_of before [] a = none-due before a.missing
  rest_of before (l ∷ ls) a = go (λ b. rest_of b ls) (marks σ identifier s before l)
    where
      go : ((b : List Word) → AllRight (counts_from σ identifier s b ls) → Rest b ls) → Marks σ identifier s before l → Rest before (l ∷ ls)
      go ih (is-wrong e m) = absurd (let c = counts-cons σ identifier s before l ls wrong m in omega (arith, a.wrong, ap (λ (t : Counts). t.wrong) c))
      go ih (is-repeated e f m) =
          absurd (let c = counts-cons σ identifier s before l ls repeated m in omega (arith, a.repeated, ap (λ (t : Counts). t.repeated) c))
      go ih (is_right e f m) =
          let c = counts-cons σ identifier s before l ls right m in
          rest_back before l ls e f (ih (named s l ∷ before)
          (record {
            repeated = sym (ap (λ (t : Counts). t.repeated) c) ∙ a.repeated;
            wrong = sym (ap (λ (t : Counts). t.wrong) c)
                ∙ a.wrong;
            missing = sym (ap (λ (t : Counts). t.missing) c) ∙ a.missing;
          }))

  all-right-of : (before : List Word) (ls : List Line) → Rest before ls → AllRight (counts_from σ identifier s before ls)
  unfolding counts_from counted with_named
  all-right-of before [] r = record { repeated = refl; wrong = refl; missing = none-missing before r }
  all-right-of before (l ∷ ls) r = go (λ b. all-right-of b ls) (marks σ identifier s before l)
    where
      go : ((b : List Word) → Rest b ls → AllRight (counts_from σ identifier s b ls)) → Marks σ identifier s before l
          → AllRight (counts_from σ identifier s before (l ∷ ls))
      go ih (is-wrong e m) = absurd (false-not-true e (r.no_other l (Memᴰ.head refl)))
      go ih (is-repeated e f m) =
          absurd (omega (
            arith,
            r.one_line (named s l) (naming-repeat σ identifier s l e)
                ∙ ap (λ (t : Bool). cond t 0 1) f,
            names_more (named s l) l ls (names-its l e),
          ))
      go ih (is_right e f m) =
          let c = counts-cons σ identifier s before l ls right m in
          let a = ih (named s l ∷ before) (rest-next before l ls e f r) in
          record {
            repeated = ap (λ (t : Counts). t.repeated) c ∙ a.repeated;
            wrong = ap (λ (t : Counts). t.wrong) c
                ∙ a.wrong;
            missing = ap (λ (t : Counts). t.missing) c ∙ a.missing;
          }

  -- from the first line on each repeat is due one
  full-rest : (ls : List Line) → Rest [] ls → Full σ identifier s ls
  full-rest ls r = record
      { one_line = λ p q d. r.one_line p (palindromes-is σ p s q d) ∙ ap (λ (t : Bool). cond t 0 1) (not-in-nil p); no_other = r.no_other }

  rest-full : (ls : List Line) → Full σ identifier s ls → Rest [] ls
  rest-full ls r =
      record {
        one_line = λ p m. let q = palindromes-true σ p s m in r.one_line p q.0 q.1
            ∙ sym (ap (λ (t : Bool). cond t 0 1) (not-in-nil p));
        no_other = r.no_other;
      }

  -- 02 (xi) "it has them exactly if each repeat is named by one right line and no other line stands on the sheet"
  pub full_is : (ls : List Line) → full_marks (counts_of σ identifier s ls) ≡ true → Full σ identifier s ls
  unfolding counts_of
  full_is ls e = full-rest ls (rest_of [] ls (full-true (counts_from σ identifier s [] ls) e))

  pub is-full : (ls : List Line) → Full σ identifier s ls → full_marks (counts_of σ identifier s ls) ≡ true
  unfolding counts_of
  is-full ls f = all-right-full (counts_from σ identifier s [] ls) (all-right-of [] ls (rest-full ls f))

  -- ---- a line more, a line less, another line

  namers-append : (p : Word) (a b : List Line) → namers σ identifier s p (a ++ b) ≡ namers σ identifier s p a + namers σ identifier s p b
  unfolding namers
  namers-append p [] b = omega arith
  namers-append p (l ∷ a) b = go (names σ identifier s p l) (namers-append p a b)
    where
      go : (t : Bool) → namers σ identifier s p (a ++ b) ≡ namers σ identifier s p a + namers σ identifier s p b
          → cond t (suc (namers σ identifier s p (a ++ b))) (namers σ identifier s p (a ++ b))
          ≡ cond t (suc (namers σ identifier s p a)) (namers σ identifier s p a) + namers σ identifier s p b
      go true e = omega arith
      go false e = e

  in-middle : (a : List Line) (l : Line) (b : List Line) → Memᴰ l (a ++ l ∷ b)
  in-middle [] l b = Memᴰ.head refl
  in-middle (k ∷ a) l b = Memᴰ.tail (in-middle a l b)

  module _ (a : List Line) (l : Line) (b : List Line) (f : Full σ identifier s (a ++ l ∷ b)) where
    its-naming : is_naming σ identifier s l ≡ true
    its-naming = f.no_other l (in-middle a l b)

    -- no other line names what this one names
    alone : namers σ identifier s (named s l) a + namers σ identifier s (named s l) b ≡ 0
    alone =
        omega (
          arith,
          f.one_line (named s l) (naming-true σ identifier s l its-naming).palindrome (named-stands σ identifier s l),
          namers-append (named s l)
              a (l ∷ b),
          names_more (named s l) l b (names-its l its-naming),
        )

    -- a sheet with full marks has them no longer with a line less; nor, read the other way, with a line more, be it new or one of its own again
    pub dropped : Full σ identifier s (a ++ b) → ⊥
    dropped g =
        omega (
          arith,
          alone,
          namers-append (named s l) a b,
          g.one_line (named s l) (naming-true σ identifier s l its-naming).palindrome
              (named-stands σ identifier s l),
        )

    -- in the place of a line there can stand only one that names the same repeat
    pub changed : (k : Line) → Full σ identifier s (a ++ k ∷ b) → named s l ≡ named s k
    changed k g = go (same_word (named s l) (named s k)) refl
      where
        go : (t : Bool) → same_word (named s l) (named s k) ≡ t → named s l ≡ named s k
        go true h = same_true (named s l) (named s k) h
        go false h =
            absurd (omega (
              arith,
              alone,
              namers-append (named s l) a (k ∷ b),
              names-not (named s l) k b (names-other (named s l) k h),
              g.one_line (named s l)
                  (naming-true σ identifier s l its-naming).palindrome (named-stands σ identifier s l),
            ))

    -- so whoever changes one number of a line has no full marks
    module _ (k : Line) (g : Full σ identifier s (a ++ k ∷ b)) where
      as_long : l.end - l.start ≡ k.end - k.start
      as_long =
          let x = naming-true σ identifier s l its-naming in
          let y = naming-true σ identifier s k (g.no_other k (in-middle a k b)) in
          sym (named-length σ identifier s l x.fits) ∙ ap length (changed k g) ∙ named-length σ identifier s k y.fits

      pub same_end : l.start ≡ k.start → l.end ≡ k.end
      same_end e =
          let x = naming-true σ identifier s l its-naming in
          let y = naming-true σ identifier s k (g.no_other k (in-middle a k b)) in
          omega (arith, as_long, x.below, y.below)

      pub same_start : l.end ≡ k.end → l.start ≡ k.start
      same_start e =
          let x = naming-true σ identifier s l its-naming in
          let y = naming-true σ identifier s k (g.no_other k (in-middle a k b)) in
          omega (arith, as_long, x.below, y.below)
