-- What is missing, and a line's mark by the tests of its definition: a right line makes one repeat less. Rests on the laws of lists without repetition.
use Prim.Native.Nat.{ℕ, suc, ◌-◌, ◌≤◌, ◌<◌}
use mathlib.Core.Path.{◌≡◌, refl, sym, ap, ◌∙◌}
use mathlib.Core.Bool.{Bool, true, false, ◌&&◌, ◌||◌, not, and-false}
use mathlib.Core.List.{List, [], ◌∷◌}
use lib.Dec.{leb, ltb}
use lib.ListN.{length, take, drop, take-append-drop, length-drop}
use lib.Seq.{length-take-le}
use borrow.Author.Tests.{ltb-true, leb-true, lt-ltb, le-ltb, le-leb, lt-leb}
use Rattle.palindromes.specs.Word.{Word, same_word, member, keep}
use Rattle.palindromes.specs.Palindrome.{Palindrome, is_palindrome}
use Rattle.palindromes.specs.Place.{Prefix, Suffix, Stands}
use Rattle.palindromes.specs.Record.{palindromes, count}
use Rattle.palindromes.specs.Sheet.{Line}
use Rattle.palindromes.specs.Marks.{is_naming, named, right, repeated, wrong, mark_of, missing_from}
use Rattle.palindromes.proofs.Tests.{both_true, both-are, not-true-false, same_true, palindrome-true, palindrome-is}
use Rattle.palindromes.proofs.Lists.{not-in-nil, member-cons, member-first, member-keep, keep_all, once-keep, once-same-length}
use Rattle.palindromes.proofs.Words.{stands-trans, suffix-stands, prefix-stands}
use Rattle.palindromes.proofs.Intervals.{word-between}
use Rattle.palindromes.proofs.Palindromes.{palindromes-is, palindromes-once}

-- ---- what is missing

-- before the first line all are
pub all-missing : (σ : ℕ → ℕ) (s : Word) → missing_from σ s [] ≡ count σ s
unfolding missing_from count
all-missing σ s = ap length (keep_all (λ p. not (member p [])) (palindromes σ s) λ v m. ap not (not-in-nil v))

-- a repeat that was not named is named: one less
pub one_less : (σ : ℕ → ℕ) (s w : Word) (before : List Word) → member w (palindromes σ s) ≡ true → member w before ≡ false
    → suc (missing_from σ s (w ∷ before)) ≡ missing_from σ s before
unfolding missing_from
one_less σ s w before m n =
    once-same-length (w ∷ keep new (palindromes σ s)) (keep old (palindromes σ s)) (
      member-keep w new (palindromes σ s) ∙ ap (λ (t : Bool). member w (palindromes σ s) && not t) (member-first w before)
          ∙ and-false (member w (palindromes σ s)),
      once-keep new (palindromes σ s) (palindromes-once σ s),
    )
    (once-keep old (palindromes σ s) (palindromes-once σ s)) same
  where
    new : Word → Bool
    new p = not (member p (w ∷ before))

    old : Word → Bool
    old p = not (member p before)

    here : (v : Word) → v ≡ w → member v (keep old (palindromes σ s)) ≡ true
    here v e = rw e (member-keep w old (palindromes σ s) ∙ both-are (member w (palindromes σ s)) (old w) m (ap not n))

    go : (v : Word) (t : Bool) → same_word v w ≡ t
        → (t || (member v (palindromes σ s) && not (t || member v before))) ≡ member v (keep old (palindromes σ s))
    go v true e = sym (here v (same_true v w e))
    go v false e = sym (member-keep v old (palindromes σ s))

    same : (v : Word) → member v (w ∷ keep new (palindromes σ s)) ≡ member v (keep old (palindromes σ s))
    same v =
        member-cons v w (keep new (palindromes σ s))
        ∙ ap (λ (t : Bool). same_word v w || t)
        (member-keep v new (palindromes σ s) ∙ ap (λ (t : Bool). member v (palindromes σ s) && not t) (member-cons v w before))
        ∙ go v (same_word v w) refl

-- ---- marks, by the tests of their definition

module _ (σ : ℕ → ℕ) (identifier s : Word) (l : Line) where
  pub mark-wrong : (before : List Word) → is_naming σ identifier s l ≡ false → mark_of σ identifier s before l ≡ wrong
  unfolding mark_of
  mark-wrong before h = rw h

  pub mark-repeated : (before : List Word) → is_naming σ identifier s l ≡ true → member (named s l) before ≡ true
      → mark_of σ identifier s before l ≡ repeated
  unfolding mark_of
  mark-repeated before h m = rw (h, m)

  pub mark-right : (before : List Word) → is_naming σ identifier s l ≡ true → member (named s l) before ≡ false
      → mark_of σ identifier s before l ≡ right
  unfolding mark_of
  mark-right before h m = rw (h, m)

  pub not-agreeing : same_word l.name identifier ≡ false → is_naming σ identifier s l ≡ false
  unfolding is_naming
  not-agreeing h = rw h

  pub not-below : l.end ≤ l.start → is_naming σ identifier s l ≡ false
  unfolding is_naming
  not-below h = simp (le-ltb l.start l.end h, and-false)

  pub too_far : length s < l.end → is_naming σ identifier s l ≡ false
  unfolding is_naming
  too_far h = simp (lt-leb l.end (length s) h, and-false)

  pub no-repeat : (Palindrome σ (named s l) → ⊥) → is_naming σ identifier s l ≡ false
  unfolding is_naming
  no-repeat h = simp (not-true-false (is_palindrome σ (named s l)) (λ t. h (palindrome-true σ (named s l) t)), and-false)

  pub is-naming : same_word l.name identifier ≡ true → l.start < l.end → l.end ≤ length s → Palindrome σ (named s l)
      → is_naming σ identifier s l ≡ true
  unfolding is_naming
  is-naming a h k p = simp (a, lt-ltb l.start l.end h, le-leb l.end (length s) k, palindrome-is σ (named s l) p)

  -- what a line that names one tells: its places, and the repeat
  pub record Naming : Type 0 where
    pub below : l.start < l.end
    pub fits : l.end ≤ length s
    pub palindrome : Palindrome σ (named s l)

  pub naming-true : is_naming σ identifier s l ≡ true → Naming
  unfolding is_naming
  naming-true h =
      let agrees = same_word l.name identifier in
      let below = ltb l.start l.end in
      let fits = leb l.end (length s) in
      let repeat = both_true (agrees && below && fits) (is_palindrome σ (named s l)) h in
      let end = both_true (agrees && below) fits repeat.0 in
      record {
        below = ltb-true l.start l.end (both_true agrees below end.0).1;
        fits = leb-true l.end (length s) end.1;
        palindrome = palindrome-true σ (named s l) repeat.1;
      }

  pub named-stands : Stands (named s l) s
  unfolding named
  named-stands = rw (word-between l.start l.end s) (stands-trans (suffix-stands end) (prefix-stands begin))
    where
      end : Suffix (drop l.start (take l.end s)) (take l.end s)
      end = record { before = take l.start (take l.end s); whole = take-append-drop l.start (take l.end s) }

      begin : Prefix (take l.end s) s
      begin = record { after = drop l.end s; whole = take-append-drop l.end s }

  pub naming-repeat : is_naming σ identifier s l ≡ true → member (named s l) (palindromes σ s) ≡ true
  naming-repeat h = palindromes-is σ (named s l) s (naming-true h).palindrome named-stands

  pub named-length : l.end ≤ length s → length (named s l) ≡ l.end - l.start
  unfolding named
  named-length h =
      ap length (word-between l.start l.end s) ∙ length-drop l.start (take l.end s)
      ∙ ap (λ (n : ℕ). n - l.start) (length-take-le l.end s h)
