-- The list `palindromes` gone through end by end: what is left of it after the first e letters, and what one letter more takes off.
-- Holds for any partner rule, self-inverse or not.
-- Rests on `palindromes-snoc`: one letter more adds the longest palindrome at the right end where it is fresh, and nothing else.
use Prim.Native.Nat.{ℕ, zero, suc, ◌+◌, ◌-◌, ◌<◌, ◌≤◌}
use native.Mathlib.Nat.{le_refl}
use native.Mathlib.Omega.{arith}
use mathlib.Core.Path.{◌≡◌, refl, sym, ap, ◌∙◌}
use mathlib.Core.Bool.{Bool, true, false, cond, not}
use mathlib.Core.List.{List, [], ◌∷◌, ◌++◌, map, append_assoc, append-nil}
use denote.Ref.{Bor}
use lib.ListN.{length, get_or, take, drop, length-append, take-append-drop, drop_of_length-le}
use lib.Seq.{append_snoc, drop_at, take-append_seam, length-take-le, take-length}
use borrow.Author.Tests.{ne_eqb}
use Rattle.std.specs.Prelude.{Option, Some, None, MatchOption, nat_eq}
use Rattle.std.specs.Option.{option_map, unwrap_or}
use Rattle.std.specs.List.{filter, range_with_len, slice_get}
use Rattle.std.proofs.lemmas.Option.{unwrap_or-slice_get}
use Rattle.palindromes.specs.Word.{Word}
use Rattle.palindromes.specs.Place.{Suffix, stands}
use Rattle.palindromes.specs.Record.{palindromes, count, longest_suffix}
use Rattle.palindromes.specs.End.{without_last, at_right, added, removed}
use Rattle.palindromes.proofs.Words.{suffix_refl, suffix_trans, suffix-empty, suffix-stands, suffix-length, removed-added}
use Rattle.palindromes.proofs.Places.{stands-false}
use Rattle.palindromes.proofs.Longest.{longest-suffix}
use Rattle.palindromes.proofs.Palindromes.{fresh, palindromes-empty, palindromes-snoc}
use Rattle.reference_listing.specs.Listed.{new_at_end, part}
use Rattle.reference_symmetry.proofs.Turns.{take-one, drop-one}

-- ---- the word at an end

-- all but the last letter, as the code lends it
pub without-last : (w : Word) → without_last w ≡ take (length w - 1) w
unfolding without_last
without-last [] = refl
without-last (x ∷ []) = refl
without-last (x ∷ y ∷ w) =
    let e : suc (suc (length w)) - 1 ≡ suc (suc (length w) - 1) = omega arith in
    ap {B = Word} (λ u. x ∷ u) (without-last (y ∷ w)) ∙ ap (λ (n : ℕ). take n (x ∷ y ∷ w)) (sym e)

-- a suffix of the first e letters is where its length says
pub suffix-part : {v : Word} (s : Word) (e : ℕ) → e ≤ length s → Suffix v (take e s) → part s (e - length v) e ≡ v
suffix-part {v} s e h p =
    let l : length p.before + length v ≡ e = omega (arith, simp length-append at (ap length p.whole), length-take-le e s h) in
    let n : length p.before ≡ e - length v = omega arith in
    let m : e - (e - length v) ≡ length v = omega arith in
    cc (
      m,
      p.whole,
      take-append-drop e s,
      append_assoc p.before v (drop e s),
      drop_at p.before (v ++ drop e s) (e - length v) n,
      take-append_seam v (drop e s),
    )

-- whether a word has a letter, as the code tests it
abbrev pub non-empty : Word → Bool
non-empty w = not (nat_eq (length w) 0)

non-empty-cons : (x : ℕ) (w : Word) → non-empty (x ∷ w) ≡ true
non-empty-cons x w = ap not (ne_eqb (length (x ∷ w)) 0 (λ e. omega arith))

-- a word that does not stand in t has a letter
some-letter : (w t : Word) → stands w t ≡ false → non-empty w ≡ true
some-letter [] t e = absurd (stands-false [] t e (suffix-stands (suffix-empty t)))
some-letter (x ∷ w) t e = non-empty-cons x w

-- a word that is fresh, with the empty word in the place of one that is not
fresh-step : (w t : Word) (rest : List Word) → fresh w t ++ rest ≡ cond (non-empty (cond (stands w t) [] w)) (cond (stands w t) [] w ∷ rest) rest
unfolding fresh
fresh-step w t rest = go (stands w t) refl
  where
    go : (b : Bool) → stands w t ≡ b → cond b [] (w ∷ []) ++ rest ≡ cond (non-empty (cond b [] w)) (cond b [] w ∷ rest) rest
    go true e = refl
    go false e = sym (ap (λ (b : Bool). cond b (w ∷ rest) rest) (some-letter w t e))

module _ (σ : ℕ → ℕ) where
  -- the new palindrome at the end of w is the longest there, or empty
  new-shorter : (w : Word) → Suffix (new_at_end σ w) (longest_suffix σ w)
  unfolding new_at_end
  new-shorter w = go (stands (longest_suffix σ w) (without_last w))
    where
      go : (t : Bool) → Suffix (cond t [] (longest_suffix σ w)) (longest_suffix σ w)
      go true = suffix-empty (longest_suffix σ w)
      go false = suffix_refl

  new-suffix : (w : Word) → Suffix (new_at_end σ w) w
  new-suffix w = suffix_trans (new-shorter w) (longest-suffix σ w).suffix

  -- the longest palindrome at the end of w, as the code finds it there
  module _ (w : Word) (l : ℕ) (longest : l ≡ length (longest_suffix σ w)) where
    pub longest-within : l ≤ length w
    longest-within = omega (arith, suffix-length (longest-suffix σ w).suffix)

    -- it is new exactly if it does not stand in all but the last letter
    new-tested : (t : Bool) → t ≡ stands (part w (length w - l) (length w)) (take (length w - 1) w) → new_at_end σ w ≡ cond t [] (longest_suffix σ w)
    unfolding new_at_end
    new-tested t e =
        cc (
          without-last w,
          suffix-part {v = longest_suffix σ w} w (length w) (le_refl (length w)) (rw take-length (longest-suffix σ w).suffix),
        )

    pub new-stood : stands (part w (length w - l) (length w)) (take (length w - 1) w) ≡ true → 0 ≡ length (new_at_end σ w)
    new-stood t = cc (new-tested true (sym t))

    pub new-found : stands (part w (length w - l) (length w)) (take (length w - 1) w) ≡ false → l ≡ length (new_at_end σ w)
    new-found t = cc (new-tested false (sym t))

    -- nothing is new where the longest is empty
    pub new_none : l ≡ 0 → 0 ≡ length (new_at_end σ w)
    new_none z = omega (arith, suffix-length (new-shorter w))

  -- it lies in w, l letters back from the end
  pub new-within : (w : Word) → length (new_at_end σ w) ≤ length w
  new-within w = suffix-length (new-suffix w)

  pub new-part : (w : Word) (l : ℕ) → l ≡ length (new_at_end σ w) → part w (length w - l) (length w) ≡ new_at_end σ w
  new-part w l e =
      ap (λ (n : ℕ). part w (length w - n) (length w)) e ∙ suffix-part {v = new_at_end σ w} w (length w) (le_refl (length w)) (rw take-length (new-suffix w))

  -- ---- the list

  -- the palindromes that end first in u, behind t
  unfoldable pub new_from : Word → Word → List Word
  new_from t [] = []
  new_from t (c ∷ u) = fresh (longest_suffix σ (t ++ (c ∷ []))) t ++ new_from (t ++ (c ∷ [])) u

  listed : (t u : Word) → palindromes σ (t ++ u) ≡ palindromes σ t ++ new_from t u
  unfolding new_from
  listed t [] = cc (append-nil t, append-nil (palindromes σ t))
  listed t (c ∷ u) =
      cc (
        append_snoc t c u,
        listed (t ++ (c ∷ [])) u,
        palindromes-snoc σ t c,
        append_assoc (palindromes σ t) (fresh (longest_suffix σ (t ++ (c ∷ []))) t) (new_from (t ++ (c ∷ [])) u),
      )

  module _ (s : Word) where
    -- the palindromes that end first after the first e letters
    unfoldable pub list_left : ℕ → List Word
    list_left e = new_from (take e s) (drop e s)

    -- at first all are left
    pub left-all : palindromes σ s ≡ list_left 0
    unfolding list_left
    left-all = cc (listed [] s, palindromes-empty σ)

    -- at last none is
    pub left-none : (e : ℕ) → length s ≤ e → list_left e ≡ []
    unfolding list_left new_from
    left-none e h = ap (new_from (take e s)) (drop_of_length-le s h)

    -- the new palindrome at the end of the first e letters
    abbrev pub new : ℕ → Word
    new e = new_at_end σ (take e s)

    module _ (e : ℕ) (h : e < length s) where
      new-fresh : new (e + 1) ≡ cond (stands (longest_suffix σ (take (e + 1) s)) (take e s)) [] (longest_suffix σ (take (e + 1) s))
      unfolding new_at_end added removed
      new-fresh = cc (take-one s e h, removed-added at_right (get_or s e 0) (take e s))

      left_step : list_left e ≡ cond (non-empty (new (e + 1))) (new (e + 1) ∷ list_left (e + 1)) (list_left (e + 1))
      unfolding list_left new_from
      left_step = cc (drop-one s e h, take-one s e h, fresh-step (longest_suffix σ (take (e + 1) s)) (take e s) (list_left (e + 1)), new-fresh)

    left-filter : (n e : ℕ) → e + n ≡ length s → list_left e ≡ filter non-empty (map new (range_with_len (e + 1) n))
    left-filter zero e q = left-none e (omega arith)
    left-filter (suc n) e q = let rest = left-filter n (e + 1) (omega arith) in cc (left_step e (omega arith))

    -- the list is that of the new palindromes at the ends, where there is one
    pub palindromes-filter : palindromes σ s ≡ filter non-empty (map new (range_with_len 1 (length s)))
    palindromes-filter = left-all ∙ left-filter (length s) 0 (omega arith)

    counted : (es : List ℕ) → length (filter non-empty (map new es)) ≡ length (filter (λ (e : ℕ). non-empty (new e)) es)
    counted [] = refl
    counted (e ∷ es) = go (non-empty (new e)) (counted es)
      where
        go : (b : Bool) → length (filter non-empty (map new es)) ≡ length (filter (λ (e : ℕ). non-empty (new e)) es)
            → length (cond b (new e ∷ filter non-empty (map new es)) (filter non-empty (map new es)))
            ≡ length (cond b (e ∷ filter (λ (e : ℕ). non-empty (new e)) es) (filter (λ (e : ℕ). non-empty (new e)) es))
        go true q = ap suc q
        go false q = q

    -- their number is that of the ends that have one
    pub count-filter : count σ s ≡ length (filter (λ (e : ℕ). non-empty (new e)) (range_with_len 1 (length s)))
    unfolding count
    count-filter = ap length palindromes-filter ∙ counted (range_with_len 1 (length s))

-- the k-th of a list of words, as it is lent
pub lent : (ws : List Word) (k : ℕ) (found : Option (Bor Word)) → option_map (λ w. w.now) found ≡ slice_get ws k
    → MatchOption found (get_or ws k [] ≡ []) (λ w. w.now ≡ get_or ws k [])
lent ws k None e = sym (unwrap_or-slice_get ws k []) ∙ sym (ap (λ (o : Option Word). unwrap_or o []) e)
lent ws k (Some w) e = ap (λ (o : Option Word). unwrap_or o []) e ∙ unwrap_or-slice_get ws k []
