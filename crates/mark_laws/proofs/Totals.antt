-- How the four counts hang together: right and missing are the distinct repeats, `right-missing`, and right, repeated and wrong the lines, `all_lines`,
-- of which there are no more than bytes, `lines-few`. Rests on `one_less`.
use Prim.Native.Nat.{ℕ, suc, ◌+◌, ◌-◌, ◌≤◌}
use native.Mathlib.Omega.{arith}
use mathlib.Core.Path.{◌≡◌, refl, ap, ◌∙◌}
use mathlib.Core.Bool.{Bool, true, false, cond}
use mathlib.Core.List.{List, [], ◌∷◌}
use mathlib.Core.Option.{Option, none, some}
use lib.Dec.{eqb}
use lib.ListN.{length}
use Rattle.palindromes.specs.Word.{Word, member}
use Rattle.palindromes.specs.Record.{count}
use Rattle.palindromes.specs.Sheet.{in_first, split, Line, line_of, with_line, lines_of, sheet_lines, lines_in}
use Rattle.palindromes.specs.Marks.{is_naming, named, Mark, right, repeated, wrong, mark_of, counted, with_named, missing_from, counts_from, counts_of, sheet_counts}
use Rattle.mark_laws.proofs.Missing.{all-missing, one_less, mark-wrong, mark-repeated, mark-right, naming-repeat}

-- which mark a line has, with why
pub data Marks (σ : ℕ → ℕ) (identifier s : Word) (before : List Word) (l : Line) : Type 0 where
  is-wrong : is_naming σ identifier s l ≡ false → mark_of σ identifier s before l ≡ wrong → Marks σ identifier s before l
  is-repeated : is_naming σ identifier s l ≡ true → member (named s l) before ≡ true → mark_of σ identifier s before l ≡ repeated
      → Marks σ identifier s before l
  is_right : is_naming σ identifier s l ≡ true → member (named s l) before ≡ false → mark_of σ identifier s before l ≡ right
      → Marks σ identifier s before l

module _ (σ : ℕ → ℕ) (identifier s : Word) where
  pub marks : (before : List Word) (l : Line) → Marks σ identifier s before l
  marks before l = go (is_naming σ identifier s l) (member (named s l) before) refl refl
    where
      go : (t u : Bool) → is_naming σ identifier s l ≡ t → member (named s l) before ≡ u → Marks σ identifier s before l
      go false u e f = is-wrong e (mark-wrong σ identifier s l before e)
      go true true e f = is-repeated e f (mark-repeated σ identifier s l before e f)
      go true false e f = is_right e f (mark-right σ identifier s l before e f)

  -- the counts of a line and of those below it
  pub counts-cons : (before : List Word) (l : Line) (ls : List Line) (m : Mark) → mark_of σ identifier s before l ≡ m
      → counts_from σ identifier s before (l ∷ ls) ≡ counted m (counts_from σ identifier s (with_named m (named s l) before) ls)
  unfolding counts_from
  counts-cons before l ls m e = ap (λ (n : Mark). counted n (counts_from σ identifier s (with_named n (named s l) before) ls)) e

  right-missing-from : (before : List Word) (ls : List Line) → let t = counts_from σ identifier s before ls in
      t.right + t.missing ≡ missing_from σ s before
  unfolding counts_from counted with_named
  right-missing-from before [] = omega arith
  right-missing-from before (l ∷ ls) = go (λ b. right-missing-from b ls) (marks before l)
    where
      go : ((b : List Word) → (counts_from σ identifier s b ls).right + (counts_from σ identifier s b ls).missing ≡ missing_from σ s b)
          → Marks σ identifier s before l
          → (counts_from σ identifier s before (l ∷ ls)).right + (counts_from σ identifier s before (l ∷ ls)).missing ≡ missing_from σ s before
      go ih (is-wrong e m) = rw m (ih before)
      go ih (is-repeated e f m) = rw m (ih before)
      go ih (is_right e f m) = rw m (omega (arith, ih (named s l ∷ before), one_less σ s (named s l) before (naming-repeat σ identifier s l e) f))

  lines-from : (before : List Word) (ls : List Line) → let t = counts_from σ identifier s before ls in t.right + t.repeated + t.wrong ≡ length ls
  unfolding counts_from counted with_named
  lines-from before [] = omega arith
  lines-from before (l ∷ ls) = go (λ b. lines-from b ls) (mark_of σ identifier s before l)
    where
      go : ((b : List Word)
          → (counts_from σ identifier s b ls).right + (counts_from σ identifier s b ls).repeated + (counts_from σ identifier s b ls).wrong ≡ length ls)
          → (m : Mark)
          → let t = counted m (counts_from σ identifier s (with_named m (named s l) before) ls) in t.right + t.repeated + t.wrong ≡ suc (length ls)
      go ih right = omega (arith, ih (named s l ∷ before))
      go ih repeated = omega (arith, ih before)
      go ih wrong = omega (arith, ih before)

  -- right + missing is the number of distinct repeats
  pub right-missing : (sheet : Word) → (sheet_counts σ identifier s sheet).right + (sheet_counts σ identifier s sheet).missing ≡ count σ s
  unfolding sheet_counts counts_of
  right-missing sheet = right-missing-from [] (lines_in (sheet_lines sheet)) ∙ all-missing σ s

  -- right + repeated + wrong is the number of lines
  pub all_lines : (sheet : Word) → let t = sheet_counts σ identifier s sheet in t.right + t.repeated + t.wrong ≡ length (lines_in (sheet_lines sheet))
  unfolding sheet_counts counts_of
  all_lines sheet = lines-from [] (lines_in (sheet_lines sheet))

-- ---- lines and bytes

-- a text has at most one part more than bytes
parts-few : (c : ℕ) (w : Word) → length (split c w) ≤ suc (length w)
unfolding split in_first
parts-few c [] = omega arith
parts-few c (b ∷ w) = go (eqb b c) (split c w) (parts-few c w)
  where
    go : (t : Bool) (ws : List Word) → length ws ≤ suc (length w) → length (cond t ([] ∷ ws) (in_first b ws)) ≤ suc (suc (length w))
    go true ws h = omega (arith, h)
    go false [] h = omega arith
    go false (v ∷ ws) h = omega (arith, h)

-- and the last part is no line
lines-of-parts : (ws : List Word) → length (lines_in (lines_of ws)) ≤ length ws - 1
unfolding lines_of lines_in with_line
lines-of-parts [] = omega arith
lines-of-parts ([] ∷ []) = omega arith
lines-of-parts ((b ∷ w) ∷ []) = omega arith
lines-of-parts (w ∷ v ∷ ws) = go (line_of (split 9 w)) (lines_of (v ∷ ws)) (lines-of-parts (v ∷ ws))
  where
    go : (o : Option Line) (p : Option (List Line)) → length (lines_in p) ≤ suc (length ws) - 1
        → length (lines_in (with_line o p)) ≤ suc (suc (length ws)) - 1
    go none p h = omega arith
    go (some l) none h = omega arith
    go (some l) (some ls) h = omega (arith, h)

pub lines-few : (sheet : Word) → length (lines_in (sheet_lines sheet)) ≤ length sheet
unfolding sheet_lines
lines-few sheet = omega (arith, lines-of-parts (split 10 sheet), parts-few 10 sheet)
