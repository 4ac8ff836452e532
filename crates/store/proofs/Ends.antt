-- The letters that stand at a place of the bytes, seen from an end: the letter there, the letters left without it, the bytes after a letter has joined or left, and
-- the letters as a reader at the left end meets them. Rests on the laws of a written part and on the laws of the two ends of a word.
use Prim.Native.Nat.{ℕ, suc, ◌+◌, ◌-◌, ◌≤◌, ◌<◌}
use native.Mathlib.Numerals.{add-one}
use native.Mathlib.Omega.{arith}
use mathlib.Core.Path.{◌≡◌, ap, ◌∙◌}
use mathlib.Core.List.{[], ◌∷◌, ◌++◌}
use lib.ListN.{length, take, drop, get_or, set, length-drop}
use lib.Seq.{sets, get_or-take, get_or-drop, take-suc, drop-cons, length-take-le}
use Rattle.palindromes.specs.Word.{Word}
use Rattle.palindromes.specs.Palindrome.{mirror}
use Rattle.palindromes.specs.End.{End, at_left, at_right, added, removed, letter_at}
use Rattle.palindromes.proofs.Words.{removed-added, letter-added}
use Rattle.palindromes.proofs.Mirror.{mirror-at}
use Rattle.store.proofs.Parts.{sets-snoc, sets-cons}

-- where the letter at an end stands, of letters that begin at `base`, and where the m others begin
abbrev pub letter_place : End → (base m : ℕ) → ℕ
letter_place at_left base m = base
letter_place at_right base m = base + m

abbrev pub rest_place : End → (base : ℕ) → ℕ
rest_place at_left base = base + 1
rest_place at_right base = base

rest-near : (e : End) (base : ℕ) → rest_place e base ≤ base + 1
rest-near at_left base = omega arith
rest-near at_right base = omega arith

-- ---- reading

module _ (l : Word) (base n : ℕ) (fits : base + n ≤ length l) where
  -- there are n letters
  pub part_length : length (take n (drop base l)) ≡ n
  part_length = length-take-le n (drop base l) (rw length-drop (omega arith))

  -- a letter by its place
  pub part_at : (i : ℕ) → i < n → get_or (take n (drop base l)) i 0 ≡ get_or l (base + i) 0
  part_at i h = rw (get_or-take, get_or-drop)

  -- the letters are the one at an end, added to the others
  pub part-by-end : (e : End) → 0 < n → take n (drop base l) ≡ added e (get_or l (letter_place e base (n - 1)) 0) (take (n - 1) (drop (rest_place e base) l))
  unfolding added
  part-by-end at_left h =
      let more : n ≡ suc (n - 1) = omega arith in
      cc (more, drop-cons l base 0 (omega arith), add-one base)
  part-by-end at_right h =
      let more : n ≡ suc (n - 1) = omega arith in
      let long : n - 1 < length (drop base l) = rw length-drop (omega arith) in
      cc (more, take-suc (drop base l) (n - 1) 0 long, get_or-drop base l (n - 1) 0)

  -- so these are the letter at an end
  pub part-letter : (e : End) → 0 < n → letter_at e (take n (drop base l)) ≡ get_or l (letter_place e base (n - 1)) 0
  part-letter e h = ap (letter_at e) (part-by-end e h) ∙ letter-added e (get_or l (letter_place e base (n - 1)) 0) (take (n - 1) (drop (rest_place e base) l))

  -- and the letters after a removal there
  pub part-rest : (e : End) → 0 < n → removed e (take n (drop base l)) ≡ take (n - 1) (drop (rest_place e base) l)
  part-rest e h = ap (removed e) (part-by-end e h) ∙ removed-added e (get_or l (letter_place e base (n - 1)) 0) (take (n - 1) (drop (rest_place e base) l))

-- a reader at the left end meets the partners of the letters, the last one first
pub part-seen : (l : Word) (base n : ℕ) → base + n ≤ length l → (σ : ℕ → ℕ) (i : ℕ) → i < n
    → get_or (mirror σ (take n (drop base l))) i 0 ≡ σ (get_or l (base + (n - 1 - i)) 0)
part-seen l base n fits σ i h =
    let size = part_length l base n fits in
    cc (size, mirror-at σ (take n (drop base l)) i (omega arith), part_at l base n fits (n - 1 - i) (omega arith))

-- ---- writing

-- a letter joins: the others stand where they then begin, and it is put down
pub joined : (l : Word) (base n : ℕ) (e : End) (c : ℕ) → base + n ≤ length l
    → set (sets l (rest_place e base) (take n (drop base l))) (letter_place e base n) c ≡ sets l base (added e c (take n (drop base l)))
unfolding added
joined l base n at_left c h = cc (add-one base, sets-cons l base (suc base) c (take n (drop base l)) (omega arith))
joined l base n at_right c h = cc (sets-snoc l base (take n (drop base l)) n c (part_length l base n h))

-- a letter leaves: the others stand at `base`, and the last place is cleared
pub parted : (l : Word) (base n : ℕ) (e : End) → base + n ≤ length l → 0 < n
    → set (sets l base (take (n - 1) (drop (rest_place e base) l))) (base + (n - 1)) 0 ≡ sets l base (removed e (take n (drop base l)) ++ (0 ∷ []))
parted l base n e fits h =
    let rest = take (n - 1) (drop (rest_place e base) l) in
    let size : length rest ≡ n - 1 = length-take-le (n - 1) (drop (rest_place e base) l) (rw length-drop (omega (arith, rest-near e base))) in
    cc (part-rest l base n fits e h, sets-snoc l base rest (n - 1) 0 size)
