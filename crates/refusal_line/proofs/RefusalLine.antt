-- The line of a refusal as it is written part by part, and how long it is.
-- Rests on the laws of `decimal`. Assumes nothing.
use Prim.Native.Nat.{ℕ, ◌+◌, ◌≤◌, ◌<◌}
use native.Mathlib.Omega.{arith}
use mathlib.Core.Path.{◌≡◌, ap, ap₂, ◌∙◌}
use mathlib.Core.List.{[], ◌∷◌, ◌++◌}
use lib.ListN.{length, set, length-append}
use lib.Seq.{sets, length-sets}
use Rattle.palindromes.specs.Word.{Word}
use Rattle.palindromes.specs.Bed.{decimal}
use Rattle.decimal.proofs.Decimal.{at-most-five}
use Rattle.decimal.proofs.Stores.{sets-append}
use Rattle.refusal_line.specs.RefusalLine.{refused_line}

-- the words of a refusal's line
abbrev pub words : Word
words = 35 ∷ 32 ∷ 114 ∷ 101 ∷ 102 ∷ 117 ∷ 115 ∷ 101 ∷ 100 ∷ 32 ∷ []

module _ (l m n : Word) (i j k : ℕ) (s : m ≡ sets l 0 words) (p : i ≡ 0 + length words) (t : n ≡ sets m i (decimal k)) (q : j ≡ i + length (decimal k)) where
  -- the words and the digits, stored one after the other
  digits-written : n ≡ sets l 0 (words ++ decimal k)
  digits-written = t ∙ ap₂ (λ (x : Word) (y : ℕ). sets x y (decimal k)) s p ∙ sets-append l 0 words (decimal k)

  digits-end : j ≡ 0 + length (words ++ decimal k)
  digits-end = omega (arith, length-append words (decimal k))

  -- and an LF behind them
  pub line-written : set n j 10 ≡ sets l 0 (refused_line k)
  unfolding refused_line
  line-written = ap₂ (λ (x : Word) (y : ℕ). set x y 10) digits-written digits-end ∙ sets-append l 0 (words ++ decimal k) (10 ∷ [])

  pub line-end : j + 1 ≡ length (refused_line k)
  unfolding refused_line
  line-end = omega (arith, digits-end, length-append (words ++ decimal k) (10 ∷ []))

  -- the buffer keeps its length, and has room for it all
  pub line-fits : k < 65536 → 16 ≤ length l → j < length n
  line-fits h f = omega (arith, at-most-five k h, ap length digits-written, length-sets l 0 (words ++ decimal k))

  pub line-length : length n ≡ length l
  line-length = ap length digits-written ∙ length-sets l 0 (words ++ decimal k)

-- a line has at most 16 bytes
pub refused-line-most : (k : ℕ) → k < 65536 → length (refused_line k) ≤ 16
unfolding refused_line
refused-line-most k h = omega (arith, length-append (words ++ decimal k) (10 ∷ []), length-append words (decimal k), at-most-five k h)
