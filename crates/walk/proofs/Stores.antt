-- What a store of the right sizes gives to code that reads it: the header, each used row and the letters lie within it, and the letters that a frame of it shows are its letters.
-- Assumes nothing.
use Prim.Native.Nat.{ℕ, ◌+◌, ◌-◌, ◌≤◌}
use native.Mathlib.Omega.{arith}
use mathlib.Core.Path.{◌≡◌, ap, ◌∙◌}
use lib.ListN.{length, take, drop}
use Rattle.palindromes.specs.Word.{Word}
use Rattle.palindromes.specs.Reading.{rule_in}
use Rattle.palindromes.specs.Refusal.{store_size}
use Rattle.store.specs.Layout.{capacity_in, size_in, used_in, letters_at, letters_in}
use Rattle.store.specs.Good.{rule_of, Sized}
use Rattle.store.specs.Side.{end_of}
use Rattle.store.specs.Writes.{towards}
use Rattle.store.specs.declared.letters.Side.{Side}
use Rattle.store.specs.declared.letters.Side.TheVariants.{Right}
use Rattle.store.proofs.Sizes.{used-below}
use Rattle.walk.specs.Frame.{Frames, standing_in, seen_in, partner_in, Within}
use Rattle.walk.specs.Replay.{letters_towards}
use Rattle.walk.specs.declared.frame.Frame.{Frame}
use Rattle.walk.proofs.Found.{RowsFit}

-- ---- sizes

module _ {b : Word} (z : Sized b) where
  -- the rows and the places of the letters lie within the store
  pub store_long : letters_at (capacity_in b) + capacity_in b ≤ length b
  unfolding store_size
  store_long = omega (arith, z.long-enough)

  -- so does the header, in rows 0 and 1
  pub header-fits : 48 ≤ length b
  header-fits = omega (arith, store_long)

  -- so does each used row
  pub rows_fit : RowsFit b (used_in b)
  rows_fit r u = omega (arith, store_long, used-below b r u)

-- ---- the frame

module _ {b : Word} {f : Frame} (h : Frames b f) where
  -- the letters that code reads with the frame of a store are the store's
  pub framed-letters : (side : Side) → seen_in b f side ≡ letters_towards b (end_of side)
  unfolding letters_in
  framed-letters side = rw (h.reading-is, h.base-is, h.size_is)

  -- at the right as they stand, whether a partner is asked for or not
  pub framed-right : seen_in b f Right ≡ letters_in b
  unfolding towards
  framed-right = framed-letters Right

  pub framed-standing : standing_in b f Right ≡ letters_in b
  unfolding towards
  framed-standing = framed-right

  -- they are the part of the store from the base on to the last of them
  pub framed-part : take (f.base + f.n - f.base) (drop f.base b) ≡ letters_in b
  unfolding towards
  framed-part =
      let all : f.base + f.n - f.base ≡ f.n = omega arith in
      ap (λ (n : ℕ). take n (drop f.base b)) all ∙ framed-standing

  -- and so is the partner rule
  pub framed-rule : (d : ℕ) → partner_in f d ≡ rule_of b d
  framed-rule d = ap (λ (m : ℕ). rule_in m d) h.reading-is

  -- and they lie within it; any number of them may have been read
  pub framed-within : Sized b → (k : ℕ) → k ≤ size_in b → Within b f k
  framed-within z k l =
      record {
        letters = omega (arith, h.base-is, h.size_is, store_long z, z.letters-fit);
        read = omega (arith, h.size_is);
        small = omega (arith, h.size_is, z.letters-fit, z.at_most);
      }
