-- The list of palindromes as it is written while the letters are read: a letter more adds a line where the palindrome that ends there is met for the first time, and nothing else. No list of
-- the first letters is longer than the whole, so a buffer with room for the whole has room for each line.
-- Rests on `prefix-listing` of palindromes.
use Prim.Native.Nat.{ℕ, zero, suc, ◌+◌, ◌-◌, ◌≤◌, ◌<◌}
use native.Mathlib.Omega.{arith}
use native.Mathlib.Nat.{add-zero}
use native.Mathlib.Numerals.{add-one}
use mathlib.Core.Path.{◌≡◌, refl, sym, ap, ◌∙◌}
use mathlib.Core.Bool.{Bool, true, false, cond}
use mathlib.Core.List.{[], ◌++◌, append-nil}
use lib.ListN.{length, take, length-append}
use lib.Seq.{take-length}
use borrow.Author.Tests.{not-true, not-false}
use Rattle.palindromes.specs.Word.{Word}
use Rattle.palindromes.specs.Place.{stands}
use Rattle.palindromes.specs.Node.{spelling_of}
use Rattle.palindromes.specs.Bed.{is_identifier, bed_line, listing}
use Rattle.palindromes.proofs.Listing.{listing-empty, prefix-listing}
use Rattle.store.specs.Layout.{size_in, letters_in}
use Rattle.store.specs.Good.{rule_of, node_in, Good}
use Rattle.store.proofs.Sizes.{letters-length}
use Rattle.identifier.proofs.Identifiers.{identifier-length}
use Rattle.walk.specs.Replay.{ending_in, Holds, new_at}
use Rattle.walk.proofs.Reading.{ending-length, ending-most}
use Rattle.listing.specs.Listing.{listing_in, line_in}

-- the list of the first k letters
abbrev pub listed : Word → Word → ℕ → Word
listed b name k = listing (rule_of b) name (take k (letters_in b))

-- a palindrome's line begins as many letters before its end as its row spells
module _ {b : Word} {k row n : ℕ} (h : Holds b k row) (e : n ≡ length (spelling_of (node_in b row))) where
  pub line-is : (name : Word) → bed_line name (k - n) k ≡ line_in b name k
  line-is name = ap (λ (m : ℕ). bed_line name (k - m) k) (e ∙ ending-length h)

  pub line-starts : n ≤ k
  line-starts = omega (arith, e ∙ ending-length h, ending-most b k)

module _ {b : Word} (g : Good b) (name : Word) where
  -- before the first letter it is empty
  pub listed-none : listed b name 0 ≡ []
  listed-none = listing-empty (rule_of b) name

  -- after the last it is the whole
  pub listed-all : (k : ℕ) → k ≡ size_in b → listed b name k ≡ listing_in b name
  listed-all k e = let f : k ≡ length (letters_in b) = e ∙ sym (letters-length g.sized) in cc (take-length (letters_in b))

  module _ (k : ℕ) (l : k < size_in b) where
    -- one letter more adds the line of the palindrome that ends there, where it stood nowhere before
    more : listed b name (k + 1) ≡ listed b name k ++ cond (stands (ending_in b (k + 1)) (take k (letters_in b))) [] (line_in b name (k + 1))
    more = cc (add-one k, prefix-listing (rule_of b) name (letters_in b) k (omega (arith, letters-length g.sized)))

    -- a new one adds its line
    pub listed-new : new_at b k ≡ true → listed b name (k + 1) ≡ listed b name k ++ line_in b name (k + 1)
    listed-new e = cc (more, not-true (stands (ending_in b (k + 1)) (take k (letters_in b))) e)

    -- any other nothing
    pub listed-old : new_at b k ≡ false → listed b name (k + 1) ≡ listed b name k
    listed-old e = cc (more, append-nil (listed b name k), not-false (stands (ending_in b (k + 1)) (take k (letters_in b))) e)

    -- so many bytes
    pub listed-length : length (listed b name (k + 1)) ≡ length (listed b name k) + cond (new_at b k) (length (line_in b name (k + 1))) 0
    listed-length = go (new_at b k) refl
      where
        go : (t : Bool) → new_at b k ≡ t → length (listed b name (k + 1)) ≡ length (listed b name k) + cond t (length (line_in b name (k + 1))) 0
        go true e = ap length (listed-new e) ∙ length-append (listed b name k) (line_in b name (k + 1))
        go false e = ap length (listed-old e) ∙ sym (add-zero (length (listed b name k)))

    -- the numbers of a line are small, and so is the name
    pub line_small : (n : ℕ) → is_identifier name ≡ true → (length name ≤ 32) × (k + 1 - n < 65536) × (k + 1 < 65536)
    line_small n h =
        let end : k + 1 < 65536 = omega (arith, g.sized.letters-fit, g.sized.at_most) in
        (identifier-length name h, omega arith, end)

  -- no list of the first letters is longer than the whole
  pub listed-most : (k : ℕ) → k ≤ size_in b → length (listed b name k) ≤ length (listing_in b name)
  listed-most k h = go (size_in b - k) k (omega arith)
    where
      go : (d k : ℕ) → k + d ≡ size_in b → length (listed b name k) ≤ length (listing_in b name)
      go zero k e = omega (arith, ap length (listed-all k (sym (add-zero k) ∙ e)))
      go (suc d) k e = omega (arith, listed-length k (omega arith), go d (k + 1) (omega arith))
