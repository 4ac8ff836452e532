-- The length of the list, window by window: the lines whose palindromes have their ranks below a number are so many bytes long; a window adds those of its own, and at the count of palindromes
-- they are all. Each palindrome has one rank, below the count.
-- Rests on `Lines` and on the rows of a good store. Assumes nothing.
use Prim.Native.Nat.{ℕ, zero, suc, ◌+◌, ◌*◌, ◌≤◌, ◌<◌}
use native.Mathlib.Omega.{arith}
use native.Mathlib.Numerals.{add-one}
use native.Mathlib.Decide.{dec_lt}
use mathlib.Core.Path.{◌≡◌, refl, sym, ap, ◌∙◌}
use mathlib.Core.Bool.{Bool, true, false, cond, ◌&&◌, and-false}
use lib.Dec.{ltb}
use lib.ListN.{length, take}
use borrow.Author.Tests.{lt-ltb, le-ltb}
use Rattle.palindromes.specs.Word.{Word}
use Rattle.palindromes.specs.Node.{spelt}
use Rattle.palindromes.specs.Bed.{is_identifier}
use Rattle.palindromes.proofs.Tests.{false-not-true}
use Rattle.palindromes.proofs.Words.{suffix-stands, stands-trans}
use Rattle.palindromes.proofs.Longest.{longest-suffix}
use Rattle.bitmap.specs.Bitmap.{in_window}
use Rattle.bitmap.proofs.Bits.{window-is, window-not}
use Rattle.bed.proofs.Listing.{listing-most}
use Rattle.store.specs.Layout.{size_in, rank_in, count_in, letters_in}
use Rattle.store.specs.Good.{rule_of, Good}
use Rattle.store.proofs.Sizes.{letters-length}
use Rattle.transitions.specs.Rows.{row_of}
use Rattle.transitions.proofs.Rows.{row-of, row-of-node, used-rank}
use Rattle.walk.specs.Replay.{ending_in, Holds, new_at}
use Rattle.walk.proofs.Reading.{read-stands, root-old}
use Rattle.listing.specs.Listing.{listing_in, line_in, rank_at, length_below}
use Rattle.listing.specs.Reading.{ReadOn}
use Rattle.listing.proofs.Lines.{listed, listed-none, listed-all, listed-length, listed-most}

-- what a window adds to the lines of lower ranks
window-adds : (new : Bool) (from rank : ℕ) (old : Word) (n : ℕ)
    → cond (new && in_window from rank old) n 0 + cond (new && ltb rank from) n 0 ≡ cond (new && ltb rank (from + 8 * length old)) n 0
window-adds false from rank old n = refl
window-adds true from rank old n = go (dec_lt rank from) (dec_lt rank (from + 8 * length old))
  where
    go : Dec (rank < from) → Dec (rank < from + 8 * length old) → cond (in_window from rank old) n 0 + cond (ltb rank from) n 0 ≡ cond (ltb rank (from + 8 * length old)) n 0
    go (yes h) (yes k) = rw (window-not from rank old λ x y. omega arith, lt-ltb rank from h, lt-ltb rank (from + 8 * length old) k) (omega arith)
    go (yes h) (no k) = absurd (omega arith)
    go (no h) (yes k) = rw (window-is from rank old (omega arith) k, le-ltb rank from (omega arith), lt-ltb rank (from + 8 * length old) k) (omega arith)
    go (no h) (no k) = rw (window-not from rank old λ x y. k y, le-ltb rank from (omega arith), le-ltb rank (from + 8 * length old) (omega arith)) refl

-- a part is no longer than the whole
part : (new low : Bool) (n : ℕ) → cond (new && low) n 0 ≤ cond new n 0
part false low n = omega arith
part true false n = omega arith
part true true n = omega arith

module _ (b name : Word) where
  -- a letter more adds its line, where that is new and of a rank below t
  below_more : (t k : ℕ) → length_below b name t (k + 1) ≡ length_below b name t k + cond (new_at b k && ltb (rank_at b (k + 1)) t) (length (line_in b name (k + 1))) 0
  unfolding length_below
  below_more t k = ap (length_below b name t) (add-one k)

  -- no rank is below 0
  pub below_none : (k : ℕ) → length_below b name 0 k ≡ 0
  unfolding length_below
  below_none zero = refl
  below_none (suc k) = rw (below_none k, le-ltb (rank_at b (k + 1)) 0 (omega arith), and-false (new_at b k)) refl

module _ {b : Word} (g : Good b) (name : Word) where
  -- ---- one letter more, in a window

  module _ {from k row : ℕ} {first : Bool} {old marks : Word} (a : ReadOn b from k old row first marks) where
    -- a window that ends with `to` has the lines below `to` and not those below `from`: what the letter adds there
    within : (to : ℕ) → to ≡ from + 8 * length old
        → cond first (length (line_in b name (k + 1))) 0 + (length_below b name from (k + 1) + length_below b name to k) ≡ length_below b name to (k + 1) + length_below b name from k
    within to h =
        let e : rank_at b (k + 1) ≡ rank_in b row = ap (rank_in b) (row-of g row (spelt (ending_in b (k + 1))) a.reads.ends.used a.reads.ends.holds) in
        let w = window-adds (new_at b k) from (rank_at b (k + 1)) old (length (line_in b name (k + 1))) in
        let f : first ≡ (new_at b k && in_window from (rank_at b (k + 1)) old) = cc a.first-is in
        rw h (omega (arith, w, ap (λ (t : Bool). cond t (length (line_in b name (k + 1))) 0) f, below_more b name from k, below_more b name (from + 8 * length old) k))

    module _ (total to : ℕ) (m : to ≡ from + 8 * length old) (h : total + length_below b name from k ≡ length_below b name to k) where
      -- the palindrome of the window that is met for the first time adds its line
      pub within_new : first ≡ true → total + length (line_in b name (k + 1)) + length_below b name from (k + 1) ≡ length_below b name to (k + 1)
      within_new e = omega (arith, h, within to m, ap (λ (t : Bool). cond t (length (line_in b name (k + 1))) 0) e)

      -- any other nothing
      pub within-old : first ≡ false → total + length_below b name from (k + 1) ≡ length_below b name to (k + 1)
      within-old e = omega (arith, h, within to m, ap (λ (t : Bool). cond t (length (line_in b name (k + 1))) 0) e)

  -- ---- all windows

  -- the lines below a rank are no longer than all
  below-part : (t k : ℕ) → k ≤ size_in b → length_below b name t k ≤ length (listed b name k)
  unfolding length_below
  below-part t zero h = omega arith
  below-part t (suc k) h =
      let m = part (new_at b k) (ltb (rank_at b (k + 1)) t) (length (line_in b name (k + 1))) in
      omega (arith, add-one k, below-part t k (omega arith), m, listed-length g name k (omega arith), ap (λ (n : ℕ). length (listed b name n)) (add-one k))

  pub below-most : (t : ℕ) → is_identifier name ≡ true → length_below b name t (size_in b) ≤ 46080
  below-most t h =
      let n = letters-length g.sized in
      omega (
        arith,
        below-part t (size_in b) (omega arith),
        listed-most g name (size_in b) (omega arith),
        n,
        g.sized.letters-fit,
        g.sized.at_most,
        listing-most (rule_of b) name (letters_in b) h (omega (arith, n, g.sized.letters-fit, g.sized.at_most)),
      )

  -- the palindrome that ends the first letters has a row
  ending-holds : (k : ℕ) → Holds b k (row_of b (spelt (ending_in b k)))
  ending-holds k =
      let e = longest-suffix (rule_of b) (take k (letters_in b)) in
      let h = row-of-node g (spelt (ending_in b k)) (e.symmetric, stands-trans (suffix-stands e.suffix) (read-stands (letters_in b) k)) in
      record { used = h.0; holds = h.1 }

  -- a new palindrome has a rank below the count
  new-rank : (k : ℕ) → new_at b k ≡ true → rank_at b (k + 1) < count_in b
  new-rank k n = go (dec_lt row 2)
    where
      row : ℕ
      row = row_of b (spelt (ending_in b (k + 1)))

      holds : Holds b (k + 1) row
      holds = ending-holds (k + 1)

      go : Dec (row < 2) → rank_in b row < count_in b
      go (yes l) = absurd (false-not-true (root-old g k holds l) n)
      go (no l) = used-rank b row (omega arith) holds.used

  -- so the lines below the count are all
  below-whole : (t k : ℕ) → count_in b ≤ t → k ≤ size_in b → length_below b name t k ≡ length (listed b name k)
  unfolding length_below
  below-whole t zero c h = sym (ap length (listed-none g name))
  below-whole t (suc k) c h =
      let f = listed-length g name k (omega arith) in
      cc (add-one k, below-whole t k c (omega arith), low (new_at b k) refl, f)
    where
      low : (new : Bool) → new_at b k ≡ new → cond (new && ltb (rank_at b (k + 1)) t) (length (line_in b name (k + 1))) 0 ≡ cond new (length (line_in b name (k + 1))) 0
      low false e = refl
      low true e = rw (lt-ltb (rank_at b (k + 1)) t (omega (arith, new-rank k e))) refl

  pub below_all : (t : ℕ) → count_in b ≤ t → length_below b name t (size_in b) ≡ length (listing_in b name)
  below_all t c = below-whole t (size_in b) c (omega arith) ∙ ap length (listed-all g name (size_in b) refl)
