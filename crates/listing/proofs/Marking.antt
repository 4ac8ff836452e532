-- The marks of a walk over the letters: each step marks the row of the longest palindrome that then ends what is read, so that a palindrome of the window has
-- its mark exactly if it stands in what is read; and it is met for the first time exactly if its row has no mark yet. Rests on what one letter more brings
-- (`met-other`, `met-ending` of the walk), on the laws of bits, and on those of a good store's rows: no two rows in use have the same rank.
use Prim.Native.Nat.{ℕ, ◌+◌, ◌-◌, ◌*◌, ◌/◌, ◌≤◌, ◌<◌}
use native.Mathlib.Omega.{arith}
use native.Mathlib.Decide.{dec_lt}
use mathlib.Core.Path.{◌≡◌, refl, sym, ap, ◌∙◌, subst}
use mathlib.Core.Bool.{Bool, true, false, cond, ◌&&◌, not, and-false, and-true}
use mathlib.Core.Logic.{◌≢◌, ⊎_elim}
use mathlib.Core.List.{[]}
use lib.ListN.{length, get_or, take}
use borrow.Author.Tests.{not-false}
use Rattle.palindromes.specs.Word.{Word}
use Rattle.palindromes.specs.Place.{stands}
use Rattle.palindromes.specs.Node.{spelt}
use Rattle.palindromes.specs.Refusal.{scratch_size}
use Rattle.palindromes.proofs.Tests.{both-are, not-true-false, false-not-true}
use Rattle.palindromes.proofs.Words.{same_or_not, stands-of-empty}
use Rattle.palindromes.proofs.Places.{stands-true}
use Rattle.bitmap.specs.Bitmap.{bit_at, with_bit, in_window}
use Rattle.bitmap.proofs.Bits.{bit-same, bit-other, bit-none, with-length, window-true, window-is}
use Rattle.eertree.proofs.Rows.{word_row}
use Rattle.store.specs.Layout.{size_in, rank_in, used_in, letters_in}
use Rattle.store.specs.Good.{node_in, Good}
use Rattle.transitions.proofs.Rows.{covers, rank_below, rank-only}
use Rattle.walk.specs.Replay.{ending_in, Holds, new_at}
use Rattle.walk.proofs.Reading.{holds-first, root-old, met-other, met-ending, ending-row}
use Rattle.listing.specs.Reading.{ReadTo, ReadOn}
use Rattle.listing.proofs.Stores.{bit-over}

-- ---- bits and ranks

-- the scratch has a bit for each letter, and with a byte less it would not
pub scratch-bits : (n : ℕ) → (n ≤ 8 * scratch_size n) × (8 * scratch_size n < n + 8)
unfolding scratch_size
scratch-bits n = (omega arith, omega arith)

module _ {b : Word} (g : Good b) where
  -- a mark lies in the bytes that the letters' number of bits take
  mark-byte : (r from : ℕ) → used_in b r ≡ true → 2 ≤ r → (rank_in b r - from) / 8 < scratch_size (size_in b)
  mark-byte r from u l = omega (arith, rank_below g r u l, (scratch-bits (size_in b)).0)

  -- ---- the first letter

  -- before it no palindrome stands, and nothing is marked
  pub reads_first : (from : ℕ) (marks : Word) → ((i : ℕ) → i < scratch_size (size_in b) → i < length marks → get_or marks i 0 ≡ 0)
      → ReadTo b from 0 1 marks
  reads_first from marks none =
      record {
        ends = holds-first g;
        tells = λ r w u l e i.
            let p = word_row (covers g) r u l in
            let f : w ≡ p.0 = cc p.1 in
            let out : stands w [] ≡ false = not-true-false (stands w []) λ s. p.2.non-empty (cc (stands-of-empty (stands-true w [] s))) in
            bit-none marks (rank_in b r - from) (none ((rank_in b r - from) / 8) (mark-byte r from u l) (within (window-true from (rank_in b r) marks i)))
            ∙ sym out;
      }
    where
      within : {x : ℕ} → (from ≤ x) × (x < from + 8 * length marks) → (x - from) / 8 < length marks
      within {x} h = omega (arith, h.0, h.1)

  -- ---- one letter more

  module _ {from k row last : ℕ} {marks : Word} (l : k < size_in b) (a : ReadTo b from k row marks) (h : Holds b (k + 1) last) where
    -- where it stood before nothing is marked
    reads_old : new_at b k ≡ false → ReadOn b from k marks last false marks
    reads_old o =
        record {
          reads = record { ends = h; tells = λ r w u m e i. a.tells r w u m e i ∙ same r w u e };
          first-is = sym (ap (λ (t : Bool). t && in_window from (rank_in b last) marks) o);
          kept = λ w m. refl;
        }
      where
        same : (r : ℕ) (w : Word) → used_in b r ≡ true → node_in b r ≡ spelt w
            → stands w (take k (letters_in b)) ≡ stands w (take (k + 1) (letters_in b))
        same r w u e = ⊎_elim (λ i. cc (met-ending g l h, not-false (stands (ending_in b (k + 1)) (take k (letters_in b))) o)) (met-other g l h r w u e)
            (same_or_not w (ending_in b (k + 1)))

    -- so it is if it has a root's row
    pub reads-root : last < 2 → ReadOn b from k marks last false marks
    reads-root m = reads_old (root-old g k h m)

    -- where its rank is beyond the window nothing is marked either
    reads-beyond : (in_window from (rank_in b last) marks ≡ false) → ReadOn b from k marks last false marks
    reads-beyond o =
        record {
          reads = record { ends = h; tells = λ r w u m e i. a.tells r w u m e i ∙ met-other g l h r w u e (apart r w u e i) };
          first-is = sym (ap (λ (t : Bool). new_at b k && t) o ∙ and-false (new_at b k));
          kept = λ w m. refl;
        }
      where
        apart : (r : ℕ) (w : Word) → used_in b r ≡ true → node_in b r ≡ spelt w → in_window from (rank_in b r) marks ≡ true
            → w ≡ ending_in b (k + 1) → ⊥
        apart r w u e i f = false-not-true o (subst (λ (q : ℕ). in_window from (rank_in b q) marks ≡ true) (ending-row g l h r w u e f) i)

    -- where its row has no mark it gets one
    reads-new : 2 ≤ last → in_window from (rank_in b last) marks ≡ true → bit_at marks (rank_in b last - from) ≡ false
        → ReadOn b from k marks last true (with_bit marks (rank_in b last - from))
    reads-new n i z =
        record {
          reads = record { ends = h; tells = tells };
          first-is = sym (both-are (new_at b k) (in_window from (rank_in b last) marks)
              (ap not (sym (a.tells last (ending_in b (k + 1)) h.used n h.holds i) ∙ z)) i);
          kept = λ w m. bit-over marks at w (omega (arith, mark-byte last from h.used n, m));
        }
      where
        at : ℕ
        at = rank_in b last - from

        fits : at < 8 * length marks
        fits = let x = window-true from (rank_in b last) marks i in omega (arith, x.0, x.1)

        tells : (r : ℕ) (w : Word) → used_in b r ≡ true → 2 ≤ r → node_in b r ≡ spelt w → in_window from (rank_in b r) (with_bit marks at) ≡ true
            → bit_at (with_bit marks at) (rank_in b r - from) ≡ stands w (take (k + 1) (letters_in b))
        tells r w u m e j = ⊎_elim here other (same_or_not w (ending_in b (k + 1)))
          where
            here : w ≡ ending_in b (k + 1) → bit_at (with_bit marks at) (rank_in b r - from) ≡ stands w (take (k + 1) (letters_in b))
            here f = let q = ending-row g l h r w u e f in cc (met-ending g l h, bit-same marks at fits)

            other : (w ≡ ending_in b (k + 1) → ⊥) → bit_at (with_bit marks at) (rank_in b r - from) ≡ stands w (take (k + 1) (letters_in b))
            other f =
                let p : rank_in b r ≢ rank_in b last = λ o. f (cc (rank-only g r last u h.used m n o, h.holds)) in
                let x = window-true from (rank_in b r) (with_bit marks at) j in
                let y = window-is from (rank_in b r) marks x.0 (omega (arith, x.1, with-length marks at)) in
                bit-other marks at (rank_in b r - from) fits (λ o. p (omega (arith, x.0, (window-true from (rank_in b last) marks i).0)))
                ∙ a.tells r w u m e y ∙ met-other g l h r w u e f

    -- the row's rank marked, whether that is in the window or not
    pub reads-marked : 2 ≤ last → {rank : ℕ} {first : Bool} {new : Word} → rank ≡ rank_in b last
        → first ≡ (in_window from rank marks && not (bit_at marks (rank - from))) → new ≡ cond first (with_bit marks (rank - from)) marks
        → ReadOn b from k marks last first new
    reads-marked n p e f = rw (f, e, p) (go (in_window from (rank_in b last) marks) (bit_at marks (rank_in b last - from)) refl refl)
      where
        go : (has set : Bool) → in_window from (rank_in b last) marks ≡ has → bit_at marks (rank_in b last - from) ≡ set
            → ReadOn b from k marks last (has && not set) (cond (has && not set) (with_bit marks (rank_in b last - from)) marks)
        go false set i z = reads-beyond i
        go true true i z = reads_old (ap not (sym (a.tells last (ending_in b (k + 1)) h.used n h.holds i) ∙ z))
        go true false i z = reads-new n i z

  -- where the window has every rank, a palindrome is met for the first time exactly if it is new
  pub met-new : {k row : ℕ} {first : Bool} {old marks : Word} → ReadOn b 0 k old row first marks → size_in b ≤ 8 * length old → first ≡ new_at b k
  met-new {k} {row} {first} {old} a m = a.first-is ∙ go (dec_lt row 2)
    where
      go : Dec (row < 2) → (new_at b k && in_window 0 (rank_in b row) old) ≡ new_at b k
      go (yes h) = rw (root-old g k a.reads.ends h) refl
      go (no h) = let i = window-is 0 (rank_in b row) old (omega arith) (omega (arith, rank_below g row a.reads.ends.used (omega arith), m)) in
          rw i (and-true (new_at b k))
