-- What a removal finds in a good store, and the bytes that its writes leave. What is known of the end says which row is the end's without the letter, and whether the palindrome there goes (`parted`).
-- What is read and written of a row that goes lies within the store, before
-- and after the letter has left (`leaf`, `leaf-kept`). Last, the writes of the code are those that the definitions name (`removed-gone`, `removed-kept`).
-- Rests on the laws of a good store (`Rows` of transitions), on `gone-high` of `RemovedBytes` and on the frame laws of the store.
use Prim.Native.Nat.{ℕ, ◌+◌, ◌-◌, ◌≤◌}
use native.Mathlib.Omega.{arith}
use mathlib.Core.Path.{◌≡◌, refl, sym, ap, ap₂, ◌∙◌, subst₂}
use mathlib.Core.Bool.{Bool, true, false, cond, not}
use mathlib.Core.List.{[], ◌∷◌, ◌++◌}
use lib.Dec.{eqb}
use lib.ListN.{length, take, drop}
use lib.IntN.{pos}
use lib.Seq.{sets, length-sets}
use Rattle.std.specs.Prelude.{Option, Some, None}
use Rattle.std.specs.Bool.{then_some}
use Rattle.palindromes.specs.Word.{Word}
use Rattle.palindromes.specs.End.{End, other, removed, letter_at, longest_at}
use Rattle.palindromes.specs.Node.{spelt, length_of}
use Rattle.palindromes.proofs.Letters.{letter-byte}
use Rattle.store.specs.Layout.{capacity_in, size_in, count_in, end_row, length_in, link_in, inner_in, outer_in, order_in, rank_in, used_in, letters_at, letters_in}
use Rattle.store.specs.Good.{rule_of, Good}
use Rattle.store.specs.Writes.{writes, carried_writes}
use Rattle.store.proofs.Writes.{cell-sets, writes-append}
use Rattle.store.proofs.Sizes.{used-below}
use Rattle.walk.proofs.Stores.{header-fits}
use Rattle.transitions.specs.Removal.{longest_before, takes_out, drop_writes, loss_writes, leave_writes, removal_writes, after_removal}
use Rattle.transitions.proofs.RemovedBytes.{end-holds, gone-high}
use Rattle.transitions.proofs.Rows.{covers, used-rank, used-fits, row_fits, row-of, count_most, outer-letter}
use Rattle.ends.specs.Steps.{end_writes}
use Rattle.ends.specs.Reach.{Reaches}
use Rattle.ends.specs.declared.Reach.{Reach}
use Rattle.freeing.specs.Steps.{Leaves}
use Rattle.length_counts.specs.Steps.{CarriedFor}
use Rattle.length_counts.specs.declared.Carried.{Carried}
use Rattle.removal.specs.declared.Parting.{Parting}
use Rattle.removal.specs.Steps.{last_row, opposite_row, Parts}

module _ {b : Word} (g : Good b) (e : End) where
  -- ---- what is found

  -- the length of the longest palindrome at the end
  pub end-length : length_in b (end_row b e) ≡ pos (length (longest_before e b))
  unfolding length_of
  end-length = g.table.length-is (end_row b e) (g.ends e).used ∙ ap length_of (end-holds e g)

  -- all that the code reads, and what it is told of the end, is what the definitions name
  pub parted : {base n row link letter x : ℕ} {reach : Reach} {gone : Option ℕ} → base ≡ letters_at (capacity_in b) → n ≡ size_in b → row ≡ end_row b e
      → Reaches b (used_in b) e (letters_in b) reach → letter ≡ letter_at e (take n (drop base b)) → link ≡ link_in b row
      → x ≡ cond (eqb (length (longest_before e b)) n) link (end_row b (other e)) → gone ≡ then_some (not reach.again) row
      → Parts b e (record { letter = letter; gone = gone; last = reach.short; opposite = x })
  unfolding letters_in takes_out longest_before
  parted {reach} i j k h l m y z =
      record {
        letter-is = cc;
        gone-is = z ∙ ap₂ then_some (ap not h.again-is) k;
        last-is = sym (row-of g reach.short (spelt (longest_at (rule_of b) e (removed e (letters_in b)))) h.short-used h.short-holds);
        opposite-is = cc;
      }

-- ---- the row that goes

some-row : (t : Bool) (q r : ℕ) → then_some t q ≡ Some r → (t ≡ true) × (r ≡ q)
some-row true q r e = (refl, cc)
some-row false q r e = cc

no-row : (t : Bool) (q : ℕ) → then_some t q ≡ None → t ≡ false
no-row true q e = cc
no-row false q e = refl

module _ {b : Word} {e : End} {p : Parting} (h : Parts b e p) where
  -- where one is found, the palindrome there goes, and the row is the end's
  pub goes : {row : ℕ} → p.gone ≡ Some row → (takes_out e b ≡ true) × (row ≡ end_row b e)
  goes {row} i = some-row (takes_out e b) (end_row b e) row (sym h.gone-is ∙ i)

  -- where none is found it stays
  pub stays : p.gone ≡ None → takes_out e b ≡ false
  stays i = no-row (takes_out e b) (end_row b e) (sym h.gone-is ∙ i)

-- what is read and written of a row that is no root lies within the store
pub leaf : {b : Word} → Good b → (q : ℕ) → used_in b q ≡ true → 2 ≤ q → Leaves b q
leaf {b} g q u l =
    let r = used-rank b q l u in
    let n = count_most g in
    let z = g.sized.letters-fit in
    record {
      header = header-fits g.sized;
      row = used-fits g q u;
      inner = used-fits g (inner_in b q) ((covers g).inner-is q u).0;
      outer = letter-byte (outer_in b q) (outer-letter g q u l);
      rank = row_fits g.sized (rank_in b q + 2) (omega arith);
      some = omega arith;
      last = row_fits g.sized (count_in b - 1 + 2) (omega arith);
      moved = row_fits g.sized (order_in b (count_in b - 1)) (g.order (count_in b - 1) (omega arith)).high;
    }

-- ---- the letters written, the rows stay

module _ {b : Word} (g : Good b) (q : ℕ) (u : used_in b q ≡ true) (l : 2 ≤ q) (w : Word) where
  -- the store with other letters
  abbrev relettered : Word
  relettered = sets b (letters_at (capacity_in b)) w

  same-inner : inner_in relettered q ≡ inner_in b q
  unfolding inner_in
  same-inner = cell-sets b (letters_at (capacity_in b)) w q 2 (omega arith) (omega (arith, used-below b q u))

  same-outer : outer_in relettered q ≡ outer_in b q
  unfolding outer_in
  same-outer = cell-sets b (letters_at (capacity_in b)) w q 3 (omega arith) (omega (arith, used-below b q u))

  same_rank : rank_in relettered q ≡ rank_in b q
  unfolding rank_in
  same_rank = cell-sets b (letters_at (capacity_in b)) w q 9 (omega arith) (omega (arith, used-below b q u))

  same_count : count_in relettered ≡ count_in b
  unfolding count_in
  same_count = cell-sets b (letters_at (capacity_in b)) w 0 10 (omega arith) (omega arith)

  same-last : order_in relettered (count_in b - 1) ≡ order_in b (count_in b - 1)
  unfolding order_in
  same-last =
      cell-sets b (letters_at (capacity_in b)) w (count_in b - 1 + 2) 8 (omega arith) (omega (arith, used-rank b q l u, count_most g, g.sized.letters-fit))

  -- so the row may still be freed
  pub leaf-kept : Leaves relettered q
  leaf-kept =
      let h = leaf g q u l in
      let n = length-sets b (letters_at (capacity_in b)) w in
      record {
        header = omega (arith, h.header);
        row = omega (arith, h.row);
        inner = omega (arith, h.inner, same-inner);
        outer = omega (arith, h.outer, same-outer);
        rank = omega (arith, h.rank, same_rank);
        some = omega (arith, h.some, same_count);
        last = omega (arith, h.last, same_count);
        moved = rw (same_count, same-last) (omega (arith, h.moved));
      }

  -- and what is written of it is the same
  drop-kept : drop_writes relettered q ≡ drop_writes b q
  unfolding drop_writes
  drop-kept = rw (same_count, same-last, same-inner, same-outer, same_rank)

-- ---- the bytes

module _ {b : Word} (g : Good b) (e : End) where
  -- the letter has left: the row of the palindrome that goes may be freed
  pub leaf-left : (n : ℕ) {p : Word} {base q : ℕ} → base ≡ letters_at (capacity_in b) → q ≡ end_row b e → takes_out e b ≡ true
      → p ≡ sets b base (removed e (take n (drop base b)) ++ (0 ∷ [])) → Leaves p q
  leaf-left n {base} i k gone hp =
      subst₂ Leaves (sym (hp ∙ ap (λ (at : ℕ). sets b at (removed e (take n (drop base b)) ++ (0 ∷ []))) i)) (sym k)
      (leaf-kept g (end_row b e) (g.ends e).used (gone-high e g gone) (removed e (take n (drop base b)) ++ (0 ∷ [])))

  -- with the palindrome
  pub removed-gone : {p r v z : Word} {base n q last x : ℕ} {carried : Carried} → base ≡ letters_at (capacity_in b) → n ≡ size_in b → q ≡ end_row b e → takes_out e b ≡ true
      → last ≡ last_row b e → x ≡ opposite_row b e → CarriedFor (rule_of b) (removed e (letters_in b)) (length (longest_before e b)) carried
      → p ≡ sets b base (removed e (take n (drop base b)) ++ (0 ∷ [])) → r ≡ writes p (drop_writes p q) → v ≡ writes r (carried_writes carried.length carried.count carried.longest)
      → z ≡ writes v (end_writes e (n - 1) last x) → z ≡ after_removal e b
  unfolding after_removal removal_writes loss_writes leave_writes letters_in writes
  removed-gone i j k gone m y c hp hr hv hz =
      let w = removed e (letters_in b) ++ (0 ∷ []) in
      let d = drop-kept g (end_row b e) (g.ends e).used (gone-high e g gone) w in
      rw gone
      (cc (
        d,
        c.length-is,
        c.count-is,
        c.longest-is,
        writes-append (sets b (letters_at (capacity_in b)) w) (drop_writes b (end_row b e) ++ loss_writes e b) (leave_writes e b),
        writes-append (sets b (letters_at (capacity_in b)) w) (drop_writes b (end_row b e)) (loss_writes e b),
      ))

  -- without it
  pub removed-kept : {p z : Word} {base n last x : ℕ} → base ≡ letters_at (capacity_in b) → n ≡ size_in b → takes_out e b ≡ false
      → last ≡ last_row b e → x ≡ opposite_row b e
      → p ≡ sets b base (removed e (take n (drop base b)) ++ (0 ∷ [])) → z ≡ writes p (end_writes e (n - 1) last x) → z ≡ after_removal e b
  unfolding after_removal removal_writes leave_writes letters_in writes
  removed-kept i j kept m y hp hz = rw kept (cc)
