-- Which row each repeat has in a record that is made anew of its letters, as a turn to the other reading does: the first of `palindromes`, which are listed by their first ends, has row 2, the next one row 3, and
-- so on. Rests on the order of an opened store, which is the rising one and which no addition changes, and on `palindromes-snoc`: a letter at the right lists its repeat, if it is new, behind the others.
use Prim.Native.Nat.{ℕ, ◌+◌, ◌≤◌, ◌<◌}
use native.Mathlib.Decide.{dec_lt}
use native.Mathlib.Omega.{arith}
use mathlib.Core.Path.{◌≡◌, refl, sym, ap, ap₂, ◌∙◌, subst}
use mathlib.Core.Bool.{Bool, true, false, not, cond}
use mathlib.Core.List.{List, [], ◌∷◌, ◌++◌}
use lib.ListN.{length, get_or, get_or-append}
use lib.Seq.{get_or_at}
use borrow.Author.Tests.{lt-ltb}
use Rattle.palindromes.specs.Word.{Word, is_letter, all_letters}
use Rattle.palindromes.specs.Reading.{rule_in}
use Rattle.palindromes.specs.Place.{stands}
use Rattle.palindromes.specs.Record.{palindromes, count, longest_suffix}
use Rattle.palindromes.specs.End.{at_right, added, longest_at}
use Rattle.palindromes.specs.Node.{spelt}
use Rattle.palindromes.proofs.Tests.{both_true}
use Rattle.palindromes.proofs.Palindromes.{fresh, palindromes-snoc, count-snoc}
use Rattle.store.specs.Layout.{capacity_in, size_in, count_in, reading_in, order_in, rank_in, used_in, letters_in}
use Rattle.store.specs.Good.{rule_of, node_in, Good}
use Rattle.transitions.specs.Rows.{row_of, free_row}
use Rattle.transitions.specs.Opening.{opened}
use Rattle.transitions.specs.Addition.{longest_after, brings_in, after_addition}
use Rattle.transitions.specs.Turning.{after_additions, turned}
use Rattle.transitions.proofs.Rows.{used-is, count_most, row-of}
use Rattle.transitions.proofs.Opening.{opened-capacity, opened-order, opened-count}
use Rattle.transitions.proofs.Added.{Added, addition}
use Rattle.transitions.proofs.Turned.{can-take, letters-few, turned-other, turning}

-- the repeats of a store, by their first ends
abbrev listed : Word → List Word
listed b = palindromes (rule_of b) (letters_in b)

-- the rows are taken in rising order, and each holds the repeat whose turn it is
record InOrder (b : Word) : Type 0 where
  rising : (i : ℕ) → i < capacity_in b → order_in b i ≡ i + 2
  holds : (i : ℕ) → i < count_in b → node_in b (i + 2) ≡ spelt (get_or (listed b) i [])

module _ {b : Word} (g : Good b) (r : InOrder b) where
  in_use : (i : ℕ) → i < count_in b → used_in b (i + 2) ≡ true
  in_use i h =
      let below : i < capacity_in b = omega (arith, count_most g, g.sized.letters-fit) in
      let rank : rank_in b (i + 2) ≡ i = ap (rank_in b) (sym (r.rising i below)) ∙ (g.order i below).back in
      used-is b (i + 2) (omega arith) (omega arith) ∙ lt-ltb (rank_in b (i + 2)) (count_in b) (omega (arith, rank))

  -- so the row of a repeat is its place in the list, and two more
  its-row : (i : ℕ) → i < count_in b → row_of b (spelt (get_or (listed b) i [])) ≡ i + 2
  its-row i h = row-of g (i + 2) (spelt (get_or (listed b) i [])) (in_use i h) (r.holds i h)

  -- ---- a letter more at the right

  module _ (c : ℕ) (l : is_letter c ≡ true) (room : size_in b < capacity_in b) where
    abbrev after : Word
    after = after_addition at_right c b

    abbrev v : Word
    v = longest_suffix (rule_of b) (letters_in b ++ (c ∷ []))

    a : Added at_right c b
    a = addition at_right g l room

    listed-after : listed after ≡ listed b ++ fresh v (letters_in b)
    unfolding added
    listed-after = ap₂ (λ (m : ℕ) (t : Word). palindromes (rule_in m) t) a.reading a.letters ∙ palindromes-snoc (rule_of b) (letters_in b) c

    count-after : count_in after ≡ count_in b + cond (stands v (letters_in b)) 0 1
    unfolding added
    count-after = a.count-is ∙ count-snoc (rule_of b) (letters_in b) c ∙ ap (λ (n : ℕ). n + cond (stands v (letters_in b)) 0 1) (sym g.count-is)

    -- those before it stay in their rows
    old : (i : ℕ) → i < count_in b → node_in after (i + 2) ≡ spelt (get_or (listed after) i [])
    unfolding count
    old i h =
        (a.old_row (i + 2) (in_use i h)).1 ∙ r.holds i h
        ∙ ap spelt (sym (ap (λ (t : List Word). get_or t i []) listed-after ∙ get_or-append (listed b) (fresh v (letters_in b)) [] i (omega (arith, g.count-is))))

    -- and a new one has the next
    new : stands v (letters_in b) ≡ false → node_in after (count_in b + 2) ≡ spelt (get_or (listed after) (count_in b) [])
    unfolding fresh count free_row brings_in longest_after longest_at added
    new e =
        let next : free_row b ≡ count_in b + 2 = r.rising (count_in b) (omega (arith, count_most g)) in
        let end : listed after ≡ listed b ++ (v ∷ []) = listed-after ∙ ap (λ (t : Bool). listed b ++ cond t [] (v ∷ [])) e in
        ap (node_in after) (sym next) ∙ (a.new_row (ap not e)).1 ∙ ap spelt (sym (ap (λ (t : List Word). get_or t (count_in b) []) end ∙ get_or_at (listed b) v [] [] (count_in b) (sym g.count-is)))

    one_more : InOrder after
    one_more =
        record {
          rising = λ i h. a.order i (omega (arith, a.capacity)) ∙ r.rising i (omega (arith, a.capacity));
          holds = λ i h. go i h (dec_lt i (count_in b)) (stands v (letters_in b)) refl;
        }
      where
        go : (i : ℕ) → i < count_in after → Dec (i < count_in b) → (t : Bool) → stands v (letters_in b) ≡ t → node_in after (i + 2) ≡ spelt (get_or (listed after) i [])
        go i h (yes p) t e = old i p
        go i h (no p) true e = absurd (omega (arith, count-after, ap (λ (t : Bool). cond {A = ℕ} t 0 1) e))
        go i h (no p) false e =
            let last : i ≡ count_in b = omega (arith, count-after, ap (λ (t : Bool). cond {A = ℕ} t 0 1) e) in
            subst (λ (j : ℕ). node_in after (j + 2) ≡ spelt (get_or (listed after) j [])) (sym last) (new e)

-- ---- all letters

letters-in-order : (w : Word) {b : Word} → Good b → InOrder b → all_letters w ≡ true → size_in b + length w ≤ capacity_in b → InOrder (after_additions at_right w b)
unfolding after_additions all_letters
letters-in-order [] g r all room = r
letters-in-order (c ∷ w) {b} g r all room =
    let valid = both_true (is_letter c) (all_letters w) all in
    let a = addition at_right g valid.0 (omega arith) in
    letters-in-order w a.good (one_more g r c valid.0 (omega arith)) valid.1 (omega (arith, a.capacity, a.size))

-- 02 (vii): after a turn to the other reading the repeats have rows 2, 3, .. in the order of their first ends
pub rows-by-first-end : (n : ℕ) {b : Word} → n < 2 → Good b → (reading_in b ≡ n → ⊥) → (i : ℕ) → i < count (rule_in n) (letters_in b)
    → row_of (turned n b) (spelt (get_or (palindromes (rule_in n) (letters_in b)) i [])) ≡ i + 2
rows-by-first-end n {b} below g differ i h =
    let z = g.sized in
    let k = capacity_in b in
    let start = can-take n k b below z.at_least_one z.at_most z.long-enough (letters_in b) (letters-few g) in
    let empty : InOrder (opened n k b) =
    record {
      rising = λ j l. opened-order n k b below z.at_most z.long-enough j (omega (arith, opened-capacity n k b below z.at_most z.long-enough));
      holds = λ j l. absurd (omega (arith, opened-count n k b below z.at_most z.long-enough));
    } in
    let full : InOrder (turned n b) = subst InOrder (sym (turned-other n b differ)) (letters-in-order (letters_in b) start.0 empty g.letters start.1) in
    let m = turning n below g in
    let same : listed (turned n b) ≡ palindromes (rule_in n) (letters_in b) = ap₂ (λ (r : ℕ) (t : Word). palindromes (rule_in r) t) m.reading m.letters in
    let all : count_in (turned n b) ≡ count (rule_in n) (letters_in b) = m.good.count-is ∙ ap₂ (λ (r : ℕ) (t : Word). count (rule_in r) t) m.reading m.letters in
    subst (λ (l : List Word). row_of (turned n b) (spelt (get_or l i [])) ≡ i + 2) same (its-row m.good full i (omega (arith, all)))
