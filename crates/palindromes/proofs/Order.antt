-- The order of the list `palindromes σ s`: by first ends, which are all different, each palindrome being the longest that ends where it first ends. And the longest
-- palindrome of a record: `longest_length` is the length of one and none is longer, and at `longest_place` one of that length begins, and none further left.
-- Rests on proofs/Places.antt and proofs/Palindromes.antt, and on `first-end-longest` of proofs/Change.antt.
use Prim.Native.Nat.{ℕ, suc, ◌+◌, ◌≤◌, ◌<◌, min, max}
use native.Mathlib.Omega.{arith}
use mathlib.Core.Path.{◌≡◌, refl, ap, ◌∙◌}
use mathlib.Core.Bool.{true}
use mathlib.Core.Logic.{⊎_elim}
use mathlib.Core.List.{List, [], ◌∷◌, ◌++◌, map, append_assoc, append-nil, map-append}
use mathlib.Core.List.Memᴰ
use mathlib.Core.List.{Memᴰ}
use native.Mathlib.Decide.{dec_le}
use lib.Dec.{eqb}
use lib.ListN.{length, take, length-append, length-map}
use lib.Seq.{take_at}
use borrow.Author.Tests.{eqb-true, eq-eqb}
use Rattle.palindromes.specs.Word.{Word, member, keep}
use Rattle.palindromes.specs.Palindrome.{Palindrome}
use Rattle.palindromes.specs.Place.{Prefix, Stands, first_place}
use Rattle.palindromes.specs.Record.{palindromes, count, greatest, least, longest_length, longest_place, longest_suffix}
use Rattle.palindromes.proofs.Tests.{both_true, both-are}
use Rattle.palindromes.proofs.Words.{snoc-induction, stands-or-not, suffix-append, suffix-stands, prefix-of-snoc, stands-length}
use Rattle.palindromes.proofs.Longest.{longest-suffix}
use Rattle.palindromes.proofs.Change.{FirstEnd, first-end-longest}
use Rattle.palindromes.proofs.Lists.{member-first, member-later, member-true, member_is, member-keep, member-length}
use Rattle.palindromes.proofs.Places.{Rising, first-place, first-place-least, first-end-fits, first-place-append}
use Rattle.palindromes.proofs.Palindromes.{fresh-old, fresh-new, palindromes-true, palindromes-is, palindromes-empty, palindromes-snoc}

-- ---- first ends

-- where the word first ends in the record
abbrev end_in : Word → Word → ℕ
end_in s w = first_place w s + length w

-- the prefix of the record up to there is the one at whose end the word first ends
pub first-end-at : (w s : Word) → Stands w s → FirstEnd w (take (first_place w s + length w) s) s
first-end-at w s h =
    let f = first-place w s h in
    let b = f.0.before in
    let e : take (end_in s w) s ≡ b ++ w = cc (f.0.whole, take_at (b ++ w) f.0.after (end_in s w) (simp length-append (omega (arith, f.1)))) in
    rw e (record { begins = record { after = f.0.after; whole = f.0.whole }; ends = suffix-append b w; first = least-end b f.1 })
  where
    least-end : (b : Word) → length b ≡ first_place w s → (q : Word) → Prefix q s → Stands w q → length (b ++ w) ≤ length q
    least-end b e q p c =
        let d : Stands w s = record { before = c.before; after = c.after ++ p.after; whole = cc (append_assoc (c.before ++ w) c.after p.after, c.whole, p.whole) } in
        simp length-append (omega (arith, first-place-least w s d, simp length-append at (ap length c.whole)))

-- a word that did not stand before the last letter came first ends with it
pub first-end-new : (w s : Word) (c : ℕ) → Stands w (s ++ (c ∷ [])) → (Stands w s → ⊥) → end_in (s ++ (c ∷ [])) w ≡ suc (length s)
first-end-new w s c h out =
    let f = first-place w (s ++ (c ∷ [])) h in
    ⊎_elim (λ e. omega (arith, f.1, simp length-append at (ap length e)))
    (λ p. absurd (out (record { before = f.0.before; after = p.after; whole = p.whole })))
    (prefix-of-snoc {w = f.0.before ++ w} s c (record { after = f.0.after; whole = f.0.whole }))

-- ---- rising lists

-- rising lists joined rise, where all of the first is below all of the second
rising-append : (a b : List ℕ) → Rising a → Rising b → ((j k : ℕ) → Memᴰ j a → Memᴰ k b → j < k) → Rising (a ++ b)
rising-append [] b r q h = q
rising-append (i ∷ a) b r q h = (later, rising-append a b r.1 q λ j k m n. h j k (Memᴰ.tail m) n)
  where
    later : (j : ℕ) → Memᴰ j (a ++ b) → i < j
    later j m = ⊎_elim (λ n. r.0 j n) (λ n. h i j (Memᴰ.head refl) n) (Memᴰ.append_cases a m)

-- in a rising list a number is below what follows it
rising-cut : (a b : List ℕ) (k j : ℕ) → Rising (a ++ k ∷ b) → Memᴰ j b → k < j
rising-cut [] b k j r m = r.0 j m
rising-cut (i ∷ a) b k j r m = rising-cut a b k j r.1 m

-- functions that agree on the members map a list alike
map-agree : (f g : Word → ℕ) (l : List Word) → ((w : Word) → member w l ≡ true → f w ≡ g w) → map f l ≡ map g l
map-agree f g [] h = refl
map-agree f g (w ∷ l) h = cc (h w (member-first w l), map-agree f g l λ v m. h v (member-later v w l m))

-- ---- greatest and least

-- no number of a list is greater than the greatest, which is one of them if there is any
pub greatest-most : (k : ℕ) (l : List ℕ) → Memᴰ k l → k ≤ greatest l
unfolding greatest
greatest-most k [] m = absurd (Memᴰ.not-nil m)
greatest-most k (j ∷ l) m = ⊎_elim (λ e. omega arith) (λ n. omega (arith, greatest-most k l n)) (Memᴰ.cases_cons m)

pub greatest-in : (l : List ℕ) → 0 < length l → Memᴰ (greatest l) l
unfolding greatest
greatest-in [] h = absurd (omega arith)
greatest-in (k ∷ []) h = Memᴰ.head {x = k} (omega arith)
greatest-in (k ∷ j ∷ l) h = go (greatest-in (j ∷ l) (omega arith)) (dec_le k (max j (greatest l)))
  where
    go : Memᴰ (max j (greatest l)) (j ∷ l) → Dec (k ≤ max j (greatest l)) → Memᴰ (max k (max j (greatest l))) (k ∷ j ∷ l)
    go ih (yes e) = Memᴰ.tail (Memᴰ.cast (omega arith) ih)
    go ih (no e) = Memᴰ.head {x = k} (omega arith)

-- what bounds each number of a list bounds the greatest
pub greatest-bound : (n : ℕ) (l : List ℕ) → ((k : ℕ) → Memᴰ k l → k ≤ n) → greatest l ≤ n
unfolding greatest
greatest-bound n [] h = omega arith
greatest-bound n (k ∷ l) h = omega (arith, h k (Memᴰ.head refl), greatest-bound n l λ j m. h j (Memᴰ.tail m))

-- no number of a list is less than the least, which is one of them if there is any
pub least-least : (k : ℕ) (l : List ℕ) → Memᴰ k l → least l ≤ k
unfolding least
least-least k [] m = absurd (Memᴰ.not-nil m)
least-least k (j ∷ []) m = omega (arith, Memᴰ.eq_of_singleton m)
least-least k (j ∷ i ∷ l) m = ⊎_elim (λ e. omega arith) (λ n. omega (arith, least-least k (i ∷ l) n)) (Memᴰ.cases_cons m)

pub least-in : (l : List ℕ) → 0 < length l → Memᴰ (least l) l
unfolding least
least-in [] h = absurd (omega arith)
least-in (k ∷ []) h = Memᴰ.head refl
least-in (k ∷ j ∷ l) h = go (least-in (j ∷ l) (omega arith)) (dec_le k (least (j ∷ l)))
  where
    go : Memᴰ (least (j ∷ l)) (j ∷ l) → Dec (k ≤ least (j ∷ l)) → Memᴰ (min k (least (j ∷ l))) (k ∷ j ∷ l)
    go ih (yes e) = Memᴰ.head {x = k} (omega arith)
    go ih (no e) = Memᴰ.tail (Memᴰ.cast (omega arith) ih)

module _ (σ : ℕ → ℕ) where
  -- ---- the order of the list

  -- each palindrome of a record is the longest that ends where it first ends
  pub longest-at-first-end : (w s : Word) → member w (palindromes σ s) ≡ true → w ≡ longest_suffix σ (take (first_place w s + length w) s)
  longest-at-first-end w s m =
      let h = palindromes-true σ w s m in
      first-end-longest σ h.0.symmetric (first-end-at w s h.1)

  -- the list of the palindromes is in the order of their first ends, and no two of them first end at one place
  pub first-ends-rising : (s : Word) → Rising (map (λ w. first_place w s + length w) (palindromes σ s))
  first-ends-rising = snoc-induction (λ s. Rising (map (end_in s) (palindromes σ s))) (rw (palindromes-empty σ) tt) step
    where
      step : (s : Word) (c : ℕ) → Rising (map (end_in s) (palindromes σ s)) → Rising (map (end_in (s ++ (c ∷ []))) (palindromes σ (s ++ (c ∷ []))))
      step s c ih = rw (palindromes-snoc, map-append, old) (⊎_elim (λ h. rw (fresh-old new s h, append-nil) ih) (λ n. rw (fresh-new new s n) (one_more n)) (stands-or-not new s))
        where
          t : Word
          t = s ++ (c ∷ [])

          new : Word
          new = longest_suffix σ t

          old : map (end_in t) (palindromes σ s) ≡ map (end_in s) (palindromes σ s)
          old = map-agree (end_in t) (end_in s) (palindromes σ s) λ w m. ap (λ (k : ℕ). k + length w) (first-place-append w s (c ∷ []) (palindromes-true σ w s m).1)

          before : (j : ℕ) → Memᴰ j (map (end_in s) (palindromes σ s)) → j ≤ length s
          before j m =
              let r = Memᴰ.of_map (end_in s) (palindromes σ s) m in
              omega (arith, r.2, first-end-fits r.0 s (palindromes-true σ r.0 s (member_is r.1)).1)

          one_more : (Stands new s → ⊥) → Rising (map (end_in s) (palindromes σ s) ++ (end_in t new ∷ []))
          one_more n =
              rising-append (map (end_in s) (palindromes σ s)) (end_in t new ∷ []) ih ((λ j m. absurd (Memᴰ.not-nil m)), tt) λ j k m i.
              omega (arith, before j m, Memᴰ.eq_of_singleton i, first-end-new new s c (suffix-stands (longest-suffix σ t).suffix) n)

  -- of two palindromes in the list the earlier first ends before the later
  pub earlier-ends-first : (s u w : Word) (a b : List Word) → palindromes σ s ≡ a ++ u ∷ b → member w b ≡ true → first_place u s + length u < first_place w s + length w
  earlier-ends-first s u w a b e m =
      rising-cut (map (end_in s) a) (map (end_in s) b) (end_in s u) (end_in s w) (rw (e, map-append) at (first-ends-rising s)) (Memᴰ.map (end_in s) (member-true w b m))

  -- ---- the longest palindrome

  -- no palindrome of the record is longer than `longest_length`
  pub longest-length-most : (w s : Word) → Palindrome σ w → Stands w s → length w ≤ longest_length σ s
  unfolding longest_length
  longest-length-most w s p h = greatest-most (length w) (map length (palindromes σ s)) (Memᴰ.map length (member-true w (palindromes σ s) (palindromes-is σ w s p h)))

  -- one of them is so long, if there is any
  pub longest-length-is : (s : Word) → 0 < count σ s → (w : Word) × Palindrome σ w × Stands w s × (length w ≡ longest_length σ s)
  unfolding longest_length count
  longest-length-is s h =
      let r = Memᴰ.of_map length (palindromes σ s) (greatest-in (map length (palindromes σ s)) (omega (arith, length-map (palindromes σ s) length))) in
      let p = palindromes-true σ r.0 s (member_is r.1) in
      (r.0, p.0, p.1, r.2)

  -- what bounds each palindrome's length bounds the largest
  pub longest-length-bound : (n : ℕ) (s : Word) → ((w : Word) → Palindrome σ w → Stands w s → length w ≤ n) → longest_length σ s ≤ n
  unfolding longest_length
  longest-length-bound n s h = greatest-bound n (map length (palindromes σ s)) bounded
    where
      bounded : (k : ℕ) → Memᴰ k (map length (palindromes σ s)) → k ≤ n
      bounded k m =
          let r = Memᴰ.of_map length (palindromes σ s) m in
          let p = palindromes-true σ r.0 s (member_is r.1) in
          omega (arith, r.2, h r.0 p.0 p.1)

  -- so it is not longer than the record
  pub longest-length-fits : (s : Word) → longest_length σ s ≤ length s
  longest-length-fits s = longest-length-bound (length s) s λ w p h. stands-length h

  -- the palindromes of that length, in their order
  longest_ones : Word → List Word
  longest_ones s = keep (λ p. eqb (length p) (longest_length σ s)) (palindromes σ s)

  longest-ones-true : (w s : Word) → member w (longest_ones s) ≡ true → Palindrome σ w × Stands w s × (length w ≡ longest_length σ s)
  unfolding longest_ones
  longest-ones-true w s m =
      let h = both_true (member w (palindromes σ s)) (eqb (length w) (longest_length σ s)) (rw member-keep at m) in
      let p = palindromes-true σ w s h.0 in
      (p.0, p.1, eqb-true (length w) (longest_length σ s) h.1)

  longest-ones-is : (w s : Word) → Palindrome σ w → Stands w s → length w ≡ longest_length σ s → member w (longest_ones s) ≡ true
  unfolding longest_ones
  longest-ones-is w s p h e =
      rw member-keep (both-are (member w (palindromes σ s)) (eqb (length w) (longest_length σ s)) (palindromes-is σ w s p h) (eq-eqb (length w) (longest_length σ s) e))

  -- at `longest_place` a palindrome of that length begins, if there is any
  pub longest-place-is : (s : Word) → 0 < count σ s → (w : Word) × (c : Stands w s) × Palindrome σ w × (length w ≡ longest_length σ s) × (length c.before ≡ longest_place σ s)
  unfolding longest_place longest_ones
  longest-place-is s h =
      let l = longest-length-is s h in
      let some = member-length l.0 (longest_ones s) (longest-ones-is l.0 s l.1 l.2 l.3) in
      let r = Memᴰ.of_map (λ p. first_place p s) (longest_ones s) (least-in (map (λ p. first_place p s) (longest_ones s)) (omega (arith, length-map (longest_ones s) (λ p. first_place p s)))) in
      let p = longest-ones-true r.0 s (member_is r.1) in
      let c = first-place r.0 s p.1 in
      (r.0, c.0, p.0, p.2, c.1 ∙ r.2)

  -- and none of that length begins further left
  pub longest-place-least : (w s : Word) → Palindrome σ w → length w ≡ longest_length σ s → (c : Stands w s) → longest_place σ s ≤ length c.before
  unfolding longest_place longest_ones
  longest-place-least w s p e c =
      let m = Memᴰ.map (λ p. first_place p s) (member-true w (longest_ones s) (longest-ones-is w s p c e)) in
      omega (arith, least-least (first_place w s) (map (λ p. first_place p s) (longest_ones s)) m, first-place-least w s c)
