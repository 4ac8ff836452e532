-- The search for a palindrome along the edges of the eertree, from the centre outwards: it sets out at a root, the imaginary one for an odd number of letters, and takes one edge for each letter
-- from the middle to the right end. `reached` is the node after some of the letters: it starts at the root, grows by one edge a letter and comes to the word itself; and where an edge
-- is missing on the way the word does not stand in the record.
-- Rests on `inner-stands` and `inner-symmetric` of `Growth`, on the mirror and on the members of `palindromes`.
use Prim.Native.Nat.{ℕ, suc, ◌-◌, ◌/◌, ◌%◌, ◌≤◌, ◌<◌}
use native.Mathlib.Omega.{arith}
use mathlib.Core.Path.{◌≡◌, refl, sym, ap, ◌∙◌, subst}
use mathlib.Core.Bool.{Bool, true, false, cond}
use mathlib.Core.List.{[], ◌∷◌, ◌++◌, append_assoc, append-nil, cons-ne-nil}
use lib.Dec.{eqb}
use lib.ListN.{length, take, drop, get_or, length-take, length-drop, take-append-drop}
use lib.Seq.{take-length, take_at, drop_at, take-suc, drop-cons, split_at, drop-append-le, slice, slice_empty}
use borrow.Author.Tests.{eqb-true, eqb-false}
use Rattle.palindromes.specs.Word.{Word, member}
use Rattle.palindromes.specs.Palindrome.{mirror, Symmetric}
use Rattle.palindromes.specs.Place.{Stands}
use Rattle.palindromes.specs.Record.{palindromes}
use Rattle.palindromes.specs.Node.{Node, imaginary, spelt, spelling_of, around}
use Rattle.palindromes.proofs.Tests.{not-true-false, false-not-true}
use Rattle.palindromes.proofs.Mirror.{mirror-append, mirror-cons, mirror-empty, mirror-length}
use Rattle.palindromes.proofs.Growth.{inner-stands, symmetric-letter, inner-symmetric}
use Rattle.palindromes.proofs.Places.{stands-empty}
use Rattle.palindromes.proofs.Palindromes.{palindromes-true, palindromes-is}

-- the node at the end of the edges that the letters of h name, the first of them from n
unfoldable pub grow : (ℕ → ℕ) → Node → Word → Node
grow σ n [] = n
grow σ n (c ∷ h) = grow σ (spelt (around σ c n)) h

-- the root at the centre of a word: the empty one for an even number of letters, the imaginary one for an odd number
unfoldable pub centre_of : Word → Node
centre_of w = cond (eqb (length w % 2) 0) (spelt []) imaginary

-- the node reached when the letters of w from its middle up to the place k have been read
unfoldable pub reached : (ℕ → ℕ) → Word → ℕ → Node
reached σ w k = grow σ (centre_of w) (slice (length w / 2) k w)

-- two cuts of one word at one place are one
same-cut : (a b c d : Word) → length a ≡ length c → a ++ b ≡ c ++ d → (a ≡ c) × (b ≡ d)
same-cut a b c d h e = (cc (take_at a b (length c) h, take_at c d (length c) refl), cc (drop_at a b (length c) h, drop_at c d (length c) refl))

module _ (σ : ℕ → ℕ) where
  -- ---- outwards

  -- the letters may be read in two goes
  pub grow-append : (n : Node) (a b : Word) → grow σ n (a ++ b) ≡ grow σ (grow σ n a) b
  unfolding grow
  grow-append n [] b = refl
  grow-append n (c ∷ a) b = grow-append (spelt (around σ c n)) a b

  -- what they spell: from a word, that word between the letters and their mirror
  pub grow-spelt : (u h : Word) → grow σ (spelt u) h ≡ spelt (mirror σ h ++ u ++ h)
  unfolding grow around
  grow-spelt u [] = cc (mirror-empty σ, append-nil u)
  grow-spelt u (c ∷ h) = grow-spelt (σ c ∷ u ++ (c ∷ [])) h ∙ ap spelt (rw mirror-cons (simp append_assoc))

  -- and from the imaginary root, the first letter between the others and their mirror
  pub grow-imaginary : (m : ℕ) (h : Word) → grow σ imaginary (m ∷ h) ≡ spelt (mirror σ h ++ (m ∷ h))
  unfolding grow around
  grow-imaginary m h = grow-spelt (m ∷ []) h ∙ ap spelt (simp append_assoc)

  -- ---- the halves of a palindrome

  -- what stands before the middle of a palindrome is the mirror of what stands behind it, and the middle equals its reversal
  around-middle : (a u h : Word) → length a ≡ length h → Symmetric σ (a ++ (u ++ h)) → (a ≡ mirror σ h) × Symmetric σ u
  around-middle a u h e s =
      let f : mirror σ h ++ (mirror σ u ++ mirror σ a) ≡ a ++ (u ++ h) = cc (mirror-append σ a (u ++ h), mirror-append σ u h, append_assoc (mirror σ h) (mirror σ u) (mirror σ a)) in
      let i = same-cut (mirror σ h) (mirror σ u ++ mirror σ a) a (u ++ h) (omega (arith, mirror-length σ h)) f in
      (sym i.0, (same-cut (mirror σ u) (mirror σ a) u h (mirror-length σ u) i.1).0)

  -- a palindrome of even length is its right half after the mirror of that
  pub even-halves : (w : Word) → Symmetric σ w → length w % 2 ≡ 0 → w ≡ mirror σ (drop (length w - length w / 2) w) ++ drop (length w - length w / 2) w
  even-halves w h e =
      let n = length w / 2 in
      let half : length w - n ≡ n = omega arith in
      let f = around-middle (take n w) [] (drop n w) (simp (length-take, length-drop) (omega arith)) (rw take-append-drop h) in
      cc (f.0, take-append-drop n w)

  -- one of odd length has a middle letter between the two, which is its own partner
  pub odd-halves : (w : Word) → Symmetric σ w → length w % 2 ≡ 1
      → (w ≡ mirror σ (drop (length w - length w / 2) w) ++ (get_or w (length w / 2) 0 ∷ drop (length w - length w / 2) w)) × (σ (get_or w (length w / 2) 0) ≡ get_or w (length w / 2) 0)
  odd-halves w h e =
      let n = length w / 2 in
      let m = get_or w n 0 in
      let half : length w - n ≡ suc n = omega arith in
      let cut = split_at w n 0 (omega arith) in
      let f = around-middle (take n w) (m ∷ []) (drop (suc n) w) (simp (length-take, length-drop) (omega arith)) (subst (Symmetric σ) cut h) in
      (cc (f.0, cut), symmetric-letter σ m f.1)

  -- so the letters from the middle on lead from the root at its centre to the palindrome, whether its length is even or odd
  pub grow-whole : (w : Word) → Symmetric σ w → grow σ (centre_of w) (drop (length w / 2) w) ≡ spelt w
  unfolding centre_of
  grow-whole w h = go (eqb (length w % 2) 0) refl
    where
      go : (b : Bool) → eqb (length w % 2) 0 ≡ b → grow σ (cond b (spelt []) imaginary) (drop (length w / 2) w) ≡ spelt w
      go true e =
          let even : length w % 2 ≡ 0 = eqb-true (length w % 2) 0 e in
          let half : length w - length w / 2 ≡ length w / 2 = omega arith in
          cc (grow-spelt [] (drop (length w / 2) w), append-nil (mirror σ (drop (length w / 2) w)), even-halves w h even)
      go false e =
          let odd : length w % 2 ≡ 1 = omega (arith, eqb-false (length w % 2) 0 e) in
          let half : length w - length w / 2 ≡ suc (length w / 2) = omega arith in
          cc (drop-cons w (length w / 2) 0 (omega arith), grow-imaginary (get_or w (length w / 2) 0) (drop (suc (length w / 2)) w), (odd-halves w h odd).0)

  -- ---- inwards

  -- where what grew from a node stands, what the node spells stands; from the node `grow σ n a` by b grows `grow σ n (a ++ b)`
  pub grown-stands : (n : Node) (h : Word) {s : Word} → Stands (spelling_of (grow σ n h)) s → Stands (spelling_of n) s
  unfolding grow spelling_of around
  grown-stands n [] p = p
  grown-stands imaginary (c ∷ h) {s} p = stands-empty s
  grown-stands (spelt u) (c ∷ h) p = inner-stands (σ c) u c (grown-stands (spelt (σ c ∷ u ++ (c ∷ []))) h p)

  -- and where the one equals its reversal so does the other
  pub grown-symmetric : (n : Node) (h : Word) → Symmetric σ (spelling_of (grow σ n h)) → Symmetric σ (spelling_of n)
  unfolding grow spelling_of around
  grown-symmetric n [] p = p
  grown-symmetric imaginary (c ∷ h) p = mirror-empty σ
  grown-symmetric (spelt u) (c ∷ h) p = (inner-symmetric σ (σ c) u c (grown-symmetric (spelt (σ c ∷ u ++ (c ∷ []))) h p)).1

  -- ---- the search

  -- it sets out at the root
  pub reached-start : (w : Word) → reached σ w (length w / 2) ≡ centre_of w
  unfolding reached grow
  reached-start w = ap (grow σ (centre_of w)) (slice_empty (length w / 2) w)

  -- goes on by the edge of the next letter
  pub reached-suc : (w : Word) (k : ℕ) → length w / 2 ≤ k → k < length w → reached σ w (suc k) ≡ spelt (around σ (get_or w k 0) (reached σ w k))
  unfolding reached grow
  reached-suc w k h l =
      let fits : length w / 2 ≤ length (take k w) = simp length-take (omega arith) in
      cc (take-suc w k 0 l, drop-append-le (length w / 2) (take k w) (get_or w k 0 ∷ []) fits, grow-append (centre_of w) (slice (length w / 2) k w) (get_or w k 0 ∷ []))

  -- and comes to the word, if it is a palindrome
  pub reached-whole : (w : Word) → Symmetric σ w → reached σ w (length w) ≡ spelt w
  unfolding reached
  reached-whole w h = cc (take-length w, grow-whole w h)

  -- from any node on the way, by the letters that are left
  reached-on : (w : Word) (k : ℕ) → length w / 2 ≤ k → k ≤ length w → grow σ (reached σ w k) (drop k w) ≡ reached σ w (length w)
  unfolding reached
  reached-on w k h l =
      let fits : length w / 2 ≤ length (take k w) = simp length-take (omega arith) in
      cc (take-length w, drop-append-le (length w / 2) (take k w) (drop k w) fits, take-append-drop k w, grow-append (centre_of w) (slice (length w / 2) k w) (drop k w))

  around-not-empty : (c : ℕ) (n : Node) → around σ c n ≡ [] → ⊥
  unfolding around
  around-not-empty c imaginary e = cons-ne-nil c [] e
  around-not-empty c (spelt u) e = cons-ne-nil (σ c) (u ++ (c ∷ [])) e

  -- a missing edge on the way: the word is no palindrome of the record
  pub missing-edge : (s w : Word) (k : ℕ) → length w / 2 ≤ k → k < length w → member (around σ (get_or w k 0) (reached σ w k)) (palindromes σ s) ≡ false → member w (palindromes σ s) ≡ false
  unfolding spelling_of
  missing-edge s w k h l out = not-true-false (member w (palindromes σ s)) listed
    where
      next : Word
      next = around σ (get_or w k 0) (reached σ w k)

      rest : Word
      rest = drop (suc k) w

      listed : member w (palindromes σ s) ≡ true → ⊥
      listed m =
          let p = palindromes-true σ w s m in
          let e : spelt w ≡ grow σ (spelt next) rest = cc (reached-whole w p.0.symmetric, reached-on w (suc k) (omega arith) l, reached-suc w k h l) in
          let f : w ≡ spelling_of (grow σ (spelt next) rest) = ap spelling_of e in
          let there : Stands next s = grown-stands (spelt next) rest (subst (λ (u : Word). Stands u s) f p.1) in
          let same : Symmetric σ next = grown-symmetric (spelt next) rest (subst (Symmetric σ) f p.0.symmetric) in
          false-not-true out (palindromes-is σ next s (record { non-empty = around-not-empty (get_or w k 0) (reached σ w k); symmetric = same }) there)
