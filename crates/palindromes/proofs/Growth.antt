-- How the longest palindrome at the right end grows by one letter, and where the link of a new palindrome is found. A palindrome that ends s·c is empty, or c alone where c is its own
-- partner, or a palindrome that ends s with the partner of c before it and c behind it. So the longest is found on the walk along the links from the longest that ends s; `Candidate` is
-- what holds at each step of it. The same walk, from the link of the palindrome that grew, finds the link of the one that it grew to. Here the empty word counts as a palindrome.
-- Rests on the cuts of `Words`, on `Mirror`, `Longest` and `Change`. A partner rule that undoes itself is asked for only where a palindrome grows.
use Prim.Native.Nat.{ℕ, ◌<◌}
use native.Mathlib.Omega.{arith}
use mathlib.Core.Path.{◌≡◌, refl, sym, ap, subst}
use mathlib.Core.Logic.{⊎_elim, ◌↔◌}
use mathlib.Core.List.{[], ◌∷◌, ◌++◌, head-eq_of_cons-eq, tail-eq_of_cons-eq, cons-ne-nil}
use lib.ListN.{length}
use Rattle.palindromes.specs.Word.{Word}
use Rattle.palindromes.specs.Palindrome.{SelfInverse, mirror, Symmetric}
use Rattle.palindromes.specs.Place.{Suffix, Stands}
use Rattle.palindromes.specs.Record.{longest_suffix}
use Rattle.palindromes.specs.End.{at_right, added, removed, letter_at, without_last}
use Rattle.palindromes.specs.Node.{Node, imaginary, spelt, link_of, inner_of, spelling_of, around}
use Rattle.palindromes.proofs.Words.{removed-added, letter-added, added-removed, snoc-injective, suffix_refl, suffix-empty, suffix-append, suffix_trans, suffix-length, suffix-shorter, suffix-cons, suffix-of-cons, suffix-of-empty, suffix-snoc, suffix-of-snoc, stands-trans, suffix-stands}
use Rattle.palindromes.proofs.Mirror.{mirror-empty, mirror-snoc, mirror-cons}
use Rattle.palindromes.proofs.Longest.{longest-suffix, longest-is}
use Rattle.palindromes.proofs.Change.{symmetric-suffix-stands}

-- what a palindrome w that ends s·c is: nothing, the letter alone, or one that ends s with a letter more on each side
pub data Grown (σ : ℕ → ℕ) (c : ℕ) (s w : Word) : Type 0 where
  nothing : w ≡ [] → Grown σ c s w
  letter : w ≡ c ∷ [] → σ c ≡ c → Grown σ c s w
  framed : (u : Word) → w ≡ σ c ∷ u ++ (c ∷ []) → Symmetric σ u → Suffix (σ c ∷ u) s → Grown σ c s w

-- what holds of a word u on the walk for the letter c: it is a palindrome that ends s, and each palindrome that ends s with the partner of c before it ends u
pub record Candidate (σ : ℕ → ℕ) (c : ℕ) (s u : Word) : Type 0 where
  pub symmetric : Symmetric σ u
  pub suffix : Suffix u s
  pub most : (x : Word) → Symmetric σ x → Suffix (σ c ∷ x) s → Suffix x u

-- the same of a node: of the imaginary one, that no palindrome that ends s has the partner of c before it
abbrev pub Walk : (ℕ → ℕ) → ℕ → Word → Node → Type 0
Walk σ c s imaginary = (x : Word) → Symmetric σ x → Suffix (σ c ∷ x) s → ⊥
Walk σ c s (spelt u) = Candidate σ c s u

-- the test at each step of the walk: the partner of c stands before the node's word, and at the imaginary node c is its own partner
abbrev pub Faces : (ℕ → ℕ) → ℕ → Word → Node → Type 0
Faces σ c s imaginary = σ c ≡ c
Faces σ c s (spelt u) = Suffix (σ c ∷ u) s

-- to walk in u is to walk in s, which u ends: before a word shorter than u the two have the same letter
pub preceded-within : {u s x : Word} (d : ℕ) → Suffix u s → length x < length u → Suffix (d ∷ x) u ↔ Suffix (d ∷ x) s
preceded-within d a h = (λ p. suffix_trans p a, λ p. suffix-shorter p a h)

-- a word stands where it stands with a letter more on each side
pub inner-stands : (x : ℕ) (u : Word) (c : ℕ) {s : Word} → Stands (x ∷ u ++ (c ∷ [])) s → Stands u s
inner-stands x u c p = stands-trans (record { before = x ∷ []; after = c ∷ []; whole = refl }) p

module _ (σ : ℕ → ℕ) where
  -- ---- palindromes from outside in

  -- a letter alone is a palindrome exactly if it is its own partner
  pub letter-symmetric : (c : ℕ) → σ c ≡ c → Symmetric σ (c ∷ [])
  letter-symmetric c h = cc (mirror-cons σ c [], mirror-empty σ, h)

  pub symmetric-letter : (c : ℕ) → Symmetric σ (c ∷ []) → σ c ≡ c
  symmetric-letter c h = cc (mirror-cons σ c [], mirror-empty σ, h)

  -- the outer letters of a palindrome are partners, and what stands between them is a palindrome
  pub inner-symmetric : (x : ℕ) (u : Word) (c : ℕ) → Symmetric σ (x ∷ u ++ (c ∷ [])) → (x ≡ σ c) × Symmetric σ u
  inner-symmetric x u c h =
      let e : σ c ∷ mirror σ u ++ (σ x ∷ []) ≡ x ∷ u ++ (c ∷ []) = cc (h, mirror-snoc σ (x ∷ u) c, mirror-cons σ x u) in
      (sym (head-eq_of_cons-eq e), (snoc-injective (mirror σ u) u (σ x) c (tail-eq_of_cons-eq e)).0)

  -- 001 proposition 2.5, in the proof: what the palindromes are that end s·c, for the longest among them
  pub grown : {w : Word} (s : Word) (c : ℕ) → Symmetric σ w → Suffix w (s ++ (c ∷ [])) → Grown σ c s w
  grown {w} s c h p = ⊎_elim nothing (λ r. ends r.0 r.1 r.2) (suffix-of-snoc s c p)
    where
      ends : (v : Word) → w ≡ v ++ (c ∷ []) → Suffix v s → Grown σ c s w
      ends [] e q = letter e (symmetric-letter c (rw e at h))
      ends (x ∷ u) e q =
          let i = inner-symmetric x u c (rw e at h) in
          framed u (cc (e, i.0)) i.1 (rw i.0 at q)

  -- ---- the walk

  -- it starts at the longest that ends s
  pub candidate-start : (c : ℕ) (s : Word) → Candidate σ c s (longest_suffix σ s)
  candidate-start c s =
      let m = longest-suffix σ s in
      record { symmetric = m.symmetric; suffix = m.suffix; most = λ x h k. m.most x h (suffix_trans (suffix-append (σ c ∷ []) x) k) }

  -- where the partner of c is not before it, it goes on to the longest palindrome that ends the word without its first letter
  pub candidate-link : {c y : ℕ} {s u : Word} → Candidate σ c s (y ∷ u) → (Suffix (σ c ∷ y ∷ u) s → ⊥) → Candidate σ c s (longest_suffix σ u)
  candidate-link {c} {y} {s} {u} a n =
      let m = longest-suffix σ u in
      record {
        symmetric = m.symmetric;
        suffix = suffix_trans (suffix-cons y m.suffix) a.suffix;
        most = λ x h k. ⊎_elim (λ e. absurd (n (rw e at k))) (λ q. m.most x h q) (suffix-of-cons y (a.most x h k));
      }

  -- past the empty word there is none that can grow
  pub candidate-past : {c : ℕ} {s : Word} → Candidate σ c s [] → (Suffix (σ c ∷ []) s → ⊥) → (x : Word) → Symmetric σ x → Suffix (σ c ∷ x) s → ⊥
  candidate-past a n x h k = n (rw (suffix-of-empty (a.most x h k)) at k)

  -- where none can grow the longest is the letter alone, if it is its own partner
  pub letter-longest : (c : ℕ) (s : Word) → ((x : Word) → Symmetric σ x → Suffix (σ c ∷ x) s → ⊥) → σ c ≡ c → longest_suffix σ (s ++ (c ∷ [])) ≡ c ∷ []
  letter-longest c s n e =
      sym (longest-is σ (record { symmetric = letter-symmetric c e; suffix = suffix-append s (c ∷ []); most = λ w h k. most w (grown s c h k) }))
    where
      most : (w : Word) → Grown σ c s w → Suffix w (c ∷ [])
      most w (nothing q) = rw q (suffix-empty (c ∷ []))
      most w (letter q f) = rw q suffix_refl
      most w (framed u q h k) = absurd (n u h k)

  -- and empty, if it is not
  pub nothing-longest : (c : ℕ) (s : Word) → ((x : Word) → Symmetric σ x → Suffix (σ c ∷ x) s → ⊥) → (σ c ≡ c → ⊥) → longest_suffix σ (s ++ (c ∷ [])) ≡ []
  nothing-longest c s n e =
      let m = longest-suffix σ (s ++ (c ∷ [])) in
      none (grown s c m.symmetric m.suffix)
    where
      none : {w : Word} → Grown σ c s w → w ≡ []
      none (nothing q) = q
      none (letter q f) = absurd (e f)
      none (framed u q h k) = absurd (n u h k)

  -- the walk follows the links of the nodes, from the empty word to the imaginary one
  pub walk-link : (c : ℕ) (s : Word) (n : Node) → Walk σ c s n → (Faces σ c s n → ⊥) → Walk σ c s (link_of σ n)
  unfolding link_of
  walk-link c s imaginary a f = a
  walk-link c s (spelt []) a f = candidate-past a f
  walk-link c s (spelt (y ∷ u)) a f = candidate-link a f

  -- ---- the link of a palindrome

  -- a link is shorter than what it links from
  pub link-shorter : (y : ℕ) (t : Word) → length (longest_suffix σ t) < length (y ∷ t)
  link-shorter y t = omega (arith, suffix-length (longest-suffix σ t).suffix)

  -- the link of what u grows to is found by the walk for c in u, from the link of u
  pub walk-from-link : (c : ℕ) (u : Word) → Symmetric σ u → Walk σ c u (link_of σ (spelt u))
  walk-from-link c u h =
      walk-link c u (spelt u)
      (record { symmetric = h; suffix = suffix_refl; most = λ x g k. suffix_trans (suffix-append (σ c ∷ []) x) k })
      (λ p. omega (arith, suffix-length p))

  -- the link of what grew from a palindrome is the longest that ends the word without its first letter
  pub link-of-framed : (c : ℕ) (u : Word) → link_of σ (spelt (around σ c (spelt u))) ≡ spelt (longest_suffix σ (u ++ (c ∷ [])))
  unfolding link_of around
  link-of-framed c u = refl

  -- and of a letter alone: nothing
  pub link-of-letter : (c : ℕ) → link_of σ (spelt (around σ c imaginary)) ≡ spelt []
  unfolding link_of around
  link-of-letter c = ap spelt (suffix-of-empty (longest-suffix σ []).suffix)

  -- the link of a palindrome stands where the palindrome does
  pub link-stands : {y : ℕ} {t s : Word} → Stands (y ∷ t) s → Stands (longest_suffix σ t) s
  link-stands {y} {t} p = stands-trans (suffix-stands (suffix-cons y (longest-suffix σ t).suffix)) p

  -- the link of a new palindrome stood before
  pub link-stood : {y : ℕ} {t : Word} (s : Word) (c : ℕ) → Symmetric σ (y ∷ t) → Stands (y ∷ t) (s ++ (c ∷ [])) → Stands (longest_suffix σ t) s
  link-stood {y} {t} s c h p =
      let m = longest-suffix σ t in
      ⊎_elim
      (λ e. absurd (omega (arith, link-shorter y t, ap length e)))
      (λ q. q)
      (symmetric-suffix-stands σ s c m.symmetric h (suffix-cons y m.suffix) p)

  -- ---- the inner word of a palindrome: 001 lemma 2.3, "exactly one incoming edge"

  -- what grew from a node has that node inside and c at its end
  pub inner-around : (c : ℕ) (n : Node) → inner_of (spelt (around σ c n)) ≡ n
  unfolding inner_of around added removed
  inner-around c imaginary = refl
  inner-around c (spelt []) = ap spelt (removed-added at_right c [])
  inner-around c (spelt (z ∷ u)) = ap spelt (removed-added at_right c (z ∷ u))

  pub letter-around : (c : ℕ) (n : Node) → letter_at at_right (around σ c n) ≡ c
  unfolding around added
  letter-around c imaginary = letter-added at_right c []
  letter-around c (spelt u) = letter-added at_right c (σ c ∷ u)

  -- so it grew from that node alone, by that letter alone
  pub around-injective : (c d : ℕ) (n m : Node) → around σ c n ≡ around σ d m → (c ≡ d) × (n ≡ m)
  around-injective c d n m e =
      (cc (letter-around c n, letter-around d m, e), cc (inner-around c n, inner-around d m, e))

  -- and every palindrome grew so
  pub around-inner : (w : Word) → (w ≡ [] → ⊥) → Symmetric σ w → w ≡ around σ (letter_at at_right w) (inner_of (spelt w))
  unfolding inner_of around added removed letter_at
  around-inner [] n h = absurd (n refl)
  around-inner (x ∷ []) n h = refl
  around-inner (x ∷ y ∷ t) n h =
      let c = letter_at at_right (y ∷ t) in
      let e : without_last (y ∷ t) ++ (c ∷ []) ≡ y ∷ t = added-removed at_right (y ∷ t) (cons-ne-nil y t) in
      let i = inner-symmetric x (without_last (y ∷ t)) c (rw e h) in
      cc (i.0, e)

  -- the inner word of a palindrome is one, and stands where it does
  pub inner-of : (w : Word) {s : Word} → Symmetric σ w → Stands w s → Symmetric σ (spelling_of (inner_of (spelt w))) × Stands (spelling_of (inner_of (spelt w))) s
  unfolding spelling_of inner_of around
  inner-of [] h p = (mirror-empty σ, p)
  inner-of (x ∷ []) h p = (mirror-empty σ, stands-trans (suffix-stands (suffix-empty (x ∷ []))) p)
  inner-of (x ∷ y ∷ t) {s} h p =
      let c = letter_at at_right (x ∷ y ∷ t) in
      let e : x ∷ y ∷ t ≡ σ c ∷ without_last (y ∷ t) ++ (c ∷ []) = around-inner (x ∷ y ∷ t) (cons-ne-nil x (y ∷ t)) h in
      ((inner-symmetric (σ c) (without_last (y ∷ t)) c (subst (Symmetric σ) e h)).1, inner-stands (σ c) (without_last (y ∷ t)) c (subst (λ (w : Word). Stands w s) e p))

module _ (σ : ℕ → ℕ) (inv : SelfInverse σ) where
  -- a palindrome with c behind it and the partner of c before it is a palindrome
  pub framed-symmetric : (c : ℕ) (u : Word) → Symmetric σ u → Symmetric σ (σ c ∷ u ++ (c ∷ []))
  framed-symmetric c u h = cc (mirror-snoc σ (σ c ∷ u) c, mirror-cons σ (σ c) u, inv c, h)

  -- a hit: the first palindrome on the walk with the partner of c before it grows to the longest
  pub candidate-hit : {c : ℕ} {s u : Word} → Candidate σ c s u → Suffix (σ c ∷ u) s → longest_suffix σ (s ++ (c ∷ [])) ≡ σ c ∷ u ++ (c ∷ [])
  candidate-hit {c} {s} {u} a p =
      sym (longest-is σ (record { symmetric = framed-symmetric c u a.symmetric; suffix = suffix-snoc c p; most = λ w h k. most w (grown σ s c h k) }))
    where
      most : (w : Word) → Grown σ c s w → Suffix w (σ c ∷ u ++ (c ∷ []))
      most w (nothing q) = rw q (suffix-empty (σ c ∷ u ++ (c ∷ [])))
      most w (letter q f) = rw q (suffix-append (σ c ∷ u) (c ∷ []))
      most w (framed x q h k) = rw q (suffix-snoc c (suffix-shorter k p (omega (arith, suffix-length (a.most x h k)))))

  -- the same of a node
  pub walk-hit : (c : ℕ) (s : Word) (n : Node) → Walk σ c s n → Faces σ c s n → longest_suffix σ (s ++ (c ∷ [])) ≡ around σ c n
  unfolding around
  walk-hit c s imaginary a f = letter-longest σ c s a f
  walk-hit c s (spelt u) a f = candidate-hit a f
