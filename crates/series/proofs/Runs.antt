-- Series of palindromes along the links, and a choice kept for one of them. The places of a run depend on where it begins and not on where it ends:
-- so the run of a row's link that begins at p, with the row's own difference, and one place more are the run of the row that begins at p
-- (`run-longer`). Hence a choice kept with the link, for the same beginning, serves for the row (`kept-longer`), and a walk that jumps from the row
-- to the one after the run loses nothing (`kept-passes`). No law of palindromes is needed beyond `ending-link`: whether such a choice was kept is
-- asked by the code, and a row without one is a run alone (`kept-alone`). Rests on `Choice`, `SuffixPalindromes` of palindromes and the rows of a
-- table that covers a record.
use Prim.Native.Nat.{ℕ, zero, suc, ◌+◌, ◌-◌, ◌≤◌, ◌<◌}
use native.Mathlib.Omega.{arith}
use mathlib.Core.Path.{◌≡◌, refl, sym, ap, ◌∙◌, subst}
use mathlib.Core.Bool.{true}
use mathlib.Core.Logic.{⊎_elim}
use mathlib.Core.List.{List, [], ◌∷◌, ◌++◌, map}
use mathlib.Core.List.Memᴰ
use mathlib.Core.List.{Memᴰ}
use lib.ListN.{length}
use Rattle.palindromes.specs.Word.{Word}
use Rattle.palindromes.specs.Palindrome.{Palindrome}
use Rattle.palindromes.specs.Record.{suffix_palindromes, longest_suffix}
use Rattle.palindromes.specs.Node.{Node, spelt, link_of, spelling_of}
use Rattle.palindromes.specs.Eertree.{Table}
use Rattle.palindromes.proofs.SuffixPalindromes.{ending-none, ending-link}
use Rattle.eertree.specs.Covers.{Covers}
use Rattle.eertree.proofs.Rows.{reach_of, word_row, link-falls}
use Rattle.palindromes.specs.Factorization.{better, pick, choice}
use Rattle.series.specs.Runs.{Run, last, more, Kept}
use Rattle.palindromes.proofs.Choice.{pick-choice, choice-snoc, choice-in}

-- ---- places

module _ {link reach : ℕ → ℕ} where
  -- the difference of a run is that of its first palindrome
  run-difference : {d next p r : ℕ} {ps : List ℕ} → Run link reach d next p r ps → reach r ≡ reach (link r) + d
  run-difference (last l e n q) = e
  run-difference (more l e a q) = e

  run-high : {d next p r : ℕ} {ps : List ℕ} → Run link reach d next p r ps → 2 ≤ r
  run-high (last l e n q) = l
  run-high (more l e a q) = l

  -- it falls by the difference at least
  run-falls : {d next p r : ℕ} {ps : List ℕ} → Run link reach d next p r ps → reach next + d ≤ reach r
  run-falls (last l e n q) = omega (arith, ap reach n)
  run-falls (more l e a q) = omega (arith, run-falls a)

  -- so its places are not further right than that of its last palindrome
  run-places : {d next p r : ℕ} {ps : List ℕ} → Run link reach d next p r ps → (k : ℕ) → Memᴰ k ps
      → k + (reach next + d) ≤ p + reach r
  run-places (last l e n q) k m = omega (arith, Memᴰ.eq_of_singleton (rw q at m), ap reach n)
  run-places (more l e a q) k m = ⊎_elim (λ i. omega (arith, run-falls a)) (λ i. omega (arith, run-places a k i)) (Memᴰ.cases_cons (rw q at m))

  -- the run of the link and one place more are the run of the row
  run-longer : {d next p v : ℕ} {ps : List ℕ} → Run link reach d next p v ps → (r : ℕ) → v ≡ link r → 2 ≤ r → reach r ≡ reach (link r) + d
      → Run link reach d next p r (ps ++ ((p + reach r - (reach next + d)) ∷ []))
  run-longer {d} {next} {p} {v} {ps} (last l e n q) r i h k =
      let z : p + reach r - (reach next + d) ≡ p + d = omega (arith, ap reach n, ap reach i) in
      let a : Run link reach d next (p + d) v ((p + d) ∷ []) = last l e n refl in
      let b : Run link reach d next (p + d) (link r) ((p + d) ∷ []) = subst (λ (u : ℕ). Run link reach d next (p + d) u ((p + d) ∷ [])) i a in
      more {p = p} {ps = ps ++ ((p + reach r - (reach next + d)) ∷ [])} h k b (cc)
  run-longer {d} {next} {p} {v} {ps} (more {qs = qs} l e a q) r i h k =
      let z : p + d + reach v - (reach next + d) ≡ p + reach r - (reach next + d) = omega (arith, ap reach i) in
      let b = run-longer a v refl l e in
      let c : Run link reach d next (p + d) (link r) (qs ++ ((p + d + reach v - (reach next + d)) ∷ [])) =
      subst (λ (u : ℕ). Run link reach d next (p + d) u (qs ++ ((p + d + reach v - (reach next + d)) ∷ []))) i b in
      more {p = p} {ps = ps ++ ((p + reach r - (reach next + d)) ∷ [])} h k c (cc)

  -- ---- a choice that is kept

  module _ (f : ℕ → ℕ) where
    -- with a row alone
    pub kept-alone : (p r : ℕ) → 2 ≤ r → reach (link r) ≤ reach r → Kept link reach f p r p (link r)
    unfolding choice pick
    kept-alone p r l h = record { difference = reach r - reach (link r); places = []; run = last l (omega arith) refl refl; chosen = refl }

    -- with a row whose link has one for the same beginning, and has the same difference
    pub kept-longer : {p r u cut next : ℕ} → u ≡ link r → Kept link reach f p u cut next → 2 ≤ r → (d : ℕ) → reach r ≡ reach u + d
        → reach u ≡ reach (link u) + d
        → Kept link reach f p r (better f cut (p + reach r - (reach next + d))) next
    kept-longer {p} {r} {u} {cut} {next} i a l d e k =
        let same : a.difference ≡ d = omega (arith, run-difference a.run) in
        let run : Run link reach d next p u (p ∷ a.places) = rw same at a.run in
        let q : ℕ = p + reach r - (reach next + d) in
        record {
          difference = d;
          places = a.places ++ (q ∷ []);
          run = run-longer run r i l (omega (arith, ap reach i));
          chosen = ap (λ (c : ℕ). better f c q) a.chosen ∙ sym (choice-snoc f p a.places q);
        }

-- ---- the palindromes that end a row's own

-- the places at which the palindromes that end w begin, longest first, if w ends at i
abbrev pub starts_in : (ℕ → ℕ) → ℕ → Word → List ℕ
starts_in σ i w = map (λ v. i - length v) (suffix_palindromes σ w)

module _ {σ : ℕ → ℕ} {s : Word} {T : Table} {node : ℕ → Node} (h : Covers σ s T node) (reach : ℕ → ℕ)
    (tells : (r : ℕ) → T.used r ≡ true → reach r ≡ reach_of (node r)) where
  -- what a row spells
  abbrev pub word : ℕ → Word
  word r = spelling_of (node r)

  -- none ends the empty word
  starts_none : (i : ℕ) (w : Word) → w ≡ [] → starts_in σ i w ≡ []
  starts_none i w e = ap (starts_in σ i) e ∙ ap (map (λ v. i - length v)) (ending-none σ)

  pub starts-root : (i r : ℕ) → r < 2 → starts_in σ i (word r) ≡ []
  unfolding spelling_of
  starts-root i zero l = starts_none i (word zero) (ap spelling_of h.row_zero.1)
  starts-root i (suc zero) l = starts_none i (word (suc zero)) (ap spelling_of h.row_one.1)
  starts-root i (suc (suc r)) l = absurd (omega arith)

  -- first comes the row's own, then those of its link, which is no longer than it and not the imaginary string
  pub starts-link : (i r : ℕ) → T.used r ≡ true → 2 ≤ r
      → (starts_in σ i (word r) ≡ (i + 1 - reach r) ∷ starts_in σ i (word (T.link r))) × (1 ≤ reach (T.link r))
  unfolding spelling_of link_of
  starts-link i r u l = let p = word_row h r u l in go p.0 p.1 p.2
    where
      go : (w : Word) → node r ≡ spelt w → Palindrome σ w
          → (starts_in σ i (word r) ≡ (i + 1 - reach r) ∷ starts_in σ i (word (T.link r))) × (1 ≤ reach (T.link r))
      go [] e p = absurd (p.non-empty refl)
      go (x ∷ t) e p =
          let k : node (T.link r) ≡ spelt (longest_suffix σ t) = (h.link-is r u).1 ∙ ap (link_of σ) e in
          let z : i + 1 - reach_of (spelt (x ∷ t)) ≡ i - length (x ∷ t) = omega arith in (
            cc (tells r u, ap spelling_of e, ap spelling_of k, ap reach_of e, ap (map (λ v. i - length v)) (ending-link σ x t p.symmetric)),
            omega (arith, tells (T.link r) (h.link-is r u).0, ap reach_of k),
          )

  -- the link of a row other than row 0 is shorter
  pub reach-falls : (r : ℕ) → T.used r ≡ true → 1 ≤ r → reach (T.link r) < reach r
  reach-falls r u l = omega (arith, tells r u, tells (T.link r) (h.link-is r u).0, link-falls h r u (λ e. omega arith))

  -- the row after a run is used, it is not the imaginary string, and the difference is not 0
  run-next : {d next p r : ℕ} {ps : List ℕ} → Run T.link reach d next p r ps → T.used r ≡ true
      → (T.used next ≡ true) × (1 ≤ reach next) × (1 ≤ d)
  run-next {d} {next} {p} {r} (last l k n q) u = (rw n (h.link-is r u).0, rw n (starts-link 0 r u l).1, omega (arith, reach-falls r u (omega arith)))
  run-next {d} {next} {p} {r} (more l k a q) u = run-next a (h.link-is r u).0

  -- those of a run, and then those of the row after it
  starts-run : {d next p r : ℕ} {ps : List ℕ} → Run T.link reach d next p r ps → T.used r ≡ true → (i : ℕ) → i + 1 ≡ p + reach r
      → starts_in σ i (word r) ≡ ps ++ starts_in σ i (word next)
  starts-run {d} {next} {p} {r} {ps} (last l k n q) u i e =
      let z : i + 1 - reach r ≡ p = omega arith in
      cc (starts-link i r u l).0
  starts-run {d} {next} {p} {r} {ps} (more {qs = qs} l k a q) u i e =
      let z : i + 1 - reach r ≡ p = omega arith in
      cc ((starts-link i r u l).0, starts-run a (h.link-is r u).0 i (omega arith))

  -- what a kept choice is good for, where the row's palindrome ends at i: a place before i, a shorter row to go on from, and nothing lost on the way
  pub record Passes (f : ℕ → ℕ) (i r cut next : ℕ) : Type 0 where
    pub used : T.used next ≡ true
    pub present : 1 ≤ reach next
    pub shorter : reach next < reach r
    pub place : cut < i
    pub same : (at : ℕ) → pick f at (starts_in σ i (word r)) ≡ pick f (better f at cut) (starts_in σ i (word next))

  pub kept-passes : {f : ℕ → ℕ} {p r cut next : ℕ} → Kept T.link reach f p r cut next → T.used r ≡ true → (i : ℕ)
      → i + 1 ≡ p + reach r → Passes f i r cut next
  kept-passes {f} {p} {r} {cut} {next} a u i e =
      let n = run-next a.run u in
      record {
        used = n.0;
        present = n.1;
        shorter = omega (arith, n.2, run-falls a.run);
        place = omega (arith, n.1, n.2, a.chosen, run-places a.run (choice f (p ∷ a.places)) (choice-in f p a.places));
        same = λ at.
            ap (pick f at) (starts-run a.run u i e) ∙ pick-choice f at p a.places (starts_in σ i (word next))
            ∙ ap (λ (c : ℕ). pick f (better f at c) (starts_in σ i (word next))) (sym a.chosen);
      }
