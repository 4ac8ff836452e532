-- What a used row of a good store spells. Rows 0 and 1 spell nothing; any other row spells its outer letter alone where its inner row is row 0, and else what its inner row spells between the
-- partner of its outer letter and that letter, and so it can be written. The stored length is one more than the number of letters, but for row 0, and falls from a row to its inner row.
-- Rests on the laws of a good store's rows (`Rows` of transitions, `Rows` of eertree) and on those of stores (`Parts` of store).
use Prim.Native.Nat.{ℕ, zero, suc, ◌+◌, ◌-◌, ◌≤◌, ◌<◌}
use native.Mathlib.Omega.{arith}
use native.Mathlib.Numerals.{add-one}
use mathlib.Core.Path.{◌≡◌, refl, ap, ◌∙◌}
use mathlib.Core.Bool.{true}
use mathlib.Core.List.{[], ◌∷◌, ◌++◌}
use lib.ListN.{length, set, length-append}
use lib.Seq.{sets}
use lib.IntN.{pos, pred_ℤ}
use Rattle.palindromes.specs.Word.{Word}
use Rattle.palindromes.specs.Node.{Node, imaginary, spelt, length_of, spelling_of, around}
use Rattle.palindromes.proofs.Letters.{letter-byte}
use Rattle.eertree.proofs.Rows.{imaginary-row, inner-falls}
use Rattle.store.specs.Layout.{cell, length_in, inner_in, outer_in, used_in}
use Rattle.store.specs.Good.{rule_of, node_in, Good}
use Rattle.store.proofs.Parts.{sets-snoc, sets-cons}
use Rattle.transitions.proofs.Rows.{covers, length-row, outer-letter}

module _ {b : Word} (g : Good b) (r : ℕ) (u : used_in b r ≡ true) where
  -- the roots spell nothing
  pub spells-root : r < 2 → spelling_of (node_in b r) ≡ []
  unfolding spelling_of
  spells-root l = go r refl
    where
      go : (q : ℕ) → r ≡ q → spelling_of (node_in b r) ≡ []
      go zero e = rw (e, (covers g).row_zero.1)
      go (suc zero) e = rw (e, (covers g).row_one.1)
      go (suc (suc q)) e = absurd (omega arith)

  -- and the length of any other row than row 0 is the number of the letters that it spells
  pub spells-length : (r ≡ 0 → ⊥) → length_in b r ≡ pred_ℤ (pos (suc (length (spelling_of (node_in b r)))))
  unfolding spelling_of length_of
  spells-length n = (covers g).length-is r u ∙ go (node_in b r) refl
    where
      go : (v : Node) → node_in b r ≡ v → length_of v ≡ pred_ℤ (pos (suc (length (spelling_of v))))
      go imaginary e = absurd (n (imaginary-row (covers g) r u e))
      go (spelt w) e = refl

  -- a row that is no root has a byte as its outer letter
  pub outer-byte : 2 ≤ r → outer_in b r < 256
  outer-byte l = letter-byte (outer_in b r) (outer-letter g r u l)

-- a row that is no root, with its inner row i and its outer letter c
pub record Around (b : Word) (r i c : ℕ) : Type 0 where
  pub good : Good b
  pub used : used_in b r ≡ true
  pub high : 2 ≤ r
  pub inner-is : i ≡ inner_in b r
  pub outer-is : c ≡ outer_in b r

module _ {b : Word} {r i c : ℕ} (a : Around b r i c) where
  -- its inner row is used, and stores a smaller length
  pub inner-used : used_in b i ≡ true
  inner-used = rw a.inner-is ((covers a.good).inner-is r a.used).0

  pub inner-less : cell b i 0 < cell b r 0
  inner-less =
      let g = a.good in
      omega (arith, length-row g r a.used, length-row g i inner-used, rw (← a.inner-is) at (inner-falls (covers g) r a.used λ z. omega (arith, a.high)))

  -- around row 0 it spells its outer letter
  spells-letter : i ≡ 0 → spelling_of (node_in b r) ≡ c ∷ []
  unfolding spelling_of around
  spells-letter z = cc ((covers a.good).outer-is r a.used a.high, (covers a.good).row_zero.1)

  -- around any other row that row's word between the partner of its outer letter and that letter
  spells-around : (i ≡ 0 → ⊥) → spelling_of (node_in b r) ≡ rule_of b c ∷ spelling_of (node_in b i) ++ (c ∷ [])
  unfolding spelling_of around
  spells-around n = rw ((covers a.good).outer-is r a.used a.high, ← a.inner-is, ← a.outer-is) (go (node_in b i) refl)
    where
      go : (v : Node) → node_in b i ≡ v → around (rule_of b) c v ≡ rule_of b c ∷ spelling_of v ++ (c ∷ [])
      go imaginary z = absurd (n (imaginary-row (covers a.good) i inner-used z))
      go (spelt w) z = refl

  -- so it is written by its outer letter alone
  pub letter-length : i ≡ 0 → length (spelling_of (node_in b r)) ≡ 1
  letter-length z = ap length (spells-letter z)

  pub written-letter : (out : Word) (at : ℕ) → i ≡ 0 → set out at c ≡ sets out at (spelling_of (node_in b r))
  written-letter out at z = rw (spells-letter z)

  -- or by what its inner row spells, one place further, and then its outer letters
  pub around-length : (i ≡ 0 → ⊥) → length (spelling_of (node_in b r)) ≡ length (spelling_of (node_in b i)) + 2
  around-length n = rw (spells-around n) (omega (arith, length-append (spelling_of (node_in b i)) (c ∷ [])))

  pub written-around : (out inside : Word) (at x n : ℕ) → (i ≡ 0 → ⊥) → inside ≡ sets out (at + 1) (spelling_of (node_in b i)) → x ≡ rule_of b c → n ≡ length (spelling_of (node_in b r))
      → set (set inside at x) (at + n - 1) c ≡ sets out at (spelling_of (node_in b r))
  written-around out inside at x n z h p m =
      let w = spelling_of (node_in b i) in
      let place : at + n - 1 ≡ at + suc (length w) = omega (arith, around-length z) in
      let front : set inside at x ≡ sets out at (rule_of b c ∷ w) = rw (h, p, add-one) (sets-cons out at (suc at) (rule_of b c) w (omega arith)) in
      cc (place, front, spells-around z, sets-snoc out at (rule_of b c ∷ w) (suc (length w)) c refl)
