-- The ends of the factors, traced back from the last one. Those up to an end are those up to where its factor begins, and the end itself
-- (`ends-back`); so each may be written in front of those that stand already, and `Traced` says what is left to write. Rests on `ends-step` and
-- `ends-agree` of palindromes and on `sets_last` of decimal.
use Prim.Native.Nat.{ℕ, suc, ◌+◌, ◌*◌, ◌-◌, ◌/◌, ◌%◌, ◌≤◌, ◌<◌}
use native.Mathlib.Omega.{arith}
use mathlib.Core.Path.{◌≡◌, refl, sym, ap, ◌∙◌}
use mathlib.Core.List.{List, [], ◌∷◌, ◌++◌, append_assoc}
use lib.ListN.{length, get_or, set, take, drop, length-append, length-set, length-take}
use lib.Seq.{sets, sets-eq, drop-drop, set_comm}
use borrow.Rule.Slice.PartMut.{put_mid}
use native.Mathlib.Numerals.{add-one}
use Rattle.std.specs.Int.{w16, to_le_bytes}
use Rattle.palindromes.specs.Word.{Word}
use Rattle.palindromes.specs.Interval.{two_bytes}
use Rattle.palindromes.specs.Factorization.{palindromic_lengths, palindromic_length, ends_to, factor_ends, end_bytes}
use Rattle.palindromes.proofs.Starts.{start-below}
use Rattle.palindromes.proofs.Factorizations.{ends-step, ends-agree}
use Rattle.palindromes.proofs.FactorEnds.{ends-number, end-bytes-length, end-bytes-append}
use Rattle.decimal.proofs.Stores.{sets_last}
use Rattle.store.specs.Layout.{size_in, reading_in, letters_in}
use Rattle.store.specs.Good.{rule_of, Good}
use Rattle.store.proofs.Sizes.{letters-length}
use Rattle.last_factor.specs.Kept.{start_in}
use Rattle.factorization.specs.LastStarts.{LastStarts}
use Rattle.factorization.proofs.Filling.{own-partner}

-- the two bytes of a number, written in their order, stand as if the high one had been stored first
pub two-stored : {u : Word} (l : Word) (at n : ℕ) → at + 2 ≤ length l → n < 65536 → u ≡ to_le_bytes w16 n
    → put_mid at (at + 2 - at) l u ≡ set (set l (at + 1) (n / 256)) at (n % 256)
two-stored {u} l at n h s e =
    let k = at + 2 - at in
    let high : n / 256 % 256 ≡ n / 256 = omega arith in
    let bytes : u ≡ n % 256 ∷ n / 256 ∷ [] = e ∙ ap (λ (x : ℕ). n % 256 ∷ x ∷ []) high in
    let two : length u ≡ 2 = ap length bytes in
    let size : length u ≡ k = omega arith in
    let whole = sets-eq u l at (omega arith) ∙ append_assoc (take at l) u (drop (at + length u) l) in
    let part : put_mid at k l u ≡ sets l at u = rw (drop-drop, ← size) (sym whole) in
    part ∙ ap (sets l at) bytes ∙ rw add-one (set_comm l at (suc at) (n % 256) (n / 256) (λ e. omega arith))

-- where the factor that ends at a place begins, by the list
abbrev before : Word → ℕ → ℕ
before lasts i = get_or lasts (i - 1) 0

-- the ends of the factors up to a place
abbrev pub ends_by : Word → ℕ → List ℕ
ends_by lasts i = ends_to (before lasts) i i

-- what is left when the ends behind `end` stand from `at` on: with those up to `end` they are all
pub record Traced (b lasts out₀ out : Word) (at end : ℕ) : Type 0 where
  pub inside : end ≤ size_in b
  pub place : at ≡ 2 * length (ends_by lasts end)
  pub room : at ≤ length out
  pub kept : length out ≡ length out₀
  pub rest : sets out 0 (end_bytes (ends_by lasts end)) ≡ sets out₀ 0 (end_bytes (factor_ends (rule_of b) (letters_in b)))

module _ {b : Word} (g : Good b) {lasts : Word} (c : LastStarts b (size_in b) lasts) where
  -- a factor begins where it is said to, and before its end
  last-is : (q : ℕ) → 1 ≤ q → q ≤ size_in b → before lasts q ≡ start_in b q
  last-is q a h = let e : q - 1 + 1 ≡ q = omega arith in c.each (q - 1) (omega arith) ∙ ap (start_in b) e

  pub falls : (q : ℕ) → 1 ≤ q → q ≤ size_in b → before lasts q < q
  falls q a h =
      let t = take q (letters_in b) in
      let n : length t ≡ q = omega (arith, length-take q (letters_in b), letters-length g.sized) in
      let lengths = palindromic_lengths (rule_of b) (letters_in b) in
      omega (arith, last-is q a h, n, start-below (rule_of b) lengths t (λ e. omega (arith, n, ap length e)))

  all-ends : ends_by lasts (size_in b) ≡ factor_ends (rule_of b) (letters_in b)
  unfolding factor_ends
  all-ends =
      let agree = ends-agree (before lasts) (size_in b) falls (start_in b) last-is in
      rw (letters-length g.sized) (agree (size_in b) (size_in b) (omega arith))

  -- at first all of them are left
  pub traced-first : reading_in b ≡ 0 → (out : Word) {number : ℕ} → number ≡ palindromic_length (rule_of b) (letters_in b) → 2 * number ≤ length out
      → Traced b lasts out out (2 * number) (size_in b)
  traced-first z out {number} e h =
      record {
        inside = omega arith;
        place = omega (arith, ap length all-ends, ends-number (rule_of b) (own-partner b z) (letters_in b));
        room = h;
        kept = refl;
        rest = ap (λ (l : List ℕ). sets out 0 (end_bytes l)) all-ends;
      }

  module _ {out₀ out : Word} {at end : ℕ} (t : Traced b lasts out₀ out at end) where
    -- at last none
    pub traced-last : end ≡ 0 → out ≡ sets out₀ 0 (end_bytes (factor_ends (rule_of b) (letters_in b)))
    unfolding ends_to end_bytes
    traced-last z = ap (λ (i : ℕ). sets out 0 (end_bytes (ends_by lasts i))) (sym z) ∙ t.rest

    module _ (l : 1 ≤ end) where
      ends-back : ends_by lasts end ≡ ends_by lasts (before lasts end) ++ (end ∷ [])
      ends-back = ends-step (before lasts) (size_in b) falls end l t.inside

      -- two bytes are left for this one
      pub place-back : at ≡ 2 * length (ends_by lasts (before lasts end)) + 2
      place-back =
          let others = ends_by lasts (before lasts end) in
          omega (arith, t.place, ap length ends-back, length-append others (end ∷ []))

      -- and it is written, its high byte first
      pub traced-more : Traced b lasts out₀ (set (set out (at - 2 + 1) (end / 256)) (at - 2) (end % 256)) (at - 2) (before lasts end)
      unfolding end_bytes two_bytes
      traced-more =
          let others = ends_by lasts (before lasts end) in
          let bytes = end_bytes others in
          let low = bytes ++ (end % 256 ∷ []) in
          let high = set out (at - 2 + 1) (end / 256) in
          let i : at - 2 ≡ 0 + length bytes = omega (arith, place-back, end-bytes-length others) in
          let j : at - 2 + 1 ≡ 0 + length low = omega (arith, i, length-append bytes (end % 256 ∷ [])) in
          let both : low ++ (end / 256 ∷ []) ≡ end_bytes (ends_by lasts end) =
          append_assoc bytes (end % 256 ∷ []) (end / 256 ∷ []) ∙ sym (ap end_bytes ends-back ∙ end-bytes-append others (end ∷ [])) in
          record {
            inside = omega (arith, falls end l t.inside, t.inside);
            place = omega (arith, place-back);
            room = omega (arith, t.room, length-set high (at - 2) (end % 256), length-set out (at - 2 + 1) (end / 256));
            kept = length-set high (at - 2) (end % 256) ∙ length-set out (at - 2 + 1) (end / 256) ∙ t.kept;
            rest = ap (λ (k : ℕ). sets (set high k (end % 256)) 0 bytes) i ∙ sets_last high 0 bytes (end % 256)
                ∙ ap (λ (k : ℕ). sets (set out k (end / 256)) 0 low) j ∙ sets_last out 0 low (end / 256)
                ∙ ap (sets out 0) both ∙ t.rest;
          }
