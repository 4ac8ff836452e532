-- What a text of codes is for some choice and for every choice, told by its places that face each other: it is a mirror repeat for some choice exactly
-- if any two such places have sets that meet, and for every choice exactly if any two are certain and equal. Rests on the laws of choices and of the
-- codes, and on the pairs of a palindrome (`Mismatch` of `palindromes`).
use Prim.Native.Nat.{ℕ, suc, ◌+◌, ◌-◌, ◌/◌, ◌<◌}
use native.Mathlib.Omega.{arith}
use native.Mathlib.Decide.{dec_lt}
use native.Mathlib.Nat.{zero-add}
use mathlib.Core.Path.{◌≡◌, refl, sym, ap, ◌∙◌, subst}
use mathlib.Core.Bool.{true}
use mathlib.Core.List.Memᴰ
use mathlib.Core.List.{[]}
use lib.ListN.{length, get_or, set, length-set}
use lib.Seq.{get_or-set_same, get_or-set_other}
use Rattle.palindromes.proofs.Entries.{entries_from, entries-length, entry-from}
use Rattle.palindromes.specs.Word.{Word}
use Rattle.palindromes.specs.Palindrome.{plain, Symmetric}
use Rattle.palindromes.specs.Mismatch.{Agrees, all-agree}
use Rattle.palindromes.proofs.Tests.{mismatch-zero}
use Rattle.palindromes.proofs.Words.{no-letters}
use Rattle.palindromes.proofs.Mismatch.{symmetric-agrees, mismatch-half}
use Rattle.ambiguity.specs.Code.{all_codes}
use Rattle.ambiguity.specs.Choice.{BaseOf, Choice}
use Rattle.ambiguity.specs.Longest.{MirrorForSome, MirrorForEvery}
use Rattle.ambiguity.specs.Facing.{FacingPairs, SetsMeet, Settled}
use Rattle.ambiguity.proofs.Codes.{shared_base, shared-base, shared-sym, base-meets, meet-sym, code_meets, settled-base, base-settled}
use Rattle.ambiguity.proofs.Choices.{choice-length, choice-base, base-choice, some-choice, choice-set, code_at}

-- ---- a word and its pairs

-- a word equals its reversal exactly if any two letters that face each other are the same
symmetric-pairs : (u : Word) → Symmetric plain u → FacingPairs (λ x y. x ≡ y) u
symmetric-pairs u h i j l e =
    let across : length u - 1 - i ≡ j = omega arith in
    symmetric-agrees plain u h i (omega arith) ∙ ap (λ (k : ℕ). get_or u k 0) across

pairs-symmetric : (u : Word) → FacingPairs (λ x y. x ≡ y) u → Symmetric plain u
pairs-symmetric u h = mismatch-zero plain u (mismatch-half plain u (λ x. refl) (length u - length u / 2) 0 refl (all-agree agrees refl))
  where
    agrees : (i : ℕ) → i < length u - length u / 2 → Agrees plain u i
    agrees i l = go (dec_lt i (length u - 1 - i))
      where
        go : Dec (i < length u - 1 - i) → get_or u i 0 ≡ get_or u (length u - 1 - i) 0
        go (yes m) = h i (length u - 1 - i) (omega arith) (omega arith)
        go (no m) = let same : i ≡ length u - 1 - i = omega arith in ap (λ (k : ℕ). get_or u k 0) same

module _ (w : Word) where
  -- ---- for some choice

  -- 02 (xii), the first length: a mirror repeat for some choice has facing sets that meet
  pub some-facing : MirrorForSome w → FacingPairs SetsMeet w
  some-facing m i j l e =
      let u = m.choice in
      let len = choice-length m.chosen in
      let same : get_or u i 0 ≡ get_or u j 0 = symmetric-pairs u m.palindrome.symmetric i j (omega arith) (omega arith) in
      base-meets (get_or w i 0) (get_or w j 0) (get_or u i 0) (choice-base m.chosen i (omega arith)) (Memᴰ.cast same (choice-base m.chosen j (omega arith)))

  -- and a text of codes whose facing sets meet is one: at two such places the base is chosen that both have
  pub facing-some : (w ≡ [] → ⊥) → all_codes w ≡ true → FacingPairs SetsMeet w → MirrorForSome w
  facing-some n c h =
      record { choice = u; chosen = base-choice u w len based; palindrome = record { non-empty = full; symmetric = pairs-symmetric u pairs } }
    where
      base : ℕ → ℕ
      base i = shared_base (get_or w i 0) (get_or w (length w - 1 - i) 0)

      u : Word
      u = entries_from base 0 (length w)

      len : length u ≡ length w
      len = entries-length base (length w) 0

      full : u ≡ [] → ⊥
      full e = n (no-letters w (omega (arith, ap length e, len)))

      letter : (i : ℕ) → i < length w → get_or u i 0 ≡ base i
      letter i l = entry-from base (length w) 0 i l ∙ ap base (zero-add i)

      pairs : FacingPairs (λ x y. x ≡ y) u
      pairs i j l e =
          let p : length w - 1 - i ≡ j = omega (arith, len) in
          let q : length w - 1 - j ≡ i = omega (arith, len) in
          letter i (omega (arith, len))
          ∙ ap (λ (k : ℕ). shared_base (get_or w i 0) (get_or w k 0)) p
          ∙ shared-sym (get_or w i 0) (get_or w j 0)
          ∙ sym (letter j (omega (arith, len)) ∙ ap (λ (k : ℕ). shared_base (get_or w j 0) (get_or w k 0)) q)

      meet : (i j : ℕ) → i < length w → suc (i + j) ≡ length w → SetsMeet (get_or w i 0) (get_or w j 0)
      meet i j l e = go (dec_lt i j) (dec_lt j i)
        where
          go : Dec (i < j) → Dec (j < i) → SetsMeet (get_or w i 0) (get_or w j 0)
          go (yes m) d = h i j (omega arith) e
          go (no m) (yes k) = meet-sym (get_or w j 0) (get_or w i 0) (h j i (omega arith) (omega arith))
          go (no m) (no k) =
              let same : i ≡ j = omega arith in
              subst (λ (k : ℕ). SetsMeet (get_or w i 0) (get_or w k 0)) same (code_meets (get_or w i 0) (code_at w i l c))

      based : (i : ℕ) → i < length w → BaseOf (get_or u i 0) (get_or w i 0)
      based i l =
          let across = length w - 1 - i in
          Memᴰ.cast (letter i l) (shared-base (get_or w i 0) (get_or w across 0) (meet i across l (omega arith)))

  -- ---- for every choice

  -- 02 (xii), the second length: a mirror repeat for every choice has facing codes that are certain and equal
  pub every-facing : all_codes w ≡ true → MirrorForEvery w → FacingPairs Settled w
  every-facing c h i j l e = base-settled (get_or w i 0) (get_or w j 0) (code_at w i (omega arith) c) (code_at w j (omega arith) c) one
    where
      one : (b d : ℕ) → BaseOf b (get_or w i 0) → BaseOf d (get_or w j 0) → b ≡ d
      one b d p q =
          let r = some-choice w c in
          let len = choice-length r.1 in
          let with-b : Choice (set r.0 i b) w = choice-set r.1 i b p (omega arith) in
          let with-d : Choice (set (set r.0 i b) j d) w = choice-set with-b j d q (omega arith) in
          let v = set (set r.0 i b) j d in
          let lenb = length-set r.0 i b in
          let lend = length-set (set r.0 i b) j d in
          let same : get_or v i 0 ≡ get_or v j 0 = symmetric-pairs v (h v with-d).symmetric i j (omega arith) (omega arith) in
          let here : get_or v i 0 ≡ b = get_or-set_other (set r.0 i b) j i d 0 (λ k. omega arith) ∙ get_or-set_same r.0 i b 0 (omega arith) in
          let there : get_or v j 0 ≡ d = get_or-set_same (set r.0 i b) j d 0 (omega arith) in
          cc

  -- and a text whose facing codes are so is one
  pub facing-every : (w ≡ [] → ⊥) → FacingPairs Settled w → MirrorForEvery w
  facing-every n h u c =
      let len = choice-length c in
      record {
        non-empty = λ e. n (no-letters w (omega (arith, ap length e, len)));
        symmetric = pairs-symmetric u λ i j l e.
            settled-base (get_or w i 0) (get_or w j 0) (h i j (omega arith) (omega arith)) (get_or u i 0) (get_or u j 0)
            (choice-base c i (omega arith)) (choice-base c j (omega arith));
      }
