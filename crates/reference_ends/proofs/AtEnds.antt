-- The longest palindrome at an end, sought from the whole record on, one letter less a turn. Rests on the search's own step at each end.
use Prim.Native.Nat.{ℕ, ◌+◌, ◌-◌, ◌<◌, ◌≤◌}
use native.Mathlib.Omega.{arith}
use mathlib.Core.Path.{◌≡◌, refl, sym, ap}
use mathlib.Core.Bool.{true, false, cond}
use mathlib.Core.List.{[], ◌∷◌}
use lib.ListN.{length, get_or, take, drop, length-drop, drop_of_length-le}
use lib.Seq.{take_all, take-length, length-take-le}
use Rattle.palindromes.specs.Word.{Word}
use Rattle.palindromes.specs.Palindrome.{is_symmetric}
use Rattle.palindromes.specs.Record.{longest_suffix, longest_prefix}
use Rattle.palindromes.specs.Node.{spelt, spelling_of, link_of}
use Rattle.palindromes.specs.End.{at_left, at_right, longest_at}
use Rattle.palindromes.proofs.Longest.{longest-suffix-cons, longest-prefix-snoc, longest-empty}
use Rattle.reference_symmetry.proofs.Turns.{take-one, drop-one}

-- a part up to the record's end, as the code lends it
pub part_to_end : (s : Word) (i : ℕ) → take (length s - i) (drop i s) ≡ drop i s
part_to_end s i = take_all (length s - i) (drop i s) (omega (arith, length-drop i s))

module _ (σ : ℕ → ℕ) (s : Word) where
  -- ---- the right end

  suffix-step : (i : ℕ) → i < length s → longest_suffix σ (drop i s) ≡ cond (is_symmetric σ (drop i s)) (drop i s) (longest_suffix σ (drop (i + 1) s))
  suffix-step i h = cc (drop-one s i h, longest-suffix-cons σ (get_or s i 0) (drop (i + 1) s))

  -- the suffix from i on is the longest, or a shorter one is, or there is none
  pub suffix-here : (i : ℕ) → i < length s → is_symmetric σ (take (length s - i) (drop i s)) ≡ true → length (longest_suffix σ (drop i s)) ≡ length s - i
  suffix-here i h e = cc (suffix-step i h, part_to_end s i, length-drop i s)

  pub suffix-shorter : (i : ℕ) → i < length s → is_symmetric σ (take (length s - i) (drop i s)) ≡ false
      → longest_suffix σ (drop i s) ≡ longest_suffix σ (drop (i + 1) s)
  suffix-shorter i h e = cc (suffix-step i h, part_to_end s i)

  pub suffix-none : (i : ℕ) → length s ≤ i → longest_suffix σ (drop i s) ≡ []
  unfolding longest_at
  suffix-none i h = cc (drop_of_length-le s h, longest-empty σ at_right)

  -- ---- the left end

  prefix-step : (e : ℕ) → 0 < e → e ≤ length s → longest_prefix σ (take e s) ≡ cond (is_symmetric σ (take e s)) (take e s) (longest_prefix σ (take (e - 1) s))
  prefix-step e more h =
      let q : e ≡ e - 1 + 1 = omega arith in
      cc (take-one s (e - 1) (omega arith), longest-prefix-snoc σ (take (e - 1) s) (get_or s (e - 1) 0))

  -- at first the whole record is tried
  pub prefix-all : longest_prefix σ s ≡ longest_prefix σ (take (length s) s)
  prefix-all = ap (longest_prefix σ) (sym (take-length s))

  -- the prefix up to e is the longest, or a shorter one is, or there is none
  pub prefix_here : (e : ℕ) → 0 < e → e ≤ length s → is_symmetric σ (take e s) ≡ true → length (longest_prefix σ (take e s)) ≡ e
  prefix_here e more h t = cc (prefix-step e more h, length-take-le e s h)

  pub prefix-shorter : (e : ℕ) → 0 < e → e ≤ length s → is_symmetric σ (take e s) ≡ false → longest_prefix σ (take e s) ≡ longest_prefix σ (take (e - 1) s)
  prefix-shorter e more h t = cc (prefix-step e more h)

  pub prefix-none : (e : ℕ) → e ≤ 0 → longest_prefix σ (take e s) ≡ []
  unfolding longest_at
  prefix-none e h =
      let z : e ≡ 0 = omega arith in
      cc (longest-empty σ at_left)

-- ---- the suffix link

module _ (σ : ℕ → ℕ) where
  -- the empty string's link spells nothing, and that of any other word is sought in its tail
  pub link-empty : (v : Word) → length v ≡ 0 → length (spelling_of (link_of σ (spelt v))) ≡ 0
  unfolding link_of spelling_of
  link-empty [] e = refl
  link-empty (x ∷ v) e = absurd (omega arith)

  pub link-tail : (v : Word) → (length v ≡ 0 → ⊥) → spelling_of (link_of σ (spelt v)) ≡ longest_suffix σ (take (length v - 1) (drop 1 v))
  unfolding link_of spelling_of
  link-tail [] h = absurd (h refl)
  link-tail (x ∷ v) h = cc (part_to_end (x ∷ v) 1)
