-- The answer to a text, by its faults: over the limit, a byte that is no code, none. Rests on the two lengths of `facing_sets`.
use Prim.Native.Nat.{ℕ, ◌≤◌, ◌<◌}
use native.Mathlib.Omega.{arith}
use mathlib.Core.Path.{◌≡◌, refl, sym, ap, ap₂, ◌∙◌}
use mathlib.Core.Bool.{Bool, true, false, not}
use mathlib.Core.List.{[], ◌∷◌, map}
use lib.Dec.{ltb}
use lib.ListN.{length, length-map, take}
use borrow.Author.Tests.{lt-ltb, le-ltb}
use Rattle.palindromes.specs.Word.{Word}
use Rattle.palindromes.specs.Refusal.{fault, first_fault}
use Rattle.outcome.specs.Reply.{packed, accepted, refused_with}
use Rattle.ambiguity.specs.Code.{all_codes, set_of}
use Rattle.ambiguity.specs.Facing.{certain_set_of}
use Rattle.base_sets.specs.Sets.{SetsRead}
use Rattle.facing_sets.specs.Search.{Within, Longest}
use Rattle.facing_sets.specs.declared.Lengths.{Lengths}
use Rattle.facing_sets.proofs.Found.{first-length, second-length, certain-within}
use Rattle.uncertain_call.specs.Answer.{text_faults, text_refusal, lengths_reply, uncertain_reply, UncertainPromise}

module _ (s : Word) where
  -- ---- the number

  pub by-faults : (over codes : Bool) → ltb 1024 (length s) ≡ over → all_codes s ≡ codes
      → text_refusal s ≡ first_fault (fault 5 over ∷ fault 4 (not codes) ∷ [])
  unfolding text_refusal text_faults
  by-faults over codes e f = ap₂ (λ (o c : Bool). first_fault (fault 5 o ∷ fault 4 (not c) ∷ [])) e f

  over-limit : 1024 < length s → text_refusal s ≡ 5
  unfolding fault first_fault
  over-limit h = by-faults true (all_codes s) (lt-ltb 1024 (length s) h) refl

  pub no_code : length s ≤ 1024 → all_codes s ≡ false → text_refusal s ≡ 4
  unfolding fault first_fault
  no_code h n = by-faults false false (le-ltb 1024 (length s) h) n

  pub accepted-text : length s ≤ 1024 → all_codes s ≡ true → text_refusal s ≡ 0
  unfolding fault first_fault
  accepted-text h n = by-faults false true (le-ltb 1024 (length s) h) n

  -- ---- the promise

  pub promised : (r n : ℕ) → text_refusal s ≡ n → r ≡ packed (lengths_reply n s) → UncertainPromise s r
  unfolding uncertain_reply
  promised r n e p = record { reply = p ∙ ap (λ (k : ℕ). packed (lengths_reply k s)) (sym e) }

  pub refused_over : (r : ℕ) → 1024 < length s → r ≡ packed (refused_with 5) → UncertainPromise s r
  unfolding lengths_reply
  refused_over r h e = promised r 5 (over-limit h) e

  pub refused-code : (r : ℕ) → length s ≤ 1024 → all_codes s ≡ false → r ≡ packed (refused_with 4) → UncertainPromise s r
  unfolding lengths_reply
  refused-code r h n e = promised r 4 (no_code h n) e

  -- ---- what was found

  module _ (h : length s ≤ 1024) (c : all_codes s ≡ true) (sets certain : Word) (read : SetsRead s sets certain) where
    pub part-within : Within (take (length s) certain) (take (length s) sets)
    part-within = rw (read.sets-read, read.certain-read) (certain-within s)

    pub sets-length : length s ≡ length (take (length s) sets)
    sets-length = sym (ap length read.sets-read ∙ length-map s set_of)

    pub certain-length : length s ≡ length (take (length s) certain)
    certain-length = sym (ap length read.certain-read ∙ length-map s certain_set_of)

    module _ (f : Lengths) (found : Longest (take (length s) sets) (take (length s) certain) f) where
      -- the lengths fit their bytes
      pub lengths-small : (f.some < 65536) × (f.every < 65536)
      lengths-small =
          let a = found.some-longest.reached.fits in
          let b = found.every-longest.reached.fits in
          (omega (arith, sets-length), omega (arith, certain-length))

      pub lengths-told : (r : ℕ) → r ≡ packed (accepted false 0 f.some f.every) → UncertainPromise s r
      unfolding lengths_reply
      lengths-told r e =
          let all : Longest (map set_of s) (map certain_set_of s) f = rw (read.sets-read, read.certain-read) at found in
          promised r 0 (accepted-text h c)
          (e
          ∙ ap₂ (λ (a b : ℕ). packed (accepted false 0 a b))
          (sym (first-length s c f.some all.some-longest))
          (sym (second-length s c f.every all.every-longest)))
