-- The set of every byte, by the list of the letters' sets: computed byte by byte. Assumes nothing.
use Prim.Native.Nat.{ℕ, ◌/◌, ◌%◌, ◌<◌}
use mathlib.Core.Path.{◌≡◌, refl, sym, ap, ◌∙◌}
use mathlib.Core.Bool.{Bool, cond}
use mathlib.Core.List.{List}
use lib.Dec.{eqb}
use lib.ListN.{get_or}
use borrow.Author.Tests.{eq-eqb, ne_eqb}
use Rattle.palindromes.specs.Interval.{numbers_from}
use Rattle.palindromes.proofs.Entries.{entries_from, entry_at}
use Rattle.ambiguity.specs.Code.{codes, bases_in, bases_of, bit_of, four_bits, set_of}
use Rattle.base_sets.specs.Sets.{letter_sets}

-- the set of a byte by the list
by_letter : ℕ → ℕ
by_letter c = cond (eqb (c / 64) 1) (get_or letter_sets (c % 32) 0) 0

by-letter : (c : ℕ) → c < 256 → by_letter c ≡ set_of c
unfolding by_letter entries_from letter_sets numbers_from codes bases_in bases_of bit_of four_bits set_of
by-letter c l =
    let same : entries_from by_letter 0 256 ≡ entries_from set_of 0 256 = refl in
    sym (entry_at by_letter c l) ∙ ap (λ (t : List ℕ). get_or t c 0) same ∙ entry_at set_of c l

module _ (c : ℕ) (l : c < 256) where
  -- a byte of 64 to 127 has the set of its letter
  pub letter-set : c / 64 ≡ 1 → get_or letter_sets (c % 32) 0 ≡ set_of c
  unfolding by_letter
  letter-set h = sym (ap (λ (t : Bool). cond t (get_or letter_sets (c % 32) 0) 0) (eq-eqb (c / 64) 1 h)) ∙ by-letter c l

  -- and any other the empty set
  pub no-letter-set : (c / 64 ≡ 1 → ⊥) → 0 ≡ set_of c
  unfolding by_letter
  no-letter-set h = sym (ap (λ (t : Bool). cond t (get_or letter_sets (c % 32) 0) 0) (ne_eqb (c / 64) 1 h)) ∙ by-letter c l
