-- Letters that join one by one: what stands after the first i of them, and the next. Rests on the laws of additions one after the other (`Turned` of transitions). Assumes nothing.
use Prim.Native.Nat.{ℕ, ◌+◌, ◌≤◌, ◌<◌}
use native.Mathlib.Omega.{arith}
use native.Mathlib.Numerals.{add-one}
use mathlib.Core.Path.{◌≡◌, refl, sym, ap, ap₂, ◌∙◌}
use mathlib.Core.Bool.{true}
use mathlib.Core.List.{List, [], ◌∷◌}
use lib.ListN.{length, take, get_or, length-append}
use lib.Seq.{take-suc, take_at, length-take-le, get_or-append_seam}
use Rattle.palindromes.specs.Word.{Word, is_letter, all_letters}
use Rattle.palindromes.specs.Reading.{as_plain, reading_number, rule_in}
use Rattle.palindromes.specs.End.{End}
use Rattle.palindromes.specs.Refusal.{store_size}
use Rattle.palindromes.proofs.Letters.{letter-of, letter-byte, letters-parts}
use Rattle.palindromes.proofs.Readings.{number-below}
use Rattle.partners.specs.Table.{PartnersIn}
use Rattle.store.specs.Layout.{capacity_in, size_in, reading_in}
use Rattle.store.specs.Good.{rule_of, Good}
use Rattle.transitions.specs.Opening.{opened}
use Rattle.transitions.specs.Addition.{after_addition}
use Rattle.transitions.specs.Turning.{after_additions}
use Rattle.outcome.specs.declared.answers.Added.{Added}
use Rattle.filling.specs.Last.{brought, LastBrings}
use Rattle.transitions.proofs.Turned.{Filled, additions, additions-more, can-take}

module _ (e : End) (b w : Word) (g : Good b) (all : all_letters w ≡ true) (room : size_in b + length w ≤ capacity_in b) where
  module _ (i : ℕ) (h : i ≤ length w) where
    -- the store with the first i letters
    abbrev partly : Word
    partly = after_additions e (take i w) b

    pub first-ones : Filled e (take i w) b
    first-ones = additions e (take i w) g (letters-parts i w all).0 (omega (arith, length-take-le i w h))

    -- the next letter is one, and has room
    pub next-letter : i < length w → is_letter (get_or w i 0) ≡ true
    next-letter l = letter-of w i l all

    pub next-room : i < length w → size_in partly < capacity_in partly
    next-room l = omega (arith, first-ones.size, length-take-le i w h, first-ones.capacity)

    -- and has the partner that a table of the reading gives it
    pub next-partner : i < length w → (m : ℕ) (t : List ℕ) → m ≡ reading_in b → PartnersIn m t → get_or t (get_or w i 0) 0 ≡ rule_of partly (get_or w i 0)
    next-partner l m t r h = h (get_or w i 0) (letter-byte (get_or w i 0) (next-letter l)) ∙ ap (λ (n : ℕ). rule_in n (get_or w i 0)) (r ∙ sym first-ones.reading)

    -- it joins those before it
    pub one_more : i < length w → after_addition e (get_or w i 0) partly ≡ after_additions e (take (i + 1) w) b
    one_more l = sym (additions-more e (take i w) (get_or w i 0) b) ∙ ap (λ (s : Word). after_additions e s b) (rw (add-one i, take-suc w i 0 l) refl)

-- the last of them is the one behind all others
pub last-brings : (e : End) (b w : Word) (a : Added) → ((j : ℕ) → length w ≡ j + 1 → a ≡ brought e (take j w) (get_or w j 0) b) → LastBrings e w b a
last-brings e b w a h u c f =
    let n : length w ≡ length u + 1 = ap length f ∙ length-append u (c ∷ []) in
    h (length u) n ∙ ap₂ (λ (s : Word) (x : ℕ). brought e s x b) (ap (take (length u)) f ∙ take_at u (c ∷ []) (length u) refl) (ap (λ (s : Word). get_or s (length u) 0) f ∙ get_or-append_seam u c [] 0)

-- a store that is opened for a plain record with room for 1,024 letters takes as many
pub takes : (b w : Word) → 49408 ≤ length b → all_letters w ≡ true → length w ≤ 1024 → {b' : Word} → b' ≡ opened (reading_number as_plain) 1024 b
    → Good b' × (all_letters w ≡ true) × (size_in b' + length w ≤ capacity_in b')
unfolding store_size
takes b w long all few e =
    let h = can-take (reading_number as_plain) 1024 b (number-below as_plain) (omega arith) (omega arith) long w few in
    rw e (h.0, all, h.1)
