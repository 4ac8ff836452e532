-- The part that is looked at is the free places: place i of the letters is byte i - n of it. Assumes nothing.
use Rattle.std.proofs.Common.{ℕ, ◌≡◌, ◌+◌, ◌-◌, ◌≤◌, ◌<◌, true, EachIndex, arith, rules, refl, sym, ap, ◌∙◌, length, get_or, take, drop, length-take-le, length-drop}
use Rattle.std.proofs.lemmas.List.{get_or-take, get_or-drop}
use Rattle.palindromes.specs.Word.{Word}
use Rattle.store.specs.Layout.{capacity_in, letters_at}
use Rattle.store.specs.Good.{Sized}
use Rattle.walk.specs.Frame.{Frames}
use Rattle.walk.specs.declared.frame.Frame.{Frame}
use Rattle.walk.proofs.Stores.{store_long}
use Rattle.audit_fixed.specs.Parts.{FreePlaces}
use Rattle.audit_fixed.proofs.Decided.{carried, test-decides}
use Rattle.audit_fixed.proofs.places_free.Goals as goal

module _ {b : Word} {f : Frame} (z : Sized b) (h : Frames b f) where
  inside : f.base + f.capacity ≤ length b
  inside = omega (arith, store_long z, h.base-is, h.capacity-is)

  -- how many places are free, and the part of the store that they are
  abbrev free : ℕ
  free = f.base + f.capacity - (f.base + f.n)

  abbrev part : Word
  part = take free (drop (f.base + f.n) b)

  size : length part ≡ free
  size = length-take-le free (drop (f.base + f.n) b) (rw length-drop (omega (arith, inside)))

  byte : (k : ℕ) → k < free → get_or part k 0 ≡ get_or b (f.base + f.n + k) 0
  byte k l = get_or-take free (drop (f.base + f.n) b) k 0 l ∙ get_or-drop (f.base + f.n) b k 0

  there : EachIndex part (λ k. get_or part k 0 ≡ 0) → FreePlaces b
  there a i l m =
      let k = i - f.n in
      let in_part : k < free = omega (arith, h.size_is, h.capacity-is) in
      let at : letters_at (capacity_in b) + i ≡ f.base + f.n + k = omega (arith, h.size_is, h.base-is) in
      ap (λ (x : ℕ). get_or b x 0) at ∙ sym (byte k in_part) ∙ a k (omega (arith, size))

  back : FreePlaces b → EachIndex part (λ k. get_or part k 0 ≡ 0)
  back a k l =
      let in_part : k < free = omega (arith, size) in
      let at : f.base + f.n + k ≡ letters_at (capacity_in b) + (f.n + k) = omega (arith, h.base-is) in
      byte k in_part ∙ ap (λ (x : ℕ). get_or b x 0) at ∙ a (f.n + k) (omega (arith, h.size_is)) (omega (arith, h.capacity-is))

pub slice_bounds-all_zero-end : goal.slice_bounds-all_zero-end
slice_bounds-all_zero-end c = let e = inside c.requires c.frame_of-frame.ensures in search rules

pub returns : goal.returns
returns c =
    let e = c.all_zero.ensures in
    carried (c.all_zero.result ≡ true) (FreePlaces c.args.b.now) c.all_zero.result (test-decides c.all_zero.result refl)
    (λ t. there c.requires c.frame_of-frame.ensures (e.0 t)) (λ a. e.1 (back c.requires c.frame_of-frame.ensures a))
