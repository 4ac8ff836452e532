-- A part of a list that is written in one go, `sets l at w`: what it holds afterwards, what stays as it was, and how two such writes make one. These are the laws by
-- which all who move and write letters are understood. Rests on the library's laws of `set`, `take`, `drop` and `sets`.
use Prim.Native.Nat.{ℕ, suc, ◌+◌, ◌≤◌, ◌<◌}
use native.Mathlib.Nat.{add-zero}
use native.Mathlib.Omega.{arith}
use mathlib.Core.Path.{◌≡◌, refl, sym, ap, ◌∙◌}
use mathlib.Core.Logic.{◌≢◌}
use mathlib.Core.List.{[], ◌∷◌, ◌++◌, append_assoc}
use lib.ListN.{length, take, drop, get_or, set, take-append-drop}
use lib.ListN.{length-drop}
use lib.Seq.{sets, length-sets, ext_get_or, sets-eq, set_comm, get_or-set_other, get_or-drop, take-add, take_at, drop_at, length-take-le}
use Rattle.palindromes.specs.Word.{Word}

-- ---- what a write leaves

-- an element outside the part stays as it was
pub sets-outside : (l : Word) (at : ℕ) (w : Word) (i : ℕ) → ((k : ℕ) → k < length w → i ≢ at + k) → get_or (sets l at w) i 0 ≡ get_or l i 0
sets-outside l at [] i h = refl
sets-outside l at (x ∷ w) i h =
    sets-outside (set l at x) (suc at) w i (λ k lt e. h (suc k) (omega arith) (omega arith))
    ∙ get_or-set_other l at i x 0 (λ e. h 0 (omega arith) (omega arith))

-- and so does all that follows it
pub drop-sets : (l : Word) (at : ℕ) (w : Word) (i : ℕ) → at + length w ≤ i → drop i (sets l at w) ≡ drop i l
drop-sets l at w i h =
    ext_get_or 0 (drop i (sets l at w)) (drop i l) (cc (length-drop i (sets l at w), length-drop i l, length-sets l at w))
    (λ j q. get_or-drop i (sets l at w) j 0 ∙ sets-outside l at w (i + j) (λ k m e. omega arith) ∙ sym (get_or-drop i l j 0))

-- the part holds what was written
pub sets-part : (l : Word) (at : ℕ) (w : Word) (n : ℕ) → length w ≡ n → at + n ≤ length l → take n (drop at (sets l at w)) ≡ w
sets-part l at w n e h =
    cc (
      sets-eq w l at (omega arith),
      append_assoc (take at l) w (drop (at + length w) l),
      drop_at (take at l) (w ++ drop (at + length w) l) at (length-take-le at l (omega arith)),
      take_at w (drop (at + length w) l) n e,
    )

-- ---- two writes

-- one after the other
pub sets-append : (l : Word) (at : ℕ) (u v : Word) → sets l at (u ++ v) ≡ sets (sets l at u) (at + length u) v
sets-append l at [] v = rw add-zero
sets-append l at (x ∷ u) v = sets-append (set l at x) (suc at) u v ∙ ap (λ i. sets (sets (set l at x) (suc at) u) i v) (omega arith)

-- an element more at the end
pub sets-snoc : (l : Word) (at : ℕ) (w : Word) (n x : ℕ) → length w ≡ n → sets l at (w ++ (x ∷ [])) ≡ set (sets l at w) (at + n) x
sets-snoc l at w n x e = rw (← e) (sets-append l at w (x ∷ []))

-- an element more in front
pub sets-cons : (l : Word) (i at : ℕ) (x : ℕ) (w : Word) → i < at → set (sets l at w) i x ≡ sets (set l i x) at w
sets-cons l i at x [] h = refl
sets-cons l i at x (y ∷ w) h =
    sets-cons (set l at y) i (suc at) x w (omega arith) ∙ ap (λ m. sets m (suc at) w) (set_comm l at i y x (omega arith))

-- to write what stands there changes nothing
pub sets_same : (l : Word) (at n : ℕ) → at + n ≤ length l → sets l at (take n (drop at l)) ≡ l
sets_same l at n h =
    let e : length (take n (drop at l)) ≡ n = length-take-le n (drop at l) (rw length-drop (omega arith)) in
    cc (sets-eq (take n (drop at l)) l at (omega arith), e, take-add at n l, take-append-drop (at + n) l)
