use Rattle.std.proofs.Common.{ℕ, ◌-◌, ◌≤◌, ◌≡◌, Bool, true, false, cond, leb, eqb, get_or, arith, refl, sym, ◌∙◌, leb-true, le-leb}
use Rattle.std.specs.Prelude.{Some, None}
use Rattle.palindromes.specs.Word.{Word}
use Rattle.store.specs.Layout.{cell, length_in}
use Rattle.store.specs.Lengths.{place_before}
use Rattle.store.proofs.Signed.{number_is, kept}
use Rattle.walk.specs.Frame.{standing_in}
use Rattle.walk.specs.Walk.{faces_at}
use Rattle.walk.proofs.faces.Goals as goal

-- a place before the palindrome: the palindrome is shorter than the letters read
placed : (k m i : ℕ) → place_before k m ≡ Some i → (m ≤ k) × (i ≡ k - m)
placed k m i = go (leb m k) refl
  where
    go : (z : Bool) → leb m k ≡ z → cond z (Some (k - m)) None ≡ Some i → (m ≤ k) × (i ≡ k - m)
    go true h e = (leb-true m k h, cc)
    go false h e = absurd (let z : ◌≡◌ {A = ℕ} 0 1 = cc in omega arith)

module _ (b t : Word) (k want row : ℕ) where
  -- there the letter at that place answers
  there : (i x : ℕ) → place_before k (cell b row 0) ≡ Some i → x ≡ get_or t i 0 → eqb x want ≡ faces_at b t k want row
  there i x e f = let p = placed k (cell b row 0) i e in cc (le-leb (cell b row 0) k p.0, p.1)

  -- where there is no such place, no letter stands before it
  nowhere : place_before k (cell b row 0) ≡ None → false ≡ faces_at b t k want row
  nowhere = go (leb (cell b row 0) k) refl
    where
      go : (z : Bool) → leb (cell b row 0) k ≡ z → cond z (Some (k - cell b row 0)) None ≡ None → false ≡ faces_at b t k want row
      go true h e = absurd (let z : ◌≡◌ {A = ℕ} 0 1 = cc in omega arith)
      go false h e = cc

pub standing-requires : goal.standing-requires
unfolding length_in
standing-requires c =
    let a = c.args in
    let l = c.length_of.ensures in
    let stored = cell a.b.now a.row 0 in
    let place = c.before-place.ensures stored (kept l.1 ∙ l.0) in
    let h = placed a.k stored c.in-Some.i (sym place ∙ c.in-Some.is) in
    (c.requires.within.letters, omega (arith, h.0, h.1, c.requires.within.read, c.requires.row_in_bounds))

pub returns-in-Some : goal.returns-in-Some
unfolding length_in
returns-in-Some c =
    let a = c.args in
    let l = c.length_of.ensures in
    let stored = cell a.b.now a.row 0 in
    let place = c.before-place.ensures stored (kept l.1 ∙ l.0) in (
      there a.b.now (standing_in a.b.now a.f a.side) a.k a.c a.row c.in-Some.i c.standing.result (sym place ∙ c.in-Some.is) c.standing.ensures,
      omega (arith, l.1.small, number_is l.1 stored l.0),
    )

pub returns-in-None : goal.returns-in-None
unfolding length_in
returns-in-None c =
    let a = c.args in
    let l = c.length_of.ensures in
    let stored = cell a.b.now a.row 0 in
    let place = c.before-place.ensures stored (kept l.1 ∙ l.0) in
    (nowhere a.b.now (standing_in a.b.now a.f a.side) a.k a.c a.row (sym place ∙ c.in-None.is), omega (arith, l.1.small, number_is l.1 stored l.0))
