-- What holds at the row that a walk has come to (`Turn`): from there the links lead down to row 0, and what the walk finds from there it finds from
-- the start, once the rows counted are passed; there are few of those, for the rows' stored lengths fall. Assumes nothing.
use Prim.Native.Nat.{ℕ, ◌+◌, ◌<◌}
use native.Mathlib.Omega.{arith}
use mathlib.Core.Path.{◌≡◌, refl, sym, subst}
use mathlib.Core.Bool.{Bool, true, false}
use mathlib.Core.Logic.{◌⊎◌, inl, inr, ⊎_elim}
use Rattle.std.specs.Prelude.{Option, Some}
use Rattle.palindromes.specs.Word.{Word}
use Rattle.store.specs.Layout.{cell, link_in}
use Rattle.walk.specs.Walk.{faces_at, Chain, Meets, here, onward}
use Rattle.walk.proofs.Chains.{chain_next}

pub record Turn (b t : Word) (k d want start row passed : ℕ) : Type 0 where
  pub chain : Chain b row
  pub few : (passed ≡ 0) ⊎ (passed + cell b row 0 < 65536)
  pub back : (n m : ℕ) (o : Option ℕ) → m ≡ passed + n → Meets b t k d want row n o → Meets b t k d want start m o

-- at the first row
pub turn-start : {b t : Word} {k d want start : ℕ} → Chain b start → Turn b t k d want start start 0
turn-start {b} {t} {k} {d} {want} {start} h =
    record { chain = h; few = inl refl; back = λ n m o e g. subst (λ (i : ℕ). Meets b t k d want start i o) (omega arith) g }

module _ {b t : Word} {k d want start row passed : ℕ} (h : Turn b t k d want start row passed) (n : row ≡ 0 → ⊥) (x : Bool)
    (f : (x ≡ faces_at b t k want row) × (cell b row 0 < 65536)) where
  -- the walk ends at a row that faces the wanted letter
  pub turn-here : x ≡ true → Meets b t k d want start passed (Some row)
  turn-here g = h.back 0 passed (Some row) (omega arith) (here n (cc f.0) refl refl)

  -- else it goes on to the row's link, with one row more passed; the stored lengths are numbers of two bytes, so that these are few
  pub few-more : passed + 1 + cell b (link_in b row) 0 < 65536
  few-more = ⊎_elim (λ z. omega (arith, f.1, (chain_next h.chain n).0)) (λ l. omega (arith, (chain_next h.chain n).0)) h.few

  pub turn_on : x ≡ false → (q : ℕ) → q ≡ link_in b row → Turn b t k d want start q (passed + 1)
  turn_on g q l =
      let miss : faces_at b t k want row ≡ false = cc f.0 in
      subst (λ (r : ℕ). Turn b t k d want start r (passed + 1)) (sym l)
      (record {
        chain = (chain_next h.chain n).1;
        few = inr few-more;
        back = λ i m o e g. h.back (i + 1) m o (omega arith) (onward n miss g refl);
      })
