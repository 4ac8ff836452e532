-- The loop of opening: what the bytes hold once the first rows are listed. Rests on the law of two runs of writes.
use Prim.Native.Nat.{ℕ, ◌+◌}
use native.Mathlib.Numerals.{add-one}
use mathlib.Core.Path.{◌≡◌, refl, sym, ap, ◌∙◌}
use mathlib.Core.List.{[], ◌∷◌}
use Rattle.palindromes.specs.Word.{Word}
use Rattle.store.specs.Layout.{set_cell}
use Rattle.store.specs.Writes.{write, writes}
use Rattle.store.proofs.Writes.{writes-append}
use Rattle.transitions.specs.Opening.{order_writes}

-- before the first row none is listed
pub order-none : (b : Word) → b ≡ writes b (order_writes 0)
unfolding writes order_writes
order-none b = refl

-- one row more
pub order-more : (b : Word) (k : ℕ) → set_cell (set_cell (writes b (order_writes k)) (k + 2) 8 (k + 2)) (k + 2) 9 k ≡ writes b (order_writes (k + 1))
unfolding writes order_writes
order-more b k =
    sym (ap (λ (n : ℕ). writes b (order_writes n)) (add-one k) ∙ writes-append b (order_writes k) (write (k + 2) 8 (k + 2) ∷ write (k + 2) 9 k ∷ []))
