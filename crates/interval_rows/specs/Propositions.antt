-- Each fact that `IntervalRows` of src/lib.rt states of its fields has at most one proof, as such a fact must: a word has one beginning before an end of it,
-- and a node of the eertree one row. Assumes nothing.
use Rattle.std.specs.Prelude.{◌≡◌, ℕ, true, ◌++◌}
use Rattle.std.proofs.Common.{sym, ap, ◌∙◌}
use Rattle.std.proofs.lemmas.List.{append_cancel_right}
use mathlib.Core.HLevel.{Σ_prop_path}
use denote.Struct.Props.{props}
use Rattle.palindromes.specs.Word.{Word}
use Rattle.palindromes.specs.Place.{Suffix}
use Rattle.palindromes.specs.Node.{Node}
use Rattle.palindromes.specs.Eertree.{Table, Shows}
use Rattle.store.specs.Good.{Good}
use Rattle.interval_rows.specs.IntervalRow.{Jumps}

Suffix-prop : (p s : Word) → IsProp (Suffix p s)
Suffix-prop p s x y =
    ap {A = (before : Word) × (before ++ p ≡ s)} (λ q. record { before = q.0; whole = q.1 })
    (Σ_prop_path (λ q. Prim.hlevel props) (append_cancel_right x.before y.before p (x.whole ∙ sym y.whole)))

module _ (T : Table) (node : ℕ → Node) (one-row : (r q : ℕ) → T.used r ≡ true → T.used q ≡ true → node r ≡ node q → r ≡ q) where
  Row-prop : (v : Node) → IsProp ((r : ℕ) × (T.used r ≡ true) × (node r ≡ v))
  Row-prop v x y =
      ap {A = (r : ℕ) × ((T.used r ≡ true) × (node r ≡ v))} (λ q. (q.0, q.1.0, q.1.1))
      (Σ_prop_path (λ r. Prim.hlevel props) {u = (x.0, (x.1, x.2))} {v = (y.0, (y.1, y.2))} (one-row x.0 y.0 x.1 y.1 (x.2 ∙ sym y.2)))

Shows-prop : (σ : ℕ → ℕ) (s : Word) (T : Table) (node : ℕ → Node) → IsProp (Shows σ s T node)
Shows-prop σ s T node x y = go x y
  where
    go : IsProp (Shows σ s T node)
    go = Prim.hlevel (Row-prop T node x.one-row, props)

pub Good-prop : (b : Word) → IsProp (Good b)
Good-prop b = Prim.hlevel (Shows-prop, props)

pub Jumps-prop : (b jumps : Word) → IsProp (Jumps b jumps)
Jumps-prop b jumps = Prim.hlevel (Suffix-prop, props)
