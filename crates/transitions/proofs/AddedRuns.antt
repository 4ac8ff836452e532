-- What a run of writes leaves in a cell: what it last put there, or what was there. And bytes stay bytes, whatever a run writes and whatever letters are set.
-- Rests on the laws of one write (`Writes` of store).
use Prim.Native.Nat.{ℕ, suc, ◌+◌, ◌/◌, ◌%◌, ◌<◌}
use native.Mathlib.Decide.{dec_lt, ℕ_discrete}
use native.Mathlib.Omega.{arith}
use mathlib.Core.Path.{◌≡◌, refl, ◌∙◌}
use mathlib.Core.Bool.{true, false, cond, ◌&&◌}
use mathlib.Core.Logic.{◌⊎◌, inl, inr, ⊎_elim}
use mathlib.Core.List.{List, [], ◌∷◌, ◌++◌}
use lib.Dec.{eqb}
use lib.ListN.{length, get_or, set}
use lib.Seq.{sets, set_out, get_or-set_same, get_or-set_other}
use borrow.Author.Tests.{eqb-true, eq-eqb}
use Rattle.palindromes.specs.Word.{Word, is_letter, all_letters}
use Rattle.palindromes.proofs.Tests.{both_true, both-are, not-true-false}
use Rattle.palindromes.proofs.Letters.{letter-byte}
use Rattle.store.specs.Layout.{cell_at, set_cell}
use Rattle.store.specs.Writes.{Write, writes}
use Rattle.store.proofs.Writes.{look}
use Rattle.transitions.specs.Bytes.{Bytes}

-- ---- a cell after a run of writes

-- every write of the run misses cell f of row r
abbrev pub Misses : List Write → ℕ → ℕ → Type 0
Misses [] r f = Unit {0}
Misses (w ∷ ws) r f = (w.row ≡ r → w.field ≡ f → ⊥) × Misses ws r f

-- a write of the run puts x there, and those after it miss the cell
abbrev pub Puts : List Write → ℕ → ℕ → ℕ → Type 0
Puts [] r f x = ⊥
Puts (w ∷ ws) r f x = ((w.row ≡ r) × (w.field ≡ f) × (w.value ≡ x) × Misses ws r f) ⊎ Puts ws r f x

module _ (r f : ℕ) where
  -- the test of one write
  test-miss : (w : Write) → (w.row ≡ r → w.field ≡ f → ⊥) → (eqb w.field f && eqb w.row r) ≡ false
  test-miss w n =
      not-true-false (eqb w.field f && eqb w.row r) λ h.
      let t = both_true (eqb w.field f) (eqb w.row r) h in
      n (eqb-true w.row r t.1) (eqb-true w.field f t.0)

  test-hit : (w : Write) → w.row ≡ r → w.field ≡ f → (eqb w.field f && eqb w.row r) ≡ true
  test-hit w p q = both-are (eqb w.field f) (eqb w.row r) (eq-eqb w.field f q) (eq-eqb w.row r p)

  -- a run that misses the cell leaves what was there
  pub look-misses : (ws : List Write) (v : ℕ) → Misses ws r f → look ws r f v ≡ v
  look-misses [] v m = refl
  look-misses (w ∷ ws) v m = rw (test-miss w m.0) (look-misses ws v m.1)

  -- a run misses what it misses with another before it
  pub misses-after : (us ws : List Write) → Misses (us ++ ws) r f → Misses ws r f
  misses-after [] ws m = m
  misses-after (u ∷ us) ws m = misses-after us ws m.1

  -- and one that puts x there leaves x
  pub look-puts : (ws : List Write) (v : ℕ) {x : ℕ} → Puts ws r f x → look ws r f v ≡ x
  look-puts [] v p = absurd p
  look-puts (w ∷ ws) v (inl p) = rw (test-hit w p.0 p.1) (look-misses ws w.value p.3 ∙ p.2)
  look-puts (w ∷ ws) v (inr p) = look-puts ws (cond (eqb w.field f && eqb w.row r) w.value v) p

  -- and puts what it puts with another before it
  pub puts-after : (us ws : List Write) (x : ℕ) → Puts ws r f x → Puts (us ++ ws) r f x
  puts-after [] ws x p = p
  puts-after (u ∷ us) ws x p = inr (puts-after us ws x p)

-- ---- bytes stay bytes

-- a byte of a list with one number set is that number, or as it was
set_cases : (b : Word) (at x i : ℕ) → (get_or (set b at x) i 0 ≡ x) ⊎ (get_or (set b at x) i 0 ≡ get_or b i 0)
set_cases b at x i = go (ℕ_discrete i at) (dec_lt at (length b))
  where
    go : Dec (i ≡ at) → Dec (at < length b) → (get_or (set b at x) i 0 ≡ x) ⊎ (get_or (set b at x) i 0 ≡ get_or b i 0)
    go (yes p) (yes l) = inl (rw p (get_or-set_same b at x 0 l))
    go (yes p) (no l) = inr (rw (set_out b at x (omega arith)))
    go (no p) d = inr (get_or-set_other b at i x 0 p)

-- so a list of bytes stays one where a byte is set
pub bytes-set : (b : Word) (at x : ℕ) → Bytes b → x < 256 → Bytes (set b at x)
bytes-set b at x h l i = ⊎_elim (λ p. omega arith) (λ p. omega (arith, h i)) (set_cases b at x i)

-- where letters are set from a place on
pub bytes-sets : (b : Word) (at : ℕ) (w : Word) → Bytes b → all_letters w ≡ true → Bytes (sets b at w)
unfolding all_letters
bytes-sets b at [] h l = h
bytes-sets b at (x ∷ w) h l =
    let t = both_true (is_letter x) (all_letters w) l in
    bytes-sets (set b at x) (suc at) w (bytes-set b at x h (letter-byte x t.0)) t.1

-- and where cells are written
pub bytes-writes : (ws : List Write) (b : Word) → Bytes b → Bytes (writes b ws)
unfolding writes set_cell
bytes-writes [] b h = h
bytes-writes (w ∷ ws) b h =
    let at = cell_at w.row w.field in
    bytes-writes ws (set_cell b w.row w.field w.value)
    (bytes-set (set b at (w.value % 256)) (at + 1) (w.value / 256 % 256) (bytes-set b at (w.value % 256) h (omega arith)) (omega arith))
