-- What the question about a row promises, on plain values. Rests on `Refusals`, `Promises` and `Fits` of the outcomes.
use Prim.Native.Nat.{ℕ, zero, suc, ◌<◌}
use mathlib.Core.Path.{◌≡◌, refl, sym, ap, ◌∙◌, subst}
use mathlib.Core.Bool.{true, false}
use native.Mathlib.Omega.{arith}
use lib.IntN.{ℤ, pos, pred_ℤ, nat_abs}
use mir.Syntax.{w32}
use mir.Val.{to_z, of_z}
use mir.Facts.{to_z-of_z}
use Rattle.std.specs.Int.{int_rem_euclid}
use Rattle.palindromes.specs.Word.{Word}
use Rattle.palindromes.specs.Node.{length_of, link_of, inner_of}
use Rattle.palindromes.specs.Refusal.{ask, the_row}
use Rattle.eertree.proofs.Rows.{reach_of, reach-length, row-reach-most}
use Rattle.store.specs.Layout.{used_in}
use Rattle.store.specs.Good.{rule_of, node_in, Good}
use Rattle.store.specs.Lengths.{Stored}
use Rattle.store.proofs.Sizes.{letters-length}
use Rattle.transitions.specs.Rows.{row_of}
use Rattle.transitions.proofs.Rows.{covers}
use Rattle.outcome.specs.Reply.{packed, accepted, twos_complement}
use Rattle.outcome.specs.Outcome.{accepted_outcome, answer_to, lent_after, changed}
use Rattle.outcome.specs.Promise.{nothing, Promise}
use Rattle.outcome.specs.Verdict.{Verdict, judged}
use Rattle.outcome.proofs.Refusals.{row-accepted, row-free, row-used}
use Rattle.outcome.proofs.Promises.{Answerable, carried}
use Rattle.outcome.proofs.Fits.{answer-fits}

module _ (b : Word) (g : Good b) where
  pub unused : (r : ℕ) → used_in b r ≡ false → Verdict (ask (the_row r)) b nothing 7
  unused r h = judged g (sym (row-free b nothing r h))

  pub used : (r : ℕ) → used_in b r ≡ true → Verdict (ask (the_row r)) b nothing 0
  used r h = judged g (sym (row-accepted b nothing r h))

pub row-answered : (q : ℕ) (b : Word) → Answerable (ask (the_row q)) b nothing → {r : ℕ}
    → r ≡ packed (accepted false (row_of b (link_of (rule_of b) (node_in b q))) (twos_complement (length_of (node_in b q))) (row_of b (inner_of (node_in b q))))
    → Promise (ask (the_row q)) b nothing r b nothing
unfolding accepted_outcome answer_to lent_after changed
row-answered q b a p = carried (ask (the_row q)) b nothing a.good a.clear (record { reply = p; store = refl; lent = refl })

-- a row's length is one that a cell can hold
pub length-stored : (q : ℕ) (b : Word) → Answerable (ask (the_row q)) b nothing → (z : ℤ) → z ≡ length_of (node_in b q) → Stored z
length-stored q b a z e =
    record {
      number = reach_of (node_in b q);
      small = omega (arith, row-reach-most (covers a.good) q (row-used b nothing q a.clear), letters-length a.good.sized, a.good.sized.letters-fit, a.good.sized.at_most);
      is = e ∙ reach-length (node_in b q);
    }

-- the numbers fit their two bytes
pub row-few : (q : ℕ) (b : Word) → Answerable (ask (the_row q)) b nothing → {n p k : ℕ} → n ≡ row_of b (link_of (rule_of b) (node_in b q)) → p ≡ row_of b (inner_of (node_in b q)) → k < 65536 → (n < 65536) × (k < 65536) × (p < 65536)
unfolding answer_to accepted
row-few q b a e f h = let s = answer-fits a.good (the_row q) nothing a.clear in (omega (arith, s.row), h, omega (arith, s.second))

pub row-packs : {n m k n' m' k' : ℕ} → n ≡ n' → k ≡ k' → m ≡ m' → packed (accepted false n k m) ≡ packed (accepted false n' k' m')
row-packs p q r = cc

-- modulo 2 ^ 16 a length is its two's complement number
modulo : (m : ℕ) → m < 65536 → int_rem_euclid (pred_ℤ (pos m)) (pos 65536) ≡ pos (twos_complement (pred_ℤ (pos m)))
unfolding twos_complement
modulo zero h = refl
modulo (suc m) h = ap pos (omega arith)

two-bytes : (m : ℕ) → m < 65536 → twos_complement (pred_ℤ (pos m)) < 65536
unfolding twos_complement
two-bytes zero h = omega arith
two-bytes (suc m) h = omega arith

-- and that number is read back from an i32 as it is
read-back : (n : ℕ) → n < 65536 → to_z w32 (of_z w32 (pos n)) ≡ pos n
read-back n h = to_z-of_z {w = w32} (record { sfits = omega arith })

pub low-bytes : (z r : ℤ) → Stored z → r ≡ int_rem_euclid z (pos 65536)
    → (nat_abs (to_z w32 (of_z w32 r)) ≡ twos_complement z) × (nat_abs (to_z w32 (of_z w32 r)) < 65536)
low-bytes z r s e =
    let small : twos_complement z < 65536 = subst (λ (y : ℤ). twos_complement y < 65536) (sym s.is) (two-bytes s.number s.small) in
    let left : int_rem_euclid z (pos 65536) ≡ pos (twos_complement z) =
    subst (λ (y : ℤ). int_rem_euclid y (pos 65536) ≡ pos (twos_complement y)) (sym s.is) (modulo s.number s.small) in
    let is : nat_abs (to_z w32 (of_z w32 r)) ≡ twos_complement z =
    ap (λ (y : ℤ). nat_abs (to_z w32 (of_z w32 y))) (e ∙ left) ∙ ap nat_abs (read-back (twos_complement z) small) in
    (is, omega (arith, is, small))
