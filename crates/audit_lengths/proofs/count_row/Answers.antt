-- The place that is counted at is the number that stores the row's length. Assumes nothing.
use Rattle.std.proofs.Common.{ℕ, ◌≡◌, ◌∙◌, arith}
use Rattle.std.specs.Prelude.{ℤ, pos}
use Rattle.std.proofs.Math.IntN.{pred_ℤ}
use mir.Syntax.{w32}
use mir.Val.{of_z, to_z}
use Rattle.palindromes.specs.Word.{Word}
use Rattle.store.specs.Layout.{cell, length_in}
use Rattle.store.specs.Lengths.{Stored}
use Rattle.store.proofs.Signed.{kept}
use Rattle.audit_lengths.proofs.Counting.{counted}
use Rattle.audit_lengths.proofs.count_row.Goals as goal

place_is : (b : Word) (q : ℕ) {z : ℤ} {m : ℕ} → (z ≡ length_in b q) × Stored z → ((n : ℕ) → to_z w32 (of_z w32 z) ≡ pred_ℤ (pos n) → m ≡ n) → m ≡ cell b q 0
unfolding length_in
place_is b q l p = p (cell b q 0) (kept l.1 ∙ l.0)

pub bounds-carried-place : goal.bounds-carried-place
bounds-carried-place c = let i = place_is c.args.b.now c.args.q c.length_of.ensures c.to_stored-place.ensures in omega arith

pub overflow_add-carried : goal.overflow_add-carried
overflow_add-carried c =
    let i = place_is c.args.b.now c.args.q c.length_of.ensures c.to_stored-place.ensures in
    omega (arith, rw (← i) at c.requires.few)

pub bounds-carried-place-2 : goal.bounds-carried-place-2
bounds-carried-place-2 c = let i = place_is c.args.b.now c.args.q c.length_of.ensures c.to_stored-place.ensures in omega arith

pub overflow_sub-length : goal.overflow_sub-length
overflow_sub-length c = let i = place_is c.args.b.now c.args.q c.length_of.ensures c.to_stored-place.ensures in omega arith

pub returns : goal.returns
returns c =
    let i = place_is c.args.b.now c.args.q c.length_of.ensures c.to_stored-place.ensures in
    rw (← i, c.max.ensures) (counted c.args.carried.now c.to_stored-place.result c.requires.long (omega arith) (omega arith))
