-- What a row spells is its outer letter alone, or what its inner row spells between its outer letters.
use Rattle.std.proofs.Common.{ℕ, ◌≡◌, ◌≤◌, ◌<◌, sym, ap, ◌∙◌, subst, true, arith}
use Rattle.std.proofs.Math.ListN.{length-set}
use lib.Seq.{sets}
use Rattle.palindromes.specs.Word.{Word}
use Rattle.store.specs.Layout.{cell, used_in, inner_in, outer_in}
use Rattle.store.specs.Good.{Good}
use Rattle.transitions.proofs.Rows.{used-fits}
use Rattle.spelling.proofs.Spellings.{spells-root, outer-byte, Around, inner-used, inner-less, letter-length, written-letter, around-length, written-around}
use Rattle.spelling.proofs.+spell_at.Goals as goal

-- a row that is no root, with its inner row and its outer letter
row : {b : Word} {r i x : ℕ} → Good b → used_in b r ≡ true → 2 ≤ r → i ≡ inner_in b r → x ≡ outer_in b r → Around b r i x
row g u l e f = record { good = g; used = u; high = l; inner-is = e; outer-is = f }

pub returns-then-r-le-EMPTY : goal.returns-then-r-le-EMPTY
returns-then-r-le-EMPTY t c =
    sym (ap (sets c.args.out.now c.args.at) (spells-root c.requires.good.0 c.args.r c.requires.r_value (omega (arith, c.if-r-le-EMPTY.true))))

pub inner_of-inner-requires : goal.inner_of-inner-requires
inner_of-inner-requires t c = used-fits c.requires.good.0 c.args.r c.requires.r_value

pub bounds-out-at : goal.bounds-out-at
bounds-out-at t c =
    let a = row c.requires.good.0 c.requires.r_value c.if-r-le-EMPTY.false c.inner_of-inner.ensures.0 c.last_letter-c.ensures in
    omega (arith, c.requires.r_in_bounds, letter-length a c.if-inner-eq-IMAGINARY.true)

pub returns-then-inner-eq-IMAGINARY : goal.returns-then-inner-eq-IMAGINARY
returns-then-inner-eq-IMAGINARY t c =
    let a = row c.requires.good.0 c.requires.r_value c.if-r-le-EMPTY.false c.inner_of-inner.ensures.0 c.last_letter-c.ensures in
    written-letter a c.args.out.now c.args.at c.if-inner-eq-IMAGINARY.true

pub spell_at-requires : goal.spell_at-requires
spell_at-requires t c =
    let a = row c.requires.good.0 c.requires.r_value c.if-r-le-EMPTY.false c.inner_of-inner.ensures.0 c.last_letter-c.ensures in
    let falls : cell c.args.b.now c.inner_of-inner.result 0 < t =
    subst (λ (j : ℕ). cell c.args.b.now c.inner_of-inner.result 0 < j) c.decreases (inner-less a) in
    (falls, (c.requires.good, (inner-used a, omega (arith, c.requires.r_in_bounds, around-length a c.if-inner-eq-IMAGINARY.false))))

pub bounds-out-at-2 : goal.bounds-out-at-2
bounds-out-at-2 t c =
    let a = row c.requires.good.0 c.requires.r_value c.if-r-le-EMPTY.false c.inner_of-inner.ensures.0 c.last_letter-c.ensures in
    omega (arith, c.requires.r_in_bounds, c.spell_at.auto.out, around-length a c.if-inner-eq-IMAGINARY.false)

pub overflow_sub-out : goal.overflow_sub-out
overflow_sub-out t c =
    let a = row c.requires.good.0 c.requires.r_value c.if-r-le-EMPTY.false c.inner_of-inner.ensures.0 c.last_letter-c.ensures in
    omega (arith, c.spelling_length.ensures, around-length a c.if-inner-eq-IMAGINARY.false)

pub bounds-out-at-3 : goal.bounds-out-at-3
bounds-out-at-3 t c =
    let a = row c.requires.good.0 c.requires.r_value c.if-r-le-EMPTY.false c.inner_of-inner.ensures.0 c.last_letter-c.ensures in
    let two = around-length a c.if-inner-eq-IMAGINARY.false in
    simp length-set (omega (arith, c.requires.r_in_bounds, c.spell_at.auto.out, c.spelling_length.ensures, two))

pub returns : goal.returns
returns t c =
    let a = row c.requires.good.0 c.requires.r_value c.if-r-le-EMPTY.false c.inner_of-inner.ensures.0 c.last_letter-c.ensures in
    let byte = outer-byte c.requires.good.0 c.args.r c.requires.r_value c.if-r-le-EMPTY.false in
    let partner = c.partner_in.ensures ∙ c.requires.good.1 c.last_letter-c.result (omega (arith, c.last_letter-c.ensures)) in
    written-around a c.args.out.now c.spell_at.new.out c.args.at c.partner_in.result c.spelling_length.result c.if-inner-eq-IMAGINARY.false
    c.spell_at.ensures partner c.spelling_length.ensures
