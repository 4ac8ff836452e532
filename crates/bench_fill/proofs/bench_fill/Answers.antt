-- Nothing is done where a test fails; else the letters stand in the store.
use Rattle.std.proofs.Common.{sym, refl, ap, ◌∙◌, arith}
use Rattle.palindromes.specs.Reading.{reading_number}
use Rattle.palindromes.specs.Refusal.{store_size}
use Rattle.palindromes.specs.End.{at_right}
use Rattle.transitions.specs.Turning.{after_additions}
use Rattle.filling.proofs.Filling.{takes}
use Rattle.bench_fill.proofs.Filling.{store-short, too_many, no-letter, all-added}
use Rattle.bench_fill.proofs.bench_fill.Goals as goal

pub returns-then-store-lt49408 : goal.returns-then-store-lt49408
returns-then-store-lt49408 c = store-short _ _ c.if-store-lt49408.true

pub returns-then-letters-gt1024 : goal.returns-then-letters-gt1024
returns-then-letters-gt1024 c = too_many _ _ c.if-letters-gt1024.true

pub returns-then-not-all_letters : goal.returns-then-not-all_letters
returns-then-not-all_letters c = no-letter _ _ (sym c.all_letters.ensures ∙ c.if-not-all_letters.true)

pub open-requires : goal.open-requires
unfolding store_size
open-requires c = (omega arith, omega arith, omega arith)

pub fill-requires : goal.fill-requires
fill-requires c =
    let h = takes _ _ c.if-store-lt49408.false (sym c.all_letters.ensures ∙ c.if-not-all_letters.false) c.if-letters-gt1024.false c.«open».ensures in
    record { good = h.0; letters_value = (h.1, h.2) }

pub returns : goal.returns
unfolding reading_number
returns c =
    let letters = sym c.all_letters.ensures ∙ c.if-not-all_letters.false in
    all-added _ _ c.if-store-lt49408.false c.if-letters-gt1024.false letters refl (c.fill.ensures.store ∙ ap (after_additions at_right _) c.«open».ensures)
