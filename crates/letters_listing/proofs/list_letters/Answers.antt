-- A store is opened and filled, and what it holds is listed.
use Rattle.std.proofs.Common.{ap, ◌∙◌, length, arith}
use Rattle.std.proofs.lemmas.List.Edits.{sets}
use Rattle.palindromes.specs.Word.{Word}
use Rattle.palindromes.specs.Refusal.{store_size}
use Rattle.filling.proofs.Filling.{takes}
use Rattle.letters_listing.proofs.Listed.{record_of, filled-marks, filled-listing, filled-lines}
use Rattle.letters_listing.proofs.list_letters.Goals as goal

pub open-requires : goal.open-requires
unfolding store_size
open-requires c = (omega arith, omega arith, omega arith)

pub fill-requires : goal.fill-requires
fill-requires c =
    let p = c.requires.letters_value in
    let h = takes _ _ (omega arith) p.0 p.1 c.«open».ensures in record { good = h.0; letters_value = (h.1, h.2) }

pub list-requires : goal.list-requires
list-requires c =
    let p = c.requires.letters_value in
    let name = c.requires.name_value in
    let made = record_of c.blank-store.result _ (omega arith) p.0 p.1 c.«open».ensures c.fill.ensures.store in
    record { good = made.good; name_value = name; b_in_bounds = filled-marks made p.1; name_in_bounds = filled-lines made p.1 _ name c.requires.in_bounds }

pub returns : goal.returns
returns c =
    let p = c.requires.letters_value in
    let made = record_of c.blank-store.result _ (omega arith) p.0 p.1 c.«open».ensures c.fill.ensures.store in
    let e = filled-listing made p.1 c.args.name.now in
    record { written = c.list.ensures.written ∙ ap (λ (w : Word). sets c.args.out.now 0 w) e; behind = c.list.ensures.behind ∙ ap length e }
