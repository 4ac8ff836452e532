-- `turning::remake` sets the letters aside, opens the store and fills it. Assumes nothing.
use native.Mathlib.Omega.{arith}
use borrow.Author.Rules.{rules}
use mathlib.Core.Path.{sym}
use lib.Seq.{length-take-le}
use Rattle.palindromes.proofs.Readings.{number-below}
use Rattle.walk.proofs.Stores.{header-fits}
use Rattle.opening.specs.Ways.{way_of}
use Rattle.turning.proofs.Turns.{letters-within, can-open, can-join, joined}
use Rattle.turning.proofs.remake.Statement.{statement}
use Rattle.turning.proofs.remake.Tie as tie

-- the place behind each call, from the place behind the next
abbrev entry : tie.After-capacity-capacity → tie.Start
entry c = c.before.before

abbrev at-capacity : tie.After-size-n → tie.After-capacity-capacity
at-capacity c = c.before

abbrev at_size : tie.After-letters_at-letters → tie.After-size-n
at_size c = c.before

abbrev at-letters : tie.After-open → tie.After-letters_at-letters
at-letters c = c.before.before

abbrev at_open : tie.After-letters-1 → tie.After-open
at_open c = c.before.before.before.before

capacity-requires : tie.Need-capacity-capacity-requires
capacity-requires c κs = header-fits c.before.requires.sized

size-requires : tie.Need-size-n-requires
size-requires c κs = header-fits (entry c).requires.sized

letters_at-requires : tie.Need-letters_at-letters-requires
letters_at-requires c κs =
    let n = c in
    let k = at-capacity n in
    letters-within (entry k).requires k.capacity-capacity.ensures.0 n.size-n.ensures.0

open-requires : tie.Need-open-requires
open-requires c κs =
    let k = at-capacity (at_size c.before) in
    can-open (entry k).requires k.capacity-capacity.ensures.0 (at_size c.before).size-n.ensures.0

slice_aggregate-fill : tie.Need-slice_bounds-fill-end
slice_aggregate-fill c =
    let l = at-letters (at_open c) in
    let n = at_size l in
    let k = at-capacity n in
    let few = (letters-within (entry k).requires k.capacity-capacity.ensures.0 n.size-n.ensures.0).0 in
    sym (length-take-le _ l.letters_at-letters.result (omega (arith, l.letters_at-letters.ensures.0, few)))

fill-requires : tie.Need-fill-requires
fill-requires c κs =
    let o = at_open c in
    let l = at-letters o in
    let n = at_size l in
    let k = at-capacity n in
    let j = can-join (entry k).requires k.capacity-capacity.ensures.0 n.size-n.ensures.0 l.letters_at-letters.result l.letters_at-letters.ensures.1 _ (number-below (way_of (entry k).args.reading)) o.«open».ensures in
    (j.0, (j.1, j.2))

returns : tie.Need-returns
returns c =
    let f = c.before.before in
    let o = at_open f.before in
    let l = at-letters o in
    let n = at_size l in
    let k = at-capacity n in
    joined (entry k).requires k.capacity-capacity.ensures.0 n.size-n.ensures.0 l.letters_at-letters.result l.letters_at-letters.ensures.1 _ o.«open».ensures f.fill.ensures.0

pub remake_spec : {M : Type 1} → statement M
remake_spec =
    tie.close
    (tie.spec capacity-requires size-requires (λ c. search rules) (λ c. search rules) letters_at-requires open-requires (λ c. search rules) slice_aggregate-fill fill-requires (λ c. search rules) returns)
