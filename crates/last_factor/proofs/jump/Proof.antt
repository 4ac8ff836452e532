-- `last_factor::jump` takes up the choice kept with a row's link, where it was made for the same place and the differences are the same, and else
-- takes the row alone. Assumes nothing.
use Prim.Native.Nat.{◌+◌, ◌-◌, ◌<◌}
use native.Mathlib.Omega.{arith}
use mathlib.Core.Path.{◌≡◌, refl, ap, ap₂, ◌∙◌}
use mathlib.Core.Bool.{true}
use lib.ListN.{get_or}
use borrow.Author.Rules.{rules}
use Rattle.palindromes.specs.Factorization.{better}
use Rattle.store.specs.Layout.{link_in, used_in}
use Rattle.store.specs.Good.{Good}
use Rattle.transitions.proofs.Rows.{covers, used-fits, row_below}
use Rattle.last_factor.specs.Kept.{begin_of, next_of, reach_in, Known, Memos, EndsAt}
use Rattle.last_factor.proofs.Jumping.{cell-fits, link-used, link-shorter, link-present, alone, next-used, last-low, last-high, kept_high, longer}
use Rattle.last_factor.proofs.Jumping.{jump_kept, jump-link}
use Rattle.last_factor.proofs.jump.Statement.{statement}
use Rattle.last_factor.proofs.jump.Tie as tie

-- the entry, from behind the reading of the link, and that reading, from behind each later place
abbrev entry : tie.After-link_of-link → tie.Start
entry c = c.before.before.before.before.before

abbrev from-taken : tie.Then-begin_of-start → tie.After-link_of-link
from-taken c = c.before.before

abbrev from-same : tie.Then-shorter-get → tie.Then-begin_of-start
from-same c = c.before.before.before.before

-- what the caller promises of a store b
module _ (c : tie.After-link_of-link) where
  abbrev good : Good (entry c).args.b.now
  good = (entry c).requires.0

  abbrev ending : EndsAt (entry c).args.b.now (entry c).args.i (entry c).args.row
  ending = (entry c).requires.1.0

  abbrev known : Known (entry c).args.b.now (entry c).args.i (entry c).args.factors.now
  known = (entry c).requires.1.1.0

  abbrev memos : Memos (entry c).args.b.now (entry c).args.memos.now
  memos = (entry c).requires.1.1.1

  linked : c.link_of-link.result ≡ link_in (entry c).args.b.now (entry c).args.row
  linked = c.link_of-link.ensures.0

  used : used_in (entry c).args.b.now c.link_of-link.result ≡ true
  used = link-used good ending linked

  below : c.link_of-link.result < 1026
  below = row_below good c.link_of-link.result used

-- the link has a choice for the same place
guard : (c : tie.Then-begin_of-start) → let t = from-taken c in let a = (entry t).args in
    begin_of (get_or a.memos.now t.link_of-link.result 0) ≡ a.i + 1 - reach_in a.b.now a.row + 1
guard c = let t = from-taken c in omega (arith, c.if-begin_of-start.true, c.before.begin_of.ensures, t.before.get-reach.ensures.0)

get-requires : tie.Need-get-reach-requires
get-requires c κs = let s = c.before.before.before in cell-fits s.requires.0 s.args.row s.requires.1.0.used

link_of-requires : tie.Need-link_of-link-requires
link_of-requires c κs = let s = c.before.before.before.before in used-fits s.requires.0 s.args.row s.requires.1.0.used

begin_of-requires : tie.Need-begin_of-requires
begin_of-requires c κs = omega (arith, below c, (memos c).long)

get-requires-2 : tie.Need-get-shorter-requires
get-requires-2 c κs = let t = from-taken c in cell-fits (good t) t.link_of-link.result (used t)

sub-difference : tie.Need-overflow_sub-difference
sub-difference c =
    let t = from-taken c.before in
    omega (arith, link-shorter (good t) (ending t) (linked t), c.get-shorter.ensures.0, t.before.get-reach.ensures.0)

link_of-requires-2 : tie.Need-link_of-below-requires
link_of-requires-2 c κs = let t = from-taken c.before in used-fits (good t) t.link_of-link.result (used t)

get-requires-3 : tie.Need-get-requires
get-requires-3 c κs =
    let t = from-taken c.before.before in
    cell-fits (good t) c.link_of-below.result (rw c.link_of-below.ensures.0 ((covers (good t)).link-is t.link_of-link.result (used t)).0)

next_of-requires : tie.Need-next_of-next-requires
next_of-requires c κs = let t = from-taken (from-same c) in omega (arith, below t, (memos t).long)

-- the row after the series
next-is-used : (c : tie.After-next_of-next) → let t = from-taken (from-same c.before) in used_in (entry t).args.b.now c.next_of-next.result ≡ true
next-is-used c =
    let u = from-same c.before in
    let t = from-taken u in
    rw c.next_of-next.ensures (next-used (good t) (ending t) (linked t) (memos t) (guard u))

get-requires-4 : tie.Need-get-requires-then-shorter-get
get-requires-4 c κs = let t = from-taken (from-same c.before) in cell-fits (good t) c.next_of-next.result (next-is-used c)

sub-last : tie.Need-overflow_sub-last
sub-last c =
    let u = from-same c.before.before in
    let t = from-taken u in
    omega (
      arith,
      last-low (good t) (ending t) (linked t) (memos t) (guard u),
      link-shorter (good t) (ending t) (linked t),
      c.get-then-shorter-get.ensures.0,
      ap (reach_in (entry t).args.b.now) c.before.next_of-next.ensures,
      c.before.before.before.before.before.get-shorter.ensures.0,
      t.before.get-reach.ensures.0,
    )

place_of-requires : tie.Need-place_of-requires
place_of-requires c κs = let t = from-taken (from-same c.before.before) in omega (arith, below t, (memos t).long)

-- the place one more, as the code has it
last-is : (c : tie.After-place_of) → let t =
    from-taken (from-same c.before.before.before) in let b = (entry t).args.b.now in let link = t.link_of-link.result in
    (entry t).args.i + 1 - (c.before.get-then-shorter-get.result + (t.before.get-reach.result - c.before.before.before.before.before.before.get-shorter.result))
    ≡ (entry t).args.i + 1 - (reach_in b (next_of (get_or (entry t).args.memos.now link 0)) + (reach_in b (entry t).args.row - reach_in b link))
last-is c =
    let t = from-taken (from-same c.before.before.before) in
    omega (
      arith,
      c.before.get-then-shorter-get.ensures.0,
      ap (reach_in (entry t).args.b.now) c.before.before.next_of-next.ensures,
      c.before.before.before.before.before.before.get-shorter.ensures.0,
      t.before.get-reach.ensures.0,
    )

better_of-requires : tie.Need-better_of-requires
better_of-requires c κs =
    let u = from-same c.before.before.before in
    let t = from-taken u in
    let small = (ending t).small in (
      omega (arith, c.place_of.ensures, kept_high (good t) (ending t) (linked t) (memos t) (guard u), (known t).long, small),
      omega (
        arith,
        last-is c,
        last-high (good t) (ending t) (linked t) (memos t) (guard u),
        link-shorter (good t) (ending t) (linked t),
        link-present (good t) (ending t) (linked t),
        t.before.get-reach.ensures.0,
        (known t).long,
        small,
      ),
    )

returns : tie.Need-returns-then-shorter-get
returns c =
    let o = c.before in
    let same = o.before.before.before in
    let u = from-same same in
    let t = from-taken u in
    let b = (entry t).args.b.now in
    let d : reach_in b t.link_of-link.result ≡ reach_in b (link_in b t.link_of-link.result) + (reach_in b (entry t).args.row - reach_in b t.link_of-link.result) =
    omega (
      arith,
      same.if-shorter-get.true,
      same.before.get.ensures.0,
      ap (reach_in b) same.before.before.link_of-below.ensures.0,
      same.before.before.before.get-shorter.ensures.0,
      t.before.get-reach.ensures.0,
    ) in (
      longer (good t) (ending t) (linked t) (memos t) (guard u) (known t) o.before.before.next_of-next.ensures d
          (c.better_of.ensures ∙ ap₂ (better (λ p. get_or (entry t).args.factors.now p 0)) o.place_of.ensures (last-is o)),
      jump_kept b (entry t).args.memos.now (entry t).args.i (entry t).args.row (linked t) (guard u) d o.before.before.next_of-next.ensures,
    )

returns-2 : tie.Need-returns-else-shorter-get
returns-2 c =
    let t = from-taken c.before.before.before.before in
    let a = (entry t).args in (
      alone (good t) (ending t) (linked t) (omega (arith, t.before.get-reach.ensures.0)),
      jump-link a.b.now a.memos.now a.i a.row (linked t)
          (λ g d.
          omega (
            arith,
            c.if-shorter-get.false,
            c.before.get.ensures.0,
            ap (reach_in a.b.now) c.before.before.link_of-below.ensures.0,
            c.before.before.before.get-shorter.ensures.0,
            t.before.get-reach.ensures.0,
          )) refl,
    )

returns-3 : tie.Need-returns-else-begin_of-start
returns-3 c =
    let t = c.before.before in
    let a = (entry t).args in (
      alone (good t) (ending t) (linked t) (omega (arith, t.before.get-reach.ensures.0)),
      jump-link a.b.now a.memos.now a.i a.row (linked t)
          (λ g d. omega (arith, c.if-begin_of-start.false, c.before.begin_of.ensures, t.before.get-reach.ensures.0)) refl,
    )

pub jump_spec : {M : Type 1} → statement M
jump_spec =
    tie.close
    (tie.spec
    get-requires
    link_of-requires
    (λ c. search rules)
    (λ c. search rules)
    begin_of-requires
    (λ c. search rules)
    get-requires-2
    sub-difference
    link_of-requires-2
    get-requires-3
    (λ c. search rules)
    next_of-requires
    (λ c. search rules)
    get-requires-4
    (λ c. search rules)
    sub-last
    place_of-requires
    better_of-requires
    returns
    returns-2
    returns-3)
