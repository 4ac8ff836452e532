use Rattle.std.proofs.Common.{◌≡◌, ℕ, ◌+◌, ◌-◌, ◌<◌, ◌≤◌, length, get_or, take, reverse, ◌∙◌, Fits, w64, arith}
use Rattle.std.proofs.lemmas.Grind.{get_or_default_zero}
use Rattle.std.proofs.lemmas.Iterator.Adapters.{YieldsList-from_rev_slice}
use Rattle.std.proofs.lemmas.Iterator.Consumers.{YieldsList-turn, YieldsList-end}
use Rattle.std.proofs.lemmas.List.{get_or-reverse, get_or-take, length-reverse, length-take, length_push}
use Rattle.palindromes.specs.Word.{Word}
use Rattle.store.specs.Layout.{size_in}
use Rattle.store.specs.Good.{Good}
use Rattle.walk.proofs.Stores.{header-fits}
use Rattle.end_rows.specs.EndRows.{FirstRows}
use Rattle.frequencies.specs.Counts.{Handable, handed, handed_on}
use Rattle.frequencies.proofs.Handing.{Adding, adding-first, adding-last, adding-small, handable, adding-next}
use Rattle.frequencies.proofs.add_along_links.Goals as goal

-- a row that comes after i others, from the last right end back: it can be handed on, and what holds then
record Turn (b counts : Word) (i total row : ℕ) : Type 0 where
  can : Handable b counts row
  after : Adding b (size_in b - (i + 1)) (handed_on b counts row) (total + handed counts row)

turn : {b firsts counts : Word} {n i total row x : ℕ}
    → Good b → FirstRows b firsts → n ≡ size_in b → (i < length (reverse (take n firsts))) × (x ≡ get_or (reverse (take n firsts)) i x) → row ≡ x
    → Adding b (size_in b - i) counts total → Turn b counts i total row
turn {b} {firsts} {counts} {n} {i} {total} {row} {x} g f e h s a =
    let front = take n firsts in
    let long : length front ≡ size_in b = omega (arith, f.long, length-take n firsts) in
    let l : i < length front = omega (arith, h.0, length-reverse front) in
    let k = length front - 1 - i in
    let is : row ≡ get_or firsts k 0 =
    s
    ∙ h.1
    ∙ get_or-reverse front i x l
    ∙ get_or-take n firsts k x (omega arith)
    ∙ get_or_default_zero firsts k x (omega (arith, f.long)) in
    let place : size_in b - (i + 1) ≡ k = omega arith in
    let more : size_in b - i ≡ k + 1 = omega arith in
    let below : k < size_in b = omega arith in
    rw is (record { can = handable g below f more a.rows; after = rw place (adding-next g below f more a) })

-- none is left
none-left : {b firsts : Word} {n i : ℕ} → FirstRows b firsts → n ≡ size_in b → i ≡ length (reverse (take n firsts)) → size_in b - i ≡ 0
none-left {firsts = firsts} {n} f e h = omega (arith, f.long, length-take n firsts, length-reverse (take n firsts))

-- the sum so far
small-fits : {n : ℕ} → n ≤ 524800 → Fits w64 n
small-fits h = omega arith

pub size-requires : goal.size-requires
size-requires c = header-fits c.requires.good.sized

pub loop-first-init : goal.loop-first-init
loop-first-init c =
    let e : size_in c.args.b.now - 0 ≡ size_in c.args.b.now = omega arith in
    rw e (adding-first c.requires.good c.requires.handed_from)

pub hand_on-total-requires-clause-handable : goal.hand_on-total-requires-clause-handable
hand_on-total-requires-clause-handable c =
    let s = c.requires in
    let y = YieldsList-from_rev_slice (take c.size.result c.args.firsts.now) cc in
    let t = YieldsList-turn y c.loop-first.yielded _ c.loop-first.yielded_by _ _ c.in-Some.first c.in-Some.is c.next.ensures.steps in
    (turn s.good s.first_rows c.size.ensures.0 t c.from.ensures c.loop-first.invariant).can

pub overflow_add-total : goal.overflow_add-total
overflow_add-total c =
    let s = c.requires in
    let y = YieldsList-from_rev_slice (take c.size.result c.args.firsts.now) cc in
    let t = YieldsList-turn y c.loop-first.yielded _ c.loop-first.yielded_by _ _ c.in-Some.first c.in-Some.is c.next.ensures.steps in
    rw c.hand_on-total.ensures.0 (small-fits (adding-small s.good (turn s.good s.first_rows c.size.ensures.0 t c.from.ensures c.loop-first.invariant).after))

pub loop-first-preserved : goal.loop-first-preserved
loop-first-preserved c =
    let s = c.requires in
    let y = YieldsList-from_rev_slice (take c.size.result c.args.firsts.now) cc in
    let t = YieldsList-turn y c.loop-first.yielded _ c.loop-first.yielded_by _ _ c.in-Some.first c.in-Some.is c.next.ensures.steps in
    rw (length_push, c.hand_on-total.ensures.0, c.hand_on-total.ensures.1)
    (turn s.good s.first_rows c.size.ensures.0 t c.from.ensures c.loop-first.invariant).after

pub returns-clause-each : goal.returns-clause-each
returns-clause-each c =
    let s = c.requires in
    let y = YieldsList-from_rev_slice (take c.size.result c.args.firsts.now) cc in
    let t = YieldsList-end y c.loop-first.yielded _ c.loop-first.yielded_by _ _ c.in-None.is c.next.ensures.steps in
    let a = c.loop-first.invariant in
    (adding-last s.good (rw (none-left s.first_rows c.size.ensures.0 t.1) at a)).0

pub returns-clause-total : goal.returns-clause-total
returns-clause-total c =
    let s = c.requires in
    let y = YieldsList-from_rev_slice (take c.size.result c.args.firsts.now) cc in
    let t = YieldsList-end y c.loop-first.yielded _ c.loop-first.yielded_by _ _ c.in-None.is c.next.ensures.steps in
    let a = c.loop-first.invariant in
    (adding-last s.good (rw (none-left s.first_rows c.size.ensures.0 t.1) at a)).1
