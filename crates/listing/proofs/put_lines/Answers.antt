-- `listing::put_lines` reads the letters from left to right. Assumes nothing.
use Rattle.std.proofs.Common.{◌≡◌, ℕ, true, ◌+◌, ◌-◌, ◌<◌, length, ◌++◌, refl, sym, ap, ◌∙◌, arith, length-append}
use Rattle.std.proofs.lemmas.List.Edits.{sets}
use Rattle.palindromes.specs.Word.{Word}
use Rattle.palindromes.specs.Bed.{bed_line}
use Rattle.palindromes.specs.Node.{spelling_of}
use Rattle.store.specs.Layout.{size_in}
use Rattle.store.specs.Good.{node_in, Good}
use Rattle.walk.specs.Replay.{new_at, Holds}
use Rattle.walk.proofs.Replaying.{told, told-all}
use Rattle.listing.proofs.Stores.{written_on}
use Rattle.listing.proofs.Marking.{met-new}
use Rattle.listing.proofs.Lines.{listed, listed-none, listed-all, listed-new, listed-old, listed-most, line-is, line-starts, line_small}
use Rattle.listing.proofs.put_lines.Invariants.{ListedTo}
use Rattle.listing.proofs.put_lines.Goals as goal

-- where the palindrome that ends the letters read is new its line comes next
comes : {b : Word} (g : Good b) {k row n : ℕ} → k < size_in b → (name : Word) → new_at b k ≡ true → Holds b (k + 1) row
    → n ≡ length (spelling_of (node_in b row)) → listed b name (k + 1) ≡ listed b name k ++ bed_line name (k + 1 - n) (k + 1)
comes {b} g {k} l name e h i = listed-new g name k l e ∙ ap (λ (w : Word). listed b name k ++ w) (sym (line-is h i name))

pub loop-k-init : goal.loop-k-init
loop-k-init c =
    let new = c.new-k-items.ensures in
    let none = listed-none c.requires.good c.args.name.now in
    rw c.into_iter-k-iterator.ensures.into_iter_gives (
      new.ready,
      tt,
      new.of_store,
      rw (new.first, new.first_row) record {
        reads = c.requires.read_to.0;
        place = sym (ap length none);
        written = sym (ap (sets c.args.out.now 0) none);
        kept = λ w h. refl;
      },
    )

pub overflow_sub-end : goal.overflow_sub-end
overflow_sub-end c =
    let next = told c.loop-k.invariant.2 c.in-Some.ensures.steps c.in-Some.ensures.goes.keeps in
    line-starts next.holds c.spelling_length.ensures

pub put_line-at-requires-clause-name_len_bound : goal.put_line-at-requires-clause-name_len_bound
put_line-at-requires-clause-name_len_bound c =
    let next = told c.loop-k.invariant.2 c.in-Some.ensures.steps c.in-Some.ensures.goes.keeps in
    line_small c.requires.good c.args.name.now c.in-Some.k next.more c.spelling_length.result c.requires.name_value

pub put_line-at-requires-clause-end_in_bounds : goal.put_line-at-requires-clause-end_in_bounds
put_line-at-requires-clause-end_in_bounds c =
    let g = c.requires.good in
    let b = c.args.b.now in
    let name = c.args.name.now in
    let k = c.in-Some.k in
    let i = c.loop-k in
    let next = told i.invariant.2 c.in-Some.ensures.steps c.in-Some.ensures.goes.keeps in
    let last = i.k-iterator.row in
    let before : ListedTo b name c.args.marks.now c.args.out.now k last i.marks i.out i.at = rw (← next.from-is) i.invariant.3 in
    let met = c.meet.ensures k last next.more before.reads next.holds in
    let new = sym (met-new g met (omega (arith, c.requires.read_to.1))) ∙ c.if-meet.true in
    let line = bed_line name (k + 1 - c.spelling_length.result) (k + 1) in
    let listed-on = comes g next.more name new next.holds c.spelling_length.ensures in
    let most = listed-most g name (k + 1) (omega (arith, next.more)) in
    omega (arith, before.place, ap length listed-on, length-append (listed b name k) line, most, c.requires.name_in_bounds)

pub loop-k-preserved-then-meet : goal.loop-k-preserved-then-meet
loop-k-preserved-then-meet c =
    let g = c.requires.good in
    let b = c.args.b.now in
    let name = c.args.name.now in
    let k = c.in-Some.k in
    let i = c.loop-k in
    let next = told i.invariant.2 c.in-Some.ensures.steps c.in-Some.ensures.goes.keeps in
    let last = i.k-iterator.row in
    let before : ListedTo b name c.args.marks.now c.args.out.now k last i.marks i.out i.at = rw (← next.from-is) i.invariant.3 in
    let met = c.meet.ensures k last next.more before.reads next.holds in
    let is-new : c.meet.result ≡ new_at b k = met-new g met (omega (arith, c.requires.read_to.1)) in
    let line = bed_line name (k + 1 - c.spelling_length.result) (k + 1) in
    let listed-on = comes g next.more name (sym is-new ∙ c.if-meet.true) next.holds c.spelling_length.ensures in
    let put = c.put_line-at.ensures in
    let listed-before = listed b name k in (
      c.in-Some.ensures.goes.keeps,
      tt,
      next.store-is,
      rw (next.read-is, next.row-is) record {
        reads = met.reads;
        place = omega (arith, before.place, put.behind, ap length listed-on, length-append listed-before line);
        written = written_on c.args.out.now i.out c.put_line-at.new.out listed-before line (listed b name (k + 1)) i.at
            before.written before.place put.written listed-on;
        kept = λ v h. met.kept v h ∙ before.kept v h;
      },
    )

pub loop-k-preserved : goal.loop-k-preserved
loop-k-preserved c =
    let g = c.requires.good in
    let b = c.args.b.now in
    let name = c.args.name.now in
    let k = c.in-Some.k in
    let i = c.loop-k in
    let next = told i.invariant.2 c.in-Some.ensures.steps c.in-Some.ensures.goes.keeps in
    let last = i.k-iterator.row in
    let before : ListedTo b name c.args.marks.now c.args.out.now k last i.marks i.out i.at = rw (← next.from-is) i.invariant.3 in
    let met = c.meet.ensures k last next.more before.reads next.holds in
    let is-new : c.meet.result ≡ new_at b k = met-new g met (omega (arith, c.requires.read_to.1)) in
    let same = listed-old g name k next.more (sym is-new ∙ c.if-meet.false) in (
      c.in-Some.ensures.goes.keeps,
      tt,
      next.store-is,
      rw (next.read-is, next.row-is) record {
        reads = met.reads;
        place = before.place ∙ sym (ap length same);
        written = before.written ∙ sym (ap (sets c.args.out.now 0) same);
        kept = λ v h. met.kept v h ∙ before.kept v h;
      },
    )

pub returns-clause-written : goal.returns-clause-written
returns-clause-written c =
    let i = c.loop-k in
    let all = told-all i.invariant.2 i.invariant.0 c.in-None.ensures.steps in
    i.invariant.3.written ∙ ap (sets c.args.out.now 0) (listed-all c.requires.good c.args.name.now i.k-iterator.read all)

pub returns-clause-behind : goal.returns-clause-behind
returns-clause-behind c =
    let i = c.loop-k in
    let all = told-all i.invariant.2 i.invariant.0 c.in-None.ensures.steps in
    i.invariant.3.place ∙ ap length (listed-all c.requires.good c.args.name.now i.k-iterator.read all)

pub returns-clause-kept : goal.returns-clause-kept
returns-clause-kept c = c.loop-k.invariant.3.kept
