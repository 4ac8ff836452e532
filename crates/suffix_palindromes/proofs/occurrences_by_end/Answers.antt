-- `suffix_palindromes::occurrences_by_end` takes the rows at the right ends from left to right; the chains add up. Assumes nothing.
use Rattle.std.proofs.Common.{◌≡◌, ℕ, ◌+◌, ◌<◌, get_or, take, refl, sym, ap, ◌∙◌, subst, arith, length-take, get_or-take}
use Rattle.palindromes.specs.Word.{Word}
use Rattle.palindromes.specs.Occurrences.{occurrences_by_end}
use Rattle.store.specs.Layout.{size_in, letters_in}
use Rattle.store.specs.Good.{rule_of, Good}
use Rattle.walk.specs.Replay.{ending_in, Holds}
use Rattle.walk.proofs.Reading.{read_whole}
use Rattle.walk.proofs.Stores.{header-fits}
use Rattle.end_rows.specs.EndRows.{EndRows}
use Rattle.suffix_palindromes.specs.Handed.{chain_length}
use Rattle.suffix_palindromes.proofs.Handed.{chain-none, handed-first, chain-small, by-end-first, by-end-next, by-end-small}
use Rattle.suffix_palindromes.proofs.occurrences_by_end.Goals as goal

-- the row that is read is the right end's
row : {b ends : Word} {n k row : ℕ} → EndRows b ends → n ≡ size_in b → k < n → row ≡ get_or (take n ends) k 0 → Holds b (k + 1) row
row {b} {ends} {n} {k} e s l r = subst (Holds b (k + 1)) (sym (r ∙ get_or-take n ends k 0 l)) (e.each k (omega arith))

-- one right end more: the length of its chain added
added : {b : Word} (g : Good b) {k total answer : ℕ} → k < size_in b → total ≡ occurrences_by_end (rule_of b) (take k (letters_in b))
    → answer ≡ chain_length (rule_of b) (ending_in b (k + 1)) → total + answer ≡ occurrences_by_end (rule_of b) (take (k + 1) (letters_in b))
added g {k} l t a = omega (arith, t, a, by-end-next g k l)

pub size-requires : goal.size-requires
size-requires c = header-fits c.requires.good.sized

pub loop-end-init : goal.loop-end-init
loop-end-init c =
    let g = c.requires.good in
    record { chained = handed-first g (chain-none (rule_of c.args.b.now)) refl; counted = sym (by-end-first g) }

pub chain_length-total-requires-clause-row_value : goal.chain_length-total-requires-clause-row_value
chain_length-total-requires-clause-row_value c =
    let l : c.loop-end.end-index < c.size.result = omega (arith, length-take c.size.result c.args.ends.now) in
    ((row c.requires.end_rows c.size.ensures.0 l c.from.ensures).used, c.loop-end.invariant.chained.long)

pub chain_length-total-requires-clause-row_bound : goal.chain_length-total-requires-clause-row_bound
chain_length-total-requires-clause-row_bound c =
    let l : c.loop-end.end-index < c.size.result = omega (arith, length-take c.size.result c.args.ends.now) in
    let h = row c.requires.end_rows c.size.ensures.0 l c.from.ensures in
    λ m. chain-small c.requires.good (omega arith) h m c.loop-end.invariant.chained

pub overflow_add-total : goal.overflow_add-total
overflow_add-total c =
    let g = c.requires.good in
    let l : c.loop-end.end-index < c.size.result = omega (arith, length-take c.size.result c.args.ends.now) in
    let more : c.loop-end.end-index < size_in c.args.b.now = omega arith in
    let h = row c.requires.end_rows c.size.ensures.0 l c.from.ensures in
    let chains = c.chain_length-total.ensures c.loop-end.end-index more h c.loop-end.invariant.chained in
    omega (arith, added g more c.loop-end.invariant.counted chains.1, by-end-small g (c.loop-end.end-index + 1))

pub loop-end-preserved : goal.loop-end-preserved
loop-end-preserved c =
    let l : c.loop-end.end-index < c.size.result = omega (arith, length-take c.size.result c.args.ends.now) in
    let more : c.loop-end.end-index < size_in c.args.b.now = omega arith in
    let h = row c.requires.end_rows c.size.ensures.0 l c.from.ensures in
    let chains = c.chain_length-total.ensures c.loop-end.end-index more h c.loop-end.invariant.chained in
    record { chained = chains.0; counted = added c.requires.good more c.loop-end.invariant.counted chains.1 }

pub returns : goal.returns
returns c =
    let all : c.loop-end.end-index ≡ size_in c.args.b.now = omega (arith, length-take c.size.result c.args.ends.now) in
    c.loop-end.invariant.counted ∙ ap (occurrences_by_end (rule_of c.args.b.now)) (read_whole c.requires.good c.loop-end.end-index all)
