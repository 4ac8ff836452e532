-- `longest_palindrome::whole::longest` reads the letters from left to right. Assumes nothing.
use Rattle.std.proofs.Common.{◌≡◌, ◌+◌, ◌-◌, ◌<◌, length, inl, inr, refl, ◌∙◌, arith}
use Rattle.store.specs.Layout.{letters_in}
use Rattle.store.specs.Good.{rule_of}
use Rattle.store.proofs.Sizes.{letters-length}
use Rattle.walk.proofs.Reading.{ending-length, ending-most}
use Rattle.walk.proofs.Replaying.{told, told-all}
use Rattle.longest_palindrome.proofs.Best.{Best, best-first, best-next, best-last}
use Rattle.longest_palindrome.proofs.whole.longest.Goals as goal

pub loop-k-init : goal.loop-k-init
loop-k-init c =
    let new = c.new-k-items.ensures in
    let b = c.args.b.now in
    rw c.into_iter-k-iterator.ensures.into_iter_gives (new.ready, tt, new.of_store, rw new.first (best-first (rule_of b) (letters_in b)))

pub overflow_sub-place : goal.overflow_sub-place
overflow_sub-place c =
    let next = told c.loop-k.invariant.2 c.in-Some.ensures.steps c.in-Some.ensures.goes.keeps in
    omega (arith, c.spelling_length-here.ensures ∙ ending-length next.holds, ending-most c.args.b.now (c.in-Some.k + 1))

pub loop-k-preserved-then-length-here : goal.loop-k-preserved-then-length-here
loop-k-preserved-then-length-here c =
    let b = c.args.b.now in
    let k = c.in-Some.k in
    let i = c.loop-k in
    let next = told i.invariant.2 c.in-Some.ensures.steps c.in-Some.ensures.goes.keeps in
    let before : Best (rule_of b) (letters_in b) k i.length i.place = rw (← next.from-is) i.invariant.3 in
    let more : k < length (letters_in b) = omega (arith, next.more, letters-length c.requires.sized) in
    let here = c.spelling_length-here.result in
    let ends = c.spelling_length-here.ensures ∙ ending-length next.holds in
    let after = best-next (rule_of b) (letters_in b) k i.length i.place here more before ends here (k + 1 - here) (inl (c.if-length-here.true, refl, refl)) in
    (c.in-Some.ensures.goes.keeps, tt, next.store-is, rw next.read-is after)

pub loop-k-preserved : goal.loop-k-preserved
loop-k-preserved c =
    let b = c.args.b.now in
    let k = c.in-Some.k in
    let i = c.loop-k in
    let next = told i.invariant.2 c.in-Some.ensures.steps c.in-Some.ensures.goes.keeps in
    let before : Best (rule_of b) (letters_in b) k i.length i.place = rw (← next.from-is) i.invariant.3 in
    let more : k < length (letters_in b) = omega (arith, next.more, letters-length c.requires.sized) in
    let here = c.spelling_length-here.result in
    let ends = c.spelling_length-here.ensures ∙ ending-length next.holds in
    let after = best-next (rule_of b) (letters_in b) k i.length i.place here more before ends i.length i.place (inr (c.if-length-here.false, refl, refl)) in
    (c.in-Some.ensures.goes.keeps, tt, next.store-is, rw next.read-is after)

pub returns : goal.returns
returns c =
    let b = c.args.b.now in
    let i = c.loop-k in
    let k = i.k-iterator.read in
    let all : k ≡ length (letters_in b) =
    omega (arith, told-all i.invariant.2 i.invariant.0 c.in-None.ensures.steps, letters-length c.requires.sized) in
    let best = best-last (rule_of b) (letters_in b) k i.length i.place all i.invariant.3 in
    record { length = best.0; place = best.1 }
