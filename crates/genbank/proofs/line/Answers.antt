-- `genbank::line` puts the groups into their arrays one by one.
use Rattle.std.proofs.Common.{rules, ◌≡◌, ℕ, ◌+◌, ◌*◌, ◌<◌, arith, List, [], map, length, get_or, set, drop, length-drop, sym, ap, ◌∙◌}
use Rattle.std.proofs.lemmas.List.Edits.{sets}
use Rattle.palindromes.specs.Word.{Word}
use Rattle.palindromes.specs.Genbank.{lower}
use Rattle.genbank.specs.Line.{group_at, SixOfTen, Holds}
use Rattle.genbank.proofs.Cut.{piece-is, rest-is}
use Rattle.genbank.proofs.Groups.{shape-set, group-more}
use Rattle.genbank.proofs.line.Goals as goal

-- group number n goes to its array
filled : (w : Word) (line new : List Word) (g n more : ℕ) (u : Word) → g ≡ n → more ≡ n + 1 → u ≡ group_at n w
    → new ≡ set line g (sets (get_or line g []) 0 (map lower u)) → n < 6 → SixOfTen line → ((h : ℕ) → h < n → Holds line h w)
    → SixOfTen new × ((h : ℕ) → h < more → Holds new h w)
filled w line new g n more u p q e f b s old =
    rw (f, p, q, e) (shape-set line n (map lower (group_at n w)) s b, group-more w line n s b old)

pub loop-g-preserved : goal.loop-g-preserved
loop-g-preserved c =
    let w = c.args.w.now in
    let v = c.loop-g.invariant in
    let step = c.in-Some.ensures.steps in
    let few = rw v.size at step.0.1.1 in
    let n = c.loop-g.g-iterator.count in
    let left : 0 < length (drop (10 * n) w) = rw v.rest at step.0.1.2 in
    let done = filled w c.loop-g.line _ _ n _ _ step.1 step.2 (piece-is 10 n w _ _ _ v.rest step.0.1.0 few) c.set_group.ensures
    (omega (arith, left, length-drop (10 * n) w)) v.shape v.each in
    record {
      can_next = search rules;
      is_finite = search rules;
      size = step.0.0 ∙ v.size;
      rest = rest-is 10 n w _ _ _ v.rest step.0.1.0 few ∙ ap (λ (k : ℕ). drop (10 * k) w) (sym step.2);
      shape = done.0;
      each = done.1;
    }
