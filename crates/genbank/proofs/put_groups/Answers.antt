-- `genbank::put_groups` writes the groups one by one.
use Rattle.std.proofs.Common.{rules, arith, ◌≡◌, sym, ap, ◌∙◌, ℕ, ◌+◌, ◌*◌, ◌<◌, ◌≤◌, min}
use Rattle.std.proofs.Common.{List, [], ◌∷◌, ◌++◌, map, length, get_or, take, drop, length-append, length-drop}
use Rattle.std.proofs.lemmas.List.{length-map}
use Rattle.std.proofs.lemmas.List.Edits.{sets}
use Rattle.palindromes.specs.Word.{Word}
use Rattle.palindromes.specs.Genbank.{lower, cut, groups}
use Rattle.genbank.specs.Line.{group_at, Line}
use Rattle.genbank.proofs.Cut.{piece-is, rest-is}
use Rattle.genbank.proofs.Groups.{groups-from, no-groups}
use Rattle.genbank.proofs.Unwritten.{Unwritten, left_as, left-next, none_left, room-left}
use Rattle.genbank.proofs.put_groups.Goals as goal

-- in a turn the group of the piece in front is left, then those of the rest
module _ {l whole m : Word} {at i : ℕ} (s x rest : Word) (u : Unwritten l at whole m i (groups (cut 10 s))) (e : s ≡ x ++ rest)
    (few : length x ≡ min 10 (length s)) (some : 0 < length s) where
  group-left : Unwritten l at whole m i ((32 ∷ map lower x) ++ groups (cut 10 rest))
  group-left = left_as (groups-from s x rest e few some) u

  group_room : at + length whole ≤ length l → i + (length x + 1) ≤ length m
  group_room fits = omega (arith, room-left group-left fits, length-append (32 ∷ map lower x) (groups (cut 10 rest)), length-map x lower)

  group_written : {n : Word} {j : ℕ} → n ≡ sets m i (32 ∷ map lower x) → j ≡ i + (length x + 1) → Unwritten l at whole n j (groups (cut 10 rest))
  group_written p q = left-next (32 ∷ map lower x) _ group-left p (omega (arith, q, length-map x lower))

-- what stands at the front of its array is the group
taken : (w : Word) (made : List Word) (g n : ℕ) (x : Word) → Line w made → g ≡ n → x ≡ group_at n w → 10 * n < length w
    → take (length x) (get_or made g []) ≡ map lower x
taken w made g n x m p e h = rw (p, e) (m.each n h)

pub put_group-end-requires-clause-count_in_bounds :
    goal.put_group-end-requires-clause-count_in_bounds
put_group-end-requires-clause-count_in_bounds c =
    let v = c.loop-g.invariant in
    let step = c.in-Some.ensures.steps in
    group_room _ _ _ v.left step.0.1.0 (rw v.size at step.0.1.1) step.0.1.2 c.requires.1

pub loop-g-preserved : goal.loop-g-preserved
loop-g-preserved c =
    let w = c.args.w.now in
    let v = c.loop-g.invariant in
    let step = c.in-Some.ensures.steps in
    let few = rw v.size at step.0.1.1 in
    let n = c.loop-g.g-iterator.count in
    let some : 0 < length (drop (10 * n) w) = rw v.rest at step.0.1.2 in
    let group = taken w _ _ n _ c.line-groups.ensures step.1 (piece-is 10 n w _ _ _ v.rest step.0.1.0 few)
    (omega (arith, some, length-drop (10 * n) w)) in
    record {
      can_next = search rules;
      is_finite = search rules;
      size = step.0.0 ∙ v.size;
      rest = rest-is 10 n w _ _ _ v.rest step.0.1.0 few ∙ ap (λ (k : ℕ). drop (10 * k) w) (sym step.2);
      left = group_written _ _ _ v.left step.0.1.0 few step.0.1.2 (rw group at c.put_group-end.ensures.written) c.put_group-end.ensures.behind;
    }

pub returns-clause-written : goal.returns-clause-written
returns-clause-written c = (none_left (left_as (no-groups _ c.in-None.ensures.steps.0.1.0) c.loop-g.invariant.left)).0

pub returns-clause-behind : goal.returns-clause-behind
returns-clause-behind c = (none_left (left_as (no-groups _ c.in-None.ensures.steps.0.1.0) c.loop-g.invariant.left)).1
