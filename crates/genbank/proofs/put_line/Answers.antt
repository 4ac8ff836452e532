-- The place, the groups and the LF are written.
use Rattle.std.proofs.Common.{ℕ, ◌≡◌, ◌+◌, ◌<◌, refl, sym, ap, ◌∙◌, [], ◌∷◌, ◌++◌, arith}
use Rattle.std.proofs.Math.ListN.{length-append}
use lib.Seq.{sets}
use Rattle.palindromes.specs.Word.{Word}
use Rattle.palindromes.specs.Bed.{decimal}
use Rattle.palindromes.specs.Genbank.{cut, groups, right_justified, origin_line}
use Rattle.genbank.proofs.Size.{place-size, line-parts, line-size}
use Rattle.genbank.proofs.Unwritten.{Unwritten, all_left, left_as, left-next, none_left}
use Rattle.genbank.proofs.put_line.Goals as goal
use Rattle.genbank.proofs.put_line.Goals.{After-put_groups-end}

-- what is left behind the place
behind-place : (out w : Word) (at place : ℕ) → place < 65536 → {filled : Word} {first : ℕ}
    → filled ≡ sets out at (right_justified 9 (decimal place)) → first ≡ at + 9
    → Unwritten out at (origin_line place w ++ (10 ∷ [])) filled first (groups (cut 10 w) ++ (10 ∷ []))
behind-place out w at place small e f =
    left-next (right_justified 9 (decimal place)) _ (left_as (line-parts place w) (all_left out at (origin_line place w ++ (10 ∷ [])))) e
    (f ∙ ap (λ (n : ℕ). at + n) (sym (place-size place (omega arith))))

-- and behind the groups
behind-groups : (c : After-put_groups-end)
    → let line = origin_line c.args.place c.args.w.now ++ (10 ∷ []) in
    Unwritten c.args.out.now c.args.at line c.put_groups-end.new.out c.put_groups-end.result (10 ∷ [])
behind-groups c =
    let placed = behind-place _ c.args.w.now _ _ c.requires.place_bound.0 c.put_place-first.ensures.written c.put_place-first.ensures.behind in
    left-next (groups (cut 10 c.args.w.now)) _ placed c.put_groups-end.ensures.written c.put_groups-end.ensures.behind

pub put_place-first-requires : goal.put_place-first-requires
put_place-first-requires c =
    let small = c.requires.place_bound.0 in (small, omega (arith, c.requires.w_in_bounds, line-size c.args.place c.args.w.now (omega arith)))

pub put_groups-end-requires : goal.put_groups-end-requires
put_groups-end-requires c =
    let placed = behind-place _ c.args.w.now _ _ c.requires.place_bound.0 c.put_place-first.ensures.written c.put_place-first.ensures.behind in
    (c.requires.place_bound.1, omega (arith, c.requires.w_in_bounds, placed.place, placed.same, length-append {A = ℕ}))

pub bounds-out-end : goal.bounds-out-end
bounds-out-end c =
    let left = behind-groups (goal.at.bounds-out-end c).After-put_groups-end in
    omega (arith, c.requires.w_in_bounds, left.place, left.same, length-append {A = ℕ})

pub overflow_add-result : goal.overflow_add-result
overflow_add-result c =
    let left = behind-groups (goal.at.overflow_add-result c).After-put_groups-end in
    omega (arith, c.requires.w_in_bounds, left.place, c.well_formed, length-append {A = ℕ})

pub returns : goal.returns
returns c =
    let end = none_left (left-next (10 ∷ []) [] (behind-groups (goal.at.returns c).After-put_groups-end) refl refl) in
    record { written = end.0; behind = end.1 ∙ ap (λ (n : ℕ). c.args.at + n) (length-append (origin_line c.args.place c.args.w.now) (10 ∷ [])) }
