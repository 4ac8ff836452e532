-- `genbank::put_page` meets its contract: behind the first line each turn writes a line of letters, and the last call the last line.
use Rattle.std.proofs.Common.{rules, arith, ℕ, ◌≡◌, ◌+◌, ◌*◌, ◌<◌, ◌≤◌, min, [], ◌∷◌, ◌++◌, length, drop, length-append, sym, ap, ◌∙◌}
use Rattle.std.proofs.lemmas.List.Edits.{sets}
use native.Mathlib.Nat.{zero-add}
use Rattle.palindromes.specs.Word.{Word}
use Rattle.palindromes.specs.Genbank.{cut, origin_line, origin_lines, origin_head, origin_end, genbank}
use Rattle.genbank.proofs.Cut.{rest-is}
use Rattle.genbank.proofs.Size.{page-parts}
use Rattle.genbank.proofs.Lines.{lines-from, end-left}
use Rattle.genbank.proofs.Unwritten.{Unwritten, all_left, left_as, left-next, none_left, room-left}
use Rattle.genbank.proofs.put_page.Goals as goal

module _ (l letters m : Word) (i : ℕ) (e : m ≡ sets l 0 origin_head) (p : i ≡ 0 + length origin_head) where
  -- the first line is written, and the others are left
  head-written : Unwritten l 0 (genbank letters) m i (origin_lines 1 (cut 60 letters) ++ origin_end)
  unfolding genbank origin_head
  head-written = left-next origin_head _ (all_left _ _ _) e p

  -- so these have room
  room : length (genbank letters) ≤ length l → i + length (origin_lines 1 (cut 60 letters) ++ origin_end) ≤ length m
  room fits = room-left head-written (omega arith)

-- in a turn the line of the piece in front is left, then the later ones
module _ {l whole m : Word} {at i : ℕ} (count n : ℕ) (s x rest : Word)
    (u : Unwritten l at whole m i (origin_lines (60 * count + 1) (cut 60 s) ++ origin_end)) (same : n ≡ count) (e : s ≡ x ++ rest)
    (few : length x ≡ min 60 (length s)) (some : 0 < length s) where
  line-left : Unwritten l at whole m i ((origin_line (60 * n + 1) x ++ (10 ∷ [])) ++ (origin_lines (60 * n + 1 + 60) (cut 60 rest) ++ origin_end))
  line-left = left_as (lines-from (60 * n + 1) s x rest e few some) (rw same u)

  line_room : at + length whole ≤ length l → i + (length (origin_line (60 * n + 1) x) + 1) ≤ length m
  line_room fits =
      let line : Word = origin_line (60 * n + 1) x in
      let later : Word = origin_lines (60 * n + 1 + 60) (cut 60 rest) ++ origin_end in
      omega (arith, room-left line-left fits, length-append (line ++ (10 ∷ [])) later, length-append line (10 ∷ []))

  line_written : (more : ℕ) {o : Word} {j : ℕ} → more ≡ count + 1 → o ≡ sets m i (origin_line (60 * n + 1) x ++ (10 ∷ []))
      → j ≡ i + (length (origin_line (60 * n + 1) x) + 1) → Unwritten l at whole o j (origin_lines (60 * more + 1) (cut 60 rest) ++ origin_end)
  line_written more next p q =
      let line : Word = origin_line (60 * n + 1) x in
      let place : 60 * n + 1 + 60 ≡ 60 * more + 1 = omega (arith, same, next) in
      left_as (ap (λ (k : ℕ). origin_lines k (cut 60 rest) ++ origin_end) place)
      (left-next (line ++ (10 ∷ [])) _ line-left p (omega (arith, q, length-append line (10 ∷ []))))

pub copy-at-requires : goal.copy-at-requires
copy-at-requires c = omega (arith, page-parts c.args.letters.now)

pub put_line-at-requires-clause-w_in_bounds : goal.put_line-at-requires-clause-w_in_bounds
unfolding origin_head
put_line-at-requires-clause-w_in_bounds c =
    let v = c.loop-n.invariant in
    let step = c.in-Some.ensures.steps in
    line_room _ _ _ _ _ v.left step.1 step.0.1.0 (rw v.size at step.0.1.1) step.0.1.2
    (room _ _ _ _ c.copy-at.ensures.written c.copy-at.ensures.behind c.requires.letters_in_bounds)

pub loop-n-preserved : goal.loop-n-preserved
loop-n-preserved c =
    let letters = c.args.letters.now in
    let v = c.loop-n.invariant in
    let step = c.in-Some.ensures.steps in
    let few = rw v.size at step.0.1.1 in
    record {
      can_next = search rules;
      is_finite = search rules;
      size = step.0.0 ∙ v.size;
      rest = rest-is 60 _ letters _ _ _ v.rest step.0.1.0 few ∙ ap (λ (k : ℕ). drop (60 * k) letters) (sym step.2);
      left = line_written _ _ _ _ _ v.left step.1 step.0.1.0 few step.0.1.2 _ step.2 c.put_line-at.ensures.written c.put_line-at.ensures.behind;
    }

pub copy-requires : goal.copy-requires
unfolding origin_head origin_end
copy-requires c =
    room-left (left_as (end-left _ _ c.in-None.ensures.steps.0.1.0) c.loop-n.invariant.left)
    (room _ _ _ _ c.copy-at.ensures.written c.copy-at.ensures.behind c.requires.letters_in_bounds)

-- behind the last line nothing is left
module _ (l letters m s : Word) (i place : ℕ) {n o : Word} {j k : ℕ} (e : m ≡ sets l 0 origin_head) (p : i ≡ 0 + length origin_head)
    (u : Unwritten m i (origin_lines 1 (cut 60 letters) ++ origin_end) n j (origin_lines place (cut 60 s) ++ origin_end))
    (none : length s ≡ 0) (f : o ≡ sets n j origin_end) (q : k ≡ j + length origin_end) where
  page_written : (o ≡ sets l 0 (genbank letters)) × (k ≡ length (genbank letters))
  unfolding origin_end
  page_written =
      let w = none_left (left-next origin_end [] (left_as (end-left place s none) u) f q) in
      let head = head-written l letters m i e p in
      (w.0 ∙ head.stored, w.1 ∙ head.place ∙ zero-add _)

pub returns-clause-written : goal.returns-clause-written
unfolding origin_head origin_end
returns-clause-written c =
    (page_written _ c.args.letters.now _ _ _ _ c.copy-at.ensures.written c.copy-at.ensures.behind c.loop-n.invariant.left
    c.in-None.ensures.steps.0.1.0 c.copy.ensures.written c.copy.ensures.behind).0

pub returns-clause-behind : goal.returns-clause-behind
unfolding origin_head origin_end
returns-clause-behind c =
    (page_written _ c.args.letters.now _ _ _ _ c.copy-at.ensures.written c.copy-at.ensures.behind c.loop-n.invariant.left
    c.in-None.ensures.steps.0.1.0 c.copy.ensures.written c.copy.ensures.behind).1
