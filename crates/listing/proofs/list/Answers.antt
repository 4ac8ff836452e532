-- `listing::list` clears the scratch's part, writes the lines with it as marks, and clears it again. Assumes nothing.
use Rattle.std.proofs.lemmas.List.{length-replicate}
use Rattle.std.proofs.Common.{◌≡◌, ℕ, ◌*◌, ◌≤◌, length, replicate, sym, ap, ◌∙◌, subst, arith}
use Rattle.std.proofs.Math.Seq.{length-sets}
use Rattle.std.proofs.lemmas.List.Edits.{sets}
use Rattle.palindromes.specs.Word.{Word}
use Rattle.palindromes.specs.Refusal.{scratch_size}
use Rattle.store.specs.Layout.{size_in}
use Rattle.store.proofs.Sizes.{letters-length}
use Rattle.listing.specs.Reading.{ReadTo}
use Rattle.listing.proofs.Stores.{sets-again, noughts}
use Rattle.listing.proofs.Marking.{scratch-bits, reads_first}
use Rattle.listing.proofs.list.Goals as goal

-- cleared, the marks are those of a record of which no letter has been read, and enough for every rank
pub put_lines-at-requires-clause-read_to : goal.put_lines-at-requires-clause-read_to
put_lines-at-requires-clause-read_to c =
    let b = c.args.b.now in
    let n = c.scratch_size-used.result in
    let scratch = c.args.scratch.now in
    let used : n ≡ scratch_size (size_in b) = c.scratch_size-used.ensures ∙ ap scratch_size (letters-length c.requires.good.sized) in
    let fits : n ≤ length scratch = omega (arith, c.scratch_size-used.ensures, c.requires.b_in_bounds) in
    subst (λ (m : Word). ReadTo b 0 0 1 m × (size_in b ≤ 8 * length m)) (sym c.clear.ensures) (
      reads_first c.requires.good 0 (sets scratch 0 (replicate n 0)) (λ i h k. noughts scratch n i fits (omega (arith, used, h))),
      omega (arith, used, fits, length-sets scratch 0 (replicate n 0), (scratch-bits (size_in b)).0),
    )

pub returns-clause-cleared : goal.returns-clause-cleared
returns-clause-cleared c =
    let n = c.scratch_size-used.result in
    let scratch = c.args.scratch.now in
    let used : n ≡ scratch_size (size_in c.args.b.now) = c.scratch_size-used.ensures ∙ ap scratch_size (letters-length c.requires.good.sized) in
    c.clear-2.ensures
    ∙ c.put_lines-at.ensures.kept (replicate n 0) (omega (arith, used, length-replicate {A = ℕ} n 0))
    ∙ ap (λ (l : Word). sets l 0 (replicate n 0)) c.clear.ensures
    ∙ sets-again scratch 0 (replicate n 0) 0 (replicate n 0) (omega arith) (omega arith)
    ∙ ap (λ (m : ℕ). sets scratch 0 (replicate m 0)) c.scratch_size-used.ensures
