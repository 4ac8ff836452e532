-- `tally::put_tally` meets its contract: four runs of stores, each behind the last.
use Rattle.std.proofs.Common.{◌≡◌, refl, List, ℕ}
use Rattle.std.proofs.lemmas.List.Edits.{sets}
use Rattle.tally.specs.declared.Tally.{Tally}
use Rattle.palindromes.specs.Marks.{low_bytes, counts_bytes}
use Rattle.tally.specs.Counts.{counts_in}
use Rattle.tally.proofs.put_tally.Goals as goal

-- four counts one behind the other are the tally's bytes
stored : (l l₁ l₂ l₃ l₄ : List ℕ) (t : Tally) → l₁ ≡ sets l 0 (low_bytes 8 t.right) → l₂ ≡ sets l₁ 8 (low_bytes 8 t.repeated)
    → l₃ ≡ sets l₂ 16 (low_bytes 8 t.wrong) → l₄ ≡ sets l₃ 24 (low_bytes 8 t.missing)
    → l₄ ≡ sets l 0 (counts_bytes (counts_in t))
unfolding counts_bytes low_bytes
stored l l₁ l₂ l₃ l₄ t e₁ e₂ e₃ e₄ = rw (e₄, e₃, e₂, e₁) refl

pub returns : goal.returns
returns c =
    stored c.args.sheet.now _ _ _ _ c.args.t c.put_count.ensures c.put_count-2.ensures c.put_count-3.ensures c.put_count-4.ensures
