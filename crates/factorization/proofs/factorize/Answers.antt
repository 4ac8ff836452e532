use Rattle.std.proofs.Common.{ℕ, get_or, sym, ap, ◌∙◌, arith}
use Rattle.palindromes.specs.Factorization.{palindromic_length}
use Rattle.store.specs.Layout.{size_in}
use Rattle.store.proofs.Sizes.{letters-length}
use Rattle.walk.proofs.Stores.{header-fits}
use Rattle.last_factor.specs.Kept.{factors_in}
use Rattle.factorization.proofs.factorize.Goals as goal

pub size-requires : goal.size-requires
size-requires c = header-fits c.requires.good.0.sized

-- the number that is read is that of the whole record
pub returns-clause-number : goal.returns-clause-number
unfolding palindromic_length
returns-clause-number c =
    let b = c.args.b.now in
    c.from-number.ensures
    ∙ ap (λ (k : ℕ). get_or c.fill-steps.new.factors k 0) c.size.ensures.0
    ∙ c.fill-steps.ensures.known.each (size_in b) (omega arith)
    ∙ ap (factors_in b) (sym (letters-length c.requires.good.0.sized))
