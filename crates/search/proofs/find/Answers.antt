-- The comparison tells a piece that disagrees with its reversal; the edges from its centre tell any other.
use Rattle.std.proofs.Common.{◌≡◌, ℕ, refl, sym, ap, ◌∙◌, arith}
use Rattle.palindromes.specs.Palindrome.{first_mismatch}
use Rattle.palindromes.specs.Reading.{rule_in}
use Rattle.palindromes.proofs.Tests.{mismatch-zero}
use Rattle.store.specs.Good.{rule_of}
use Rattle.walk.proofs.Stores.{header-fits}
use Rattle.search.proofs.Finding.{answered, by-partners, by-mismatch, too_long, by-edges}
use Rattle.search.proofs.find.Goals as goal
use Rattle.search.proofs.find.Goals.{After-first_mismatch-pair}

-- what the comparison came to
compared : (c : After-first_mismatch-pair) → first_mismatch (rule_of c.args.b.now) c.args.piece.now ≡ c.first_mismatch-pair.result
compared c =
    by-partners c.args.b.now c.args.piece.now c.table-partners.result
    (λ x l. c.table-partners.ensures x l ∙ ap (λ (m : ℕ). rule_in m x) c.reading-reading.ensures.0) c.requires.piece_nonzero.1 _ c.first_mismatch-pair.result refl c.first_mismatch-pair.ensures

pub reading-reading-requires : goal.reading-reading-requires
reading-reading-requires c = header-fits c.requires.good.sized

pub returns-then-pair-ne0 : goal.returns-then-pair-ne0
returns-then-pair-ne0 c =
    let told = compared (goal.at.returns-then-pair-ne0 c).After-first_mismatch-pair in
    by-mismatch c.requires.good c.args.piece.now told c.if-pair-ne0.true c.reported.ensures

pub size-requires : goal.size-requires
size-requires c = header-fits c.requires.good.sized

pub returns-then-size-piece : goal.returns-then-size-piece
returns-then-size-piece c =
    let told = compared (goal.at.returns-then-size-piece c).After-first_mismatch-pair in
    too_long c.requires.good c.args.piece.now (told ∙ c.if-pair-ne0.false) (omega (arith, c.if-size-piece.true, c.size.ensures.0))

pub outwards-requires-clause-piece_nonzero : goal.outwards-requires-clause-piece_nonzero
outwards-requires-clause-piece_nonzero c =
    let told = compared (goal.at.outwards-requires-clause-piece_nonzero c).After-first_mismatch-pair in
    (c.requires.piece_nonzero.0, c.requires.piece_nonzero.1, mismatch-zero _ _ (told ∙ c.if-pair-ne0.false))

pub returns-in-Some : goal.returns-in-Some
returns-in-Some c =
    let told = compared (goal.at.returns-in-Some c).After-first_mismatch-pair in
    ap answered (sym c.in-Some.is) ∙ by-edges c.requires.good c.args.piece.now (told ∙ c.if-pair-ne0.false) c.outwards.result c.outwards.ensures

pub returns-in-None : goal.returns-in-None
returns-in-None c =
    let told = compared (goal.at.returns-in-None c).After-first_mismatch-pair in
    ap answered (sym c.in-None.is) ∙ by-edges c.requires.good c.args.piece.now (told ∙ c.if-pair-ne0.false) c.outwards.result c.outwards.ensures
