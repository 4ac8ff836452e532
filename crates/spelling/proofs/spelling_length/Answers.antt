-- The stored length is one more than the number of letters.
use Rattle.std.proofs.Common.{◌≡◌, suc, length, sym, ap, ◌∙◌, arith}
use Rattle.palindromes.specs.Node.{spelling_of}
use Rattle.store.specs.Good.{node_in}
use Rattle.store.proofs.Signed.{kept}
use Rattle.transitions.proofs.Rows.{used-fits}
use Rattle.spelling.proofs.Spellings.{spells-root, spells-length}
use Rattle.spelling.proofs.spelling_length.Goals as goal
use Rattle.spelling.proofs.spelling_length.Goals.{After-to_stored}

-- the stored number
stored : (c : After-to_stored) → c.to_stored.result ≡ suc (length (spelling_of (node_in c.args.b.now c.args.r)))
stored c =
    let l = c.length_of.ensures in
    c.to_stored.ensures (suc (length (spelling_of (node_in c.args.b.now c.args.r))))
    (kept l.1 ∙ l.0 ∙ spells-length c.requires.good c.args.r c.requires.r_value c.if-r-eq-IMAGINARY.false)

pub length_of-requires : goal.length_of-requires
length_of-requires c = used-fits c.requires.good c.args.r c.requires.r_value

pub overflow_sub-result : goal.overflow_sub-result
overflow_sub-result c = omega (arith, stored (goal.at.overflow_sub-result c).After-to_stored)

pub returns-then-r-eq-IMAGINARY : goal.returns-then-r-eq-IMAGINARY
returns-then-r-eq-IMAGINARY c = sym (ap length (spells-root c.requires.good c.args.r c.requires.r_value (omega (arith, c.if-r-eq-IMAGINARY.true))))

pub returns-else-r-eq-IMAGINARY : goal.returns-else-r-eq-IMAGINARY
returns-else-r-eq-IMAGINARY c = omega (arith, stored (goal.at.returns-else-r-eq-IMAGINARY c).After-to_stored)
