-- `identifier::is_identifier` is the definition's test of a name.
use Rattle.std.proofs.Common.{rules, tests, arith, ◌≡◌, ℕ, length, Bool, true, false, refl, ap, ◌∙◌, [], ◌∷◌, ◌&&◌, leb, is_le, nat_cmp}
use Rattle.std.specs.List.{list_all}
use Rattle.std.proofs.lemmas.Bool.Decides.{nat_tests}
use Rattle.std.proofs.lemmas.Iterator.{YieldsList-from_slice}
use Rattle.std.proofs.lemmas.Iterator.Search.{all_from_yields_List}
use Rattle.palindromes.specs.Word.{Word}
use Rattle.palindromes.specs.Bed.{is_identifier_byte, all_identifier_bytes, is_identifier}
use Rattle.identifier.proofs.is_identifier.Goals as goal

-- the library's test of every byte is the definition's
every-byte : (w : Word) → list_all is_identifier_byte w ≡ all_identifier_bytes w
unfolding all_identifier_bytes
every-byte [] = refl
every-byte (b ∷ w) = ap (λ (t : Bool). is_identifier_byte b && t) (every-byte w)

-- and its order of two numbers the definition's
in-order : (a b : ℕ) → is_le (nat_cmp a b) ≡ leb a b
in-order a b = grind (arith, nat_tests)

pub returns-then-contains : goal.returns-then-contains
unfolding is_identifier
returns-then-contains c =
    let w = c.args.name.now in
    let every : c.all.result ≡ list_all is_identifier_byte w =
    all_from_yields_List is_identifier_byte _ _ c.all.result c.all.ensures.ran (YieldsList-from_slice w cc)
    (λ x b q k. search (rules, tests)) in
    let within : true ≡ (leb 1 (length w) && leb (length w) 32) =
    simp (c.new.ensures.start, c.new.ensures.end, c.new.ensures.exhausted, in-order) at c.if-contains.ensures.value in
    rw (← within) (every ∙ every-byte w)

pub returns-else-contains : goal.returns-else-contains
unfolding is_identifier
returns-else-contains c =
    let w = c.args.name.now in
    let within : false ≡ (leb 1 (length w) && leb (length w) 32) =
    simp (c.new.ensures.start, c.new.ensures.end, c.new.ensures.exhausted, in-order) at c.if-contains.ensures.value in
    rw (← within) c.if-contains.false
