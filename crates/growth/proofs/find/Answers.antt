-- The edge of the row that the walk met tells whether the palindrome is new. How many rows the walk passed is handed on. Assumes nothing.
use Rattle.std.proofs.Common.{ℕ, ◌≡◌, ◌∙◌, true, sym, ap, subst}
use Rattle.std.specs.Prelude.{Option}
use Rattle.palindromes.specs.Word.{Word, is_letter}
use Rattle.palindromes.specs.End.{End}
use Rattle.palindromes.specs.SearchSteps.{search_steps}
use Rattle.store.specs.Good.{rule_of}
use Rattle.store.specs.Side.{end_of}
use Rattle.walk.specs.Replay.{letters_towards, letter_towards, steps_towards}
use Rattle.transitions.proofs.Rows.{used-fits}
use Rattle.growth.specs.Steps.{read_as, Met, RowFor, StoodIs, Passed}
use Rattle.growth.proofs.Growing.{read-letter, read-partner, letter-read, longest-met, found-new, found-old, found_none}
use Rattle.growth.proofs.find.Goals as goal

-- the letter d that is walked for, and its partner
module _ (b : Word) (e : End) (c p d : ℕ) (q : p ≡ rule_of b c) (x : d ≡ read_as e c p) where
  same : d ≡ letter_towards (rule_of b) e c
  same = x ∙ read-letter b e c p q

  partner : {want : ℕ} → want ≡ read_as e p c → want ≡ rule_of b d
  partner y = y ∙ read-partner b e c p q ∙ ap (rule_of b) (sym x)

  letter : is_letter c ≡ true → is_letter d ≡ true
  letter l = letter-read b e c d same l

  -- how many rows the walk passed
  steps : {n : ℕ} → Passed b e d n → n ≡ steps_towards b e c
  steps h = h ∙ ap (λ (i : ℕ). search_steps (rule_of b) i (letters_towards b e)) same

-- what the walk found
met_is : (b : Word) (e : End) (d : ℕ) {o r : Option ℕ} → o ≡ r → Met b e d o → Met b e d r
met_is b e d f m = subst (Met b e d) f m

pub meet-search-requires-clause-want_value : goal.meet-search-requires-clause-want_value
meet-search-requires-clause-want_value c = partner c.args.b.now (end_of c.args.side) c.args.c c.args.p c.pick-d.result c.requires.c_value.1 c.pick-d.ensures c.pick-want.ensures

pub edge_of-q-requires : goal.edge_of-q-requires
edge_of-q-requires c =
    let met = met_is c.args.b.now (end_of c.args.side) c.pick-d.result c.in-Some.is c.meet-search.ensures.0 in
    used-fits c.requires.good c.in-Some.u met.0

pub row_around-requires-clause-want_value : goal.row_around-requires-clause-want_value
row_around-requires-clause-want_value c = partner c.args.b.now (end_of c.args.side) c.args.c c.args.p c.pick-d.result c.requires.c_value.1 c.pick-d.ensures c.pick-want.ensures

pub row_around-requires-clause-d_value : goal.row_around-requires-clause-d_value
row_around-requires-clause-d_value c = (
  letter c.args.b.now (end_of c.args.side) c.args.c c.args.p c.pick-d.result c.requires.c_value.1 c.pick-d.ensures c.requires.c_value.0,
  met_is c.args.b.now (end_of c.args.side) c.pick-d.result c.in-Some.is c.meet-search.ensures.0,
)

pub returns-then-q-eq-IMAGINARY : goal.returns-then-q-eq-IMAGINARY
returns-then-q-eq-IMAGINARY c =
    let b = c.args.b.now in
    let e = end_of c.args.side in
    let d = c.pick-d.result in
    let u = c.in-Some.u in
    let q = c.requires.c_value.1 in
    let s = same b e c.args.c c.args.p d q c.pick-d.ensures in
    let l = letter b e c.args.c c.args.p d q c.pick-d.ensures c.requires.c_value.0 in
    let met = met_is b e d c.in-Some.is c.meet-search.ensures.0 in
    let longest = longest-met c.requires.good e c.args.c d s u met in (
      record {
        new = found-new c.requires.good e c.args.c d s u l met (sym c.edge_of-q.ensures.0 ∙ c.if-q-eq-IMAGINARY.true);
        row-for = subst (λ (v : Word). RowFor b v c.row_around.result) (sym longest) c.row_around.ensures;
      },
      steps b e c.args.c c.args.p d q c.pick-d.ensures c.meet-search.ensures.1,
    )

pub returns-else-q-eq-IMAGINARY : goal.returns-else-q-eq-IMAGINARY
returns-else-q-eq-IMAGINARY c =
    let b = c.args.b.now in
    let e = end_of c.args.side in
    let d = c.pick-d.result in
    let u = c.in-Some.u in
    let q = c.requires.c_value.1 in
    let s = same b e c.args.c c.args.p d q c.pick-d.ensures in
    let l = letter b e c.args.c c.args.p d q c.pick-d.ensures c.requires.c_value.0 in
    let met = met_is b e d c.in-Some.is c.meet-search.ensures.0 in
    let edge = c.edge_of-q.ensures.0 in (
      subst (λ (r : ℕ). StoodIs b e c.args.c r) (sym edge)
          (found-old c.requires.good e c.args.c d s u l met (λ z. c.if-q-eq-IMAGINARY.false (edge ∙ z))),
      steps b e c.args.c c.args.p d q c.pick-d.ensures c.meet-search.ensures.1,
    )

pub returns-in-None : goal.returns-in-None
returns-in-None c =
    let b = c.args.b.now in
    let e = end_of c.args.side in
    let d = c.pick-d.result in
    let q = c.requires.c_value.1 in (
      found_none c.requires.good e c.args.c d (same b e c.args.c c.args.p d q c.pick-d.ensures) (met_is b e d c.in-None.is c.meet-search.ensures.0),
      steps b e c.args.c c.args.p d q c.pick-d.ensures c.meet-search.ensures.1,
    )
