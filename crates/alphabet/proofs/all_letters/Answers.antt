-- `alphabet::all_letters` is the definition's test of a piece.
use Rattle.std.proofs.Common.{◌≡◌, ℕ, ◌+◌, ◌<◌, ap, ◌∙◌, refl, length, get_or, take, [], ◌∷◌, add-one}
use Rattle.std.proofs.Math.Seq.{take-suc}
use Rattle.palindromes.specs.Word.{Word, is_letter, all_letters}
use Rattle.palindromes.proofs.Letters.{letters-append}
use Rattle.alphabet.proofs.all_letters.Goals as goal
use mathlib.Core.Bool.{Bool, ◌&&◌, and-true}

-- one byte more
passes : (p : Word) (i : ℕ) → i < length p → all_letters (take (i + 1) p) ≡ (all_letters (take i p) && is_letter (get_or p i 0))
unfolding all_letters
passes p i l =
    let x = get_or p i 0 in
    ap (λ (n : ℕ). all_letters (take n p)) (add-one i)
    ∙ ap all_letters (take-suc p i 0 l)
    ∙ letters-append (take i p) (x ∷ [])
    ∙ ap (λ (t : Bool). all_letters (take i p) && t) (and-true (is_letter x))

pub loop-c-init : goal.loop-c-init
unfolding all_letters
loop-c-init c = refl

pub loop-c-preserved : goal.loop-c-preserved
loop-c-preserved c =
    let e = passes c.args.piece.now c.loop-c.c-index c.loop-c-test.true in
    cc (c.is_letter-all.ensures, c.loop-c.invariant)
