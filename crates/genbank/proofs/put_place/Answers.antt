-- `genbank::put_place` overwrites the columns before the digits by blanks, then writes the digits.
use Rattle.std.proofs.Common.{◌≡◌, ap, ◌∙◌, arith, ℕ, ◌+◌, ◌-◌, ◌≤◌, length, take, drop, length-drop}
use Rattle.std.proofs.Math.ListN.{replicate, length-take, length-replicate}
use Rattle.std.proofs.lemmas.List.Edits.{sets}
use borrow.Rule.Slice.PartMut.{put_mid}
use Rattle.palindromes.specs.Word.{Word}
use Rattle.palindromes.specs.Bed.{decimal}
use Rattle.palindromes.specs.Genbank.{right_justified}
use Rattle.decimal.proofs.Stores.{sets-append}
use Rattle.bed.proofs.Written.{sets-part}
use Rattle.genbank.proofs.put_place.Goals as goal

-- the buffer l with its part from `at` to `first` filled, then with the digits behind it
right-justified : (l filled m : Word) (at first place : ℕ) → first + length (decimal place) ≡ at + 9 → length (decimal place) ≤ 5 → at + 9 ≤ length l
    → filled ≡ replicate (length (take (first - at) (drop at l))) 32 → m ≡ sets (put_mid at (first - at) l filled) first (decimal place)
    → m ≡ sets l at (right_justified 9 (decimal place))
unfolding right_justified
right-justified l filled m at first place columns few room f w =
    let blanks : Word = replicate (9 - length (decimal place)) 32 in
    let size : length blanks ≡ 9 - length (decimal place) = length-replicate {A = ℕ} (9 - length (decimal place)) 32 in
    let many : length (take (first - at) (drop at l)) ≡ 9 - length (decimal place) = omega (arith, length-take (first - at) (drop at l), length-drop at l) in
    let filled-is : filled ≡ blanks = f ∙ ap (λ (n : ℕ). replicate n 32) many in
    let behind : first ≡ at + length blanks = omega arith in
    w
    ∙ ap (λ (b : Word). sets (put_mid at (first - at) l b) first (decimal place)) filled-is
    ∙ ap (λ (b : Word). sets b first (decimal place)) (sets-part l at (first - at) blanks (omega arith) (omega arith))
    ∙ ap (λ (k : ℕ). sets (sets l at blanks) k (decimal place)) behind
    ∙ sets-append l at blanks (decimal place)

pub returns-clause-written : goal.returns-clause-written
returns-clause-written c =
    right-justified c.args.out.now _ _ c.args.at _ c.args.place (omega arith) (omega arith) c.requires.1 (c.fill.ensures.after (λ y e. e))
    c.put_decimal.ensures.written
