-- The letters are listed under the identifier that begins after the first byte of the text.
use Rattle.std.proofs.Common.{ℕ, ◌+◌, ◌-◌, ◌≤◌, ◌≡◌, ap, ◌∙◌, length, take, arith}
use Rattle.std.proofs.Math.Seq.{length-take-le}
use Rattle.std.proofs.lemmas.List.Edits.{sets}
use Rattle.palindromes.specs.Word.{Word}
use Rattle.palindromes.specs.Palindrome.{plain}
use Rattle.palindromes.specs.Bed.{listing}
use Rattle.text_printing.specs.PrintedFor.{identifier_of}
use Rattle.text_printing.proofs.list_read.Goals as goal

-- the part of the text that begins after its first byte and ends n bytes later
part_length : (n : ℕ) → 1 + n - 1 ≡ n
part_length n = omega arith

pub list_letters-requires : goal.list_letters-requires
list_letters-requires c =
    let r = c.requires.read in
    let most : length (take c.args.m c.args.letters.now) ≤ 1024 = omega (arith, length-take-le c.args.m c.args.letters.now r.room, r.few) in
    record { name_value = rw (part_length c.args.n) r.identifier; letters_value = (r.letters, most); in_bounds = c.requires.in_bounds }

pub returns : goal.returns
returns c =
    let w : ℕ → Word = λ n. listing plain (identifier_of n c.args.text.now) (take c.args.m c.args.letters.now) in
    record {
      written = c.list_letters.ensures.written ∙ ap (λ (n : ℕ). sets c.args.out.now 0 (w n)) (part_length c.args.n);
      behind = c.list_letters.ensures.behind ∙ ap (λ (n : ℕ). length (w n)) (part_length c.args.n);
    }
