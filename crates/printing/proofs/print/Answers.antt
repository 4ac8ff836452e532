-- A text of more than 65,536 bytes is refused, and any other printed.
use Rattle.std.proofs.Common.{sym, ap, ◌∙◌, length}
use Rattle.std.proofs.Math.Seq.{sets}
use Rattle.palindromes.specs.Word.{Word}
use Rattle.printing.proofs.Answering.{too_long, short-enough}
use Rattle.printing.proofs.print.Goals as goal

pub returns-then-text-gt65536 : goal.returns-then-text-gt65536
returns-then-text-gt65536 c =
    let e = c.put_line.ensures in
    let p = sym (too_long c.args.text.now c.if-text-gt65536.true) in
    record { written = e.written ∙ ap (λ (w : Word). sets c.args.out.now 0 w) p; behind = e.behind ∙ ap length p }

pub returns : goal.returns
returns c =
    let e = c.print_text.ensures in
    let p = sym (short-enough c.args.text.now c.if-text-gt65536.false) in
    record { written = e.written ∙ ap (λ (w : Word). sets c.args.out.now 0 w) p; behind = e.behind ∙ ap length p }
