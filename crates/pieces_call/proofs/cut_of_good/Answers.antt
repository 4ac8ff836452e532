-- A short buffer is refused; else where the pieces end is written.
use Rattle.std.proofs.Common.{ℕ, ◌*◌, ◌≡◌, sym, ap, ◌∙◌, false, length, arith}
use Rattle.std.specs.Prelude.{[]}
use Rattle.palindromes.specs.Word.{Word}
use Rattle.palindromes.specs.Factorization.{palindromic_length, factor_ends, end_bytes}
use Rattle.palindromes.specs.Refusal.{the_pieces}
use Rattle.palindromes.proofs.PalindromicLengths.{length_most}
use Rattle.palindromes.proofs.FactorEnds.{ends-number, end-bytes-length}
use Rattle.store.specs.Layout.{reading_in, letters_in}
use Rattle.store.specs.Good.{rule_of}
use Rattle.outcome.specs.Reply.{packed, accepted}
use Rattle.outcome.specs.Outcome.{answer_to, lent_after, written}
use Rattle.outcome.specs.Promise.{lending}
use Rattle.outcome.specs.Verdict.{judged}
use Rattle.outcome.proofs.Promises.{by-verdict}
use Rattle.outcome.proofs.Questions.{question-answered, question-packs, pieces-writing, too_short, long-enough}
use Rattle.outcome.proofs.Fits.{few}
use Rattle.factorization.proofs.Filling.{own-partner}
use Rattle.pieces_call.proofs.cut_of_good.Goals as goal

-- two bytes for each piece
room : (b : Word) {n : ℕ} → reading_in b ≡ 0 → n ≡ palindromic_length (rule_of b) (letters_in b)
    → length (end_bytes (factor_ends (rule_of b) (letters_in b))) ≡ 2 * n
room b z e = omega (arith, end-bytes-length (factor_ends (rule_of b) (letters_in b)), ends-number (rule_of b) (own-partner b z) (letters_in b), e)

pub overflow_mul-number : goal.overflow_mul-number
overflow_mul-number c =
    let most = few (c.requires.0) in
    omega (arith, length_most (rule_of c.args.store.now) (letters_in c.args.store.now))

pub returns-then-out-number : goal.returns-then-out-number
returns-then-out-number c =
    let good = c.requires.0 in
    let plain = c.requires.1 in
    let short = too_short (pieces-writing _ plain) (lending [] c.args.out.now) (omega (arith, room _ plain c.factorize-number.ensures.number)) in
    by-verdict _ _ _ 9 (judged good (sym short)) (omega arith) c.refuse.ensures

pub pack-requires : goal.pack-requires
unfolding answer_to
pack-requires c =
    let good = c.requires.0 in
    let plain = c.requires.1 in
    let fits = long-enough (pieces-writing _ plain) (lending [] c.args.out.now) (omega (arith, room _ plain c.factorize-number.ensures.number)) in
    omega (arith, question-packs the_pieces _ _ (record { good = good; clear = fits }))

pub returns : goal.returns
unfolding answer_to lent_after written
returns c =
    let good = c.requires.0 in
    let plain = c.requires.1 in
    let fits = long-enough (pieces-writing _ plain) (lending [] c.args.out.now) (omega (arith, room _ plain c.factorize-number.ensures.number)) in
    let reply = c.pack.ensures ∙ ap (λ (n : ℕ). packed (accepted false 0 n 0)) c.factorize-number.ensures.number in
    question-answered the_pieces _ _ (record { good = good; clear = fits }) reply (ap (lending []) c.put_ends.ensures)
