-- A short buffer is refused; else where the minimal unique repeats stand is written.
use Rattle.std.proofs.Common.{ℕ, ◌*◌, ◌≡◌, sym, ap, ◌∙◌, false, length, arith}
use Rattle.std.specs.Prelude.{[]}
use Rattle.palindromes.specs.Word.{Word}
use Rattle.palindromes.specs.Interval.{interval_bytes}
use Rattle.palindromes.specs.MinimalUnique.{minimal_unique}
use Rattle.palindromes.specs.Refusal.{the_minimal_unique}
use Rattle.palindromes.proofs.Intervals.{interval-bytes-length}
use Rattle.palindromes.proofs.MinimalUniqueList.{minimal-few}
use Rattle.store.specs.Layout.{letters_in}
use Rattle.store.specs.Good.{rule_of}
use Rattle.outcome.specs.Reply.{packed, accepted}
use Rattle.outcome.specs.Outcome.{answer_to, lent_after, written}
use Rattle.outcome.specs.Promise.{lending}
use Rattle.outcome.specs.Verdict.{judged}
use Rattle.outcome.proofs.Promises.{by-verdict}
use Rattle.outcome.proofs.Questions.{question-answered, question-packs, minimal-writing, too_short, long-enough}
use Rattle.outcome.proofs.Fits.{few}
use Rattle.minimal_unique_call.proofs.list_of_good.Goals as goal

-- four bytes for each
room : (b : Word) {n : ℕ} → let list = minimal_unique (rule_of b) (letters_in b) in n ≡ length list → length (interval_bytes list) ≡ 4 * n
room b e = interval-bytes-length (minimal_unique (rule_of b) (letters_in b)) ∙ ap (λ (k : ℕ). 4 * k) (sym e)

pub overflow_mul-number : goal.overflow_mul-number
overflow_mul-number c =
    let most = few (c.requires) in
    omega (arith, minimal-few (rule_of c.args.store.now) (letters_in c.args.store.now))

pub returns-then-out-number : goal.returns-then-out-number
returns-then-out-number c =
    let good = c.requires in
    let short = too_short (minimal-writing c.args.store.now) (lending [] c.args.out.now) (omega (arith, room _ c.count_minimal-number.ensures)) in
    by-verdict _ _ _ 9 (judged good (sym short)) (omega arith) c.refuse.ensures

pub put_minimal-requires-clause-b_in_bounds : goal.put_minimal-requires-clause-b_in_bounds
put_minimal-requires-clause-b_in_bounds c = omega (arith, room _ c.count_minimal-number.ensures)

pub pack-requires : goal.pack-requires
unfolding answer_to
pack-requires c =
    let good = c.requires in
    let fits = long-enough (minimal-writing c.args.store.now) (lending [] c.args.out.now) (omega (arith, room _ c.count_minimal-number.ensures)) in
    omega (arith, question-packs the_minimal_unique _ _ (record { good = good; clear = fits }))

pub returns : goal.returns
unfolding answer_to lent_after written
returns c =
    let good = c.requires in
    let fits = long-enough (minimal-writing c.args.store.now) (lending [] c.args.out.now) (omega (arith, room _ c.count_minimal-number.ensures)) in
    let reply = c.pack.ensures ∙ ap (λ (n : ℕ). packed (accepted false 0 n 0)) c.count_minimal-number.ensures in
    question-answered the_minimal_unique _ _ (record { good = good; clear = fits }) reply (ap (lending []) c.put_minimal.ensures)
