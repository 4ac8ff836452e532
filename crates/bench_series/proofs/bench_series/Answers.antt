-- No row is visited of a damaged store or an inverted record.
use Rattle.std.proofs.Common.{refl, ap, ◌∙◌, ℕ, arith}
use Rattle.palindromes.specs.Reading.{rule_in}
use Rattle.palindromes.proofs.Readings.{rule-of-plain}
use Rattle.series.specs.Series.{series_steps}
use Rattle.store.specs.Layout.{letters_in}
use Rattle.store.proofs.Sizes.{letters-length}
use Rattle.walk.proofs.Stores.{header-fits}
use Rattle.audit_fixed.proofs.Decided.{holds, fails}
use Rattle.bench_series.proofs.bench_series.Goals as goal

pub returns-then-not-is_good : goal.returns-then-not-is_good
returns-then-not-is_good c =
    let bad = fails _ c.is_good.result c.is_good.ensures c.if-not-is_good.true in
    record { visited = λ h z. absurd (bad h); damaged = λ n. refl; inverted = λ h z. refl }

pub reading-requires : goal.reading-requires
reading-requires c = header-fits (holds _ c.is_good.result c.is_good.ensures c.if-not-is_good.false).sized

pub returns-then-reading-ne0 : goal.returns-then-reading-ne0
returns-then-reading-ne0 c = record { visited = λ h z. absurd (omega arith); damaged = λ n. refl; inverted = λ h z. refl }

pub returns : goal.returns
returns c =
    let good = holds _ c.is_good.result c.is_good.ensures c.if-not-is_good.false in
    let length_is = letters-length good.sized in
    let e = c.factorize.ensures in
    record {
      visited = λ h z. (e.steps ∙ ap (λ (σ : ℕ → ℕ). series_steps σ (letters_in c.args.store.now)) (ap rule_in z ∙ rule-of-plain), omega (arith, e.few));
      damaged = λ n. absurd (n good);
      inverted = λ h z. absurd (omega arith);
    }
