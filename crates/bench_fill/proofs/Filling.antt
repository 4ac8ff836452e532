-- How filling keeps its promise, by which of its three tests fails. Assumes nothing.
use Prim.Native.Nat.{ℕ, ◌≤◌, ◌<◌}
use mathlib.Core.Path.{◌≡◌, refl, sym, ◌∙◌}
use mathlib.Core.Bool.{true, false, ◌&&◌, and-false, true≢false}
use lib.Dec.{leb}
use lib.ListN.{length}
use borrow.Author.Tests.{le-leb, lt-leb}
use Rattle.palindromes.specs.Word.{Word, all_letters}
use Rattle.palindromes.specs.End.{at_right}
use Rattle.transitions.specs.Opening.{opened}
use Rattle.transitions.specs.Turning.{after_additions}
use Rattle.bench_fill.specs.Fills.{fillable, Fills}

module _ (b w : Word) where
  -- nothing is done where it cannot be filled
  nothing-done : fillable b w ≡ false → Fills b w 0 b
  nothing-done f = record { filled = λ t. absurd (true≢false (sym t ∙ f)); left = λ e. (refl, refl) }

  pub store-short : length b < 49408 → Fills b w 0 b
  unfolding fillable
  store-short h = nothing-done (rw (lt-leb 49408 (length b) h))

  pub too_many : 1024 < length w → Fills b w 0 b
  unfolding fillable
  too_many h = nothing-done (rw (lt-leb (length w) 1024 h, and-false (leb 49408 (length b))))

  pub no-letter : all_letters w ≡ false → Fills b w 0 b
  unfolding fillable
  no-letter h = nothing-done (rw (h, and-false (leb 49408 (length b) && leb (length w) 1024)))

  -- and the letters stand where it can
  pub all-added : {r : ℕ} {b' : Word} → 49408 ≤ length b → length w ≤ 1024 → all_letters w ≡ true → r ≡ length w → b' ≡ after_additions at_right w (opened 0 1024 b) → Fills b w r b'
  unfolding fillable
  all-added h m a e f = record { filled = λ t. (e, f); left = λ z. absurd (true≢false (sym (rw (le-leb 49408 (length b) h, le-leb (length w) 1024 m, a) refl) ∙ z)) }
