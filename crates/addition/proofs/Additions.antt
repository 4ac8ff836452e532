-- The bytes that are left where a letter brings in no palindrome: the writes of the code are those that the definitions name. Rests on the laws of a good store (`Rows` of transitions).
use Prim.Native.Nat.{ℕ, ◌+◌}
use mathlib.Core.Path.{◌≡◌}
use mathlib.Core.Bool.{cond}
use lib.Dec.{eqb}
use lib.ListN.{length, take, drop}
use lib.Seq.{sets}
use Rattle.palindromes.specs.Word.{Word}
use Rattle.palindromes.specs.End.{End, other, added}
use Rattle.palindromes.specs.Node.{spelt}
use Rattle.store.specs.Layout.{capacity_in, size_in, end_row, letters_at, letters_in}
use Rattle.store.specs.Good.{Good}
use Rattle.store.specs.Writes.{writes}
use Rattle.transitions.specs.Addition.{longest_after, row_after, settle_writes, addition_writes, after_addition}
use Rattle.transitions.proofs.Rows.{row-of}
use Rattle.growth.specs.Steps.{StoodIs}
use Rattle.ends.specs.Steps.{end_writes}

pub added-known : (b : Word) (e : End) (c : ℕ) → Good b → (q : ℕ) {p z : Word} {base n x : ℕ} → base ≡ letters_at (capacity_in b) → n ≡ size_in b
    → StoodIs b e c q → x ≡ cond (eqb (length (longest_after e c b)) (n + 1)) q (end_row b (other e))
    → p ≡ sets b base (added e c (take n (drop base b))) → z ≡ writes p (end_writes e (n + 1) q x) → z ≡ after_addition e c b
unfolding after_addition addition_writes settle_writes row_after letters_in writes
added-known b e c g q i j h y hp hz =
    let r = row-of g q (spelt (longest_after e c b)) h.used h.holds in
    rw h.old (cc)
