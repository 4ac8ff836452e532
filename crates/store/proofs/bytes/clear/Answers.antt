use Rattle.std.proofs.Common.{ℕ, ◌≡◌, ◌≤◌, ◌+◌, ◌++◌, arith, length, replicate, take, drop}
use Rattle.std.proofs.lemmas.List.{length-take-le, length-replicate}
use Rattle.std.proofs.lemmas.List.Edits.{sets, sets-eq}
use Rattle.palindromes.specs.Word.{Word}
use Rattle.store.proofs.bytes.clear.Goals as goal

-- zeros in place of the first n elements are zeros written from the first on
zeros-first : (n : ℕ) (l : Word) → n ≤ length l → replicate (length (take n l)) 0 ++ drop n l ≡ sets l 0 (replicate n 0)
zeros-first n l h =
    let zeros : Word = replicate n 0 in
    let long : length zeros ≡ n = length-replicate n 0 in
    let all : 0 + length zeros ≡ n = omega arith in
    cc (all, length-take-le n l h, sets-eq zeros l 0 (omega arith))

pub returns : goal.returns
returns c = let z = c.fill.ensures.after (λ y e. e) in rw z (zeros-first c.args.n c.args.bytes.now c.requires)
