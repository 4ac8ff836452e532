-- The list of `Example` as far as CAC, and what the claims about pages say of it: in a buffer of 26 sevens the page has 24 bytes, and two sevens stay behind it; one byte less than it has is refused.
use Prim.Native.Nat.{ℕ, ◌≤◌, ◌<◌}
use native.Mathlib.Omega.{arith}
use mathlib.Core.Path.{◌≡◌, refl, ap, ◌∙◌, subst}
use mathlib.Core.List.{[], ◌∷◌, ◌++◌}
use lib.ListN.{length, replicate}
use lib.Seq.{sets}
use Rattle.palindromes.specs.Word.{Word}
use Rattle.palindromes.specs.Bed.{digits_before, decimal}
use Rattle.palindromes.specs.Reading.{as_plain}
use Rattle.palindromes.specs.Genbank.{lower, cut_up_to, cut, groups, right_justified, origin_line, origin_lines, origin_head, origin_end, genbank}
use Rattle.palindromes.specs.Refusal.{page, ask}
use Rattle.outcome.specs.Reply.{packed, refused_with, unpacked}
use Rattle.outcome.specs.Outcome.{Lent, written}
use Rattle.outcome.specs.Promise.{lending, Promise}
use Rattle.traces.specs.Run.{store_after}
use Rattle.traces.specs.Pages.{Pages}
use Rattle.traces.proofs.Pages.{pages-after}
use Rattle.traces.proofs.Example.{sevens, all-bytes, opened, promise, answers-zero, start, with-CAC, run-to-CAC, in-CAC}

abbrev end : Word
end = store_after start with-CAC

its-pages : Pages (67 ∷ 65 ∷ 67 ∷ []) end
its-pages =
    subst (λ (s : Word). Pages s end) in-CAC
    (pages-after as_plain 3 sevens all-bytes (packed (opened as_plain).reply) start (promise as_plain) (answers-zero as_plain) run-to-CAC)

-- ORIGIN, eight blanks, 1, a blank, cac and //, each line with its LF
abbrev CAC-page : Word
CAC-page =
    79 ∷ 82 ∷ 73 ∷ 71 ∷ 73 ∷ 78 ∷ 10
    ∷ 32 ∷ 32 ∷ 32 ∷ 32 ∷ 32 ∷ 32 ∷ 32 ∷ 32 ∷ 49 ∷ 32 ∷ 99 ∷ 97 ∷ 99 ∷ 10
    ∷ 47 ∷ 47 ∷ 10
    ∷ []

is-page : genbank (67 ∷ 65 ∷ 67 ∷ []) ≡ CAC-page
unfolding genbank origin_head origin_lines origin_line right_justified groups cut cut_up_to lower decimal digits_before origin_end
is-page = refl

pub printed-CAC : (a : ℕ) (b' : Word) (l' : Lent) → Promise (ask page) end (lending [] (replicate 26 7)) a b' l' → l'.out ≡ CAC-page ++ (7 ∷ 7 ∷ [])
unfolding written
printed-CAC a b' l' p =
    let room : length (genbank (67 ∷ 65 ∷ 67 ∷ [])) ≤ 26 = omega (arith, ap length is-page) in
    let q = its-pages.printed.written (lending [] (replicate 26 7)) a b' l' p room in
    ap (λ (l : Lent). l.out) q.bytes ∙ ap (sets (replicate 26 7) 0) is-page

pub too-short-for-CAC : (a : ℕ) (b' : Word) (l' : Lent) → Promise (ask page) end (lending [] (replicate 23 7)) a b' l' → unpacked a ≡ refused_with 9
too-short-for-CAC a b' l' p =
    let room : 23 < length (genbank (67 ∷ 65 ∷ 67 ∷ [])) = omega (arith, ap length is-page) in
    (its-pages.printed.short (lending [] (replicate 23 7)) a b' l' p room).told
