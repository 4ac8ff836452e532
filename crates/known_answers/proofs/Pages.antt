-- Every known page is the page of its letters, computed for the whole table at once: `known-pages`. Assumes nothing.
use mathlib.Core.Path.{◌≡◌, refl}
use mathlib.Core.List.{map}
use Rattle.palindromes.specs.Bed.{digits_before, decimal}
use Rattle.palindromes.specs.Genbank.{lower, cut_up_to, cut, groups, right_justified, origin_line, origin_lines, origin_head, origin_end, genbank}
use Rattle.known_answers.specs.Pages.{KnownPage, pages}

pub known-pages : map (λ (x : KnownPage). genbank x.letters) pages ≡ map (λ (x : KnownPage). x.page) pages
unfolding pages genbank origin_head origin_lines origin_line right_justified groups cut cut_up_to lower decimal digits_before origin_end
known-pages = refl
