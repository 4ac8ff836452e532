-- The lines of a page as they are written: that of the piece in front with its LF, then those of the rest, and none where no letter is left. Assumes nothing.
use Rattle.std.proofs.Common.{◌≡◌, refl, ◌∙◌, sym, ℕ, ◌+◌, ◌<◌, min, [], ◌∷◌, ◌++◌, append_assoc, length}
use Rattle.std.proofs.lemmas.List.{nil_from_length}
use Rattle.palindromes.specs.Word.{Word}
use Rattle.palindromes.specs.Genbank.{cut, origin_line, origin_lines, origin_end}
use Rattle.genbank.proofs.Cut.{cut-none, cut-off}
use Rattle.genbank.proofs.Size.{lines_more}

-- the line of the piece with its LF, the later ones and the last line of the page
pub lines-from : (place : ℕ) (s x rest : Word) → s ≡ x ++ rest → length x ≡ min 60 (length s) → 0 < length s
    → origin_lines place (cut 60 s) ++ origin_end ≡ (origin_line place x ++ (10 ∷ [])) ++ (origin_lines (place + 60) (cut 60 rest) ++ origin_end)
lines-from place s x rest e few some =
    let p = cut-off 60 x rest (rw e at few) in
    let line : Word = origin_line place x in
    let later : Word = origin_lines (place + 60) (cut 60 rest) in
    let here : origin_lines place (cut 60 s) ≡ line ++ (10 ∷ later) = lines_more place s some ∙ rw (e, p.0, p.1) in
    rw here (append_assoc line (10 ∷ later) origin_end ∙ sym (append_assoc line (10 ∷ []) (later ++ origin_end)))

-- behind the last letter only the last line is left
pub end-left : (place : ℕ) (s : Word) → length s ≡ 0 → origin_lines place (cut 60 s) ++ origin_end ≡ origin_end
unfolding origin_lines
end-left place s e = rw (nil_from_length s e, cut-none 60) refl
