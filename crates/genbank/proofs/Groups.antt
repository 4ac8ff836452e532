-- The letters of a group and the groups of a line, as they are put into their arrays and written out. Assumes nothing.
use Prim.Native.Nat.{ℕ, ◌+◌, ◌*◌, ◌<◌, min}
use native.Mathlib.Omega.{arith}
use native.Mathlib.Decide.{dec_lt, ℕ_discrete}
use native.Mathlib.Numerals.{add-one}
use mathlib.Core.Path.{◌≡◌, refl, sym, ap, ◌∙◌}
use mathlib.Core.List.{List, [], ◌∷◌, ◌++◌, map, map-append}
use lib.ListN.{length, get_or, set, take, drop, length-set, length-map}
use lib.Seq.{sets, set-set, length-sets, take-suc, length-take-le, get_or-set_same, get_or-set_other}
use Rattle.palindromes.specs.Word.{Word}
use Rattle.palindromes.specs.Genbank.{lower, cut, groups}
use Rattle.decimal.proofs.Stores.{sets-append, stored-front}
use Rattle.genbank.specs.Line.{group_at, SixOfTen, Holds}
use Rattle.std.proofs.lemmas.List.{nil_from_length}
use Rattle.genbank.proofs.Cut.{cut-none, cut-off, take-few}
use Rattle.genbank.proofs.Size.{groups-more}

-- one letter more at the front of an array
front-more : (w array : Word) (i : ℕ) → i < length w → set (sets array 0 (map lower (take i w))) i (lower (get_or w i 0)) ≡ sets array 0 (map lower (take (i + 1) w))
front-more w array i h =
    let u : Word = map lower (take i w) in
    let size : i ≡ 0 + length u = omega (arith, length-map (take i w) lower, length-take-le i w (omega arith)) in
    ap (λ (k : ℕ). set (sets array 0 u) k (lower (get_or w i 0))) size
    ∙ sets-append array 0 u (lower (get_or w i 0) ∷ [])
    ∙ ap (sets array 0) (sym (map-append lower (take i w) (get_or w i 0 ∷ [])) ∙ ap (map lower) (sym (take-suc w i 0 h) ∙ ap (λ (k : ℕ). take k w) (sym (add-one i))))

-- and of a group in its line
pub letter-more : (line₀ line : List Word) (g i : ℕ) (w : Word) → g < length line₀ → i < length w → line ≡ set line₀ g (sets (get_or line₀ g []) 0 (map lower (take i w)))
    → set line g (set (get_or line g []) i (lower (get_or w i 0))) ≡ set line₀ g (sets (get_or line₀ g []) 0 (map lower (take (i + 1) w)))
letter-more line₀ line g i w h k e =
    let before : Word = sets (get_or line₀ g []) 0 (map lower (take i w)) in
    let letter : ℕ = lower (get_or w i 0) in
    ap (λ (l : List Word). set l g (set (get_or l g []) i letter)) e
    ∙ set-set line₀ g before (set (get_or (set line₀ g before) g []) i letter)
    ∙ ap (λ (a : Word). set line₀ g (set a i letter)) (get_or-set_same line₀ g before [] h)
    ∙ ap (set line₀ g) (front-more w (get_or line₀ g []) i k)

-- six arrays of ten stay so when one of them is written
pub shape-set : (line : List Word) (g : ℕ) (u : Word) → SixOfTen line → g < 6 → SixOfTen (set line g (sets (get_or line g []) 0 u))
shape-set line g u s b = record { six = length-set line g (sets (get_or line g []) 0 u) ∙ s.six; ten = λ h k. ten h k (ℕ_discrete h g) }
  where
    ten : (h : ℕ) → h < 6 → Dec (h ≡ g) → length (get_or (set line g (sets (get_or line g []) 0 u)) h []) ≡ 10
    ten h k (yes e) =
        ap (λ (i : ℕ). length (get_or (set line g (sets (get_or line g []) 0 u)) i [])) e
        ∙ ap length (get_or-set_same line g (sets (get_or line g []) 0 u) [] (omega (arith, s.six)))
        ∙ length-sets (get_or line g []) 0 u
        ∙ s.ten g b
    ten h k (no n) = ap length (get_or-set_other line g h (sets (get_or line g []) 0 u) [] n) ∙ s.ten h k

-- one group more of a line
pub group-more : (w : Word) (line : List Word) (g : ℕ) → SixOfTen line → g < 6 → ((h : ℕ) → h < g → Holds line h w)
    → (h : ℕ) → h < g + 1 → Holds (set line g (sets (get_or line g []) 0 (map lower (group_at g w)))) h w
group-more w line g s b old h below = go (dec_lt h g)
  where
    array : Word
    array = get_or line g []

    letters : Word
    letters = map lower (group_at g w)

    size : length letters ≡ length (group_at g w)
    size = length-map (group_at g w) lower

    new : take (length (group_at g w)) (sets array 0 letters) ≡ letters
    new = ap (λ (k : ℕ). take k (sets array 0 letters)) (sym size) ∙ stored-front array letters (omega (arith, size, take-few 10 (drop (10 * g) w), s.ten g b))

    go : Dec (h < g) → Holds (set line g (sets array 0 letters)) h w
    go (yes l) = rw (get_or-set_other line g h (sets array 0 letters) [] (λ e. omega arith)) (old h l)
    go (no n) =
        let same : h ≡ g = omega arith in
        rw (same, get_or-set_same line g (sets array 0 letters) [] (omega (arith, s.six))) new

-- the groups of the letters that are left: that of the piece in front behind its blank, then those of the rest
pub groups-from : (s x rest : Word) → s ≡ x ++ rest → length x ≡ min 10 (length s) → 0 < length s
    → groups (cut 10 s) ≡ (32 ∷ map lower x) ++ groups (cut 10 rest)
groups-from s x rest e few some =
    let p = cut-off 10 x rest (rw e at few) in
    groups-more s some ∙ rw (e, p.0, p.1)

-- none where no letter is left
pub no-groups : (s : Word) → length s ≡ 0 → groups (cut 10 s) ≡ []
unfolding groups
no-groups s e = rw (nil_from_length s e, cut-none 10) refl
