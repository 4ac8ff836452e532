-- DEFINITIONS. The layout of a store: a matrix of cells of two bytes each, low byte first, twelve to a row, then the letters, a byte each.
-- Rows are numbered from 0 to capacity + 1. Nothing here is proved.
use Rattle.std.specs.Prelude.{ℕ, ◌+◌, ◌*◌, ◌/◌, ◌%◌, Bool, cond, ◌&&◌, ◌||◌, eqb, ltb, get_or, set, take, drop, ℤ, pos}
use Rattle.std.proofs.Math.IntN.{pred_ℤ}
use Rattle.palindromes.specs.Word.{Word}
use Rattle.palindromes.specs.End.{End, at_left, at_right}

-- where cell f of row r begins
abbrev pub cell_at : ℕ → ℕ → ℕ
cell_at r f = 24 * r + 2 * f

-- the number in cell f of row r
unfoldable pub cell : Word → ℕ → ℕ → ℕ
cell b r f = get_or b (cell_at r f) 0 + 256 * get_or b (cell_at r f + 1) 0

-- the store with the number v, below 65,536, in cell f of row r
unfoldable pub set_cell : Word → ℕ → ℕ → ℕ → Word
set_cell b r f v = set (set b (cell_at r f) (v % 256)) (cell_at r f + 1) (v / 256 % 256)

-- ---- the header, in the last cells of rows 0 and 1

unfoldable pub capacity_in : Word → ℕ
capacity_in b = cell b 0 8

-- how many letters stand
unfoldable pub size_in : Word → ℕ
size_in b = cell b 0 9

-- how many repeats stand
unfoldable pub count_in : Word → ℕ
count_in b = cell b 0 10

-- how the record is read: 0 for a plain record, 1 for an inverted one
unfoldable pub reading_in : Word → ℕ
reading_in b = cell b 0 11

-- the largest length of a repeat, 0 where there is none
unfoldable pub longest_length_in : Word → ℕ
longest_length_in b = cell b 1 10

-- the cell of row 1 that holds the row of the longest repeat at an end
abbrev pub end_cell : End → ℕ
end_cell at_left = 8
end_cell at_right = 9

unfoldable pub end_row : Word → End → ℕ
end_row b e = cell b 1 (end_cell e)

-- ---- a row: its length plus one, its link, its inner row, its outer letter and its four edges

-- 01 "row lengths are signed": the stored number less one
unfoldable pub length_in : Word → ℕ → ℤ
length_in b r = pred_ℤ (pos (cell b r 0))

unfoldable pub link_in : Word → ℕ → ℕ
link_in b r = cell b r 1

unfoldable pub inner_in : Word → ℕ → ℕ
inner_in b r = cell b r 2

unfoldable pub outer_in : Word → ℕ → ℕ
outer_in b r = cell b r 3

-- the cell of a row that holds its edge by a letter: A, C, G and T in this order
unfoldable pub edge_cell : ℕ → ℕ
edge_cell c = cond (eqb c 65) 4 (cond (eqb c 67) 5 (cond (eqb c 71) 6 7))

unfoldable pub edge_in : Word → ℕ → ℕ → ℕ
edge_in b r c = cell b r (edge_cell c)

-- ---- free rows: a sparse set (Briggs and Torczon). `order` lists the rows from 2 on, those in use first, and `rank` is a row's place in it

unfoldable pub order_in : Word → ℕ → ℕ
order_in b i = cell b (i + 2) 8

unfoldable pub rank_in : Word → ℕ → ℕ
rank_in b r = cell b r 9

-- the row is a root, or one of the first `count` rows of the order
unfoldable pub used_in : Word → ℕ → Bool
used_in b r = ltb r 2 || (ltb r (capacity_in b + 2) && ltb (rank_in b r) (count_in b))

-- ---- how many repeats there are of each length

-- those of length k, from 1 on, are counted beside row k + 1
unfoldable pub length_count_in : Word → ℕ → ℕ
length_count_in b k = cell b (k + 1) 10

-- ---- the letters

-- where the letters of a store of this capacity begin
abbrev pub letters_at : ℕ → ℕ
letters_at capacity = 24 * (capacity + 2)

-- the letters that stand, from the left
unfoldable pub letters_in : Word → Word
letters_in b = take (size_in b) (drop (letters_at (capacity_in b)) b)
