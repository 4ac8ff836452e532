-- What contracts inside the library say of the choices that are kept with rows, so that none is missing where it is asked for. Rows are numbers:
-- `word` says what a row spells, `used` which rows there are, `link` leads from a row to its link, and `reach` is a row's length plus one. With a row
-- are kept `begins`, the place at which its palindrome began plus one, and `after`, the row after its series.
use Rattle.std.specs.Prelude.{ℕ, ◌+◌, ◌-◌, ◌≤◌, ◌<◌, ◌≡◌, Bool, true, cond, ◌&&◌, eqb, take}
use Rattle.palindromes.specs.Word.{Word}
use Rattle.series.specs.Series.{After, Leader}

-- the row to which a walk at the end i goes on from a row: the one kept with its link, if that was kept for the same beginning and the differences
-- are the same, and else its link
unfoldable pub next_row : (link reach begins after : ℕ → ℕ) → ℕ → ℕ → ℕ
next_row link reach begins after i row =
    cond
    (eqb (begins (link row)) (i + 1 - reach row + 1) && eqb (reach (link row)) (reach (link (link row)) + (reach row - reach (link row))))
    (after (link row))
    (link row)

-- row r's palindrome leads at the end i of the record s
abbrev pub LeadsAt : (ℕ → ℕ) → Word → (ℕ → Word) → ℕ → ℕ → Type 0
LeadsAt σ s word r i = Leader σ (word r) (take i s)

-- what is kept with row r was kept at the end j, and is of its whole series
pub record Remembers (σ : ℕ → ℕ) (word : ℕ → Word) (used : ℕ → Bool) (reach begins after : ℕ → ℕ) (r j : ℕ) : Type 0 where
  pub begin : begins r + reach r ≡ j + 2
  pub next-used : used (after r) ≡ true
  pub next : After σ (word r) (word (after r))

-- before the walk at the end i: what is kept with a row is of the last end at which it led
pub record Fresh (σ : ℕ → ℕ) (s : Word) (word : ℕ → Word) (used : ℕ → Bool) (reach begins after : ℕ → ℕ) (i : ℕ) : Type 0 where
  pub root : begins 1 ≡ 0
  pub each :
      (r j : ℕ) → used r ≡ true → 2 ≤ r → j < i → LeadsAt σ s word r j → ((k : ℕ) → j < k → k < i → LeadsAt σ s word r k → ⊥)
      → Remembers σ word used reach begins after r j

-- in the walk at the end i, at a row: the longer ones that lead have what they keep, and the others what they had
pub record Walked (σ : ℕ → ℕ) (s : Word) (word : ℕ → Word) (used : ℕ → Bool) (reach begins after : ℕ → ℕ) (i row : ℕ) : Type 0 where
  pub root : begins 1 ≡ 0
  pub row-used : used row ≡ true
  pub here : 2 ≤ row → LeadsAt σ s word row i
  pub before :
      (r j : ℕ) → used r ≡ true → 2 ≤ r → j < i → LeadsAt σ s word r j → ((k : ℕ) → j < k → k < i → LeadsAt σ s word r k → ⊥)
      → (LeadsAt σ s word r i → reach r ≤ reach row) → Remembers σ word used reach begins after r j
  pub done : (r : ℕ) → used r ≡ true → 2 ≤ r → LeadsAt σ s word r i → reach row < reach r → Remembers σ word used reach begins after r i
