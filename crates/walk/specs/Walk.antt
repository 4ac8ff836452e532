-- What the contracts of src/ say of a walk, in terms of the store's bytes alone, and what the walk has found in a table. That it finds the longest palindrome is proved in proofs/.
-- b is the store, t the letters as they are read towards the call's side, k how many of them have been read, d the next letter and want its partner.
use Rattle.std.specs.Prelude.{ℕ, ◌+◌, ◌*◌, ◌-◌, ◌≤◌, ◌<◌, ◌≡◌, Bool, true, false, ◌&&◌, [], ◌∷◌, ◌++◌, leb, eqb, length, get_or, Option, Some, None}
use Rattle.palindromes.specs.Word.{Word}
use Rattle.palindromes.specs.Record.{longest_suffix}
use Rattle.palindromes.specs.End.{End}
use Rattle.palindromes.specs.Node.{Node, around}
use Rattle.store.specs.Layout.{cell, link_in, edge_in}
use Rattle.store.specs.Side.{pick}

-- the letter just before the palindrome of row r, which ends the first k letters, is `want`
abbrev pub faces_at : Word → Word → ℕ → ℕ → ℕ → Bool
faces_at b t k want r = leb (cell b r 0) k && eqb (get_or t (k - cell b r 0) 0) want

-- the letter that must stand before a palindrome for `want`, the partner of d, to be read there: at the left what is read is the partner of what stands, so that d itself must
abbrev pub facing : End → ℕ → ℕ → ℕ
facing e d want = pick e d want

-- the rows from r along the links lie within the store, their stored lengths fall, and the last is row 0
pub data Chain (b : Word) : ℕ → Type 0 where
  root : {r : ℕ} → r ≡ 0 → 24 ≤ length b → Chain b r
  further : {r : ℕ} → 24 * r + 24 ≤ length b → cell b (link_in b r) 0 < cell b r 0 → Chain b (link_in b r) → Chain b r

-- the first row from r along the links that faces the wanted letter, once n rows are passed that do not; row 0 faces the new letter itself
pub data Meets (b t : Word) (k d want : ℕ) : ℕ → ℕ → Option ℕ → Type 0 where
  letter : {r n : ℕ} {o : Option ℕ} → r ≡ 0 → want ≡ d → n ≡ 0 → o ≡ Some 0 → Meets b t k d want r n o
  nothing : {r n : ℕ} {o : Option ℕ} → r ≡ 0 → (want ≡ d → ⊥) → n ≡ 0 → o ≡ None → Meets b t k d want r n o
  here : {r n : ℕ} {o : Option ℕ} → (r ≡ 0 → ⊥) → faces_at b t k want r ≡ true → n ≡ 0 → o ≡ Some r → Meets b t k d want r n o
  onward : {r n m : ℕ} {o : Option ℕ} → (r ≡ 0 → ⊥) → faces_at b t k want r ≡ false → Meets b t k d want (link_in b r) m o → n ≡ m + 1 → Meets b t k d want r n o

-- the row q at the edge of the row that the walk meets, and row 1 where it meets none
pub data Stepped (b t : Word) (k d want start q : ℕ) : Type 0 where
  grown : (u n : ℕ) → Meets b t k d want start n (Some u) → q ≡ edge_in b u d → Stepped b t k d want start q
  ended : (n : ℕ) → Meets b t k d want start n None → q ≡ 1 → Stepped b t k d want start q

-- what the walk for the letter d in q has found: a used row, around which d makes the longest palindrome that ends q·d, or that none ends it but the empty word
abbrev pub Found : (ℕ → ℕ) → (ℕ → Bool) → (ℕ → Node) → Word → ℕ → Option ℕ → Type 0
Found σ used node q d (Some u) = (used u ≡ true) × (longest_suffix σ (q ++ (d ∷ [])) ≡ around σ d (node u))
Found σ used node q d None = longest_suffix σ (q ++ (d ∷ [])) ≡ []
