-- How an end is known: before the first letter both are at the empty string's row (`left-start`, `right-start`), a letter at the right gives the right end by the rows of the longest
-- palindromes that end the letters with it and without it (`right-after`), and what is known stays known as further rows are met (`reaches_more`). Rests on the laws of an end's letter.
use Prim.Native.Nat.{ℕ}
use mathlib.Core.Path.{◌≡◌, sym}
use mathlib.Core.Bool.{Bool, true}
use mathlib.Core.List.{[], ◌∷◌, ◌++◌}
use Rattle.palindromes.specs.Word.{Word}
use Rattle.palindromes.specs.Place.{stands}
use Rattle.palindromes.specs.Record.{longest_suffix}
use Rattle.palindromes.specs.End.{End, at_left, at_right, added, longest_at}
use Rattle.palindromes.specs.Node.{spelt}
use Rattle.palindromes.proofs.Words.{removed-added, removed-empty}
use Rattle.palindromes.proofs.Longest.{longest-empty}
use Rattle.palindromes.proofs.Places.{stands-is, stands-empty}
use Rattle.store.specs.Good.{rule_of, node_in}
use Rattle.ends.specs.Reach.{Reaches}
use Rattle.ends.specs.declared.Reach.{Reach}

module _ {b : Word} {used : ℕ → Bool} where
  -- no palindrome is at an end of no letters
  start : (e : End) → used 1 ≡ true → node_in b 1 ≡ spelt [] → Reaches b used e [] (record { row = 1; short = 1; again = true })
  start e u h =
      let o = longest-empty (rule_of b) e in
      let r = removed-empty e in
      record {
        row-used = u;
        row-holds = cc;
        short-used = u;
        short-holds = cc;
        again-is = rw (o, r) (sym (stands-is [] [] (stands-empty [])));
      }

  pub left-start : used 1 ≡ true → node_in b 1 ≡ spelt [] → Reaches b used at_left [] (record { row = 1; short = 1; again = true })
  left-start = start at_left

  pub right-start : used 1 ≡ true → node_in b 1 ≡ spelt [] → Reaches b used at_right [] (record { row = 1; short = 1; again = true })
  right-start = start at_right

  -- row q holds the longest that ends p·d, and `row` the longest that ends p
  pub right-after : (p : Word) (d : ℕ) {q row : ℕ} {again : Bool}
      → used q ≡ true → node_in b q ≡ spelt (longest_suffix (rule_of b) (p ++ (d ∷ []))) → used row ≡ true → node_in b row ≡ spelt (longest_suffix (rule_of b) p)
      → again ≡ stands (longest_suffix (rule_of b) (p ++ (d ∷ []))) p
      → Reaches b used at_right (p ++ (d ∷ [])) (record { row = q; short = row; again = again })
  unfolding longest_at added
  right-after p d u h v k a =
      let r = removed-added at_right d p in
      record { row-used = u; row-holds = h; short-used = v; short-holds = rw r k; again-is = rw r a }

  -- the rows that are used may become more
  pub reaches_more : {used' : ℕ → Bool} {e : End} {s : Word} {x : Reach} → ((r : ℕ) → used r ≡ true → used' r ≡ true) → Reaches b used e s x → Reaches b used' e s x
  reaches_more {x} f h =
      record {
        row-used = f x.row h.row-used;
        row-holds = h.row-holds;
        short-used = f x.short h.short-used;
        short-holds = h.short-holds;
        again-is = h.again-is;
      }
