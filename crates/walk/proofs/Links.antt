-- The link of the row that a reading of the letters comes to: its palindrome is the longest that ends the row's without its first letter, and it stood before the last letter was read, so that its row was met
-- before. Rests on `link-stood` of palindromes.
use Prim.Native.Nat.{ℕ, ◌+◌, ◌≤◌, ◌<◌}
use native.Mathlib.Omega.{arith}
use mathlib.Core.Path.{◌≡◌, refl, ap, ◌∙◌, subst, subst₂}
use mathlib.Core.Bool.{true}
use mathlib.Core.List.{[], ◌∷◌}
use lib.ListN.{get_or, take}
use Rattle.palindromes.specs.Word.{Word}
use Rattle.palindromes.specs.Palindrome.{Symmetric}
use Rattle.palindromes.specs.Place.{Stands}
use Rattle.palindromes.specs.Record.{longest_suffix}
use Rattle.palindromes.specs.Node.{Node, spelt, link_of}
use Rattle.palindromes.proofs.Words.{suffix-stands}
use Rattle.palindromes.proofs.Longest.{longest-suffix}
use Rattle.palindromes.proofs.Growth.{link-stood}
use Rattle.eertree.proofs.Covers.{shows-covers}
use Rattle.eertree.proofs.Rows.{empty-row}
use Rattle.store.specs.Layout.{size_in, link_in, used_in, letters_in}
use Rattle.store.specs.Good.{rule_of, node_in, Good}
use Rattle.store.proofs.Sizes.{letters-length}
use Rattle.walk.specs.Replay.{ending_in, Holds}
use Rattle.walk.proofs.Reading.{read_more}

-- the word that ends the letters read, once there is one letter more than k, and the row of its link
pub record Linked (b : Word) (k row : ℕ) : Type 0 where
  pub first : ℕ
  pub rest : Word
  pub ends : ending_in b (k + 1) ≡ first ∷ rest
  pub symmetric : Symmetric (rule_of b) (first ∷ rest)
  pub used : used_in b (link_in b row) ≡ true
  pub holds : node_in b (link_in b row) ≡ spelt (longest_suffix (rule_of b) rest)
  pub stood : Stands (longest_suffix (rule_of b) rest) (take k (letters_in b))

-- the link of a word that is not empty
link-of-word : (σ : ℕ → ℕ) (x : ℕ) (t : Word) {n : Node} → n ≡ spelt (x ∷ t) → link_of σ n ≡ spelt (longest_suffix σ t)
unfolding link_of
link-of-word σ x t e = ap (link_of σ) e

pub linked : {b : Word} → Good b → {k row : ℕ} → k < size_in b → Holds b (k + 1) row → 2 ≤ row → Linked b k row
linked {b} g {k} {row} l h m = go (ending_in b (k + 1)) refl
  where
    go : (e : Word) → ending_in b (k + 1) ≡ e → Linked b k row
    go [] q = absurd (omega (arith, empty-row (shows-covers g.table) row h.used (h.holds ∙ ap spelt q)))
    go (x ∷ t) q =
        let v = longest-suffix (rule_of b) (take (k + 1) (letters_in b)) in
        let s = subst (Symmetric (rule_of b)) q v.symmetric in
        let p = (shows-covers g.table).link-is row h.used in
        let r = read_more (letters_in b) k (omega (arith, letters-length g.sized)) in
        record {
          first = x;
          rest = t;
          ends = q;
          symmetric = s;
          used = p.0;
          holds = p.1 ∙ link-of-word (rule_of b) x t (h.holds ∙ ap spelt q);
          stood = link-stood (rule_of b) (take k (letters_in b)) (get_or (letters_in b) k 0) s (subst₂ Stands q r (suffix-stands v.suffix));
        }
