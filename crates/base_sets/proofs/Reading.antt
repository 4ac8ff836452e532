-- A text read place by place: its sets in a buffer, and whether all of it are codes. Rests on the library's laws of `take` and `set`. Assumes nothing.
use Prim.Native.Nat.{ℕ, ◌+◌, ◌<◌, ◌≤◌}
use native.Mathlib.Omega.{arith}
use native.Mathlib.Numerals.{add-one}
use mathlib.Core.Path.{◌≡◌, refl, sym, ap, ◌∙◌}
use mathlib.Core.Bool.{true, false, not}
use mathlib.Core.List.{List, [], ◌∷◌, ◌++◌, map, map-append}
use lib.ListN.{length, get_or, take, set, length-set}
use lib.Seq.{take-suc, take-suc-set}
use borrow.Author.Tests.{eq-eqb, ne_eqb}
use Rattle.palindromes.specs.Word.{Word}
use Rattle.palindromes.proofs.Tests.{both_true, both-are, not-true-false, false-not-true}
use Rattle.ambiguity.specs.Code.{set_of, is_code, all_codes, is_certain, number_of_bases}
use Rattle.ambiguity.specs.Facing.{certain_set_of}
use Rattle.base_sets.specs.Sets.{certain_of}
use Rattle.ambiguity.proofs.Codes.{code-set}
use Rattle.ambiguity.proofs.Choices.{code_at}

-- ---- buffers

-- one place more
place_read : (f : ℕ → ℕ) (text buf : List ℕ) (i v : ℕ) → i < length text → length text ≤ length buf → v ≡ f (get_or text i 0)
    → take i buf ≡ map f (take i text) → take (i + 1) (set buf i v) ≡ map f (take (i + 1) text)
place_read f text buf i v l m e h =
    rw add-one
    (take-suc-set buf i v (omega arith) ∙ cc (h, e, map-append f (take i text) (get_or text i 0 ∷ [])) ∙ ap (map f) (sym (take-suc text i 0 l)))

-- ---- codes

is-code : (x m : ℕ) → m ≡ set_of x → (m ≡ 0 → ⊥) → is_code x ≡ true
is-code x m e n = code-set x ∙ ap not (ne_eqb (set_of x) 0 λ z. n (e ∙ z))

pub no_code : (x m : ℕ) → m ≡ set_of x → m ≡ 0 → is_code x ≡ false
no_code x m e z = code-set x ∙ ap not (eq-eqb (set_of x) 0 (sym e ∙ z))

-- one code more
codes-snoc : (s : Word) (x : ℕ) → all_codes s ≡ true → is_code x ≡ true → all_codes (s ++ (x ∷ [])) ≡ true
unfolding all_codes
codes-snoc [] x h k = both-are (is_code x) true k refl
codes-snoc (y ∷ s) x h k = let b = both_true (is_code y) (all_codes s) h in both-are (is_code y) (all_codes (s ++ (x ∷ []))) b.0 (codes-snoc s x b.1 k)

codes-read : (s : Word) (i : ℕ) → i < length s → all_codes (take i s) ≡ true → is_code (get_or s i 0) ≡ true → all_codes (take (i + 1) s) ≡ true
codes-read s i l h k = rw (add-one, take-suc s i 0) (codes-snoc (take i s) (get_or s i 0) h k)

-- a byte that is no code
pub not-codes : (s : Word) (i : ℕ) → i < length s → is_code (get_or s i 0) ≡ false → all_codes s ≡ false
not-codes s i l h = not-true-false (all_codes s) λ t. false-not-true h (code_at s i l t)

-- ---- certain sets

certain-is : (x m : ℕ) → m ≡ set_of x → certain_of m ≡ certain_set_of x
unfolding certain_set_of is_certain number_of_bases
certain-is x m e = ap certain_of e

-- ---- the loop

-- the first i places of the text are codes, and their sets stand in the buffers, which keep their lengths
pub record Read (text sets₀ certain₀ sets certain : List ℕ) (i : ℕ) : Type 0 where
  pub so_far : i ≤ length text
  pub sets-length : length sets ≡ length sets₀
  pub certain-length : length certain ≡ length certain₀
  pub sets-so-far : take i sets ≡ map set_of (take i text)
  pub certain-so-far : take i certain ≡ map certain_set_of (take i text)
  pub codes-so-far : all_codes (take i text) ≡ true

pub none_read : (text sets certain : List ℕ) → Read text sets certain sets certain 0
unfolding all_codes
none_read text sets certain =
    record { so_far = omega arith; sets-length = refl; certain-length = refl; sets-so-far = refl; certain-so-far = refl; codes-so-far = refl }

module _ (text sets₀ certain₀ sets certain : List ℕ) (i : ℕ) (r : Read text sets₀ certain₀ sets certain i) where
  pub more-read : (m v : ℕ) → i < length text → length text ≤ length sets₀ → length text ≤ length certain₀ → m ≡ set_of (get_or text i 0)
      → (m ≡ 0 → ⊥) → v ≡ certain_of m → Read text sets₀ certain₀ (set sets i m) (set certain i v) (i + 1)
  more-read m v l s t e n f =
      record {
        so_far = omega arith;
        sets-length = length-set sets i m ∙ r.sets-length;
        certain-length = length-set certain i v ∙ r.certain-length;
        sets-so-far = place_read set_of text sets i m l (omega (arith, r.sets-length)) e r.sets-so-far;
        certain-so-far =
            place_read certain_set_of text certain i v l (omega (arith, r.certain-length)) (f ∙ certain-is (get_or text i 0) m e) r.certain-so-far;
        codes-so-far = codes-read text i l r.codes-so-far (is-code (get_or text i 0) m e n);
      }
