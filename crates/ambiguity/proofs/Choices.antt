-- The choices of a text: the list of them has a word exactly if it is a choice; a choice is as long as its text and has at each place one of the bases
-- there; a choice of a text that is cut in two is cut likewise; a text of codes has a choice. Assumes nothing.
use Prim.Native.Nat.{ℕ, zero, suc, ◌<◌}
use native.Mathlib.Omega.{arith}
use mathlib.Core.Path.{◌≡◌, refl, sym, ap, ap₂, subst}
use mathlib.Core.Bool.{true, ◌&&◌}
use mathlib.Core.Logic.{◌⊎◌, inl, inr}
use mathlib.Core.List.Memᴰ
use mathlib.Core.List.{List, [], ◌∷◌, ◌++◌, map, flat_map, Memᴰ}
use lib.ListN.{length, get_or, set}
use Rattle.palindromes.specs.Word.{Word}
use Rattle.palindromes.proofs.Tests.{both_true}
use Rattle.ambiguity.specs.Code.{bases_of, is_code, all_codes}
use Rattle.ambiguity.specs.Choice.{BaseOf, Choice, none, at_place, choices}
use Rattle.ambiguity.proofs.Codes.{some-base}

-- ---- the list of all choices

-- what is in one of the joined lists, and the other way round
of-flat : {A : Type 0} {B : Type 0} (f : A → List B) (l : List A) {b : B} → Memᴰ b (flat_map f l)
    → (a : A) × Memᴰ a l × Memᴰ b (f a)
unfolding flat_map
of-flat f [] m = absurd (Memᴰ.not-nil m)
of-flat {A} f (x ∷ l) {b} m = go (of-flat f l) (Memᴰ.append_cases (f x) m)
  where
    go : (Memᴰ b (flat_map f l) → (a : A) × Memᴰ a l × Memᴰ b (f a)) → Memᴰ b (f x) ⊎ Memᴰ b (flat_map f l)
        → (a : A) × Memᴰ a (x ∷ l) × Memᴰ b (f a)
    go ih (inl n) = (x, Memᴰ.head refl, n)
    go ih (inr n) = let r = ih n in (r.0, Memᴰ.tail r.1, r.2)

in-flat : {A : Type 0} {B : Type 0} (f : A → List B) {a : A} {l : List A} {b : B} → Memᴰ a l → Memᴰ b (f a)
    → Memᴰ b (flat_map f l)
unfolding flat_map
in-flat f {b = b} (Memᴰ.head {x = x} {xs = l} e) n = Memᴰ.append_left (flat_map f l) (subst (λ y. Memᴰ b (f y)) e n)
in-flat f (Memᴰ.tail {x = x} m) n = Memᴰ.append_right (f x) (in-flat f m n)

-- a listed word is a choice
pub choices-true : (u s : Word) → Memᴰ u (choices s) → Choice u s
unfolding choices
choices-true u [] m = subst (λ (w : Word). Choice w []) (sym (Memᴰ.eq_of_singleton m)) none
choices-true u (x ∷ s) m =
    let r = of-flat (λ b. map (λ v. b ∷ v) (choices s)) (bases_of x) m in
    let b = r.0 in
    let v = Memᴰ.of_map (λ v. b ∷ v) (choices s) r.2 in
    subst (λ (w : Word). Choice w (x ∷ s)) v.2 (at_place r.1 (choices-true v.0 s v.1))

-- and a choice is listed
pub choices-is : {u s : Word} → Choice u s → Memᴰ u (choices s)
unfolding choices
choices-is none = Memᴰ.head refl
choices-is (at_place {b = b} {s = s} h c) = in-flat (λ d. map (λ v. d ∷ v) (choices s)) h (Memᴰ.map (λ v. b ∷ v) (choices-is c))

-- ---- place by place

pub choice-length : {u s : Word} → Choice u s → length u ≡ length s
choice-length none = refl
choice-length (at_place h c) = ap suc (choice-length c)

-- at each place a base of the code there
pub choice-base : {u s : Word} → Choice u s → (i : ℕ) → i < length s → BaseOf (get_or u i 0) (get_or s i 0)
choice-base none i l = absurd (omega arith)
choice-base (at_place h c) zero l = h
choice-base (at_place h c) (suc i) l = choice-base c i (omega arith)

pub base-choice : (u s : Word) → length u ≡ length s → ((i : ℕ) → i < length s → BaseOf (get_or u i 0) (get_or s i 0)) → Choice u s
base-choice [] [] e h = none
base-choice [] (x ∷ s) e h = absurd (omega arith)
base-choice (b ∷ u) [] e h = absurd (omega arith)
base-choice (b ∷ u) (x ∷ s) e h = at_place (h 0 (omega arith)) (base-choice u s (omega arith) λ i l. h (suc i) (omega arith))

-- a text of codes has a choice
pub some-choice : (s : Word) → all_codes s ≡ true → (u : Word) × Choice u s
unfolding all_codes
some-choice [] h = ([], none)
some-choice (x ∷ s) h =
    let k = both_true (is_code x) (all_codes s) h in
    let b = some-base x k.0 in
    let r = some-choice s k.1 in
    (b.0 ∷ r.0, at_place b.1 r.1)

-- another base may be chosen at any place, with no other place changed
pub choice-set : {u s : Word} → Choice u s → (i b : ℕ) → BaseOf b (get_or s i 0) → i < length s → Choice (set u i b) s
choice-set none i b h l = absurd (omega arith)
choice-set (at_place k c) zero b h l = at_place h c
choice-set (at_place k c) (suc i) b h l = at_place k (choice-set c i b h (omega arith))

-- ---- texts joined and cut

pub choice-append : {u s v t : Word} → Choice u s → Choice v t → Choice (u ++ v) (s ++ t)
choice-append none d = d
choice-append (at_place h c) d = at_place h (choice-append c d)

-- a choice that is cut cuts its text
pub choice-cut : (u v s : Word) → Choice (u ++ v) s → (w : Word) × (t : Word) × (s ≡ w ++ t) × Choice u w × Choice v t
choice-cut [] v s c = ([], s, refl, none, c)
choice-cut (b ∷ u) v s (at_place {x = x} {s = r} h c) =
    let k = choice-cut u v r c in
    (x ∷ k.0, k.1, ap (λ (l : Word). x ∷ l) k.2, at_place h k.3, k.4)

-- ---- texts of codes

pub code_at : (s : Word) (i : ℕ) → i < length s → all_codes s ≡ true → is_code (get_or s i 0) ≡ true
unfolding all_codes
code_at [] i l h = absurd (omega arith)
code_at (x ∷ s) zero l h = (both_true (is_code x) (all_codes s) h).0
code_at (x ∷ s) (suc i) l h = code_at s i (omega arith) (both_true (is_code x) (all_codes s) h).1

pub codes-cut : (u v : Word) → all_codes (u ++ v) ≡ true → (all_codes u ≡ true) × (all_codes v ≡ true)
unfolding all_codes
codes-cut [] v h = (refl, h)
codes-cut (x ∷ u) v h =
    let k = both_true (is_code x) (all_codes (u ++ v)) h in
    let r = codes-cut u v k.1 in
    (ap₂ ◌&&◌ k.0 r.0, r.1)
