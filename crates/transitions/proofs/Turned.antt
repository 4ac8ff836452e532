-- Letters that join a good store at an end one after the other (`Filled`), a record that is made of them from nothing (`Made`), and a change of the reading, which is such a record where the reading
-- is another: the store is good, and letters, capacity and the bytes that it does not use are those of before. Rests on `addition`, letter by letter, and on the laws of opening.
use Prim.Native.Nat.{ℕ, ◌+◌, ◌≤◌, ◌<◌}
use native.Mathlib.Omega.{arith}
use mathlib.Core.Path.{◌≡◌, refl, sym, ap, ◌∙◌, subst}
use mathlib.Core.Bool.{Bool, true, false, cond}
use mathlib.Core.List.{[], ◌∷◌, ◌++◌, append_assoc, append-nil}
use lib.Dec.{eqb}
use lib.ListN.{length, drop}
use borrow.Author.Tests.{eqb-true, eqb-false, eq-eqb, ne_eqb}
use Rattle.palindromes.specs.Word.{Word, is_letter, all_letters}
use Rattle.palindromes.specs.End.{End, at_right, added}
use Rattle.palindromes.specs.Refusal.{store_size}
use Rattle.palindromes.proofs.Tests.{both_true}
use Rattle.store.specs.Layout.{capacity_in, size_in, reading_in, letters_in}
use Rattle.store.specs.Good.{Good}
use Rattle.store.proofs.Sizes.{letters-length}
use Rattle.transitions.specs.Bytes.{Bytes}
use Rattle.transitions.specs.Opening.{used_bytes, opened}
use Rattle.transitions.specs.Addition.{after_addition}
use Rattle.transitions.specs.Turning.{after_additions, turned}
use Rattle.transitions.proofs.Opening.{opened-length, opened-capacity, opened-reading, opened-letters, opened-rest, opened-bytes, opened-good}
use Rattle.transitions.proofs.Added.{addition}

-- ---- letters at an end

module _ (e : End) where
  -- one letter more
  pub additions-more : (w : Word) (c : ℕ) (b : Word) → after_additions e (w ++ (c ∷ [])) b ≡ after_addition e c (after_additions e w b)
  unfolding after_additions
  additions-more [] c b = refl
  additions-more (x ∷ w) c b = additions-more w c (after_addition e x b)

  pub record Filled (w b : Word) : Type 0 where
    pub good : Good (after_additions e w b)
    pub length-same : length (after_additions e w b) ≡ length b
    pub rest-same : drop (used_bytes (capacity_in b)) (after_additions e w b) ≡ drop (used_bytes (capacity_in b)) b
    pub bytes : Bytes b → Bytes (after_additions e w b)
    pub capacity : capacity_in (after_additions e w b) ≡ capacity_in b
    pub reading : reading_in (after_additions e w b) ≡ reading_in b
    pub size : size_in (after_additions e w b) ≡ size_in b + length w

  -- a good store stays good where there is room for the letters
  pub additions : (w : Word) {b : Word} → Good b → all_letters w ≡ true → size_in b + length w ≤ capacity_in b → Filled w b
  unfolding after_additions all_letters
  additions [] g all room = record { good = g; length-same = refl; rest-same = refl; bytes = λ h. h; capacity = refl; reading = refl; size = omega arith }
  additions (c ∷ w) {b} g all room =
      let valid = both_true (is_letter c) (all_letters w) all in
      let a = addition e g valid.0 (omega arith) in
      let f = additions w a.good valid.1 (omega (arith, a.capacity, a.size)) in
      record {
        good = f.good;
        length-same = f.length-same ∙ a.length-same;
        rest-same = subst (λ (k : ℕ). drop (used_bytes k) (after_additions e w (after_addition e c b)) ≡ drop (used_bytes k) (after_addition e c b)) a.capacity f.rest-same ∙ a.rest-same;
        bytes = λ h. f.bytes (a.bytes h);
        capacity = f.capacity ∙ a.capacity;
        reading = f.reading ∙ a.reading;
        size = omega (arith, f.size, a.size);
      }

-- at the right they follow those that stood, in order
letters-right : (w : Word) {b : Word} → Good b → all_letters w ≡ true → size_in b + length w ≤ capacity_in b → letters_in (after_additions at_right w b) ≡ letters_in b ++ w
unfolding after_additions all_letters added
letters-right [] {b} g all room = sym (append-nil (letters_in b))
letters-right (c ∷ w) {b} g all room =
    let valid = both_true (is_letter c) (all_letters w) all in
    let a = addition at_right g valid.0 (omega arith) in
    letters-right w a.good valid.1 (omega (arith, a.capacity, a.size)) ∙ ap (λ (s : Word). s ++ w) a.letters ∙ append_assoc (letters_in b) (c ∷ []) w

-- ---- a record made anew

-- the store b' has the reading n, the capacity k and the letters w, and what lies behind the bytes that it uses is that of b
pub record Made (n k : ℕ) (w b b' : Word) : Type 0 where
  pub good : Good b'
  pub length-same : length b' ≡ length b
  pub rest-same : drop (used_bytes k) b' ≡ drop (used_bytes k) b
  pub bytes : Bytes b → Bytes b'
  pub capacity : capacity_in b' ≡ k
  pub reading : reading_in b' ≡ n
  pub letters : letters_in b' ≡ w

module _ (n k : ℕ) (b : Word) (below : n < 2) (low : 1 ≤ k) (high : k ≤ 1024) (long : store_size k ≤ length b) where
  -- an empty record is good, and has room for as many letters as its capacity
  pub can-take : (w : Word) → length w ≤ k → Good (opened n k b) × (size_in (opened n k b) + length w ≤ capacity_in (opened n k b))
  can-take w few =
      let g = opened-good n k b below high long low in
      (g, omega (arith, letters-length g.sized, ap length (opened-letters n k b below high long), opened-capacity n k b below high long))

  -- a store that is opened, whatever it held, and takes these letters
  pub made : (w : Word) → all_letters w ≡ true → length w ≤ k → Made n k w b (after_additions at_right w (opened n k b))
  made w all few =
      let c = opened-capacity n k b below high long in
      let h = can-take w few in
      let f = additions at_right w h.0 all h.1 in
      record {
        good = f.good;
        length-same = f.length-same ∙ opened-length n k b;
        rest-same = subst (λ (j : ℕ). drop (used_bytes j) (after_additions at_right w (opened n k b)) ≡ drop (used_bytes j) (opened n k b)) c f.rest-same ∙ opened-rest n k b below high long;
        bytes = λ h. f.bytes (opened-bytes n k b h);
        capacity = f.capacity ∙ c;
        reading = f.reading ∙ opened-reading n k b below high long;
        letters = letters-right w h.0 all h.1 ∙ ap (λ (s : Word). s ++ w) (opened-letters n k b below high long);
      }

-- ---- the reading

-- the reading in force: nothing changes
pub turned_same : (n : ℕ) (b : Word) → reading_in b ≡ n → turned n b ≡ b
unfolding turned
turned_same n b e = ap (λ (t : Bool). cond t b (after_additions at_right (letters_in b) (opened n (capacity_in b) b))) (eq-eqb (reading_in b) n e)

-- the other one: the letters join an empty record of the same capacity
pub turned-other : (n : ℕ) (b : Word) → (reading_in b ≡ n → ⊥) → turned n b ≡ after_additions at_right (letters_in b) (opened n (capacity_in b) b)
unfolding turned
turned-other n b h = ap (λ (t : Bool). cond t b (after_additions at_right (letters_in b) (opened n (capacity_in b) b))) (ne_eqb (reading_in b) n h)

-- no more letters stand than there is room for
pub letters-few : {b : Word} → Good b → length (letters_in b) ≤ capacity_in b
letters-few g = omega (arith, letters-length g.sized, g.sized.letters-fit)

-- a good store that is turned to a reading is good, and has that reading and the letters and the capacity of before
pub turning : (n : ℕ) {b : Word} → n < 2 → Good b → Made n (capacity_in b) (letters_in b) b (turned n b)
turning n {b} below g = go (eqb (reading_in b) n) refl
  where
    Now : Word → Type 0
    Now b' = Made n (capacity_in b) (letters_in b) b b'

    go : (t : Bool) → eqb (reading_in b) n ≡ t → Now (turned n b)
    go true e =
        let same = eqb-true (reading_in b) n e in
        subst Now (sym (turned_same n b same)) (record { good = g; length-same = refl; rest-same = refl; bytes = λ h. h; capacity = refl; reading = same; letters = refl })
    go false e =
        let s = g.sized in
        subst Now (sym (turned-other n b (eqb-false (reading_in b) n e)))
        (made n (capacity_in b) b below s.at_least_one s.at_most s.long-enough (letters_in b) g.letters (letters-few g))
