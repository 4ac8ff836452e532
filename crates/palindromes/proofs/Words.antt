-- Cuts of words: two cuts of one word (Levi's lemma), words by their last letter, the order laws of `Suffix`, `Prefix` and `Stands`, and what an addition
-- and a removal at an end do to each other.
-- Rests on the library's laws of `◌++◌` and `length`, and on the test of equal words in `Tests`; nothing here knows of palindromes.
use Prim.Native.Nat.{ℕ, suc, ◌+◌, ◌≤◌, ◌<◌}
use native.Mathlib.Omega.{arith}
use mathlib.Core.Path.{◌≡◌, refl, sym, ap, ◌∙◌}
use mathlib.Core.Logic.{◌⊎◌, inl, inr, ⊎_elim}
use mathlib.Core.List.{[], ◌∷◌, ◌++◌, append_assoc, append-nil, head-eq_of_cons-eq, tail-eq_of_cons-eq, cons-ne-nil}
use lib.ListN.{length, length-append}
use Rattle.palindromes.specs.Word.{Word, same_word}
use Rattle.palindromes.specs.Place.{Suffix, Prefix, Stands}
use Rattle.palindromes.specs.End.{End, at_left, at_right, added, removed, without_first, without_last, letter_at}
use Rattle.palindromes.proofs.Tests.{decided, false-not-true, same_true, same-is}

-- ---- two cuts of one word

-- Levi's lemma: where a word is cut twice, the piece between the cuts ends the longer beginning and begins the longer end
pub levi : (a b c d : Word) → length a ≤ length c → a ++ b ≡ c ++ d → (m : Word) × (c ≡ a ++ m) × (b ≡ m ++ d)
levi [] b c d h e = (c, refl, e)
levi (x ∷ a) b [] d h e = absurd (omega arith)
levi (x ∷ a) b (y ∷ c) d h e =
    let r = levi a b c d (omega arith) (tail-eq_of_cons-eq e) in
    (r.0, cc (head-eq_of_cons-eq e, r.1), r.2)

-- ---- the last letter

-- the word of no length, and a word of some
pub no-letters : (w : Word) → length w ≤ 0 → w ≡ []
no-letters [] h = refl
no-letters (x ∷ w) h = absurd (omega arith)

pub some-letters : (w : Word) → (w ≡ [] → ⊥) → 0 < length w
some-letters [] n = absurd (n refl)
some-letters (x ∷ w) n = omega arith

-- words that end with a letter are equal letter by letter from the right too
pub snoc-injective : (u v : Word) (x y : ℕ) → u ++ (x ∷ []) ≡ v ++ (y ∷ []) → (u ≡ v) × (x ≡ y)
snoc-injective [] [] x y e = (refl, head-eq_of_cons-eq e)
snoc-injective [] (b ∷ []) x y e = absurd (cons-ne-nil y [] (sym (tail-eq_of_cons-eq e)))
snoc-injective [] (b ∷ d ∷ v) x y e = absurd (cons-ne-nil d (v ++ (y ∷ [])) (sym (tail-eq_of_cons-eq e)))
snoc-injective (a ∷ []) [] x y e = absurd (cons-ne-nil x [] (tail-eq_of_cons-eq e))
snoc-injective (a ∷ d ∷ u) [] x y e = absurd (cons-ne-nil d (u ++ (x ∷ [])) (tail-eq_of_cons-eq e))
snoc-injective (a ∷ u) (b ∷ v) x y e =
    let r = snoc-injective u v x y (tail-eq_of_cons-eq e) in
    (cc (head-eq_of_cons-eq e, r.0), r.1)

-- every word is empty or ends with a letter
pub by_last : (s : Word) → (s ≡ []) ⊎ ((u : Word) × (c : ℕ) × (s ≡ u ++ (c ∷ [])))
by_last [] = inl refl
by_last (x ∷ s) = ⊎_elim (λ e. inr ([], x, cc)) (λ r. inr (x ∷ r.0, r.1, cc r.2)) (by_last s)

-- what holds of the empty word and is kept by one letter more at the right end holds of every word
pub snoc-induction : (P : Word → Type 0) → P [] → ((s : Word) (c : ℕ) → P s → P (s ++ (c ∷ []))) → (s : Word) → P s
snoc-induction P base step s = after [] s base
  where
    after : (t s : Word) → P t → P (t ++ s)
    after t [] h = rw append-nil h
    after t (x ∷ s) h = rw append_assoc at (after (t ++ (x ∷ [])) s (step t x h))

-- ---- what ends a word

-- to end a word is an order, and goes with the length
pub suffix_refl : {s : Word} → Suffix s s
suffix_refl = record { before = []; whole = refl }

pub suffix-empty : (s : Word) → Suffix [] s
suffix-empty s = record { before = s; whole = append-nil s }

-- what follows a piece ends the whole
pub suffix-append : (b p : Word) → Suffix p (b ++ p)
suffix-append b p = record { before = b; whole = refl }

pub suffix_trans : {a b c : Word} → Suffix a b → Suffix b c → Suffix a c
suffix_trans {a} p q = record { before = q.before ++ p.before; whole = cc (append_assoc q.before p.before a) }

pub suffix-length : {a b : Word} → Suffix a b → length a ≤ length b
suffix-length p = omega (arith, simp length-append at (ap length p.whole))

-- a suffix that is not shorter is the whole word
pub suffix-full : {a b : Word} → Suffix a b → length b ≤ length a → a ≡ b
suffix-full p h = cc (no-letters p.before (omega (arith, simp length-append at (ap length p.whole))))

pub suffix-antisym : {a b : Word} → Suffix a b → Suffix b a → a ≡ b
suffix-antisym p q = suffix-full p (suffix-length q)

-- of two suffixes of one word the shorter is a suffix of the longer
pub suffix-shorter : {p q s : Word} → Suffix p s → Suffix q s → length p ≤ length q → Suffix p q
suffix-shorter {p} {q} a b h =
    let e : b.before ++ q ≡ a.before ++ p = cc in
    let r = levi b.before q a.before p (omega (arith, simp length-append at (ap length e))) e in
    record { before = r.0; whole = sym r.2 }

-- one letter more at the left
pub suffix-cons : {w s : Word} (x : ℕ) → Suffix w s → Suffix w (x ∷ s)
suffix-cons x p = record { before = x ∷ p.before; whole = cc }

-- a suffix is the whole word or a suffix of its tail
pub suffix-of-cons : {w s : Word} (x : ℕ) → Suffix w (x ∷ s) → (w ≡ x ∷ s) ⊎ Suffix w s
suffix-of-cons {w} {s} x p = go p.before p.whole
  where
    go : (b : Word) → b ++ w ≡ x ∷ s → (w ≡ x ∷ s) ⊎ Suffix w s
    go [] e = inl e
    go (y ∷ b) e = inr (record { before = b; whole = tail-eq_of_cons-eq e })

pub suffix-of-empty : {w : Word} → Suffix w [] → w ≡ []
suffix-of-empty p = suffix-antisym p (suffix-empty _)

-- one letter more at the right, to both
pub suffix-snoc : {u s : Word} (c : ℕ) → Suffix u s → Suffix (u ++ (c ∷ [])) (s ++ (c ∷ []))
suffix-snoc {u} {s} c p = record { before = p.before; whole = cc (append_assoc p.before u (c ∷ [])) }

-- the last letter of both may go
pub suffix-snoc-back : {u s : Word} (c d : ℕ) → Suffix (u ++ (c ∷ [])) (s ++ (d ∷ [])) → Suffix u s × (c ≡ d)
suffix-snoc-back {u} {s} c d p =
    let f : p.before ++ u ++ (c ∷ []) ≡ s ++ (d ∷ []) = cc (append_assoc p.before u (c ∷ [])) in
    let i = snoc-injective (p.before ++ u) s c d f in
    (record { before = p.before; whole = i.0 }, i.1)

-- what ends a word with one letter more is empty, or ends with that letter and ends the word without it
pub suffix-of-snoc : {w : Word} (s : Word) (c : ℕ) → Suffix w (s ++ (c ∷ [])) → (w ≡ []) ⊎ ((u : Word) × (w ≡ u ++ (c ∷ [])) × Suffix u s)
suffix-of-snoc {w} s c p = ⊎_elim inl (λ r. inr (ends r.0 r.1 r.2)) (by_last w)
  where
    ends : (u : Word) (d : ℕ) → w ≡ u ++ (d ∷ []) → (u : Word) × (w ≡ u ++ (c ∷ [])) × Suffix u s
    ends u d e =
        let r : Suffix u s × (d ≡ c) = suffix-snoc-back d c (rw e at p) in
        (u, cc r.1, r.0)

-- ---- what begins a word

pub prefix-append : (p a : Word) → Prefix p (p ++ a)
prefix-append p a = record { after = a; whole = refl }

pub prefix_trans : {a b c : Word} → Prefix a b → Prefix b c → Prefix a c
prefix_trans {a} p q = record { after = p.after ++ q.after; whole = cc (append_assoc a p.after q.after) }

-- of two prefixes of one word the shorter is a prefix of the longer
pub prefix-shorter : {p q s : Word} → Prefix p s → Prefix q s → length p ≤ length q → Prefix p q
prefix-shorter {p} {q} a b h =
    let r = levi p a.after q b.after h (cc) in
    record { after = r.0; whole = sym r.1 }

-- what begins a word with one letter more is all of it, or begins the word without it
pub prefix-of-snoc : {w : Word} (s : Word) (c : ℕ) → Prefix w (s ++ (c ∷ [])) → (w ≡ s ++ (c ∷ [])) ⊎ Prefix w s
prefix-of-snoc {w} s c p = ⊎_elim (λ e. inl (cc (e, append-nil w))) (λ r. inr (ends r.0 r.1 r.2)) (by_last p.after)
  where
    ends : (u : Word) (d : ℕ) → p.after ≡ u ++ (d ∷ []) → Prefix w s
    ends u d e =
        let f : w ++ u ++ (d ∷ []) ≡ s ++ (c ∷ []) = cc (append_assoc w u (d ∷ []), e) in
        record { after = u; whole = (snoc-injective (w ++ u) s d c f).0 }

-- ---- what stands in a word

-- and so is to stand in a word
pub stands-refl : {s : Word} → Stands s s
stands-refl {s} = record { before = []; after = []; whole = append-nil s }

-- what stands in a piece stands in the word, where both are cut
pub stands-within : {a b c : Word} (p : Stands a b) (q : Stands b c) → (r : Stands a c) × (r.before ≡ q.before ++ p.before)
stands-within {a} {b} {c} p q =
    let e : q.before ++ (p.before ++ a ++ p.after) ++ q.after ≡ c = cc in
    (record { before = q.before ++ p.before; after = p.after ++ q.after; whole = simp append_assoc (simp append_assoc at e) }, refl)

pub stands-trans : {a b c : Word} → Stands a b → Stands b c → Stands a c
stands-trans p q = (stands-within p q).0

-- and a piece that is cut within another stands in that one
pub cut-within : {w v s : Word} (c : Stands w s) (d : Stands v s) → length d.before ≤ length c.before
    → length c.before + length w ≤ length d.before + length v → Stands w v
cut-within {w} {v} {s} c d l r =
    let m = levi d.before (v ++ d.after) c.before (w ++ c.after) l same in
    let f : (m.0 ++ w) ++ c.after ≡ v ++ d.after = cc (m.2, append_assoc m.0 w c.after) in
    let n = levi (m.0 ++ w) c.after v d.after (simp length-append (omega (arith, simp length-append at (ap length m.1)))) f in
    record { before = m.0; after = n.0; whole = cc n.1 }
  where
    same : d.before ++ (v ++ d.after) ≡ c.before ++ (w ++ c.after)
    same = cc (append_assoc d.before v d.after, append_assoc c.before w c.after, c.whole, d.whole)

pub stands-length : {a b : Word} → Stands a b → length a ≤ length b
stands-length p = omega (arith, simp length-append at (ap length p.whole))

-- what ends a word or begins it stands in it
pub suffix-stands : {p s : Word} → Suffix p s → Stands p s
suffix-stands {s} p = record { before = p.before; after = []; whole = append-nil _ ∙ p.whole }

pub prefix-stands : {p s : Word} → Prefix p s → Stands p s
prefix-stands p = record { before = []; after = p.after; whole = p.whole }

-- what stands in a word stands in it with one letter more, at either end
pub stands-snoc : {w s : Word} (c : ℕ) → Stands w s → Stands w (s ++ (c ∷ []))
stands-snoc {s} c p = stands-trans p (prefix-stands (prefix-append s (c ∷ [])))

pub stands-cons : {w s : Word} (c : ℕ) → Stands w s → Stands w (c ∷ s)
stands-cons {s} c p = stands-trans p (suffix-stands (suffix-append (c ∷ []) s))

-- what stands in a word with one letter more stood in it before, or ends it now
pub stands-of-snoc : {w : Word} (s : Word) (c : ℕ) → Stands w (s ++ (c ∷ [])) → Stands w s ⊎ Suffix w (s ++ (c ∷ []))
stands-of-snoc {w} s c p =
    ⊎_elim
    (λ e. inr (record { before = p.before; whole = e }))
    (λ q. inl (record { before = p.before; after = q.after; whole = q.whole }))
    (prefix-of-snoc s c (record { after = p.after; whole = p.whole }))

pub stands-of-empty : {w : Word} → Stands w [] → w ≡ []
stands-of-empty p = no-letters _ (stands-length p)

-- ---- it can be told

-- what has two ways to hold can be told if each of them can
either-or-not : {A B C : Type 0} → A ⊎ (A → ⊥) → B ⊎ (B → ⊥) → (A → C) → (B → C) → (C → A ⊎ B) → C ⊎ (C → ⊥)
either-or-not (inl a) b f g h = inl (f a)
either-or-not (inr m) (inl b) f g h = inl (g b)
either-or-not (inr m) (inr n) f g h = inr (λ c. ⊎_elim m n (h c))

-- whether two words are equal
pub same_or_not : (u v : Word) → (u ≡ v) ⊎ (u ≡ v → ⊥)
same_or_not u v = ⊎_elim (λ e. inl (same_true u v e)) (λ n. inr (λ e. false-not-true n (same-is e))) (decided (same_word u v))

-- whether a word ends another
pub suffix-or-not : (w s : Word) → Suffix w s ⊎ (Suffix w s → ⊥)
suffix-or-not w [] = ⊎_elim (λ e. inl (rw e suffix_refl)) (λ n. inr (λ p. n (suffix-of-empty p))) (same_or_not w [])
suffix-or-not w (x ∷ s) = either-or-not (same_or_not w (x ∷ s)) (suffix-or-not w s) (λ e. rw e suffix_refl) (suffix-cons x) (suffix-of-cons x)

-- whether a word stands in another
pub stands-or-not : (w s : Word) → Stands w s ⊎ (Stands w s → ⊥)
stands-or-not w = snoc-induction (λ s. Stands w s ⊎ (Stands w s → ⊥)) base step
  where
    base : Stands w [] ⊎ (Stands w [] → ⊥)
    base = ⊎_elim (λ e. inl (rw e stands-refl)) (λ n. inr (λ p. n (stands-of-empty p))) (same_or_not w [])

    step : (s : Word) (c : ℕ) → Stands w s ⊎ (Stands w s → ⊥) → Stands w (s ++ (c ∷ [])) ⊎ (Stands w (s ++ (c ∷ [])) → ⊥)
    step s c h = either-or-not h (suffix-or-not w (s ++ (c ∷ []))) (stands-snoc c) suffix-stands (stands-of-snoc s c)

-- ---- the two ends

-- every word is empty or was made by an addition at the end named
pub by_end : (e : End) (s : Word) → (s ≡ []) ⊎ ((u : Word) × (c : ℕ) × (s ≡ added e c u))
unfolding added
by_end at_left [] = inl refl
by_end at_left (x ∷ s) = inr (s, x, refl)
by_end at_right s = by_last s

-- a removal undoes an addition at the same end
pub removed-added : (e : End) (c : ℕ) (s : Word) → removed e (added e c s) ≡ s
unfolding added removed without_first without_last
removed-added at_left c s = refl
removed-added at_right c [] = refl
removed-added at_right c (x ∷ []) = refl
removed-added at_right c (x ∷ y ∷ s) = ap {B = Word} (λ u. x ∷ u) (removed-added at_right c (y ∷ s))

-- from the empty word nothing is removed
pub removed-empty : (e : End) → removed e [] ≡ []
unfolding removed without_first without_last
removed-empty at_left = refl
removed-empty at_right = refl

-- the letter at an end is the one that was added there last
pub letter-added : (e : End) (c : ℕ) (s : Word) → letter_at e (added e c s) ≡ c
unfolding added letter_at
letter-added at_left c s = refl
letter-added at_right c [] = refl
letter-added at_right c (x ∷ []) = refl
letter-added at_right c (x ∷ y ∷ s) = letter-added at_right c (y ∷ s)

pub added-length : (e : End) (c : ℕ) (s : Word) → length (added e c s) ≡ suc (length s)
unfolding added
added-length at_left c s = refl
added-length at_right c s = simp length-append (omega arith)

pub added-not-empty : (e : End) (c : ℕ) (s : Word) → added e c s ≡ [] → ⊥
added-not-empty e c s h = omega (arith, added-length e c s, ap length h)

-- a non-empty word is its letter at the end, added to the rest
pub added-removed : (e : End) (s : Word) → (s ≡ [] → ⊥) → added e (letter_at e s) (removed e s) ≡ s
added-removed e s h =
    ⊎_elim (λ n. absurd (h n)) (λ r. cc (r.2, removed-added e r.1 r.0, letter-added e r.1 r.0)) (by_end e s)
