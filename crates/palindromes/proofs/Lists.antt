-- Lists of words: what is a member of a joined list, of a sifted one and of one in which each word is kept once; that `distinct` has no word twice;
-- and that a list without repetition is no longer than one that has all of its members. Rests on the tests of proofs/Tests.antt only.
use Prim.Native.Nat.{suc, ◌+◌, ◌≤◌, ◌<◌}
use native.Mathlib.Omega.{arith}
use mathlib.Core.Path.{◌≡◌, refl, sym, ap, ◌∙◌, subst}
use mathlib.Core.Bool.{Bool, true, false, not, cond, ◌&&◌, ◌||◌, and-false, and-true}
use mathlib.Core.Logic.{◌⊎◌, inl, inr, ⊎_elim}
use mathlib.Core.List.Memᴰ
use mathlib.Core.List.{List, [], ◌∷◌, ◌++◌, Memᴰ}
use lib.ListN.{length}
use Rattle.palindromes.specs.Word.{Word, same_word, member, keep, distinct}
use Rattle.palindromes.proofs.Tests.{both-are, not-true-false, false-not-true, same_true, same_refl}

-- ---- truth values

-- one of the two halves of a disjunction
pub either_true : (a b : Bool) → (a || b) ≡ true → (a ≡ true) ⊎ (b ≡ true)
either_true true b e = inl refl
either_true false b e = inr e

-- and a disjunction from either half
pub left_is : (a b : Bool) → a ≡ true → (a || b) ≡ true
left_is a b e = ap (λ (t : Bool). t || b) e

pub right_is : (a b : Bool) → b ≡ true → (a || b) ≡ true
right_is true b e = refl
right_is false b e = e

-- two tests that pass together are equal
pub same_test : (a b : Bool) → (a ≡ true → b ≡ true) → (b ≡ true → a ≡ true) → a ≡ b
same_test true b f g = sym (f refl)
same_test false b f g = sym (not-true-false b λ e. false-not-true refl (g e))

-- ---- members

-- no word is a member of the empty list
pub not-in-nil : (w : Word) → member w [] ≡ false
unfolding member
not-in-nil w = refl

-- a member of a list is its first word or a member of the rest
pub member-cons : (w v : Word) (l : List Word) → member w (v ∷ l) ≡ (same_word w v || member w l)
unfolding member
member-cons w v l = refl

-- the same word by word: into the list, and out of it
pub member-first : (w : Word) (l : List Word) → member w (w ∷ l) ≡ true
unfolding member
member-first w l = ap (λ (b : Bool). b || member w l) (same_refl w)

pub member-later : (w v : Word) (l : List Word) → member w l ≡ true → member w (v ∷ l) ≡ true
unfolding member
member-later w v l e = right_is (same_word w v) (member w l) e

pub first-or-later : (w v : Word) (l : List Word) → member w (v ∷ l) ≡ true → (w ≡ v) ⊎ (member w l ≡ true)
unfolding member
first-or-later w v l e = go (either_true (same_word w v) (member w l) e)
  where
    go : (same_word w v ≡ true) ⊎ (member w l ≡ true) → (w ≡ v) ⊎ (member w l ≡ true)
    go (inl h) = inl (same_true w v h)
    go (inr h) = inr h

-- a word is in two joined lists exactly if it is in one of them
pub member-append : (w : Word) (a b : List Word) → member w (a ++ b) ≡ (member w a || member w b)
unfolding member
member-append w [] b = refl
member-append w (v ∷ a) b = go (same_word w v) (member-append w a b)
  where
    go : (t : Bool) → member w (a ++ b) ≡ (member w a || member w b) → (t || member w (a ++ b)) ≡ (t || member w a || member w b)
    go true e = refl
    go false e = e

-- `member` is the library's membership in a list
pub member-true : (w : Word) (l : List Word) → member w l ≡ true → Memᴰ w l
member-true w [] m = absurd (false-not-true (not-in-nil w) m)
member-true w (v ∷ l) m = go (member-true w l) (first-or-later w v l m)
  where
    go : (member w l ≡ true → Memᴰ w l) → (w ≡ v) ⊎ (member w l ≡ true) → Memᴰ w (v ∷ l)
    go ih (inl e) = Memᴰ.head e
    go ih (inr m) = Memᴰ.tail (ih m)

pub member_is : {w : Word} {l : List Word} → Memᴰ w l → member w l ≡ true
member_is {w} (Memᴰ.head {xs = l} e) = rw e (member-first _ l)
member_is {w} (Memᴰ.tail {x = v} {xs = l} m) = member-later w v l (member_is m)

-- a list with a member is not empty
pub in-length : {A : Type 0} {a : A} {l : List A} → Memᴰ a l → 0 < length l
in-length (Memᴰ.head e) = omega arith
in-length (Memᴰ.tail m) = omega arith

pub member-length : (w : Word) (l : List Word) → member w l ≡ true → 0 < length l
member-length w l m = in-length (member-true w l m)

-- ---- sifting

-- one by one, in lists of any kind
pub keep-nil : {A : Type 0} (p : A → Bool) → keep p [] ≡ []
unfolding keep
keep-nil p = refl

pub keep-pass : {A : Type 0} (p : A → Bool) (w : A) (l : List A) → p w ≡ true → keep p (w ∷ l) ≡ w ∷ keep p l
unfolding keep
keep-pass p w l e = ap (λ (b : Bool). cond b (w ∷ keep p l) (keep p l)) e

pub keep-skip : {A : Type 0} (p : A → Bool) (w : A) (l : List A) → p w ≡ false → keep p (w ∷ l) ≡ keep p l
unfolding keep
keep-skip p w l e = ap (λ (b : Bool). cond b (w ∷ keep p l) (keep p l)) e

-- what is kept is in the list and passes the test, and the other way round
pub of-keep : {A : Type 0} (p : A → Bool) (l : List A) {x : A} → Memᴰ x (keep p l) → Memᴰ x l × (p x ≡ true)
of-keep p [] m = absurd (Memᴰ.not-nil (rw (keep-nil p) at m))
of-keep {A} p (w ∷ l) {x} m = go (of-keep p l) (p w) refl m
  where
    go : (Memᴰ x (keep p l) → Memᴰ x l × (p x ≡ true)) → (t : Bool) → p w ≡ t → Memᴰ x (keep p (w ∷ l))
        → Memᴰ x (w ∷ l) × (p x ≡ true)
    go ih true e m =
        ⊎_elim (λ i. (Memᴰ.head i, rw i e)) (λ i. (Memᴰ.tail (ih i).0, (ih i).1)) (Memᴰ.cases_cons (rw (keep-pass p w l e) at m))
    go ih false e m = let i = ih (rw (keep-skip p w l e) at m) in (Memᴰ.tail i.0, i.1)

pub in-keep : {A : Type 0} (p : A → Bool) (l : List A) {x : A} → Memᴰ x l → p x ≡ true → Memᴰ x (keep p l)
in-keep p [] m h = absurd (Memᴰ.not-nil m)
in-keep {A} p (w ∷ l) {x} m h = go (λ i. in-keep p l i h) (p w) refl (Memᴰ.cases_cons m)
  where
    go : (Memᴰ x l → Memᴰ x (keep p l)) → (t : Bool) → p w ≡ t → (x ≡ w) ⊎ Memᴰ x l → Memᴰ x (keep p (w ∷ l))
    go ih true e (inl i) = rw (keep-pass p w l e) (Memᴰ.head i)
    go ih true e (inr i) = rw (keep-pass p w l e) (Memᴰ.tail (ih i))
    go ih false e (inl i) = absurd (false-not-true e (rw i at h))
    go ih false e (inr i) = rw (keep-skip p w l e) (ih i)

-- sifting goes through a join
pub keep_append : (p : Word → Bool) (a b : List Word) → keep p (a ++ b) ≡ keep p a ++ keep p b
unfolding keep
keep_append p [] b = refl
keep_append p (w ∷ a) b = go (p w) (keep_append p a b)
  where
    go : (t : Bool) → keep p (a ++ b) ≡ keep p a ++ keep p b → cond t (w ∷ keep p (a ++ b)) (keep p (a ++ b)) ≡ cond t (w ∷ keep p a) (keep p a) ++ keep p b
    go true e = ap {B = List Word} (λ l. w ∷ l) e
    go false e = e

-- a word is in the sifted list exactly if it is in the list and passes the test
pub member-keep : (w : Word) (p : Word → Bool) (l : List Word) → member w (keep p l) ≡ (member w l && p w)
unfolding keep member
member-keep w p [] = refl
member-keep w p (v ∷ l) = go (member-keep w p l) (p v) refl (same_word w v) refl
  where
    go : member w (keep p l) ≡ (member w l && p w) → (t : Bool) → p v ≡ t → (u : Bool) → same_word w v ≡ u
        → member w (cond t (v ∷ keep p l) (keep p l)) ≡ ((u || member w l) && p w)
    go ih true e true f = cc (ap p (same_true w v f))
    go ih true e false f = cc
    go ih false e true f = cc (ap p (same_true w v f), and-false (member w l))
    go ih false e false f = ih

-- tests that agree on the members sift alike
pub keep-agree : (p q : Word → Bool) (l : List Word) → ((v : Word) → member v l ≡ true → p v ≡ q v) → keep p l ≡ keep q l
keep-agree p q [] h = keep-nil p ∙ sym (keep-nil q)
keep-agree p q (w ∷ l) h = go (p w) refl (keep-agree p q l λ v m. h v (member-later v w l m))
  where
    same : p w ≡ q w
    same = h w (member-first w l)

    go : (t : Bool) → p w ≡ t → keep p l ≡ keep q l → keep p (w ∷ l) ≡ keep q (w ∷ l)
    go true e ih = cc (keep-pass p w l e, keep-pass q w l (sym same ∙ e))
    go false e ih = cc (keep-skip p w l e, keep-skip q w l (sym same ∙ e))

-- a test that every member passes keeps the list whole
pub keep_all : (p : Word → Bool) (l : List Word) → ((v : Word) → member v l ≡ true → p v ≡ true) → keep p l ≡ l
keep_all p [] h = keep-nil p
keep_all p (w ∷ l) h = keep-pass p w l (h w (member-first w l)) ∙ ap {B = List Word} (λ r. w ∷ r) (keep_all p l λ v m. h v (member-later v w l m))

-- a test that no member passes leaves nothing
pub keep-none : (p : Word → Bool) (l : List Word) → ((v : Word) → member v l ≡ true → p v ≡ false) → keep p l ≡ []
keep-none p [] h = keep-nil p
keep-none p (w ∷ l) h = keep-skip p w l (h w (member-first w l)) ∙ keep-none p l λ v m. h v (member-later v w l m)

-- sifting twice is sifting by both tests
pub keep-keep : (p q : Word → Bool) (l : List Word) → keep p (keep q l) ≡ keep (λ v. q v && p v) l
unfolding keep
keep-keep p q [] = refl
keep-keep p q (w ∷ l) = go (q w) refl (p w) refl (keep-keep p q l)
  where
    both : Word → Bool
    both v = q v && p v

    go : (t : Bool) → q w ≡ t → (u : Bool) → p w ≡ u → keep p (keep q l) ≡ keep both l
        → keep p (cond t (w ∷ keep q l) (keep q l)) ≡ cond (t && u) (w ∷ keep both l) (keep both l)
    go true e true f ih = keep-pass p w (keep q l) f ∙ ap {B = List Word} (λ r. w ∷ r) ih
    go true e false f ih = keep-skip p w (keep q l) f ∙ ih
    go false e u f ih = ih

-- those that pass a test and those that fail it are all of them
pub length-keep-not : (p : Word → Bool) (l : List Word) → length (keep p l) + length (keep (λ v. not (p v)) l) ≡ length l
unfolding keep
length-keep-not p [] = omega arith
length-keep-not p (w ∷ l) = go (p w) (length-keep-not p l)
  where
    go : (t : Bool) → length (keep p l) + length (keep (λ v. not (p v)) l) ≡ length l
        → length (cond t (w ∷ keep p l) (keep p l)) + length (cond (not t) (w ∷ keep (λ v. not (p v)) l) (keep (λ v. not (p v)) l)) ≡ suc (length l)
    go true e = omega arith
    go false e = omega arith

-- sifting out a member makes the list shorter
pub keep-shorter : (p : Word → Bool) (w : Word) (l : List Word) → member w l ≡ true → p w ≡ false → length (keep p l) < length l
keep-shorter p w l m e =
    let out : member w (keep (λ v. not (p v)) l) ≡ true = member-keep w (λ v. not (p v)) l ∙ both-are (member w l) (not (p w)) m (ap not e) in
    omega (arith, length-keep-not p l, member-length w (keep (λ v. not (p v)) l) out)

-- ---- each word once

-- a member of the list with each word once is a member of the list, and the other way round
pub member-distinct : (w : Word) (l : List Word) → member w (distinct l) ≡ member w l
unfolding distinct
member-distinct w [] = refl
member-distinct w (v ∷ l) = go (member-distinct w l) (same_word w v) refl
  where
    other : Word → Bool
    other u = not (same_word u v)

    go : member w (distinct l) ≡ member w l → (t : Bool) → same_word w v ≡ t → member w (v ∷ keep other (distinct l)) ≡ member w (v ∷ l)
    go ih true e = cc (member-cons w v (keep other (distinct l)), member-cons w v l)
    go ih false e = cc (member-cons w v (keep other (distinct l)), member-cons w v l, member-keep w other (distinct l), and-true (member w (distinct l)))

-- no word of the list stands in it again
abbrev pub Once : List Word → Type 0
Once [] = Unit
Once (w ∷ l) = (member w l ≡ false) × Once l

-- sifting brings no repetition in
pub once-keep : (p : Word → Bool) (l : List Word) → Once l → Once (keep p l)
once-keep p [] o = subst Once (sym (keep-nil p)) tt
once-keep p (w ∷ l) o = go (p w) refl (once-keep p l o.1)
  where
    go : (t : Bool) → p w ≡ t → Once (keep p l) → Once (keep p (w ∷ l))
    go true e ih = subst Once (sym (keep-pass p w l e)) (cc (member-keep w p l, o.0), ih)
    go false e ih = subst Once (sym (keep-skip p w l e)) ih

-- wherever such a list is cut at a word, that word is in neither part
pub once-cut : (w : Word) (a b : List Word) → Once (a ++ w ∷ b) → (member w a ≡ false) × (member w b ≡ false)
once-cut w [] b o = (not-in-nil w, o.0)
once-cut w (v ∷ a) b o =
    let ih = once-cut w a b o.1 in
    (not-true-false (member w (v ∷ a)) λ m. ⊎_elim again (false-not-true ih.0) (first-or-later w v a m), ih.1)
  where
    again : w ≡ v → ⊥
    again e = false-not-true o.0 (rw (← e, member-append w a (w ∷ b)) (right_is (member w a) (member w (w ∷ b)) (member-first w b)))

-- `distinct` has no word twice
pub distinct-once : (l : List Word) → Once (distinct l)
unfolding distinct
distinct-once [] = tt
distinct-once (w ∷ l) = (out, once-keep other (distinct l) (distinct-once l))
  where
    other : Word → Bool
    other v = not (same_word v w)

    out : member w (keep other (distinct l)) ≡ false
    out = cc (member-keep w other (distinct l), same_refl w, and-false (member w (distinct l)))

-- the words of a joined list, each once: those of the first, and then those of the second that are not in the first
pub distinct_append : (a b : List Word) → distinct (a ++ b) ≡ distinct a ++ keep (λ v. not (member v a)) (distinct b)
unfolding distinct
distinct_append [] b = sym (keep_all (λ v. not (member v [])) (distinct b) λ v m. ap not (not-in-nil v))
distinct_append (w ∷ a) b = ap {B = List Word} (λ l. w ∷ l) (ap (keep other) (distinct_append a b) ∙ keep_append other (distinct a) (keep (λ v. not (member v a)) (distinct b)) ∙ ap (λ (l : List Word). keep other (distinct a) ++ l) later)
  where
    other : Word → Bool
    other v = not (same_word v w)

    and-not : (t u : Bool) → (not u && not t) ≡ not (t || u)
    and-not true u = and-false (not u)
    and-not false true = refl
    and-not false false = refl

    later : keep other (keep (λ v. not (member v a)) (distinct b)) ≡ keep (λ v. not (member v (w ∷ a))) (distinct b)
    later = keep-keep other (λ v. not (member v a)) (distinct b) ∙ keep-agree (λ v. not (member v a) && other v) (λ v. not (member v (w ∷ a))) (distinct b) λ v m. and-not (same_word v w) (member v a) ∙ ap not (sym (member-cons v w a))

-- a list without repetition all of whose members are one word is that word alone, or empty
pub once-alone : (w : Word) (l : List Word) → Once l → ((v : Word) → member v l ≡ true → v ≡ w) → l ≡ cond (member w l) (w ∷ []) []
once-alone w [] o h = ap {A = Bool} (λ t. cond t (w ∷ []) []) (sym (not-in-nil w))
once-alone w (v ∷ []) o h = cc (h v (member-first v []), member-first w [])
once-alone w (v ∷ u ∷ l) o h =
    let e : v ≡ u = h v (member-first v (u ∷ l)) ∙ sym (h u (member-later u v (u ∷ l) (member-first u l))) in
    absurd (false-not-true o.0 (subst (λ (x : Word). member x (u ∷ l) ≡ true) (sym e) (member-first u l)))

-- a list without repetition is no longer than one that has all of its members
pub once-length : (a b : List Word) → Once a → ((w : Word) → member w a ≡ true → member w b ≡ true) → length a ≤ length b
once-length [] b o h = omega arith
once-length (w ∷ a) b o h = omega (arith, once-length a (keep other b) o.1 rest, keep-shorter other w b (h w (member-first w a)) (ap not (same_refl w)))
  where
    other : Word → Bool
    other v = not (same_word v w)

    rest : (v : Word) → member v a ≡ true → member v (keep other b) ≡ true
    rest v m = member-keep v other b ∙ both-are (member v b) (other v) (h v (member-later v w a m)) (ap not (not-true-false (same_word v w) again))
      where
        again : same_word v w ≡ true → ⊥
        again e = false-not-true o.0 (subst (λ (x : Word). member x a ≡ true) (same_true v w e) m)

-- two lists without repetition that have the same members are equally long
pub once-same-length : (a b : List Word) → Once a → Once b → ((w : Word) → member w a ≡ member w b) → length a ≡ length b
once-same-length a b p q h =
    let ab = once-length a b p λ w m. sym (h w) ∙ m in
    let ba = once-length b a q λ w m. h w ∙ m in
    omega arith
