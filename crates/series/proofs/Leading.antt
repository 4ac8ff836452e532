-- Why a kept choice is there when it is asked for: 001 lemmas 4.3 to 4.5, as laws of words. Nothing in the proof of the answers rests on them; they
-- are why the walk over series is short (`Memory`), and the measure of its loop rests on them. With v a palindrome that ends s, u its link, and their
-- difference d at most |u|: u ends s without its last d letters, since it begins v; it ends nowhere between there and the end of s (`link-between`);
-- and if it is the link of a palindrome with the same difference there, so is v at the end of s (`leads-before`). Rests on Levi's lemma, on `Longest`
-- and on the mirror.
use Prim.Native.Nat.{ℕ, ◌+◌, ◌≤◌, ◌<◌}
use native.Mathlib.Omega.{arith}
use native.Mathlib.Decide.{dec_le}
use mathlib.Core.Path.{◌≡◌, refl, sym, ap, ◌∙◌}
use mathlib.Core.Logic.{⊎_elim}
use mathlib.Core.List.{[], ◌∷◌, ◌++◌, append_assoc, append-nil}
use lib.ListN.{length, length-append}
use Rattle.palindromes.specs.Word.{Word}
use Rattle.palindromes.specs.Palindrome.{mirror, Symmetric}
use Rattle.palindromes.specs.Place.{Suffix, Prefix}
use Rattle.palindromes.specs.Record.{longest_suffix}
use Rattle.palindromes.proofs.Words.{levi, no-letters, some-letters, suffix-length, suffix-shorter, suffix-cons, suffix-of-cons, suffix-append}
use Rattle.palindromes.proofs.Words.{prefix-append, prefix_trans, prefix-shorter}
use Rattle.palindromes.proofs.Mirror.{mirror-append, mirror-length, symmetric-suffix}
use Rattle.palindromes.proofs.Longest.{longest-suffix, longest-is}

-- two cuts of one word at the same place
pub same-cut : (a b c d : Word) → length a ≡ length c → a ++ b ≡ c ++ d → (a ≡ c) × (b ≡ d)
same-cut a b c d h e =
    let r = levi a b c d (omega arith) e in
    let n : r.0 ≡ [] = no-letters r.0 (omega (arith, length-append a r.0, ap length r.1)) in
    (cc (r.1, n, append-nil a), cc (r.2, n))

module _ (σ : ℕ → ℕ) where
  -- 001 lemma 4.3: a word that a palindrome begins and ends, and that is at most twice as long, is a palindrome
  pub overlap-symmetric : {u w : Word} → Symmetric σ u → Prefix u w → Suffix u w → length w ≤ length u + length u → Symmetric σ w
  overlap-symmetric {u} {w} h p q l =
      let a = q.before in
      let b = p.after in
      let n : length a ≡ length b = omega (arith, length-append a u, ap length q.whole, length-append u b, ap length p.whole) in
      let r = levi a u u b (omega (arith, length-append a u, ap length q.whole)) (cc) in
      let m = r.0 in
      let e : mirror σ b ++ mirror σ m ≡ a ++ m = sym (mirror-append σ m b) ∙ ap (mirror σ) (sym r.2) ∙ h ∙ r.1 in
      let z : mirror σ b ≡ a = (same-cut (mirror σ b) (mirror σ m) a m (omega (arith, mirror-length σ b)) e).0 in
      cc (mirror-append σ u b, p.whole, q.whole)

  module _ {y : ℕ} {t : Word} (h : Symmetric σ (y ∷ t)) (long : length (y ∷ t) ≤ length (longest_suffix σ t) + length (longest_suffix σ t)) where
    abbrev v : Word
    v = y ∷ t

    abbrev u : Word
    u = longest_suffix σ t

    u-symmetric : Symmetric σ u
    u-symmetric = (longest-suffix σ t).symmetric

    u-suffix : Suffix u v
    u-suffix = suffix-cons y (longest-suffix σ t).suffix

    u-prefix : Prefix u v
    u-prefix = symmetric-suffix σ u-symmetric h u-suffix

    -- 001 lemma 4.4: the link stands in the palindrome at its beginning and at its end only
    pub link-between : (x z : Word) → x ++ u ++ z ≡ v → (x ≡ [] → ⊥) → (z ≡ [] → ⊥) → ⊥
    link-between x z e n m =
        let w = u ++ z in
        let whole : x ++ w ≡ v = sym (append_assoc x u z) ∙ e in
        let a : Suffix w v = record { before = x; whole = whole } in
        let l : length x + length w ≡ length v = sym (length-append x w) ∙ ap length whole in
        let k : length w ≡ length u + length z = length-append u z in
        let b : Suffix u w = suffix-shorter u-suffix a (omega arith) in
        let s : Symmetric σ w = overlap-symmetric u-symmetric (prefix-append u z) b (omega arith) in
        let q = suffix-length ((longest-suffix σ t).most w s (proper a (omega (arith, some-letters x n)))) in
        omega (arith, some-letters z m)
      where
        -- a shorter suffix ends the word without its first letter
        proper : {w : Word} → Suffix w v → length w < length v → Suffix w t
        proper a l = ⊎_elim (λ f. absurd (omega (arith, ap length f))) (λ k. k) (suffix-of-cons y a)

    -- what stands before the link in the palindrome, and what stands behind it
    abbrev a : Word
    a = u-suffix.before

    abbrev e : Word
    e = u-prefix.after

    difference : length a + length u ≡ length v
    difference = sym (length-append a u) ∙ ap length u-suffix.whole

    -- a palindrome that the link ends too is this one, if it is as long
    pub link-same : {z : Word} → Symmetric σ z → Suffix u z → length z ≡ length v → z ≡ v
    link-same {z} s b n =
        let c = symmetric-suffix σ u-symmetric s b in
        let l : length b.before + length u ≡ length z = sym (length-append b.before u) ∙ ap length b.whole in
        let r = levi b.before u u c.after (omega (arith, difference)) (cc) in
        let q = levi a u u e (omega (arith, difference)) (u-suffix.whole ∙ sym u-prefix.whole) in
        let i : b.before ≡ a = (same-cut b.before r.0 a q.0 (omega (arith, difference)) (sym r.1 ∙ q.1)).0 in
        cc (i, b.whole, u-suffix.whole)

    -- 001 lemma 4.5: if the palindrome ends where its link ends first, a longer one with the same difference has it for its link
    record Longer (p : Word) : Type 0 where
      first : ℕ
      rest : Word
      symmetric : Symmetric σ (first ∷ rest)
      suffix : Suffix (first ∷ rest) (p ++ v)
      link : longest_suffix σ rest ≡ v
      same : length (first ∷ rest) + length u ≡ length v + length v

    leads-before : (p : Word) → Suffix v (p ++ u) → Longer p
    leads-before p b = go a u-suffix.whole difference
      where
        go : (a : Word) → a ++ u ≡ v → length a + length u ≡ length v → Longer p
        go [] f n = absurd (omega (arith, suffix-length (longest-suffix σ t).suffix))
        go (x ∷ r) f n =
            let w = x ∷ r ++ v in
            let n' : length w ≡ length (x ∷ r) + length v = length-append (x ∷ r) v in
            let behind : v ++ e ≡ w = cc (append_assoc (x ∷ r) u e, u-prefix.whole, f) in
            let s : Symmetric σ w = overlap-symmetric h (record { after = e; whole = behind }) (record { before = x ∷ r; whole = refl }) (omega arith) in
            let left : (b.before ++ x ∷ r) ++ u ≡ p ++ u = cc (append_assoc b.before (x ∷ r) u, b.whole, f) in
            let i : b.before ++ x ∷ r ≡ p =
            (same-cut (b.before ++ x ∷ r) u p u (omega (arith, ap length left, length-append (b.before ++ x ∷ r) u, length-append p u)) left).0 in
            record {
              first = x;
              rest = r ++ v;
              symmetric = s;
              suffix = record { before = b.before; whole = cc (append_assoc b.before (x ∷ r) v, i) };
              link =
                  let ends = suffix-append r v in
                  sym (longest-is σ (record { symmetric = h; suffix = ends; most = λ q c d. most s behind q c d (dec_le (length q) (length v)) }));
              same = omega arith;
            }
          where
            most : Symmetric σ (x ∷ r ++ v) → v ++ e ≡ x ∷ r ++ v → (q : Word) → Symmetric σ q → Suffix q (r ++ v)
                → Dec (length q ≤ length v) → Suffix q v
            most s behind q c d (yes k) = suffix-shorter d (suffix-append r v) k
            most s behind q c d (no k) =
                let a₂ = x ∷ d.before in
                let ends : Suffix q (x ∷ r ++ v) = suffix-cons x d in
                let begins : Prefix u q =
                prefix_trans u-prefix (prefix-shorter (record { after = e; whole = behind }) (symmetric-suffix σ c s ends) (omega arith)) in
                let l : length d.before + length q ≡ length r + length v =
                sym (length-append d.before q) ∙ ap length d.whole ∙ length-append r v in
                let two : (a₂ ++ u) ++ begins.after ≡ v ++ e = cc (append_assoc a₂ u begins.after, begins.whole, d.whole, behind) in
                let m = levi (a₂ ++ u) begins.after v e (omega (arith, length-append a₂ u)) two in
                let z : 0 < length m.0 = omega (arith, length-append a₂ u, length-append (a₂ ++ u) m.0, ap length m.1) in
                absurd (link-between a₂ m.0 (sym m.1) (λ i. omega (arith, ap length i)) (λ i. omega (arith, ap length i)))

    -- so it ends no beginning of the record between the two
    pub link-quiet : (p q r : Word) → q ++ r ≡ p ++ v → length (p ++ u) < length q → (r ≡ [] → ⊥) → Suffix u q → ⊥
    link-quiet p q r f n m b =
        let l : length p + length u ≡ length (p ++ u) = sym (length-append p u) in
        let c = levi p v q r (omega arith) (sym f) in
        let k : length q ≡ length p + length c.0 = ap length c.1 ∙ length-append p c.0 in
        let d : Suffix u c.0 = suffix-shorter b (record { before = p; whole = sym c.1 }) (omega arith) in
        let g : length d.before + length u ≡ length c.0 = sym (length-append d.before u) ∙ ap length d.whole in
        link-between d.before r (ap (λ (w : Word). w ++ r) d.whole ∙ sym c.2) (λ i. omega (arith, ap length i)) m

  -- 001 section 4.1 "leading": a palindrome that ends s, and is not the link of a longer one there with the same difference
  pub record Leads (y : ℕ) (t s : Word) : Type 0 where
    pub symmetric : Symmetric σ (y ∷ t)
    pub suffix : Suffix (y ∷ t) s
    pub alone : (x : ℕ) (r : Word) → Symmetric σ (x ∷ r) → Suffix (x ∷ r) s → longest_suffix σ r ≡ y ∷ t
        → length (x ∷ r) + length (longest_suffix σ t) ≡ length (y ∷ t) + length (y ∷ t) → ⊥

  -- 001 lemma 4.5 in its own words: where a palindrome leads and its link has the same difference, the link leads where it ends first. By
  -- `link-quiet` it ends nowhere between, so what was kept with it there is still kept
  pub link-leads : {y z : ℕ} {t q : Word} (p : Word) → Leads y t (p ++ y ∷ t) → longest_suffix σ t ≡ z ∷ q
      → length (y ∷ t) + length (longest_suffix σ q) ≡ length (z ∷ q) + length (z ∷ q) → Leads z q (p ++ z ∷ q)
  link-leads {y} {z} {t} {q} p l e n =
      record {
        symmetric = rw e at (longest-suffix σ t).symmetric;
        suffix = suffix-append p (z ∷ q);
        alone = λ x r s a f m.
            let long : length (y ∷ t) ≤ length (longest_suffix σ t) + length (longest_suffix σ t) = omega (arith, ap length e) in
            let b : Suffix (longest_suffix σ t) (x ∷ r) = rw (e, ← f) (suffix-cons x (longest-suffix σ r).suffix) in
            let same : x ∷ r ≡ y ∷ t = link-same l.symmetric long s b (omega arith) in
            let ends : Suffix (y ∷ t) (p ++ longest_suffix σ t) = rw (e, ← same) a in
            let w = leads-before l.symmetric long p ends in
            l.alone w.first w.rest w.symmetric w.suffix w.link w.same;
      }
