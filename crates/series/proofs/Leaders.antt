-- The leaders of a word: which palindromes a walk from series to series visits. The longest palindrome that ends a word leads (`leader-first`), what
-- comes after the series of one of them leads (`leader-next`), and none between does (`leader-skip`); each turn leaves one series fewer
-- (`after-series`). And 001 lemmas 4.4 and 4.5 for them: where a leader is of one series with its link, the link led before, and ended nowhere
-- between (`leader-link`, `leader-quiet`). Rests on `Leading` and `SeriesCount`.
use Prim.Native.Nat.{ℕ, suc, ◌≤◌, ◌<◌}
use native.Mathlib.Omega.{arith}
use native.Mathlib.Decide.{dec_le}
use mathlib.Core.Path.{◌≡◌, refl, sym, ap, ◌∙◌, subst}
use mathlib.Core.List.{[], ◌∷◌, ◌++◌}
use lib.ListN.{length}
use Rattle.palindromes.specs.Word.{Word}
use Rattle.palindromes.specs.Palindrome.{Symmetric}
use Rattle.palindromes.specs.Place.{Suffix}
use Rattle.palindromes.specs.Record.{longest_suffix}
use Rattle.palindromes.proofs.Words.{suffix_trans, suffix-length, suffix-full, suffix-shorter}
use Rattle.palindromes.proofs.Longest.{longest-suffix}
use Rattle.series.specs.Series.{series, linked, Same, After, stop, pass, Leader}
use Rattle.series.proofs.Leading.{Leads, link-quiet, link-leads}
use Rattle.series.proofs.SeriesCount.{linked-symmetric, linked-suffix, linked-shorter, linked-most, series-same, series-other}

module _ (σ : ℕ → ℕ) where
  -- ---- what comes after a series

  pub after-shorter : {w n : Word} → After σ w n → 0 < length w → length n < length w
  after-shorter {w} {n} (stop s e) l = omega (arith, linked-shorter σ w l, ap length e)
  after-shorter {w} {n} (pass s a) l = omega (arith, linked-shorter σ w l, after-shorter a (omega arith))

  after-symmetric : {w n : Word} → After σ w n → Symmetric σ n
  after-symmetric {w} {n} (stop s e) = rw e (linked-symmetric σ w)
  after-symmetric {w} {n} (pass s a) = after-symmetric a

  -- one series fewer
  pub after-series : {w n : Word} → After σ w n → Symmetric σ w → 0 < length w → series σ w ≡ suc (series σ n)
  after-series {w} {n} (stop s e) h l = rw e (series-other σ w h l s)
  after-series {w} {n} (pass s a) h l = series-same σ w h l s ∙ after-series a (linked-symmetric σ w) (omega arith)

  -- ---- two palindromes that end one word

  -- the shorter ends the link of the longer
  ends-linked : {v w s : Word} → Symmetric σ v → Suffix v s → Suffix w s → length v < length w → Suffix v (linked σ w)
  ends-linked {v} {w} h a b l = linked-most σ v w h (suffix-shorter a b (omega arith)) l

  as_long : {v w s : Word} → Suffix v s → Suffix w s → length v ≡ length w → v ≡ w
  as_long a b l = suffix-full (suffix-shorter a b (omega arith)) (omega arith)

  -- ---- the leaders

  pub leader-first : (s : Word) → 0 < length (longest_suffix σ s) → Leader σ (longest_suffix σ s) s
  leader-first s n =
      let m = longest-suffix σ s in
      record {
        symmetric = m.symmetric;
        some = n;
        suffix = m.suffix;
        alone = λ v h k a e q. omega (arith, suffix-length (m.most v h a), linked-shorter σ v k, ap length e);
      }

  pub leader-next : {w n s : Word} → After σ w n → Symmetric σ w → 0 < length w → Suffix w s → 0 < length n → Leader σ n s
  leader-next {w} {n} {s} (stop t e) h l a k =
      record {
        symmetric = rw e (linked-symmetric σ w);
        some = k;
        suffix = rw e (suffix_trans (linked-suffix σ w) a);
        alone = λ v i m b f q. t (subst (Same σ) (same v i m b (f ∙ e)) q);
      }
    where
      same : (v : Word) → Symmetric σ v → 0 < length v → Suffix v s → linked σ v ≡ linked σ w → v ≡ w
      same v i m b f = go (dec_le (length v) (length w)) (dec_le (length w) (length v))
        where
          go : Dec (length v ≤ length w) → Dec (length w ≤ length v) → v ≡ w
          go (yes x) (yes y) = as_long b a (omega arith)
          go (yes x) (no y) = absurd (omega (arith, suffix-length (ends-linked i b a (omega arith)), linked-shorter σ v m, ap length f))
          go (no x) (yes y) = absurd (omega (arith, suffix-length (ends-linked h a b (omega arith)), linked-shorter σ w l, ap length f))
          go (no x) (no y) = absurd (omega arith)
  leader-next {w} {n} {s} (pass t c) h l a k = leader-next c (linked-symmetric σ w) (omega arith) (suffix_trans (linked-suffix σ w) a) k

  pub leader-skip : {v w n s : Word} → After σ w n → Symmetric σ w → 0 < length w → Suffix w s → Leader σ v s → length n < length v
      → length v ≤ length w → v ≡ w
  leader-skip {v} {w} {n} {s} (stop t e) h l a d j k = go (dec_le (length w) (length v))
    where
      go : Dec (length w ≤ length v) → v ≡ w
      go (yes y) = as_long d.suffix a (omega arith)
      go (no y) = absurd (omega (arith, suffix-length (ends-linked d.symmetric d.suffix a (omega arith)), ap length e))
  leader-skip {v} {w} {n} {s} (pass t c) h l a d j k =
      go (dec_le (length w) (length v)) (λ i. leader-skip c (linked-symmetric σ w) (omega arith) (suffix_trans (linked-suffix σ w) a) d j i)
    where
      go : Dec (length w ≤ length v) → (length v ≤ length (linked σ w) → v ≡ linked σ w) → v ≡ w
      go (yes y) ih = as_long d.suffix a (omega arith)
      go (no y) ih = absurd (d.alone w h l a (sym (ih (suffix-length (ends-linked d.symmetric d.suffix a (omega arith))))) t)

  -- ---- 001 lemmas 4.4 and 4.5

  leads-of : {y : ℕ} {t s : Word} → Leader σ (y ∷ t) s → Leads σ y t s
  unfolding linked
  leads-of {y} {t} {s} d =
      record {
        symmetric = d.symmetric;
        suffix = d.suffix;
        alone = λ x r h a e m. d.alone (x ∷ r) h (omega arith) a e (omega (arith, ap length e, ap (λ (w : Word). length (linked σ w)) e));
      }

  leader-of : {y : ℕ} {t s : Word} → Leads σ y t s → Leader σ (y ∷ t) s
  unfolding linked
  leader-of {y} {t} {s} d = record { symmetric = d.symmetric; some = omega arith; suffix = d.suffix; alone = go }
    where
      go : (v : Word) → Symmetric σ v → 0 < length v → Suffix v s → linked σ v ≡ y ∷ t → Same σ v → ⊥
      go [] h n a e m = omega arith
      go (x ∷ r) h n a e m = d.alone x r h a e (omega (arith, ap length e, ap (λ (w : Word). length (linked σ w)) e))

  -- where a leader is of one series with its link, the link led where it ended before
  pub leader-link : {w : Word} (p : Word) → Leader σ w (p ++ w) → Same σ w → Leader σ (linked σ w) (p ++ linked σ w)
  unfolding linked
  leader-link {w = []} p d m = absurd (omega (arith, d.some))
  leader-link {w = y ∷ t} p d m = go (longest_suffix σ t) refl
    where
      go : (u : Word) → longest_suffix σ t ≡ u → Leader σ (longest_suffix σ t) (p ++ longest_suffix σ t)
      go [] e = absurd (omega (arith, ap length e))
      go (z ∷ q) e = rw e (leader-of (link-leads σ p (leads-of d) e (omega (arith, ap length e, ap (λ (w : Word). length (linked σ w)) e))))

  -- and between there and here it did not end
  pub leader-quiet : {w : Word} (p q r : Word) → Symmetric σ w → 0 < length w → Same σ w → q ++ r ≡ p ++ w
      → length (p ++ linked σ w) < length q → (r ≡ [] → ⊥) → Suffix (linked σ w) q → ⊥
  unfolding linked
  leader-quiet {w = []} p q r h n m f l k a = omega arith
  leader-quiet {w = y ∷ t} p q r h n m f l k a = link-quiet σ h (omega arith) p q r f l k a
