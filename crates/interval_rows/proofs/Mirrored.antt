-- A stretch and its mirror image in the palindrome at its end: one is a palindrome exactly if the other is, and then they are equal. Rests on
-- `symmetric-suffix` and on the laws of ends of words.
use Rattle.std.proofs.Common.{◌≡◌, ℕ, ◌+◌, ◌-◌, ◌<◌, ◌≤◌, ◌++◌, length, take, drop, sym, ap, ◌∙◌, subst, arith, length-append, take-append-drop, length-take-le, take-take, take_at, drop_at}
use lib.Seq.{take-append-add}
use Rattle.std.specs.Prelude.{Option, Some, None}
use Rattle.palindromes.specs.Word.{Word}
use Rattle.palindromes.specs.Palindrome.{mirror, Symmetric, Palindrome}
use Rattle.palindromes.specs.Place.{Prefix, Suffix}
use Rattle.palindromes.specs.Node.{spelling_of}
use Rattle.palindromes.proofs.Words.{suffix-shorter, suffix-full, suffix-length}
use Rattle.palindromes.proofs.Intervals.{word-between}
use Rattle.palindromes.proofs.Longest.{longest-suffix}
use Rattle.palindromes.proofs.Mirror.{mirror-append, symmetric-suffix}
use Rattle.store.specs.Layout.{size_in, letters_in}
use Rattle.store.specs.Good.{rule_of, Good}
use Rattle.store.proofs.Sizes.{letters-length}
use Rattle.walk.specs.Replay.{ending_in, Holds}
use Rattle.interval_rows.specs.IntervalRow.{word_in, word_between, IsRowOf, RowOf}
use Rattle.interval_rows.proofs.Ways.{near_first, near_none, between_ends, between-length}

-- the first letters of a symmetric word, where they are symmetric, end it
first_ends : (σ : ℕ → ℕ) (n : ℕ) (p : Word) → Symmetric σ p → Symmetric σ (take n p) → Suffix (take n p) p
first_ends σ n p h k =
    record {
      before = mirror σ (drop n p);
      whole =
          sym (sym h ∙ ap (mirror σ) (sym (take-append-drop n p)) ∙ mirror-append σ (take n p) (drop n p)
          ∙ ap (λ (w : Word). mirror σ (drop n p) ++ w) k);
    }

-- and a symmetric word that begins it is its first letters
first-is : {w p : Word} (n : ℕ) → length w ≡ n → Prefix w p → w ≡ take n p
first-is {w} n e b = sym (ap (take n) (sym b.whole) ∙ take_at w b.after n e)

module _ {b : Word} (g : Good b) {start end row : ℕ} (l : start < end) (k : end ≤ size_in b) (h : Holds b end row) where
  whole_is : word_in b row ≡ ending_in b end
  unfolding spelling_of
  whole_is = ap spelling_of h.holds

  whole-symmetric : Symmetric (rule_of b) (word_in b row)
  whole-symmetric = subst (Symmetric (rule_of b)) (sym whole_is) (longest-suffix (rule_of b) (take end (letters_in b))).symmetric

  whole-ends : Suffix (word_in b row) (take end (letters_in b))
  whole-ends = subst (λ (w : Word). Suffix w (take end (letters_in b))) (sym whole_is) (longest-suffix (rule_of b) (take end (letters_in b))).suffix

  taken : length (take end (letters_in b)) ≡ end
  taken = length-take-le end (letters_in b) (omega (arith, letters-length g.sized))

  pub whole-most : length (word_in b row) ≤ end
  whole-most = omega (arith, suffix-length whole-ends, taken)

  long : length (word_between b start end) ≡ end - start
  long = between-length g start end k

  -- too long for the palindrome at its end
  pub no_room : length (word_in b row) < end - start → RowOf b (word_between b start end) None
  no_room m = near_none g (omega (arith, m, long)) (near_first g (between_ends g start end) h)

  module _ (m : end - start ≤ length (word_in b row)) where
    from_is : length whole-ends.before ≡ end - length (word_in b row)
    from_is = omega (arith, taken, length-append whole-ends.before (word_in b row), ap length whole-ends.whole)

    -- the mirror image is the first letters of that palindrome
    image-is : word_between b (end - length (word_in b row)) (end - length (word_in b row) + (end - start)) ≡ take (end - start) (word_in b row)
    image-is =
        let f = end - length (word_in b row) in
        let n = end - start in
        let q : length whole-ends.before + n ≡ f + n = ap (λ (i : ℕ). i + n) from_is in
        word-between f (f + n) (letters_in b)
        ∙ ap (drop f) (sym (take-take (f + n) end (letters_in b) (omega (arith, m, whole-most))) ∙ ap (take (f + n)) (sym whole-ends.whole)
        ∙ ap (λ (i : ℕ). take i (whole-ends.before ++ word_in b row)) (sym q) ∙ take-append-add whole-ends.before (word_in b row) n)
        ∙ drop_at whole-ends.before (take n (word_in b row)) f from_is

    inside : Suffix (word_between b start end) (word_in b row)
    inside = suffix-shorter (between_ends g start end) whole-ends (omega (arith, long, m))

    one_way : Palindrome (rule_of b) (word_between b start end) → word_between b start end ≡ take (end - start) (word_in b row)
    one_way p = first-is (end - start) long (symmetric-suffix (rule_of b) p.symmetric whole-symmetric inside)

    other_way : Palindrome (rule_of b) (take (end - start) (word_in b row)) → take (end - start) (word_in b row) ≡ word_between b start end
    other_way p =
        let t : length (take (end - start) (word_in b row)) ≡ end - start = length-take-le (end - start) (word_in b row) m in
        let s = first_ends (rule_of b) (end - start) (word_in b row) whole-symmetric p.symmetric in
        suffix-full (suffix-shorter s inside (omega (arith, t, long))) (omega (arith, t, long))

    -- so its row is the stretch's
    pub image-row : (r : Option ℕ) → RowOf b (word_between b (end - length (word_in b row)) (end - length (word_in b row) + (end - start))) r
        → RowOf b (word_between b start end) r
    image-row r x = go r (subst (λ (w : Word). RowOf b w r) image-is x)
      where
        go : (o : Option ℕ) → RowOf b (take (end - start) (word_in b row)) o → RowOf b (word_between b start end) o
        go (Some q) f = subst (λ (w : Word). IsRowOf b w q) (other_way f.palindrome) f
        go None n = λ p. n (subst (Palindrome (rule_of b)) (one_way p) p)
