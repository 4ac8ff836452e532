-- The bytes of the minimal unique palindromes, right end by right end: what is written for the first k right ends, `Written`, and for one more. Rests
-- on `Ends`.
use Prim.Native.Nat.{ℕ, ◌+◌, ◌*◌, ◌-◌, ◌/◌, ◌%◌, ◌≤◌, ◌<◌}
use native.Mathlib.Omega.{arith}
use mathlib.Core.Path.{◌≡◌, refl, sym, ap, ◌∙◌}
use mathlib.Core.Bool.{Bool, true, false}
use mathlib.Core.List.{List, [], ◌∷◌, ◌++◌, append_assoc}
use borrow.Rule.Slice.PartMut.{put_mid}
use lib.ListN.{length, get_or, take, drop}
use lib.Seq.{sets, length-sets, sets-eq, drop-drop}
use Rattle.std.specs.Int.{w16, to_le_bytes}
use Rattle.palindromes.specs.Word.{Word}
use Rattle.palindromes.specs.Node.{spelling_of}
use Rattle.palindromes.specs.Interval.{Interval, interval, two_bytes, interval_bytes}
use Rattle.palindromes.specs.MinimalUnique.{minimal_unique}
use Rattle.palindromes.proofs.Intervals.{interval-bytes-length, interval-bytes-append}
use Rattle.palindromes.proofs.MinimalUniqueList.{met-none}
use Rattle.store.specs.Layout.{size_in, letters_in}
use Rattle.store.specs.Good.{rule_of, node_in, Good}
use Rattle.store.proofs.Parts.{sets-append}
use Rattle.walk.specs.Replay.{ending_in}
use Rattle.walk.proofs.Reading.{ending-length, ending-most}
use Rattle.end_rows.specs.EndRows.{FirstRows}
use Rattle.minimal_unique.proofs.Rows.{minimal_in}
use Rattle.minimal_unique.proofs.Ends.{listed_to, listed-old, listed-new, one_more, listed-most, first_holds}

-- a part of the buffer, written anew
written-part : (l u : Word) (at k : ℕ) → at + k ≤ length l → length u ≡ k → put_mid at k l u ≡ sets l at u
written-part l u at k h e = rw (drop-drop, ← e) (sym (sets-eq u l at (omega (arith, h, e)) ∙ append_assoc (take at l) u (drop (at + length u) l)))

-- the bytes of a number that has no more than two
pub bytes-two : {u : Word} (n : ℕ) → n < 65536 → u ≡ to_le_bytes w16 n → u ≡ two_bytes n
unfolding two_bytes
bytes-two n h e = let high : n / 256 % 256 ≡ n / 256 = omega arith in e ∙ ap (λ (x : ℕ). n % 256 ∷ x ∷ []) high

-- those of a start and of an end, written one after the other
pub interval-written : {u v : Word} (l : Word) (at start end : ℕ) → at + 4 ≤ length l → u ≡ two_bytes start → v ≡ two_bytes end
    → put_mid (at + 2) (at + 4 - (at + 2)) (put_mid at (at + 2 - at) l u) v ≡ sets l at (interval_bytes (interval start end ∷ []))
unfolding interval_bytes two_bytes
interval-written {u} {v} l at start end h p q =
    let a : length u ≡ 2 = ap length p in
    let b : length v ≡ 2 = ap length q in
    let first = written-part l u at (at + 2 - at) (omega arith) (omega arith) in
    let second = written-part (sets l at u) v (at + 2) (at + 4 - (at + 2)) (omega (arith, length-sets l at u)) (omega arith) in
    let both : u ++ v ≡ interval_bytes (interval start end ∷ []) = rw (p, q) refl in
    ap (λ (m : Word). put_mid (at + 2) (at + 4 - (at + 2)) m v) first
    ∙ second
    ∙ ap (λ (n : ℕ). sets (sets l at u) (at + n) v) (sym a)
    ∙ sym (sets-append l at u v)
    ∙ ap (sets l at) both

-- those of the first k right ends stand at the front of the buffer, and the next would come at the place `at`
pub record Written (b out₀ : Word) (k : ℕ) (out : Word) (at : ℕ) : Type 0 where
  pub stored : out ≡ sets out₀ 0 (interval_bytes (listed_to b k))
  pub place : at ≡ 4 * length (listed_to b k)

pub written-length : {b out₀ out : Word} {k at : ℕ} → Written b out₀ k out at → length out ≡ length out₀
written-length {b} {out₀} {k} p = ap length p.stored ∙ length-sets out₀ 0 (interval_bytes (listed_to b k))

pub none_written : (b out : Word) → Written b out 0 out 0
unfolding interval_bytes
none_written b out =
    let e = met-none (rule_of b) (letters_in b) in
    record { stored = sym (ap (λ (l : List Interval). sets out 0 (interval_bytes l)) e); place = omega (arith, ap length e) }

module _ {b firsts : Word} (g : Good b) (f : FirstRows b firsts) {k : ℕ} (l : k < size_in b) {t : Bool} (e : t ≡ minimal_in b (get_or firsts k 0))
    {out₀ out : Word} {at : ℕ} (p : Written b out₀ k out at) where
  pub written-old : t ≡ false → Written b out₀ (k + 1) out at
  written-old i = let m = listed-old g f l e i in record { stored = rw m p.stored; place = rw m p.place }

  -- the palindrome's length tells where it begins
  pub begins : t ≡ true → {n : ℕ} → n ≡ length (spelling_of (node_in b (get_or firsts k 0))) → (n ≡ length (ending_in b (k + 1))) × (n ≤ k + 1)
  begins i h = let j = h ∙ ending-length (first_holds g f l (sym e ∙ i)) in (j, omega (arith, j, ending-most b (k + 1)))

  pub room-for-one : t ≡ true → length (interval_bytes (minimal_unique (rule_of b) (letters_in b))) ≤ length out₀ → at + 4 ≤ length out
  room-for-one i h =
      let most = listed-most g (k + 1) (omega arith) in
      omega (arith, p.place, written-length p, one_more g f l e i, most, interval-bytes-length (minimal_unique (rule_of b) (letters_in b)), h)

  pub written_new : (i : t ≡ true) {n : ℕ} → n ≡ length (spelling_of (node_in b (get_or firsts k 0))) → {out' : Word} {at' : ℕ}
      → out' ≡ sets out at (interval_bytes (interval (k + 1 - n) (k + 1) ∷ [])) → at' ≡ at + 4 → Written b out₀ (k + 1) out' at'
  written_new i {n} h {out'} {at'} w a =
      let one : List Interval = interval (k + 1 - n) (k + 1) ∷ [] in
      let last = ap (λ (x : ℕ). listed_to b k ++ (interval (k + 1 - x) (k + 1) ∷ [])) (sym (begins i h).0) in
      let m : listed_to b (k + 1) ≡ listed_to b k ++ one = listed-new g f l e i ∙ last in
      let q : at ≡ 0 + length (interval_bytes (listed_to b k)) = omega (arith, p.place, interval-bytes-length (listed_to b k)) in
      let behind = sets-append out₀ 0 (interval_bytes (listed_to b k)) (interval_bytes one) in
      record {
        stored = w ∙ rw (m, interval-bytes-append (listed_to b k) one) (cc (p.stored, q, behind));
        place = omega (arith, a, p.place, one_more g f l e i);
      }
