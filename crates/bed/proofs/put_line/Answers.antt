-- `bed::put_line` meets its contract: behind each call stands one field more of the line.
use native.Mathlib.Nat.{add-zero}
use lib.ListN.{set, length-set}
use Rattle.std.proofs.Common.{arith, ℕ, ◌≡◌, ◌+◌, ◌≤◌, refl, sym, [], ◌∷◌, ◌++◌, length}
use Rattle.std.proofs.lemmas.List.Edits.{sets}
use Rattle.palindromes.specs.Word.{Word}
use Rattle.palindromes.specs.Bed.{decimal, bed_line}
use Rattle.bed.proofs.Line.{line-size}
use Rattle.bed.proofs.Written.{Written, written-more, written-length}
use Rattle.bed.proofs.put_line.Goals as goal

-- what is written behind each of the three calls, and that the rest of the line still has room
module _ (l name m : Word) (at a b i : ℕ) (room : at + length (bed_line name a b) ≤ length l)
    (e : m ≡ sets l at name) (p : i ≡ at + length name) where
  name-written : Written l at name m i
  name-written = record { stored = e; place = p }

  name-room : i + (length (decimal a) + length (decimal b) + 3) ≤ length m
  name-room = omega (arith, line-size name a b, written-length name-written)

  module _ (n : Word) (j : ℕ) (f : n ≡ sets (set m i 9) (i + 1) (decimal a)) (q : j ≡ i + 1 + length (decimal a)) where
    start-written : Written l at (name ++ (9 ∷ decimal a)) n j
    start-written = written-more 9 (decimal a) name-written f q

    start-room : j + (length (decimal b) + 2) ≤ length n
    start-room = omega (arith, name-room, written-length name-written, written-length start-written)

    module _ (o : Word) (k : ℕ) (g : o ≡ sets (set n j 9) (j + 1) (decimal b)) (r : k ≡ j + 1 + length (decimal b)) where
      end-written : Written l at (name ++ (9 ∷ decimal a) ++ (9 ∷ decimal b)) o k
      end-written = written-more 9 (decimal b) start-written g r

      end-room : k + 1 ≤ length o
      end-room = omega (arith, start-room, written-length start-written, written-length end-written)

      line-written : Written l at (bed_line name a b) (set o k 10) (k + 1)
      unfolding bed_line
      line-written = written-more 10 [] end-written refl (sym (add-zero _))

pub copy-tab-requires : goal.copy-tab-requires
copy-tab-requires c = omega (arith, line-size c.args.name.now c.args.start c.args.end)

pub bounds-out-tab : goal.bounds-out-tab
bounds-out-tab c =
    omega (arith, name-room _ _ _ _ _ _ _ c.requires.end_in_bounds c.copy-tab.ensures.written c.copy-tab.ensures.behind)

pub put_decimal-second-requires : goal.put_decimal-second-requires
put_decimal-second-requires c = (
  c.requires.name_len_bound.1,
  simp length-set
      (omega (arith, name-room _ _ _ _ _ _ _ c.requires.end_in_bounds c.copy-tab.ensures.written c.copy-tab.ensures.behind)),
)

pub bounds-out-second : goal.bounds-out-second
bounds-out-second c =
    omega (
      arith,
      start-room _ _ _ _ _ _ _ c.requires.end_in_bounds c.copy-tab.ensures.written c.copy-tab.ensures.behind _ _
          c.put_decimal-second.ensures.written c.put_decimal-second.ensures.behind,
    )

pub overflow_add-second : goal.overflow_add-second
overflow_add-second c =
    omega (
      arith,
      c.well_formed,
      written-length
          (start-written _ _ _ _ _ c.args.end _ c.requires.end_in_bounds c.copy-tab.ensures.written c.copy-tab.ensures.behind _ _
          c.put_decimal-second.ensures.written c.put_decimal-second.ensures.behind),
      start-room _ _ _ _ _ _ _ c.requires.end_in_bounds c.copy-tab.ensures.written c.copy-tab.ensures.behind _ _
          c.put_decimal-second.ensures.written c.put_decimal-second.ensures.behind,
    )

pub put_decimal-last-requires : goal.put_decimal-last-requires
put_decimal-last-requires c = (
  c.requires.name_len_bound.2,
  simp length-set
      (omega (
        arith,
        start-room _ _ _ _ _ _ _ c.requires.end_in_bounds c.copy-tab.ensures.written c.copy-tab.ensures.behind _ _
            c.put_decimal-second.ensures.written c.put_decimal-second.ensures.behind,
      )),
)

pub bounds-out-last : goal.bounds-out-last
bounds-out-last c =
    omega (
      arith,
      end-room _ _ _ _ _ _ _ c.requires.end_in_bounds c.copy-tab.ensures.written c.copy-tab.ensures.behind _ _
          c.put_decimal-second.ensures.written c.put_decimal-second.ensures.behind _ _ c.put_decimal-last.ensures.written
          c.put_decimal-last.ensures.behind,
    )

pub overflow_add-result : goal.overflow_add-result
overflow_add-result c =
    omega (
      arith,
      c.well_formed,
      written-length
          (end-written _ _ _ _ _ _ _ c.requires.end_in_bounds c.copy-tab.ensures.written c.copy-tab.ensures.behind _ _
          c.put_decimal-second.ensures.written c.put_decimal-second.ensures.behind _ _ c.put_decimal-last.ensures.written
          c.put_decimal-last.ensures.behind),
      end-room _ _ _ _ _ _ _ c.requires.end_in_bounds c.copy-tab.ensures.written c.copy-tab.ensures.behind _ _
          c.put_decimal-second.ensures.written c.put_decimal-second.ensures.behind _ _ c.put_decimal-last.ensures.written
          c.put_decimal-last.ensures.behind,
    )

pub returns-clause-written : goal.returns-clause-written
returns-clause-written c =
    (line-written _ _ _ _ _ _ _ c.requires.end_in_bounds c.copy-tab.ensures.written c.copy-tab.ensures.behind _ _
    c.put_decimal-second.ensures.written c.put_decimal-second.ensures.behind _ _ c.put_decimal-last.ensures.written
    c.put_decimal-last.ensures.behind).stored

pub returns-clause-behind : goal.returns-clause-behind
returns-clause-behind c =
    (line-written _ _ _ _ _ _ _ c.requires.end_in_bounds c.copy-tab.ensures.written c.copy-tab.ensures.behind _ _
    c.put_decimal-second.ensures.written c.put_decimal-second.ensures.behind _ _ c.put_decimal-last.ensures.written
    c.put_decimal-last.ensures.behind).place
