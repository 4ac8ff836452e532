-- `main` of mirrorlist is safe: what is printed fits its buffer. Assumes nothing.
use Prim.Native.Nat.{ℕ, ◌≤◌}
use native.Mathlib.Omega.{arith}
use mathlib.Core.Path.{◌≡◌, sym, ap}
use mathlib.Core.List.{List}
use lib.ListN.{length}
use lib.Seq.{sets, length-sets, length-take-le}
use Rattle.printing.specs.Printed.{printed}
use Rattle.printing.proofs.Answering.{printed-most}
use Rattle.mirrorlist.proofs.main.Goals as goal

-- the bytes that were written lie within the buffer
written-within : (text before after : List ℕ) (m : ℕ) → 46080 ≡ length before → after ≡ sets before 0 (printed text) → m ≡ length (printed text) → m ≤ length after
written-within text before after m l e f = omega (arith, l, f, ap length e, length-sets before 0 (printed text), printed-most text)

pub slice_bounds-out-end : goal.slice_bounds-out-end
slice_bounds-out-end c =
    let e = c.print-m.ensures in
    written-within _ _ _ _ c.lines_buffer-out.ensures e.written e.behind

pub slice_bounds-write_all-end : goal.slice_bounds-write_all-end
slice_bounds-write_all-end c =
    let e = c.print-m.ensures in
    sym (length-take-le _ _ (written-within _ _ _ _ c.lines_buffer-out.ensures e.written e.behind))
