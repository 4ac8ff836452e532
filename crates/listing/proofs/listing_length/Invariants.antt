-- The total is the length of the lines whose palindromes have their ranks below the next window.
use Rattle.std.proofs.Common.{◌≡◌}
use Rattle.store.specs.Layout.{size_in}
use Rattle.listing.specs.Listing.{length_below}
use Rattle.listing.proofs.listing_length.Given as goal

abbrev pub invariant-loop-from : goal.invariant-loop-from
invariant-loop-from l = l.total ≡ length_below l.b l.name l.from (size_in l.b)
