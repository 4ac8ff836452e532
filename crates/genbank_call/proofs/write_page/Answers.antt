-- The letters of the store are handed on.
use Rattle.std.proofs.Common.{arith}
use Rattle.walk.proofs.Stores.{framed-part, framed-within}
use Rattle.genbank_call.proofs.write_page.Goals as goal

pub slice_bounds-put_page-end : goal.slice_bounds-put_page-end
slice_bounds-put_page-end c = (framed-within c.frame_of-f.ensures c.requires.good.sized 0 (omega arith)).letters

pub put_page-requires-clause-letters_in_bounds : goal.put_page-requires-clause-letters_in_bounds
put_page-requires-clause-letters_in_bounds c = rw (framed-part c.frame_of-f.ensures) c.requires.b_in_bounds

pub returns-clause-written : goal.returns-clause-written
returns-clause-written c = rw (framed-part c.frame_of-f.ensures) at c.put_page.ensures.written

pub returns-clause-behind : goal.returns-clause-behind
returns-clause-behind c = rw (framed-part c.frame_of-f.ensures) at c.put_page.ensures.behind
