use Rattle.std.proofs.Common.{arith}
use Rattle.cap_listing.proofs.cut.byte.Goals as goal

pub returns : goal.returns
returns c n h e =
    let read = c.count.ensures n (omega (arith, h)) e in
    let fits = c.try_from.ensures in
    let is = c.unwrap_or.ensures in
    grind (arith, read, fits, is, h)
