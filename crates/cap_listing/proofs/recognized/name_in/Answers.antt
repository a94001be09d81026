use Rattle.std.proofs.Common.{arith}
use Rattle.cap_listing.proofs.Cuts.{stop-cut, no-stop}
use Rattle.cap_listing.proofs.recognized.name_in.Goals as goal

pub returns-in-Some : goal.returns-in-Some
returns-in-Some c m n h k e =
    let parts = stop-cut c.args.word.now _ _ m n c.in-Some.ensures.some h e in
    (c.count.ensures m (omega (arith, h)) parts.0, c.count-in-Some.ensures n (omega (arith, k)) parts.1)

pub returns-in-None : goal.returns-in-None
returns-in-None c m n h k e = absurd (no-stop c.args.word.now m n c.in-None.ensures.none e)
