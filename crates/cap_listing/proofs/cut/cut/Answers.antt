use Rattle.cap_listing.proofs.Cuts.{none-at}
use Rattle.cap_listing.proofs.cut.cut.Goals as goal

pub bytes-preserved : goal.bytes-preserved
bytes-preserved c =
    none-at c.args.stop c.args.bytes.now c.bytes.k c.bytes-test.true c.bytes.invariant (λ e. c.if-bytes-k.false e)
