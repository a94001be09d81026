use Rattle.std.proofs.Common.{sym, arith}
use Rattle.cap_bare.proofs.Places.{trails-on}
use Rattle.cap_bare.proofs.verify.trailed.Goals as goal

pub walk-preserved : goal.walk-preserved
walk-preserved c =
    trails-on c.args.code.bytes.now c.walk.farther c.args.at c.in-Ok.insn c.walk.invariant (sym c.in-Ok.ensures.value)
    (omega (arith, c.if-from.false, c.from.ensures, c.from-in-Ok.ensures))
