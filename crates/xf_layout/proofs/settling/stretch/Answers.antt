use Rattle.std.proofs.Common.{arith}
use Rattle.xf_layout.proofs.Settled.{begins-rise}
use Rattle.xf_layout.proofs.settling.stretch.Goals as goal

pub returns-then-bytes-gt128 : goal.returns-then-bytes-gt128
returns-then-bytes-gt128 c =
    omega (arith, c.items.invariant, begins-rise c.args.forms.now c.items.n c.args.to (omega (arith, c.items-test.true)))
