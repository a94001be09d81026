-- An instruction has one operation, or one fault.
use Rattle.std.proofs.Common.{sym, ◌∙◌}
use Rattle.jc_base.specs.World.{Linked}
use Rattle.jc_ops.specs.Sound.{OperationsAreDecided}

pub operations-are-decided : (w : Linked) → OperationsAreDecided w
operations-are-decided w m place i r s h g = h ∙ sym g
