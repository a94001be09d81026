use Rattle.std.proofs.Common.{ap, ◌∙◌, refl, Some, ◌+◌, ◌-◌, ◌*◌, arith}
use Rattle.jc_base.proofs.Numbers.{number_there, number_past}
use Rattle.jc_base.proofs.target_index.TargetIndex.probe.Goals as goal

pub returns-then-end-self-clause-is : goal.returns-then-end-self-clause-is
returns-then-end-self-clause-is g c =
    rw (← c.self.view_is) (ap Some c.read_u16.ensures ∙ number_there c.args.k (c.args.k * 2) (c.args.k * 2 + 2 - c.args.k * 2) c.self.inside.bytes.now
    refl (omega arith) c.if-end-self.true)

pub returns-else-end-self-clause-is : goal.returns-else-end-self-clause-is
returns-else-end-self-clause-is g c = rw (← c.self.view_is) (number_past c.args.k (c.args.k * 2) c.self.inside.bytes.now refl c.if-end-self.false)
