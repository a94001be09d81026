use Rattle.xf_layout.proofs.Settled.{settles-then}
use Rattle.xf_layout.proofs.settling.settle.Goals as goal

pub jumps-preserved : goal.jumps-preserved
jumps-preserved c =
    settles-then c.args.items.now c.args.forms.now.items c.jumps.forms.items c.widen_far.new.forms.items c.jumps.invariant c.widen_far.ensures
