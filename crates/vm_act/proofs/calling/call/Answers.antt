use Rattle.std.proofs.Common.{sym, subst, arith}
use Rattle.vm_act.specs.Lead.{TakesCells}
use Rattle.vm_act.proofs.Takes.{static-takes}
use Rattle.vm_act.proofs.calling.call.Goals as goal

pub returns-in-Static-clause-stands : goal.returns-in-Static-clause-stands
returns-in-Static-clause-stands g c =
    let w = c.args.world.now in
    let takes = static-takes w c.classes-classes.ensures.links c.args.callee c.requires.callee c.in-Static.is in
    record {
      takes = subst (TakesCells w c.args.callee.method) (sym c.args_of.ensures.value) takes;
      cells = omega (arith, c.requires.cells, c.args_of.ensures.value);
    }
