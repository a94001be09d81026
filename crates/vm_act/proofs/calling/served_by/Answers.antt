use Rattle.std.proofs.Common.{◌+◌, sym, subst}
use Rattle.std.specs.Prelude.{IfSome}
use Rattle.vm_step.specs.Calls.{args_of}
use Rattle.vm_act.specs.Lead.{TakesCells}
use Rattle.vm_act.proofs.Takes.{interface-takes}
use Rattle.vm_act.proofs.calling.served_by.Goals as goal

pub returns-clause-takes : goal.returns-clause-takes
returns-clause-takes c =
    let w = c.args.world.now in
    let takes = interface-takes w c.classes-classes.ensures.links c.args.callee c.requires.callee c.args.class c.args.token c.requires.chosen.0 c.args.of
    c.requires.chosen.1 c.requires.class in
    subst (λ o. IfSome o (λ n. TakesCells w n (args_of w c.args.callee.method + 1))) (sym c.served.ensures) takes
