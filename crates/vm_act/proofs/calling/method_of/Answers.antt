use Rattle.std.proofs.Common.{◌+◌, sym, subst}
use Rattle.std.specs.Prelude.{unwrap_or}
use Rattle.vm_step.specs.Calls.{args_of}
use Rattle.vm_act.specs.Lead.{TakesCells}
use Rattle.vm_act.proofs.Takes.{virtual-takes}
use Rattle.vm_act.proofs.calling.method_of.Goals as goal

pub returns-in-Some-clause-takes : goal.returns-in-Some-clause-takes
returns-in-Some-clause-takes c =
    let w = c.args.world.now in
    let takes = virtual-takes w c.classes-classes.ensures.links c.classes-classes.ensures.dispatch c.args.callee c.requires.callee c.args.class c.args.token
    c.args.of c.requires.chosen c.requires.below in
    subst (λ o. TakesCells w (unwrap_or o c.args.callee.method) (args_of w c.args.callee.method + 1)) (sym c.in-Some.ensures) takes

pub returns-in-None-clause-takes : goal.returns-in-None-clause-takes
returns-in-None-clause-takes c =
    let w = c.args.world.now in
    let takes = virtual-takes w c.classes-classes.ensures.links c.classes-classes.ensures.dispatch c.args.callee c.requires.callee c.args.class c.args.token
    c.args.of c.requires.chosen c.requires.below in
    subst (λ o. TakesCells w (unwrap_or o c.args.callee.method) (args_of w c.args.callee.method + 1)) (sym c.in-None.ensures) takes
