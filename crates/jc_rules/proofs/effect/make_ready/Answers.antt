use Rattle.jc_rules.specs.Effect.{ready}
use Rattle.jc_rules.proofs.Stacks.{cells-map}
use Rattle.jc_rules.proofs.effect.make_ready.Goals as goal

pub returns-clause-stack : goal.returns-clause-stack
returns-clause-stack c =
    cells-map (ready c.args.place c.args.class) c.args.stack.now c.ready_all.new.cells c.args.depth c.requires.inside c.ready_all.ensures
