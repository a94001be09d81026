use Rattle.std.proofs.Common.{◌<◌, length, arith}
use Rattle.jc_rules.specs.Demand.{frame}
use Rattle.jc_rules.proofs.Demands.{Wanted-breaks, Wanted-more}
use Rattle.jc_rules.proofs.demand.Before.check_arguments.Goals as goal

pub returns-in-Some : goal.returns-in-Some
returns-in-Some c =
    let inside : c.arguments.n < length c.args.args.now = omega arith in
    Wanted-breaks c.args.self.now.world.now.classes (frame c.args.self.now) c.args.args.now c.arguments.n _ inside c.in-Some.fault c.arguments.invariant
    c.in-Some.ensures

pub arguments-preserved : goal.arguments-preserved
arguments-preserved c =
    let inside : c.arguments.n < length c.args.args.now = omega arith in
    Wanted-more c.args.self.now.world.now.classes (frame c.args.self.now) c.args.args.now c.arguments.n _ inside c.arguments.invariant c.in_default.ensures
