use Rattle.std.proofs.Common.{◌<◌, arith}
use Rattle.xf_homes.specs.Home.{register_count}
use Rattle.xf_homes.specs.PlannedMethod.{source}
use Rattle.xf_code.proofs.Copying.{locals_on}
use Rattle.xf_code.proofs.Still.{nothing-more}
use Rattle.xf_code.proofs.emitter.Emitter.copies.Goals as goal

pub locals-preserved : goal.locals-preserved
locals-preserved c =
    let inside : c.locals.x < register_count c.args.self.now.plan.walk.rec.now = omega (arith, c.locals-test.true, c.registers-x-end.ensures.is) in
    locals_on (source c.args.self.now.plan) c.args.from c.args.to c.locals.x _ c.locals.out.items.items _ _ inside c.in_ok-local_copies.ensures c.locals.invariant

pub locals-preserved-then-is_still : goal.locals-preserved-then-is_still
locals-preserved-then-is_still c =
    let inside : c.locals.x < register_count c.args.self.now.plan.walk.rec.now = omega (arith, c.locals-test.true, c.registers-x-end.ensures.is) in
    locals_on (source c.args.self.now.plan) c.args.from c.args.to c.locals.x _ c.locals.out.items.items _ _ inside
    (nothing-more _ _ (c.is_still.ensures c.if-is_still.true)) c.locals.invariant

pub returns-then-are_still : goal.returns-then-are_still
returns-then-are_still c = nothing-more c.args.out.now.items.items _ (c.are_still.ensures c.if-are_still.true)
