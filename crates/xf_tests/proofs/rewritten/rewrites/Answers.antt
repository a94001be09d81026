use Rattle.jc_control.specs.Method.{method_in}
use Rattle.xf_tests.proofs.Typed.{typing-of}
use Rattle.xf_tests.proofs.rewritten.rewrites.Goals as goal

pub homes-requires-clause-typing : goal.homes-requires-clause-typing
homes-requires-clause-typing c =
    typing-of c.args.world.now (method_in c.args.world.now 0) _ c.in-Ok.ensures.typing c.in-Ok.ensures.states c.in-Ok.ensures.registers

pub rewrite-requires-clause-typing : goal.rewrite-requires-clause-typing
rewrite-requires-clause-typing c =
    typing-of c.args.world.now (method_in c.args.world.now 0) _ c.in-Ok.ensures.typing c.in-Ok.ensures.states c.in-Ok.ensures.registers
