use Rattle.cap_bytes.proofs.Loops.{HasPassed}
use Rattle.cap_method.specs.MethodFormat.{handler_info}
use Rattle.cap_method.proofs.read_methods.pass_handlers.Given as goal

abbrev pub invariant-handlers : goal.invariant-handlers
invariant-handlers l = HasPassed handler_info l.count l.initial.items l.counter l.items
