use Rattle.std.proofs.Common.{take, All}
use Rattle.jc_control.specs.WellFormed.{IsHandlerOf}
use Rattle.jc_control.proofs.scan.check_handlers.Given as goal

abbrev pub invariant-handlers : goal.invariant-handlers
invariant-handlers l = All (IsHandlerOf l.code.bytes.now) (take l.number l.fn.handlers)
