use Rattle.std.proofs.Common.{take, All}
use Rattle.jc_control.specs.WellFormed.{IsHandlerOf}
use Rattle.card_verify.proofs.scan.is_rest_formed.Given as goal

abbrev pub invariant-handlers : goal.invariant-handlers
invariant-handlers l = All (IsHandlerOf l.subject.code.bytes.now) (take l.handler-index l.subject.rec.now.handlers)
