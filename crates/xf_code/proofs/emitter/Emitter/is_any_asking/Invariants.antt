use Rattle.std.specs.List.{AllWithin}
use Rattle.xf_homes.specs.PlannedMethod.{source}
use Rattle.xf_code.specs.Quiet.{AsksNothing}
use Rattle.xf_code.proofs.emitter.Emitter.is_any_asking.Given as goal

abbrev pub invariant-handlers : goal.invariant-handlers
invariant-handlers l = AllWithin (AsksNothing (source l.self.plan) l.to l.place) l.handler-items 0 l.handler-index
