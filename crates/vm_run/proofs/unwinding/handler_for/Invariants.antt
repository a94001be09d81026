use Rattle.std.proofs.Common.{◌≡◌, drop}
use Rattle.std.specs.Prelude.{find}
use Rattle.vm_step.specs.Methods.{handlers_of}
use Rattle.vm_step.specs.Raising.{catches}
use Rattle.vm_run.proofs.unwinding.handler_for.Given as goal

abbrev pub invariant-handlers : goal.invariant-handlers
invariant-handlers l =
    find (catches l.world.classes l.place l.class) (drop l.handler-index l.handler-items)
    ≡ find (catches l.world.classes l.place l.class) (handlers_of l.world l.method)
