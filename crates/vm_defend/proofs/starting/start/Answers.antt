-- a run that was begun is in a typed state
use Rattle.vm_defend.proofs.Safely.{begins-safely}
use Rattle.vm_defend.proofs.starting.start.Goals as goal

pub returns-in-Ok-clause-safe : goal.returns-in-Ok-clause-safe
returns-in-Ok-clause-safe c =
    begins-safely c.args.world.now c.typed_code_never_fails.ensures.starts c.args.entry c.args.args.now c.in-Ok.state c.in-Ok.ensures.begun
