-- a run from a typed state comes to a typed state, and answers no fault
use Rattle.vm_defend.proofs.Safely.{goes-safely}
use Rattle.vm_defend.proofs.state.run.Goals as goal

pub returns-clause-safe : goal.returns-clause-safe
returns-clause-safe c =
    goes-safely c.args.world.now c.typed_code_never_fails.ensures.runs c.args.budget c.args.state.now c.go_on.new.self c.go_on.result
    c.go_on.ensures.answer c.go_on.ensures.runs
