use Rattle.vm_step.proofs.Running.{steps-exist}
use Rattle.vm_step.proofs.Lasting.{runs-exist}
use Rattle.vm_step.proofs.laws.runs_exist.Goals as goal

pub returns : goal.returns
returns c = runs-exist c.args.world.now (steps-exist c.args.world.now)
