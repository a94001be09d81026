use Rattle.law_erasure.proofs.Applying.{typed-states-apply}
use Rattle.law_erasure.proofs.erasure.typed_states_apply.Goals as goal

pub returns : goal.returns
returns c = typed-states-apply c.args.world.now c.classes.ensures.links
