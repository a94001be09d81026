use Rattle.law_alike.proofs.Ready.{typed-states-stay}
use Rattle.law_alike.proofs.likeness.typed_states_stay.Goals as goal

pub returns : goal.returns
returns c = typed-states-stay c.args.world.now c.classes.ensures.links
