use Rattle.xf_emission.proofs.LaidItems.{items-are-laid}
use Rattle.xf_emission.proofs.laws.items_suit.Goals as goal

pub returns : goal.returns
returns c = items-are-laid c.args.world.now c.operations_go_alike.ensures c.instructions_are_listed.ensures
