use Rattle.law_renumbered.proofs.Numbers.{shared-numbers-serve}
use Rattle.law_renumbered.proofs.laws.shared_numbers_serve.Goals as goal

pub returns : goal.returns
returns c =
    shared-numbers-serve c.args.world.now c.classes.ensures.links c.operations_are_renumbered.ensures.same
    c.operations_are_renumbered.ensures.apart c.operations_are_renumbered.ensures.begin
