use Rattle.law_groups.proofs.Storing.{store-bodies-run}
use Rattle.law_groups.proofs.laws.stores_in_groups.Goals as goal

pub returns : goal.returns
returns c = record {
  stores =
      store-bodies-run c.args.world.now c.classes.ensures.links c.operations_are_sound.ensures.decided c.premises_hold.ensures;
}
