use Rattle.law_groups.proofs.ThisWritesAnywhere.{this-writes-run}
use Rattle.law_groups.proofs.laws.writes_in_groups.Goals as goal

pub returns : goal.returns
returns c = record {
  writes =
      this-writes-run c.args.world.now c.classes.ensures.links c.operations_are_sound.ensures.decided c.steps_are_alike.ensures
      c.premises_hold.ensures c.rule_laws.ensures.types c.operations_are_sound.ensures.sound c.derived_are_whole.ensures;
}
