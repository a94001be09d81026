use Rattle.law_groups.proofs.ThisFields.{this-reads-run}
use Rattle.law_groups.proofs.laws.fields_in_groups.Goals as goal

pub returns : goal.returns
returns c = record {
  reads =
      this-reads-run c.args.world.now c.classes.ensures.links c.operations_are_sound.ensures.decided c.steps_are_alike.ensures
      c.premises_hold.ensures c.rule_laws.ensures.types c.derived_are_whole.ensures;
}
