use Rattle.std.proofs.Common.{subst}
use Rattle.jc_base.specs.Laws.{IsOrderOfTypes, DeclaredAreKnown}
use Rattle.jc_rules.proofs.Decides.{rule-decides}
use Rattle.jc_rules.proofs.RuleFalls.{rule-falls}
use Rattle.jc_rules.proofs.Flowing.{is-order-of-cells, joins-stay-ready}
use Rattle.jc_rules.proofs.Keeps.{rule-keeps}
use Rattle.jc_rules.proofs.laws.rule_laws.Goals as goal

pub returns : goal.returns
returns c =
    let w = c.args.world.now in
    let are : IsOrderOfTypes w.classes = subst IsOrderOfTypes c.classes.ensures.is c.types_are_ordered.ensures.order in
    record {
      world = c.classes.ensures.links;
      placed = c.instructions_are_placed.ensures;
      listed = c.instructions_are_listed.ensures;
      types = are;
      declared = subst DeclaredAreKnown c.classes.ensures.is c.types_are_ordered.ensures.declared;
      decides = rule-decides w are c.operations_are_sound.ensures.decided;
      keeps = rule-keeps w c.classes.ensures.links are c.operations_are_sound.ensures.sound;
      falls = rule-falls w are;
      order = is-order-of-cells w.classes are;
      ready = joins-stay-ready w.classes are;
    }
