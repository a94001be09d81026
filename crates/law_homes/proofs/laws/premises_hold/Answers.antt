use Rattle.std.proofs.Common.{◌≡◌, subst}
use Rattle.jc_base.specs.Laws.{ClassesAreObjects}
use Rattle.law_homes.proofs.laws.premises_hold.Goals as goal

pub returns : goal.returns
returns c w world =
    let own : c.classes-2.result.now ≡ c.args.source.now.classes = cc in
    record {
      serve = c.homes_serve.ensures;
      needed = c.edges_carry.ensures.needed;
      fill = c.edges_carry.ensures.cells;
      carry = c.edges_carry.ensures.edges;
      rules = c.rule_laws.ensures;
      objects = subst ClassesAreObjects own c.subclasses_extend.ensures.objects;
      same_is = c.types_are_ordered.ensures.same;
      world = world;
    }
