use Rattle.std.proofs.Common.{arith}
use Rattle.std.proofs.lemmas.Grind.{common_steps}
use Rattle.jc_resolve.specs.NamedClasses.{named_classes}
use Rattle.jc_resolve.specs.NamedMethods.{named_methods}
use Rattle.jc_resolve.proofs.naming.make_records.Goals as goal

pub returns-clause-have : goal.returns-clause-have
unfolding named_classes named_methods
returns-clause-have c = record {
  names = record {
    classes_are = grind (arith, common_steps);
    methods_are = grind (arith, common_steps);
    agreed = c.in_ok-methods.ensures.agreed;
  };
  fields_are = grind (arith, common_steps);
}
