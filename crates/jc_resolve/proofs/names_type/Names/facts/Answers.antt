use Rattle.std.proofs.Common.{◌≤◌, length, slice_index, ap, subst, arith}
use Rattle.std.specs.Prelude.{All}
use Rattle.jc_resolve.specs.Named.{IsAgreed}
use Rattle.jc_resolve.specs.Names.{NamesRecord}
use Rattle.jc_resolve.proofs.DeclaredTypes.{named-length}
use Rattle.jc_resolve.proofs.Totals.{named_methods_many}
use Rattle.jc_resolve.proofs.names_type.Names.facts.Goals as goal

pub returns-clause-few_classes : goal.returns-clause-few_classes
returns-clause-few_classes c =
    let few : length c.self.inside.classes ≤ 4096 =
    omega (
      arith,
      ap length c.self.invariant.names.classes_are,
      named-length c.self.inside.index (slice_index c.self.inside.roles 0),
      c.packages.ensures.few_classes,
    ) in
    subst (λ (n : NamesRecord). length n.classes ≤ 4096) c.self.view_is few

pub returns-clause-few_methods : goal.returns-clause-few_methods
returns-clause-few_methods c =
    let few : length c.self.inside.methods ≤ 32768 =
    omega (arith, ap length c.self.invariant.names.methods_are, named_methods_many c.self.inside.index c.self.inside.roles, c.packages.ensures.few_methods) in
    subst (λ (n : NamesRecord). length n.methods ≤ 32768) c.self.view_is few

pub returns-clause-agreed : goal.returns-clause-agreed
returns-clause-agreed c = subst (λ (n : NamesRecord). All IsAgreed n.packages) c.self.view_is c.self.invariant.names.agreed
