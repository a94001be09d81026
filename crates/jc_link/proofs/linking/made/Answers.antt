use Rattle.std.proofs.Common.{List, ◌≤◌, length, arith, subst, sym}
use Rattle.jc_base.specs.declared.record.MethodRec.{MethodRec}
use Rattle.jc_base.specs.Linked.{AreLinkedClasses}
use Rattle.jc_link.proofs.Steps.{count_known, linked_few, methods_of_table}
use Rattle.jc_link.proofs.linking.made.Goals as goal

pub of-requires-clause-few : goal.of-requires-clause-few
of-requires-clause-few c =
    let n = c.args.tabled.names in
    let few : length n.classes ≤ 4096 = c.facts.ensures.few_classes in
    omega (arith, count_known n.packages n.roles n c.requires.names c.args.tabled.classes c.requires.table)

pub of-requires-clause-few_methods : goal.of-requires-clause-few_methods
of-requires-clause-few_methods c =
    subst (λ (ms : List MethodRec). length ms ≤ 32768) (sym c.methods.ensures.is) c.facts.ensures.few_methods

pub of-requires-clause-links : goal.of-requires-clause-links
of-requires-clause-links c =
    let n = c.args.tabled.names in
    subst (λ (ms : List MethodRec). AreLinkedClasses 16 c.args.tabled.classes ms) (sym c.methods.ensures.is)
    (linked_few n.packages n.roles n c.requires.names c.args.tabled.classes c.requires.table c.facts.ensures.few)

pub of-requires-clause-known : goal.of-requires-clause-known
of-requires-clause-known c =
    let n = c.args.tabled.names in
    methods_of_table n.packages n.roles n c.requires.names c.args.tabled.classes c.requires.table c.methods.result.now c.methods.ensures.is

pub world_of-requires-clause-by_class : goal.world_of-requires-clause-by_class
world_of-requires-clause-by_class c = rw (← c.methods.ensures.is) c.in_ok-by_class.ensures
