use Rattle.std.proofs.Common.{List, subst, sym}
use Rattle.jc_base.specs.declared.record.MethodRec.{MethodRec}
use Rattle.jc_base.specs.ByClass.{IsIndexOf}
use Rattle.jc_link.proofs.Worlds.{world-made, linked-made}
use Rattle.jc_link.proofs.linking.world_of.Goals as goal

pub of-requires-clause-world : goal.of-requires-clause-world
of-requires-clause-world c =
    let n = c.args.tabled.names in
    let x = c.args.taken in
    world-made n.packages n.roles n c.requires.names c.args.tabled.classes c.requires.table c.args.resolved c.requires.resolved
    x.infos c.requires.taken.infos c.into_methods-methods.result c.into_methods-methods.ensures x.arrays c.requires.taken.arrays x.indexes
    c.requires.taken.indexes
    c.concrete_decides.ensures c.requires.members c.requires.taken.bytes c.requires.taken.elements

pub of-requires-clause-by_class : goal.of-requires-clause-by_class
of-requires-clause-by_class c =
    subst (λ (ms : List MethodRec). IsIndexOf c.args.tabled.classes ms c.args.by_class) (sym c.into_methods-methods.ensures) c.requires.by_class

pub returns : goal.returns
returns c =
    let n = c.args.tabled.names in
    let x = c.args.taken in
    linked-made n.packages n.roles n c.requires.names c.args.tabled.classes c.requires.table c.args.resolved c.requires.resolved
    x.infos c.requires.taken.infos c.into_methods-methods.result c.into_methods-methods.ensures x.arrays c.requires.taken.arrays x.indexes
    c.requires.taken.indexes
    c.of.result c.of.ensures c.requires.classes c.requires.members
