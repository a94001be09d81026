use Rattle.std.proofs.Common.{◌↔◌, IsTrue}
use Rattle.std.specs.Prelude.{slice_get}
use Rattle.jc_base.specs.Dispatch.{IsConcrete}
use Rattle.jc_base.proofs.Concreteness.{concrete-is}
use Rattle.jc_base.proofs.Lists.{IfSome-is}
use Rattle.jc_base.proofs.world.World.is_concrete.Goals as goal

pub returns-clause-is : goal.returns-clause-is
returns-clause-is c =
    let w = c.self.inside in
    rw (← c.self.view_is)
    (IfSome-is (λ b. IsTrue b ↔ IsConcrete w.classes w.methods c.args.class) (slice_get w.by_class.concrete c.args.class) c.is_concrete.result
    (c.self.invariant.1.concrete c.args.class) c.is_concrete.ensures)

pub returns-clause-computed : goal.returns-clause-computed
returns-clause-computed c =
    let w = c.self.inside in
    rw (← c.self.view_is)
    (concrete-is w.classes w.methods c.args.class c.is_concrete.result
    (IfSome-is (λ b. IsTrue b ↔ IsConcrete w.classes w.methods c.args.class) (slice_get w.by_class.concrete c.args.class) c.is_concrete.result
    (c.self.invariant.1.concrete c.args.class) c.is_concrete.ensures))
