use Rattle.std.proofs.Common.{◌↔◌, IsTrue, false, arith}
use Rattle.jc_base.specs.Dispatch.{IsConcrete}
use Rattle.jc_base.proofs.Concreteness.{concrete-is}
use Rattle.jc_base.proofs.visible_bodies.is_concrete.Goals as goal

pub returns-then-is_interface-clause-computed : goal.returns-then-is_interface-clause-computed
returns-then-is_interface-clause-computed c =
    let is : IsTrue false ↔ IsConcrete c.args.classes.now c.args.methods.now c.args.class = grind arith in
    concrete-is c.args.classes.now c.args.methods.now c.args.class false is

pub returns-clause-computed : goal.returns-clause-computed
returns-clause-computed c =
    let is : IsTrue c.visible_have_bodies.result ↔ IsConcrete c.args.classes.now c.args.methods.now c.args.class = grind arith in
    concrete-is c.args.classes.now c.args.methods.now c.args.class c.visible_have_bodies.result is
