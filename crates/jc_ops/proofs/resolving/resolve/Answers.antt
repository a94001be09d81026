use Rattle.std.proofs.Common.{IsSomeAnd, IfOk, subst, sym}
use Rattle.jc_ops.specs.Sound.{IsSound}
use Rattle.jc_ops.proofs.Soundness.{resolved-sound}
use Rattle.jc_ops.proofs.resolving.resolve.Goals as goal

pub returns-clause-sound : goal.returns-clause-sound
returns-clause-sound c =
    subst (λ o. IsSomeAnd o (λ m. IfOk c.resolved.result (IsSound c.args.world.now m c.args.site.place))) (sym c.method.ensures.is)
    (resolved-sound c.args.world.now c.classes-classes.ensures.links (c.concrete_decides.ensures c.args.world.now.classes c.args.world.now.methods)
    c.method.result.now c.args.site.place c.args.insn c.resolved.result c.method.ensures.links.result c.resolved.ensures)
