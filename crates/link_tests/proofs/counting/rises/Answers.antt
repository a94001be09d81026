use Rattle.std.proofs.Common.{◌≡◌, List, drop, All, subst}
use Rattle.jc_base.specs.declared.ty.Ty.{Ty}
use Rattle.jc_base.specs.declared.ty.Ty.TheVariants.{Bottom}
use Rattle.link_tests.proofs.Raised.{two-passes}
use Rattle.link_tests.proofs.counting.rises.Goals as goal

pub returns-in-Ok-clause-least : goal.returns-in-Ok-clause-least
returns-in-Ok-clause-least g c = λ t.
    two-passes c.args.world.now c.args.method c.method.result.now c.method.ensures.is c.method.ensures.links.words c.index_laws.ensures.twice
    c.args.index.now c.verify_indexed.new.regs c.args.steps.now c.verify_indexed.new.steps
    (subst (λ n. ¬ (All (λ (ty : Ty). ty ≡ Bottom) (drop n c.verify_indexed.new.regs))) c.from-first.ensures
    (subst (λ (tys : List Ty). ¬ (All (λ (ty : Ty). ty ≡ Bottom) tys)) c.after.ensures (c.is_raised.ensures t)))
    c.in-Ok.ensures.known c.in-Ok.ensures.counted
