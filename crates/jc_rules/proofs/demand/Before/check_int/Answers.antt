use Rattle.std.proofs.Common.{◌+◌, ◌≤◌, [], ◌∷◌, length, refl, arith}
use Rattle.jc_base.specs.declared.ty.Ty.TheVariants.{IntHigh, IntLow}
use Rattle.jc_rules.specs.declared.demand.Demand.TheVariants.{Registers, Held}
use Rattle.jc_rules.specs.Demand.{here, frame}
use Rattle.jc_rules.proofs.Demands.{judged-later}
use Rattle.jc_rules.proofs.demand.Before.check_int.Goals as goal

pub returns-then-x-self : goal.returns-then-x-self
returns-then-x-self c = here (λ h. absurd (omega arith)) refl

pub returns : goal.returns
returns c =
    let inside : c.args.x + 2 ≤ length c.args.self.now.regs.now = omega arith in
    judged-later c.args.self.now.world.now.classes (frame c.args.self.now) (Registers c.args.x 2)
    (Held c.args.x IntHigh ∷ Held (c.args.x + 1) IntLow ∷ []) c.check.result inside c.check.ensures
