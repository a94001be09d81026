use Rattle.std.proofs.Common.{◌≡◌, refl, sym, subst, true}
use Rattle.jc_base.specs.Order.{same}
use Rattle.jc_base.proofs.Subtypes.{is_below-refl}
use Rattle.jc_rules.specs.Demand.{Meets, meets}
use Rattle.jc_rules.proofs.demand.meets.Goals as goal

pub returns-then-is_very-clause-is : goal.returns-then-is_very-clause-is
returns-then-is_very-clause-is c = (
  λ _.
      subst (λ want. Meets c.args.classes.now want c.args.found) (sym (c.is_very.ensures c.if-is_very.true)) same,
  λ _. refl,
)

pub returns-then-is_very-clause-computed : goal.returns-then-is_very-clause-computed
returns-then-is_very-clause-computed c =
    subst (λ want. true ≡ meets c.args.classes.now want c.args.found) (sym (c.is_very.ensures c.if-is_very.true))
    (sym (is_below-refl c.args.classes.now c.args.found))
