use Rattle.std.proofs.Common.{◌<◌, length, subst, arith, All}
use Rattle.std.proofs.lemmas.List.{take_all}
use Rattle.std.proofs.lemmas.List.Elements.{All-more}
use Rattle.jc_base.specs.Order.{IsKnown}
use Rattle.jc_tests.proofs.rules.all_known.Goals as goal

pub types-preserved : goal.types-preserved
types-preserved c =
    let inside : c.types.ty-index < length c.args.types.now = omega arith in
    All-more (IsKnown c.args.classes.now) c.args.types.now c.types.ty-index _ inside c.types.invariant (c.is_known.ensures c.if-not-is_known.false)

pub returns : goal.returns
returns c = λ _. subst (λ tys. All (IsKnown c.args.classes.now) tys) (take_all c.types.ty-index c.args.types.now (omega arith)) c.types.invariant
