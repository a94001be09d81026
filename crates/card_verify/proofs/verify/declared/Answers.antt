use Rattle.std.proofs.Common.{◌-◌, get_or, sym, ◌∙◌, ap, arith, List}
use Rattle.std.proofs.lemmas.Bool.Decides.{nat_tests}
use Rattle.jc_base.specs.declared.ty.Ty.{Ty}
use Rattle.jc_base.specs.declared.ty.Ty.TheVariants.{Bottom}
use Rattle.card_verify.proofs.Starting.{start-static, start-argument}
use Rattle.card_verify.proofs.verify.declared.Goals as goal

pub returns-then-rec : goal.returns-then-rec
returns-then-rec c =
    c.argument.ensures ∙ ap (λ (xs : List Ty). get_or xs c.args.x Bottom) c.as_slice.ensures ∙ sym (start-static c.args.rec.now c.args.x c.if-rec.true)

pub returns : goal.returns
returns c =
    c.argument-2.ensures ∙ ap (λ (xs : List Ty). get_or xs (c.args.x - 1) Bottom) c.as_slice-2.ensures
    ∙ sym (start-argument c.args.rec.now c.args.x c.if-rec.false (λ e. absurd (grind (arith, nat_tests, c.if-x-eq0.false, e))))
