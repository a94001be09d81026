use Rattle.std.proofs.Common.{◌≡◌, ◌+◌, suc, get_or, sym, ap, ◌∙◌, arith}
use Rattle.std.proofs.lemmas.Bool.{false≢true}
use Rattle.jc_base.specs.declared.ty.Ty.TheVariants.{Bottom}
use Rattle.xf_allot.proofs.Variables.{high-alone, high-other, int-there}
use Rattle.xf_allot.proofs.fitting.int_at.Goals as goal

pub returns-then-low-types-clause-none : goal.returns-then-low-types-clause-none
returns-then-low-types-clause-none c =
    let low = c.if-low-types.true in
    let at = c.from-low.ensures in
    high-alone c.args.types.now c.args.register Bottom c.requires.inside c.requires.high (omega (arith, low, at))

pub returns-then-not-same_type-clause-none : goal.returns-then-not-same_type-clause-none
returns-then-not-same_type-clause-none c =
    let types = c.args.types.now in
    let x = c.args.register in
    let low = c.if-low-types.false in
    let at = c.from-low.ensures in
    let index : c.from-low.result + 1 ≡ suc x = omega (arith, at) in
    high-other types x Bottom c.requires.inside c.requires.high (omega (arith, low, at))
    (λ e. false≢true (sym c.if-not-same_type.true ∙ c.same_type.ensures.is.1 (ap (λ n. get_or types n Bottom) index ∙ e)))

pub returns-clause-some : goal.returns-clause-some
returns-clause-some c =
    let types = c.args.types.now in
    let x = c.args.register in
    let low = c.if-low-types.false in
    let at = c.from-low.ensures in
    let index : c.from-low.result + 1 ≡ suc x = omega (arith, at) in
    int-there types x Bottom c.requires.inside c.requires.high (omega (arith, low, at))
    (sym (ap (λ n. get_or types n Bottom) index) ∙ c.same_type.ensures.is.0 c.if-not-same_type.false)
