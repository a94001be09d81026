use Rattle.std.proofs.Common.{arith}
use Rattle.jc_control.specs.Subject.{method, world_of}
use Rattle.xf_allot.proofs.Variables.{fits-decided}
use Rattle.xf_allot.proofs.fitting.fits_beside.Goals as goal

pub returns : goal.returns
returns c =
    let after = c.if-other-at.false in
    let before = c.if-at-variable.false in
    let here = c.if-other-at-2.false in
    let width = c.if-other-variable.false in
    fits-decided (world_of c.args.subject.now) (method c.args.subject.now) c.args.variable c.args.at c.args.other c.interfere.result
    (λ le. omega (arith, after, le)) (λ le. omega (arith, before, le)) (omega (arith, here)) (omega (arith, width))
    (c.same_type.ensures.is.0 c.if-not-same_type.false) c.interfere.ensures
