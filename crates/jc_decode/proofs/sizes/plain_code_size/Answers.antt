use Rattle.std.proofs.Common.{ap, ◌∙◌, arith}
use Rattle.jc_decode.specs.CodeSize.{plain_sum}
use Rattle.jc_decode.proofs.PlainLengths.{plain_known, plain_is}
use Rattle.jc_decode.proofs.sizes.plain_code_size.Goals as goal

pub overflow_add-size : goal.overflow_add-size
overflow_add-size c =
    let k = plain_known c.args.code.bytes.now (c.instructions_are_listed.ensures c.args.code.bytes.now) in
    omega (arith, k.sum, c.walk.invariant, ap plain_sum c.in-Some.ensures.steps, c.plain_length-size.ensures, c.requires)

pub overflow_sub-result : goal.overflow_sub-result
overflow_sub-result c =
    let k = plain_known c.args.code.bytes.now (c.instructions_are_listed.ensures c.args.code.bytes.now) in
    omega (arith, k.ends, c.code_end-end.ensures.place, c.from.ensures)

pub overflow_add-result : goal.overflow_add-result
overflow_add-result c =
    let k = plain_known c.args.code.bytes.now (c.instructions_are_listed.ensures c.args.code.bytes.now) in
    omega (arith, k.most, k.ends, c.walk.invariant, ap plain_sum c.in-None.ensures.steps.0, c.code_end-end.ensures.place, c.from.ensures, c.requires)

pub returns-clause-size : goal.returns-clause-size
returns-clause-size c =
    plain_is c.args.code.bytes.now c.walk.size c.from.result (omega (arith, c.walk.invariant, ap plain_sum c.in-None.ensures.steps.0))
    (c.from.ensures ∙ c.code_end-end.ensures.place)

pub returns-clause-least : goal.returns-clause-least
returns-clause-least c =
    let k = plain_known c.args.code.bytes.now (c.instructions_are_listed.ensures c.args.code.bytes.now) in
    omega (arith, k.least, k.ends, c.walk.invariant, ap plain_sum c.in-None.ensures.steps.0, c.code_end-end.ensures.place, c.from.ensures)

pub returns-clause-most : goal.returns-clause-most
returns-clause-most c =
    let k = plain_known c.args.code.bytes.now (c.instructions_are_listed.ensures c.args.code.bytes.now) in
    omega (arith, k.most, k.ends, c.walk.invariant, ap plain_sum c.in-None.ensures.steps.0, c.code_end-end.ensures.place, c.from.ensures)
