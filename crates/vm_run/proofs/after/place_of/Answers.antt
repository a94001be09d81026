use Rattle.std.proofs.Common.{arith}
use Rattle.std.proofs.lemmas.Int.{ints}
use Rattle.vm_step.specs.Methods.{code_at}
use Rattle.vm_run.proofs.Found.{target-range, code-short}
use Rattle.vm_run.proofs.after.place_of.Goals as goal

pub as_place-requires-clause-high : goal.as_place-requires-clause-high
as_place-requires-clause-high c =
    let code = code_at c.args.world.now c.args.method in
    let short = code-short c.code-short.result.bytes.now code c.code-short.ensures.is c.code-short.ensures.short in
    let range = target-range code (c.instructions_are_listed.ensures code) c.args.to c.requires.target short in
    let fits = c.ranges.to.sfits in
    omega (arith, ints, range.1)

pub as_place-requires-clause-low : goal.as_place-requires-clause-low
as_place-requires-clause-low c =
    let code = code_at c.args.world.now c.args.method in
    let short = code-short c.code-short.result.bytes.now code c.code-short.ensures.is c.code-short.ensures.short in
    let range = target-range code (c.instructions_are_listed.ensures code) c.args.to c.requires.target short in
    let fits = c.ranges.to.sfits in
    omega (arith, ints, range.0)
