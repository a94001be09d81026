use Rattle.std.proofs.Common.{inl, inr, arith}
use Rattle.std.proofs.lemmas.Int.{ints}
use Rattle.vm_step.specs.Methods.{code_at}
use Rattle.vm_run.proofs.Found.{no-target, code-short}
use Rattle.vm_run.proofs.places.MarkedPlaces.has_target.Goals as goal
use Rattle.vm_run.proofs.places.MarkedPlaces.has_target.Goals.{then-to-lt0-via-then-to-lt0, then-to-lt0-via-else-to-lt0+then-to-gt65535}

pub returns-then-to-lt0 : goal.returns-then-to-lt0
returns-then-to-lt0 c =
    let code = code_at c.args.world.now c.args.method in
    let listed = c.instructions_are_listed.ensures code in
    let short = code-short c.code-short.result.bytes.now code c.code-short.ensures.is c.code-short.ensures.short in
    let fits = c.ranges.to.sfits in
    elim c.then-to-lt0.branch [
      | then-to-lt0-via-then-to-lt0 w ↦ no-target code listed c.args.to short (inl (omega (arith, ints, w.if-to-lt0.true)))
      | then-to-lt0-via-else-to-lt0+then-to-gt65535 w ↦ no-target code listed c.args.to short (inr (omega (arith, ints, w.if-to-gt65535.true)))
    ]
