-- no method is refused
use Rattle.std.proofs.Common.{subst}
use Rattle.capcheck_core.specs.Run.{bounded_request, StopsRun}
use Rattle.capcheck_core.proofs.Cardings.{none_refused}
use Rattle.capcheck_core.proofs.running.run_carded.Goals as goal

pub unreachable-requires : goal.unreachable-requires
unreachable-requires c =
    let w = c.args.world.now in
    let same = c.in-Err-Refused.field-0-is in
    let first = subst (StopsRun w (bounded_request c.args.run)) same c.in-Err-Refused.ensures.runs in
    let is = rw same at c.code-code.ensures.is in
    let long = rw same at c.code-code.ensures.len in
    none_refused w c.in-Err-Refused.method c.in-Err-Refused.field-0-1 c.code-code.result.now c.requires.carded first is long
