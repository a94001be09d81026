-- the line of the first reason
use Rattle.std.proofs.Common.{rules, subst}
use Rattle.capcheck_core.specs.Run.{bounded_request}
use Rattle.capcheck_core.specs.Run.{StopsRun}
use Rattle.xf_last.proofs.Passing.{all-carded}
use Rattle.capcheck_core.proofs.Cardings.{first_uncarded}
use Rattle.capcheck_core.proofs.running.not_run.Goals as goal

pub returns-in-Refused : goal.returns-in-Refused
returns-in-Refused c =
    let w = c.args.world.now in
    let first = subst (StopsRun w (bounded_request c.args.run.now)) c.in-Refused.is c.requires.stops in
    λ card. first_uncarded w c.in-Refused.method c.in-Refused.fault c.code-code.result.now c.number_of.result _ first c.code-code.ensures.is
    c.code-code.ensures.len c.number_of.ensures (search rules)

pub returns-in-NotStarted : goal.returns-in-NotStarted
returns-in-NotStarted c =
    let w = c.args.world.now in
    let stops = subst (StopsRun w (bounded_request c.args.run.now)) c.in-NotStarted.is c.requires.stops in
    λ card. record {
      carded = all-carded w stops.0;
      unbegun = record { fault = c.in-NotStarted.fault; first = stops.1; prints = search rules };
    }
