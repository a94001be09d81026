use Rattle.law_share.proofs.Ending.{renamed-end-alike}
use Rattle.law_share.proofs.InStep.{in-step}
use Rattle.law_share.proofs.sharing.renamed_end_alike.Goals as goal

pub returns-clause-alike : goal.returns-clause-alike
returns-clause-alike c =
    renamed-end-alike c.args.world.now
    (record {
      safe = c.typed_code_never_fails.ensures.steps;
      starts = c.typed_code_never_fails.ensures.starts;
      only = c.arguments_are_handed.ensures.only;
      handed = c.arguments_are_handed.ensures.calls;
      begun = c.arguments_are_handed.ensures.starts;
      alike = c.steps_are_alike.ensures;
      stay = c.typed_states_stay.ensures;
      refuse = c.starts_refuse_alike.ensures.refused;
      leave = c.footprint_laws.ensures.alike;
    })

pub returns-clause-in_step : goal.returns-clause-in_step
returns-clause-in_step c =
    λ w typings r one pair. in-step c.args.world.now w (returns-clause-alike c w typings r pair) c.runs_exist.ensures one
