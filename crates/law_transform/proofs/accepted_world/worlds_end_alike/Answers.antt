use Rattle.law_transform.proofs.Beginning.{counterparts-end-alike, starts-are-met, steps-are-met}
use Rattle.law_transform.proofs.Typed.{AreLaws}
use Rattle.law_transform.proofs.accepted_world.worlds_end_alike.Goals as goal
use Rattle.law_transform.proofs.accepted_world.worlds_end_alike.Goals.{After-records}

laws : (c : After-records) → AreLaws c.args.world.now
laws c =
    record {
      links = c.classes.ensures.links;
      safe = c.typed_code_never_fails.ensures.steps;
      starts = c.typed_code_never_fails.ensures.starts;
      only = c.arguments_are_handed.ensures.only;
      handed = c.arguments_are_handed.ensures.calls;
      begun = c.arguments_are_handed.ensures.starts;
      alike = c.steps_are_alike.ensures;
      stay = c.typed_states_stay.ensures;
      refuse = c.starts_refuse_alike.ensures.refused;
      operations = c.operations_are_kept.ensures.operations;
      demands = c.operations_are_kept.ensures.demands;
      calls_end = c.groups_catch.ensures.ends;
      room = c.places_are_renamed.ensures.room;
      catch = c.groups_catch.ensures.catches;
      groups = c.groups_run.ensures;
      calls_return = c.groups_are_entered.ensures.returns;
      handlers = c.groups_are_entered.ensures.handlers;
      enter = c.groups_are_entered.ensures.starts;
    }

pub returns-clause-alike : goal.returns-clause-alike
returns-clause-alike c = counterparts-end-alike c.args.world.now (laws (goal.at.returns-clause-alike c).After-records)

pub returns-clause-steps : goal.returns-clause-steps
returns-clause-steps c = steps-are-met c.args.world.now (laws (goal.at.returns-clause-steps c).After-records)

pub returns-clause-starts : goal.returns-clause-starts
returns-clause-starts c = starts-are-met c.args.world.now (laws (goal.at.returns-clause-starts c).After-records)
