use Rattle.law_transform.proofs.Laid.{laid-are-counterparts, laid-end-alike}
use Rattle.law_transform.proofs.accepted_world.laid_end_alike.Goals as goal

pub returns-clause-counterparts : goal.returns-clause-counterparts
returns-clause-counterparts c =
    laid-are-counterparts c.args.world.now
    (record {
      links = c.classes-classes.ensures.links;
      bytes = c.codes_are_bytes.ensures;
      listed = c.instructions_are_listed.ensures;
      placed = c.instructions_are_placed.ensures;
      live = c.live_are_kept.ensures;
      rewritten = c.rewritten_is_typed.ensures;
      landed = c.laid_is_typed.ensures;
      kept = c.typings_are_kept.ensures.card;
    })
    c.catches_by_pool.ensures c.card_laws.ensures.flow c.laid_methods_stand.ensures c.groups_stand_at_steps.ensures.groups c.methods_are_kept.ensures
    c.operations_are_kept.ensures.operations c.operations_are_sound.ensures.sound

pub returns-clause-alike : goal.returns-clause-alike
returns-clause-alike c = laid-end-alike c.args.world.now c.worlds_end_alike.ensures.alike (returns-clause-counterparts c)
