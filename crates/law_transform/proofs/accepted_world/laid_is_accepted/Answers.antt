use Rattle.law_transform.proofs.Accepted.{laid-is-accepted}
use Rattle.law_transform.proofs.accepted_world.laid_is_accepted.Goals as goal

pub returns : goal.returns
returns c =
    laid-is-accepted c.args.world.now
    (record {
      links = c.classes-classes.ensures.links;
      bytes = c.codes_are_bytes.ensures;
      listed = c.instructions_are_listed.ensures;
      placed = c.instructions_are_placed.ensures;
      live = c.live_are_kept.ensures;
      rewritten = c.rewritten_is_typed.ensures;
      landed = c.laid_is_typed.ensures;
      kept = c.typings_are_kept.ensures.card;
    })
    c.links_again.ensures c.laid_methods_stand.ensures
