use Rattle.law_groups.proofs.Matching.{rewritten-matches}
use Rattle.law_groups.proofs.laws.rewritten_matches.Goals as goal

pub returns : goal.returns
returns c =
    rewritten-matches c.args.world.now
    (record {
      world = c.classes.ensures.links;
      sound = c.operations_are_sound.ensures.sound;
      renames = c.places_are_renamed.ensures.renames;
      room = c.places_are_renamed.ensures.room;
      ends = c.groups_catch.ensures.ends;
      catches = c.groups_catch.ensures.catches;
      groups = c.groups_run.ensures;
      returns = c.groups_are_entered.ensures.returns;
      handlers = c.groups_are_entered.ensures.handlers;
      starts = c.groups_are_entered.ensures.starts;
    })
