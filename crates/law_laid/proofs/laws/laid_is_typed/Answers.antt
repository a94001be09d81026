use Rattle.law_laid.proofs.LaidTyping.{laid-is-typed}
use Rattle.law_laid.proofs.laws.laid_is_typed.Goals as goal

pub returns : goal.returns
returns c =
    laid-is-typed c.args.world.now c.rule_laws.ensures.world c.operations_are_sound.ensures.sound c.entries_are_named.ensures.rests
    c.instructions_are_listed.ensures
