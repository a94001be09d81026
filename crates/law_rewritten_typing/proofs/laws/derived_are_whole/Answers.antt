use Rattle.law_rewritten_typing.proofs.WholeStacks.{derived-are-whole}
use Rattle.law_rewritten_typing.proofs.laws.derived_are_whole.Goals as goal

pub returns : goal.returns
returns c = derived-are-whole c.args.world.now c.rule_laws.ensures c.operations_are_sound.ensures.sound c.operation_laws.ensures.keeps_whole
