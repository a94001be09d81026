use Rattle.law_rewritten_typing.proofs.RewrittenTyping.{rewritten-is-typed}
use Rattle.law_rewritten_typing.proofs.laws.rewritten_is_typed.Goals as goal

pub returns : goal.returns
returns c = rewritten-is-typed c.args.world.now c.premises_hold.ensures
