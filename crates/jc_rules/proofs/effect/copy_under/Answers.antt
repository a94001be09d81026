use Rattle.std.proofs.Common.{arith}
use Rattle.jc_rules.proofs.Stacks.{cells-copied}
use Rattle.jc_rules.proofs.effect.copy_under.Goals as goal

pub returns-clause-stack : goal.returns-clause-stack
returns-clause-stack c =
    cells-copied c.args.stack.now c.copy_within.new.self c.rotate_right.new.self c.args.depth c.args.copied c.args.under
    (omega arith) (omega arith) c.requires.room c.copy_within.ensures.len c.copy_within.ensures.after c.rotate_right.ensures.after
