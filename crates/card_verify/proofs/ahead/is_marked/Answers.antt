use Rattle.std.proofs.Common.{arith}
use Rattle.card_verify.proofs.Nearest.{told-here}
use Rattle.card_verify.proofs.ahead.is_marked.Goals as goal

pub returns-clause-told : goal.returns-clause-told
returns-clause-told g c =
    told-here (g.M.Marks.marks c.args.marks.now) c.args.place c.next_from.result c.eq.result c.next_from.ensures.least (grind (arith, c.eq.ensures, c.from.ensures))
