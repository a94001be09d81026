use Rattle.std.specs.Prelude.{Contains}
use Rattle.std.proofs.Common.{arith}
use Rattle.card_verify.proofs.Nearest.{told-here}
use Rattle.card_verify.proofs.caught.is_listed.Goals as goal

pub returns-clause-told : goal.returns-clause-told
returns-clause-told g c =
    told-here (Contains c.args.index.now) c.args.place c.next_listed.result c.eq.result c.next_listed.ensures.least (grind (arith, c.eq.ensures))
