-- The rule of a method of the world, by the record of the method and by the site of the instruction.
use Rattle.std.proofs.Common.{arith}
use Rattle.jc_base.specs.World.{Linked}
use Rattle.jc_rules.proofs.Sites.{of-site, refuses-of-site}
use Rattle.card_typing.specs.Laws.{RuleIsOfRecord}

pub rule-is-of-record : (w : Linked) → RuleIsOfRecord w
rule-is-of-record w = grind (arith, of-site, refuses-of-site)
