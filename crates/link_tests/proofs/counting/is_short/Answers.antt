use Rattle.std.proofs.Common.{sym, ◌∙◌, arith}
use Rattle.std.proofs.lemmas.Bool.{false≢true}
use Rattle.std.proofs.lemmas.Bool.Decides.{nat_tests}
use Rattle.link_tests.proofs.Raised.{alone-on-chain}
use Rattle.link_tests.proofs.counting.is_short.Goals as goal

pub returns-else-is_class : goal.returns-else-is_class
returns-else-is_class c = λ more.
    alone-on-chain c.args.classes.now c.args.number c.args.most (λ is. false≢true (sym c.if-is_class.false ∙ c.is_class.ensures.1 is))
    (grind (arith, nat_tests, more))
