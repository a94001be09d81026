use Rattle.std.proofs.Common.{arith}
use Rattle.jc_classes.proofs.Growths.{adds_all}
use Rattle.jc_classes.proofs.holes.adds_own.Goals as goal

pub returns : goal.returns
returns c = λ _. adds_all c.args.methods.now c.args.c c.min-first.result c.tokens.token c.args.lists.table.now c.args.lists.inherited.now c.args.lists.list.now
    c.args.lists.made c.min-first.ensures (omega (arith, c.tokens-test.false, c.min-end.ensures, c.reach.ensures)) c.tokens.invariant
