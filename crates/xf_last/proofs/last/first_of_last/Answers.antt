use Rattle.std.proofs.Common.{arith}
use Rattle.xf_last.proofs.OwnMethods.{first-here, first-later, none-left}
use Rattle.xf_last.proofs.last.first_of_last.Goals as goal

pub methods-preserved : goal.methods-preserved
methods-preserved c = λ first is.
    first-later c.args.world.now c.methods.number first is (c.methods.invariant first is) c.is_of_last.result c.is_of_last.ensures c.if-is_of_last.false

pub returns-then-is_of_last-clause-begins : goal.returns-then-is_of_last-clause-begins
returns-then-is_of_last-clause-begins c =
    first-here c.args.world.now c.methods.number c.requires.0 c.requires.1 (c.methods.invariant c.requires.0 c.requires.1) c.is_of_last.result
    c.is_of_last.ensures c.if-is_of_last.true

pub returns-clause-begins : goal.returns-clause-begins
returns-clause-begins c =
    let first = c.requires.0 in
    none-left c.args.world.now c.method_count-count.result first c.requires.1
    (omega (arith, c.methods.invariant first c.requires.1, c.methods-test.false, c.methods.auto.number-end))
    (omega (arith, c.method_count-count.ensures.is))
