use Rattle.std.proofs.Common.{◌∙◌, sym, arith}
use Rattle.cap_listing.proofs.FirstFaults.{missing-refused}
use Rattle.cap_listing.proofs.fitting.check_others.Goals as goal

pub returns-else-methods-owns : goal.returns-else-methods-owns
returns-else-methods-owns c =
    sym (missing-refused c.methods.n c.min-both.result c.args.methods.now c.args.owns.now
    (omega (arith, c.methods-test.false, c.methods.auto.n-end, c.min-both.ensures)) (omega (arith, c.methods-test.false, c.methods.auto.n-end))
    (λ e. c.if-methods-owns.false e))
    ∙ c.methods.invariant
