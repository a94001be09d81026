use Rattle.std.proofs.Common.{arith}
use Rattle.xf_homes.specs.PlannedMethod.{source}
use Rattle.xf_code.proofs.Copying.{cells-past}
use Rattle.xf_code.proofs.Steps.{ended}
use Rattle.xf_code.proofs.emitter.Emitter.cell_copies.Goals as goal

pub returns : goal.returns
returns c =
    ended c.cells.items.items _ _
    (cells-past (source c.args.self.now.plan) c.args.from.now c.args.to.now c.cells.n (omega (arith, c.cells-test.false, c.min-count.ensures)))
    c.cells.invariant
