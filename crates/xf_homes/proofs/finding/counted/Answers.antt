use Rattle.std.proofs.Common.{arith}
use Rattle.xf_homes.proofs.Lists.{sum-none, sum-next}
use Rattle.xf_homes.proofs.finding.counted.Goals as goal

pub homes-init : goal.homes-init
homes-init c = omega (arith, sum-none)

pub homes-preserved : goal.homes-preserved
homes-preserved c =
    let more = sum-next c.as_slice-home-items.result.now c.homes.home-index _ c.width.result c.homes-test.true c.width.ensures in
    omega (arith, more, c.homes.invariant, c.from.ensures, c.saturating_add-sum.ensures)
