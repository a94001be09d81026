-- The info among the parts is the one that was read.
use Rattle.std.proofs.Common.{subst}
use Rattle.cap_pool.specs.PoolFormat.{pool_info}
use Rattle.cap_components.specs.PackageRecord.{PackageRecord}
use Rattle.cap_components.specs.Saying.{HoldsComponent}
use Rattle.cap_package.proofs.OneRecord.{answer_is, holds-info}
use Rattle.cap_package.proofs.packages.Package.pool.Goals as goal

pub returns-clause-info : goal.returns-clause-info
returns-clause-info c =
    let all = c.self.inside.all in
    let P : PackageRecord → Type 0 = λ p. HoldsComponent p.parts 5 pool_info all.pool.info.bytes.now p.pool in
    subst P c.self.view_is (holds-info _ 5 pool_info _ _ (answer_is _ _ c.self.invariant.0).said.pool c.self.invariant.1.pool)
