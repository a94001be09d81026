-- A package is what its parts stand for.
use Rattle.std.proofs.Common.{subst}
use Rattle.cap_components.specs.PackageRecord.{PackageRecord}
use Rattle.cap_package.specs.StandsFor.{StandsFor}
use Rattle.cap_package.proofs.OneRecord.{answer_is}
use Rattle.cap_package.proofs.packages.Package.parts.Goals as goal

pub returns-clause-agree : goal.returns-clause-agree
returns-clause-agree c = let P : PackageRecord → Type 0 = λ p. StandsFor p.parts p in subst P c.self.view_is (answer_is _ _ c.self.invariant.0)
