use Rattle.std.proofs.Common.{subst}
use Rattle.cap_package.specs.Agreement.{IsPackage}
use Rattle.cap_package.proofs.StaticsKnown.{statics_known, statics_apart}
use Rattle.cap_package.proofs.packages.Package.static_places.Goals as goal

pub returns-clause-known : goal.returns-clause-known
returns-clause-known c = statics_known c.args.self.now (subst IsPackage c.self.view_is c.self.invariant.0)

pub returns-clause-apart : goal.returns-clause-apart
returns-clause-apart c = statics_apart c.args.self.now (subst IsPackage c.self.view_is c.self.invariant.0)
