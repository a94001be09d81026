use Rattle.std.proofs.Common.{rules}
use Rattle.std.proofs.lemmas.Iterator.Search.{position_from_yields_List}
use Rattle.std.proofs.lemmas.Iterator.Consumers.{YieldsList-from_first}
use Rattle.cap_frame.specs.Packages.{package_seen}
use Rattle.cap_package.specs.PackagesLeft.{packages_left}
use Rattle.jc_resolve.specs.References.{meets_import}
use Rattle.jc_resolve.proofs.imports.place_meeting.Goals as goal

pub returns-clause-is : goal.returns-clause-is
returns-clause-is c =
    position_from_yields_List (meets_import (package_seen c.args.asked)) c.position.new.self _ _ c.position.ensures.ran
    (YieldsList-from_first (λ p. p.now) packages_left (packages_left c.args.packages) (search rules)) (search rules)
