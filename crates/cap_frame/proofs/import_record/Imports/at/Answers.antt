use Rattle.std.proofs.lemmas.Iterator.Consumers.{nth_from_yields_List, YieldsList-from_first}
use Rattle.cap_frame.specs.Imports.{packages}
use Rattle.cap_frame.specs.Packages.{package_seen, packages_left}
use Rattle.cap_frame.proofs.import_record.Imports.at.Goals as goal

pub returns : goal.returns
returns c =
    nth_from_yields_List c.nth.result c.nth.new.self c.args.n c.nth.ensures.ran
    (YieldsList-from_first package_seen packages_left (packages c.args.self.now) c.iter.ensures)
