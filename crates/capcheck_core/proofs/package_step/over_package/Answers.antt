-- the package was not loaded
use Rattle.std.proofs.Common.{inl}
use Rattle.capcheck_core.proofs.OnPackages.{stopped_at_package}
use Rattle.capcheck_core.proofs.package_step.over_package.Goals as goal

pub returns-in-Err : goal.returns-in-Err
returns-in-Err g c =
    inl (stopped_at_package c.args.dir.now (g.F.Folder.folders c.args.folder.now) (g.F.Folder.folders c.on_package.new.folder) c.in-Err.stop
    c.verdict.result c.in-Err.ensures.0 c.in-Err.ensures.1 c.verdict.ensures)
