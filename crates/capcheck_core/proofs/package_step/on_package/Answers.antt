-- the parts that were loaded stand for no package
use Rattle.std.proofs.Common.{sym, subst}
use Rattle.std.proofs.lemmas.Result.{err_from_is_err_and}
use Rattle.capcheck_core.specs.Loads.{AreParts}
use Rattle.capcheck_core.specs.Place.{in_components}
use Rattle.capcheck_core.proofs.PackageLoads.{reading_leaves}
use Rattle.capcheck_core.proofs.package_step.on_package.Goals as goal

pub returns-in_err-read : goal.returns-in_err-read
returns-in_err-read g c =
    let before = g.F.Folder.folders c.args.folder.now in
    let p = err_from_is_err_and c.from_residual-in_err-read.result c.from_residual-in_err-read.ensures.1 in
    rw (p.1, p.2)
    (reading_leaves before (g.F.Folder.folders c.load_files.new.folder) (in_components c.args.dir.now) c.in_ok-parts.parts 0 _ c.in_ok-files.ensures.folders
    (subst (λ ps. AreParts before c.args.dir.now ps) (sym c.in_ok-parts.ensures) c.in_ok-files.ensures.loads) c.in_err-read.ensures)
