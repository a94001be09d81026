-- the Header is loaded where the load of the Directory stops
use Rattle.std.proofs.Common.{refl, arith}
use Rattle.capcheck_core.proofs.Loads.{begun, one_more, stopped_there}
use Rattle.capcheck_core.proofs.load.load_first.Goals as goal

pub returns-in-Err-clause-loads : goal.returns-in-Err-clause-loads
returns-in-Err-clause-loads g c =
    let before = g.F.Folder.folders c.args.folder.now in
    let dir = c.args.dir.now in
    let header = c.load_file.new.parts in
    let loaded = one_more before before dir 1 c.new-parts.result header (begun before dir c.new-parts.result c.new-parts.ensures) refl refl
    c.in_ok-load_file.ensures.loads in
    stopped_there before (g.F.Folder.folders c.load_file.new.folder) (g.F.Folder.folders c.load_file-2.new.folder) dir 2
    header header c.load_file-2.new.parts c.in-Err.stop (omega arith) loaded c.in_ok-load_file.ensures.folders refl c.in-Err.ensures.loads
