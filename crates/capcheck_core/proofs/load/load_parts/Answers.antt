-- the files of both lists are each once
use Rattle.capcheck_core.proofs.Loads.{lent_once}
use Rattle.capcheck_core.proofs.load.load_parts.Goals as goal

pub invariant_of-result : goal.invariant_of-result
invariant_of-result g c = lent_once (g.F.Folder.folders c.load_first.new.folder) c.args.dir.now c.in_ok-first.first c.in-Ok.rest c.in-Ok.ensures.loads
