-- the part that was read is the one that is added
use Rattle.std.specs.Prelude.{Some}
use Rattle.capcheck_core.proofs.Loads.{has_read}
use Rattle.capcheck_core.proofs.load.load_file.Goals as goal

pub returns-in-Ok-clause-loads : goal.returns-in-Ok-clause-loads
returns-in-Ok-clause-loads g c = record {
  file = Some c.load.new.to.items;
  has = has_read (g.F.Folder.folders c.args.folder.now) c.args.dir.now
      c.load.new.to.items c.args.part.0 c.load.result c.in-Ok-true.field-0 c.in-Ok-true.is
      (let test = c.in-Ok-true.field-0-test in let is = c.in-Ok-true.field-0-is in cc) c.load.ensures.bytes;
  adds = c.in-Ok.ensures.ok;
}
