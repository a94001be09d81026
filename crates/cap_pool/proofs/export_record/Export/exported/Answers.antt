use Rattle.std.proofs.lemmas.Iterator.Consumers.{nth_from_yields_List, YieldsList-from_first}
use Rattle.cap_pool.specs.Export.{exported_class_seen, exported_left, export_seen}
use Rattle.cap_pool.proofs.export_record.Export.exported.Goals as goal

pub returns : goal.returns
returns c =
    nth_from_yields_List c.nth.result c.nth.new.self c.args.n c.nth.ensures.ran
    (YieldsList-from_first exported_class_seen exported_left (export_seen c.args.self.now) c.iter.ensures)
