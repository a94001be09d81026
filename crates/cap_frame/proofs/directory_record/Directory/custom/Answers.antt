use Rattle.std.proofs.lemmas.Iterator.Consumers.{nth_from_yields_List, YieldsList-from_first}
use Rattle.cap_frame.specs.Directory.{custom_seen, customs_left, directory_items}
use Rattle.cap_frame.proofs.directory_record.Directory.custom.Goals as goal

pub returns : goal.returns
returns c =
    nth_from_yields_List c.nth.result c.nth.new.self c.args.n c.nth.ensures.ran
    (YieldsList-from_first custom_seen customs_left (directory_items c.args.self.now).customs c.customs.ensures)
