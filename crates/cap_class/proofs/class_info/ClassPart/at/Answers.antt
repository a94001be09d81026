use Rattle.std.proofs.lemmas.Iterator.Consumers.{nth_from_yields_List, YieldsList-from_first}
use Rattle.cap_class.specs.ClassPart.{class_seen, classes_left, records}
use Rattle.cap_class.proofs.class_info.ClassPart.at.Goals as goal

pub returns : goal.returns
returns c =
    nth_from_yields_List c.nth.result c.nth.new.self c.args.n c.nth.ensures.ran
    (YieldsList-from_first class_seen classes_left (records c.args.self.now) c.iter.ensures.records)
