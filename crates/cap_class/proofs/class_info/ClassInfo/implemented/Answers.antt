use Rattle.std.proofs.lemmas.Iterator.Consumers.{nth_from_yields_List, YieldsList-from_first}
use Rattle.cap_class.specs.Lists.{interface_seen, interfaces_left}
use Rattle.cap_class.specs.ClassPart.{class_seen}
use Rattle.cap_class.proofs.class_info.ClassInfo.implemented.Goals as goal

pub returns : goal.returns
returns c =
    nth_from_yields_List c.nth.result c.nth.new.self c.args.n c.nth.ensures.ran
    (YieldsList-from_first interface_seen interfaces_left (class_seen c.args.self.now).interfaces c.interfaces.ensures.interfaces)
