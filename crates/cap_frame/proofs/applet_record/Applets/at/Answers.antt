use Rattle.std.proofs.lemmas.Iterator.Consumers.{nth_from_yields_List, YieldsList-from_first}
use Rattle.cap_frame.specs.Applets.{applet_seen, applets_left, applets_of}
use Rattle.cap_frame.proofs.applet_record.Applets.at.Goals as goal

pub returns : goal.returns
returns c =
    nth_from_yields_List c.nth.result c.nth.new.self c.args.n c.nth.ensures.ran
    (YieldsList-from_first applet_seen applets_left (applets_of c.args.self.now) c.iter.ensures)
