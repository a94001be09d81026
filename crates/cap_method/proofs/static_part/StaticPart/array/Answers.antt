use Rattle.std.proofs.lemmas.Iterator.Consumers.{nth_from_yields_List, YieldsList-from_first}
use Rattle.cap_method.specs.StaticPart.{array_seen, arrays_left, statics_seen}
use Rattle.cap_method.proofs.static_part.StaticPart.array.Goals as goal

pub returns : goal.returns
returns c =
    nth_from_yields_List c.nth.result c.nth.new.self c.args.n c.nth.ensures.ran
    (YieldsList-from_first array_seen arrays_left (statics_seen c.args.self.now).arrays c.arrays.ensures.arrays)
