use Rattle.std.proofs.Common.{◌==◌, rules}
use Rattle.std.proofs.lemmas.Iterator.Search.{find_from_yields_List}
use Rattle.std.proofs.lemmas.Iterator.Consumers.{YieldsList-from_first}
use Rattle.cap_class.specs.ClassPart.{class_seen, classes_left, records}
use Rattle.cap_class.proofs.class_info.ClassPart.entry.Goals as goal

pub returns : goal.returns
returns c =
    find_from_yields_List (λ k. k.offset == c.args.offset) c.find.new.self _ c.find.result c.find.ensures.ran
    (YieldsList-from_first class_seen classes_left (records c.args.self.now) c.iter.ensures.records) (λ x b q h. search rules)
