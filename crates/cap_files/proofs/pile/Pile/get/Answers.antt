use Rattle.std.proofs.Common.{refl, rules}
use Rattle.std.proofs.lemmas.Iterator.Search.{find_from_yields_List}
use Rattle.std.proofs.lemmas.Iterator.Consumers.{YieldsList-from_first}
use Rattle.cap_files.specs.Folder.{key_of}
use Rattle.cap_files.specs.Record.{key_and_bytes}
use Rattle.cap_files.specs.Records.{has_key}
use Rattle.cap_files.specs.RecordsLeft.{records_left}
use Rattle.cap_files.proofs.pile.Pile.get.Goals as goal

pub returns-in-Some : goal.returns-in-Some
returns-in-Some c =
    let found = find_from_yields_List (has_key (key_of c.args.part c.args.dir.now)) c.find.new.self _ _ c.find.ensures.ran
    (YieldsList-from_first key_and_bytes records_left _ c.records.ensures.left) (search rules) in
    rw (← found, c.in-Some.is) refl

pub returns-in-None : goal.returns-in-None
returns-in-None c =
    let found = find_from_yields_List (has_key (key_of c.args.part c.args.dir.now)) c.find.new.self _ _ c.find.ensures.ran
    (YieldsList-from_first key_and_bytes records_left _ c.records.ensures.left) (search rules) in
    rw (← found, c.in-None.is) refl
