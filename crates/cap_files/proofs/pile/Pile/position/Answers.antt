use Rattle.std.proofs.Common.{rules}
use Rattle.std.proofs.lemmas.Iterator.Search.{position_from_yields_List}
use Rattle.std.proofs.lemmas.Iterator.Consumers.{YieldsList-from_first}
use Rattle.cap_files.specs.Folder.{key_of}
use Rattle.cap_files.specs.Record.{key_and_bytes}
use Rattle.cap_files.specs.Records.{has_key}
use Rattle.cap_files.specs.RecordsLeft.{records_left}
use Rattle.cap_files.proofs.pile.Pile.position.Goals as goal

pub returns : goal.returns
returns c =
    position_from_yields_List (has_key (key_of c.args.part c.args.dir.now)) c.position.new.self _ _ c.position.ensures.ran
    (YieldsList-from_first key_and_bytes records_left _ c.records.ensures.left) (search rules)
