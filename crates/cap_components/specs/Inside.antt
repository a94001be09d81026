-- What the lists of parts hold in memory, as the list of files that contracts see.
use Rattle.std.specs.Prelude.{List, map}
use Rattle.cap_components.specs.declared.parts.LentPart.{LentPart}
use Rattle.cap_components.specs.declared.parts.OwnedPart.{OwnedPart}
use Rattle.cap_components.specs.Parts.{Lent}

abbrev pub lent_part : LentPart → Lent
lent_part lent = record { part = lent.part.0; bytes = lent.bytes.now }

abbrev pub lent_list : List LentPart → List Lent
lent_list = map lent_part

abbrev pub owned_part : OwnedPart → Lent
owned_part owned = record { part = owned.part.0; bytes = owned.bytes.items }

abbrev pub owned_list : List OwnedPart → List Lent
owned_list = map owned_part
