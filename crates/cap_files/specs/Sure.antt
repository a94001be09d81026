-- Devices in memory that never fail: what goes beyond their room is taken, and from then on they do not tell what they have.
use Rattle.std.specs.Prelude.{ℕ, false, List, Option, Some, None, if◌then◌else◌}
use Rattle.cap_files.specs.declared.sure.SureFolder.{SureFolder}
use Rattle.cap_files.specs.declared.sure.SureSink.{SureSink}
use Rattle.cap_files.specs.Folder.{Folders}
use Rattle.cap_files.specs.Shelf as shelf
use Rattle.cap_files.specs.Tape as tape

-- a folder from outside: it tells what it holds until something went beyond its room, and no load or store of it fails
abbrev pub folders_told : SureFolder → Folders
folders_told folder = record {
  held = if folder.told then Some folder.shelf.parts else None;
  failed = None;
  load_faults = 0;
  store_faults = 0;
}

-- a part set, where the room suffices
abbrev pub set : SureFolder → List ℕ → List ℕ → SureFolder
set folder key bytes = record folder { shelf = shelf.placed folder.shelf key bytes }

-- a part stored
abbrev pub stored : SureFolder → List ℕ → List ℕ → SureFolder
stored folder key bytes = if shelf.has_room folder.shelf key bytes then set folder key bytes else record folder { told = false }

-- what a sink received, where it tells
abbrev pub text_told : SureSink → Option (List ℕ)
text_told sink = if sink.told then Some sink.tape.bytes else None

-- a piece put
abbrev pub received : SureSink → List ℕ → SureSink
received sink piece = if tape.has_room sink.tape piece
    then record sink { tape = tape.appended sink.tape piece } else record sink { told = false }

-- a sink never fails
abbrev pub no_faults : {A : Type 0} → A → ℕ
no_faults device = 0
