-- `ENTRY DIR+`, the operands of the commands that ask about a method of the packages in folders.
use Rattle.std.specs.Prelude.{◌≡◌, ℕ, List, [], ◌∷◌}
use Rattle.cap_files.specs.WordsLeft.{words_left}
use Rattle.cap_text.specs.declared.operands.AtEntry.{AtEntry}
use Rattle.cap_text.specs.declared.entry.Entry.{Entry}
use Rattle.cap_text.specs.Entry.{IsEntryWord}
use Rattle.cap_text.specs.Word.{AreFolderWords}

-- the entry, and the folders' words in order
pub record EntryRequest : Type 0 where
  pub entry : Entry
  pub dirs : List (List ℕ)

-- the words after the command's name ask for this
abbrev pub AreEntryWords : List (List ℕ) → EntryRequest → Type 0
AreEntryWords [] e = ⊥
AreEntryWords (entry ∷ dirs) e = IsEntryWord entry e.entry × (e.dirs ≡ dirs) × AreFolderWords dirs

-- what a command that was read asks for
abbrev pub entry_request : AtEntry → EntryRequest
entry_request a = record { entry = a.entry; dirs = words_left a.dirs }
