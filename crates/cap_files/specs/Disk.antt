-- The files in which folders keep their parts: what a disk holds when a file was opened, made or closed.
use Rattle.std.specs.Prelude.{◌≡◌, ◌≢◌, ℕ, ◌≤◌, Bool, true, false, List, [], length, Option, Some, None, IfSome}
use Rattle.std.specs.Prelude.{IsSomeAnd, Result, Ok, Err, ◌⊎◌}
use Rattle.std.specs.FinMap as map
use Rattle.std.specs.IoError.{error_kind}
use Rattle.std.specs.declared.io.Error.{Error}
use Rattle.std.specs.declared.io.ErrorKind.TheVariants.{NotFound}
use Rattle.cap_files.specs.declared.disk.DiskFailed.{DiskFailed}
use Rattle.cap_files.specs.Folder.{Parts, Folders, Holds}

-- the file is there, and all its bytes are left to be read, or it is absent
abbrev pub Opens : Option Parts → List ℕ → Option (List ℕ) → Result Bool DiskFailed → Type 0
Opens held key left (Ok true) = IfSome held (λ parts. IsSomeAnd left (λ bytes. Holds parts key bytes))
Opens held key left (Ok false) = IfSome held (λ parts. map.get parts key ≡ None)
Opens held key left (Err _) = Unit {0}

-- the file has no bytes yet, and all is held as before; after a failure the file may be empty. A disk may cease to tell what it holds, and
-- never begins to
abbrev pub Creates : Option Parts → List ℕ → Option Parts → Option (List ℕ) → Result (Unit {0}) DiskFailed → Type 0
Creates before key after written (Ok _) = IfSome after (λ now. IsSomeAnd before (λ parts. now ≡ parts) × (written ≡ Some []))
Creates before key after written (Err _) =
    IfSome after (λ now. IsSomeAnd before (λ parts. (now ≡ parts) ⊎ (now ≡ map.insert parts key [])))

-- the bytes that were written are held at the part, and all else as before
abbrev pub Closes : Option Parts → List ℕ → Option (List ℕ) → Option Parts → Type 0
Closes before key written after = IfSome after
    (λ now. IsSomeAnd before (λ parts. IsSomeAnd written (λ bytes. now ≡ map.insert parts key bytes)))

-- the path of the file that is open after a call that opens it to be read: none where it is absent, and none after a failure
abbrev pub path_found : List ℕ → Result Bool DiskFailed → Option (List ℕ)
path_found path (Ok true) = Some path
path_found path (Ok false) = None
path_found path (Err _) = None

-- the same after a call that makes it
abbrev pub path_made : List ℕ → Result (Unit {0}) DiskFailed → Option (List ℕ)
path_made path (Ok _) = Some path
path_made path (Err _) = None

-- a call took some of the bytes, none only where there are none
abbrev pub TakesAny : {E : Type 0} → List ℕ → Result ℕ E → Type 0
TakesAny bytes (Ok count) = (count ≤ length bytes) × (count ≡ 0 → length bytes ≡ 0)
TakesAny bytes (Err _) = Unit {0}

-- what a call that opens a file to be read found: the file; none exactly where the error is that there is no such file; else a failure
abbrev pub FindsFile : {F : Type 0} → Result F Error → Result (Option F) DiskFailed → Type 0
FindsFile (Ok file) found = found ≡ Ok (Some file)
FindsFile (Err error) (Ok found) = (found ≡ None) × (error_kind error ≡ NotFound)
FindsFile (Err error) (Err failed) = error_kind error ≢ NotFound

-- what an open file's handle tells
abbrev pub of_open : {F : Type 0} → (F → Option (List ℕ)) → Option F → Option (List ℕ)
of_open told None = None
of_open told (Some file) = told file

-- the folders whose parts are the files of a disk, which does not tell which loads failed
abbrev pub on_disk : Option Parts → ℕ → ℕ → Folders
on_disk held read_faults write_faults = record {
  held = held;
  failed = None;
  load_faults = read_faults;
  store_faults = write_faults;
}
