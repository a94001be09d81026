-- What is read of a file, and written to one, where the disk tells its bytes or not.
use Rattle.std.specs.Prelude.{◌≡◌, ℕ, ◌≤◌, Bool, false, List, ◌++◌, length, take, Option, IfSome, Result, Ok, Err}
use Rattle.std.specs.Io.KnownBytes.{Appends, Consumes, IsAtEnd}
use Rattle.cap_files.specs.declared.folder.LoadEnd.{LoadEnd}
use Rattle.cap_files.specs.declared.folder.LoadEnd.TheVariants.{Failed, TooLong, Memory}
use Rattle.cap_files.specs.declared.folder.StoreFailed.{StoreFailed}
use Rattle.cap_files.specs.Counts.{Rose}

-- all that a file has left was read, at most the bytes that a part can have; or as TooLong its first bytes
abbrev pub TakesAll : Option (List ℕ) → List ℕ → Result (Unit {0}) LoadEnd → Type 0
TakesAll left to (Ok _) = (length to ≤ 65538) × IfSome left (λ bytes. to ≡ bytes)
TakesAll left to (Err TooLong) = (length to ≡ 65539) × IfSome left (λ bytes. to ≡ take (length to) bytes)
TakesAll left to (Err Failed) = Unit {0}
TakesAll left to (Err Memory) = Unit {0}

-- one read puts the next bytes after those that were read, and answers false at the file's end alone; it is never too long
abbrev pub TakesMore : Option (List ℕ) → Option (List ℕ) → List ℕ → List ℕ → Result Bool LoadEnd → Type 0
TakesMore left rest to after (Ok more) =
    ((bytes : List ℕ) × (after ≡ to ++ bytes) × Consumes left rest bytes) × (more ≡ false → IsAtEnd rest)
TakesMore left rest to after (Err TooLong) = ⊥
TakesMore left rest to after (Err Failed) = Unit {0}
TakesMore left rest to after (Err Memory) = Unit {0}

-- all bytes were written, or after a failure the first of them
abbrev pub GivesAll : Option (List ℕ) → Option (List ℕ) → List ℕ → Result (Unit {0}) StoreFailed → Type 0
GivesAll before after bytes (Ok _) = Appends before after bytes
GivesAll before after bytes (Err _) = (n : ℕ) × Appends before after (take n bytes)

-- a read of the disk raised the count where it failed, and else left it
abbrev pub CountsRead : {A : Type 0} → ℕ → ℕ → Result A LoadEnd → Type 0
CountsRead before now (Ok x) = now ≡ before
CountsRead before now (Err Failed) = (before ≤ now) × Rose before now
CountsRead before now (Err TooLong) = now ≡ before
CountsRead before now (Err Memory) = now ≡ before
