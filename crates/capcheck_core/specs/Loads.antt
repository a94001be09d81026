-- The parts of a package's folder, as they are loaded: by rising tag, the components that every package has (JCVM 2.2, section 6.1),
-- and the other ones to which the Directory gives a size that is not 0 (section 6.4). Where the
-- Header or the Directory is absent or malformed, no sizes are told.
use Rattle.std.specs.Prelude.{◌≡◌, ℕ, suc, ◌<◌, ◌≤◌, Bool, true, false, not, ◌&&◌, ◌||◌, ◌==◌, nat_le, List}
use Rattle.std.specs.Prelude.{[], ◌∷◌, ◌++◌, length, filter, Option, Some, None, IsNone, Result, Ok, Err, refl}
use Rattle.cap_frame.specs.DirectoryFormat.{DirectoryItems}
use Rattle.cap_frame.specs.Directory.{size_in}
use Rattle.cap_components.specs.declared.fault.PackFault.{PackFault}
use Rattle.cap_package.specs.Parts.{Lent, held}
use Rattle.cap_package.specs.Components.{read_directory}
use Rattle.cap_package.specs.PartChecks.{required}
use Rattle.std.specs.List.{range_with_len}
use Rattle.cap_files.specs.Folder.{Folders, IsThere, IsAbsent, IsTooLong, LoadFails}

-- the components that every package has: all of the standard but Applet, Export and Debug
abbrev pub is_required : ℕ → Bool
is_required tag = (nat_le 1 tag && nat_le tag 2) || (nat_le 4 tag && nat_le tag 9) || tag == 11

-- these are the components that a package must have
required_are : filter is_required (range_with_len 0 256) ≡ required
required_are = refl

-- those that it may be without: Applet, Export and custom components
abbrev pub is_optional : ℕ → Bool
is_optional tag = tag == 3 || tag == 10 || nat_le 128 tag

abbrev pub is_some_size : Option ℕ → Bool
is_some_size None = false
is_some_size (Some size) = not (size == 0)

-- the Directory gives the component a size that is not 0
abbrev pub is_sized : Result DirectoryItems PackFault → ℕ → Bool
is_sized (Ok directory) tag = is_some_size (size_in directory tag)
is_sized (Err fault) tag = false

-- a part is asked for, by the parts that were loaded before it
abbrev pub is_asked : List Lent → ℕ → Bool
is_asked parts tag = is_required tag || (is_optional tag && is_sized (read_directory parts) tag)

-- what a folder has for a part: nothing, or a file that is not too long
abbrev pub Has : Folders → List ℕ → ℕ → Option (List ℕ) → Type 0
Has before dir tag None = IsAbsent before (tag ∷ dir)
Has before dir tag (Some bytes) = IsThere before (tag ∷ dir) bytes × (length bytes ≤ 65538)

-- the parts with what a folder has for one more
abbrev pub with_file : List Lent → ℕ → Option (List ℕ) → List Lent
with_file parts tag None = parts
with_file parts tag (Some bytes) = parts ++ record { part = tag; bytes = bytes } ∷ []

-- the tags of parts rise, from `low` on and below `top`
abbrev pub Rise : ℕ → ℕ → List Lent → Type 0
Rise low top [] = Unit {0}
Rise low top (lent ∷ parts) = (low ≤ lent.part) × (lent.part < top) × Rise (suc lent.part) top parts

-- the parts with a tag below this one, by rising tag: what the Header and the Directory among them ask for is held exactly as
-- the folder has it, and nothing else is held
pub record AreLoaded (before : Folders) (dir : List ℕ) (top : ℕ) (parts : List Lent) : Type 0 where
  pub rising : Rise 0 top parts
  pub asked : (tag : ℕ) → tag < top → is_asked parts tag ≡ true → Has before dir tag (held parts tag)
  pub unasked : (tag : ℕ) → tag < top → is_asked parts tag ≡ false → IsNone (held parts tag)

-- what was loaded for a tag, with the parts before and after it
pub record IsPartAdded (before : Folders) (dir : List ℕ) (tag : ℕ) (parts more : List Lent) : Type 0 where
  pub file : Option (List ℕ)
  pub has : Has before dir tag file
  pub adds : more ≡ with_file parts tag file

-- the parts below this tag are loaded, the one with this tag is asked for, and of its key this is true
pub record StopsAt (before : Folders) (dir : List ℕ) (tag : ℕ) (P : List ℕ → Type 0) : Type 0 where
  pub byte : tag < 256
  pub parts : List Lent
  pub loaded : AreLoaded before dir tag parts
  pub asked : is_asked parts tag ≡ true
  pub holds : P (tag ∷ dir)

-- the part with this tag is the first that is asked for and is longer than a component can be
abbrev pub IsFirstLong : Folders → List ℕ → ℕ → Type 0
IsFirstLong before dir tag = StopsAt before dir tag (IsTooLong before)

-- the load of a part that is asked for failed, and that of no part before it
abbrev pub FailsParts : Folders → List ℕ → Folders → Type 0
FailsParts before dir after = (tag : ℕ) × StopsAt before dir tag (λ key. LoadFails before key after)

-- all parts of the folder that are asked for and are there: tags are bytes
abbrev pub AreParts : Folders → List ℕ → List Lent → Type 0
AreParts before dir parts = AreLoaded before dir 256 parts

-- whatever was loaded, the Header is asked for, and neither the roles nor Debug are
header_asked : (parts : List Lent) → is_asked parts 1 ≡ true
header_asked parts = refl

roles_unasked : (parts : List Lent) → is_asked parts 0 ≡ false
roles_unasked parts = refl

debug_unasked : (parts : List Lent) → is_asked parts 12 ≡ false
debug_unasked parts = refl
