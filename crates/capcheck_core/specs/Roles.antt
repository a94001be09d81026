-- The file of the roles beside the parts of the first package: eight bytes, the number of a class for each role.
use Rattle.std.specs.Prelude.{◌≡◌, ℕ, ◌<◌, ◌≤◌, List, ◌∷◌, length, Option, Some, None}
use Rattle.cap_bytes.specs.declared.fault.FormFault.{FormFault}
use Rattle.cap_bytes.specs.declared.fault.FormKind.{FormKind}
use Rattle.cap_bytes.specs.declared.fault.FormKind.TheVariants.{Cut, Trailing}
use Rattle.cap_components.specs.declared.fault.PackFault.{PackFault}
use Rattle.cap_components.specs.declared.fault.PackFault.TheVariants.{Form, MissingPart, PartTooLong}
use Rattle.cap_files.specs.Folder.{Folders, IsThere, IsAbsent, IsTooLong}

-- the roles' file is part 0
abbrev pub roles_tag : ℕ
roles_tag = 0

-- the key of the roles' file of a folder
abbrev pub roles_key : List ℕ → List ℕ
roles_key dir = roles_tag ∷ dir

-- a folder has these roles
pub record AreRolesIn (before : Folders) (dir : List ℕ) (roles : List ℕ) : Type 0 where
  pub there : IsThere before (roles_key dir) roles
  pub eight : length roles ≡ 8

-- where a file of another length breaks: a shorter one at its end, a longer one after the eighth byte
abbrev pub BreaksRoles : List ℕ → ℕ → FormKind → Type 0
BreaksRoles file at Cut = (length file < 8) × (at ≡ length file)
BreaksRoles file at Trailing = (8 < length file) × (at ≡ 8)
BreaksRoles file at _ = ⊥

-- why a file holds no roles
pub record IsNoRoles (file : List ℕ) (fault : FormFault) : Type 0 where
  pub part : fault.part ≡ roles_tag
  pub breaks : BreaksRoles file fault.at fault.kind

-- the roles' file of a folder is there, and holds no roles
pub record IsBadFile (before : Folders) (dir : List ℕ) (fault : FormFault) : Type 0 where
  pub file : List ℕ
  pub there : IsThere before (roles_key dir) file
  pub short : length file ≤ 65538
  pub refused : IsNoRoles file fault

-- what a folder has where it may be without roles: none, or these
abbrev pub HasRoles : Folders → List ℕ → Option (List ℕ) → Type 0
HasRoles before dir None = IsAbsent before (roles_key dir)
HasRoles before dir (Some roles) = AreRolesIn before dir roles

-- why the roles' file that a folder has holds no roles
abbrev pub HasBadRoles : Folders → List ℕ → PackFault → Type 0
HasBadRoles before dir (PartTooLong part) = (part ≡ roles_tag) × IsTooLong before (roles_key dir)
HasBadRoles before dir (Form fault) = IsBadFile before dir fault
HasBadRoles before dir _ = ⊥

-- why a folder has no roles
abbrev pub LacksRoles : Folders → List ℕ → PackFault → Type 0
LacksRoles before dir (MissingPart part) = (part ≡ roles_tag) × IsAbsent before (roles_key dir)
LacksRoles before dir (PartTooLong part) = (part ≡ roles_tag) × IsTooLong before (roles_key dir)
LacksRoles before dir (Form fault) = IsBadFile before dir fault
LacksRoles before dir _ = ⊥
