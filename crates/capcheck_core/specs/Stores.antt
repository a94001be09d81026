-- What a command stores: parts in one folder, one after the other. Of a package the Header comes last, so that a folder that has
-- one has the whole package.
use Rattle.std.specs.Prelude.{◌≡◌, ℕ, ◌<◌, ◌≤◌, List, [], ◌∷◌, ◌++◌, take, Option, Some, None, IfSome}
use Rattle.std.specs.Prelude.{IsSomeAnd, Result, Ok, Err, ◌⊎◌, refl}
use Rattle.std.specs.FinMap as map
use Rattle.cap_files.specs.Counts.{Rose}
use Rattle.cap_files.specs.Folder.{Parts, Folders}
use Rattle.cap_files.specs.declared.folder.StoreFailed.{StoreFailed}
use Rattle.cap_package.specs.Parts.{Lent, held}
use Rattle.capcheck_core.specs.Loads.{Rise, with_file}
use Rattle.capcheck_core.specs.Roles.{roles_tag}

-- ---- parts, one after the other

-- what is held after these parts are stored in a folder
abbrev pub with_parts_stored : List ℕ → Parts → List Lent → Parts
with_parts_stored dir old [] = old
with_parts_stored dir old (lent ∷ parts) = with_parts_stored dir (map.insert old (lent.part ∷ dir) lent.bytes) parts

-- all of them are stored, and all else is as before
pub record AreStored (dir : List ℕ) (parts : List Lent) (before after : Folders) : Type 0 where
  pub held : IfSome after.held (λ now. IsSomeAnd before.held (λ old. now ≡ with_parts_stored dir old parts))
  pub load_faults : after.load_faults ≡ before.load_faults
  pub failed : after.failed ≡ before.failed
  pub store_faults : after.store_faults ≡ before.store_faults

-- the part is as before, or holds the first of these bytes
abbrev pub IsPartlyStored : List ℕ → Lent → Parts → Parts → Type 0
IsPartlyStored dir lent old now = (now ≡ old) ⊎ ((n : ℕ) × (now ≡ map.insert old (lent.part ∷ dir) (take n lent.bytes)))

-- a store failed, and its part is as before or begun; those before it are stored, and all else is as before
pub record IsBrokenOff (dir : List ℕ) (parts : List Lent) (before after : Folders) : Type 0 where
  pub done : List Lent
  pub broken : Lent
  pub left : List Lent
  pub are : parts ≡ done ++ broken ∷ left
  pub held : IfSome after.held (λ now. IsSomeAnd before.held (λ old. IsPartlyStored dir broken (with_parts_stored dir old done) now))
  pub load_faults : after.load_faults ≡ before.load_faults
  pub failed : after.failed ≡ before.failed
  pub rose : Rose before.store_faults after.store_faults

-- the stores by their answer
abbrev pub StoresParts : List ℕ → List Lent → Folders → Folders → Result (Unit {0}) StoreFailed → Type 0
StoresParts dir parts before after (Ok done) = AreStored dir parts before after
StoresParts dir parts before after (Err end) = IsBrokenOff dir parts before after

-- ---- the parts of a package

abbrev pub header_tag : ℕ
header_tag = 1

-- the parts of a package in the order of the stores: all but the Header by rising tag, the roles where they are stored too, and
-- the Header
pub record AreInStoreOrder (parts : List Lent) (roles : Option (List ℕ)) (stores : List Lent) : Type 0 where
  pub others : List Lent
  pub rising : Rise 2 256 others
  pub same : (tag : ℕ) → 2 ≤ tag → tag < 256 → held others tag ≡ held parts tag
  pub header : List ℕ
  pub is : held parts header_tag ≡ Some header
  pub all : stores ≡ with_file (with_file others roles_tag roles) header_tag (Some header)

-- the roles come right before the last part, which is the Header; without them the Header is the last too
ends_in_header : (roles header : List ℕ) → with_file (with_file [] roles_tag (Some roles)) header_tag (Some header)
    ≡ record { part = 0; bytes = roles } ∷ record { part = 1; bytes = header } ∷ []
ends_in_header roles header = refl

ends_without_roles : (header : List ℕ) → with_file (with_file [] roles_tag None) header_tag (Some header)
    ≡ record { part = 1; bytes = header } ∷ []
ends_without_roles header = refl

-- ---- where the stores are broken off

-- each of these parts stands whole in the folder
abbrev pub StandWhole : List ℕ → List Lent → Parts → Type 0
StandWhole dir parts now = (tag : ℕ) (bytes : List ℕ) → held parts tag ≡ Some bytes → map.get now (tag ∷ dir) ≡ Some bytes

-- the folder has the first bytes of a Header, and each of the other parts whole
pub record HasAllButHeader (dir header : List ℕ) (others : List Lent) (now : Parts) : Type 0 where
  pub begun : (n : ℕ) × (map.get now (header_tag ∷ dir) ≡ Some (take n header))
  pub whole : StandWhole dir others now

-- a folder that had no Header has none, or has the first bytes of it and each of the other parts whole
abbrev pub HasHeaderLast : List ℕ → List ℕ → List Lent → Folders → Folders → Type 0
HasHeaderLast dir header others before after = IfSome after.held (λ now. IsSomeAnd before.held (λ old.
    map.get old (header_tag ∷ dir) ≡ None → (map.get now (header_tag ∷ dir) ≡ None) ⊎ HasAllButHeader dir header others now))

-- ---- the stores of a package, whatever its parts are

-- these are the stores of parts of which this is true, with the roles where some are given
pub record AreStoresOf (P : List Lent → Type 0) (given : Option (List ℕ)) (stores : List Lent) : Type 0 where
  pub parts : List Lent
  pub made : P parts
  pub order : AreInStoreOrder parts given stores

-- one of them failed
pub record IsStoredInPart (P : List Lent → Type 0) (given : Option (List ℕ)) (dir : List ℕ) (before after : Folders) : Type 0 where
  pub stores : List Lent
  pub brings : AreStoresOf P given stores
  pub broken : IsBrokenOff dir stores before after
  pub last : HasHeaderLast dir brings.order.header (with_file brings.order.others roles_tag given) before after
