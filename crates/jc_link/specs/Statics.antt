-- The static fields of packages, by package and then in the order of the Descriptor, which is the
-- order of their numbers (JCVM 2.2, sections 6.10 and 6.13).
use Rattle.std.specs.Prelude.{ℕ, ◌+◌, List, [], ◌∷◌, ◌++◌, length, map, flat_map, sum_by}
use Rattle.jc_base.specs.declared.ty.Ty.{Ty}
use Rattle.jc_base.specs.declared.record.StaticRec.{StaticRec}
use Rattle.jc_base.specs.Cell.{width}
use Rattle.cap_method.specs.StaticFormat.{Statics}
use Rattle.cap_desc.specs.declared.type_list.TypeItem.{TypeItem}
use Rattle.cap_package.specs.StaticChecks.{ImagePlace}
use Rattle.cap_package.specs.PackageRecord.{PackageRecord}
use Rattle.cap_package.specs.StaticPlaces.{static_places}
use Rattle.jc_resolve.specs.WorldTypes.{kind_of}
use Rattle.jc_link.specs.Image.{words_at}

-- the cells of the field at a place
abbrev pub cells_at : ImagePlace → ℕ
cells_at p = width (kind_of p.ty)

-- the static cells of all packages
abbrev pub static_cells : List PackageRecord → ℕ
static_cells ps = sum_by cells_at (flat_map static_places ps)

-- ---- numbers

-- a static field: its package, the handle of that package's first initial array, the package's image, and the field's place in it
pub record StaticSite : Type 0 where
  pub home : ℕ
  pub first : ℕ
  pub statics : Statics
  pub place : ImagePlace

abbrev pub site : ℕ → ℕ → Statics → ImagePlace → StaticSite
site home first s place = record { home = home; first = first; statics = s; place = place }

-- the fields of packages, the first of which has a number, and whose initial arrays have handles from a first one on
abbrev pub sites_after : ℕ → ℕ → List PackageRecord → List StaticSite
sites_after home first [] = []
sites_after home first (p ∷ ps) = map (site home first p.statics) (static_places p)
    ++ sites_after (home + 1) (first + length p.statics.arrays) ps

-- the static fields of all packages; handles count from 1
abbrev pub sites : List PackageRecord → List StaticSite
sites = sites_after 0 1

-- ---- records

abbrev pub static_record : ℕ → StaticSite → Ty → StaticRec
static_record slot s ty = record {
  «package» = s.home;
  offset = s.place.offset;
  kind = kind_of s.place.ty;
  ty = ty;
  slot = slot;
  initial = words_at s.first s.statics (kind_of s.place.ty) s.place.offset;
}

-- the type of a field, where the types that the type descriptors of packages stand for are told
abbrev pub type_of_site : (ℕ → TypeItem → Ty) → StaticSite → Ty
type_of_site told s = told s.home s.place.ty

-- fields whose cells follow one another from a slot on
abbrev pub records_from : (ℕ → TypeItem → Ty) → ℕ → List StaticSite → List StaticRec
records_from told slot [] = []
records_from told slot (s ∷ others) = static_record slot s (type_of_site told s) ∷ records_from told (slot + cells_at s.place) others

-- the static fields of all packages
abbrev pub static_records : (ℕ → TypeItem → Ty) → List PackageRecord → List StaticRec
static_records told ps = records_from told 0 (sites ps)
