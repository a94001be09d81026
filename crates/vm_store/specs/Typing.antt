-- When a cell has a type, given what the objects are, and the least type that it has
-- (Leroy 2002, section 2; JCVM 2.2, sections 2.2 and 3.1).
use Rattle.std.specs.Prelude.{◌≡◌, ℕ, zero, suc, ℤ, List, ◌++◌, Option, Some, None, slice_get, ⊤}
use Rattle.jc_base.specs.declared.ty.Ty.{Ty}
use Rattle.jc_base.specs.declared.ty.Ty.TheVariants.{Short, IntHigh, IntLow, Null, Fresh, Top}
use Rattle.jc_base.specs.Class.{ClassTable}
use Rattle.jc_base.specs.Order.{Below}
use Rattle.vm_store.specs.declared.cell.Cell.{Cell}
use Rattle.vm_store.specs.declared.cell.Cell.TheVariants as cells
use Rattle.vm_store.specs.declared.cell.ObjectKind.{ObjectKind}
use Rattle.vm_store.specs.declared.cell.ObjectKind.TheVariants.{Instance}
use Rattle.vm_store.specs.Kind.{type_of_kind}

-- no object on which a constructor is still to be called
abbrev pub IsReady : Ty → Type 0
IsReady (Fresh place c) = ⊥
IsReady _ = ⊤

-- a cell has a type: an empty one every type of ready values, a number its own, null every type
-- above Null, a reference every type above that of its object, a fresh one the type of its `new`
-- and its class; and every cell has Top
pub data HasType (t : ClassTable) (kinds : List ObjectKind) : Cell → Ty → Type 0 where
  anything : {c : Cell} → HasType t kinds c Top
  empty : {ty : Ty} → IsReady ty → HasType t kinds cells.Empty ty
  short : {n : ℤ} → HasType t kinds (cells.Short n) Short
  high : {n : ℕ} → HasType t kinds (cells.High n) IntHigh
  low : {n : ℕ} → HasType t kinds (cells.Low n) IntLow
  null : {ty : Ty} → Below t Null ty → HasType t kinds (cells.Ref 0) ty
  reference : {h : ℕ} {k : ObjectKind} {ty : Ty} → slice_get kinds h ≡ Some k → Below t (type_of_kind t k) ty
      → HasType t kinds (cells.Ref (suc h)) ty
  fresh : {h p c : ℕ} → slice_get kinds h ≡ Some (Instance c) → HasType t kinds (cells.Fresh (suc h) p) (Fresh p c)

-- the type of a reference to an object that is there
abbrev pub type_seen : ClassTable → Option ObjectKind → Ty
type_seen t None = Top
type_seen t (Some k) = type_of_kind t k

abbrev pub type_of_handle : ClassTable → List ObjectKind → ℕ → Ty
type_of_handle t kinds zero = Null
type_of_handle t kinds (suc h) = type_seen t (slice_get kinds h)

-- the type of an instance on which no constructor was called yet
abbrev pub fresh_seen : ℕ → Option ObjectKind → Ty
fresh_seen p (Some (Instance c)) = Fresh p c
fresh_seen p _ = Top

abbrev pub type_of_fresh : List ObjectKind → ℕ → ℕ → Ty
type_of_fresh kinds zero p = Top
type_of_fresh kinds (suc h) p = fresh_seen p (slice_get kinds h)

-- the least type of a cell, where an empty one is read as of the type `unset`: Bottom where it may
-- be read as any value, Top where it may not be read
abbrev pub least_type : ClassTable → Ty → List ObjectKind → Cell → Ty
least_type t unset kinds cells.Empty = unset
least_type t unset kinds (cells.Short n) = Short
least_type t unset kinds (cells.High n) = IntHigh
least_type t unset kinds (cells.Low n) = IntLow
least_type t unset kinds (cells.Ref h) = type_of_handle t kinds h
least_type t unset kinds (cells.Fresh h p) = type_of_fresh kinds h p

-- a type is the least one of a cell: the cell has it, it is below each type that the cell has, and
-- the cell has each type of ready values above it
pub record IsLeastType (t : ClassTable) (kinds : List ObjectKind) (c : Cell) (ty : Ty) : Type 0 where
  pub own : HasType t kinds c ty
  pub least : (u : Ty) → HasType t kinds c u → Below t ty u
  pub above : (u : Ty) → IsReady u → Below t ty u → HasType t kinds c u

-- more objects only lower the least type of a cell
abbrev pub FallsWithObjects : ClassTable → Ty → List ObjectKind → Cell → Type 0
FallsWithObjects t unset kinds c = (more : List ObjectKind) → Below t (least_type t unset (kinds ++ more) c) (least_type t unset kinds c)
