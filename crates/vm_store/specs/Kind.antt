-- What an object is, and which cells it has (JCVM 2.2, sections 2.2, 3.1 and 3.6).
use Rattle.std.specs.Prelude.{ℕ, zero, suc, ◌<◌, List, [], ◌∷◌, Option, None, slice_get}
use Rattle.jc_base.specs.declared.ty.Ty.{Ty}
use Rattle.jc_base.specs.declared.ty.Ty.TheVariants.{Short, IntHigh, IntLow, Class, ArrBool, ArrByte, ArrShort, ArrInt, ArrRef}
use Rattle.jc_base.specs.Class.{ClassTable, class_in_types}
use Rattle.vm_store.specs.declared.cell.CellKind.{CellKind}
use Rattle.vm_store.specs.declared.cell.CellKind.TheVariants as made
use Rattle.vm_store.specs.declared.cell.ObjectKind.{ObjectKind}
use Rattle.vm_store.specs.declared.cell.ObjectKind.TheVariants.{Instance, Booleans, Bytes, Shorts, Ints, References}

-- the type of a reference to an object
abbrev pub type_of_kind : ClassTable → ObjectKind → Ty
type_of_kind t (Instance c) = Class c
type_of_kind t Booleans = ArrBool
type_of_kind t Bytes = ArrByte
type_of_kind t Shorts = ArrShort
type_of_kind t Ints = ArrInt
type_of_kind t (References c) = ArrRef (class_in_types t c)

-- an array, and no instance of a class
abbrev pub IsArrayKind : ObjectKind → Type 0
IsArrayKind (Instance c) = ⊥
IsArrayKind _ = Unit {0}

-- its class or interface, where it has one, is numbered as one of a world, which has 4,096 at most
abbrev pub IsNumbered : ObjectKind → Type 0
IsNumbered (Instance c) = c < 4096
IsNumbered (References c) = c < 4096
IsNumbered _ = Unit {0}

-- the cells of one element of an array, or one cell of an instance
abbrev pub element_cells : ObjectKind → List CellKind
element_cells Ints = made.High ∷ made.Low ∷ []
element_cells (References c) = made.Reference ∷ []
element_cells _ = made.Short ∷ []

-- how many cells an element takes
abbrev pub element_width : ObjectKind → ℕ
element_width Ints = 2
element_width _ = 1

-- what a cell of a type is made for
abbrev pub cell_kind : Ty → CellKind
cell_kind Short = made.Short
cell_kind IntHigh = made.High
cell_kind IntLow = made.Low
cell_kind _ = made.Reference

-- what the object of a handle is: handles count from 1, and 0 is null
abbrev pub kind_of_handle : List ObjectKind → ℕ → Option ObjectKind
kind_of_handle kinds zero = None
kind_of_handle kinds (suc h) = slice_get kinds h
