-- States of a machine of tagged cells in which every cell has the type of its place: the invariant of type soundness.
use Rattle.std.specs.Prelude.{◌<◌, List, [], ◌∷◌, ◌++◌, length, All, ⊤}
use Rattle.jc_base.specs.declared.ty.Ty.{Ty}
use Rattle.jc_base.specs.declared.ty.Ty.TheVariants.{IntLow}
use Rattle.jc_base.specs.declared.ty.Kind.{Kind}
use Rattle.jc_base.specs.declared.ty.Kind.TheVariants as fields
use Rattle.jc_base.specs.declared.record.StaticRec.{StaticRec}
use Rattle.jc_base.specs.Dispatch.{IsConcrete}
use Rattle.jc_base.specs.World.{Linked}
use Rattle.vm_store.specs.declared.cell.Cell.{Cell}
use Rattle.vm_store.specs.declared.cell.ObjectKind.{ObjectKind}
use Rattle.vm_store.specs.declared.cell.ObjectKind.TheVariants.{Instance, References}
use Rattle.vm_store.specs.State.{State}
use Rattle.vm_store.specs.Objects.{kinds}
use Rattle.vm_store.specs.Laws.{CellsHave, IsTypedHeap}
use Rattle.law_sound.specs.Frames.{Typings, AreTypedFrames}

-- what an object can be: an instance of a class of which objects can be made, or an array
abbrev pub CanBeMade : Linked → ObjectKind → Type 0
CanBeMade w (Instance c) = IsConcrete w.classes w.methods c
CanBeMade w (References c) = c < length w.classes.records
CanBeMade w _ = ⊤

-- the types of the cells of a field
abbrev pub field_types : Kind → Ty → List Ty
field_types fields.Int ty = ty ∷ IntLow ∷ []
field_types _ ty = ty ∷ []

-- the types of the static cells: those of each field, in their order
abbrev pub static_types : List StaticRec → List Ty
static_types [] = []
static_types (f ∷ fs) = field_types f.kind f.ty ++ static_types fs

-- objects and static fields have cells of their types; the frame on top is typed before its instruction, and each under it waits for the
-- result of the one above
pub record IsTypedState (w : Linked) (typings : Typings) (s : State Cell) : Type 0 where
  pub made : All (CanBeMade w) (kinds s)
  pub heap : IsTypedHeap w.classes s
  pub statics : CellsHave w.classes (kinds s) s.statics (static_types w.statics)
  pub frames : AreTypedFrames w typings (kinds s) s.frames
