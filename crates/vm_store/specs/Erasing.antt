-- Every change of a state of tagged cells is the same change of the state of their words.
use Rattle.std.specs.Prelude.{◌≡◌, ℕ, List, map}
use Rattle.jc_base.specs.declared.ty.Kind.{Kind}
use Rattle.jc_base.specs.declared.record.MethodRec.{MethodRec}
use Rattle.jc_base.specs.Class.{ClassTable}
use Rattle.vm_store.specs.declared.cell.Cell.{Cell}
use Rattle.vm_store.specs.declared.cell.ObjectKind.{ObjectKind}
use Rattle.vm_store.specs.Cells.{tagged, words, word_of}
use Rattle.vm_store.specs.State.{State, Frame, map_frame, erased, top, nth, with_top, with_place, with_stack, with_register, with_call}
use Rattle.vm_store.specs.State.{with_entry, without_top, without_frames}
use Rattle.vm_store.specs.Objects.{kinds, object_cells, has_room, new_instance_cells, array_cells, with_object, with_object_cell}
use Rattle.vm_store.specs.Objects.{with_static_cell}
use Rattle.vm_store.specs.Value.{value_in, value_on, kept_value, with_object_value, with_static_value}

-- what a state says but for the kinds of its cells
pub record ReadsErased (s : State Cell) : Type 0 where
  pub top_is : map_frame word_of (top s) ≡ top (erased s)
  pub kinds_are : kinds (erased s) ≡ kinds s
  pub cells : (h : ℕ) → map word_of (object_cells s h) ≡ object_cells (erased s) h
  pub room : (count : ℕ) → has_room (erased s) count ≡ has_room s count

-- its frames change as those of the erased state
pub record FramesErase (methods : List MethodRec) (s : State Cell) : Type 0 where
  pub frame : (f : Frame Cell) → erased (with_top s f) ≡ with_top (erased s) (map_frame word_of f)
  pub place : (p : ℕ) → erased (with_place s p) ≡ with_place (erased s) p
  pub stack : (cells : List Cell) → erased (with_stack s cells) ≡ with_stack (erased s) (map word_of cells)
  pub register : (x : ℕ) (c : Cell) → erased (with_register s x c) ≡ with_register (erased s) x (word_of c)
  pub call : (m count : ℕ) → erased (with_call tagged methods s m count) ≡ with_call words methods (erased s) m count
  pub entry : (m : ℕ) → erased (with_entry tagged methods s m) ≡ with_entry words methods (erased s) m
  pub left : erased (without_top s) ≡ without_top (erased s)
  pub ended : erased (without_frames s) ≡ without_frames (erased s)

-- its objects and static fields change as those of the erased state
pub record ObjectsErase (s : State Cell) : Type 0 where
  pub object : (kind : ObjectKind) (cells : List Cell) → erased (with_object s kind cells) ≡ with_object (erased s) kind
      (map word_of cells)
  pub cell : (h i : ℕ) (c : Cell) → erased (with_object_cell s h i c) ≡ with_object_cell (erased s) h i (word_of c)
  pub value : (h i : ℕ) (cs : List Cell) → erased (with_object_value s h i cs) ≡ with_object_value (erased s) h i (map word_of cs)
  pub static_cell : (slot : ℕ) (c : Cell) → erased (with_static_cell s slot c) ≡ with_static_cell (erased s) slot (word_of c)
  pub static_value : (slot : ℕ) (cs : List Cell) → erased (with_static_value s slot cs) ≡ with_static_value (erased s) slot
      (map word_of cs)

-- so does what is read of a list of cells, and what new objects have
pub record CellsErase (t : ClassTable) : Type 0 where
  pub cell : (cells : List Cell) (n : ℕ) → word_of (nth tagged cells n) ≡ nth words (map word_of cells) n
  pub read :
      (kind : Kind) (cells : List Cell) (at : ℕ)
      → map word_of (value_in tagged kind cells at) ≡ value_in words kind (map word_of cells) at
  pub popped : (kind : Kind) (stack : List Cell) → map word_of (value_on tagged kind stack) ≡ value_on words kind (map word_of stack)
  pub stored : (kind : Kind) (value : List Cell) → map word_of (kept_value tagged kind value) ≡ kept_value words kind
      (map word_of value)
  pub instance : (c : ℕ) → map word_of (new_instance_cells tagged t c) ≡ new_instance_cells words t c
  pub array : (kind : ObjectKind) (count : ℕ) → map word_of (array_cells tagged kind count) ≡ array_cells words kind count

abbrev pub StatesErase : List MethodRec → ClassTable → Type 0
StatesErase methods t = ((s : State Cell) → ReadsErased s × FramesErase methods s × ObjectsErase s) × CellsErase t
