-- The state of a machine over cells of a type A: the frames, the objects and the static fields
-- (JCVM 2.2, sections 3.2 to 3.6).
use Rattle.std.specs.Prelude.{ℕ, ◌+◌, ◌-◌, ◌<◌, List, [], ◌∷◌, ◌++◌, length, map, take, drop, reverse, replicate}
use Rattle.std.specs.Prelude.{slice_index_or, slice_set, slice_get, Option, Some, None}
use Rattle.jc_base.specs.declared.record.MethodRec.{MethodRec}
use Rattle.vm_store.specs.declared.cell.Cell.{Cell}
use Rattle.vm_store.specs.declared.cell.ObjectKind.{ObjectKind}
use Rattle.vm_store.specs.Cells.{Cells, word_of}

-- the frame of a method that runs: the place of its next instruction, its registers, and its
-- operand stack, the top cell first
pub record Frame (A : Type 0) : Type 0 where
  pub method : ℕ
  pub place : ℕ
  pub registers : List A
  pub stack : List A

pub record Object (A : Type 0) : Type 0 where
  pub kind : ObjectKind
  pub cells : List A

-- the frames, the one on top first; the objects in the order in which they were made; the cells of
-- the static fields by slot
pub record State (A : Type 0) : Type 0 where
  pub frames : List (Frame A)
  pub heap : List (Object A)
  pub statics : List A

-- ---- one state seen in another form of cells

abbrev pub map_frame : {A B : Type 0} → (A → B) → Frame A → Frame B
map_frame f s = record { method = s.method; place = s.place; registers = map f s.registers; stack = map f s.stack }

abbrev pub map_object : {A B : Type 0} → (A → B) → Object A → Object B
map_object f o = record { kind = o.kind; cells = map f o.cells }

abbrev pub map_state : {A B : Type 0} → (A → B) → State A → State B
map_state f s = record { frames = map (map_frame f) s.frames; heap = map (map_object f) s.heap; statics = map f s.statics }

-- the words of a state
abbrev pub erased : State Cell → State ℕ
erased s = map_state word_of s

-- ---- frames

-- the frame that stands for none
abbrev pub no_frame : {A : Type 0} → Frame A
no_frame = record { method = 0; place = 0; registers = []; stack = [] }

abbrev pub first_frame : {A : Type 0} → List (Frame A) → Frame A
first_frame [] = no_frame
first_frame (f ∷ fs) = f

abbrev pub other_frames : {A : Type 0} → List (Frame A) → List (Frame A)
other_frames [] = []
other_frames (f ∷ fs) = fs

-- the frame on top
abbrev pub top : {A : Type 0} → State A → Frame A
top s = first_frame s.frames

-- a method runs
abbrev pub IsRunning : {A : Type 0} → State A → Type 0
IsRunning s = 0 < length s.frames

-- the state with another frame on top
abbrev pub with_top : {A : Type 0} → State A → Frame A → State A
with_top s f = record s { frames = f ∷ other_frames s.frames }

abbrev pub with_place : {A : Type 0} → State A → ℕ → State A
with_place s place = with_top s (record (top s) { place = place })

abbrev pub with_stack : {A : Type 0} → State A → List A → State A
with_stack s cells = with_top s (record (top s) { stack = cells })

abbrev pub with_register : {A : Type 0} → State A → ℕ → A → State A
with_register s x cell = with_top s (record (top s) { registers = slice_set (top s).registers x cell })

-- the cell at a number of a list, the empty one past the end
abbrev pub nth : {A : Type 0} → Cells A → List A → ℕ → A
nth k cells n = slice_index_or cells n k.empty

-- the top `count` cells of a stack, of which the top `by` go below the others
abbrev pub rotated : {A : Type 0} → ℕ → ℕ → List A → List A
rotated count by cells = drop by (take count cells) ++ (take by cells ++ drop count cells)

-- how many registers a method has: its arguments and its locals
abbrev pub register_count_of : Option MethodRec → ℕ
register_count_of None = 0
register_count_of (Some m) = m.nargs + m.max_locals

abbrev pub register_count : List MethodRec → ℕ → ℕ
register_count methods method = register_count_of (slice_get methods method)

-- the frame of a method before its first instruction: its arguments in the first registers, and
-- the others empty
abbrev pub entered : {A : Type 0} → Cells A → List MethodRec → ℕ → List A → Frame A
entered k methods method args =
    record {
      method = method;
      place = 0;
      registers = args ++ replicate (register_count methods method - length args) k.empty;
      stack = [];
    }

-- the arguments that the top cells of a stack are: the first argument lies deepest
abbrev pub arguments : {A : Type 0} → ℕ → List A → List A
arguments count cells = reverse (take count cells)

-- a method is called with the top cells of the stack as its arguments
abbrev pub with_call : {A : Type 0} → Cells A → List MethodRec → State A → ℕ → ℕ → State A
with_call k methods s method count =
    let caller = record (top s) { stack = drop count (top s).stack } in
    record s { frames = entered k methods method (arguments count (top s).stack) ∷ (caller ∷ other_frames s.frames) }

-- a method is entered over the frames that are there
abbrev pub with_entry : {A : Type 0} → Cells A → List MethodRec → State A → ℕ → State A
with_entry k methods s method = record s { frames = entered k methods method [] ∷ s.frames }

-- the frame on top is gone
abbrev pub without_top : {A : Type 0} → State A → State A
without_top s = record s { frames = other_frames s.frames }

-- no method runs any more
abbrev pub without_frames : {A : Type 0} → State A → State A
without_frames s = record s { frames = [] }

-- a run has at most so many frames
abbrev pub frame_limit : ℕ
frame_limit = 64
