-- The memory of bare words: three slices of 16-bit words that a caller lends.
--   ram      frame n from word 513 n on: its method, its place, the depth of its stack, 255 registers, 255 cells of the stack
--   heap     object n, counted from 0, from word 3 n on: its kind, its first cell, its elements; all cells from word 12,288 on
--   statics  the cells of the static fields by slot
-- An int takes its high word first. Empty and null are 0, a reference is its handle, a short its 16 bits.
use Rattle.std.specs.Prelude.{◌≡◌, ℕ, zero, suc, ◌+◌, ◌-◌, ◌*◌, ◌<◌, ◌≤◌, nat_lt, ◌==◌, if◌then◌else◌, List}
use Rattle.std.specs.Prelude.{[], ◌∷◌, ◌++◌, length, take, drop, reverse, slice_index}
use Rattle.jc_base.specs.declared.record.MethodRec.{MethodRec}
use Rattle.jc_base.specs.World.{Linked}
use Rattle.vm_store.specs.declared.cell.ObjectKind.{ObjectKind}
use Rattle.vm_store.specs.declared.cell.ObjectKind.TheVariants.{Instance, Booleans, Bytes, Shorts, Ints, References}
use Rattle.vm_store.specs.declared.cell.ObjectHeader.{ObjectHeader}
use Rattle.vm_offend.specs.declared.words.Counts.{Counts}
use Rattle.vm_store.specs.State.{Frame, State, first_frame, other_frames, arguments, entered, register_count}
use Rattle.vm_store.specs.Cells.{words}
use Rattle.vm_store.specs.Layout.{objects_in, Follow}

-- ---- frames

-- the words of one frame
abbrev pub window : List ℕ → ℕ → List ℕ
window ram n = take 513 (drop (513 * n) ram)

-- the frame that such words hold
abbrev pub frame_in : List MethodRec → List ℕ → Frame ℕ
frame_in methods ws =
    record {
      method = slice_index ws 0;
      place = slice_index ws 1;
      registers = take (register_count methods (slice_index ws 0)) (drop 3 ws);
      stack = reverse (take (slice_index ws 2) (drop 258 ws));
    }

-- the first n frames, the last of them on top
abbrev pub frames_in : List MethodRec → List ℕ → ℕ → List (Frame ℕ)
frames_in methods ram zero = []
frames_in methods ram (suc n) = frame_in methods (window ram n) ∷ frames_in methods ram n

-- a frame's registers and stack have room in its words
pub record FitsWindow (methods : List MethodRec) (ws : List ℕ) : Type 0 where
  pub registers : register_count methods (slice_index ws 0) ≤ 255
  pub stack : slice_index ws 2 ≤ 255

abbrev pub FitWindows : List MethodRec → List ℕ → ℕ → Type 0
FitWindows methods ram zero = Unit {0}
FitWindows methods ram (suc n) = FitsWindow methods (window ram n) × FitWindows methods ram n

-- ---- objects

-- what the word of a kind says: a class number, 0x8000 and the class of an array's elements, and
-- 0xF000 to 0xF003 for arrays of boolean, byte, short and int
abbrev pub kind_of_word : ℕ → ObjectKind
kind_of_word w =
    if nat_lt w 0x8000 then Instance w
    else if nat_lt w 0xF000 then References (w - 0x8000)
    else if w == 0xF000 then Booleans
    else if w == 0xF001 then Bytes
    else if w == 0xF002 then Shorts
    else Ints

abbrev pub word_of_kind : ObjectKind → ℕ
word_of_kind (Instance c) = c
word_of_kind (References c) = 0x8000 + c
word_of_kind Booleans = 0xF000
word_of_kind Bytes = 0xF001
word_of_kind Shorts = 0xF002
word_of_kind Ints = 0xF003

-- the header of object n, counted from 0
abbrev pub header_at : List ℕ → ℕ → ObjectHeader
header_at ws n =
    record
    { kind = kind_of_word (slice_index ws (3 * n)); start = slice_index ws (3 * n + 1); elements = slice_index ws (3 * n + 2) }

-- the headers of the first n objects
abbrev pub headers_in : List ℕ → ℕ → List ObjectHeader
headers_in ws zero = []
headers_in ws (suc n) = headers_in ws n ++ header_at ws n ∷ []

-- the first word of each of the first n headers is that of its object's kind: 0xF000 for an array of booleans, 0xF001 of bytes,
-- 0xF002 of shorts, and for one of ints 0xF003, and no word above it
abbrev pub HaveKindWords : List ℕ → ℕ → Type 0
HaveKindWords ws n = (k : ℕ) → k < n → slice_index ws (3 * k) ≡ word_of_kind (header_at ws k).kind

-- ---- the whole

-- the state that the slices hold
abbrev pub words_state : List MethodRec → List ℕ → List ℕ → List ℕ → Counts → State ℕ
words_state methods ram heap statics counts =
    record {
      frames = frames_in methods ram counts.frames;
      heap = objects_in (drop 12288 heap) (headers_in heap counts.objects);
      statics = statics;
    }

-- the slices have their lengths, the frames and objects lie in them, and the kind of each object is told by its word
pub record AreLaid (w : Linked) (ram heap : List ℕ) (counts : Counts) : Type 0 where
  pub ram_length : length ram ≡ 32832
  pub heap_length : length heap ≡ 45056
  pub some_frames : counts.frames ≤ 64
  pub some_objects : counts.objects ≤ 4096
  pub some_cells : counts.cells ≤ 32768
  pub windows : FitWindows w.methods ram counts.frames
  pub laid : Follow 0 (headers_in heap counts.objects) counts.cells
  pub kinds : HaveKindWords heap counts.objects

-- the frames once the one on top called a method with the top cells of its stack
abbrev pub called_words : List MethodRec → List (Frame ℕ) → ℕ → ℕ → List (Frame ℕ)
called_words methods frames method count =
    let caller = first_frame frames in
    entered words methods method (arguments count caller.stack) ∷ (record caller { stack = drop count caller.stack } ∷ other_frames
    frames)

-- ---- the objects alone

-- the objects lie one after another in the words of the heap
pub record AreObjectsLaid (heap : List ℕ) (counts : Counts) : Type 0 where
  pub heap_length : length heap ≡ 45056
  pub some_objects : counts.objects ≤ 4096
  pub some_cells : counts.cells ≤ 32768
  pub laid : Follow 0 (headers_in heap counts.objects) counts.cells

-- the state that the words of the heap hold: its objects, and nothing else
abbrev pub objects_state : List ℕ → Counts → State ℕ
objects_state heap counts = record { frames = []; heap = objects_in (drop 12288 heap) (headers_in heap counts.objects); statics = [] }
