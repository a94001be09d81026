-- Laws of rewritten methods: what their layout and their running rest on.
use Rattle.std.specs.Prelude.{◌≡◌, ◌≢◌, ◌<◌, ◌≤◌, ◌^◌, ◌↔◌, ℕ, ℤ, ⊤, true, List, [], ◌∷◌}
use Rattle.std.specs.Prelude.{◌++◌, flat_map, length, is_some, All, IsSome, Some, Ok, slice_get}
use Rattle.std.specs.List.{filter}
use Rattle.jc_base.specs.declared.record.Handler.{Handler}
use Rattle.jc_base.specs.Each.{IsAmong}
use Rattle.jc_base.specs.World.{Linked}
use Rattle.jc_decode.specs.declared.insn.Placed.{Placed}
use Rattle.jc_decode.specs.declared.symbols.Item.{Item}
use Rattle.cap_bytes.specs.Bytes.{AreBytes}
use Rattle.jc_decode.specs.Listing.{listing, targets, Lists}
use Rattle.jc_decode.specs.Symbols.{IsItem, IsOnce, IsRange, is_instruction, place_of, plain_size}
use Rattle.jc_ops.specs.declared.operation.Operation.{Operation}
use Rattle.jc_control.specs.Control.{IsReached}
use Rattle.jc_control.specs.WellFormed.{IsPlace, IsWellFormed, HasInstruction}
use Rattle.xf_homes.specs.Order.{AreHomes, register_sum}
use Rattle.xf_homes.specs.Walk.{operands_of}
use Rattle.xf_homes.specs.Source.{Source}
use Rattle.xf_homes.specs.Plan.{depth, operation}
use Rattle.xf_emission.specs.Jump.{each_once, handler_label, place, stub, stub_label, branch_copies}
use Rattle.xf_emission.specs.Group.{group}
use Rattle.xf_emission.specs.Emission.{catching_stub, is_live, items, ranges}
use Rattle.xf_emission.specs.Live.{KeepsLive}

-- the ways of a branch are its targets, each once
abbrev pub AreApart : List ℤ → Type 0
AreApart [] = ⊤
AreApart (t ∷ ts) = ¬ (IsAmong t ts) × AreApart ts

pub record AreWays (targets ways : List ℤ) : Type 0 where
  pub same : (t : ℤ) → IsAmong t ways ↔ IsAmong t targets
  pub once : AreApart ways

abbrev pub WaysAreTargets : Type 0
WaysAreTargets = (ts : List ℤ) → AreWays ts (each_once ts)

-- the labels of a rewritten method: those of the groups of reached instructions, that of the end, those of the stubs on edges where
-- something has to be copied, and those of the stubs of live handlers
pub data IsLabelOf (s : Source) : ℕ → Type 0 where
  of_place : {i : Placed} → HasInstruction s.method.code i → is_some (s.frames i.place) ≡ true → IsLabelOf s i.place
  of_end : IsLabelOf s (length s.method.code)
  of_stub :
      {i : Placed} {op : Operation} {n : ℕ} {t : ℤ} (k : ℕ)
      → HasInstruction s.method.code i
      → is_some (s.frames i.place) ≡ true
      → operation s i ≡ Ok op
      → operands_of s.world (Ok op) ≡ Some n
      → slice_get (each_once (targets s.method.code i)) k ≡ Some t
      → branch_copies s i.place op n (place t) ≢ []
      → IsLabelOf s (stub_label i.place k)
  of_handler :
      {h : Handler} (n : ℕ) → slice_get s.method.rec.handlers n ≡ Some h → is_live s h ≡ true → IsLabelOf s (handler_label n)

-- the code is made of bytes, as many as a method may have, and there are as many handlers as a method may have
pub record IsCode (s : Source) : Type 0 where
  pub bytes : AreBytes s.method.code
  pub lists : Lists s.method.code 0 (listing s.method.code)
  pub short : length s.method.code ≤ 32767
  pub few : length s.method.rec.handlers ≤ 255

-- a frame stands at each place that control reaches, an instruction's, and at no other, in code that is well formed
pub record HasFrames (s : Source) : Type 0 where
  pub formed : IsWellFormed s.method
  pub reached : (p : ℕ) → IsSome (s.frames p) ↔ IsReached s.method p
  pub placed : (p : ℕ) → IsReached s.method p → IsPlace s.method.code p

-- each label stands once
abbrev pub LabelsStandOnce : Type 0
LabelsStandOnce = (s : Source) → IsCode s → (l : ℕ) → IsLabelOf s l → IsOnce (items s) l

-- ---- groups

-- the group of an instruction stands after those of the instructions before it, and those of the instructions after it follow; its label
-- stands for the place of its first item
pub record GroupStands (s : Source) (i : Placed) : Type 0 where
  pub earlier : List Placed
  pub later : List Placed
  pub listed : listing s.method.code ≡ earlier ++ i ∷ later
  pub before : List Item
  pub after : List Item
  pub parts : items s ≡ before ++ (group s i ++ (flat_map (group s) later ++ after))
  pub at : place_of i.place (items s) ≡ length (filter is_instruction before)

abbrev pub GroupsStand : Type 0
GroupsStand =
    (s : Source) → IsCode s → (i : Placed) → HasInstruction s.method.code i → is_some (s.frames i.place) ≡ true
    → GroupStands s i

-- ---- stubs

-- the stub of the k-th way of a branch stands where its label does
pub record StubStands (s : Source) (i : Placed) (op : Operation) (n k : ℕ) (t : ℤ) : Type 0 where
  pub before : List Item
  pub after : List Item
  pub parts : items s ≡ before ++ (stub s i.place op n k t ++ after)
  pub at : place_of (stub_label i.place k) (items s) ≡ length (filter is_instruction before)

abbrev pub StubsStand : Type 0
StubsStand =
    (s : Source)
    → IsCode s
    → (i : Placed) (op : Operation) (n k : ℕ) (t : ℤ)
    → HasInstruction s.method.code i
    → is_some (s.frames i.place) ≡ true
    → operation s i ≡ Ok op
    → operands_of s.world (Ok op) ≡ Some n
    → slice_get (each_once (targets s.method.code i)) k ≡ Some t
    → branch_copies s i.place op n (place t) ≢ []
    → StubStands s i op n k t

-- and so does that of a live handler
pub record HandlerStands (s : Source) (n : ℕ) (h : Handler) : Type 0 where
  pub before : List Item
  pub after : List Item
  pub parts : items s ≡ before ++ (catching_stub s n h ++ after)
  pub at : place_of (handler_label n) (items s) ≡ length (filter is_instruction before)

abbrev pub HandlersStand : Type 0
HandlersStand =
    (s : Source)
    → IsCode s
    → (n : ℕ) (h : Handler)
    → slice_get s.method.rec.handlers n ≡ Some h
    → is_live s h ≡ true
    → HandlerStands s n h

-- ---- ranges

-- there is a range for each live handler
abbrev pub LiveAreKept : Type 0
LiveAreKept = (s : Source) → HasFrames s → KeepsLive s.method s.method.rec.handlers (ranges s)

-- the labels of the ranges stand once, and no range ends before it begins
abbrev pub RangesStand : Type 0
RangesStand = (s : Source) → IsCode s → HasFrames s → All (IsRange (items s)) (ranges s)

-- ---- items

-- in code of a world each item is such as is laid
abbrev pub ItemsSuit : Linked → Type 0
ItemsSuit w =
    (s : Source)
    → s.world ≡ w
    → IsCode s
    → HasFrames s
    → register_sum s.homes ≤ 255
    → All (IsItem s.method.code (items s)) (items s)

-- the plain size is a number of four bytes, where the homes are the method's and no stack is deeper than 255 cells
abbrev pub PlainSizeFits : Linked → Type 0
PlainSizeFits w =
    (s : Source)
    → s.world ≡ w
    → IsCode s
    → HasFrames s
    → AreHomes s.world s.method s.frames s.homes
    → register_sum s.homes ≤ 255
    → ((p : ℕ) → depth s p ≤ 255)
    → plain_size (items s) < 2 ^ 32
