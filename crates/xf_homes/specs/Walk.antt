-- The homes as they are found by one walk over the code: what may be met at each spot in turn, and each pair kept at the first spot at
-- which it is met.
use Rattle.std.specs.Prelude.{ℕ, zero, suc, ◌+◌, Bool, false, ◌&&◌, ◌||◌, ◌==◌, nat_le, nat_lt, if◌then◌else◌, List}
use Rattle.std.specs.Prelude.{[], ◌∷◌, ◌++◌, length, reverse, fold, flat_map, Option, Some, None, Result, Ok}
use Rattle.std.specs.List.{list_any}
use Rattle.jc_base.specs.declared.ty.Ty.{Ty}
use Rattle.jc_base.specs.declared.ty.Ty.TheVariants.{Class, IntLow}
use Rattle.jc_base.specs.declared.record.Handler.{Handler}
use Rattle.jc_base.specs.declared.record.MethodRec.{MethodRec}
use Rattle.jc_base.specs.SameType.{same_type}
use Rattle.jc_base.specs.World.{Linked}
use Rattle.jc_decode.specs.declared.insn.Placed.{Placed}
use Rattle.jc_decode.specs.Listing.{listing}
use Rattle.jc_ops.specs.declared.fault.RuleFault.{RuleFault}
use Rattle.jc_ops.specs.declared.operation.Branch.TheVariants.{Always}
use Rattle.jc_ops.specs.declared.operation.Operation.{Operation}
use Rattle.jc_ops.specs.declared.operation.Operation.TheVariants.{Branch, Switch}
use Rattle.jc_ops.specs.Row.{row_at}
use Rattle.jc_ops.specs.Resolve.{resolved}
use Rattle.jc_control.specs.Flags.{flag}
use Rattle.jc_control.specs.Method.{Method}
use Rattle.jc_rules.specs.Demand.{Frame}
use Rattle.jc_rules.specs.Footprint.{footprint}
use Rattle.xf_homes.specs.declared.home.Home.{Home}
use Rattle.xf_homes.specs.Value.{value_in_cells, type_width}
use Rattle.xf_homes.specs.Home.{PairSpot, register_count}

-- ---- what may be met, spot by spot

-- at a spot, the value that is met there, if one is
pub record Event : Type 0 where
  pub spot : PairSpot
  pub value : Option Ty

abbrev pub event : ℕ → ℕ → ℕ → Option Ty → Event
event p slot time value = record { spot = record { place = p; slot = slot; time = time }; value = value }

-- the value of a local in a frame
abbrev pub local_of : Option Frame → ℕ → Option Ty
local_of None x = None
local_of (Some f) x = value_in_cells f.regs x

abbrev pub is_covered : Handler → ℕ → Bool
is_covered h p = nat_le h.start p && nat_lt p h.end

-- at the entry of a handler that covers the place
abbrev pub caught_of : (ℕ → Option Frame) → ℕ → ℕ → Handler → Option Ty
caught_of frames p x h = if is_covered h p then local_of (frames h.entry) x else None

-- from the handler of number n on
abbrev pub caught_events : (ℕ → Option Frame) → ℕ → ℕ → ℕ → List Handler → List Event
caught_events frames p x n [] = []
caught_events frames p x n (h ∷ hs) = event p x (suc n) (caught_of frames p x h) ∷ caught_events frames p x (suc n) hs

unfoldable pub local_events : (ℕ → Option Frame) → List Handler → ℕ → ℕ → List Event
local_events frames handlers p x = event p x 0 (local_of (frames p) x) ∷ caught_events frames p x 0 handlers

-- of so many locals from x on
abbrev pub locals_events : (ℕ → Option Frame) → List Handler → ℕ → ℕ → ℕ → List Event
locals_events frames handlers p x zero = []
locals_events frames handlers p x (suc n) = local_events frames handlers p x ++ locals_events frames handlers p (suc x) n

-- of so many cells from cell i on, at slots from a slot on
abbrev pub cells_events : ℕ → ℕ → List Ty → ℕ → ℕ → List Event
cells_events p slot cells i zero = []
cells_events p slot cells i (suc n) = event p (slot + i) 0 (value_in_cells cells i) ∷ cells_events p slot cells (suc i) n

-- the operands of a conditional branch or a switch
abbrev pub operands_of : Linked → Result Operation RuleFault → Option ℕ
operands_of w (Ok (Branch Always)) = None
operands_of w (Ok (Branch b)) = Some (footprint w (Branch b)).taken
operands_of w (Ok (Switch type_width)) = Some (footprint w (Switch type_width)).taken
operands_of w _ = None

abbrev pub is_deeper : Option ℕ → ℕ → Bool
is_deeper None depth = false
is_deeper (Some operands) depth = nat_lt operands depth

-- of the instruction at a place of the method's code
abbrev pub operands_at : Linked → MethodRec → Placed → Option ℕ
operands_at w r i = operands_of w (resolved w r i.place i.insn (row_at i.insn.op))

-- whether a stack of this depth is kept, in the code of the method, whose leaders are flagged
abbrev pub keeps_stack : Linked → MethodRec → List Bool → Placed → ℕ → Bool
keeps_stack w r leaders i depth = flag leaders i.place || is_deeper (operands_at w r i) depth

abbrev pub stack_events : Bool → ℕ → ℕ → List Ty → List Event
stack_events keeps p slot cells = if keeps then cells_events p slot cells 0 (length cells) else []

-- at an instruction that control reaches
abbrev pub frame_events : Linked → Method → (ℕ → Option Frame) → List Bool → Placed → Option Frame → List Event
frame_events w m frames leaders i None = []
frame_events w m frames leaders i (Some f) =
    locals_events frames m.rec.handlers i.place 0 (register_count m.rec)
    ++ stack_events (keeps_stack w m.rec leaders i (length f.stack)) i.place (register_count m.rec) (reverse f.stack)

unfoldable pub place_events : Linked → Method → (ℕ → Option Frame) → List Bool → Placed → List Event
place_events w m frames leaders i = frame_events w m frames leaders i (frames i.place)

unfoldable pub code_events : Linked → Method → (ℕ → Option Frame) → List Bool → List Event
code_events w m frames leaders = flat_map (place_events w m frames leaders) (listing m.code)

-- ---- what is kept

abbrev pub same_home : Home → Home → Bool
same_home a b = a.slot == b.slot && same_type a.ty b.ty

unfoldable pub has : List Home → Home → Bool
has homes h = list_any (λ k. same_home k h) homes

abbrev pub with_home : List Home → Home → List Home
with_home homes h = if has homes h then homes else homes ++ h ∷ []

abbrev pub with_home_of_value : List Home → ℕ → Option Ty → List Home
with_home_of_value homes slot None = homes
with_home_of_value homes slot (Some ty) = with_home homes (record { slot = slot; ty = ty })

abbrev pub with_event : List Home → Event → List Home
with_event homes e = with_home_of_value homes e.spot.slot e.value

unfoldable pub with_events : List Home → List Event → List Home
with_events homes events = fold with_event homes events

-- the arguments at their declared types
abbrev pub receiver_home : MethodRec → List Home
receiver_home r = if r.is_static then [] else record { slot = 0; ty = Class r.class } ∷ []

-- the values that begin with each cell but a low half, at slots from a slot on
abbrev pub values_from : ℕ → List Ty → List Home
values_from slot [] = []
values_from slot (IntLow ∷ types) = values_from (suc slot) types
values_from slot (ty ∷ types) = record { slot = slot; ty = ty } ∷ values_from (suc slot) types

abbrev pub argument_homes : MethodRec → List Home
argument_homes r = receiver_home r ++ values_from (length (receiver_home r)) r.sig.args

-- ---- registers

-- where a home begins, of those whose registers follow one another from a number on
abbrev pub register_from : ℕ → List Home → Home → Option ℕ
register_from n [] h = None
register_from n (k ∷ ks) h = if same_home k h then Some n else register_from (n + type_width k.ty) ks h
