-- What a machine of tagged cells tests before an operation (JCVM 2.2, section 7.5): the demands of its typing rule, on the least types of
-- the cells that are there. A machine of bare words tests nothing.
use Rattle.std.specs.Prelude.{if◌then◌else◌, nat_lt, List, length, map, Option, Some, None}
use Rattle.std.specs.List.{list_all}
use Rattle.jc_base.specs.World.{Linked}
use Rattle.jc_ops.specs.declared.operation.Operation.{Operation}
use Rattle.jc_rules.specs.declared.demand.Demand.{Demand}
use Rattle.jc_rules.specs.Demand.{Frame, satisfies}
use Rattle.jc_rules.specs.Footprint.{registers_asked, cells_asked}
use Rattle.jc_rules.specs.Rule.{demands}
use Rattle.vm_store.specs.Cells.{Cells}
use Rattle.vm_store.specs.State.{State, top}
use Rattle.vm_store.specs.Objects.{kinds}
use Rattle.vm_step.specs.declared.ending.Fault.{Fault}
use Rattle.vm_step.specs.declared.ending.Fault.TheVariants.{TypeFault, StackFault, LocalFault}

-- the least types of the registers and of the stack of the frame on top
abbrev pub types_of : {A : Type 0} → Cells A → Linked → State A → Frame
types_of k w s =
    record {
      regs = map (k.type_of w.classes (kinds s)) (top s).registers;
      stack = map (k.type_of w.classes (kinds s)) (top s).stack;
    }

-- a register out of range, then too few cells, then a cell that is not as wanted or a cut through an int
abbrev pub unmet : {A : Type 0} → Cells A → Linked → List Demand → State A → Option Fault
unmet k w ds s =
    if nat_lt (length (top s).registers) (registers_asked ds) then Some LocalFault
    else if nat_lt (length (top s).stack) (cells_asked ds) then Some StackFault
    else if list_all (satisfies w.classes (types_of k w s)) ds then None
    else Some TypeFault

abbrev pub fault_before : {A : Type 0} → Cells A → Linked → Operation → State A → Option Fault
fault_before k w op s = if k.checks then unmet k w (demands w op) s else None
