-- An operation whose registers are others of the same types (JCVM 2.2, section 7.5; Leroy 2002, section 4).
use Rattle.std.specs.Prelude.{◌≡◌, ℕ, ◌+◌, ◌<◌, ◌≤◌, List, [], length, map, drop, All, Some, slice_get}
use Rattle.jc_base.specs.declared.ty.Ty.{Ty}
use Rattle.jc_base.specs.declared.ty.Ty.TheVariants.{Bottom}
use Rattle.jc_base.specs.Order.{IsKnown}
use Rattle.jc_base.specs.World.{Linked}
use Rattle.jc_control.specs.Method.{Method, IsMethodOf}
use Rattle.jc_ops.specs.declared.operation.Operation.{Operation}
use Rattle.jc_ops.specs.Alike.{IsAlike}
use Rattle.jc_rules.specs.declared.effect.Mode.TheVariants.{Flow}
use Rattle.jc_rules.specs.declared.rule.Outcome.{Outcome}
use Rattle.jc_rules.specs.Demand.{Frame}
use Rattle.jc_rules.specs.Apply.{OperationApplies}
use Rattle.jc_rules.specs.Flow.{CellsBelow, IsNotFresh, start_frame}
use Rattle.jc_rules.specs.Footprint.{footprint, registers_asked, registers_read}
use Rattle.jc_rules.specs.Rule.{demands}
use Rattle.card_typing.specs.Typing.{CardTyping}
use Rattle.law_laid.specs.Apart.{apart_from_code, IsSameBut}
use Rattle.law_share.specs.Variable.{Variable, AreVariables}
use Rattle.law_share.specs.Sharing.{Allotted, AreAllotted, IsNumbered, end_of}
use Rattle.law_share.specs.Renamed.{IsRenamed, register_total}

-- each register keeps its type under its new number
abbrev pub AreRetyped : List Ty → List Ty → (ℕ → ℕ) → Type 0
AreRetyped regs others reg = (x : ℕ) (ty : Ty) → slice_get regs x ≡ Some ty → slice_get others (reg x) ≡ Some ty

-- b is a but for the numbers of registers, of which there are enough
pub record IsRenumbered (v : Linked) (others : List Ty) (reg : ℕ → ℕ) (a b : Operation) : Type 0 where
  pub alike : IsAlike a b
  pub asked : registers_asked (demands v b) ≤ length others
  pub reads : registers_read (demands v b) ≡ map reg (registers_read (demands v a))
  pub writes : (k : ℕ) → k < (footprint v a).written → (footprint v b).register + k ≡ reg ((footprint v a).register + k)

-- it applies to the other registers and leaves the same stack, and what it stores is below their types
pub record AppliesToo (v : Linked) (limit : ℕ) (b : Operation) (others stack given : List Ty) : Type 0 where
  pub after : Frame
  pub outcome : Outcome
  pub applies : OperationApplies v limit b Flow (record { regs = others; stack = stack }) after outcome
  pub stored : CellsBelow v.classes after.regs others
  pub same : after.stack ≡ given

-- the registers of a method have these types: those of another under their new numbers, no uninitialised object is among them, and the
-- receiver and the declared arguments are below
pub record AreRegistersOf (v : Linked) (m : Method) (regs others : List Ty) (reg : ℕ → ℕ) : Type 0 where
  pub retyped : AreRetyped regs others reg
  pub count : length others ≡ register_total m
  pub types : All (IsKnown v.classes) others
  pub ready : All IsNotFresh others
  pub declared : CellsBelow v.classes (start_frame m.rec Bottom).regs others

-- where an operation applies to registers, and stores below their types, so does one that is renumbered to others of the same types
abbrev pub RenumberedApply : Linked → Type 0
RenumberedApply v =
    (limit : ℕ) (a b : Operation) (regs others stack : List Ty) (reg : ℕ → ℕ) (after : Frame) (o : Outcome)
    → AreRetyped regs others reg
    → IsRenumbered v others reg a b
    → OperationApplies v limit a Flow (record { regs = regs; stack = stack }) after o
    → CellsBelow v.classes after.regs regs
    → AppliesToo v limit b others stack after.stack

-- a method with its registers renamed has a card typing, in which each register keeps its type
abbrev pub RenamedAreTyped : Linked → Type 0
RenamedAreTyped v =
    (w : Linked) (m : Method) (place reg : ℕ → ℕ) (regs others : List Ty) (stacks : ℕ → List Ty) (is : IsRenamed v w m place reg)
    → IsSameBut v w
    → IsMethodOf v m
    → CardTyping v m regs stacks
    → AreRegistersOf v is.target regs others reg
    → (again : ℕ → List Ty) × CardTyping w is.target others again

-- the method has the registers that the variables of another share, and is the same but for its code
pub record HasShared (m : Method) (given : List Allotted) (target : Method) : Type 0 where
  pub same : apart_from_code target.rec ≡ apart_from_code m.rec
  pub nargs : target.rec.nargs ≡ m.rec.nargs
  pub total : register_total target ≡ end_of m.rec.nargs given

-- where variables share registers, these have types under which each register keeps its own
abbrev pub SharedHaveTypes : Linked → Type 0
SharedHaveTypes v =
    (m target : Method) (regs : List Ty) (stacks : ℕ → List Ty) (ks : List Variable) (given : List Allotted) (reg : ℕ → ℕ)
    → IsMethodOf v m
    → CardTyping v m regs stacks
    → AreVariables m.rec.nargs (drop m.rec.nargs regs) ks
    → AreAllotted v m [] ks given
    → ((x : ℕ) → x < register_total m → IsNumbered m.rec.nargs given x (reg x))
    → HasShared m given target
    → (others : List Ty) × AreRegistersOf v target regs others reg
