-- Laws of the rule: it has one result, it keeps frames well formed, and it is monotone (Leroy 2002, section 2.3: the transfer
-- functions of a dataflow analysis are monotone, so that least solutions exist). On the card it raises one list of registers
-- (Leroy 2002, section 3). Each is said of an operation, and of the instruction at a site.
use Rattle.std.specs.Prelude.{◌≡◌, ℕ, ◌<◌, ⊤, List, length, All, sum_by, MatchBool}
use Rattle.jc_base.specs.declared.ty.Ty.{Ty}
use Rattle.jc_base.specs.declared.ty.Ty.TheVariants.{Bottom}
use Rattle.jc_base.specs.declared.record.MethodRec.{MethodRec}
use Rattle.jc_base.specs.Order.{rises_left}
use Rattle.jc_base.specs.World.{Linked}
use Rattle.jc_decode.specs.declared.insn.Insn.{Insn}
use Rattle.jc_ops.specs.declared.fault.RuleFault.{RuleFault}
use Rattle.jc_ops.specs.declared.operation.Operation.{Operation}
use Rattle.jc_ops.specs.declared.operation.Site.{Site}
use Rattle.jc_ops.specs.Sound.{IsSound}
use Rattle.jc_rules.specs.declared.effect.Mode.{Mode}
use Rattle.jc_rules.specs.declared.effect.Mode.TheVariants.{Card, Flow}
use Rattle.jc_rules.specs.declared.rule.Outcome.{Outcome}
use Rattle.jc_rules.specs.Demand.{Frame, AreKnown}
use Rattle.jc_rules.specs.Apply.{OperationApplies, OperationRefuses, Applies, Refuses}
use Rattle.jc_rules.specs.Flow.{CellsBelow, FrameBelow, IsNotTop, IsNotFresh}

abbrev pub IsNotBottom : Ty → Type 0
IsNotBottom Bottom = ⊥
IsNotBottom _ = ⊤

-- ---- one result

-- an operation has one result, and none where it refuses; it refuses with one fault
pub record IsOperationDecided (w : Linked) (limit : ℕ) (op : Operation) (mode : Mode) (before : Frame) : Type 0 where
  pub one :
      {f g : Frame} {o p : Outcome}
      → OperationApplies w limit op mode before f o
      → OperationApplies w limit op mode before g p
      → f ≡ g
  pub one_outcome :
      {f g : Frame} {o p : Outcome}
      → OperationApplies w limit op mode before f o
      → OperationApplies w limit op mode before g p
      → o ≡ p
  pub one_fault :
      {fault other : RuleFault}
      → OperationRefuses w limit op before fault
      → OperationRefuses w limit op before other
      → fault ≡ other
  pub never_both :
      {f : Frame} {o : Outcome} {fault : RuleFault}
      → OperationApplies w limit op mode before f o
      → ¬ (OperationRefuses w limit op before fault)

abbrev pub OperationDecides : Linked → Type 0
OperationDecides w = (limit : ℕ) (op : Operation) (mode : Mode) (before : Frame) → IsOperationDecided w limit op mode before

-- a rule has one result, and none where it refuses; it refuses with one fault
pub record IsDecided (w : Linked) (site : Site) (i : Insn) (mode : Mode) (before : Frame) : Type 0 where
  pub one : {f g : Frame} {o p : Outcome} → Applies w site i mode before f o → Applies w site i mode before g p → f ≡ g
  pub one_outcome : {f g : Frame} {o p : Outcome} → Applies w site i mode before f o → Applies w site i mode before g p → o ≡ p
  pub one_fault : {fault other : RuleFault} → Refuses w site i before fault → Refuses w site i before other → fault ≡ other
  pub never_both : {f : Frame} {o : Outcome} {fault : RuleFault} → Applies w site i mode before f o → ¬ (Refuses w site i before fault)

abbrev pub RuleDecides : Linked → Type 0
RuleDecides w = (site : Site) (i : Insn) (mode : Mode) (before : Frame) → IsDecided w site i mode before

-- ---- lesser frames

-- what an operation gives for a lesser frame: it applies, and its result is lesser
pub record OperationFallsTo (w : Linked) (limit : ℕ) (op : Operation) (mode : Mode) (lesser after : Frame) : Type 0 where
  pub below : Frame
  pub outcome : Outcome
  pub applies : OperationApplies w limit op mode lesser below outcome
  pub lower : FrameBelow w.classes below after

-- an operation that applies to a frame, in either mode, applies in the dataflow to each lesser one, with a lesser result. The greater
-- stack has no Top and the lesser no Bottom: a cut below Top splits no int, and a constructor called on Bottom makes nothing ready
abbrev pub OperationFalls : Linked → Type 0
OperationFalls w =
    (limit : ℕ) (op : Operation) (mode : Mode) (greater lesser after : Frame) (o : Outcome)
    → FrameBelow w.classes lesser greater
    → All IsNotTop greater.stack
    → All IsNotBottom lesser.stack
    → OperationApplies w limit op mode greater after o
    → OperationFallsTo w limit op Flow lesser after

-- on the card too an operation that applies to a frame applies to each lesser one, with a lesser result
abbrev pub OperationFallsOnCard : Linked → Type 0
OperationFallsOnCard w =
    (limit : ℕ) (m : MethodRec) (place : ℕ) (op : Operation) (greater lesser after : Frame) (o : Outcome)
    → IsSound w m place op
    → AreKnown w.classes lesser
    → FrameBelow w.classes lesser greater
    → All IsNotTop greater.stack
    → All IsNotBottom lesser.stack
    → OperationApplies w limit op Card greater after o
    → OperationFallsTo w limit op Card lesser after

-- what a rule gives for a lesser frame: it applies, and its result is lesser
pub record FallsTo (w : Linked) (site : Site) (i : Insn) (mode : Mode) (lesser after : Frame) : Type 0 where
  pub below : Frame
  pub outcome : Outcome
  pub applies : Applies w site i mode lesser below outcome
  pub lower : FrameBelow w.classes below after

-- a rule that applies to a frame, in either mode, applies in the dataflow to each lesser one, with a lesser result
abbrev pub RuleFalls : Linked → Type 0
RuleFalls w =
    (site : Site) (i : Insn) (mode : Mode) (greater lesser after : Frame) (o : Outcome)
    → FrameBelow w.classes lesser greater
    → All IsNotTop greater.stack
    → All IsNotBottom lesser.stack
    → Applies w site i mode greater after o
    → FallsTo w site i Flow lesser after

-- on the card too a rule that applies to a frame applies to each lesser one, with a lesser result
abbrev pub RuleFallsOnCard : Linked → Type 0
RuleFallsOnCard w =
    (site : Site) (i : Insn) (greater lesser after : Frame) (o : Outcome)
    → AreKnown w.classes lesser
    → FrameBelow w.classes lesser greater
    → All IsNotTop greater.stack
    → All IsNotBottom lesser.stack
    → Applies w site i Card greater after o
    → FallsTo w site i Card lesser after

-- ---- one list of registers

-- on the card no register falls, and where none rose the registers are as before; else what is left for them to rise is less
pub record IsRaised (w : Linked) (before after : Frame) (o : Outcome) : Type 0 where
  pub below : CellsBelow w.classes before.regs after.regs
  pub rises : MatchBool o.rose
      (sum_by (rises_left w.classes) after.regs < sum_by (rises_left w.classes) before.regs)
      (after.regs ≡ before.regs)

abbrev pub OperationRaises : Linked → Type 0
OperationRaises w =
    (limit : ℕ) (op : Operation) (before after : Frame) (o : Outcome)
    → OperationApplies w limit op Card before after o
    → IsRaised w before after o

-- on the card no register falls
abbrev pub RuleRaises : Linked → Type 0
RuleRaises w =
    (site : Site) (i : Insn) (before after : Frame) (o : Outcome)
    → Applies w site i Card before after o
    → CellsBelow w.classes before.regs after.regs

-- where no register rose the registers are as before; else what is left for them to rise is less
abbrev pub RuleRises : Linked → Type 0
RuleRises w =
    (site : Site) (i : Insn) (before after : Frame) (o : Outcome)
    → Applies w site i Card before after o
    → MatchBool o.rose
    (sum_by (rises_left w.classes) after.regs < sum_by (rises_left w.classes) before.regs)
    (after.regs ≡ before.regs)

-- registers that are above all that an operation stores stay as they are on the card
abbrev pub OperationStays : Linked → Type 0
OperationStays w =
    (limit : ℕ) (op : Operation) (before after : Frame) (o : Outcome)
    → OperationApplies w limit op Flow before after o
    → CellsBelow w.classes after.regs before.regs
    → OperationApplies w limit op Card before (record { regs = before.regs; stack = after.stack }) o

-- registers that are above all that a rule stores stay as they are on the card
abbrev pub RuleStays : Linked → Type 0
RuleStays w =
    (site : Site) (i : Insn) (before after : Frame) (o : Outcome)
    → Applies w site i Flow before after o
    → CellsBelow w.classes after.regs before.regs
    → Applies w site i Card before (record { regs = before.regs; stack = after.stack }) o

-- what an operation that leaves the registers as they are on the card gives in the dataflow: the same stack, and registers below them
pub record OperationRestsAt (w : Linked) (limit : ℕ) (op : Operation) (before after : Frame) (o : Outcome) : Type 0 where
  pub stored : List Ty
  pub applies : OperationApplies w limit op Flow before (record { regs = stored; stack = after.stack }) o
  pub below : CellsBelow w.classes stored before.regs

-- an operation that leaves the registers as they are on the card stores nothing above them, and applies in the dataflow
abbrev pub OperationRests : Linked → Type 0
OperationRests w =
    (limit : ℕ) (op : Operation) (before after : Frame) (o : Outcome)
    → OperationApplies w limit op Card before after o
    → after.regs ≡ before.regs
    → OperationRestsAt w limit op before after o

-- so does a rule
pub record RestsAt (w : Linked) (site : Site) (i : Insn) (before after : Frame) (o : Outcome) : Type 0 where
  pub stored : List Ty
  pub applies : Applies w site i Flow before (record { regs = stored; stack = after.stack }) o
  pub below : CellsBelow w.classes stored before.regs

abbrev pub RuleRests : Linked → Type 0
RuleRests w =
    (site : Site) (i : Insn) (before after : Frame) (o : Outcome)
    → Applies w site i Card before after o
    → after.regs ≡ before.regs
    → RestsAt w site i before after o

-- ---- well-formed frames

-- what a rule keeps of a frame
pub record Keeps (w : Linked) (before after : Frame) : Type 0 where
  pub known : AreKnown w.classes after
  pub count : length after.regs ≡ length before.regs
  pub no_fresh : All IsNotFresh before.regs → All IsNotFresh after.regs
  pub no_bottom : All IsNotBottom before.stack → All IsNotBottom after.stack
  pub no_top : All IsNotTop before.stack → All IsNotTop after.stack
  pub full_regs : All IsNotBottom before.regs → All IsNotBottom before.stack → All IsNotBottom after.regs

-- an operation keeps the number of registers, names classes alone, gives no uninitialised object to a
-- register, and neither Bottom nor Top to the stack, and Bottom to no register where there was none
abbrev pub OperationKeeps : Linked → Type 0
OperationKeeps w =
    (limit : ℕ) (m : MethodRec) (place : ℕ) (op : Operation) (mode : Mode) (before after : Frame) (o : Outcome)
    → IsSound w m place op
    → AreKnown w.classes before
    → OperationApplies w limit op mode before after o
    → Keeps w before after

-- so does a rule
abbrev pub RuleKeeps : Linked → Type 0
RuleKeeps w =
    (site : Site) (i : Insn) (mode : Mode) (before after : Frame) (o : Outcome)
    → AreKnown w.classes before
    → Applies w site i mode before after o
    → Keeps w before after
