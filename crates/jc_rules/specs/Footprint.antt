-- What an operation asks of registers and stack and what it leaves, as numbers: the same whatever the types are.
use Rattle.std.specs.Prelude.{◌≡◌, ℕ, ◌+◌, ◌-◌, ◌<◌, ◌≤◌, ◌⊎◌, ⊤, max, List, [], ◌∷◌, length}
use Rattle.std.specs.Prelude.{Option, Some, None, slice_get, if◌then◌else◌, ◌==◌}
use Rattle.jc_base.specs.declared.ty.Ty.{Ty}
use Rattle.jc_base.specs.declared.record.MethodRec.{MethodRec}
use Rattle.jc_base.specs.World.{Linked}
use Rattle.jc_ops.specs.declared.operation.Operation.{Operation}
use Rattle.jc_ops.specs.Sound.{IsSound}
use Rattle.jc_ops.specs.Alike.{IsAlike}
use Rattle.jc_ops.specs.Next.{falls_from, jumps_from, ends_at}
use Rattle.jc_rules.specs.declared.demand.Demand.{Demand}
use Rattle.jc_rules.specs.declared.demand.Demand.TheVariants.{Registers, Depth, Cell, Cut, Held}
use Rattle.jc_rules.specs.declared.effect.Change.{Change}
use Rattle.jc_rules.specs.declared.effect.Change.TheVariants.{Replace, CopyUnder, Exchange, MakeReady}
use Rattle.jc_rules.specs.declared.effect.Effect.{Effect}
use Rattle.jc_rules.specs.Effect.{in_stack_order, reg}
use Rattle.jc_rules.specs.declared.effect.Mode.{Mode}
use Rattle.jc_rules.specs.declared.effect.Mode.TheVariants.{Card, Flow}
use Rattle.jc_rules.specs.declared.rule.Outcome.{Outcome}
use Rattle.jc_rules.specs.Demand.{Frame, SatisfiesAll, AreKnown}
use Rattle.jc_rules.specs.Rule.{demands, effect}
use Rattle.jc_rules.specs.Apply.{OperationApplies}

-- ---- what is asked

-- the least depth at which each cell that is asked for is there
abbrev pub cells_asked : List Demand → ℕ
cells_asked [] = 0
cells_asked (Depth n ∷ ds) = max n (cells_asked ds)
cells_asked (Cell n want ∷ ds) = max (n + 1) (cells_asked ds)
cells_asked (d ∷ ds) = cells_asked ds

-- the least number of registers among which each that is asked for is
abbrev pub registers_asked : List Demand → ℕ
registers_asked [] = 0
registers_asked (Registers x n ∷ ds) = max (x + n) (registers_asked ds)
registers_asked (Held x ty ∷ ds) = max (x + 1) (registers_asked ds)
registers_asked (d ∷ ds) = registers_asked ds

-- the registers whose types are asked for
abbrev pub registers_read : List Demand → List ℕ
registers_read [] = []
registers_read (Held x ty ∷ ds) = x ∷ registers_read ds
registers_read (d ∷ ds) = registers_read ds

-- what the demand names is there, whatever its type is
abbrev pub IsInFrame : ℕ → ℕ → Demand → Type 0
IsInFrame regs depth (Registers x n) = x + n ≤ regs
IsInFrame regs depth (Depth n) = n ≤ depth
IsInFrame regs depth (Cell n want) = n < depth
IsInFrame regs depth (Cut n) = ⊤
IsInFrame regs depth (Held x ty) = x < regs

abbrev pub AreInFrame : ℕ → ℕ → List Demand → Type 0
AreInFrame regs depth [] = ⊤
AreInFrame regs depth (d ∷ ds) = IsInFrame regs depth d × AreInFrame regs depth ds

-- ---- what is done

-- how many cells go from the top and how many come in their place; the first register that is written, and how many are
pub record Footprint : Type 0 where
  pub taken : ℕ
  pub given : ℕ
  pub register : ℕ
  pub written : ℕ

abbrev pub cells_taken : Change → ℕ
cells_taken (Replace taken cells) = taken
cells_taken (CopyUnder copied under) = 0
cells_taken (Exchange top under) = 0
cells_taken (MakeReady taken place class cells) = taken

abbrev pub cells_given : Change → ℕ
cells_given (Replace taken cells) = length (in_stack_order cells)
cells_given (CopyUnder copied under) = copied
cells_given (Exchange top under) = 0
cells_given (MakeReady taken place class cells) = length (in_stack_order cells)

abbrev pub footprint_of : Effect → Footprint
footprint_of e = record {
  taken = cells_taken e.change;
  given = cells_given e.change;
  register = e.store.register;
  written = length (in_stack_order e.store.cells);
}

-- of an operation: it is that of any frame
abbrev pub footprint : Linked → Operation → Footprint
footprint w op = footprint_of (effect w op (record { regs = []; stack = [] }))

-- ---- the laws of both

-- each demand that is met names what is there
abbrev pub MetIsThere : Linked → Type 0
MetIsThere w =
    (f : Frame) (ds : List Demand)
    → SatisfiesAll w.classes f ds
    → AreInFrame (length f.regs) (length f.stack) ds

-- what demands name is there exactly where there are as many registers and cells as they ask for
pub record AreAsked (regs depth : ℕ) (ds : List Demand) : Type 0 where
  pub registers : AreInFrame regs depth ds → registers_asked ds ≤ regs
  pub cells : AreInFrame regs depth ds → cells_asked ds ≤ depth
  pub there : registers_asked ds ≤ regs → cells_asked ds ≤ depth → AreInFrame regs depth ds

abbrev pub AskedIsThere : Type 0
AskedIsThere = (regs depth : ℕ) (ds : List Demand) → AreAsked regs depth ds

-- two lists of registers hold the same in these
abbrev pub AgreeOn : List ℕ → List Ty → List Ty → Type 0
AgreeOn [] regs others = ⊤
AgreeOn (x ∷ xs) regs others = (slice_get regs x ≡ slice_get others x) × AgreeOn xs regs others

-- an operation rests on the stack, on the number of registers and on those that it reads alone
pub record RestsOnRead (w : Linked) (op : Operation) (f g : Frame) : Type 0 where
  pub asked : SatisfiesAll w.classes f (demands w op) → SatisfiesAll w.classes g (demands w op)
  pub done : effect w op f ≡ effect w op g

abbrev pub OperationReads : Linked → Type 0
OperationReads w =
    (op : Operation) (f g : Frame)
    → f.stack ≡ g.stack
    → registers_asked (demands w op) ≤ length g.regs
    → AgreeOn (registers_read (demands w op)) f.regs g.regs
    → RestsOnRead w op f g

-- the first register that is written and how many are, where some are
abbrev pub written_by : Footprint → Option (ℕ × ℕ)
written_by p = if p.written == 0 then None else Some (p.register, p.written)

-- so many cells went and so many came; these registers were written, and the others are as before
pub record Leaves (p : Footprint) (before after : Frame) (o : Outcome) : Type 0 where
  pub taken : p.taken ≤ length before.stack
  pub depth : length after.stack ≡ length before.stack - p.taken + p.given
  pub wrote_is : o.wrote ≡ written_by p
  pub others : (x : ℕ) → (x < p.register) ⊎ (p.register + p.written ≤ x) → reg after.regs x ≡ reg before.regs x

abbrev pub OperationLeaves : Linked → Type 0
OperationLeaves w =
    (limit : ℕ) (m : MethodRec) (place : ℕ) (op : Operation) (mode : Mode) (before after : Frame) (o : Outcome)
    → IsSound w m place op
    → AreKnown w.classes before
    → OperationApplies w limit op mode before after o
    → Leaves (footprint w op) before after o

-- the footprint is that of each frame
abbrev pub FootprintIsOne : Linked → Type 0
FootprintIsOne w = (op : Operation) (f : Frame) → footprint_of (effect w op f) ≡ footprint w op

-- an operation that names no register applies on the card over any registers where it applies in the dataflow
abbrev pub OperationNamesNone : Linked → Type 0
OperationNamesNone w =
    (limit : ℕ) (op : Operation) (before after : Frame) (o : Outcome) (regs : List Ty)
    → registers_asked (demands w op) ≡ 0
    → OperationApplies w limit op Flow before after o
    → OperationApplies w limit op Card
    (record { regs = regs; stack = before.stack })
    (record { regs = regs; stack = after.stack }) o

-- operations that are equal but for registers ask for as many cells, leave as many, and go on alike
pub record LeavesAlike (w : Linked) (a b : Operation) : Type 0 where
  pub cells : cells_asked (demands w a) ≡ cells_asked (demands w b)
  pub taken : (footprint w a).taken ≡ (footprint w b).taken
  pub given : (footprint w a).given ≡ (footprint w b).given
  pub written : (footprint w a).written ≡ (footprint w b).written
  pub falls : falls_from a ≡ falls_from b
  pub jumps : jumps_from a ≡ jumps_from b
  pub ends : ends_at a ≡ ends_at b

abbrev pub AlikeLeaveAlike : Linked → Type 0
AlikeLeaveAlike w = (a b : Operation) → IsAlike a b → LeavesAlike w a b
