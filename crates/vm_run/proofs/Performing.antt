-- What a step rests on, and what its parts come to together.
use Rattle.std.proofs.Common.{◌≡◌, ◌<◌, ◌≤◌, ℕ, true, List, [], ◌∷◌, length, sym, subst, arith, Option}
use Rattle.std.proofs.Common.{Some, None}
use Rattle.std.specs.Prelude.{All, IsSomeAnd, slice_get, Ok, Err}
use Rattle.std.proofs.lemmas.List.Elements.{All-tail, All-map, All-weaker}
use Rattle.jc_base.specs.declared.record.MethodRec.{MethodRec}
use Rattle.jc_base.specs.World.{Linked}
use Rattle.jc_decode.specs.declared.insn.Placed.{Placed}
use Rattle.jc_ops.specs.declared.fault.RuleFault.{RuleFault}
use Rattle.jc_ops.specs.declared.operation.Operation.{Operation}
use Rattle.jc_ops.specs.Resolve.{Resolves}
use Rattle.vm_store.specs.declared.cell.ObjectKind.{ObjectKind}
use Rattle.vm_store.specs.Cells.{Cells}
use Rattle.vm_store.specs.State.{Frame, State, Object, IsRunning, top, first_frame, other_frames, without_top, without_frames}
use Rattle.vm_store.specs.Objects.{kinds}
use Rattle.vm_step.specs.declared.ending.Value.{Value}
use Rattle.vm_step.specs.declared.ending.Value.TheVariants as values
use Rattle.vm_step.specs.Act.{Act}
use Rattle.vm_step.specs.Methods.{code_at, max_stack_of, instruction_at}
use Rattle.vm_step.specs.Performed.{act}
use Rattle.vm_step.specs.declared.ending.Fault.{Fault}
use Rattle.vm_step.specs.Raising.{Outcome, running}
use Rattle.vm_step.specs.Settled.{settled, goes_to, unless_fault}
use Rattle.vm_step.specs.Step.{Fetches}
use Rattle.vm_step.specs.Tests.{fault_before}
use Rattle.vm_act.specs.declared.acting.Lead.{Lead}
use Rattle.vm_act.specs.declared.acting.Lead.TheVariants as leads
use Rattle.vm_act.specs.Lead.{told, Stays, FramesStay, SameMemory, value_cells, value_width}
use Rattle.vm_act.specs.Reaches.{Reaches}
use Rattle.vm_check.specs.Shaped.{IsShapedFrame, IsShapedFor, IsShapedObject, IsShaped, HasKnownTypes, CanTest}
use Rattle.vm_check.specs.Machine.{TestsReach}
use Rattle.vm_run.specs.declared.known.Known.{Known}
use Rattle.vm_run.specs.declared.known.Known.TheVariants.{Marked, Verified}
use Rattle.vm_run.specs.Known.{KnowPlaces, KnowsAt, CanResume}
use Rattle.vm_run.specs.Turn.{AreMethods, IsOfClass}
use Rattle.vm_run.specs.Leading.{LeadsOn}
use Rattle.vm_run.specs.Verified.{HasRoomToCatch, AreVerified}
use Rattle.jc_base.proofs.Lists.{IsSomeAnd-some}
use Rattle.vm_check.proofs.Sufficing.{top-shaped}

of-class : (w : Linked) (kind : ObjectKind) (count : ℕ) → IsShapedFor w.classes kind count → IsOfClass w.classes kind
of-class w kind count h = grind (arith)

two-cells : (value : Value) → value_width value ≤ 2
two-cells value = grind (arith)

module _ {A : Type 0} (w : Linked) where
  rest-frames : (fs : List (Frame A)) → All (IsShapedFrame w) fs → All (IsShapedFrame w) (other_frames fs)
  rest-frames [] all = all
  rest-frames (f ∷ fs) all = All-tail (IsShapedFrame w) f fs all

  pub top-frame : (s : State A) → IsShaped w s → IsRunning s → IsShapedFrame w (top s)
  top-frame s shaped runs = top-shaped w s.frames runs shaped.frames

  pub can-test : (k : Cells A) (s : State A) → IsShaped w s → HasKnownTypes k w.classes s → IsRunning s → CanTest k w s
  can-test k s shaped known runs = record { running = runs; frame = top-frame s shaped runs; types = known }

  -- the frames after an act are of methods of the world
  methods-of : (fs : List (Frame A)) → (first_frame fs).method < length w.methods → All (IsShapedFrame w) (other_frames fs)
      → All (λ (f : Frame A). f.method < length w.methods) fs
  methods-of x k o = grind (arith, length)

  pub methods-after : (s z : State A) → IsShaped w s → IsRunning s → FramesStay s z → AreMethods w z
  methods-after s z shaped runs stay = grind (arith, methods-of, length, top-frame, rest-frames)

  classes-of : (s : State A) → IsShaped w s → All (IsOfClass w.classes) (kinds s)
  classes-of s shaped =
      All-map (IsOfClass w.classes) (λ (o : Object A). o.kind) s.heap
      (All-weaker (IsShapedObject w.classes) (λ (o : Object A). IsOfClass w.classes o.kind)
      (λ (o : Object A) (h : IsShapedObject w.classes o). of-class w o.kind (length o.cells) h) s.heap shaped.objects)

  -- what was fetched
  pub fetched : (s : State A) (m : MethodRec) (i : Placed) → IsRunning s → slice_get w.methods (top s).method ≡ Some m
      → instruction_at (code_at w (top s).method) (top s).place ≡ Some i → Fetches w s m i
  fetched s m i runs is there = record { runs = runs; method = is; instruction = there }

  pub reaches-by : (k : Cells A) (room : ℕ) (keeps : State A → Type 0) → TestsReach room k keeps w → (s : State A) (i : Placed) (op : Operation)
      → keeps s → IsRunning s → instruction_at (code_at w (top s).method) (top s).place ≡ Some i → max_stack_of w (top s).method ≤ 255
      → IsSomeAnd (slice_get w.methods (top s).method) (λ m. Resolves w m i.place i.insn (Ok op)) → fault_before k w op s ≡ None
      → Reaches room k w i.insn op s
  reaches-by k room keeps law s i op kept runs there most names none =
      let m = IsSomeAnd-some (λ m. Resolves w m i.place i.insn (Ok op)) (slice_get w.methods (top s).method) names in
      law s m.0 i op kept (fetched s m.0 i runs m.1 there) most m.2 none

  -- ---- what the lead rests on

  value-size : (k : Cells A) (value : Value) (stack : List A) → length (value_cells k value stack) ≡ value_width value
  value-size k value stack = grind (arith)

  tested-resumes : (room : ℕ) (s : State A) (value : Value) (known : Known) → IsShaped w s → 257 ≤ room
      → KnowsAt w known (top (without_top s)).method (top (without_top s)).place
      → IsRunning (without_top s) → CanResume room w known (value_width value) (without_top s)
  tested-resumes room s value known shaped enough call runs =
      let f = top-shaped w (other_frames s.frames) runs (rest-frames s.frames shaped.frames) in
      let two = two-cells value in
      record { method = f.known; call = call; room_is = λ most. let deep = f.cells in omega arith }

  module _ (k : Cells A) (room : ℕ) (keeps : State A → Type 0) (s z : State A) (m : MethodRec) (i : Placed) (op : Operation) (kept : keeps s)
      (shaped : IsShaped w s) (runs : IsRunning s)
      (fetches : Fetches w s m i) (names : Resolves w m i.place i.insn (Ok op)) (has : HasRoomToCatch room k.checks) (verified : AreVerified room k keeps w)
      (stay : FramesStay s z) where
    pub leads-on : (known : Known) (lead : Lead) → KnowPlaces k.checks w known → act k w i.insn op s ≡ told k w z lead → Stays lead s z
        → LeadsOn room w known z lead
    leads-on (Marked p) (leads.Jumps to) know e same = tt {0}
    leads-on Verified (leads.Jumps to) know e same = grind (arith)
    leads-on (Marked p) (leads.Gives value) know e same =
        subst (λ (x : State A). IsRunning (without_top x) → CanResume room w (Marked p) (value_width value) (without_top x)) (sym same)
        (tested-resumes room s value (Marked p) shaped (has.result know.0) know.1)
    leads-on Verified (leads.Gives value) know e same =
        let cells : List A = value_cells k value (top z).stack in
        subst (λ (x : State A). IsRunning (without_top x) → CanResume room w Verified (value_width value) (without_top x)) (sym same)
        (λ going. subst (λ (n : ℕ). CanResume room w Verified n (without_top s)) (value-size k value (top z).stack)
        ((verified know s kept runs).resumes m i op value cells fetches names e going))
    leads-on known (leads.Throws handle) know e same = subst (λ (x : State A). All (IsOfClass w.classes) (kinds x)) (sym same) (classes-of s shaped)
    leads-on known lead know e same = tt {0}

  -- ---- what the lead comes to is what the act comes to

  fault-same : (s z : State A) (o : Option Fault) (x : Outcome A) → without_frames z ≡ without_frames s → unless_fault z o x ≡ unless_fault s o x
  fault-same s z x x2 e = grind (arith)

  goes-same : (k : Cells A) (next : ℕ) (s z : State A) → SameMemory s z → goes_to k w next z z ≡ goes_to k w next s z
  goes-same k next s z same = grind (arith, fault-same, length)

  pub same-outcome : (k : Cells A) (next : ℕ) (s z : State A) (lead : Lead) (a : Act A) → a ≡ told k w z lead → Stays lead s z
      → settled k w next z (told k w z lead) ≡ settled k w next s a
  same-outcome k next s z lead a e same = grind (arith, goes-same)

  -- ---- the instruction at the place

  pub knows-here : (k : Cells A) (room : ℕ) (keeps : State A → Type 0) (s : State A) (known : Known) → keeps s → IsRunning s
      → AreVerified room k keeps w → KnowPlaces k.checks w known
      → KnowsAt w known (top s).method (top s).place
  knows-here k room keeps s x kept runs verified know = grind (arith)

  -- a machine that finds none tests
  pub none-tests : (k : Cells A) (known : Known) (method place : ℕ) → KnowPlaces k.checks w known → KnowsAt w known method place
      → instruction_at (code_at w method) place ≡ None → k.checks ≡ true
  none-tests k x method place know at e = grind (arith)

  -- and so does one that finds an instruction that names nothing that it takes
  pub fault-tests : (k : Cells A) (room : ℕ) (keeps : State A → Type 0) (s : State A) (known : Known) (m : MethodRec) (i : Placed) (fault : RuleFault)
      → keeps s → IsRunning s
      → AreVerified room k keeps w → KnowPlaces k.checks w known → Fetches w s m i → Resolves w m i.place i.insn (Err fault) → k.checks ≡ true
  fault-tests k room keeps s x m i fault kept runs verified know fetches names = grind (arith)
