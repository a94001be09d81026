-- What a visit of a place brings about.
use Rattle.std.specs.Prelude.{◌≡◌, ℕ, ◌+◌, ◌<◌, length, All, IsTrue, ℤ, pos, negsuc, Some, Ok}
use Rattle.jc_base.specs.declared.record.Handler.{Handler}
use Rattle.jc_base.specs.World.{Linked}
use Rattle.jc_rules.specs.FlowLaws.{AreRules}
use Rattle.jc_decode.specs.declared.insn.Insn.{Insn}
use Rattle.jc_decode.specs.Decoding.{decoded}
use Rattle.jc_decode.specs.Listing.{falls, jumps}
use Rattle.jc_rules.specs.Demand.{Frame}
use Rattle.jc_control.specs.Method.{Method}
use Rattle.jc_control.specs.Subject as subjects
use Rattle.jc_control.specs.Control.{Covers}
use Rattle.jc_rules.specs.Flow.{IsNotFresh, FlowSteps, At, FrameBelow, caught_frame}
use Rattle.jc_rules.specs.Typing.{state_at}
use Rattle.jc_flow.specs.Found.{Found}
use Rattle.jc_flow.specs.Progress.{IsHeld, AreHeld, IsClosed, Grown, most_rises}
use Rattle.jc_control.specs.ControlFlow.{IsControlFlow}
use Rattle.jc_flow.specs.declared.analysis.Analysis.{Analysis}
use Rattle.jc_flow.specs.declared.edges.FlowStep.{FlowStep}
use Rattle.jc_ops.specs.declared.fault.RuleFault.TheVariants.{StackMerge}
use Rattle.jc_flow.specs.declared.table.PutEnd.{PutEnd}
use Rattle.jc_flow.specs.declared.table.PutEnd.TheVariants.{Clash, Memory}
use Rattle.jc_flow.specs.declared.inference.FlowEnd.{FlowEnd}
use Rattle.jc_flow.specs.declared.inference.FlowEnd.TheVariants.{NoTyping, Memory as NoMemory}

-- the method that is analysed
abbrev pub analysed : Analysis → Method
analysed s = subjects.method s.subject

abbrev pub world_of : Analysis → Linked
world_of s = subjects.world_of s.subject

-- an analysis of a well-formed method of the world, in which it is known where control goes
pub record IsAnalysis (s : Analysis) : Type 0 where
  pub rules : AreRules (world_of s)
  pub control : IsControlFlow (analysed s) s.control.now

-- a table grows, and its frames may stand where they stand
pub record Goes (w : Linked) (m : Method) (old new : Found) : Type 0 where
  pub grown : Grown w.classes (most_rises w.classes m) old new
  pub held : AreHeld w m new

-- it grows, and a frame that is not less than f is found for the place
pub record Raised (w : Linked) (m : Method) (old new : Found) (to : ℕ) (f : Frame) : Type 0 where
  pub goes : Goes w m old new
  pub above : At (state_at new.states) to (FrameBelow w.classes f)

-- what the handler catches is found at its entry
abbrev pub CaughtIsBelow : Linked → ℕ → Frame → Found → Handler → Type 0
CaughtIsBelow w p f found h = Covers h p → At (state_at found.states) h.entry (FrameBelow w.classes (caught_frame h f))

-- what the handlers of the method catch at the place
pub record HandlersRaised (w : Linked) (m : Method) (p : ℕ) (f : Frame) (old new : Found) : Type 0 where
  pub goes : Goes w m old new
  pub caught : All (CaughtIsBelow w p f new) m.rec.handlers

-- the instruction at a place has taken f to g
pub record HasStepped (w : Linked) (m : Method) (p : ℕ) (f g : Frame) (insn : Insn) : Type 0 where
  pub decodes : decoded m.code p ≡ Ok insn
  pub steps : FlowSteps w m (record { place = p; insn = insn }) f g
  pub ready : IsTrue (jumps insn.op) → All IsNotFresh g.stack
  pub stays : IsTrue (falls insn.op) → p + insn.len < length m.code

-- the step at the place of a frame, which is kept where the method has handlers
pub record IsStep (w : Linked) (m : Method) (s : FlowStep) : Type 0 where
  pub from : Frame
  pub here : IsHeld w m s.place from
  pub stepped : HasStepped w m s.place from s.after.now.frame s.insn
  pub kept : 0 < length m.rec.handlers → s.before.now.frame ≡ from

-- what the step leads to after the instruction
abbrev pub IsAtNext : Linked → FlowStep → Found → Type 0
IsAtNext w s found = IsTrue (falls s.insn.op) → At (state_at found.states) (s.place + s.insn.len) (FrameBelow w.classes s.after.now.frame)

-- and at a target
abbrev pub IsAtTarget : Linked → Frame → Found → ℤ → Type 0
IsAtTarget w g found (pos q) = At (state_at found.states) q (FrameBelow w.classes g)
IsAtTarget w g found (negsuc n) = ⊥

-- the visit of a place is over
pub record IsVisited (w : Linked) (m : Method) (p : ℕ) (old new : Found) : Type 0 where
  pub goes : Goes w m old new
  pub closed : (f : Frame) → state_at old.states p ≡ Some f → IsClosed w m new p f

-- why an edge from the place breaks
abbrev pub broken_at : ℕ → PutEnd → FlowEnd
broken_at p Clash = NoTyping p StackMerge
broken_at p Memory = NoMemory
