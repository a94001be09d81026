-- What is known of frames beside one another, and the laws that the simulation rests on.
use Rattle.std.proofs.Common.{◌≡◌, ℕ, suc, ◌+◌, ◌<◌, ◌≤◌, ◌⊎◌, ⊎_elim, List, [], length, map, refl, sym, ap, ◌∙◌}
use Rattle.std.proofs.Common.{subst, arith}
use Rattle.std.specs.Prelude.{Some, slice_get}
use Rattle.std.proofs.lemmas.Bool.{cases_lt}
use Rattle.jc_base.specs.declared.record.MethodRec.{MethodRec}
use Rattle.jc_base.specs.World.{Linked, code_of}
use Rattle.jc_decode.specs.declared.insn.Placed.{Placed}
use Rattle.jc_decode.proofs.InstructionLists.{all-are-listed}
use Rattle.jc_control.specs.Method.{Method}
use Rattle.jc_control.specs.WellFormed.{IsPlace, IsWellFormed, HasInstruction}
use Rattle.jc_control.proofs.Closing.{instructions-are-placed}
use Rattle.jc_ops.specs.declared.operation.Operation.{Operation}
use Rattle.jc_ops.specs.declared.operation.Operation.TheVariants as ops
use Rattle.jc_rules.specs.Footprint.{footprint, AlikeLeaveAlike}
use Rattle.vm_store.specs.declared.cell.Cell.{Cell}
use Rattle.vm_store.specs.Cells.{tagged}
use Rattle.vm_store.specs.State.{Frame, State}
use Rattle.vm_step.specs.declared.ending.Exception.{Exception}
use Rattle.vm_step.specs.Act.{raises, throws}
use Rattle.vm_step.specs.Methods.{of_method, code_at, handlers_of, max_stack_of}
use Rattle.vm_step.specs.Performed.{act}
use Rattle.law_sound.specs.Frames.{Typings}
use Rattle.law_sound.specs.Handed.{OnlyCallsCall, CallsHandAll, StartsHandAll}
use Rattle.law_sound.specs.Soundness.{StepsAreSafe, StartsAreTyped}
use Rattle.law_alike.specs.Alike.{renamed_new}
use Rattle.law_alike.specs.Likeness.{StepsAreAlike, TypedStatesStay}
use Rattle.law_alike.specs.Starting.{StartsRefuseAlike}
use Rattle.law_share.specs.Live.{Operates, Writes, MayLeadTo, IsLiveAt, live_on}
use Rattle.law_share.specs.Renamed.{IsRenamed}
use Rattle.law_share.specs.Beside.{Renaming, AreRenamed, FrameBeside, AreUnder, no_frames, more_frames}
use Rattle.law_share.proofs.Quiet.{IsStoring, quiet-or-stores}

pub record AreLaws (v : Linked) : Type 0 where
  pub safe : StepsAreSafe v
  pub starts : StartsAreTyped v
  pub only : OnlyCallsCall v
  pub handed : CallsHandAll v
  pub begun : StartsHandAll v
  pub alike : StepsAreAlike v
  pub stay : TypedStatesStay v
  pub refuse : StartsRefuseAlike v
  pub leave : AlikeLeaveAlike v

-- ---- frames of a state

pub under-length : (v w : Linked) (r : Renaming) {fs gs : List (Frame Cell)} → AreUnder v w r fs gs → length gs ≡ length fs
under-length v w r no_frames = refl
under-length v w r (more_frames first rest) = ap suc (under-length v w r rest)

-- the place after an instruction is one where it is not the end
pub next-is-place : (m : Method) (i : Placed) (q : ℕ) → IsWellFormed m → HasInstruction m.code i → q ≡ i.place + i.insn.len → q < length m.code
    → IsPlace m.code q
next-is-place m i q formed stands at lt =
    subst (IsPlace m.code) (sym at)
    (⊎_elim (λ end. absurd (omega (arith, end, at, lt))) (λ there. there) ((instructions-are-placed all-are-listed m formed).next i stands))

-- ---- operations that are alike

pub footprint-new : (v : Linked) (place : ℕ → ℕ) (a : Operation) → footprint v (renamed_new place a) ≡ footprint v a
footprint-new v place (ops.New p class) = refl
footprint-new v place _ = refl

-- so one that raises an exception or throws an object writes none
pub raising-is-quiet :
    (v : Linked) (i : Placed) (op : Operation) (s : State Cell) (exception : Exception) → act tagged v i.insn op s ≡ raises exception
    → (footprint v op).written ≡ 0
raising-is-quiet v i op s exception e = ⊎_elim (λ quiet. quiet) (λ is. by op is e) (quiet-or-stores v op)
  where
    by : (op : Operation) → IsStoring op → act tagged v i.insn op s ≡ raises exception → (footprint v op).written ≡ 0
    by (ops.Store _ x) is e = absurd (cc)
    by (ops.Increment width x amount) is e = absurd (cc)
    by _ is e = absurd is

pub throwing-is-quiet :
    (v : Linked) (i : Placed) (op : Operation) (s : State Cell) (handle : ℕ) → act tagged v i.insn op s ≡ throws handle
    → (footprint v op).written ≡ 0
throwing-is-quiet v i op s handle e = ⊎_elim (λ quiet. quiet) (λ is. by op is e) (quiet-or-stores v op)
  where
    by : (op : Operation) → IsStoring op → act tagged v i.insn op s ≡ throws handle → (footprint v op).written ≡ 0
    by (ops.Store _ x) is e = absurd (cc)
    by (ops.Increment width x amount) is e = absurd (cc)
    by _ is e = absurd is

-- a register that is not among those written is outside
pub outside : (v : Linked) (op : Operation) (x : ℕ) → ¬ (Writes v op x)
    → (x < (footprint v op).register) ⊎ ((footprint v op).register + (footprint v op).written ≤ x)
outside v op x apart = grind (arith, cases_lt)

pub none-written : (v : Linked) (op : Operation) (x : ℕ) → (footprint v op).written ≡ 0 → ¬ (Writes v op x)
none-written v op x none h = let a = h.from in let b = h.before in absurd (omega (arith, none, a, b))

-- ---- a frame and its method in the second world

module _ (v w : Linked) (typings : Typings) (laws : AreLaws v) (r : Renaming) (pair : AreRenamed v w typings r) where
  module _ (f g : Frame Cell) (b : FrameBeside v w r f g) where
    abbrev pub its : IsRenamed v w b.source (r.place b.source.number) (r.reg b.source.number)
    its = pair.methods b.source b.is_source

    pub its-record : slice_get v.methods f.method ≡ Some b.source.rec
    its-record = ap (slice_get v.methods) (sym b.number) ∙ b.is_source.rec

    pub other-record : slice_get w.methods g.method ≡ Some its.target.rec
    other-record = ap (slice_get w.methods) (b.method ∙ (sym b.number ∙ sym its.number)) ∙ its.is_target.rec

    pub its-code : code_at v f.method ≡ b.source.code
    its-code = ap (of_method [] (code_of v.infos)) its-record ∙ sym b.is_source.code

    pub other-code : code_at w g.method ≡ its.target.code
    other-code = ap (of_method [] (code_of w.infos)) other-record ∙ sym its.is_target.code

    pub same-room : max_stack_of w g.method ≡ max_stack_of v f.method
    same-room = grind (arith, other-record, its-record)

    pub its-handlers : handlers_of v f.method ≡ b.source.rec.handlers
    its-handlers = ap (of_method [] (λ (m : MethodRec). m.handlers)) its-record

    pub other-handlers : handlers_of w g.method ≡ map its.handler b.source.rec.handlers
    other-handlers = ap (of_method [] (λ (m : MethodRec). m.handlers)) other-record ∙ its.catches.handlers

    -- a register that is live after an instruction that writes none is held there
    pub held-after :
        (i : Placed) (op : Operation) (q x : ℕ) → Operates v b.source i op → i.place ≡ f.place → (footprint v op).written ≡ 0
        → MayLeadTo b.source i q → IsLiveAt v b.source x q
        → slice_get g.registers (r.reg b.source.number x) ≡ slice_get f.registers x
    held-after i op q x operates there quiet leads live =
        b.held x (subst (IsLiveAt v b.source x) there (live_on i op q operates (none-written v op x quiet) leads live))
