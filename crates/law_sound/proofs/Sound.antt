-- A step from a typed state is safe, and so is a run.
use Rattle.vm_step.specs.declared.ending.Ending.TheVariants.{Faulted}
use Rattle.std.proofs.Common.{◌≡◌, ℕ, ◌+◌, List, [], ◌∷◌, length, refl, sym, ap, ◌∙◌, subst, arith}
use Rattle.std.specs.Prelude.{Option, Some, None, Result, Ok, Err, slice_get, slice_index_or, unwrap_or}
use Rattle.std.proofs.lemmas.Option.{none-some, same_Some}
use Rattle.jc_base.specs.declared.ty.Ty.TheVariants.{Bottom}
use Rattle.jc_base.specs.declared.record.MethodRec.{MethodRec}
use Rattle.jc_base.specs.Class.{object}
use Rattle.jc_base.specs.Dispatch.{dispatched}
use Rattle.jc_base.specs.World.{Linked, IsWorld}
use Rattle.jc_base.proofs.Concreteness.{concrete-decides}
use Rattle.jc_decode.specs.declared.insn.Placed.{Placed}
use Rattle.jc_ops.specs.declared.fault.RuleFault.{RuleFault}
use Rattle.jc_ops.specs.declared.operation.Want.{Want}
use Rattle.jc_ops.specs.declared.operation.Choice.{Choice}
use Rattle.jc_ops.specs.declared.operation.Choice.TheVariants as choices
use Rattle.jc_ops.specs.declared.operation.Operation.{Operation}
use Rattle.jc_ops.specs.declared.operation.Operation.TheVariants as ops
use Rattle.jc_ops.specs.Resolve.{Resolves}
use Rattle.jc_ops.specs.Sound.{IsSound, IsCalleeOf, IsChosen}
use Rattle.jc_ops.proofs.Soundness.{operations-are-sound}
use Rattle.vm_store.specs.declared.cell.Cell.{Cell}
use Rattle.vm_store.specs.declared.cell.Cell.TheVariants as cells
use Rattle.vm_store.specs.Kind.{kind_of_handle}
use Rattle.vm_store.specs.Typing.{least_type}
use Rattle.vm_store.specs.Cells.{tagged, word_of}
use Rattle.vm_store.specs.State.{Frame, Object, State, IsRunning}
use Rattle.vm_step.specs.Methods.{of_method, code_at, instruction_at}
use Rattle.vm_step.specs.Performed.{act}
use Rattle.vm_step.specs.Tests.{fault_before}
use Rattle.vm_step.specs.Act.{calls, unless_null}
use Rattle.vm_step.specs.Calls.{args_of, class_with_methods, made_at, readied, interface_act, call_act}
use Rattle.vm_step.specs.Raising.{Outcome, running, ended}
use Rattle.vm_step.specs.Settled.{settled, unless_fault}
use Rattle.vm_step.specs.Step.{Steps, misplaced, unresolved, performs, performed}
use Rattle.vm_step.specs.Run.{Runs, stands, stops, steps}
use Rattle.law_sound.specs.Frames.{Typings}
use Rattle.law_sound.specs.State.{IsTypedState}
use Rattle.law_sound.specs.Soundness.{AreTypings, IsTypedOutcome, StepsAreSafe, RunsAreSafe, TypedCodeIsFaultFree, HasTypings}
use Rattle.law_sound.proofs.Entering.{method-known}
use Rattle.law_sound.proofs.TypingsByNumber.{methods-have-typings}
use Rattle.law_sound.proofs.Finish.{there-at}
use Rattle.law_sound.proofs.Handles.{kinds_of}
use Rattle.law_sound.proofs.Passing.{passes-before}
use Rattle.law_sound.proofs.Turns.{turn}
use Rattle.law_sound.proofs.SafeTurns.{Here, null-safe}
use Rattle.law_sound.proofs.Numbers.{constant-safe, arithmetic-safe}
use Rattle.law_sound.proofs.Registers.{load-safe, store-safe, increment-safe}
use Rattle.law_sound.proofs.Moves.{move-safe}
use Rattle.law_sound.proofs.Branches.{branch-safe, switch-safe}
use Rattle.law_sound.proofs.Arrays.{array-read-safe}
use Rattle.law_sound.proofs.ArrayWrites.{array-write-safe, array-length-safe}
use Rattle.law_sound.proofs.Fields.{field-read-safe, field-write-safe}
use Rattle.law_sound.proofs.Starting.{starts-are-typed}
use Rattle.law_sound.proofs.Statics.{static-read-safe, static-write-safe}
use Rattle.law_sound.proofs.Objects.{new-safe, new-array-safe, throw-act-safe, type-test-safe}
use Rattle.law_sound.proofs.Returns.{return-safe}
use Rattle.law_sound.proofs.Calling.{static-call}
use Rattle.law_sound.proofs.Invoking.{virtual-safe, interface-safe, named-safe}

module _ (w : Linked) (world : IsWorld w) (assigned : Typings) (typings : AreTypings w assigned) (f : Frame Cell) (below : List (Frame Cell))
    (heap : List (Object Cell)) (statics : List Cell)
    (here : Here w assigned f below heap statics)
  where
    -- what the operation speaks of is in the world
    pub sound : IsSound w here.turn.stands.rec here.turn.stands.instruction.place here.turn.operation
    sound =
        let st = here.turn.stands in
        operations-are-sound w world (concrete-decides w.classes w.methods) st.rec st.instruction.place st.instruction.insn here.turn.operation
        (method-known w world f.method st.rec st.is_method).result here.turn.resolves

    sound-of : (op : Operation) → here.turn.operation ≡ op → IsSound w here.turn.stands.rec here.turn.stands.instruction.place op
    sound-of op is = subst (IsSound w here.turn.stands.rec here.turn.stands.instruction.place) is sound

    -- ---- calls

    chosen-safe :
        (n : ℕ) (receiver : Option Want) (choice : Choice) (m : MethodRec)
        → here.turn.operation ≡ ops.Call (record { method = n; receiver = receiver; choice = choice })
        → slice_get w.methods n ≡ Some m → IsChosen w n m receiver choice
        → IsTypedOutcome w assigned
        (settled tagged w (here.turn.stands.instruction.place + here.turn.stands.instruction.insn.len)
        (record { frames = f ∷ below; heap = heap; statics = statics })
        (call_act tagged w (record { method = n; receiver = receiver; choice = choice }) (record { frames = f ∷ below; heap = heap; statics = statics })))
    chosen-safe n receiver choices.Static m is method chosen =
        static-call w world assigned typings f below heap statics here n receiver choices.Static m is method chosen.receiver_is chosen.static chosen.body
    chosen-safe n None choices.Special m is method chosen = absurd chosen.receives
    chosen-safe n (Some want) choices.Special m is method chosen =
        let now : State Cell = record { frames = f ∷ below; heap = heap; statics = statics } in
        let next : ℕ = here.turn.stands.instruction.place + here.turn.stands.instruction.insn.len in
        subst (λ k. IsTypedOutcome w assigned (settled tagged w next now
        (unless_null (word_of (slice_index_or f.stack k cells.Empty))
        (λ h. calls n (args_of w n + 1)
        (readied tagged now (made_at (Some want) (least_type w.classes Bottom (kinds_of heap) (slice_index_or f.stack k cells.Empty))))))))
        (sym (ap (of_method 0 (λ (x : MethodRec). length x.sig.args)) method))
        (null-safe w world assigned f below heap statics here next (word_of (slice_index_or f.stack (length m.sig.args) cells.Empty))
        (λ h. calls n (args_of w n + 1)
        (readied tagged now (made_at (Some want) (least_type w.classes Bottom (kinds_of heap) (slice_index_or f.stack (length m.sig.args) cells.Empty)))))
        (λ some. named-safe w world assigned typings f below heap statics here n (Some want) choices.Special m is method want refl chosen.body
        chosen.dynamic chosen.receives))
    chosen-safe n receiver (choices.Virtual c token) m is method chosen =
        let now : State Cell = record { frames = f ∷ below; heap = heap; statics = statics } in
        let next : ℕ = here.turn.stands.instruction.place + here.turn.stands.instruction.insn.len in
        subst (λ k. IsTypedOutcome w assigned (settled tagged w next now
        (unless_null (word_of (slice_index_or f.stack k cells.Empty))
        (λ h. calls (unwrap_or (dispatched w.classes c token (class_with_methods w.classes (kind_of_handle (kinds_of heap) h))) n) (args_of w n + 1) now))))
        (sym (ap (of_method 0 (λ (x : MethodRec). length x.sig.args)) method))
        (virtual-safe w world assigned typings f below heap statics here n receiver (choices.Virtual c token) m is method c chosen.receiver_is token next
        chosen)
    chosen-safe n receiver (choices.Interface c token words) m is method chosen =
        let now : State Cell = record { frames = f ∷ below; heap = heap; statics = statics } in
        let next : ℕ = here.turn.stands.instruction.place + here.turn.stands.instruction.insn.len in
        subst (λ k. IsTypedOutcome w assigned (settled tagged w next now
        (unless_null (word_of (slice_index_or f.stack k cells.Empty))
        (λ h. interface_act w.classes c token (args_of w n + 1) (kind_of_handle (kinds_of heap) h) now))))
        (sym (ap (of_method 0 (λ (x : MethodRec). length x.sig.args)) method))
        (interface-safe w world assigned typings f below heap statics here n receiver (choices.Interface c token words) m is method (object w.classes)
        chosen.receiver_is
        c token next chosen.class chosen.token_is)

    call-safe :
        (n : ℕ) (receiver : Option Want) (choice : Choice)
        → here.turn.operation ≡ ops.Call (record { method = n; receiver = receiver; choice = choice })
        → IsTypedOutcome w assigned
        (settled tagged w (here.turn.stands.instruction.place + here.turn.stands.instruction.insn.len)
        (record { frames = f ∷ below; heap = heap; statics = statics })
        (call_act tagged w (record { method = n; receiver = receiver; choice = choice }) (record { frames = f ∷ below; heap = heap; statics = statics })))
    call-safe n receiver choice is =
        let callee : IsCalleeOf w (record { method = n; receiver = receiver; choice = choice }) = sound-of
        (ops.Call (record { method = n; receiver = receiver; choice = choice })) is in
        chosen-safe n receiver choice callee.rec is callee.is_method callee.chosen

    -- ---- every operation

    pub act-safe :
        (op : Operation) → here.turn.operation ≡ op
        → IsTypedOutcome w assigned
        (settled tagged w (here.turn.stands.instruction.place + here.turn.stands.instruction.insn.len)
        (record { frames = f ∷ below; heap = heap; statics = statics })
        (act tagged w here.turn.stands.instruction.insn op (record { frames = f ∷ below; heap = heap; statics = statics })))
    act-safe (ops.Constant c) is = constant-safe w world assigned f below heap statics here c is
    act-safe (ops.Load sort x) is = load-safe w world assigned f below heap statics here sort x is
    act-safe (ops.Store sort x) is = store-safe w world assigned f below heap statics here sort x is
    act-safe (ops.Increment width x amount) is = increment-safe w world assigned f below heap statics here width x amount is
    act-safe (ops.Move move) is = move-safe w world assigned f below heap statics here move is
    act-safe (ops.Arithmetic a) is = arithmetic-safe w world assigned f below heap statics here a is
    act-safe (ops.ArrayRead kind) is = array-read-safe w world assigned f below heap statics here kind is
    act-safe (ops.ArrayWrite kind) is = array-write-safe w world assigned f below heap statics here kind is
    act-safe ops.ArrayLength is = array-length-safe w world assigned f below heap statics here is
    act-safe (ops.Branch branch) is = branch-safe w world assigned f below heap statics here branch is
    act-safe (ops.Switch width) is = switch-safe w world assigned f below heap statics here width is
    act-safe (ops.StaticRead fd) is = static-read-safe w world assigned f below heap statics here fd.slot fd.kind fd.ty is (sound-of (ops.StaticRead fd) is)
    act-safe (ops.StaticWrite fd) is = static-write-safe w world assigned f below heap statics here fd.slot fd.kind fd.ty is (sound-of (ops.StaticWrite fd) is)
    act-safe (ops.FieldRead fd holder) is =
        field-read-safe w world assigned f below heap statics here fd.class fd.cell fd.kind fd.ty holder is (sound-of (ops.FieldRead fd holder) is)
    act-safe (ops.FieldWrite fd holder) is =
        field-write-safe w world assigned f below heap statics here fd.class fd.cell fd.kind fd.ty holder is (sound-of (ops.FieldWrite fd holder) is)
    act-safe (ops.Call callee) is = call-safe callee.method callee.receiver callee.choice is
    act-safe (ops.New place class) is =
        let known = sound-of (ops.New place class) is in
        new-safe w world assigned f below heap statics here place class is (sym known.0) known.1
    act-safe (ops.NewArray ty) is =
        let known = sound-of (ops.NewArray ty) is in
        new-array-safe w world assigned f below heap statics here ty is known.0 known.1
    act-safe ops.Throw is = throw-act-safe w world assigned f below heap statics here is
    act-safe (ops.TypeTest test ty) is = type-test-safe w world assigned f below heap statics here test ty is (sound-of (ops.TypeTest test ty) is)
    act-safe (ops.Return result) is =
        let known = sound-of (ops.Return result) is in
        return-safe w world assigned f below heap statics here result is known.0 known.1

-- ---- a step

module _ (w : Linked) (world : IsWorld w) (assigned : Typings) (typings : AreTypings w assigned) where
  -- what a frame fetches is the instruction of its turn
  performs-safe :
      (f : Frame Cell) (below : List (Frame Cell)) (heap : List (Object Cell)) (statics : List Cell) (m : MethodRec) (i : Placed) (op : Operation)
      → (here : Here w assigned f below heap statics)
      → here.turn.stands.rec ≡ m → here.turn.stands.instruction ≡ i → here.turn.operation ≡ op
      → IsTypedOutcome w assigned (performed tagged w i op (record { frames = f ∷ below; heap = heap; statics = statics }))
  performs-safe f below heap statics m i op here same_m same_i same_op =
      let now : State Cell = record { frames = f ∷ below; heap = heap; statics = statics } in
      let st = here.turn.stands in
      let passed : fault_before tagged w here.turn.operation now ≡ None = passes-before w world.chains f below heap statics here.turn.operation
      here.turn.asked in
      let safe = act-safe w world assigned typings f below heap statics here here.turn.operation refl in
      let own : IsTypedOutcome w assigned (performed tagged w st.instruction here.turn.operation now) =
      subst
      (λ o. IsTypedOutcome w assigned
      (unless_fault now o
      (settled tagged w (st.instruction.place + st.instruction.insn.len) now (act tagged w st.instruction.insn here.turn.operation now))))
      (sym passed) safe in
      subst (λ x. IsTypedOutcome w assigned (performed tagged w i x now)) same_op
      (subst (λ j. IsTypedOutcome w assigned (performed tagged w j here.turn.operation now)) same_i own)

  module _ (f : Frame Cell) (below : List (Frame Cell)) (heap : List (Object Cell)) (statics : List Cell)
      (typed : IsTypedState w assigned (record { frames = f ∷ below; heap = heap; statics = statics })) where
    now : State Cell
    now = record { frames = f ∷ below; heap = heap; statics = statics }

    pub here-now : Here w assigned f below heap statics
    here-now =
        record {
          turn = turn w world assigned (kinds_of heap) f typed.frames.0;
          waits = typed.frames.1;
          store = record { made = typed.made; objects = typed.heap; fields = typed.statics };
        }

    there : instruction_at (code_at w f.method) f.place ≡ Some here-now.turn.stands.instruction
    there = there-at w assigned f here-now.turn.stands

    pub same-method : (m : MethodRec) → slice_get w.methods f.method ≡ Some m → here-now.turn.stands.rec ≡ m
    same-method m e = same_Some here-now.turn.stands.rec m (sym here-now.turn.stands.is_method ∙ e)

    pub same-instruction : (i : Placed) → instruction_at (code_at w f.method) f.place ≡ Some i → here-now.turn.stands.instruction ≡ i
    same-instruction i e = same_Some here-now.turn.stands.instruction i (sym there ∙ e)

    pub same-answer : (m : MethodRec) (i : Placed) (r : Result Operation RuleFault) → here-now.turn.stands.rec ≡ m
        → here-now.turn.stands.instruction ≡ i
        → Resolves w m i.place i.insn r → Ok here-now.turn.operation ≡ r
    same-answer m i r same_m same_i resolves = grind (arith, here-now, turn)

    step-safe : {o : Outcome Cell} → Steps tagged w (record { frames = f ∷ below; heap = heap; statics = statics }) o → IsTypedOutcome w assigned o
    step-safe (misplaced checks runs e) = absurd (none-some here-now.turn.stands.instruction (sym e ∙ there))
    step-safe (unresolved {m = m} {i = i} checks fetched fault resolves) =
        let same : Ok here-now.turn.operation ≡ Err fault = same-answer m i (Err fault) (same-method m fetched.method)
        (same-instruction i fetched.instruction) resolves in
        absurd (cc)
    step-safe (performs {m = m} {i = i} {o = o} fetched op resolves is) =
        let same : Ok here-now.turn.operation ≡ Ok op = same-answer m i (Ok op) (same-method m fetched.method) (same-instruction i fetched.instruction)
        resolves in
        let same_op : here-now.turn.operation ≡ op = cc in
        subst (IsTypedOutcome w assigned) (sym is)
        (performs-safe f below heap statics m i op here-now (same-method m fetched.method) (same-instruction i fetched.instruction) same_op)

  runs-some : (s : State Cell) {o : Outcome Cell} → Steps tagged w s o → IsRunning s
  runs-some s y = grind (arith)

  steps-by : (fs : List (Frame Cell)) (heap : List (Object Cell)) (statics : List Cell) (o : Outcome Cell)
      → IsTypedState w assigned (record { frames = fs; heap = heap; statics = statics })
      → Steps tagged w (record { frames = fs; heap = heap; statics = statics }) o → IsTypedOutcome w assigned o
  steps-by x heap statics o typed step = grind (arith, runs-some, step-safe)

  one-safe : (s : State Cell) (o : Outcome Cell) → IsTypedState w assigned s → Steps tagged w s o → IsTypedOutcome w assigned o
  one-safe s o typed step = steps-by s.frames s.heap s.statics o typed step

  all-safe : {n : ℕ} {s : State Cell} {o : Outcome Cell} → IsTypedState w assigned s → Runs tagged w n s o → IsTypedOutcome w assigned o
  all-safe typed stands = typed
  all-safe typed (stops {s = s} {z = z} {ending = e} step) = one-safe s (ended e z) typed step
  all-safe typed (steps {s = s} {z = z} step more) = all-safe (one-safe s (running z) typed step) more

pub steps-are-safe : (w : Linked) → IsWorld w → StepsAreSafe w
steps-are-safe w world assigned s o typings typed step = one-safe w world assigned typings s o typed step

pub runs-are-safe : (w : Linked) → IsWorld w → RunsAreSafe w
runs-are-safe w world assigned n s o typings typed runs = all-safe w world assigned typings typed runs

pub typed-is-fault-free : (w : Linked) → IsWorld w → TypedCodeIsFaultFree w
typed-is-fault-free w world unset typed entry args s z n fault starts runs =
    let has : HasTypings w unset = methods-have-typings w unset typed in
    runs-are-safe w world has.typings n s (ended (Faulted fault) z) has.are (starts-are-typed w world has.typings entry args s has.are starts) runs
