-- A frame at its turn in a typed state: where its operation leads is safe.
use Rattle.std.proofs.Common.{◌≡◌, ℕ, ◌+◌, ◌<◌, ◌≤◌, Bool, true, false, if◌then◌else◌, List, [], ◌∷◌, ◌++◌, length, drop, arith}
use Rattle.std.proofs.Common.{refl, sym, ap, ◌∙◌, subst, lit<, lit≤}
use Rattle.std.specs.Prelude.{Option, Some, All, ◌==◌}
use Rattle.std.proofs.lemmas.Bool.{eqb-false}
use Rattle.std.proofs.lemmas.List.{map-append, drop-map, append-nil}
use Rattle.std.proofs.lemmas.List.Elements.{All-append, All-drop}
use Rattle.jc_base.specs.World.{Linked, IsWorld}
use Rattle.jc_base.specs.Dispatch.{IsConcrete}
use Rattle.jc_control.specs.Control.{falls_through}
use Rattle.jc_ops.specs.Next.{falls_from}
use Rattle.jc_rules.specs.declared.effect.Cells.{Cells}
use Rattle.jc_rules.specs.declared.effect.Effect.{Effect}
use Rattle.jc_rules.specs.declared.effect.Mode.TheVariants.{Flow}
use Rattle.jc_rules.specs.Effect.{in_stack_order, changed, StoresInRegisters}
use Rattle.jc_rules.specs.Rule.{effect, replacing}
use Rattle.jc_rules.specs.Flow.{CellsBelow, FrameBelow}
use Rattle.jc_rules.proofs.CellLists.{cells-same, cells-trans, cells-append, cells-drop}
use Rattle.vm_store.specs.declared.cell.Cell.{Cell}
use Rattle.vm_store.specs.declared.cell.ObjectKind.{ObjectKind}
use Rattle.vm_store.specs.declared.cell.ObjectKind.TheVariants.{Instance}
use Rattle.vm_store.specs.Kind.{kind_of_handle}
use Rattle.vm_store.specs.Typing.{least_type}
use Rattle.vm_store.specs.Cells.{tagged}
use Rattle.vm_store.specs.State.{Frame, Object}
use Rattle.vm_store.specs.Objects.{new_instance_cells, with_object}
use Rattle.vm_step.specs.declared.ending.Exception.{Exception}
use Rattle.vm_step.specs.declared.ending.Exception.TheVariants as exceptions
use Rattle.vm_step.specs.declared.ending.Plain.TheVariants.{HeapFull}
use Rattle.vm_step.specs.Act.{Act, raises, role_of, unless_null, if_some}
use Rattle.vm_step.specs.Calls.{class_with_methods}
use Rattle.vm_step.specs.Raising.{thrown, raised}
use Rattle.vm_step.specs.Settled.{goes_to, settled}
use Rattle.law_sound.specs.Frames.{Typings, least_types, types_of_frame, IsStacked, IsTypedFrame, result_of, AreWaiting}
use Rattle.law_sound.specs.Soundness.{IsTypedOutcome}
use Rattle.law_sound.proofs.CellTypes.{types-fall}
use Rattle.law_sound.proofs.Going.{goes-on}
use Rattle.law_sound.proofs.Growing.{all-waiting-fall}
use Rattle.law_sound.proofs.Handles.{kinds_of, kind-type, new-kind, kinds-more}
use Rattle.law_sound.proofs.Turns.{Turn, lands}
use Rattle.law_sound.proofs.Finish.{IsTypedStore, plain-safe, safe-if, goes-safe}
use Rattle.law_sound.proofs.Unwinding.{IsThrowable, kind-throwable, AreCatching, unwound-safe}
use Rattle.law_sound.proofs.Stores.{with-instance}

-- the frame on top at its turn, over frames that wait, in a state whose objects and static fields are typed
pub record Here (w : Linked) (assigned : Typings) (f : Frame Cell) (below : List (Frame Cell)) (heap : List (Object Cell)) (statics : List Cell) : Type 0 where
  pub turn : Turn w assigned (kinds_of heap) f
  pub waits : AreWaiting w assigned (kinds_of heap) (result_of w f.method) below
  pub store : IsTypedStore w heap statics

module _ (w : Linked) (world : IsWorld w) (assigned : Typings) (f : Frame Cell) (below : List (Frame Cell)) (heap : List (Object Cell)) (statics : List Cell)
    (here : Here w assigned f below heap statics)
  where
    -- a frame whose cells are below what the rule gives is typed after the instruction, be the objects as they were or others
    pub typed-after :
        (ks : List ObjectKind) (registers stack : List Cell) → falls_from here.turn.operation ≡ true
        → FrameBelow w.classes
        (record {
          regs = least_types w.classes (assigned.unset f.method) ks registers;
          stack = least_types w.classes (assigned.unset f.method) ks stack;
        }) here.turn.after
        → All (IsStacked w here.turn.stands.rec ks) stack
        → IsTypedFrame w assigned ks
        (record {
          method = f.method;
          place = here.turn.stands.instruction.place + here.turn.stands.instruction.insn.len;
          registers = registers;
          stack = stack;
        })
    typed-after ks registers stack falls lower stacked =
        let st = here.turn.stands in
        lands w world assigned (kinds_of heap) f here.turn ks registers stack (st.instruction.place + st.instruction.insn.len)
        (falls_through (goes-on w st.rec st.instruction.place st.instruction.insn here.turn.operation here.turn.resolves falls)) lower stacked

    -- on to the next instruction, with other cells in the same objects
    pub on-safe :
        (registers stack : List Cell) (objects : List (Object Cell)) (fields : List Cell)
        → falls_from here.turn.operation ≡ true
        → FrameBelow w.classes
        (record {
          regs = least_types w.classes (assigned.unset f.method) (kinds_of heap) registers;
          stack = least_types w.classes (assigned.unset f.method) (kinds_of heap) stack;
        }) here.turn.after
        → All (IsStacked w here.turn.stands.rec (kinds_of heap)) stack
        → IsTypedStore w objects fields → kinds_of objects ≡ kinds_of heap
        → IsTypedOutcome w assigned
        (goes_to tagged w (here.turn.stands.instruction.place + here.turn.stands.instruction.insn.len)
        (record { frames = f ∷ below; heap = heap; statics = statics })
        (record { frames = record { method = f.method; place = f.place; registers = registers; stack = stack } ∷ below; heap = objects; statics = fields }))
    on-safe registers stack objects fields falls lower stacked store same =
        let st = here.turn.stands in
        let next : ℕ = st.instruction.place + st.instruction.insn.len in
        let now : Frame Cell = record { method = f.method; place = next; registers = registers; stack = stack } in
        goes-safe w assigned (record { frames = f ∷ below; heap = heap; statics = statics })
        (record { method = f.method; place = f.place; registers = registers; stack = stack }) next below objects fields
        (record {
          made = store.made;
          heap = store.objects;
          statics = store.fields;
          frames = (
            subst (λ ks. IsTypedFrame w assigned ks now) (sym same) (typed-after (kinds_of heap) registers stack falls lower stacked),
            subst (λ ks. AreWaiting w assigned ks (result_of w f.method) below) (sym same) here.waits,
          );
        })

    -- what an operation that replaces cells of the stack gives, be the objects as they were or more
    pub replaced-below :
        (taken : ℕ) (given : Cells) (value : List Cell) (ks : List ObjectKind)
        → effect w here.turn.operation (types_of_frame w.classes (assigned.unset f.method) (kinds_of heap) f) ≡ replacing taken given
        → CellsBelow w.classes (least_types w.classes (assigned.unset f.method) ks value) (in_stack_order given)
        → CellsBelow w.classes (least_types w.classes (assigned.unset f.method) ks f.registers)
        (least_types w.classes (assigned.unset f.method) (kinds_of heap) f.registers)
        → CellsBelow w.classes (least_types w.classes (assigned.unset f.method) ks f.stack)
        (least_types w.classes (assigned.unset f.method) (kinds_of heap) f.stack)
        → FrameBelow w.classes
        (record {
          regs = least_types w.classes (assigned.unset f.method) ks f.registers;
          stack = least_types w.classes (assigned.unset f.method) ks
              (value ++ drop taken f.stack);
        }) here.turn.after
    replaced-below taken given value ks is lower regs stack =
        let exact = types_of_frame w.classes (assigned.unset f.method) (kinds_of heap) f in
        let a = here.turn.applies in
        let after = here.turn.after in
        let stack_is : after.stack ≡ in_stack_order given ++ drop taken exact.stack = a.stack ∙ ap (λ (e : Effect). changed e.change exact.stack) is in
        let regs_are : after.regs ≡ exact.regs = subst (λ (e : Effect). StoresInRegisters w.classes Flow e.store exact.regs after.regs) is a.regs in
        let split : least_types w.classes (assigned.unset f.method) ks (value ++ drop taken f.stack) ≡ least_types w.classes (assigned.unset f.method) ks
        value ++ drop taken (least_types w.classes (assigned.unset f.method) ks f.stack) =
        map-append (least_type w.classes (assigned.unset f.method) ks) value (drop taken f.stack)
        ∙ ap (λ ts. least_types w.classes (assigned.unset f.method) ks value ++ ts)
        (sym (drop-map (least_type w.classes (assigned.unset f.method) ks) taken f.stack)) in
        record {
          regs = subst (CellsBelow w.classes (least_types w.classes (assigned.unset f.method) ks f.registers)) (sym regs_are) regs;
          stack = grind (arith, cells-append, cells-drop);
        }

    -- on, with a value in place of cells of the stack
    pub replace-safe :
        (taken : ℕ) (given : Cells) (value : List Cell) (objects : List (Object Cell)) (fields : List Cell)
        → effect w here.turn.operation (types_of_frame w.classes (assigned.unset f.method) (kinds_of heap) f) ≡ replacing taken given
        → falls_from here.turn.operation ≡ true
        → CellsBelow w.classes (least_types w.classes (assigned.unset f.method) (kinds_of heap) value) (in_stack_order given)
        → All (IsStacked w here.turn.stands.rec (kinds_of heap)) value
        → IsTypedStore w objects fields → kinds_of objects ≡ kinds_of heap
        → IsTypedOutcome w assigned
        (goes_to tagged w (here.turn.stands.instruction.place + here.turn.stands.instruction.insn.len)
        (record { frames = f ∷ below; heap = heap; statics = statics })
        (record {
          frames = record { method = f.method; place = f.place; registers = f.registers; stack = value ++ drop taken f.stack } ∷ below;
          heap = objects;
          statics = fields;
        }))
    replace-safe taken given value objects fields is falls lower stacked store same =
        on-safe f.registers (value ++ drop taken f.stack) objects fields falls
        (replaced-below taken given value (kinds_of heap) is lower
        (cells-same w.classes (least_types w.classes (assigned.unset f.method) (kinds_of heap) f.registers))
        (cells-same w.classes (least_types w.classes (assigned.unset f.method) (kinds_of heap) f.stack)))
        (All-append (IsStacked w here.turn.stands.rec (kinds_of heap)) value (drop taken f.stack) stacked
        (All-drop (IsStacked w here.turn.stands.rec (kinds_of heap)) taken f.stack here.turn.stacked))
        store same

    -- ---- what is thrown

    catching : (more : List ObjectKind) → AreCatching w assigned (kinds_of heap ++ more) (f ∷ below)
    unfolding AreCatching
    catching more =
        grind (
          arith,
          kinds_of heap ++ more,
          cells-trans w.classes (types-fall w.classes (assigned.unset f.method) (kinds_of heap) more f.registers) here.turn.under.regs,
          all-waiting-fall w assigned (kinds_of heap) more (result_of w f.method) below here.waits,
        )

    catching-now : AreCatching w assigned (kinds_of heap) (f ∷ below)
    catching-now = subst (λ ks. AreCatching w assigned ks (f ∷ below)) (append-nil (kinds_of heap)) (catching [])

    throwable : (ks : List ObjectKind) (handle : ℕ) (k : ObjectKind) → kind_of_handle ks handle ≡ Some k
        → IsThrowable w.classes ks (class_with_methods w.classes (kind_of_handle ks handle)) handle
    unfolding IsThrowable
    throwable ks handle k e = grind (arith, kind-type, kind-throwable)

    -- an object
    pub throw-safe :
        (handle : ℕ) (k : ObjectKind) → kind_of_handle (kinds_of heap) handle ≡ Some k
        → IsTypedOutcome w assigned (thrown tagged w handle (record { frames = f ∷ below; heap = heap; statics = statics }))
    throw-safe handle k e =
        unwound-safe w assigned heap statics here.store (class_with_methods w.classes (kind_of_handle (kinds_of heap) handle)) handle
        (throwable (kinds_of heap) handle k e)
        (f ∷ below) (f ∷ below) catching-now

    role-range : (e : Exception) → (2 ≤ role_of e) × (role_of e < 8)
    role-range x = grind (arith, lit≤, lit<)

    made-thrown : (c : ℕ) → IsConcrete w.classes w.methods c → IsTypedOutcome w assigned (thrown tagged w (length heap + 1)
        (with_object (record { frames = f ∷ below; heap = heap; statics = statics }) (Instance c) (new_instance_cells tagged w.classes c)))
    made-thrown c concrete =
        let o : Object Cell = record { kind = Instance c; cells = new_instance_cells tagged w.classes c } in
        let objects : List (Object Cell) = heap ++ o ∷ [] in
        let handle : ℕ = length heap + 1 in
        let kind : kind_of_handle (kinds_of objects) handle ≡ Some (Instance c) =
        subst (λ ks. kind_of_handle ks handle ≡ Some (Instance c)) (sym (kinds-more heap o)) (new-kind heap o) in
        unwound-safe w assigned objects statics (with-instance w heap statics here.store world c concrete)
        (class_with_methods w.classes (kind_of_handle (kinds_of objects) handle)) handle
        (throwable (kinds_of objects) handle (Instance c) kind) (f ∷ below) (f ∷ below)
        (subst (λ ks. AreCatching w assigned ks (f ∷ below)) (sym (kinds-more heap o)) (catching (Instance c ∷ [])))

    -- an exception, of which an object is made where it has room
    pub raise-safe : (exception : Exception)
        → IsTypedOutcome w assigned (raised tagged w exception (record { frames = f ∷ below; heap = heap; statics = statics }))
    raise-safe exception =
        grind (arith, role-range exception, plain-safe w assigned HeapFull (f ∷ below) heap statics here.store, safe-if, made-thrown)

    -- ---- acts that may throw

    -- where an object is there
    pub null-safe :
        (next h : ℕ) (rest : ℕ → Act Cell)
        → ((h ≡ 0 → ⊥) → IsTypedOutcome w assigned (settled tagged w next (record { frames = f ∷ below; heap = heap; statics = statics }) (rest h)))
        → IsTypedOutcome w assigned (settled tagged w next (record { frames = f ∷ below; heap = heap; statics = statics }) (unless_null h rest))
    null-safe next h rest safe = go (h == 0) refl
      where
        go : (b : Bool) → (h == 0) ≡ b
            → IsTypedOutcome w assigned
            (settled tagged w next (record { frames = f ∷ below; heap = heap; statics = statics })
            (if b then raises exceptions.NullPointer else rest h))
        go true e = raise-safe exceptions.NullPointer
        go false e = safe (eqb-false h 0 e)

    pub some-safe :
        {X : Type 0} (next : ℕ) (exception : Exception) (o : Option X) (rest : X → Act Cell)
        → ((x : X) → o ≡ Some x
        → IsTypedOutcome w assigned (settled tagged w next (record { frames = f ∷ below; heap = heap; statics = statics }) (rest x)))
        → IsTypedOutcome w assigned (settled tagged w next (record { frames = f ∷ below; heap = heap; statics = statics }) (if_some exception o rest))
    some-safe next exception z rest safe = grind (arith, raise-safe)
