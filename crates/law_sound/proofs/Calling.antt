-- Calls at a frame's turn.
use Rattle.std.proofs.Common.{◌≡◌, ℕ, ◌+◌, ◌<◌, Bool, true, false, if◌then◌else◌, List, [], ◌∷◌, ◌++◌, length, map, reverse}
use Rattle.std.proofs.Common.{take, drop, refl, sym, ap, ◌∙◌, subst, arith}
use Rattle.std.specs.Prelude.{Option, Some, None, IsSomeAnd, All, slice_get, slice_index_or}
use Rattle.std.proofs.lemmas.Bool.{eq-eqb}
use Rattle.std.proofs.lemmas.List.{map-append, take-map, drop-map, length-map, length-reverse, reverse-append, reverse-reverse, take_more}
use Rattle.std.proofs.lemmas.List.Elements.{All-take, All-drop}
use Rattle.jc_base.specs.declared.ty.Ty.{Ty}
use Rattle.jc_base.specs.declared.ty.Ty.TheVariants.{Class, Top}
use Rattle.jc_base.specs.declared.record.Sig.{Sig}
use Rattle.jc_base.specs.declared.record.MethodRec.{MethodRec}
use Rattle.jc_base.specs.Order.{Below, same}
use Rattle.jc_base.specs.Cell.{IsDeclared}
use Rattle.jc_base.specs.Linked.{lacks_code}
use Rattle.jc_base.specs.World.{Linked, IsWorld}
use Rattle.jc_base.proofs.Lists.{All-reverse, IsSomeAnd-some}
use Rattle.jc_base.proofs.Orders.{order-of-types}
use Rattle.jc_control.specs.Control.{falls_through}
use Rattle.jc_ops.specs.declared.operation.Want.{Want}
use Rattle.jc_ops.specs.declared.operation.Want.TheVariants.{Receiver}
use Rattle.jc_ops.specs.declared.operation.Choice.{Choice}
use Rattle.jc_ops.specs.declared.operation.Operation.TheVariants as ops
use Rattle.jc_ops.specs.Next.{falls_from}
use Rattle.jc_rules.specs.declared.demand.Demand.TheVariants.{Cell as CellAsked}
use Rattle.jc_rules.specs.declared.effect.Change.{Change}
use Rattle.jc_rules.specs.declared.effect.Change.TheVariants.{Replace, MakeReady}
use Rattle.jc_rules.specs.Demand.{SatisfiesAll, Meets}
use Rattle.jc_rules.specs.Effect.{in_stack_order, ready, changed}
use Rattle.jc_rules.specs.Rule.{cell, cells_wanted, call_demands, call_change, on_stack, ready_with, result_given, result_at, effect}
use Rattle.jc_rules.specs.Flow.{CellsBelow, no_cells, more_cells, FrameBelow, receiver_of}
use Rattle.jc_rules.proofs.CellLists.{cells-same, cells-append}
use Rattle.jc_rules.proofs.Demands.{SatisfiesAll-front, SatisfiesAll-rest}
use Rattle.jc_rules.proofs.Flowing.{is-order-of-cells}
use Rattle.vm_store.specs.declared.cell.Cell.{Cell}
use Rattle.vm_store.specs.declared.cell.Cell.TheVariants as cells
use Rattle.vm_store.specs.declared.cell.ObjectKind.{ObjectKind}
use Rattle.vm_store.specs.declared.cell.ObjectKind.TheVariants.{Instance}
use Rattle.vm_store.specs.Kind.{kind_of_handle}
use Rattle.vm_store.specs.Typing.{least_type, type_of_handle}
use Rattle.vm_store.specs.Cells.{tagged, made_ready}
use Rattle.vm_store.specs.State.{Frame, Object}
use Rattle.vm_store.specs.Laws.{HasContent}
use Rattle.vm_step.specs.Calls.{args_of}
use Rattle.vm_step.specs.Methods.{of_method}
use Rattle.vm_step.specs.Settled.{entered_call}
use Rattle.law_sound.specs.Frames.{Typings, least_types, types_of_frame, types_with, class_made, IsStacked, result_of, IsWaiting}
use Rattle.law_sound.specs.Soundness.{IsTypedOutcome, AreTypings}
use Rattle.law_sound.proofs.CellTypes.{stacked-filled, stacked-alike}
use Rattle.law_sound.proofs.Cells.{IsCellAt, cell-at, stacked-at}
use Rattle.law_sound.proofs.Receivers.{IsNewOf, types-readied, stacked-readied, arguments-kept}
use Rattle.law_sound.proofs.Entering.{types-turned, wanted-below, entered-typed, method-known}
use Rattle.law_sound.proofs.Finish.{enters-safe}
use Rattle.law_sound.proofs.Going.{goes-on}
use Rattle.law_sound.proofs.Handles.{kinds_of, kind-type}
use Rattle.law_sound.proofs.Registers.{asked-of}
use Rattle.law_sound.proofs.Turns.{waits}
use Rattle.law_sound.proofs.SafeTurns.{Here}

module _ (w : Linked) (world : IsWorld w) (assigned : Typings) (typings : AreTypings w assigned) (f : Frame Cell) (below : List (Frame Cell))
    (heap : List (Object Cell)) (statics : List Cell)
    (here : Here w assigned f below heap statics)
  where
    -- a method with code is entered with so many cells of a stack, which are below its parameters, and the caller waits for its result
    pub call-safe :
        (n count : ℕ) (m : MethodRec) (result : Option Ty) (stack : List Cell)
        → slice_get w.methods n ≡ Some m → lacks_code w.classes m ≡ false → m.sig.result ≡ result
        → falls_from here.turn.operation ≡ true
        → CellsBelow w.classes (least_types w.classes (assigned.unset f.method) (kinds_of heap) (reverse (take count stack))) (receiver_of m ++ m.sig.args)
        → FrameBelow w.classes
        (types_with w.classes (assigned.unset f.method) (kinds_of heap) result
        (record { method = f.method; place = f.place; registers = f.registers; stack = drop count stack })) here.turn.after
        → All (IsStacked w here.turn.stands.rec (kinds_of heap)) stack
        → IsTypedOutcome w assigned (entered_call tagged w n count
        (record { frames = record { method = f.method; place = f.place; registers = f.registers; stack = stack } ∷ below; heap = heap; statics = statics }))
    call-safe n count m result stack is lacks gives falls args lower stacked =
        let ks = kinds_of heap in
        let st = here.turn.stands in
        let given : result_of w n ≡ result = ap result_at is ∙ gives in
        let waiting = waits w world assigned ks f here.turn f.registers (drop count stack) result
        (falls_through (goes-on w st.rec st.instruction.place st.instruction.insn here.turn.operation here.turn.resolves falls)) here.turn.under.regs lower
        (All-drop (IsStacked w st.rec ks) count stack stacked) in
        let given_cells : All (IsStacked w st.rec ks) (reverse (take count stack)) =
        All-reverse (IsStacked w st.rec ks) (take count stack) (All-take (IsStacked w st.rec ks) count stack stacked) in
        let own_args : CellsBelow w.classes (least_types w.classes (assigned.unset n) ks (reverse (take count stack))) (receiver_of m ++ m.sig.args) =
        subst (λ ts. CellsBelow w.classes ts (receiver_of m ++ m.sig.args))
        (stacked-alike w st.rec (assigned.unset f.method) (assigned.unset n) ks (reverse (take count stack)) given_cells) args in
        enters-safe w assigned (record f { stack = stack }) below heap statics n count here.store (record {
          made = here.store.made;
          heap = here.store.objects;
          statics = here.store.fields;
          frames = (
            entered-typed w world assigned typings ks n m is lacks (reverse (take count stack)) own_args,
            (
              subst (λ r. IsWaiting w assigned ks r (record { method = f.method; place = f.place; registers = f.registers; stack = drop count stack }))
                  (sym given) waiting,
              here.waits,
            ),
          );
        })

    -- ---- a call

    module _ (n : ℕ) (receiver : Option Want) (choice : Choice) (m : MethodRec)
        (is : here.turn.operation ≡ ops.Call (record { method = n; receiver = receiver; choice = choice }))
        (method : slice_get w.methods n ≡ Some m)
      where
        demanded : SatisfiesAll w.classes (types_of_frame w.classes (assigned.unset f.method) (kinds_of heap) f) (call_demands m.sig.args receiver)
        demanded = grind (arith, asked-of)

        -- the arguments are below their types, the last on top
        pub args-below : CellsBelow w.classes (take (length m.sig.args) (least_types w.classes (assigned.unset f.method) (kinds_of heap) f.stack))
            (reverse m.sig.args)
        args-below =
            let exact = types_of_frame w.classes (assigned.unset f.method) (kinds_of heap) f in
            subst (λ k. CellsBelow w.classes (take k exact.stack) (reverse m.sig.args)) (length-reverse m.sig.args)
            (wanted-below w.classes exact 0 (reverse m.sig.args) (SatisfiesAll-front w.classes exact (cells_wanted 0 (reverse m.sig.args)) _ demanded))

        -- what the rule gives, by the change that the call makes
        does : effect w here.turn.operation (types_of_frame w.classes (assigned.unset f.method) (kinds_of heap) f)
            ≡ on_stack
            (call_change m.sig.args (result_given m.sig.result) receiver (types_of_frame w.classes (assigned.unset f.method) (kinds_of heap) f))
        does = grind (arith)

        -- a frame whose stack is what the rule gives but for the result is below it
        given-below :
            (change : Change) (stack : List Cell)
            → on_stack
            (call_change m.sig.args (result_given m.sig.result) receiver (types_of_frame w.classes (assigned.unset f.method) (kinds_of heap) f))
            ≡ on_stack change
            → in_stack_order (result_given m.sig.result) ++ least_types w.classes (assigned.unset f.method) (kinds_of heap) stack ≡ changed change
            (least_types w.classes (assigned.unset f.method) (kinds_of heap) f.stack)
            → FrameBelow w.classes
            (types_with w.classes (assigned.unset f.method) (kinds_of heap) m.sig.result
            (record { method = f.method; place = f.place; registers = f.registers; stack = stack })) here.turn.after
        given-below change stack e stack_is = grind (arith, cells-same)

        -- cells in the order of the parameters
        turned-below :
            (xs : List Cell) (tys : List Ty) → CellsBelow w.classes (least_types w.classes (assigned.unset f.method) (kinds_of heap) xs) tys
            → CellsBelow w.classes (least_types w.classes (assigned.unset f.method) (kinds_of heap) (reverse xs)) (reverse tys)
        turned-below xs tys h =
            subst (λ ts. CellsBelow w.classes ts (reverse tys)) (sym (types-turned w.classes (assigned.unset f.method) (kinds_of heap) xs))
            ((is-order-of-cells w.classes (order-of-types w.classes world.chains)).turned h)

        -- the types of the arguments, in the order of the parameters
        args-turned :
            (count : ℕ) (stack : List Cell) (tys : List Ty)
            → CellsBelow w.classes (take count (least_types w.classes (assigned.unset f.method) (kinds_of heap) stack)) tys
            → CellsBelow w.classes (least_types w.classes (assigned.unset f.method) (kinds_of heap) (reverse (take count stack))) (reverse tys)
        args-turned count stack tys h = grind (arith, turned-below, take-map)

        count-is : args_of w n ≡ length m.sig.args
        count-is = ap (of_method 0 (λ (x : MethodRec). length x.sig.args)) method

        -- ---- without a receiver

        pub static-call :
            receiver ≡ None → m.is_static ≡ true → lacks_code w.classes m ≡ false
            → IsTypedOutcome w assigned (entered_call tagged w n (args_of w n) (record { frames = f ∷ below; heap = heap; statics = statics }))
        static-call none static lacks =
            let ks = kinds_of heap in
            let l : ℕ = length m.sig.args in
            let args = args-turned l f.stack (reverse m.sig.args) args-below in
            let parameters : reverse (reverse m.sig.args) ≡ receiver_of m ++ m.sig.args =
            reverse-reverse m.sig.args ∙ sym (ap (λ (b : Bool). (if b then [] else Class m.class ∷ []) ++ m.sig.args) static) in
            subst (λ k. IsTypedOutcome w assigned (entered_call tagged w n k (record { frames = f ∷ below; heap = heap; statics = statics }))) (sym count-is)
            (call-safe n l m m.sig.result f.stack method lacks refl (ap falls_from is)
            (subst (CellsBelow w.classes (least_types w.classes (assigned.unset f.method) ks (reverse (take l f.stack)))) parameters args)
            (given-below (Replace l (result_given m.sig.result)) (drop l f.stack)
            (ap (λ r. on_stack (call_change m.sig.args (result_given m.sig.result) r (types_of_frame w.classes (assigned.unset f.method) ks f))) none)
            (ap (λ ts. in_stack_order (result_given m.sig.result) ++ ts) (sym (drop-map (least_type w.classes (assigned.unset f.method) ks) l f.stack))))
            here.turn.stacked)

        -- ---- with a receiver under the arguments

        module _ (want : Want) (wants : receiver ≡ Some want) where
          receiver-asked : IsSomeAnd (slice_get (least_types w.classes (assigned.unset f.method) (kinds_of heap) f.stack) (length m.sig.args))
              (Meets w.classes want)
          receiver-asked =
              let exact = types_of_frame w.classes (assigned.unset f.method) (kinds_of heap) f in
              let all = subst (λ r. SatisfiesAll w.classes exact (call_demands m.sig.args r)) wants demanded in
              (SatisfiesAll-rest w.classes exact (cells_wanted 0 (reverse m.sig.args)) (CellAsked (length m.sig.args) want ∷ []) all).0

          pub receiver-at : IsCellAt w.classes (assigned.unset f.method) (kinds_of heap) f.stack (length m.sig.args) (Meets w.classes want)
          receiver-at = cell-at w.classes (assigned.unset f.method) (kinds_of heap) f.stack (length m.sig.args) (Meets w.classes want) receiver-asked

          pub receiver-filled : HasContent (slice_index_or f.stack (length m.sig.args) cells.Empty)
          receiver-filled = grind (arith, stacked-filled, stacked-at, receiver-at)

          -- the receiver and the arguments, in the order of the parameters of the method that runs
          parameters-are :
              (o : MethodRec) → o.sig ≡ m.sig → o.is_static ≡ false → reverse (reverse m.sig.args ++ Class o.class ∷ [])
              ≡ receiver_of o ++ o.sig.args
          parameters-are o sig dynamic = grind (arith, reverse-append, reverse, reverse-reverse)

          -- an object that is ready runs a method with code
          pub run-safe :
              (k : ℕ) (o : MethodRec) → slice_get w.methods k ≡ Some o → lacks_code w.classes o ≡ false → o.sig ≡ m.sig → o.is_static ≡ false
              → ready_with (length m.sig.args + 1) (result_given m.sig.result)
              (cell (least_types w.classes (assigned.unset f.method) (kinds_of heap) f.stack) (length m.sig.args)) want
              ≡ Replace (length m.sig.args + 1) (result_given m.sig.result)
              → Below w.classes (least_type w.classes (assigned.unset f.method) (kinds_of heap) (slice_index_or f.stack (length m.sig.args) cells.Empty))
              (Class o.class)
              → IsTypedOutcome w assigned (entered_call tagged w k (args_of w n + 1) (record { frames = f ∷ below; heap = heap; statics = statics }))
          run-safe k o there lacks sig dynamic plain receives =
              let ks = kinds_of heap in
              let exact = types_of_frame w.classes (assigned.unset f.method) ks f in
              let l : ℕ = length m.sig.args in
              let inside : l < length exact.stack = omega (arith, receiver-at.inside, length-map f.stack (least_type w.classes (assigned.unset f.method) ks)) in
              let split : take (l + 1) exact.stack ≡ take l exact.stack ++ slice_index_or exact.stack l Top ∷ [] = take_more exact.stack l Top inside in
              let recv : Below w.classes (slice_index_or exact.stack l Top) (Class o.class) = subst (λ a. Below w.classes a (Class o.class))
              (sym receiver-at.seen) receives in
              let taken : CellsBelow w.classes (take (l + 1) exact.stack) (reverse m.sig.args ++ Class o.class ∷ []) =
              subst (λ ts. CellsBelow w.classes ts (reverse m.sig.args ++ Class o.class ∷ [])) (sym split)
              (cells-append w.classes args-below (more_cells recv no_cells)) in
              let args = args-turned (l + 1) f.stack (reverse m.sig.args ++ Class o.class ∷ []) taken in
              subst (λ c. IsTypedOutcome w assigned (entered_call tagged w k (c + 1) (record { frames = f ∷ below; heap = heap; statics = statics })))
              (sym count-is)
              (call-safe k (l + 1) o m.sig.result f.stack there lacks (ap (λ (x : Sig). x.result) sig) (ap falls_from is)
              (subst (CellsBelow w.classes (least_types w.classes (assigned.unset f.method) ks (reverse (take (l + 1) f.stack))))
              (parameters-are o sig dynamic) args)
              (given-below (Replace (l + 1) (result_given m.sig.result)) (drop (l + 1) f.stack)
              (ap (λ r. on_stack (call_change m.sig.args (result_given m.sig.result) r exact)) wants ∙ ap on_stack plain)
              (ap (λ ts. in_stack_order (result_given m.sig.result) ++ ts)
              (sym (drop-map (least_type w.classes (assigned.unset f.method) ks) (l + 1) f.stack))))
              here.turn.stacked)

        -- ---- a constructor, on an object that is not ready

        pub construct-safe :
            (class : ℕ) → receiver ≡ Some (Receiver class) → lacks_code w.classes m ≡ false → m.is_static ≡ false → class ≡ m.class
            → (new : IsNewOf w.classes (assigned.unset f.method) (kinds_of heap) class (slice_index_or f.stack (length m.sig.args) cells.Empty))
            → IsTypedOutcome w assigned (entered_call tagged w n (args_of w n + 1)
            (record {
              frames = record { method = f.method; place = f.place; registers = f.registers; stack = map (made_ready new.place) f.stack } ∷ below;
              heap = heap;
              statics = statics;
            }))
        construct-safe class wants lacks dynamic own new =
            let t = w.classes in
            let ks = kinds_of heap in
            let ty : Cell → Ty = least_type t (assigned.unset f.method) ks in
            let st = here.turn.stands in
            let exact = types_of_frame t (assigned.unset f.method) ks f in
            let l : ℕ = length m.sig.args in
            let r : Cell = slice_index_or f.stack l cells.Empty in
            let p : ℕ = new.place in
            let ready_stack : List Cell = map (made_ready p) f.stack in
            let at = receiver-at (Receiver class) wants in
            let made : class_made w st.rec p ≡ Some class = place-told r new (stacked-at w st.rec ks f.stack l at.inside here.turn.stacked) in
            let kept : map (made_ready p) (take l f.stack) ≡ take l f.stack =
            arguments-kept w world.chains st.rec (assigned.unset f.method) ks p class made (take l f.stack) (reverse m.sig.args)
            (All-take (IsStacked w st.rec ks) l f.stack here.turn.stacked) (All-reverse (IsDeclared t) m.sig.args (method-known w world n m method).arguments)
            (subst (λ ts. CellsBelow t ts (reverse m.sig.args)) (take-map ty l f.stack) args-below) in
            let ready_is : made_ready p r ≡ cells.Ref new.handle =
            ap (made_ready p) new.cell_is ∙ ap (λ b. if b then cells.Ref new.handle else cells.Fresh new.handle p) (eq-eqb p p refl) in
            let taken : take (l + 1) ready_stack ≡ take l f.stack ++ cells.Ref new.handle ∷ [] =
            take-map (made_ready p) (l + 1) f.stack
            ∙ (ap (map (made_ready p)) (take_more f.stack l cells.Empty at.inside)
            ∙ (map-append (made_ready p) (take l f.stack) (r ∷ [])
            ∙ (ap (λ xs. xs ++ made_ready p r ∷ []) kept ∙ ap (λ c. take l f.stack ++ c ∷ []) ready_is))) in
            let recv : Below t (type_of_handle t ks new.handle) (Class m.class) =
            subst (λ a. Below t a (Class m.class)) (sym (kind-type t ks new.handle (Instance class) new.kind))
            (subst (λ c. Below t (Class class) (Class c)) own same) in
            let front : CellsBelow t (least_types t (assigned.unset f.method) ks (take l f.stack)) (reverse m.sig.args) =
            subst (λ ts. CellsBelow t ts (reverse m.sig.args)) (take-map ty l f.stack) args-below in
            let cells_below : CellsBelow t (least_types t (assigned.unset f.method) ks (take l f.stack ++ cells.Ref new.handle ∷ []))
            (reverse m.sig.args ++ Class m.class ∷ []) =
            subst (λ ts. CellsBelow t ts (reverse m.sig.args ++ Class m.class ∷ [])) (sym (map-append ty (take l f.stack) (cells.Ref new.handle ∷ [])))
            (cells-append t front (more_cells recv no_cells)) in
            let args : CellsBelow t (least_types t (assigned.unset f.method) ks (reverse (take (l + 1) ready_stack)))
            (reverse (reverse m.sig.args ++ Class m.class ∷ [])) =
            turned-below (take (l + 1) ready_stack) (reverse m.sig.args ++ Class m.class ∷ [])
            (subst (λ xs. CellsBelow t (least_types t (assigned.unset f.method) ks xs) (reverse m.sig.args ++ Class m.class ∷ [])) (sym taken)
            cells_below) in
            let dropped_is : drop (l + 1) ready_stack ≡ map (made_ready p) (drop (l + 1) f.stack) = drop-map (made_ready p) (l + 1) f.stack in
            let rest : All (IsStacked w st.rec ks) (drop (l + 1) f.stack) = All-drop (IsStacked w st.rec ks) (l + 1) f.stack here.turn.stacked in
            let types_rest : least_types t (assigned.unset f.method) ks (drop (l + 1) ready_stack) ≡ map (ready p class) (drop (l + 1) exact.stack) =
            ap (least_types t (assigned.unset f.method) ks) dropped_is
            ∙ (types-readied w world.chains st.rec (assigned.unset f.method) ks p class made (drop (l + 1) f.stack) rest
            ∙ ap (map (ready p class)) (sym (drop-map ty (l + 1) f.stack))) in
            let changes : on_stack (call_change m.sig.args (result_given m.sig.result) receiver exact)
            ≡ on_stack (MakeReady (l + 1) p class (result_given m.sig.result)) =
            ap (λ x. on_stack (call_change m.sig.args (result_given m.sig.result) x exact)) wants
            ∙ ap (λ a. on_stack (ready_with (l + 1) (result_given m.sig.result) a (Receiver class))) (at.seen ∙ new.type_is) in
            subst (λ c. IsTypedOutcome w assigned (entered_call tagged w n (c + 1)
            (record {
              frames = record { method = f.method; place = f.place; registers = f.registers; stack = ready_stack } ∷ below;
              heap = heap;
              statics = statics;
            }))) (sym count-is)
            (call-safe n (l + 1) m m.sig.result ready_stack method lacks refl (ap falls_from is)
            (subst (CellsBelow t (least_types t (assigned.unset f.method) ks (reverse (take (l + 1) ready_stack))))
            (parameters-are (Receiver class) wants m refl dynamic) args)
            (given-below (MakeReady (l + 1) p class (result_given m.sig.result)) (drop (l + 1) ready_stack) changes
            (ap (λ ts. in_stack_order (result_given m.sig.result) ++ ts) types_rest))
            (stacked-readied w world.chains st.rec (assigned.unset f.method) ks p class made f.stack here.turn.stacked))
          where
            place-told : (r : Cell) → (x : IsNewOf w.classes (assigned.unset f.method) (kinds_of heap) class r)
                → IsStacked w here.turn.stands.rec (kinds_of heap) r → class_made w here.turn.stands.rec x.place ≡ Some class
            place-told r x stacked =
                let there : IsSomeAnd (class_made w here.turn.stands.rec x.place) (λ c. kind_of_handle (kinds_of heap) x.handle ≡ Some (Instance c)) =
                subst (IsStacked w here.turn.stands.rec (kinds_of heap)) x.cell_is stacked in
                let found = IsSomeAnd-some (λ (c : ℕ). kind_of_handle (kinds_of heap) x.handle ≡ Some (Instance c))
                (class_made w here.turn.stands.rec x.place) there in
                let kinds : ◌≡◌ {A = Option ObjectKind} (Some (Instance found.0)) (Some (Instance class)) = sym found.2 ∙ x.kind in
                let one : found.0 ≡ class = cc in
                found.1 ∙ ap Some one
