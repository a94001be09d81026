-- The four ways in which a method is chosen, at a frame's turn.
use Rattle.std.proofs.Common.{◌≡◌, ℕ, ◌+◌, ◌⊎◌, inl, inr, true, false, List, ◌∷◌, length, refl, sym, ap, ◌∙◌, subst, arith, rules}
use Rattle.std.specs.Prelude.{Option, Some, None, slice_get, slice_index_or, unwrap_or}
use Rattle.std.proofs.lemmas.Bool.{eqb-true}
use Rattle.jc_base.specs.declared.ty.Ty.{Ty}
use Rattle.jc_base.specs.declared.ty.Ty.TheVariants.{Bottom, Short, IntHigh, IntLow, Null, Class, ArrBool}
use Rattle.jc_base.specs.declared.ty.Ty.TheVariants.{ArrByte, ArrShort, ArrInt, ArrRef, Fresh, Top}
use Rattle.jc_base.specs.declared.record.MethodRec.{MethodRec}
use Rattle.jc_base.specs.Class.{ClassTable, object}
use Rattle.jc_base.specs.Order.{Below, joined, is_below}
use Rattle.jc_base.specs.Dispatch.{IsConcrete, dispatched}
use Rattle.jc_base.specs.Linked.{lacks_code}
use Rattle.jc_base.specs.World.{Linked, IsWorld}
use Rattle.jc_base.proofs.Subtypes.{is_below-from_Below}
use Rattle.jc_ops.specs.declared.operation.Want.{Want}
use Rattle.jc_ops.specs.declared.operation.Want.TheVariants.{Value, Receiver, Storable, ByteArray, AnyArray, Whole}
use Rattle.jc_ops.specs.declared.operation.Choice.{Choice}
use Rattle.jc_ops.specs.declared.operation.Operation.TheVariants as ops
use Rattle.jc_ops.specs.Sound.{IsVirtualCall, IsReceiverOf}
use Rattle.jc_rules.specs.Rule.{cell, result_given}
use Rattle.jc_rules.specs.Flow.{IsNotFresh}
use Rattle.jc_rules.proofs.Falls.{plain_class}
use Rattle.vm_store.specs.declared.cell.Cell.{Cell}
use Rattle.vm_store.specs.declared.cell.Cell.TheVariants as cells
use Rattle.vm_store.specs.declared.cell.ObjectKind.{ObjectKind}
use Rattle.vm_store.specs.declared.cell.ObjectKind.TheVariants.{Instance}
use Rattle.vm_store.specs.Kind.{kind_of_handle, type_of_kind, IsArrayKind}
use Rattle.vm_store.specs.Typing.{least_type}
use Rattle.vm_store.specs.Cells.{tagged, word_of}
use Rattle.vm_store.specs.State.{Frame, Object, State}
use Rattle.vm_step.specs.declared.ending.Plain.TheVariants.{InterfaceMissing}
use Rattle.vm_step.specs.Act.{calls, lacks, unless_null}
use Rattle.vm_step.specs.Calls.{args_of, class_with_methods, served, made_at, readied, served_act, interface_act}
use Rattle.vm_step.specs.Settled.{entered_call, settled}
use Rattle.law_sound.specs.Frames.{Typings, least_types}
use Rattle.law_sound.specs.State.{CanBeMade}
use Rattle.law_sound.specs.Soundness.{IsTypedOutcome, AreTypings}
use Rattle.law_sound.proofs.CellTypes.{filled-same}
use Rattle.law_sound.proofs.Dispatching.{RunsFor, own-dispatched, class-code, dispatch-runs, served-runs}
use Rattle.law_sound.proofs.Finish.{plain-safe}
use Rattle.law_sound.proofs.Handles.{kinds_of, kind-type}
use Rattle.law_sound.proofs.Instances.{made-at}
use Rattle.law_sound.proofs.Receivers.{ready-value, ready-receiver, made-none, made-value, new-of}
use Rattle.law_sound.proofs.References.{reference-handle, reference-same, IsObject, handle-object}
use Rattle.law_sound.proofs.Calling.{receiver-at, receiver-filled, run-safe, construct-safe}
use Rattle.law_sound.proofs.SafeTurns.{Here, null-safe}

-- an object is an instance of a class, or an array
pub instance-or-array : (k : ObjectKind) → ((d : ℕ) × (k ≡ Instance d)) ⊎ IsArrayKind k
instance-or-array x = grind (arith)

-- an array has the methods of class object, and is below it alone
pub array-class : (t : ClassTable) (k : ObjectKind) → IsArrayKind k → class_with_methods t (Some k) ≡ object t
array-class t y h = grind (arith)

pub array-object : (t : ClassTable) (k : ObjectKind) (c : ℕ) → IsArrayKind k → is_below t (type_of_kind t k) (Class c) ≡ true → c ≡ object t
unfolding is_below
array-object t y c h b = grind (arith, eqb-true)

pub array-lacks : (t : ClassTable) (interface token count : ℕ) (k : ObjectKind) (s : State Cell) → IsArrayKind k
    → interface_act t interface token count (Some k) s ≡ lacks (object t)
array-lacks t interface token count v s h = grind (arith)

module _ (w : Linked) (world : IsWorld w) (assigned : Typings) (typings : AreTypings w assigned) (f : Frame Cell) (below : List (Frame Cell))
    (heap : List (Object Cell)) (statics : List Cell)
    (here : Here w assigned f below heap statics)
  where
    module _ (n : ℕ) (receiver : Option Want) (choice : Choice) (m : MethodRec)
        (is : here.turn.operation ≡ ops.Call (record { method = n; receiver = receiver; choice = choice }))
        (method : slice_get w.methods n ≡ Some m)
      where
        -- ---- an object of a class

        module _ (c : ℕ) (wants : receiver ≡ Some (Value (Class c))) where
          under : Below w.classes (least_type w.classes (assigned.unset f.method) (kinds_of heap) (slice_index_or f.stack (length m.sig.args) cells.Empty))
              (Class c)
          under = (receiver-at w world assigned typings f below heap statics here n receiver choice m is method (Value (Class c)) wants).holds

          -- its type is that of its object
          own-type : (o : IsObject w.classes heap (word_of (slice_index_or f.stack (length m.sig.args) cells.Empty)) (Class c))
              → least_type w.classes (assigned.unset f.method) (kinds_of heap) (slice_index_or f.stack (length m.sig.args) cells.Empty)
              ≡ type_of_kind w.classes o.object.kind
          own-type o = grind (arith, reference-same, kinds_of, receiver-filled, under, kind-type)

          run : (k : ℕ) (o : MethodRec) → slice_get w.methods k ≡ Some o → lacks_code w.classes o ≡ false → o.sig ≡ m.sig
              → o.is_static ≡ false
              → Below w.classes (least_type w.classes (assigned.unset f.method) (kinds_of heap) (slice_index_or f.stack (length m.sig.args) cells.Empty))
              (Class o.class)
              → IsTypedOutcome w assigned (entered_call tagged w k (args_of w n + 1) (record { frames = f ∷ below; heap = heap; statics = statics }))
          run k o there code_is sig dynamic receives = search (rules, run-safe, ready-value)

          run-for : (r k : ℕ) (kind : ObjectKind) → kind ≡ Instance r → RunsFor w r k m.sig
              → least_type w.classes (assigned.unset f.method) (kinds_of heap) (slice_index_or f.stack (length m.sig.args) cells.Empty)
              ≡ type_of_kind w.classes kind
              → IsTypedOutcome w assigned (entered_call tagged w k (args_of w n + 1) (record { frames = f ∷ below; heap = heap; statics = statics }))
          run-for r k kind kind_is runs type_is = grind (arith, run)

          -- by the class of the object
          dispatched-safe :
              (token : ℕ) → IsVirtualCall w n m receiver c token
              → (o : IsObject w.classes heap (word_of (slice_index_or f.stack (length m.sig.args) cells.Empty)) (Class c))
              → IsTypedOutcome w assigned (entered_call tagged w
              (unwrap_or
              (dispatched w.classes c token
              (class_with_methods w.classes (kind_of_handle (kinds_of heap) (word_of (slice_index_or f.stack (length m.sig.args) cells.Empty))))) n)
              (args_of w n + 1) (record { frames = f ∷ below; heap = heap; statics = statics }))
          dispatched-safe token call o = elim (instance-or-array o.object.kind) [
            | inl found ↦
                let made : CanBeMade w o.object.kind = made-at w (kinds_of heap) (word_of (slice_index_or f.stack (length m.sig.args) cells.Empty))
                o.object.kind here.store.made o.kind_is in
                let concrete : IsConcrete w.classes w.methods found.0 = subst (CanBeMade w) found.1 made in
                let lower : Below w.classes (Class found.0) (Class c) = subst (λ k. Below w.classes (type_of_kind w.classes k) (Class c)) found.1 o.below in
                let d = dispatch-runs w world c token found.0 n m concrete lower call.entry method in
                let chosen : unwrap_or
                (dispatched w.classes c token
                (class_with_methods w.classes (kind_of_handle (kinds_of heap) (word_of (slice_index_or f.stack (length m.sig.args) cells.Empty))))) n
                ≡ d.method =
                ap (λ k. unwrap_or (dispatched w.classes c token (class_with_methods w.classes k)) n) (o.kind_is ∙ ap Some found.1)
                ∙ ap (λ x. unwrap_or x n) d.found in
                subst
                (λ k. IsTypedOutcome w assigned
                (entered_call tagged w k (args_of w n + 1) (record { frames = f ∷ below; heap = heap; statics = statics }))) (sym chosen)
                (run-for found.0 d.method o.object.kind found.1 d.runs (own-type o))
            | inr array ↦
                let object_is : c ≡ object w.classes = array-object w.classes o.object.kind c array (is_below-from_Below w.classes world.chains o.below) in
                let entry : dispatched w.classes c token (object w.classes) ≡ Some n =
                subst (λ x. dispatched w.classes c token x ≡ Some n) object_is (own-dispatched w.classes c token ∙ call.entry) in
                let chosen : unwrap_or
                (dispatched w.classes c token
                (class_with_methods w.classes (kind_of_handle (kinds_of heap) (word_of (slice_index_or f.stack (length m.sig.args) cells.Empty))))) n
                ≡ n =
                ap (λ k. unwrap_or (dispatched w.classes c token (class_with_methods w.classes k)) n) o.kind_is
                ∙ (ap (λ x. unwrap_or (dispatched w.classes c token x) n) (array-class w.classes o.object.kind array) ∙ ap (λ x. unwrap_or x n) entry) in
                subst
                (λ k. IsTypedOutcome w assigned
                (entered_call tagged w k (args_of w n + 1) (record { frames = f ∷ below; heap = heap; statics = statics }))) (sym chosen)
                (run n m method (class-code w world c m call.class call.inherited.class (call.body object_is)) refl call.inherited.dynamic
                (joined under call.inherited.class))
          ]

          pub virtual-safe :
              (token next : ℕ) → IsVirtualCall w n m receiver c token
              → IsTypedOutcome w assigned (settled tagged w next (record { frames = f ∷ below; heap = heap; statics = statics })
              (unless_null (word_of (slice_index_or f.stack (length m.sig.args) cells.Empty))
              (λ h. calls (unwrap_or (dispatched w.classes c token (class_with_methods w.classes (kind_of_handle (kinds_of heap) h))) n) (args_of w n + 1)
              (record { frames = f ∷ below; heap = heap; statics = statics }))))
          virtual-safe token next call =
              let h : ℕ = word_of (slice_index_or f.stack (length m.sig.args) cells.Empty) in
              null-safe w world assigned f below heap statics here next h
              (λ h. calls (unwrap_or (dispatched w.classes c token (class_with_methods w.classes (kind_of_handle (kinds_of heap) h))) n) (args_of w n + 1)
              (record { frames = f ∷ below; heap = heap; statics = statics }))
              (λ some. dispatched-safe token call
              (handle-object w.classes world.chains heap h (Class c) tt some
              (reference-handle w.classes world.chains (assigned.unset f.method) (kinds_of heap) (slice_index_or f.stack (length m.sig.args) cells.Empty)
              (Class c) tt under)))

          -- by the interfaces of the class of the object
          served-safe :
              (interface token next r h : ℕ) (o : Option ℕ) → served w.classes interface token r ≡ o → IsConcrete w.classes w.methods r
              → m.class ≡ interface → m.token ≡ token
              → least_type w.classes (assigned.unset f.method) (kinds_of heap) (slice_index_or f.stack (length m.sig.args) cells.Empty)
              ≡ type_of_kind w.classes (Instance r)
              → IsTypedOutcome w assigned (settled tagged w next (record { frames = f ∷ below; heap = heap; statics = statics })
              (served_act o r (args_of w n + 1) (record { frames = f ∷ below; heap = heap; statics = statics })))
          served-safe interface token next r h None e concrete class at type_is = grind (arith, plain-safe)
          served-safe interface token next r h (Some k) e concrete class at type_is =
              run-for r k (Instance r) refl (served-runs w world interface token r n k m concrete method class at e) type_is

          pub interface-safe :
              (interface token next : ℕ) → m.class ≡ interface → m.token ≡ token
              → IsTypedOutcome w assigned (settled tagged w next (record { frames = f ∷ below; heap = heap; statics = statics })
              (unless_null (word_of (slice_index_or f.stack (length m.sig.args) cells.Empty))
              (λ h. interface_act w.classes interface token (args_of w n + 1) (kind_of_handle (kinds_of heap) h)
              (record { frames = f ∷ below; heap = heap; statics = statics }))))
          interface-safe interface token next class at =
              let now : State Cell = record { frames = f ∷ below; heap = heap; statics = statics } in
              let h : ℕ = word_of (slice_index_or f.stack (length m.sig.args) cells.Empty) in
              null-safe w world assigned f below heap statics here next h
              (λ h. interface_act w.classes interface token (args_of w n + 1) (kind_of_handle (kinds_of heap) h) now)
              (λ some.
              let o = handle-object w.classes world.chains heap h (Class c) tt some
              (reference-handle w.classes world.chains (assigned.unset f.method) (kinds_of heap) (slice_index_or f.stack (length m.sig.args) cells.Empty)
              (Class c) tt under) in
              elim (instance-or-array o.object.kind) [
                | inl found ↦
                    let made : CanBeMade w o.object.kind = made-at w (kinds_of heap) h o.object.kind here.store.made o.kind_is in
                    subst (λ k. IsTypedOutcome w assigned (settled tagged w next now (interface_act w.classes interface token (args_of w n + 1) k now)))
                    (sym (o.kind_is ∙ ap Some found.1))
                    (served-safe interface token next found.0 h (served w.classes interface token found.0) refl (subst (CanBeMade w) found.1 made) class at
                    (own-type o ∙ ap (type_of_kind w.classes) found.1))
                | inr array ↦
                    subst (λ a. IsTypedOutcome w assigned (settled tagged w next now a))
                    (sym (ap (λ k. interface_act w.classes interface token (args_of w n + 1) k now) o.kind_is
                    ∙ array-lacks w.classes interface token (args_of w n + 1) o.object.kind now array))
                    (plain-safe w assigned (InterfaceMissing (object w.classes)) (f ∷ below) heap statics here.store)
              ])

        -- ---- the method that is named

        -- what is readied before it
        readied-safe :
            (o : Option ℕ) (place : Option ℕ) → place ≡ o
            → IsTypedOutcome w assigned
            (entered_call tagged w n (args_of w n + 1) (readied tagged (record { frames = f ∷ below; heap = heap; statics = statics }) o))
            → IsTypedOutcome w assigned
            (entered_call tagged w n (args_of w n + 1) (readied tagged (record { frames = f ∷ below; heap = heap; statics = statics }) place))
        readied-safe o place e h = grind (arith)

        pub named-safe :
            (want : Want) → receiver ≡ Some want → lacks_code w.classes m ≡ false → m.is_static ≡ false → IsReceiverOf w m (Some want)
            → IsTypedOutcome w assigned (entered_call tagged w n (args_of w n + 1)
            (readied tagged (record { frames = f ∷ below; heap = heap; statics = statics })
            (made_at (Some want) (least_type w.classes Bottom (kinds_of heap) (slice_index_or f.stack (length m.sig.args) cells.Empty)))))
        named-safe (Value (Class c)) wants code_is dynamic receives =
            let found : Ty = least_type w.classes Bottom (kinds_of heap) (slice_index_or f.stack (length m.sig.args) cells.Empty) in
            readied-safe None (made_at (Some (Value (Class c))) found) (made-value (Class c) found)
            (run c wants n m method code_is refl dynamic (joined (under c wants) receives.2))
        named-safe (Receiver c) wants code_is dynamic receives =
            let t = w.classes in
            let ks = kinds_of heap in
            let r : Cell = slice_index_or f.stack (length m.sig.args) cells.Empty in
            let filled = receiver-filled w world assigned typings f below heap statics here n receiver choice m is method (Receiver c) wants in
            let same_type : least_type t Bottom ks r ≡ least_type t (assigned.unset f.method) ks r = filled-same t (assigned.unset f.method) ks r filled in
            let at = receiver-at w world assigned typings f below heap statics here n receiver choice m is method (Receiver c) wants in
            let found : Ty = least_type t Bottom ks r in
            elim at.holds [
              | inl fresh ↦
                  let new = new-of t (assigned.unset f.method) ks c r filled fresh in
                  readied-safe (Some new.place) (made_at (Some (Receiver c)) found) (ap (made_at (Some (Receiver c))) (same_type ∙ new.type_is))
                  (construct-safe w world assigned typings f below heap statics here n receiver choice m is method c wants code_is dynamic receives.1 new)
              | inr old ↦
                  let plain : IsNotFresh (least_type t (assigned.unset f.method) ks r) = plain_class t (least_type t (assigned.unset f.method) ks r) old in
                  readied-safe None (made_at (Some (Receiver c)) found) (made-none c found (subst IsNotFresh (sym same_type) plain))
                  (run-safe w world assigned typings f below heap statics here n receiver choice m is method (Receiver c) wants n m method code_is refl dynamic
                  (ready-receiver (length m.sig.args + 1) (result_given m.sig.result)
                  (cell (least_types t (assigned.unset f.method) ks f.stack) (length m.sig.args)) c (subst IsNotFresh (sym at.seen) plain))
                  (subst (λ d. Below t (least_type t (assigned.unset f.method) ks r) (Class d)) receives.1 old))
            ]
        named-safe (Value Bottom) wants code_is dynamic receives = absurd receives
        named-safe (Value Short) wants code_is dynamic receives = absurd receives
        named-safe (Value IntHigh) wants code_is dynamic receives = absurd receives
        named-safe (Value IntLow) wants code_is dynamic receives = absurd receives
        named-safe (Value Null) wants code_is dynamic receives = absurd receives
        named-safe (Value ArrBool) wants code_is dynamic receives = absurd receives
        named-safe (Value ArrByte) wants code_is dynamic receives = absurd receives
        named-safe (Value ArrShort) wants code_is dynamic receives = absurd receives
        named-safe (Value ArrInt) wants code_is dynamic receives = absurd receives
        named-safe (Value (ArrRef c)) wants code_is dynamic receives = absurd receives
        named-safe (Value (Fresh p c)) wants code_is dynamic receives = absurd receives
        named-safe (Value Top) wants code_is dynamic receives = absurd receives
        named-safe Storable wants code_is dynamic receives = absurd receives
        named-safe ByteArray wants code_is dynamic receives = absurd receives
        named-safe AnyArray wants code_is dynamic receives = absurd receives
        named-safe Whole wants code_is dynamic receives = absurd receives
