-- A method begins with as many cells as it has parameters.
use Rattle.std.proofs.Common.{◌≡◌, ℕ, ◌+◌, ◌≤◌, ◌==◌, Bool, true, false, if◌then◌else◌, inl, inr, List, [], ◌∷◌}
use Rattle.std.proofs.Common.{length, take, refl, sym, ap, ◌∙◌, subst, arith}
use Rattle.std.specs.Prelude.{ℤ, Option, Some, None, Ok, slice_get, slice_index_or, unwrap_or, ⊤}
use Rattle.std.proofs.lemmas.Bool.{eqb-false}
use Rattle.std.proofs.lemmas.List.{length-map, length-reverse, length-take}
use Rattle.jc_base.specs.declared.ty.Ty.{Ty}
use Rattle.jc_base.specs.declared.ty.Ty.TheVariants.{Bottom, Class}
use Rattle.jc_base.specs.declared.record.MethodRec.{MethodRec}
use Rattle.jc_base.specs.declared.record.Sig.{Sig}
use Rattle.jc_base.specs.Cell.{width}
use Rattle.jc_base.specs.Class.{object}
use Rattle.jc_base.specs.Dispatch.{IsConcrete, dispatched}
use Rattle.jc_base.specs.Linked.{receiver_words}
use Rattle.jc_base.specs.Order.{Below}
use Rattle.jc_base.specs.World.{Linked, IsWorld}
use Rattle.jc_base.proofs.Subtypes.{is_below-from_Below}
use Rattle.jc_decode.specs.declared.insn.Insn.{Insn}
use Rattle.jc_decode.specs.declared.insn.Placed.{Placed}
use Rattle.jc_ops.specs.declared.operation.Arithmetic.{Arithmetic}
use Rattle.jc_ops.specs.declared.operation.TypeTest.{TypeTest}
use Rattle.jc_ops.specs.declared.operation.Want.{Want}
use Rattle.jc_ops.specs.declared.operation.Want.TheVariants.{Value}
use Rattle.jc_ops.specs.declared.operation.Callee.{Callee}
use Rattle.jc_ops.specs.declared.operation.Choice.{Choice}
use Rattle.jc_ops.specs.declared.operation.Choice.TheVariants as choices
use Rattle.jc_ops.specs.declared.operation.Operation.{Operation}
use Rattle.jc_ops.specs.declared.operation.Operation.TheVariants as ops
use Rattle.jc_ops.specs.Resolve.{Resolves}
use Rattle.jc_ops.specs.Sound.{IsSound, IsCalleeOf, IsVirtualCall, IsChosen}
use Rattle.jc_rules.proofs.CellLists.{cells-length}
use Rattle.vm_store.specs.declared.cell.Cell.{Cell}
use Rattle.vm_store.specs.declared.cell.Cell.TheVariants as cells
use Rattle.vm_store.specs.declared.cell.ObjectKind.{ObjectKind}
use Rattle.vm_store.specs.Kind.{kind_of_handle, type_of_kind}
use Rattle.vm_store.specs.Typing.{least_type}
use Rattle.vm_store.specs.Cells.{Cells, tagged, word_of}
use Rattle.vm_store.specs.State.{Frame, Object, State, arguments, top}
use Rattle.vm_step.specs.declared.ending.Exception.{Exception}
use Rattle.vm_step.specs.declared.ending.Exception.TheVariants as exceptions
use Rattle.vm_step.specs.Act.{Act, calls, raises, throws, lacks, unless_null, if_some}
use Rattle.vm_step.specs.Branching.{leads_if}
use Rattle.vm_step.specs.Numbers.{handle_at, short_at, dropped}
use Rattle.vm_step.specs.Calls.{args_of, class_with_methods, made_at, readied, served}
use Rattle.vm_step.specs.Calls.{served_act, interface_act, call_act, chosen_act, return_act}
use Rattle.vm_step.specs.Methods.{of_method}
use Rattle.vm_step.specs.Objects.{array_of_count, kind_of_type, type_test_act}
use Rattle.vm_step.specs.Values.{arithmetic_act}
use Rattle.vm_step.specs.Performed.{act}
use Rattle.vm_step.specs.Step.{Fetches}
use Rattle.law_sound.specs.Frames.{Typings}
use Rattle.law_sound.specs.State.{CanBeMade, IsTypedState}
use Rattle.law_sound.specs.Soundness.{AreTypings}
use Rattle.law_sound.specs.Handed.{nargs_of, OnlyCallsCall, CallsHandAll}
use Rattle.law_sound.proofs.Calling.{args-below, receiver-at}
use Rattle.law_sound.proofs.Dispatching.{RunsFor, own-dispatched, dispatch-runs, served-runs}
use Rattle.law_sound.proofs.Entering.{method-known}
use Rattle.law_sound.proofs.Handles.{kinds_of}
use Rattle.law_sound.proofs.Instances.{made-at}
use Rattle.law_sound.proofs.Invoking.{instance-or-array, array-class, array-object, array-lacks}
use Rattle.law_sound.proofs.References.{reference-handle, IsObject, handle-object}
use Rattle.law_sound.proofs.Sound.{here-now, same-method, same-instruction, same-answer, sound}
use Rattle.law_sound.proofs.SafeTurns.{Here}

-- ---- operations that call nothing

abbrev IsNoCall : {A : Type 0} → Act A → Type 0
IsNoCall (calls method count s) = ⊥
IsNoCall _ = ⊤

null-calls-none : {A : Type 0} (h : ℕ) (rest : ℕ → Act A) → ((n : ℕ) → IsNoCall (rest n)) → IsNoCall (unless_null h rest)
null-calls-none h rest none = go (h == 0)
  where
    go : (b : Bool) → IsNoCall (if b then raises exceptions.NullPointer else rest h)
    go true = tt
    go false = none h

some-calls-none : {A X : Type 0} (e : Exception) (o : Option X) (rest : X → Act A) → ((x : X) → IsNoCall (rest x)) → IsNoCall (if_some e o rest)
some-calls-none e y rest none = grind (arith)

either-calls-none : {A : Type 0} (b : Bool) (x y : Act A) → IsNoCall x → IsNoCall y → IsNoCall (if b then x else y)
either-calls-none x x2 y h g = grind (arith)

-- a call, or an operation that calls nothing
data CallOrNone : Operation → Type 0 where
  is_call : (callee : Callee) → CallOrNone (ops.Call callee)
  calls_none : {op : Operation} → ((w : Linked) (i : Insn) (s : State Cell) → IsNoCall (act tagged w i op s)) → CallOrNone op

arithmetic-calls-none : (a : Arithmetic) (s : State Cell) → IsNoCall (arithmetic_act tagged a s)
arithmetic-calls-none x s = grind (arith, some-calls-none)

branch-calls-none : {A : Type 0} (b : Bool) (to : ℤ) (s : State A) → IsNoCall (leads_if b to s)
branch-calls-none x to s = grind (arith)

array-calls-none : {A : Type 0} (k : Cells A) (kind : ObjectKind) (n : ℤ) (s : State A) → IsNoCall (array_of_count k kind n s)
array-calls-none k kind z s = grind (arith)

return-calls-none : (result : Option Ty) (s : State Cell) → IsNoCall (return_act tagged result s)
return-calls-none x s = grind (arith)

test-calls-none : (w : Linked) (test : TypeTest) (ty : Ty) (s : State Cell) → IsNoCall (type_test_act tagged w.classes test ty s)
test-calls-none w y ty s = grind (arith, either-calls-none)

call-or-none : (op : Operation) → CallOrNone op
call-or-none (ops.Constant c) = calls_none (λ w i s. tt)
call-or-none (ops.Load of x) = calls_none (λ w i s. tt)
call-or-none (ops.Store of x) = calls_none (λ w i s. tt)
call-or-none (ops.Increment width x amount) = calls_none (λ w i s. tt)
call-or-none (ops.Move move) = calls_none (λ w i s. tt)
call-or-none (ops.Arithmetic a) = calls_none (λ w i s. arithmetic-calls-none a s)
call-or-none (ops.ArrayRead kind) = grind (arith, calls_none, null-calls-none, some-calls-none)
call-or-none (ops.ArrayWrite kind) = grind (arith, calls_none, null-calls-none, some-calls-none, either-calls-none)
call-or-none ops.ArrayLength = grind (arith, calls_none, null-calls-none)
call-or-none (ops.Branch branch) = grind (arith, calls_none, branch-calls-none)
call-or-none (ops.Switch width) = calls_none (λ w i s. tt)
call-or-none (ops.StaticRead f) = calls_none (λ w i s. tt)
call-or-none (ops.StaticWrite f) = calls_none (λ w i s. tt)
call-or-none (ops.FieldRead f holder) = grind (arith, calls_none, null-calls-none)
call-or-none (ops.FieldWrite f holder) = grind (arith, calls_none, null-calls-none)
call-or-none (ops.Call callee) = is_call callee
call-or-none (ops.New place class) = calls_none (λ w i s. tt)
call-or-none (ops.NewArray ty) = calls_none (λ w i s. array-calls-none tagged (kind_of_type ty) (short_at tagged (top s).stack 0) (dropped s 1))
call-or-none ops.Throw = calls_none (λ w i s. null-calls-none (handle_at tagged (top s).stack 0) throws (λ h. tt {0}))
call-or-none (ops.TypeTest test ty) = calls_none (λ w i s. test-calls-none w test ty s)
call-or-none (ops.Return result) = calls_none (λ w i s. return-calls-none result s)

pub only-calls-call : (w : Linked) → OnlyCallsCall w
only-calls-call w i op s y method count e = go op (call-or-none op) e
  where
    go : (op : Operation) → CallOrNone op → act tagged w i op s ≡ calls method count y → (callee : Callee) × (op ≡ ops.Call callee)
    go op (is_call callee) e = (callee, refl)
    go op (calls_none none) e = absurd (subst IsNoCall e (none w i s))

-- ---- what a call hands

called-method : Act Cell → ℕ
called-method (calls method count s) = method
called-method _ = 0

called-count : Act Cell → ℕ
called-count (calls method count s) = count
called-count _ = 0

called-state : State Cell → Act Cell → State Cell
called-state none (calls method count s) = s
called-state none _ = none

pub null-calls :
    (h : ℕ) (rest : ℕ → Act Cell) (k count : ℕ) (y : State Cell) → unless_null h rest ≡ calls k count y → (h ≡ 0 → ⊥)
    × (rest h ≡ calls k count y)
null-calls h rest k count y e = go (h == 0) refl e
  where
    go : (b : Bool) → (h == 0) ≡ b → (if b then raises exceptions.NullPointer else rest h) ≡ calls k count y → (h ≡ 0 → ⊥)
        × (rest h ≡ calls k count y)
    go true is e = absurd (cc)
    go false is e = (eqb-false h 0 is, e)

enough : (count : ℕ) (cs : List Cell) → count ≤ length cs → length (arguments count cs) ≡ count
enough count cs le = omega (arith, length-reverse (take count cs), length-take count cs, le)

module _ (w : Linked) (world : IsWorld w) where
  handed :
      (k count : ℕ) (y : State Cell) (j size : ℕ) (z : State Cell) → calls j size z ≡ calls k count y
      → length (arguments size (top z).stack) ≡ nargs_of w j → length (arguments count (top y).stack) ≡ nargs_of w k
  unfolding called-method called-count called-state
  handed k count y j size z e h = grind (arith, called-method, called-count, called-state)

  words-of : (k : ℕ) (o : MethodRec) → slice_get w.methods k ≡ Some o → nargs_of w k ≡ length o.sig.args + receiver_words o.is_static
  words-of k o e = ap (of_method 0 (λ (x : MethodRec). x.nargs)) e ∙ (method-known w world k o e).words

  with-receiver : (k : ℕ) (o : MethodRec) (sig : Sig) → slice_get w.methods k ≡ Some o → o.sig ≡ sig → o.is_static ≡ false
      → nargs_of w k ≡ length sig.args + 1
  with-receiver k o sig e same dynamic = grind (arith, words-of)

  module _ (assigned : Typings) (typings : AreTypings w assigned) (f : Frame Cell) (below : List (Frame Cell)) (heap : List (Object Cell)) (statics : List Cell)
      (here : Here w assigned f below heap statics)
    where
      abbrev now : State Cell
      now = record { frames = f ∷ below; heap = heap; statics = statics }

      module _ (n : ℕ) (receiver : Option Want) (choice : Choice) (m : MethodRec)
          (is : here.turn.operation ≡ ops.Call (record { method = n; receiver = receiver; choice = choice }))
          (method : slice_get w.methods n ≡ Some m)
        where
          abbrev few : ℕ
          few = length m.sig.args

          counted : args_of w n ≡ few
          counted = ap (of_method 0 (λ (x : MethodRec). length x.sig.args)) method

          args-there : few ≤ length f.stack
          args-there =
              grind (
                arith,
                cells-length w.classes (args-below w world assigned typings f below heap statics here n receiver choice m is method),
                length-map f.stack (least_type w.classes (assigned.unset f.method) (kinds_of heap)),
                length-reverse m.sig.args,
                length-take,
              )

          receiver-there : (want : Want) → receiver ≡ Some want → few + 1 ≤ length f.stack
          receiver-there want wants =
              grind (arith, receiver-at w world assigned typings f below heap statics here n receiver choice m is method want wants)

          readied-length : (o : Option ℕ) → length (top (readied tagged now o)).stack ≡ length f.stack
          readied-length x = grind (arith, length-map)

          -- a method of this signature, with a receiver
          whole :
              (k count : ℕ) (y : State Cell) (j : ℕ) (o : MethodRec) (z : State Cell) (want : Want) → receiver ≡ Some want
              → slice_get w.methods j ≡ Some o → o.sig ≡ m.sig → o.is_static ≡ false → length (top z).stack ≡ length f.stack
              → calls j (args_of w n + 1) z ≡ calls k count y → length (arguments count (top y).stack) ≡ nargs_of w k
          whole k count y j o z want wants there sig dynamic size e = grind (arith, receiver-there, enough, with-receiver)

          static-handed :
              (k count : ℕ) (y : State Cell) → m.is_static ≡ true → calls n (args_of w n) now ≡ calls k count y
              → length (arguments count (top y).stack) ≡ nargs_of w k
          static-handed k count y static e = grind (arith, words-of, args-there, enough)

          special-handed :
              (k count : ℕ) (y : State Cell) (want : Want) → receiver ≡ Some want → m.is_static ≡ false
              → chosen_act tagged w.classes (record { method = n; receiver = receiver; choice = choice }) (args_of w n) choices.Special now
              ≡ calls k count y
              → length (arguments count (top y).stack) ≡ nargs_of w k
          special-handed k count y want wants dynamic e =
              let ready : Option ℕ = made_at receiver (least_type w.classes Bottom (kinds_of heap) (slice_index_or f.stack (args_of w n) cells.Empty)) in
              let rest =
              (null-calls (word_of (slice_index_or f.stack (args_of w n) cells.Empty)) (λ h. calls n (args_of w n + 1) (readied tagged now ready)) k
              count y e).1 in
              whole k count y n m (readied tagged now ready) want wants method refl dynamic (readied-length ready) rest

          module _ (c : ℕ) (wants : receiver ≡ Some (Value (Class c))) where
            abbrev handle : ℕ
            handle = word_of (slice_index_or f.stack few cells.Empty)

            its-object : (handle ≡ 0 → ⊥) → IsObject w.classes heap handle (Class c)
            its-object some =
                let at = receiver-at w world assigned typings f below heap statics here n receiver choice m is method (Value (Class c)) wants in
                handle-object w.classes world.chains heap handle (Class c) tt some
                (reference-handle w.classes world.chains (assigned.unset f.method) (kinds_of heap) (slice_index_or f.stack few cells.Empty) (Class c) tt
                at.holds)

            run-handed :
                (k count : ℕ) (y : State Cell) (r j : ℕ) → RunsFor w r j m.sig → calls j (args_of w n + 1) now ≡ calls k count y
                → length (arguments count (top y).stack) ≡ nargs_of w k
            run-handed k count y r j runs e = whole k count y j runs.rec now (Value (Class c)) wants runs.is_method runs.sig_is runs.dynamic refl e

            virtual-handed :
                (k count : ℕ) (y : State Cell) (token : ℕ) → IsVirtualCall w n m receiver c token → (handle ≡ 0 → ⊥)
                → calls (unwrap_or (dispatched w.classes c token (class_with_methods w.classes (kind_of_handle (kinds_of heap) handle))) n)
                (args_of w n + 1) now ≡ calls k count y
                → length (arguments count (top y).stack) ≡ nargs_of w k
            virtual-handed k count y token call some e =
                let o = its-object some in
                elim (instance-or-array o.object.kind) [
                  | inl found ↦
                      let made : CanBeMade w o.object.kind = made-at w (kinds_of heap) handle o.object.kind here.store.made o.kind_is in
                      let concrete : IsConcrete w.classes w.methods found.0 = subst (CanBeMade w) found.1 made in
                      let lower : Below w.classes (Class found.0) (Class c) = subst (λ k. Below w.classes (type_of_kind w.classes k) (Class c)) found.1
                      o.below in
                      let d = dispatch-runs w world c token found.0 n m concrete lower call.entry method in
                      let chosen : unwrap_or (dispatched w.classes c token (class_with_methods w.classes (kind_of_handle (kinds_of heap) handle))) n
                      ≡ d.method =
                      ap (λ k. unwrap_or (dispatched w.classes c token (class_with_methods w.classes k)) n) (o.kind_is ∙ ap Some found.1)
                      ∙ ap (λ x. unwrap_or x n) d.found in
                      run-handed k count y found.0 d.method d.runs (ap (λ j. calls j (args_of w n + 1) now) (sym chosen) ∙ e)
                  | inr array ↦
                      let object_is : c ≡ object w.classes = array-object w.classes o.object.kind c array
                      (is_below-from_Below w.classes world.chains o.below) in
                      let entry : dispatched w.classes c token (object w.classes) ≡ Some n =
                      subst (λ x. dispatched w.classes c token x ≡ Some n) object_is (own-dispatched w.classes c token ∙ call.entry) in
                      let chosen : unwrap_or (dispatched w.classes c token (class_with_methods w.classes (kind_of_handle (kinds_of heap) handle))) n ≡ n =
                      ap (λ k. unwrap_or (dispatched w.classes c token (class_with_methods w.classes k)) n) o.kind_is
                      ∙ (ap (λ x. unwrap_or (dispatched w.classes c token x) n) (array-class w.classes o.object.kind array)
                      ∙ ap (λ x. unwrap_or x n) entry) in
                      whole k count y n m now (Value (Class c)) wants method refl call.inherited.dynamic refl
                      (ap (λ j. calls j (args_of w n + 1) now) (sym chosen) ∙ e)
                ]

            served-handed :
                (k count : ℕ) (y : State Cell) (interface token r : ℕ) (o : Option ℕ) → served w.classes interface token r ≡ o
                → IsConcrete w.classes w.methods r
                → m.class ≡ interface → m.token ≡ token → served_act o r (args_of w n + 1) now ≡ calls k count y
                → length (arguments count (top y).stack) ≡ nargs_of w k
            served-handed k count y interface token r None is concrete class at e = absurd (cc)
            served-handed k count y interface token r (Some j) is concrete class at e =
                run-handed k count y r j (served-runs w world interface token r n j m concrete method class at is) e

            interface-handed :
                (k count : ℕ) (y : State Cell) (interface token : ℕ) → m.class ≡ interface → m.token ≡ token → (handle ≡ 0 → ⊥)
                → interface_act w.classes interface token (args_of w n + 1) (kind_of_handle (kinds_of heap) handle) now ≡ calls k count y
                → length (arguments count (top y).stack) ≡ nargs_of w k
            interface-handed k count y interface token class at some e =
                let o = its-object some in
                elim (instance-or-array o.object.kind) [
                  | inl found ↦
                      let made : CanBeMade w o.object.kind = made-at w (kinds_of heap) handle o.object.kind here.store.made o.kind_is in
                      served-handed k count y interface token found.0 (served w.classes interface token found.0) refl (subst (CanBeMade w) found.1 made)
                      class at
                      (ap (λ k. interface_act w.classes interface token (args_of w n + 1) k now) (sym (o.kind_is ∙ ap Some found.1)) ∙ e)
                  | inr array ↦
                      let none : lacks (object w.classes) ≡ calls k count y =
                      sym (ap (λ k. interface_act w.classes interface token (args_of w n + 1) k now) o.kind_is
                      ∙ array-lacks w.classes interface token (args_of w n + 1) o.object.kind now array) ∙ e in
                      absurd (cc)
                ]

      -- by the ways in which a method is chosen
      chosen-handed :
          (n : ℕ) (receiver : Option Want) (choice : Choice) (m : MethodRec)
          → (is : here.turn.operation ≡ ops.Call (record { method = n; receiver = receiver; choice = choice }))
          → slice_get w.methods n ≡ Some m → IsChosen w n m receiver choice
          → (k count : ℕ) (y : State Cell)
          → call_act tagged w (record { method = n; receiver = receiver; choice = choice }) now ≡ calls k count y
          → length (arguments count (top y).stack) ≡ nargs_of w k
      chosen-handed n receiver choices.Static m is method chosen k count y e = static-handed n receiver choices.Static m is method k count y chosen.static e
      chosen-handed n None choices.Special m is method chosen k count y e = absurd chosen.receives
      chosen-handed n (Some want) choices.Special m is method chosen k count y e =
          special-handed n (Some want) choices.Special m is method k count y want refl chosen.dynamic e
      chosen-handed n receiver (choices.Virtual c token) m is method chosen k count y e =
          let few : args_of w n ≡ length m.sig.args = counted n receiver (choices.Virtual c token) m is method in
          let rest = null-calls (word_of (slice_index_or f.stack (args_of w n) cells.Empty))
          (λ h. calls (unwrap_or (dispatched w.classes c token (class_with_methods w.classes (kind_of_handle (kinds_of heap) h))) n) (args_of w n + 1) now)
          k count y e in
          virtual-handed n receiver (choices.Virtual c token) m is method c chosen.receiver_is k count y token chosen
          (subst (λ j. word_of (slice_index_or f.stack j cells.Empty) ≡ 0 → ⊥) few rest.0)
          (subst
          (λ j. calls
          (unwrap_or
          (dispatched w.classes c token
          (class_with_methods w.classes (kind_of_handle (kinds_of heap) (word_of (slice_index_or f.stack j cells.Empty))))) n) (args_of w n + 1) now
          ≡ calls k count y) few rest.1)
      chosen-handed n receiver (choices.Interface c token words) m is method chosen k count y e =
          let few : args_of w n ≡ length m.sig.args = counted n receiver (choices.Interface c token words) m is method in
          let rest = null-calls (word_of (slice_index_or f.stack (args_of w n) cells.Empty))
          (λ h. interface_act w.classes c token (args_of w n + 1) (kind_of_handle (kinds_of heap) h) now) k count y e in
          interface-handed n receiver (choices.Interface c token words) m is method (object w.classes) chosen.receiver_is k count y c token chosen.class
          chosen.token_is
          (subst (λ j. word_of (slice_index_or f.stack j cells.Empty) ≡ 0 → ⊥) few rest.0)
          (subst (λ j. interface_act w.classes c token (args_of w n + 1) (kind_of_handle (kinds_of heap) (word_of (slice_index_or f.stack j cells.Empty)))
          now ≡ calls k count y) few rest.1)

      call-handed :
          (callee : Callee) → here.turn.operation ≡ ops.Call callee → (k count : ℕ) (y : State Cell)
          → call_act tagged w callee now ≡ calls k count y → length (arguments count (top y).stack) ≡ nargs_of w k
      call-handed callee is k count y e =
          let known : IsCalleeOf w callee =
          subst (IsSound w here.turn.stands.rec here.turn.stands.instruction.place) is (sound w world assigned typings f below heap statics here) in
          chosen-handed callee.method callee.receiver callee.choice known.rec is known.is_method known.chosen k count y e

  handed-by :
      (assigned : Typings) → AreTypings w assigned → (fs : List (Frame Cell)) (heap : List (Object Cell)) (statics : List Cell)
      → (y : State Cell) (m : MethodRec) (i : Placed) (callee : Callee) (method count : ℕ)
      → IsTypedState w assigned (record { frames = fs; heap = heap; statics = statics })
      → Fetches w (record { frames = fs; heap = heap; statics = statics }) m i
      → Resolves w m i.place i.insn (Ok (ops.Call callee))
      → call_act tagged w callee (record { frames = fs; heap = heap; statics = statics }) ≡ calls method count y
      → length (arguments count (top y).stack) ≡ nargs_of w method
  handed-by assigned typings [] heap statics y m i callee method count typed fetched resolves e =
      let runs = fetched.runs in absurd (omega (arith, runs))
  handed-by assigned typings (f ∷ below) heap statics y m i callee method count typed fetched resolves e =
      let here = here-now w world assigned typings f below heap statics typed in
      let same : Ok here.turn.operation ≡ Ok (ops.Call callee) =
      same-answer w world assigned typings f below heap statics typed m i (Ok (ops.Call callee))
      (same-method w world assigned typings f below heap statics typed m fetched.method)
      (same-instruction w world assigned typings f below heap statics typed i fetched.instruction) resolves in
      let is : here.turn.operation ≡ ops.Call callee = cc in
      call-handed assigned typings f below heap statics here callee is method count y e

pub calls-hand-all : (w : Linked) → IsWorld w → CallsHandAll w
calls-hand-all w world assigned s y m i op method count typings typed fetched resolves e =
    let call = only-calls-call w i.insn op s y method count e in
    handed-by w world assigned typings s.frames s.heap s.statics y m i call.0 method count typed fetched
    (subst (λ x. Resolves w m i.place i.insn (Ok x)) call.1 resolves)
    (subst (λ x. act tagged w i.insn x s ≡ calls method count y) call.1 e)
