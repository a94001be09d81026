-- A method that runs is one that the method before it calls.
use Rattle.std.proofs.Common.{◌≡◌, ℕ, ◌+◌, ◌==◌, false, inl, inr, List, [], ◌∷◌, length, refl, sym, ap, ◌∙◌, subst, arith}
use Rattle.std.specs.Prelude.{Option, Some, None, Ok, slice_get, slice_index_or, unwrap_or, IsSomeAnd, Contains, find}
use Rattle.jc_base.specs.declared.ty.Ty.TheVariants.{Class}
use Rattle.jc_base.specs.declared.record.MethodRec.{MethodRec}
use Rattle.jc_base.specs.Class.{object}
use Rattle.jc_base.specs.Dispatch.{IsConcrete, dispatched}
use Rattle.jc_base.specs.Linked.{lacks_code}
use Rattle.jc_base.specs.Order.{Below, same}
use Rattle.jc_base.specs.World.{Linked, IsWorld, code_of}
use Rattle.jc_base.proofs.Eaching.{Contains-from_IsAmong}
use Rattle.jc_base.proofs.Subtypes.{is_below-from_Below}
use Rattle.jc_base.proofs.Tests.{found-passes}
use Rattle.jc_decode.specs.declared.insn.Placed.{Placed}
use Rattle.jc_decode.specs.Listing.{listing}
use Rattle.jc_ops.specs.declared.operation.Want.{Want}
use Rattle.jc_ops.specs.declared.operation.Want.TheVariants.{Value}
use Rattle.jc_ops.specs.declared.operation.Callee.{Callee}
use Rattle.jc_ops.specs.declared.operation.Choice.{Choice}
use Rattle.jc_ops.specs.declared.operation.Choice.TheVariants as choices
use Rattle.jc_ops.specs.declared.operation.Operation.TheVariants as ops
use Rattle.jc_ops.specs.Resolve.{Resolves}
use Rattle.jc_ops.specs.Sound.{IsSound, IsCalleeOf, IsVirtualCall, IsChosen}
use Rattle.vm_store.specs.declared.cell.Cell.{Cell}
use Rattle.vm_store.specs.declared.cell.Cell.TheVariants as cells
use Rattle.vm_store.specs.Kind.{kind_of_handle, type_of_kind}
use Rattle.vm_store.specs.Cells.{tagged, word_of}
use Rattle.vm_store.specs.State.{Frame, Object, State, top}
use Rattle.vm_step.specs.Act.{calls, lacks}
use Rattle.vm_step.specs.Calls.{args_of, class_with_methods, served, served_act, interface_act, call_act}
use Rattle.vm_step.specs.Methods.{of_method, code_at, instruction_at}
use Rattle.vm_step.specs.Performed.{act}
use Rattle.vm_step.specs.Step.{Fetches}
use Rattle.law_sound.specs.Frames.{Typings}
use Rattle.law_sound.specs.State.{CanBeMade, IsTypedState}
use Rattle.law_sound.specs.Soundness.{AreTypings}
use Rattle.law_sound.proofs.Calling.{receiver-at}
use Rattle.law_sound.proofs.Dispatching.{own-dispatched, dispatch-runs, served-runs, class-code}
use Rattle.law_sound.proofs.Handed.{only-calls-call, null-calls}
use Rattle.law_sound.proofs.Handles.{kinds_of}
use Rattle.law_sound.proofs.Instances.{made-at}
use Rattle.law_sound.proofs.Invoking.{instance-or-array, array-class, array-object, array-lacks}
use Rattle.law_sound.proofs.References.{reference-handle, IsObject, handle-object}
use Rattle.law_sound.proofs.Sound.{here-now, same-method, same-instruction, same-answer, sound}
use Rattle.law_sound.proofs.SafeTurns.{Here}
use Rattle.law_chains.specs.Calls.{HasCode, MayRun}
use Rattle.law_chains.specs.Stacked.{OnlyCalledMethodsRun}

same-method-called : (j k few count : ℕ) (z y : State Cell) → calls j few z ≡ calls k count y → j ≡ k
same-method-called j k few count z y e = cc

module _ (w : Linked) (world : IsWorld w) where
  has-code : (n : ℕ) (m : MethodRec) → slice_get w.methods n ≡ Some m → lacks_code w.classes m ≡ false → HasCode w n
  has-code n m is code = subst (λ o. IsSomeAnd o (λ (x : MethodRec). lacks_code w.classes x ≡ false)) (sym is) code

  -- a method that a call may run, and that has code
  record IsRun (n : ℕ) (choice : Choice) (k : ℕ) : Type 0 where
    may : MayRun w.classes n choice k
    code : HasCode w k

  module _ (assigned : Typings) (typings : AreTypings w assigned) (f : Frame Cell) (below : List (Frame Cell)) (heap : List (Object Cell)) (statics : List Cell)
      (here : Here w assigned f below heap statics)
    where
      abbrev now : State Cell
      now = record { frames = f ∷ below; heap = heap; statics = statics }

      module _ (n : ℕ) (receiver : Option Want) (choice : Choice) (m : MethodRec)
          (is : here.turn.operation ≡ ops.Call (record { method = n; receiver = receiver; choice = choice }))
          (method : slice_get w.methods n ≡ Some m)
        where
          module _ (c : ℕ) (wants : receiver ≡ Some (Value (Class c))) where
            abbrev handle : ℕ
            handle = word_of (slice_index_or f.stack (length m.sig.args) cells.Empty)

            its-object : (handle ≡ 0 → ⊥) → IsObject w.classes heap handle (Class c)
            its-object some =
                let at = receiver-at w world assigned typings f below heap statics here n receiver choice m is method (Value (Class c)) wants in
                handle-object w.classes world.chains heap handle (Class c) tt some
                (reference-handle w.classes world.chains (assigned.unset f.method) (kinds_of heap)
                (slice_index_or f.stack (length m.sig.args) cells.Empty) (Class c) tt at.holds)

            virtual-run :
                (k count few : ℕ) (y : State Cell) (token : ℕ) → IsVirtualCall w n m receiver c token → (handle ≡ 0 → ⊥)
                → calls (unwrap_or (dispatched w.classes c token (class_with_methods w.classes (kind_of_handle (kinds_of heap) handle))) n) few now
                ≡ calls k count y
                → IsRun n (choices.Virtual c token) k
            virtual-run k count few y token call some e =
                let o = its-object some in
                let same_k = same-method-called
                (unwrap_or (dispatched w.classes c token (class_with_methods w.classes (kind_of_handle (kinds_of heap) handle))) n) k few count now y e in
                elim (instance-or-array o.object.kind) [
                  | inl found ↦
                      let made : CanBeMade w o.object.kind = made-at w (kinds_of heap) handle o.object.kind here.store.made o.kind_is in
                      let concrete : IsConcrete w.classes w.methods found.0 = subst (CanBeMade w) found.1 made in
                      let lower : Below w.classes (Class found.0) (Class c) = subst (λ k. Below w.classes (type_of_kind w.classes k) (Class c)) found.1
                      o.below in
                      let d = dispatch-runs w world c token found.0 n m concrete lower call.entry method in
                      let chosen : unwrap_or (dispatched w.classes c token (class_with_methods w.classes (kind_of_handle (kinds_of heap) handle))) n
                      ≡ d.method =
                      ap (λ k. unwrap_or (dispatched w.classes c token (class_with_methods w.classes k)) n) (o.kind_is ∙ ap Some found.1)
                      ∙ ap (λ x. unwrap_or x n) d.found in
                      let eq : d.method ≡ k = sym chosen ∙ same_k in
                      subst (IsRun n (choices.Virtual c token)) eq (record {
                        may = record { receiver = found.0; below = lower; runs = d.found };
                        code = has-code d.method d.runs.rec d.runs.is_method d.runs.code;
                      })
                  | inr array ↦
                      let object_is : c ≡ object w.classes = array-object w.classes o.object.kind c array
                      (is_below-from_Below w.classes world.chains o.below) in
                      let own : dispatched w.classes c token c ≡ Some n = own-dispatched w.classes c token ∙ call.entry in
                      let entry : dispatched w.classes c token (object w.classes) ≡ Some n =
                      subst (λ x. dispatched w.classes c token x ≡ Some n) object_is own in
                      let chosen : unwrap_or (dispatched w.classes c token (class_with_methods w.classes (kind_of_handle (kinds_of heap) handle))) n ≡ n =
                      ap (λ k. unwrap_or (dispatched w.classes c token (class_with_methods w.classes k)) n) o.kind_is
                      ∙ (ap (λ x. unwrap_or (dispatched w.classes c token x) n) (array-class w.classes o.object.kind array)
                      ∙ ap (λ x. unwrap_or x n) entry) in
                      let eq : n ≡ k = sym chosen ∙ same_k in
                      subst (IsRun n (choices.Virtual c token)) eq (record {
                        may = record { receiver = c; below = same; runs = own };
                        code = has-code n m method (class-code w world c m call.class call.inherited.class (call.body object_is));
                      })
                ]

            served-run :
                (k count few : ℕ) (y : State Cell) (interface token words r : ℕ) (o : Option ℕ) → served w.classes interface token r ≡ o
                → IsConcrete w.classes w.methods r
                → m.class ≡ interface → m.token ≡ token → served_act o r few now ≡ calls k count y
                → IsRun n (choices.Interface interface token words) k
            served-run k count few y interface token words r None is concrete class at e = absurd (cc)
            served-run k count few y interface token words r (Some j) is concrete class at e =
                let runs = served-runs w world interface token r n j m concrete method class at is in
                let eq = same-method-called j k few count now y e in
                subst (IsRun n (choices.Interface interface token words)) eq (record {
                  may = record { receiver = r; class = concrete.class; serves = is };
                  code = has-code j runs.rec runs.is_method runs.code;
                })

            interface-run :
                (k count few : ℕ) (y : State Cell) (interface token words : ℕ) → m.class ≡ interface → m.token ≡ token → (handle ≡ 0 → ⊥)
                → interface_act w.classes interface token few (kind_of_handle (kinds_of heap) handle) now ≡ calls k count y
                → IsRun n (choices.Interface interface token words) k
            interface-run k count few y interface token words class at some e =
                let o = its-object some in
                elim (instance-or-array o.object.kind) [
                  | inl found ↦
                      let made : CanBeMade w o.object.kind = made-at w (kinds_of heap) handle o.object.kind here.store.made o.kind_is in
                      served-run k count few y interface token words found.0 (served w.classes interface token found.0) refl (subst (CanBeMade w) found.1 made)
                      class at
                      (ap (λ k. interface_act w.classes interface token few k now) (sym (o.kind_is ∙ ap Some found.1)) ∙ e)
                  | inr array ↦
                      let none : lacks (object w.classes) ≡ calls k count y =
                      sym (ap (λ k. interface_act w.classes interface token few k now) o.kind_is
                      ∙ array-lacks w.classes interface token few o.object.kind now array) ∙ e in
                      absurd (cc)
                ]

      -- by the ways in which a method is chosen
      chosen-run :
          (n : ℕ) (receiver : Option Want) (choice : Choice) (m : MethodRec)
          → (is : here.turn.operation ≡ ops.Call (record { method = n; receiver = receiver; choice = choice }))
          → slice_get w.methods n ≡ Some m → IsChosen w n m receiver choice
          → (k count : ℕ) (y : State Cell)
          → call_act tagged w (record { method = n; receiver = receiver; choice = choice }) now ≡ calls k count y
          → IsRun n choice k
      chosen-run n receiver choices.Static m is method chosen k count y e = grind (arith, same-method-called, has-code)
      chosen-run n receiver choices.Special m is method chosen k count y e = grind (arith, null-calls, same-method-called, has-code)
      chosen-run n receiver (choices.Virtual c token) m is method chosen k count y e =
          let few : args_of w n ≡ length m.sig.args = ap (of_method 0 (λ (x : MethodRec). length x.sig.args)) method in
          let rest = null-calls (word_of (slice_index_or f.stack (args_of w n) cells.Empty))
          (λ h. calls (unwrap_or (dispatched w.classes c token (class_with_methods w.classes (kind_of_handle (kinds_of heap) h))) n) (args_of w n + 1) now)
          k count y e in
          virtual-run n receiver (choices.Virtual c token) m is method c chosen.receiver_is k count (args_of w n + 1) y token chosen
          (subst (λ j. word_of (slice_index_or f.stack j cells.Empty) ≡ 0 → ⊥) few rest.0)
          (subst
          (λ j. calls
          (unwrap_or
          (dispatched w.classes c token
          (class_with_methods w.classes (kind_of_handle (kinds_of heap) (word_of (slice_index_or f.stack j cells.Empty))))) n) (args_of w n + 1) now
          ≡ calls k count y) few rest.1)
      chosen-run n receiver (choices.Interface c token words) m is method chosen k count y e =
          let few : args_of w n ≡ length m.sig.args = ap (of_method 0 (λ (x : MethodRec). length x.sig.args)) method in
          let rest = null-calls (word_of (slice_index_or f.stack (args_of w n) cells.Empty))
          (λ h. interface_act w.classes c token (args_of w n + 1) (kind_of_handle (kinds_of heap) h) now) k count y e in
          interface-run n receiver (choices.Interface c token words) m is method (object w.classes) chosen.receiver_is k count (args_of w n + 1) y c token words
          chosen.class chosen.token_is
          (subst (λ j. word_of (slice_index_or f.stack j cells.Empty) ≡ 0 → ⊥) few rest.0)
          (subst (λ j. interface_act w.classes c token (args_of w n + 1) (kind_of_handle (kinds_of heap) (word_of (slice_index_or f.stack j cells.Empty)))
          now ≡ calls k count y) few rest.1)

      call-run :
          (callee : Callee) → here.turn.operation ≡ ops.Call callee → (k count : ℕ) (y : State Cell)
          → call_act tagged w callee now ≡ calls k count y → IsRun callee.method callee.choice k
      call-run callee is k count y e =
          let known : IsCalleeOf w callee =
          subst (IsSound w here.turn.stands.rec here.turn.stands.instruction.place) is (sound w world assigned typings f below heap statics here) in
          chosen-run callee.method callee.receiver callee.choice known.rec is known.is_method known.chosen k count y e

  -- an instruction at a place is one of the code
  listed : (n : ℕ) (m : MethodRec) (place : ℕ) (i : Placed) → slice_get w.methods n ≡ Some m → instruction_at (code_at w n) place ≡ Some i
      → Contains (listing (code_of w.infos m)) i
  unfolding instruction_at
  listed n m place i is at =
      let code : code_at w n ≡ code_of w.infos m = ap (of_method [] (code_of w.infos)) is in
      let there = subst (λ c. find (λ (x : Placed). x.place == place) (listing c) ≡ Some i) code at in
      Contains-from_IsAmong i (listing (code_of w.infos m)) (found-passes (λ (x : Placed). x.place == place) (listing (code_of w.infos m)) i there).1

  run-by :
      (assigned : Typings) → AreTypings w assigned → (fs : List (Frame Cell)) (heap : List (Object Cell)) (statics : List Cell)
      → (y : State Cell) (m : MethodRec) (i : Placed) (callee : Callee) (method count : ℕ)
      → IsTypedState w assigned (record { frames = fs; heap = heap; statics = statics })
      → Fetches w (record { frames = fs; heap = heap; statics = statics }) m i
      → Resolves w m i.place i.insn (Ok (ops.Call callee))
      → call_act tagged w callee (record { frames = fs; heap = heap; statics = statics }) ≡ calls method count y
      → IsRun callee.method callee.choice method
  run-by assigned typings [] heap statics y m i callee method count typed fetched resolves e = grind (arith)
  run-by assigned typings (f ∷ below) heap statics y m i callee method count typed fetched resolves e =
      let here = here-now w world assigned typings f below heap statics typed in
      let alike : Ok here.turn.operation ≡ Ok (ops.Call callee) =
      same-answer w world assigned typings f below heap statics typed m i (Ok (ops.Call callee))
      (same-method w world assigned typings f below heap statics typed m fetched.method)
      (same-instruction w world assigned typings f below heap statics typed i fetched.instruction) resolves in
      let is : here.turn.operation ≡ ops.Call callee = cc in
      call-run assigned typings f below heap statics here callee is method count y e

pub only-called-methods-run : (w : Linked) → IsWorld w → OnlyCalledMethodsRun w
only-called-methods-run w world assigned s y m i op method count typings typed fetched resolves e =
    let call = only-calls-call w i.insn op s y method count e in
    let resolved = subst (λ x. Resolves w m i.place i.insn (Ok x)) call.1 resolves in
    let run = run-by w world assigned typings s.frames s.heap s.statics y m i call.0 method count typed fetched resolved
    (subst (λ x. act tagged w i.insn x s ≡ calls method count y) call.1 e) in
    record {
      caller = m;
      is_caller = fetched.method;
      instruction = i;
      stands = listed w world (top s).method m (top s).place i fetched.method fetched.instruction;
      callee = call.0;
      resolves = resolved;
      may_run = run.may;
      code = run.code;
    }
