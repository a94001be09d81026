-- What the act of an instruction leads to is safe where the state after it is typed.
use Rattle.std.proofs.Common.{◌≡◌, ℕ, ◌+◌, ◌<◌, ◌≤◌, Bool, true, false, if◌then◌else◌, List, [], ◌∷◌, ◌++◌, length, map, rules}
use Rattle.std.proofs.Common.{reverse, sym, ap, ◌∙◌, subst, arith}
use Rattle.std.specs.Prelude.{Option, Some, None, All, pos, nat_lt, slice_get}
use Rattle.std.proofs.lemmas.Bool.{false≢true}
use Rattle.std.proofs.lemmas.Bool.{le-ltb, lt-leb}
use Rattle.std.proofs.lemmas.List.{length-map, map-append}
use Rattle.std.proofs.lemmas.List.Elements.{All-append}
use Rattle.jc_base.specs.declared.ty.Ty.{Ty}
use Rattle.jc_base.specs.declared.ty.Ty.TheVariants.{Bottom}
use Rattle.jc_base.specs.declared.record.MethodRec.{MethodRec}
use Rattle.jc_base.specs.World.{Linked, code_of}
use Rattle.jc_base.proofs.Lists.{IsSomeAnd-some}
use Rattle.jc_control.specs.Method.{method_with}
use Rattle.jc_decode.proofs.InstructionLists.{all-are-listed}
use Rattle.jc_control.proofs.PlacesWithin.{place-inside}
use Rattle.jc_rules.specs.Demand.{Frame as Types}
use Rattle.jc_rules.specs.Effect.{in_stack_order}
use Rattle.jc_rules.specs.Rule.{result_given}
use Rattle.jc_rules.specs.Flow.{CellsBelow, FrameBelow, IsFit}
use Rattle.jc_rules.proofs.CellLists.{cells-length, cells-same, cells-append}
use Rattle.vm_store.specs.declared.cell.Cell.{Cell}
use Rattle.vm_store.specs.declared.cell.ObjectKind.{ObjectKind}
use Rattle.vm_store.specs.Typing.{least_type}
use Rattle.vm_store.specs.Cells.{tagged}
use Rattle.vm_store.specs.State.{Frame, Object, State, with_place, with_stack, with_call}
use Rattle.vm_store.specs.Objects.{has_room}
use Rattle.vm_store.specs.Value.{with_value}
use Rattle.vm_store.specs.Laws.{CellsHave, IsTypedHeap}
use Rattle.vm_step.specs.declared.ending.Value.{Value}
use Rattle.vm_step.specs.declared.ending.Plain.{Plain}
use Rattle.vm_step.specs.declared.ending.Plain.TheVariants.{Returned, HeapFull}
use Rattle.vm_step.specs.declared.ending.Ending.TheVariants as endings
use Rattle.vm_step.specs.declared.ending.Fault.{Fault}
use Rattle.vm_step.specs.Methods.{of_method, code_at, max_stack_of, instruction_at}
use Rattle.vm_step.specs.Raising.{Outcome, running, ends}
use Rattle.vm_step.specs.Settled.{fault_next, is_there, fault_target, unless_fault, goes_to}
use Rattle.vm_step.specs.Settled.{jumps_to, with_new, made, entered_call, given_to}
use Rattle.law_sound.specs.Frames.{Typings, least_types, types_of_frame, types_with, IsStacked}
use Rattle.law_sound.specs.Frames.{Standing, IsTypedFrame, at_next, IsWaiting, AreWaiting}
use Rattle.law_sound.specs.State.{CanBeMade, static_types, IsTypedState}
use Rattle.law_sound.specs.Soundness.{IsTypedOutcome}
use Rattle.law_sound.proofs.CellTypes.{some-both, some-weaker, stacked-alike}
use Rattle.law_sound.proofs.Places.{instruction-there}
use Rattle.law_sound.proofs.Turns.{frame-trans}

pub pick : {X : Type 0} (x y : Option X) (a b : Bool) → a ≡ false → b ≡ false → (if a then x else if b then y else None) ≡ None
pick x y z b h k = grind (arith, false≢true)

pub pick-yes : {X : Type 0} (x y : Option X) (a b : Bool) → a ≡ false → b ≡ true → (if a then x else if b then None else y) ≡ None
pick-yes x y z b h k = grind (arith, false≢true)

-- the objects and the static fields of a typed state
pub record IsTypedStore (w : Linked) (heap : List (Object Cell)) (statics : List Cell) : Type 0 where
  pub made : All (CanBeMade w) (map (λ (o : Object Cell). o.kind) heap)
  pub objects : IsTypedHeap w.classes (record { frames = []; heap = heap; statics = statics })
  pub fields : CellsHave w.classes (map (λ (o : Object Cell). o.kind) heap) statics (static_types w.statics)

module _ (w : Linked) (assigned : Typings) where
  pub plain-safe : (p : Plain) (frames : List (Frame Cell)) (heap : List (Object Cell)) (statics : List Cell) → IsTypedStore w heap statics
      → IsTypedOutcome w assigned (ends (endings.Plain p) (record { frames = frames; heap = heap; statics = statics }))
  plain-safe p frames heap statics store = record { made = store.made; heap = store.objects; statics = store.fields; frames = tt }

  safe-unless : (s : State Cell) (o : Option Fault) (x : Outcome Cell) → o ≡ None → IsTypedOutcome w assigned x
      → IsTypedOutcome w assigned (unless_fault s o x)
  safe-unless s o x e h = subst (λ (p : Option Fault). IsTypedOutcome w assigned (unless_fault s p x)) (sym e) h

  -- ---- what a typed frame has

  pub record HasRoom (f : Frame Cell) : Type 0 where
    pub room : length f.stack ≤ max_stack_of w f.method
    pub inside : f.place < length (code_at w f.method)
    pub instruction : is_there (instruction_at (code_at w f.method) f.place) ≡ true

  -- the code and the room of the method of a number
  pub code-is : (n : ℕ) (m : MethodRec) → slice_get w.methods n ≡ Some m → code_at w n ≡ code_of w.infos m
  code-is n m e = ap (of_method [] (code_of w.infos)) e

  stack-is : (n : ℕ) (m : MethodRec) → slice_get w.methods n ≡ Some m → max_stack_of w n ≡ m.max_stack
  stack-is n m e = ap (of_method 0 (λ (x : MethodRec). x.max_stack)) e

  pub there-at : (f : Frame Cell) (st : Standing w assigned f) → instruction_at (code_at w f.method) f.place ≡ Some st.instruction
  there-at f st = ap (λ code. instruction_at code f.place) (code-is f.method st.rec st.is_method) ∙ st.there

  pub has-room : (ks : List ObjectKind) (f : Frame Cell) → IsTypedFrame w assigned ks f → HasRoom f
  has-room ks f typed =
      let st = typed.stands in
      let m = method_with w f.method st.rec in
      let there = instruction-there (code_of w.infos st.rec) f.place st.instruction st.there in
      let exact = types_of_frame w.classes (assigned.unset f.method) ks f in
      let both = IsSomeAnd-some (λ (g : Types). FrameBelow w.classes exact g × IsFit m g) ((assigned.frames f.method) f.place)
      (some-both (FrameBelow w.classes exact) (IsFit m) ((assigned.frames f.method) f.place) typed.below (st.typing.fit f.place st.reached)) in
      let same : length f.stack ≡ length both.0.stack =
      sym (length-map f.stack (least_type w.classes (assigned.unset f.method) ks)) ∙ cells-length w.classes both.2.0.stack in
      let inside : f.place < length (code_of w.infos st.rec) = place-inside (code_of w.infos st.rec) (all-are-listed (code_of w.infos st.rec)) f.place
      (st.instruction, there.stands, there.at) in
      record {
        room = subst (λ n. length f.stack ≤ n) (sym (stack-is f.method st.rec st.is_method)) (subst (λ n. n ≤ st.rec.max_stack) (sym same) both.2.1.room);
        inside = subst (λ (code : List ℕ). f.place < length code) (sym (code-is f.method st.rec st.is_method)) inside;
        instruction = ap is_there (there-at f st);
      }

  -- ---- the tests after an operation

  next-passes :
      (f : Frame Cell) (below : List (Frame Cell)) (heap : List (Object Cell)) (statics : List Cell) (depth place : ℕ)
      → depth ≤ max_stack_of w f.method → place < length (code_at w f.method)
      → fault_next tagged w (record { frames = f ∷ below; heap = heap; statics = statics }) depth place ≡ None
  next-passes f below heap statics depth place room inside = grind (arith, le-ltb, lt-leb)

  target-passes :
      (f : Frame Cell) (below : List (Frame Cell)) (heap : List (Object Cell)) (statics : List Cell) (place : ℕ)
      → length f.stack ≤ max_stack_of w f.method → is_there (instruction_at (code_at w f.method) place) ≡ true
      → fault_target tagged w (record { frames = f ∷ below; heap = heap; statics = statics }) (pos place) ≡ None
  target-passes f below heap statics place room there = grind (arith, pick-yes, le-ltb)

  -- ---- going on

  pub goes-safe :
      (before : State Cell) (f : Frame Cell) (next : ℕ) (below : List (Frame Cell)) (heap : List (Object Cell)) (statics : List Cell)
      → IsTypedState w assigned (record { frames = record f { place = next } ∷ below; heap = heap; statics = statics })
      → IsTypedOutcome w assigned (goes_to tagged w next before (record { frames = f ∷ below; heap = heap; statics = statics }))
  goes-safe before f next below heap statics typed =
      let now : State Cell = record { frames = f ∷ below; heap = heap; statics = statics } in
      let fits = has-room (map (λ (o : Object Cell). o.kind) heap) (record f { place = next }) typed.frames.0 in
      safe-unless before (fault_next tagged w now (length f.stack) next) (running (with_place now next))
      (next-passes f below heap statics (length f.stack) next fits.room fits.inside) typed

  pub jumps-safe :
      (f : Frame Cell) (to : ℕ) (below : List (Frame Cell)) (heap : List (Object Cell)) (statics : List Cell)
      → IsTypedState w assigned (record { frames = record f { place = to } ∷ below; heap = heap; statics = statics })
      → IsTypedOutcome w assigned (jumps_to tagged w (pos to) (record { frames = f ∷ below; heap = heap; statics = statics }))
  jumps-safe f to below heap statics typed =
      let now : State Cell = record { frames = f ∷ below; heap = heap; statics = statics } in
      let fits = has-room (map (λ (o : Object Cell). o.kind) heap) (record f { place = to }) typed.frames.0 in
      safe-unless now (fault_target tagged w now (pos to)) (running (with_place now to))
      (target-passes f below heap statics to fits.room fits.instruction) typed

  pub safe-if : (b : Bool) (x y : Outcome Cell) → IsTypedOutcome w assigned x → IsTypedOutcome w assigned y
      → IsTypedOutcome w assigned (if b then x else y)
  safe-if x x2 y h k = grind (arith)

  -- ---- a new object

  pub makes-safe :
      (f : Frame Cell) (next : ℕ) (below : List (Frame Cell)) (heap : List (Object Cell)) (statics : List Cell) (kind : ObjectKind) (cs : List Cell)
      (reference : ℕ → Cell)
      → IsTypedStore w heap statics
      → IsTypedState w assigned (record {
        frames = record { method = f.method; place = next; registers = f.registers; stack = reference (length heap + 1) ∷ f.stack } ∷ below;
        heap = heap ++ record { kind = kind; cells = cs } ∷ [];
        statics = statics;
      })
      → IsTypedOutcome w assigned (made tagged w next kind cs reference (record { frames = f ∷ below; heap = heap; statics = statics }))
  makes-safe f next below heap statics kind cs reference store typed =
      let now : State Cell = record { frames = f ∷ below; heap = heap; statics = statics } in
      let top : Frame Cell = record { method = f.method; place = next; registers = f.registers; stack = reference (length heap + 1) ∷ f.stack } in
      let fits = has-room (map (λ (o : Object Cell). o.kind) (heap ++ record { kind = kind; cells = cs } ∷ [])) top typed.frames.0 in
      let new : State Cell = with_place (with_new now kind cs (reference (length heap + 1))) next in
      safe-unless now (fault_next tagged w now (length f.stack + 1) next) (if has_room now (length cs) then running new else ends (endings.Plain HeapFull) now)
      (next-passes f below heap statics (length f.stack + 1) next (omega (arith, fits.room)) fits.inside)
      (safe-if (has_room now (length cs)) (running new) (ends (endings.Plain HeapFull) now) typed (plain-safe HeapFull (f ∷ below) heap statics store))

  -- ---- calls and returns

  pub enters-safe :
      (f : Frame Cell) (below : List (Frame Cell)) (heap : List (Object Cell)) (statics : List Cell) (method count : ℕ)
      → IsTypedStore w heap statics
      → IsTypedState w assigned (with_call tagged w.methods (record { frames = f ∷ below; heap = heap; statics = statics }) method count)
      → IsTypedOutcome w assigned (entered_call tagged w method count (record { frames = f ∷ below; heap = heap; statics = statics }))
  enters-safe f below heap statics method count store typed = grind (arith, safe-if, plain-safe)

  -- a caller that is given its result is typed after the call
  given-typed :
      (ks : List ObjectKind) (result : Option Ty) (f : Frame Cell) (value : List Cell)
      → IsWaiting w assigned ks result f
      → CellsBelow w.classes (least_types w.classes Bottom ks (reverse value)) (in_stack_order (result_given result))
      → ((m : MethodRec) → All (IsStacked w m ks) (reverse value))
      → IsTypedFrame w assigned ks (record { method = f.method; place = (at_next w f).place; registers = f.registers; stack = reverse value ++ f.stack })
  given-typed ks result f value waits least ready =
      let next = waits.next in
      let below : CellsBelow w.classes (least_types w.classes (assigned.unset f.method) ks (reverse value)) (in_stack_order (result_given result)) =
      subst (λ ts. CellsBelow w.classes ts (in_stack_order (result_given result)))
      (stacked-alike w next.rec Bottom (assigned.unset f.method) ks (reverse value) (ready next.rec)) least in
      let new : List Cell = reverse value ++ f.stack in
      let exact : Types = record
      { regs = least_types w.classes (assigned.unset f.method) ks f.registers; stack = least_types w.classes (assigned.unset f.method) ks new } in
      let split : least_types w.classes (assigned.unset f.method) ks new ≡ least_types w.classes (assigned.unset f.method) ks
      (reverse value) ++ least_types w.classes (assigned.unset f.method) ks f.stack =
      map-append (least_type w.classes (assigned.unset f.method) ks) (reverse value) f.stack in
      let stack : CellsBelow w.classes (least_types w.classes (assigned.unset f.method) ks new)
      (types_with w.classes (assigned.unset f.method) ks result f).stack =
      subst (λ ts. CellsBelow w.classes ts (types_with w.classes (assigned.unset f.method) ks result f).stack) (sym split)
      (cells-append w.classes below (cells-same w.classes (least_types w.classes (assigned.unset f.method) ks f.stack))) in
      record {
        stands = record {
          rec = next.rec;
          is_method = next.is_method;
          instruction = next.instruction;
          there = next.there;
          reached = next.reached;
          typing = next.typing;
        };
        below = search (rules, some-weaker, frame-trans, cells-same);
        stacked = All-append (IsStacked w next.rec ks) (reverse value) f.stack (ready next.rec) waits.stacked;
      }

  pub gives-safe :
      (below : List (Frame Cell)) (heap : List (Object Cell)) (statics : List Cell) (result : Option Ty) (value : Value) (cs : List Cell)
      → IsTypedStore w heap statics
      → AreWaiting w assigned (map (λ (o : Object Cell). o.kind) heap) result below
      → CellsBelow w.classes (least_types w.classes Bottom (map (λ (o : Object Cell). o.kind) heap) (reverse cs)) (in_stack_order (result_given result))
      → ((m : MethodRec) → All (IsStacked w m (map (λ (o : Object Cell). o.kind) heap)) (reverse cs))
      → IsTypedOutcome w assigned (given_to tagged w value cs (record { frames = below; heap = heap; statics = statics }))
  gives-safe [] heap statics result value cs store waits typed ready = plain-safe (Returned value) [] heap statics store
  gives-safe (f ∷ fs) heap statics result value cs store waits typed ready =
      let now : State Cell = record { frames = f ∷ fs; heap = heap; statics = statics } in
      let given : Frame Cell = record f { stack = reverse cs ++ f.stack } in
      let next : ℕ = (at_next w f).place in
      safe-if (nat_lt 0 (length (f ∷ fs))) (goes_to tagged w next now (with_stack now (with_value cs f.stack))) (ends (endings.Plain (Returned value)) now)
      (goes-safe now given next fs heap statics (record {
        made = store.made;
        heap = store.objects;
        statics = store.fields;
        frames = (given-typed (map (λ (o : Object Cell). o.kind) heap) result f cs waits.0 typed ready, waits.1);
      }))
      (plain-safe (Returned value) (f ∷ fs) heap statics store)
