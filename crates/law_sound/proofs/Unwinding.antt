-- An object that is thrown is caught where its handler is typed, or ends the run.
use Rattle.std.proofs.Common.{◌≡◌, ℕ, ◌≤◌, Bool, true, false, ◌&&◌, if◌then◌else◌, List, [], ◌∷◌, length, map, refl, sym, ap}
use Rattle.std.proofs.Common.{◌∙◌, subst}
use Rattle.std.specs.Prelude.{Option, Some, None, Contains, ⊤, nat_lt, nat_le, slice_get, find}
use Rattle.std.proofs.lemmas.Bool.{false≢true, and_parts}
use Rattle.std.proofs.lemmas.Bool.{le-ltb, leb-true, ltb-true}
use Rattle.std.proofs.lemmas.List.Elements.{All-cons, All-nil, All-contains}
use Rattle.jc_base.specs.declared.ty.Ty.{Ty}
use Rattle.jc_base.specs.declared.ty.Ty.TheVariants.{Bottom, Class}
use Rattle.jc_base.specs.declared.record.Handler.{Handler}
use Rattle.jc_base.specs.declared.record.MethodRec.{MethodRec}
use Rattle.jc_base.specs.Class.{ClassTable, AreClasses}
use Rattle.jc_base.specs.Order.{Below, array_object, is_on_chain, is_below, of_booleans, of_bytes, of_shorts, of_ints, of_references}
use Rattle.jc_base.specs.World.{Linked, code_of}
use Rattle.jc_base.proofs.Climbs.{on_object}
use Rattle.jc_base.proofs.Eaching.{Contains-from_IsAmong}
use Rattle.jc_base.proofs.Subtypes.{Below-from_is_below}
use Rattle.jc_base.proofs.Tests.{found-passes}
use Rattle.jc_base.proofs.Lists.{IsSomeAnd-some}
use Rattle.jc_control.specs.Method.{method_with}
use Rattle.jc_control.specs.WellFormed.{IsHandlerOf}
use Rattle.jc_control.specs.Control.{Covers, IsReached, caught}
use Rattle.jc_rules.specs.Demand.{Frame as Types}
use Rattle.jc_rules.specs.Flow.{CellsBelow, no_cells, more_cells, FrameBelow, At, IsFit, caught_frame}
use Rattle.jc_rules.proofs.CellLists.{cells-length}
use Rattle.vm_store.specs.declared.cell.Cell.{Cell}
use Rattle.vm_store.specs.declared.cell.Cell.TheVariants as cells
use Rattle.vm_store.specs.declared.cell.ObjectKind.{ObjectKind}
use Rattle.vm_store.specs.declared.cell.ObjectKind.TheVariants.{Instance, Booleans, Bytes, Shorts, Ints, References}
use Rattle.vm_store.specs.Kind.{type_of_kind}
use Rattle.vm_store.specs.Typing.{least_type}
use Rattle.vm_store.specs.Cells.{tagged}
use Rattle.vm_store.specs.State.{Frame, Object}
use Rattle.vm_step.specs.declared.ending.Plain.TheVariants.{Threw}
use Rattle.vm_step.specs.declared.ending.Ending.TheVariants as endings
use Rattle.vm_step.specs.declared.ending.Fault.TheVariants.{StackFault}
use Rattle.vm_step.specs.Methods.{of_method, max_stack_of}
use Rattle.vm_step.specs.Calls.{class_with_methods}
use Rattle.vm_step.specs.Raising.{running, ends, catches, handler_for, caught_by, caught_or, unwound}
use Rattle.vm_step.specs.Raising.{caught as caught_in}
use Rattle.law_sound.specs.Frames.{Typings, least_types, IsStacked, Standing, IsTypedFrame, result_of, AreWaiting}
use Rattle.law_sound.specs.Soundness.{IsTypedOutcome}
use Rattle.law_sound.proofs.CellTypes.{some-both, some-weaker}
use Rattle.law_sound.proofs.Places.{place-instruction}
use Rattle.law_sound.proofs.Turns.{frame-trans}
use Rattle.law_sound.proofs.Finish.{IsTypedStore, plain-safe}

-- what is thrown is of each class that catches it
unfoldable pub IsThrowable : ClassTable → List ObjectKind → ℕ → ℕ → Type 0
IsThrowable t ks class handle = (d : ℕ) → is_on_chain t d class ≡ true → Below t (least_type t Bottom ks (cells.Ref handle)) (Class d)

pub kind-throwable : (t : ClassTable) → AreClasses t → (k : ObjectKind) (d : ℕ) → is_on_chain t d (class_with_methods t (Some k)) ≡ true
    → Below t (type_of_kind t k) (Class d)
unfolding is_below
kind-throwable t are (Instance c) d h = Below-from_is_below t are (Class c) (Class d) h
kind-throwable t are Booleans d h = array_object of_booleans (sym (on_object t are d h))
kind-throwable t are Bytes d h = array_object of_bytes (sym (on_object t are d h))
kind-throwable t are Shorts d h = array_object of_shorts (sym (on_object t are d h))
kind-throwable t are Ints d h = array_object of_ints (sym (on_object t are d h))
kind-throwable t are (References c) d h = array_object of_references (sym (on_object t are d h))

module _ (w : Linked) (assigned : Typings) (ks : List ObjectKind) where
  -- a frame whose registers are typed where it stands, so that its handlers are
  pub record IsCatching (f : Frame Cell) : Type 0 where
    pub stands : Standing w assigned f
    pub regs : At (assigned.frames f.method) f.place
        (λ (g : Types). CellsBelow w.classes (least_types w.classes (assigned.unset f.method) ks f.registers) g.regs)

  unfoldable pub AreCatching : List (Frame Cell) → Type 0
  AreCatching [] = ⊤
  AreCatching (f ∷ fs) = IsCatching f × AreWaiting w assigned ks (result_of w f.method) fs

  pub waiting-catching : (result : Option Ty) (fs : List (Frame Cell)) → AreWaiting w assigned ks result fs → AreCatching fs
  unfolding AreCatching
  waiting-catching result [] h = tt
  waiting-catching result (f ∷ fs) h = (record { stands = h.0.stands; regs = h.0.regs }, h.1)

  -- ---- a frame in which an object is caught

  -- the handler that catches
  record Catcher (m : MethodRec) (place class : ℕ) (h : Handler) : Type 0 where
    listed : Contains m.handlers h
    covers : Covers h place
    on : is_on_chain w.classes h.class class ≡ true

  catcher : (f : Frame Cell) (m : MethodRec) → slice_get w.methods f.method ≡ Some m → (class : ℕ) (h : Handler)
      → handler_for w class f ≡ Some h → Catcher m f.place class h
  catcher f m is class h e =
      let found = found-passes (catches w.classes f.place class) m.handlers h
      (ap (λ hs. find (catches w.classes f.place class) hs) (sym (ap (of_method [] (λ (x : MethodRec). x.handlers)) is)) ∙ e) in
      let parts = and_parts (nat_le h.start f.place && nat_lt f.place h.end) (is_on_chain w.classes h.class class) found.0 in
      let range = and_parts (nat_le h.start f.place) (nat_lt f.place h.end) parts.0 in
      record {
        listed = Contains-from_IsAmong h m.handlers found.1;
        covers = record { from = leb-true h.start f.place range.0; before = ltb-true f.place h.end range.1 };
        on = parts.1;
      }

  -- the method has room for the reference, and the frame is typed at the handler
  record IsCaught (f : Frame Cell) (h : Handler) (handle : ℕ) : Type 0 where
    room : 1 ≤ max_stack_of w f.method
    typed : IsTypedFrame w assigned ks (caught_in tagged h handle f)

  catch-typed : (f : Frame Cell) (class handle : ℕ) (h : Handler) → IsCatching f → IsThrowable w.classes ks class handle
      → handler_for w class f ≡ Some h → IsCaught f h handle
  unfolding IsThrowable
  catch-typed f class handle h catching thrown e =
      let st = catching.stands in
      let m = method_with w f.method st.rec in
      let by = catcher f st.rec st.is_method class h e in
      let handlers = st.typing.handlers f.place h st.reached by.listed by.covers in
      let entered : IsReached m h.entry = caught st.reached by.listed by.covers in
      let here = IsSomeAnd-some (λ (g : Types). CellsBelow w.classes (least_types w.classes (assigned.unset f.method) ks f.registers) g.regs
      × At (assigned.frames f.method) h.entry (FrameBelow w.classes (caught_frame h g)))
      ((assigned.frames f.method) f.place)
      (some-both (λ (g : Types). CellsBelow w.classes (least_types w.classes (assigned.unset f.method) ks f.registers) g.regs)
      (λ g. At (assigned.frames f.method) h.entry (FrameBelow w.classes (caught_frame h g)))
      ((assigned.frames f.method) f.place) catching.regs handlers) in
      let there = IsSomeAnd-some (λ (g : Types). FrameBelow w.classes (caught_frame h here.0) g × IsFit m g) ((assigned.frames f.method) h.entry)
      (some-both (FrameBelow w.classes (caught_frame h here.0)) (IsFit m) ((assigned.frames f.method) h.entry) here.2.1 (st.typing.fit h.entry entered)) in
      let exact : Types = record {
        regs = least_types w.classes (assigned.unset f.method) ks f.registers;
        stack = least_type w.classes (assigned.unset f.method) ks
            (cells.Ref handle) ∷ [];
      } in
      let lower : FrameBelow w.classes exact (caught_frame h here.0) =
      record { regs = here.2.0; stack = more_cells (thrown h.class by.on) no_cells } in
      let place = (All-contains (IsHandlerOf (code_of w.infos st.rec)) st.rec.handlers h st.typing.formed.handlers by.listed).entry in
      let at = place-instruction (code_of w.infos st.rec) h.entry place in
      let same : 1 ≡ length there.0.stack = cells-length w.classes there.2.0.stack in
      record {
        room =
            subst (λ n. 1 ≤ n) (sym (ap (of_method 0 (λ (x : MethodRec). x.max_stack)) st.is_method))
            (subst (λ n. n ≤ st.rec.max_stack) (sym same) there.2.1.room);
        typed = record {
          stands = record {
            rec = st.rec;
            is_method = st.is_method;
            instruction = at.0;
            there = at.1;
            reached = entered;
            typing = st.typing;
          };
          below =
              some-weaker (FrameBelow w.classes (caught_frame h here.0)) (FrameBelow w.classes exact) (λ g b. frame-trans w.classes lower b)
              ((assigned.frames f.method) h.entry) here.2.1;
          stacked = All-cons (IsStacked w st.rec ks) (cells.Ref handle) [] tt (All-nil (IsStacked w st.rec ks));
        };
      }

-- ---- the frames from the top down

module _ (w : Linked) (assigned : Typings) (heap : List (Object Cell)) (statics : List Cell) (store : IsTypedStore w heap statics) (class handle : ℕ)
    (thrown : IsThrowable w.classes (map (λ (o : Object Cell). o.kind) heap) class handle)
  where
    caught-safe :
        (frames : List (Frame Cell)) (f : Frame Cell) (below : List (Frame Cell)) (h : Handler)
        → IsCaught w assigned (map (λ (o : Object Cell). o.kind) heap) f h handle
        → AreWaiting w assigned (map (λ (o : Object Cell). o.kind) heap) (result_of w f.method) below
        → IsTypedOutcome w assigned (caught_by tagged w h handle (record { frames = frames; heap = heap; statics = statics }) f below)
    caught-safe frames f below h is waits = go (nat_lt (max_stack_of w f.method) 1) (le-ltb (max_stack_of w f.method) 1 is.room)
      where
        go : (b : Bool) → b ≡ false
            → IsTypedOutcome w assigned (if true && b then ends (endings.Faulted StackFault) (record { frames = frames; heap = heap; statics = statics })
            else running (record { frames = caught_in tagged h handle f ∷ below; heap = heap; statics = statics }))
        go true e = absurd (false≢true (sym e))
        go false e = record { made = store.made; heap = store.objects; statics = store.fields; frames = (is.typed, waits) }

    pub unwound-safe :
        (frames fs : List (Frame Cell)) → AreCatching w assigned (map (λ (o : Object Cell). o.kind) heap) fs
        → IsTypedOutcome w assigned (unwound tagged w class handle (record { frames = frames; heap = heap; statics = statics }) fs)
    unfolding AreCatching
    unwound-safe frames [] h = plain-safe w assigned (Threw class handle) frames heap statics store
    unwound-safe frames (f ∷ fs) h =
        go (handler_for w class f) refl
        (unwound-safe frames fs (waiting-catching w assigned (map (λ (o : Object Cell). o.kind) heap) (result_of w f.method) fs h.1))
      where
        go : (o : Option Handler) → handler_for w class f ≡ o
            → IsTypedOutcome w assigned (unwound tagged w class handle (record { frames = frames; heap = heap; statics = statics }) fs)
            → IsTypedOutcome w assigned (caught_or tagged w handle (record { frames = frames; heap = heap; statics = statics }) f fs
            (unwound tagged w class handle (record { frames = frames; heap = heap; statics = statics }) fs) o)
        go None e rest = rest
        go (Some x) e rest = caught-safe frames f fs x (catch-typed w assigned (map (λ (o : Object Cell). o.kind) heap) f class handle x h.0 thrown e) h.1
