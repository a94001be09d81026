-- A step keeps the shape of frames, objects and static fields: what each act leaves, and what the step makes of it.
use Rattle.std.proofs.Common.{◌≡◌, ℕ, zero, suc, ◌+◌, ◌<◌, ◌≤◌, List, [], ◌∷◌, length, set, refl, sym, ap, ◌∙◌, subst, arith}
use Rattle.std.specs.Prelude.{All}
use Rattle.std.proofs.lemmas.List.Elements.{All-nil, All-cons, All-head, All-tail, All-push}
use Rattle.std.proofs.lemmas.List.{length-set}
use Rattle.jc_base.specs.Class.{ClassTable}
use Rattle.jc_base.specs.World.{Linked}
use Rattle.vm_store.specs.declared.cell.ObjectKind.{ObjectKind}
use Rattle.vm_store.specs.State.{Frame, State, Object, IsRunning, first_frame, other_frames, top, with_stack, with_register, with_place, without_top}
use Rattle.vm_store.specs.State.{without_frames, register_count}
use Rattle.vm_store.specs.Objects.{write_object, with_object, with_object_cell, with_static_cell}
use Rattle.vm_store.specs.Value.{with_object_value, with_static_value}
use Rattle.vm_step.specs.Act.{Act, goes, jumps, makes, calls}
use Rattle.vm_step.specs.Methods.{max_stack_of}
use Rattle.vm_act.specs.Lead.{TakesCells}
use Rattle.vm_act.proofs.Copies.{front}
use Rattle.vm_check.specs.Shaped.{IsShaped, IsShapedFrame, IsShapedObject, IsShapedFor}

-- ---- lists

pub first-of : {A : Type 0} (P : Frame A → Type 0) (fs : List (Frame A)) → 0 < length fs → All P fs → P (first_frame fs)
first-of x x2 lt h = grind (arith)

pub others-of : {A : Type 0} (P : Frame A → Type 0) (fs : List (Frame A)) → All P fs → All P (other_frames fs)
others-of P [] h = All-nil P
others-of P (f ∷ fs) h = All-tail P f fs h

written : {A : Type 0} (t : ClassTable) (heap : List (Object A)) (h i : ℕ) (c : A) → All (IsShapedObject t) heap
    → All (IsShapedObject t) (write_object heap h i c)
written t [] h i c all = all
written t (o ∷ os) zero i c all =
    All-cons (IsShapedObject t) (record o { cells = set o.cells i c }) os
    (subst (IsShapedFor t o.kind) (sym (length-set o.cells i c)) (All-head (IsShapedObject t) o os all)) (All-tail (IsShapedObject t) o os all)
written t (o ∷ os) (suc h) i c all =
    All-cons (IsShapedObject t) o (write_object os h i c) (All-head (IsShapedObject t) o os all) (written t os h i c (All-tail (IsShapedObject t) o os all))

module _ {A : Type 0} (w : Linked) where
  -- ---- the state that an act leaves

  pub record Next (s z : State A) : Type 0 where
    pub running : IsRunning z
    pub method : (top z).method ≡ (top s).method
    pub registers : length (top z).registers ≡ length (top s).registers
    pub others : other_frames z.frames ≡ other_frames s.frames
    pub objects : All (IsShapedObject w.classes) z.heap
    pub statics : length z.statics ≡ length s.statics

  module _ (s : State A) (runs : IsRunning s) (shaped : All (IsShapedObject w.classes) s.heap) where
    pub next-same : Next s s
    next-same = record { running = runs; method = refl; registers = refl; others = refl; objects = shaped; statics = refl }

    pub next-stack : (cells : List A) → Next s (with_stack s cells)
    next-stack cells = record { running = omega arith; method = refl; registers = refl; others = refl; objects = shaped; statics = refl }

    pub next-register : (x : ℕ) (c : A) → Next s (with_register s x c)
    next-register x c = grind (arith, length-set)

    pub next-registers : (x y : ℕ) (c d : A) → Next s (with_register (with_register s x c) y d)
    next-registers x y c d = grind (arith, length-set, set)

    pub next-popped : (cells : List A) (x : ℕ) (c : A) → Next s (with_register (with_stack s cells) x c)
    next-popped cells x c = grind (arith, length-set)

    pub next-popped-twice : (cells : List A) (x y : ℕ) (c d : A) → Next s (with_register (with_register (with_stack s cells) x c) y d)
    next-popped-twice cells x y c d = grind (arith, length-set, set)

  -- writes
  one-written : (s z : State A) → Next s z → (h i : ℕ) (c : A) → Next s (with_object_cell z h i c)
  one-written s z n zero i c = n
  one-written s z n (suc h) i c = grind (arith, written)

  pub value-written : (s z : State A) → Next s z → (h at : ℕ) (cs : List A) → Next s (with_object_value z h at cs)
  value-written s z n h at [] = n
  value-written s z n h at (c ∷ cs) = value-written s (with_object_cell z h at c) (one-written s z n h at c) h (at + 1) cs

  pub static-written : (s z : State A) → Next s z → (slot : ℕ) (cs : List A) → Next s (with_static_value z slot cs)
  static-written s z n slot [] = n
  static-written s z n slot (c ∷ cs) =
      static-written s (with_static_cell z slot c) (record {
        running = n.running;
        method = n.method;
        registers = n.registers;
        others = n.others;
        objects = n.objects;
        statics = length-set z.statics slot c ∙ n.statics;
      }) (slot + 1) cs

  -- ---- what an act comes to

  abbrev pub Fine : State A → Act A → Type 0
  Fine s (goes z) = Next s z
  Fine s (jumps to z) = Next s z
  Fine s (makes kind cells reference z) = Next s z × IsShapedFor w.classes kind (length cells)
  Fine s (calls method count z) = Next s z × (length (top z).stack ≤ length (top s).stack) × TakesCells w method count × (count ≤ length (top z).stack)
  Fine s _ = Unit {0}

  -- ---- states

  pub shaped-next : (s z : State A) → IsRunning s → IsShaped w s → Next s z → length (top z).stack ≤ max_stack_of w (top z).method → IsShaped w z
  shaped-next s z runs kept n few =
      let before = first-of (IsShapedFrame w) s.frames runs kept.frames in
      let here : IsShapedFrame w (top z) = record {
        known = subst (λ m. m < length w.methods) (sym n.method) before.known;
        registers = n.registers ∙ (before.registers ∙ ap (register_count w.methods) (sym n.method));
        cells = few;
      } in
      let others : All (IsShapedFrame w) (other_frames z.frames) = subst (All (IsShapedFrame w)) (sym n.others)
      (others-of (IsShapedFrame w) s.frames kept.frames) in
      record {
        frames = subst (All (IsShapedFrame w)) (front z.frames n.running) (All-cons (IsShapedFrame w) (top z) (other_frames z.frames) here others);
        objects = n.objects;
        statics = n.statics ∙ kept.statics;
      }

  pub shaped-place : (z : State A) (p : ℕ) → IsRunning z → IsShaped w z → IsShaped w (with_place z p)
  shaped-place z p runs kept =
      let here = first-of (IsShapedFrame w) z.frames runs kept.frames in
      record {
        frames = All-cons (IsShapedFrame w) (record (top z) { place = p }) (other_frames z.frames)
            (record { known = here.known; registers = here.registers; cells = here.cells }) (others-of (IsShapedFrame w) z.frames kept.frames);
        objects = kept.objects;
        statics = kept.statics;
      }

  pub shaped-ended : (s : State A) → IsShaped w s → IsShaped w (without_frames s)
  shaped-ended s kept = record { frames = All-nil (IsShapedFrame w); objects = kept.objects; statics = kept.statics }

  pub shaped-left : (s : State A) → IsShaped w s → IsShaped w (without_top s)
  shaped-left s kept = record { frames = others-of (IsShapedFrame w) s.frames kept.frames; objects = kept.objects; statics = kept.statics }

  pub shaped-made : (s : State A) (kind : ObjectKind) (cells : List A) → IsShaped w s → IsShapedFor w.classes kind (length cells)
      → IsShaped w (with_object s kind cells)
  shaped-made s kind cells kept h = record {
    frames = kept.frames;
    objects = All-push (IsShapedObject w.classes) s.heap (record { kind = kind; cells = cells }) kept.objects h;
    statics = kept.statics;
  }
