-- The words of a typed state have what its cells have: shape, and what an operation asks.
use Rattle.std.proofs.Common.{◌≡◌, ℕ, zero, suc, ◌+◌, ◌<◌, ◌≤◌, ◌==◌, Bool, true, false, List, ◌∷◌, length, map, refl, sym, ap}
use Rattle.std.proofs.Common.{◌∙◌, subst, arith}
use Rattle.std.specs.Prelude.{Option, None, IsSome, IsSomeAnd, MatchBool, ⊤, option_map}
use Rattle.std.proofs.lemmas.List.{length-map}
use Rattle.std.proofs.lemmas.List.Elements.{All-map, All-weaker}
use Rattle.std.proofs.lemmas.Option.{slice_get-map, slice_get_past}
use Rattle.jc_base.specs.declared.ty.Ty.TheVariants.{Class}
use Rattle.jc_base.specs.declared.ty.Kind.{Kind}
use Rattle.jc_base.specs.declared.ty.Kind.TheVariants as fields
use Rattle.jc_base.specs.Class.{ClassTable, IsClass}
use Rattle.jc_base.specs.Order.{Below}
use Rattle.jc_base.specs.Cell.{width}
use Rattle.jc_base.specs.World.{Linked}
use Rattle.jc_decode.specs.declared.insn.Insn.{Insn}
use Rattle.jc_ops.specs.declared.operation.Choice.{Choice}
use Rattle.jc_ops.specs.declared.operation.Choice.TheVariants as choices
use Rattle.jc_ops.specs.declared.operation.Callee.{Callee}
use Rattle.jc_ops.specs.declared.operation.Holder.{Holder}
use Rattle.jc_ops.specs.declared.operation.InstanceField.{InstanceField}
use Rattle.jc_ops.specs.declared.operation.Operation.{Operation}
use Rattle.jc_ops.specs.declared.operation.Operation.TheVariants as ops
use Rattle.vm_store.specs.declared.cell.Cell.{Cell}
use Rattle.vm_store.specs.Kind.{kind_of_handle}
use Rattle.vm_store.specs.Cells.{tagged, words, word_of}
use Rattle.vm_store.specs.State.{Frame, State, Object, map_frame, map_object, erased}
use Rattle.vm_store.specs.Objects.{object_at, object_cells}
use Rattle.vm_store.specs.Erasing.{StatesErase}
use Rattle.vm_step.specs.Calls.{args_of, class_of, class_with_methods}
use Rattle.vm_step.specs.Fields.{held_handle}
use Rattle.vm_step.specs.Numbers.{handle_at}
use Rattle.vm_act.specs.Found.{IsNullOr, IsObject, IsArrayFor, HasField, MayCompare}
use Rattle.vm_act.specs.Reaches.{FindsNamed, HandleIs, HasReceiver}
use Rattle.vm_check.specs.Shaped.{IsShaped, IsShapedFrame, IsShapedFor, IsShapedObject}

-- ---- objects

pub object-erased : (s : State Cell) (h : ℕ) → object_at (erased s) h ≡ option_map (map_object word_of) (object_at s h)
object-erased s zero = refl
object-erased s (suc h) = slice_get-map (map_object word_of) s.heap h

some-erased : {X Y : Type 0} (g : X → Y) (o : Option X) → IsSome o → IsSome (option_map g o)
some-erased g x h = grind (arith)

and-erased : {X Y : Type 0} (g : X → Y) (P : X → Type 0) (Q : Y → Type 0) → ((x : X) → P x → Q (g x)) → (o : Option X) → IsSomeAnd o P
    → IsSomeAnd (option_map g o) Q
and-erased g x x2 go x22 h = grind (arith)

there-erased : (s : State Cell) (h : ℕ) → IsSome (object_at s h) → IsSome (object_at (erased s) h)
there-erased s h some = subst (λ (o : Option (Object ℕ)). IsSome o) (sym (object-erased s h)) (some-erased (map_object word_of) (object_at s h) some)

recorded-erased : (t : ClassTable) (s : State Cell) (h : ℕ) → IsObject t s h → IsObject t (erased s) h
recorded-erased t s h object = grind (arith, object-erased, and-erased)

array-erased : (kind : Kind) (s : State Cell) (h : ℕ) → IsArrayFor kind s h → IsArrayFor kind (erased s) h
array-erased kind s h array = grind (arith, object-erased, and-erased)

-- where there is no object
pub none-null : (z : State ℕ) (h : ℕ) → h ≤ 0 → None ≡ option_map (λ (o : Object ℕ). o.kind) (object_at z h)
none-null z zero le = refl
none-null z (suc h) le = absurd (omega (arith, le))

pub none-past : (z : State ℕ) (h : ℕ) → length z.heap < h → None ≡ option_map (λ (o : Object ℕ). o.kind) (object_at z h)
none-past z zero past = refl
none-past z (suc h) past = sym (ap (option_map (λ (o : Object ℕ). o.kind)) (slice_get_past z.heap h (omega (arith, past))))

-- ---- shape

object-shaped : (t : ClassTable) (o : Object Cell) → IsShapedObject t o → IsShapedObject t (map_object word_of o)
object-shaped t o shaped = subst (IsShapedFor t o.kind) (sym (length-map o.cells word_of)) shaped

frame-shaped : (w : Linked) (f : Frame Cell) → IsShapedFrame w f → IsShapedFrame w (map_frame word_of f)
frame-shaped w f shaped = grind (arith, length-map)

pub shaped-erased : (w : Linked) (s : State Cell) → IsShaped w s → IsShaped w (erased s)
shaped-erased w s shaped = record {
  frames = All-map (IsShapedFrame w) (map_frame word_of) s.frames
      (All-weaker (IsShapedFrame w) (λ (f : Frame Cell). IsShapedFrame w (map_frame word_of f)) (frame-shaped w) s.frames shaped.frames);
  objects = All-map (IsShapedObject w.classes) (map_object word_of) s.heap
      (All-weaker (IsShapedObject w.classes) (λ (o : Object Cell). IsShapedObject w.classes (map_object word_of o)) (object-shaped w.classes) s.heap
      shaped.objects);
  statics = length-map s.statics word_of ∙ shaped.statics;
}

-- ---- what an operation asks

or-weaker : (h : ℕ) (P Q : Type 0) → (P → Q) → IsNullOr h P → IsNullOr h Q
or-weaker h P Q go = by (h == 0)
  where
    by : (b : Bool) → MatchBool b ⊤ P → MatchBool b ⊤ Q
    by true x = x
    by false x = go x

module _ (w : Linked) (erase : StatesErase w.methods w.classes) (f : Frame Cell) (below : List (Frame Cell)) (heap : List (Object Cell))
    (statics : List Cell) where
  abbrev now : State Cell
  now = record { frames = f ∷ below; heap = heap; statics = statics }

  word-at : (cs : List Cell) (n : ℕ) → handle_at words (map word_of cs) n ≡ handle_at tagged cs n
  word-at cs n = sym (erase.1.cell cs n)

  handle-erased : (n : ℕ) (P Q : ℕ → Type 0) → ((h : ℕ) → P h → Q h) → IsNullOr (handle_at tagged f.stack n) (P (handle_at tagged f.stack n))
      → IsNullOr (handle_at words (map word_of f.stack) n) (Q (handle_at words (map word_of f.stack) n))
  handle-erased n P Q go held = grind (arith, word-at, or-weaker)

  class-is : (h : ℕ) → class_of w.classes now h ≡ class_of w.classes (erased now) h
  class-is h = ap (λ ks. class_with_methods w.classes (kind_of_handle ks h)) (sym (erase.0 now).0.kinds_are)

  cells-are : (h : ℕ) → length (object_cells now h) ≡ length (object_cells (erased now) h)
  cells-are h = sym (length-map (object_cells now h) word_of) ∙ ap (λ (cs : List ℕ). length cs) ((erase.0 now).0.cells h)

  held-is : (holder : Holder) (under : ℕ) → held_handle words holder under (erased now) ≡ held_handle tagged holder under now
  held-is x under = grind (arith, word-at)

  field-erased : (fd : InstanceField) (holder : Holder) (under : ℕ)
      → IsNullOr (held_handle tagged holder under now) (HasField fd now (held_handle tagged holder under now))
      → IsNullOr (held_handle words holder under (erased now)) (HasField fd (erased now) (held_handle words holder under (erased now)))
  field-erased fd holder under held = grind (arith, held-is, or-weaker, cells-are)

  compare-erased : (kind : Kind) (h : ℕ) → MayCompare tagged w.classes kind now h → MayCompare words w.classes kind (erased now) h
  compare-erased fields.Ref h may =
      (recorded-erased w.classes now h may.0, handle-erased 0 (IsObject w.classes now) (IsObject w.classes (erased now)) (recorded-erased w.classes now) may.1)
  compare-erased kind h may = may

  receiver-erased : (c : Callee) (choice : Choice) → HasReceiver tagged w c choice now → HasReceiver words w c choice (erased now)
  receiver-erased c choices.Static has = has
  receiver-erased c choices.Special has = has
  receiver-erased c (choices.Virtual class token) has =
      handle-erased (args_of w c.method)
      (λ h. IsSome (object_at now h) × IsClass w.classes (class_of w.classes now h) × Below w.classes (Class (class_of w.classes now h)) (Class class))
      (λ h. IsSome (object_at (erased now) h) × IsClass w.classes (class_of w.classes (erased now) h)
      × Below w.classes (Class (class_of w.classes (erased now) h)) (Class class))
      (λ h has. (
        there-erased now h has.0,
        subst (IsClass w.classes) (class-is h) has.1,
        subst (λ n. Below w.classes (Class n) (Class class)) (class-is h) has.2,
      ))
      has
  receiver-erased c (choices.Interface class token count) has =
      handle-erased (args_of w c.method)
      (λ h. IsSome (object_at now h) × IsClass w.classes (class_of w.classes now h))
      (λ h. IsSome (object_at (erased now) h) × IsClass w.classes (class_of w.classes (erased now) h))
      (λ h has. (there-erased now h has.0, subst (IsClass w.classes) (class-is h) has.1))
      has

  there-is : (n : ℕ) → HandleIs tagged now n (λ h. IsSome (object_at now h)) → HandleIs words (erased now) n (λ h. IsSome (object_at (erased now) h))
  there-is n held = handle-erased n (λ h. IsSome (object_at now h)) (λ h. IsSome (object_at (erased now) h)) (there-erased now) held

  pub finds-erased : (i : Insn) (op : Operation) → FindsNamed tagged w i op now → FindsNamed words w i op (erased now)
  finds-erased i (ops.ArrayRead kind) found = handle-erased 1 (IsArrayFor kind now) (IsArrayFor kind (erased now)) (array-erased kind now) found
  finds-erased i (ops.ArrayWrite kind) found = (
    handle-erased (width kind + 1) (IsArrayFor kind now) (IsArrayFor kind (erased now)) (array-erased kind now) found.0,
    handle-erased (width kind + 1) (MayCompare tagged w.classes kind now) (MayCompare words w.classes kind (erased now)) (compare-erased kind) found.1,
  )
  finds-erased i ops.ArrayLength found = there-is 0 found
  finds-erased i (ops.Switch width) found = record { method = found.method; instruction = found.instruction }
  finds-erased i (ops.StaticRead fd) found = record { there = omega (arith, found.there, length-map statics word_of); kind = found.kind }
  finds-erased i (ops.StaticWrite fd) found = record { there = omega (arith, found.there, length-map statics word_of); kind = found.kind }
  finds-erased i (ops.FieldRead fd holder) found = (found.0, field-erased fd holder 0 found.1)
  finds-erased i (ops.FieldWrite fd holder) found = (found.0, field-erased fd holder (width fd.kind) found.1)
  finds-erased i (ops.Call c) found = (found.0, receiver-erased c c.choice found.1)
  finds-erased i ops.Throw found = there-is 0 found
  finds-erased i (ops.TypeTest test ty) found =
      (handle-erased 0 (IsObject w.classes now) (IsObject w.classes (erased now)) (recorded-erased w.classes now) found.0, found.1)
  finds-erased i op found = found
