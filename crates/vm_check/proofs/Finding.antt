-- Where the tests before an operation pass, what it speaks of is there.
use Rattle.std.proofs.Common.{arith}
use Rattle.std.proofs.Common.{◌≡◌, ℕ, inr, Bool, true, false, List, [], ◌∷◌, ◌++◌, length, refl, subst}
use Rattle.std.specs.Prelude.{Some, ◌==◌, MatchBool, IsSome, reverse, slice_get, ⊤}
use Rattle.jc_base.specs.declared.ty.Ty.{Ty}
use Rattle.jc_base.specs.declared.ty.Ty.TheVariants.{Bottom, Class, ArrShort, ArrInt, ArrRef}
use Rattle.jc_base.specs.declared.ty.Kind.{Kind}
use Rattle.jc_base.specs.declared.ty.Kind.TheVariants as fields
use Rattle.jc_base.specs.declared.record.MethodRec.{MethodRec}
use Rattle.jc_base.specs.Class.{ClassTable, IsClass, object, throwable}
use Rattle.jc_base.specs.Order.{Below}
use Rattle.jc_base.specs.Cell.{width, IsOfKind}
use Rattle.jc_base.specs.World.{Linked, IsWorld}
use Rattle.jc_decode.specs.declared.insn.Insn.{Insn}
use Rattle.jc_ops.specs.declared.operation.Want.{Want}
use Rattle.jc_ops.specs.declared.operation.Want.TheVariants.{Value, ByteArray, AnyArray}
use Rattle.jc_ops.specs.declared.operation.Choice.{Choice}
use Rattle.jc_ops.specs.declared.operation.Choice.TheVariants as choices
use Rattle.jc_ops.specs.declared.operation.Callee.{Callee}
use Rattle.jc_ops.specs.declared.operation.Holder.{Holder}
use Rattle.jc_ops.specs.declared.operation.Holder.TheVariants as holders
use Rattle.jc_ops.specs.declared.operation.InstanceField.{InstanceField}
use Rattle.jc_ops.specs.declared.operation.Operation.{Operation}
use Rattle.jc_ops.specs.declared.operation.Operation.TheVariants as ops
use Rattle.jc_ops.specs.Sound.{IsSound, IsChosen, IsFieldOf}
use Rattle.jc_rules.specs.declared.demand.Demand.{Demand}
use Rattle.jc_rules.specs.declared.demand.Demand.TheVariants.{Cell, Held}
use Rattle.jc_rules.specs.Demand.{Frame, SatisfiesAll, Satisfies, Meets}
use Rattle.jc_rules.specs.Rule.{demands, array_wanted, value_wanted, value_size, cells_wanted, receiver_wanted, args_at}
use Rattle.jc_rules.proofs.Demands.{SatisfiesAll-rest}
use Rattle.vm_store.specs.declared.cell.Cell.{Cell as TaggedCell}
use Rattle.vm_store.specs.Typing.{least_type}
use Rattle.vm_store.specs.Cells.{tagged, word_of}
use Rattle.vm_store.specs.State.{State, top, nth}
use Rattle.vm_store.specs.Objects.{kinds, object_at}
use Rattle.vm_step.specs.Calls.{args_of, class_of}
use Rattle.vm_step.specs.Tests.{types_of}
use Rattle.vm_act.specs.Found.{IsNullOr, IsObject, MayCompare}
use Rattle.vm_act.specs.Reaches.{FindsNamed, HasReceiver, IsInCode}
use Rattle.vm_act.proofs.Asked.{count-args}
use Rattle.vm_check.specs.Shaped.{IsShaped}
use Rattle.vm_check.proofs.Objects.{null-or}
use Rattle.vm_check.proofs.Tested.{cell-is}
use Rattle.vm_check.proofs.Reaching.{object-or-null, there-or-null, field-or-null, array-or-null, array-there-or-null, receiver-or-null, static-there}

last-holds : (t : ClassTable) (f : Frame) (ds : List Demand) (d : Demand) → SatisfiesAll t f (ds ++ d ∷ []) → Satisfies t f d
last-holds t f [] d h = h.0
last-holds t f (e ∷ ds) d h = last-holds t f ds d h.1

ref-size : (ty : Ty) → IsOfKind fields.Ref ty → value_size ty ≡ 1
ref-size x h = grind (arith)

size-of : (kind : Kind) (ty : Ty) → IsOfKind kind ty → value_size ty ≡ width kind
size-of kind ty h = grind (arith, ref-size)

module _ (w : Linked) (is : IsWorld w) (s : State TaggedCell) (kept : IsShaped w s) where
  abbrev frame : Frame
  frame = types_of tagged w s

  abbrev on : ℕ → TaggedCell
  on n = nth tagged (top s).stack n

  met : (n : ℕ) (want : Want) → Satisfies w.classes frame (Cell n want)
      → Meets w.classes want (least_type w.classes Bottom (kinds s) (nth tagged (top s).stack n))
  met n want h = cell-is (λ c. least_type w.classes Bottom (kinds s) c) (top s).stack n tagged.empty (Meets w.classes want) h

  held : (x : ℕ) (ty : Ty) → Satisfies w.classes frame (Held x ty)
      → Below w.classes (least_type w.classes Bottom (kinds s) (nth tagged (top s).registers x)) ty
  held x ty h = cell-is (λ c. least_type w.classes Bottom (kinds s) c) (top s).registers x tagged.empty (Meets w.classes (Value ty)) h

  -- ---- by kind

  -- of an array of references what it may keep can be asked
  compare-refs : (h v : ℕ) → IsNullOr h (IsObject w.classes s h) → IsNullOr v (IsObject w.classes s v) → v ≡ word_of (on 0)
      → IsNullOr h (MayCompare tagged w.classes fields.Ref s h)
  compare-refs h v array value e = by (h == 0) array
    where
      here : IsNullOr (word_of (on 0)) (IsObject w.classes s (word_of (on 0)))
      here = subst (λ x. IsNullOr x (IsObject w.classes s x)) e value

      by : (b : Bool) → MatchBool b ⊤ (IsObject w.classes s h) → MatchBool b ⊤ (MayCompare tagged w.classes fields.Ref s h)
      by x a = grind (arith)

  finds-write : (i : Insn) (kind : Kind) → SatisfiesAll w.classes frame (demands w (ops.ArrayWrite kind)) → FindsNamed tagged w i (ops.ArrayWrite kind) s
  finds-write i fields.Ref h = (
    array-or-null w is s kept.objects fields.Ref (on 2) (met 2 (array_wanted w.classes fields.Ref) h.1.1.0),
    compare-refs (word_of (on 2)) (word_of (on 0))
        (object-or-null w is s kept.objects (on 2) (ArrRef (object w.classes)) refl (met 2 (array_wanted w.classes fields.Ref) h.1.1.0))
        (object-or-null w is s kept.objects (on 0) (Class (object w.classes)) refl (met 0 (Value (Class (object w.classes))) h.0))
        refl,
  )
  finds-write i fields.Byte h = (array-or-null w is s kept.objects fields.Byte (on 2) (met 2 ByteArray h.1.1.0), null-or (word_of (on 2)) ⊤ (inr tt))
  finds-write i fields.Short h = (array-or-null w is s kept.objects fields.Short (on 2) (met 2 (Value ArrShort) h.1.1.0), null-or (word_of (on 2)) ⊤ (inr tt))
  finds-write i fields.Int (low, (high, (index, (array, done)))) =
      (array-or-null w is s kept.objects fields.Int (on 3) (met 3 (Value ArrInt) array), null-or (word_of (on 3)) ⊤ (inr tt))

  finds-read : (i : Insn) (f : InstanceField) (holder : Holder) → IsFieldOf w f → SatisfiesAll w.classes frame (demands w (ops.FieldRead f holder))
      → FindsNamed tagged w i (ops.FieldRead f holder) s
  finds-read i f holders.Stack field h = grind (arith, field-or-null w is s kept.objects f field (on 0) (met 0 (Value (Class f.class)) h.0))
  finds-read i f holders.This field h =
      (field.cells.kind, field-or-null w is s kept.objects f field (nth tagged (top s).registers 0) (held 0 (Class f.class) h.1.0))

  finds-put : (i : Insn) (f : InstanceField) (holder : Holder) → IsFieldOf w f → SatisfiesAll w.classes frame (demands w (ops.FieldWrite f holder))
      → FindsNamed tagged w i (ops.FieldWrite f holder) s
  finds-put i f holders.Stack field h =
      let last : Satisfies w.classes frame (Cell (value_size f.ty) (Value (Class f.class))) =
      last-holds w.classes frame (value_wanted f.ty) (Cell (value_size f.ty) (Value (Class f.class))) h in
      let under : Satisfies w.classes frame (Cell (width f.kind) (Value (Class f.class))) =
      subst (λ n. Satisfies w.classes frame (Cell n (Value (Class f.class)))) (size-of f.kind f.ty field.cells.kind) last in
      (field.cells.kind, field-or-null w is s kept.objects f field (on (width f.kind)) (met (width f.kind) (Value (Class f.class)) under))
  finds-put i f holders.This field h =
      let last : Satisfies w.classes frame (Held 0 (Class f.class)) = last-holds w.classes frame (value_wanted f.ty) (Held 0 (Class f.class)) h.1 in
      (field.cells.kind, field-or-null w is s kept.objects f field (nth tagged (top s).registers 0) (held 0 (Class f.class) last))

  -- ---- calls

  abbrev args : Callee → List Ty
  args c = args_at (slice_get w.methods c.method)

  -- the cell of a receiver is of the class that is wanted
  receiver-met : (c : Callee) (class : ℕ) → c.receiver ≡ Some (Value (Class class)) → SatisfiesAll w.classes frame (demands w (ops.Call c))
      → Below w.classes (least_type w.classes Bottom (kinds s) (nth tagged (top s).stack (args_of w c.method))) (Class class)
  receiver-met c class e h =
      let wanted = receiver_wanted (length (args c)) c.receiver in
      let rest : SatisfiesAll w.classes frame wanted = SatisfiesAll-rest w.classes frame (cells_wanted 0 (reverse (args c))) wanted h in
      let one : SatisfiesAll w.classes frame (Cell (length (args c)) (Value (Class class)) ∷ []) =
      subst (λ o. SatisfiesAll w.classes frame (receiver_wanted (length (args c)) o)) e rest in
      met (args_of w c.method) (Value (Class class))
      (subst (λ n. Satisfies w.classes frame (Cell n (Value (Class class)))) (count-args (slice_get w.methods c.method)) one.0)

  -- what is below object alone
  drop-below : (h : ℕ)
      → IsNullOr h (IsSome (object_at s h) × IsClass w.classes (class_of w.classes s h)
      × Below w.classes (Class (class_of w.classes s h)) (Class (object w.classes)))
      → IsNullOr h (IsSome (object_at s h) × IsClass w.classes (class_of w.classes s h))
  drop-below h a = by (h == 0) a
    where
      by : (b : Bool)
          → MatchBool b ⊤ (IsSome (object_at s h) × IsClass w.classes (class_of w.classes s h)
          × Below w.classes (Class (class_of w.classes s h)) (Class (object w.classes)))
          → MatchBool b ⊤ (IsSome (object_at s h) × IsClass w.classes (class_of w.classes s h))
      by true x = tt
      by false x = (x.0, x.1)

  has-receiver : (c : Callee) (rec : MethodRec) (choice : Choice) → IsChosen w c.method rec c.receiver choice
      → SatisfiesAll w.classes frame (demands w (ops.Call c)) → HasReceiver tagged w c choice s
  has-receiver c rec choices.Static chosen h = tt
  has-receiver c rec choices.Special chosen h = tt
  has-receiver c rec (choices.Virtual class token) chosen h =
      receiver-or-null w is s kept.objects class (on (args_of w c.method)) (receiver-met c class chosen.receiver_is h)
  has-receiver c rec (choices.Interface class token words) chosen h =
      drop-below (word_of (on (args_of w c.method)))
      (receiver-or-null w is s kept.objects (object w.classes) (on (args_of w c.method)) (receiver-met c (object w.classes) chosen.receiver_is h))

  pub finds : (m : MethodRec) (place : ℕ) (i : Insn) (op : Operation) → IsSound w m place op → IsInCode w i s
      → SatisfiesAll w.classes frame (demands w op) → FindsNamed tagged w i op s
  finds m place i (ops.ArrayRead kind) sound code h = array-or-null w is s kept.objects kind (on 1) (met 1 (array_wanted w.classes kind) h.1.0)
  finds m place i (ops.ArrayWrite kind) sound code h = finds-write i kind h
  finds m place i ops.ArrayLength sound code h = array-there-or-null w is s kept.objects (on 0) (met 0 AnyArray h.0)
  finds m place i (ops.Switch wide) sound code h = code
  finds m place i (ops.StaticRead f) sound code h = static-there w is s kept.objects f sound kept.statics
  finds m place i (ops.StaticWrite f) sound code h = static-there w is s kept.objects f sound kept.statics
  finds m place i (ops.FieldRead f holder) sound code h = finds-read i f holder sound h
  finds m place i (ops.FieldWrite f holder) sound code h = finds-put i f holder sound h
  finds m place i (ops.Call c) sound code h = (sound, has-receiver c sound.rec c.choice sound.chosen h)
  finds m place i (ops.New at class) sound code h = sound.1.class
  finds m place i (ops.NewArray ty) sound code h = sound
  finds m place i ops.Throw sound code h =
      there-or-null w is s kept.objects (on 0) (Class (throwable w.classes)) refl (met 0 (Value (Class (throwable w.classes))) h.0)
  finds m place i (ops.TypeTest test ty) sound code h =
      (object-or-null w is s kept.objects (on 0) (Class (object w.classes)) refl (met 0 (Value (Class (object w.classes))) h.0), sound)
  finds m place i op sound code h = tt
