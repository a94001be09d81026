-- Instance fields at a frame's turn.
use Rattle.std.proofs.Common.{◌≡◌, ℕ, ◌+◌, true, List, [], ◌∷◌, refl, sym, ap, ◌∙◌, subst, arith}
use Rattle.std.specs.Prelude.{Some, IsSomeAnd, slice_get, slice_index_or}
use Rattle.std.proofs.lemmas.Bool.{eqb-true}
use Rattle.jc_base.specs.declared.ty.Ty.{Ty}
use Rattle.jc_base.specs.declared.ty.Ty.TheVariants.{Short, IntHigh, IntLow, Class, ArrBool, ArrByte, ArrShort, ArrInt, ArrRef}
use Rattle.jc_base.specs.declared.ty.Kind.{Kind}
use Rattle.jc_base.specs.declared.ty.Kind.TheVariants as fields
use Rattle.jc_base.specs.Class.{ClassTable, AreClasses, object}
use Rattle.jc_base.specs.Order.{Below, is_below}
use Rattle.jc_base.specs.Cell.{IsDeclared, IsReference, IsOfKind, width}
use Rattle.jc_base.specs.Dispatch.{cells_of}
use Rattle.jc_base.specs.Linked.{HasLowHalf}
use Rattle.jc_base.specs.World.{Linked, IsWorld}
use Rattle.jc_base.proofs.Lists.{slice_get-front}
use Rattle.jc_base.proofs.Objects.{instances-extend}
use Rattle.jc_base.proofs.Subtypes.{is_below-from_Below}
use Rattle.jc_ops.specs.declared.operation.Holder.{Holder}
use Rattle.jc_ops.specs.declared.operation.Holder.TheVariants as holders
use Rattle.jc_ops.specs.declared.operation.InstanceField.{InstanceField}
use Rattle.jc_ops.specs.declared.operation.Operation.{Operation}
use Rattle.jc_ops.specs.declared.operation.Operation.TheVariants as ops
use Rattle.jc_ops.specs.Sound.{IsFieldOf}
use Rattle.jc_ops.specs.Next.{falls_from}
use Rattle.jc_rules.specs.declared.demand.Demand.TheVariants.{Cell, Held}
use Rattle.jc_ops.specs.declared.operation.Want.TheVariants.{Value}
use Rattle.jc_rules.specs.declared.effect.Cells.TheVariants as given
use Rattle.jc_rules.specs.Demand.{SatisfiesAll}
use Rattle.jc_rules.specs.Rule.{effect, replacing, value_given, value_wanted, value_size}
use Rattle.jc_rules.proofs.Demands.{SatisfiesAll-front, SatisfiesAll-rest}
use Rattle.jc_rules.proofs.Types.{declared-not_top, declared-not_fresh}
use Rattle.vm_store.specs.declared.cell.Cell.{Cell as StoreCell}
use Rattle.vm_store.specs.declared.cell.Cell.TheVariants as cells
use Rattle.vm_store.specs.declared.cell.ObjectKind.{ObjectKind}
use Rattle.vm_store.specs.declared.cell.ObjectKind.TheVariants.{Instance}
use Rattle.vm_store.specs.Kind.{type_of_kind}
use Rattle.vm_store.specs.Typing.{short, type_of_handle}
use Rattle.vm_store.specs.Cells.{tagged, word_of}
use Rattle.vm_store.specs.State.{Frame, Object, State}
use Rattle.vm_store.specs.Objects.{object_cells}
use Rattle.vm_store.specs.Value.{byte_of_word, value_in, value_on, kept_value, with_object_value}
use Rattle.vm_store.specs.Laws.{cell_type_at}
use Rattle.vm_step.specs.Act.{goes}
use Rattle.vm_step.specs.Numbers.{dropped, replaced}
use Rattle.vm_step.specs.Fields.{held_handle, with_field_read, field_read_act, with_field_write, field_write_act}
use Rattle.vm_step.specs.Settled.{goes_to, settled}
use Rattle.law_sound.specs.Frames.{Typings, least_types, types_of_frame}
use Rattle.law_sound.specs.Soundness.{IsTypedOutcome}
use Rattle.law_sound.proofs.CellTypes.{declared-ready}
use Rattle.law_sound.proofs.Handles.{kinds_of}
use Rattle.law_sound.proofs.Cells.{cell-at}
use Rattle.law_sound.proofs.References.{reference-handle, IsObject, handle-object}
use Rattle.law_sound.proofs.Registers.{asked-of}
use Rattle.law_sound.proofs.Writes.{with_heap, write-safe, write-int-safe}
use Rattle.law_sound.proofs.Arrays.{cell-read, read-one-safe, read-int-safe}
use Rattle.law_sound.proofs.ArrayWrites.{IsHeld, held-at}
use Rattle.law_sound.proofs.SafeTurns.{Here, null-safe}

-- ---- the types of fields

-- the cells of a value by its kind
pub record IsOneCell (ty : Ty) : Type 0 where
  pub given_is : value_given ty ≡ given.One ty
  pub wanted : value_wanted ty ≡ Cell 0 (Value ty) ∷ []
  pub size : value_size ty ≡ 1

reference-one : (ty : Ty) → IsReference ty → IsOneCell ty
reference-one (Class c) h = record { given_is = refl; wanted = refl; size = refl }
reference-one ArrBool h = record { given_is = refl; wanted = refl; size = refl }
reference-one ArrByte h = record { given_is = refl; wanted = refl; size = refl }
reference-one ArrShort h = record { given_is = refl; wanted = refl; size = refl }
reference-one ArrInt h = record { given_is = refl; wanted = refl; size = refl }
reference-one (ArrRef c) h = record { given_is = refl; wanted = refl; size = refl }
reference-one _ h = absurd h

short-one : (ty : Ty) → ty ≡ Short → IsOneCell ty
short-one ty e = subst IsOneCell (sym e) (record { given_is = refl; wanted = refl; size = refl })

pub one-cell : (kind : Kind) (ty : Ty) → IsOfKind kind ty → width kind ≡ 1 → IsOneCell ty
one-cell x ty h one = grind (arith, reference-one, short-one)

-- ---- the cells of an object of a class

instance-of : (t : ClassTable) → AreClasses t → (k : ObjectKind) (c : ℕ) → (c ≡ object t → ⊥) → Below t (type_of_kind t k) (Class c)
    → (d : ℕ) × (k ≡ Instance d) × Below t (Class d) (Class c)
unfolding is_below
instance-of t are z c no_object b = grind (arith, eqb-true, is_below-from_Below)

field-at :
    (t : ClassTable) → AreClasses t → (heap : List (Object StoreCell)) (h c i : ℕ) (ty : Ty) (o : IsObject t heap h (Class c))
    → (c ≡ object t → ⊥) → slice_get (cells_of t c) i ≡ Some ty
    → cell_type_at t (with_heap heap) h i ≡ Some ty
field-at t are heap h c i ty o no_object e = grind (arith, instance-of, instances-extend, slice_get-front)

module _ (w : Linked) (world : IsWorld w) (assigned : Typings) (f : Frame StoreCell) (below : List (Frame StoreCell)) (heap : List (Object StoreCell))
    (statics : List StoreCell)
    (here : Here w assigned f below heap statics)
  where
    -- a value that is read from an object in place of cells of the stack
    pub read-value-safe :
        (h i taken : ℕ) (kind : Kind) (ty : Ty) (op : Operation)
        → here.turn.operation ≡ op
        → effect w op (types_of_frame w.classes (assigned.unset f.method) (kinds_of heap) f) ≡ replacing taken (value_given ty) → falls_from op ≡ true
        → IsOfKind kind ty → IsDeclared w.classes ty
        → cell_type_at w.classes (with_heap heap) h i ≡ Some ty
        → (kind ≡ fields.Int → cell_type_at w.classes (with_heap heap) h (i + 1) ≡ Some IntLow)
        → IsTypedOutcome w assigned
        (goes_to tagged w (here.turn.stands.instruction.place + here.turn.stands.instruction.insn.len)
        (record { frames = f ∷ below; heap = heap; statics = statics })
        (replaced (record { frames = f ∷ below; heap = heap; statics = statics }) taken (value_in tagged kind (object_cells (with_heap heap) h) i)))
    read-value-safe h i taken fields.Ref ty op is does falls of_kind declared first second =
        read-one-safe w world assigned f below heap statics here h i taken ty ty op is
        (does ∙ ap (replacing taken) (one-cell fields.Ref ty of_kind refl).given_is) falls refl
        (cell-read w world assigned f below heap statics here h i ty (declared-not_top w.classes ty declared) (declared-not_fresh w.classes ty declared) first)
    read-value-safe h i taken fields.Byte ty op is does falls of_kind declared first second =
        read-one-safe w world assigned f below heap statics here h i taken ty ty op is
        (does ∙ ap (replacing taken) (one-cell fields.Byte ty of_kind refl).given_is) falls refl
        (cell-read w world assigned f below heap statics here h i ty (declared-not_top w.classes ty declared) (declared-not_fresh w.classes ty declared) first)
    read-value-safe h i taken fields.Short ty op is does falls of_kind declared first second =
        read-one-safe w world assigned f below heap statics here h i taken ty ty op is
        (does ∙ ap (replacing taken) (one-cell fields.Short ty of_kind refl).given_is) falls refl
        (cell-read w world assigned f below heap statics here h i ty (declared-not_top w.classes ty declared) (declared-not_fresh w.classes ty declared) first)
    read-value-safe h i taken fields.Int ty op is does falls of_kind declared first second =
        read-int-safe w world assigned f below heap statics here h i taken op is (does ∙ ap (λ a. replacing taken (value_given a)) of_kind) falls
        (cell-read w world assigned f below heap statics here h i IntHigh tt tt (first ∙ ap Some of_kind))
        (cell-read w world assigned f below heap statics here h (i + 1) IntLow tt tt (second refl))

    -- ---- where the object is

    abbrev IsHolderAsked : Holder → ℕ → ℕ → Type 0
    IsHolderAsked holders.Stack under c =
        IsSomeAnd (slice_get (least_types w.classes (assigned.unset f.method) (kinds_of heap) f.stack) under) (λ a. Below w.classes a (Class c))
    IsHolderAsked holders.This under c =
        IsSomeAnd (slice_get (least_types w.classes (assigned.unset f.method) (kinds_of heap) f.registers) 0) (λ a. Below w.classes a (Class c))

    holder-below :
        (holder : Holder) (under c : ℕ)
        → IsHolderAsked holder under c
        → Below w.classes
        (type_of_handle w.classes (kinds_of heap) (held_handle tagged holder under (record { frames = f ∷ below; heap = heap; statics = statics })))
        (Class c)
    holder-below holders.Stack under c asked =
        let at = cell-at w.classes (assigned.unset f.method) (kinds_of heap) f.stack under (λ a. Below w.classes a (Class c)) asked in
        reference-handle w.classes world.chains (assigned.unset f.method) (kinds_of heap) (slice_index_or f.stack under cells.Empty) (Class c) tt at.holds
    holder-below holders.This under c asked =
        let at = cell-at w.classes (assigned.unset f.method) (kinds_of heap) f.registers 0 (λ a. Below w.classes a (Class c)) asked in
        reference-handle w.classes world.chains (assigned.unset f.method) (kinds_of heap) (slice_index_or f.registers 0 cells.Empty) (Class c) tt at.holds

    read-asked : (class cell : ℕ) (kind : Kind) (ty : Ty) (holder : Holder)
        → here.turn.operation ≡ ops.FieldRead (record { class = class; cell = cell; kind = kind; ty = ty }) holder → IsHolderAsked holder 0 class
    read-asked class cell kind ty v is = grind (arith, asked-of)

    low-half : (kind : Kind) (h i c : ℕ) (o : IsObject w.classes heap h (Class c)) → (c ≡ object w.classes → ⊥)
        → HasLowHalf kind (cells_of w.classes c) i → kind ≡ fields.Int
        → cell_type_at w.classes (with_heap heap) h (i + 1) ≡ Some IntLow
    low-half x h i c o no_object half e = grind (arith, field-at)

    pub field-read-safe :
        (class cell : ℕ) (kind : Kind) (ty : Ty) (holder : Holder)
        → here.turn.operation ≡ ops.FieldRead (record { class = class; cell = cell; kind = kind; ty = ty }) holder
        → IsFieldOf w (record { class = class; cell = cell; kind = kind; ty = ty })
        → IsTypedOutcome w assigned
        (settled tagged w (here.turn.stands.instruction.place + here.turn.stands.instruction.insn.len)
        (record { frames = f ∷ below; heap = heap; statics = statics })
        (field_read_act tagged (record { class = class; cell = cell; kind = kind; ty = ty }) holder
        (record { frames = f ∷ below; heap = heap; statics = statics })))
    field-read-safe class cell kind ty holder is field =
        let now : State StoreCell = record { frames = f ∷ below; heap = heap; statics = statics } in
        let h : ℕ = held_handle tagged holder 0 now in
        null-safe w world assigned f below heap statics here (here.turn.stands.instruction.place + here.turn.stands.instruction.insn.len) h
        (λ n. goes (with_field_read tagged (record { class = class; cell = cell; kind = kind; ty = ty }) holder n now))
        (λ some.
        let o = handle-object w.classes world.chains heap h (Class class) tt some (holder-below holder 0 class (read-asked class cell kind ty holder is)) in
        by-holder holder h is o)
      where
        by-holder :
            (place : Holder) (h : ℕ) → here.turn.operation ≡ ops.FieldRead (record { class = class; cell = cell; kind = kind; ty = ty }) place
            → IsObject w.classes heap h (Class class)
            → IsTypedOutcome w assigned
            (goes_to tagged w (here.turn.stands.instruction.place + here.turn.stands.instruction.insn.len)
            (record { frames = f ∷ below; heap = heap; statics = statics })
            (with_field_read tagged (record { class = class; cell = cell; kind = kind; ty = ty }) place h
            (record { frames = f ∷ below; heap = heap; statics = statics })))
        by-holder holders.Stack h is o =
            read-value-safe h cell 1 kind ty (ops.FieldRead (record { class = class; cell = cell; kind = kind; ty = ty }) holders.Stack) is refl refl
            field.cells.kind field.ty
            (field-at w.classes world.chains heap h class cell ty o field.not_object field.cells.first)
            (low-half kind h cell class o field.not_object field.cells.second)
        by-holder holders.This h is o =
            read-value-safe h cell 0 kind ty (ops.FieldRead (record { class = class; cell = cell; kind = kind; ty = ty }) holders.This) is refl refl
            field.cells.kind field.ty
            (field-at w.classes world.chains heap h class cell ty o field.not_object field.cells.first)
            (low-half kind h cell class o field.not_object field.cells.second)

    -- ---- writes

    -- the cells of the value on top of the stack have their types
    pub value-held : (ty : Ty) → IsOneCell ty → IsDeclared w.classes ty
        → SatisfiesAll w.classes (types_of_frame w.classes (assigned.unset f.method) (kinds_of heap) f) (value_wanted ty)
        → IsHeld w world assigned f below heap statics here 0 ty
    value-held ty one declared asked =
        held-at w world assigned f below heap statics here 0 ty (declared-ready w.classes ty declared)
        (subst (SatisfiesAll w.classes (types_of_frame w.classes (assigned.unset f.method) (kinds_of heap) f)) one.wanted asked).0

    -- a value on top of the stack goes into an object
    pub write-value-safe :
        (h i taken : ℕ) (kind : Kind) (ty : Ty) (op : Operation)
        → here.turn.operation ≡ op
        → effect w op (types_of_frame w.classes (assigned.unset f.method) (kinds_of heap) f) ≡ replacing taken given.Nothing → falls_from op ≡ true
        → IsOfKind kind ty → IsDeclared w.classes ty → SatisfiesAll w.classes (types_of_frame w.classes (assigned.unset f.method) (kinds_of heap) f)
        (value_wanted ty)
        → (h ≡ 0 → ⊥)
        → cell_type_at w.classes (with_heap heap) h i ≡ Some ty
        → (kind ≡ fields.Int → cell_type_at w.classes (with_heap heap) h (i + 1) ≡ Some IntLow)
        → IsTypedOutcome w assigned
        (goes_to tagged w (here.turn.stands.instruction.place + here.turn.stands.instruction.insn.len)
        (record { frames = f ∷ below; heap = heap; statics = statics })
        (with_object_value (dropped (record { frames = f ∷ below; heap = heap; statics = statics }) taken) h i
        (kept_value tagged kind (value_on tagged kind f.stack))))
    write-value-safe h i taken fields.Ref ty op is does falls of_kind declared asked some first second =
        let value = value-held ty (one-cell fields.Ref ty of_kind refl) declared asked in
        write-safe w world assigned f below heap statics here h i ty (slice_index_or f.stack 0 cells.Empty) taken op is does falls some first value.has
        value.filled
    write-value-safe h i taken fields.Byte ty op is does falls of_kind declared asked some first second =
        write-safe w world assigned f below heap statics here h i Short (cells.Short (byte_of_word (word_of (slice_index_or f.stack 0 cells.Empty)))) taken
        op is does falls some
        (first ∙ ap Some of_kind) short tt
    write-value-safe h i taken fields.Short ty op is does falls of_kind declared asked some first second =
        let value = value-held ty (one-cell fields.Short ty of_kind refl) declared asked in
        write-safe w world assigned f below heap statics here h i ty (slice_index_or f.stack 0 cells.Empty) taken op is does falls some first value.has
        value.filled
    write-value-safe h i taken fields.Int ty op is does falls of_kind declared asked some first second =
        let halves = subst (λ a. SatisfiesAll w.classes (types_of_frame w.classes (assigned.unset f.method) (kinds_of heap) f) (value_wanted a)) of_kind
        asked in
        let lower = held-at w world assigned f below heap statics here 0 IntLow tt halves.0 in
        let upper = held-at w world assigned f below heap statics here 1 IntHigh tt halves.1.0 in
        write-int-safe w world assigned f below heap statics here h i IntHigh IntLow (slice_index_or f.stack 1 cells.Empty)
        (slice_index_or f.stack 0 cells.Empty) taken op is does falls some
        (first ∙ ap Some of_kind) upper.has upper.filled (second refl) lower.has lower.filled

    -- how many cells a value takes
    pub size-is : (kind : Kind) (ty : Ty) → IsOfKind kind ty → value_size ty ≡ width kind
    size-is fields.Ref ty h = (one-cell fields.Ref ty h refl).size
    size-is fields.Byte ty h = (one-cell fields.Byte ty h refl).size
    size-is fields.Short ty h = (one-cell fields.Short ty h refl).size
    size-is fields.Int ty h = ap value_size h

    more-none : (kind : Kind) → width kind ≡ width kind + 0
    more-none x = grind (arith)

    pub field-write-safe :
        (class cell : ℕ) (kind : Kind) (ty : Ty) (holder : Holder)
        → here.turn.operation ≡ ops.FieldWrite (record { class = class; cell = cell; kind = kind; ty = ty }) holder
        → IsFieldOf w (record { class = class; cell = cell; kind = kind; ty = ty })
        → IsTypedOutcome w assigned
        (settled tagged w (here.turn.stands.instruction.place + here.turn.stands.instruction.insn.len)
        (record { frames = f ∷ below; heap = heap; statics = statics })
        (field_write_act tagged (record { class = class; cell = cell; kind = kind; ty = ty }) holder
        (record { frames = f ∷ below; heap = heap; statics = statics })))
    field-write-safe class cell kind ty holders.Stack is field =
        let now : State StoreCell = record { frames = f ∷ below; heap = heap; statics = statics } in
        let fd : InstanceField = record { class = class; cell = cell; kind = kind; ty = ty } in
        let exact = types_of_frame w.classes (assigned.unset f.method) (kinds_of heap) f in
        let asked = asked-of w world assigned f below heap statics here (ops.FieldWrite fd holders.Stack) is in
        let object_asked = (SatisfiesAll-rest w.classes exact (value_wanted ty) (Cell (value_size ty) (Value (Class class)) ∷ []) asked).0 in
        let size = size-is kind ty field.cells.kind in
        let h : ℕ = held_handle tagged holders.Stack (width kind) now in
        let at_width = subst (λ n. IsSomeAnd (slice_get exact.stack n) (λ a. Below w.classes a (Class class))) size object_asked in
        null-safe w world assigned f below heap statics here (here.turn.stands.instruction.place + here.turn.stands.instruction.insn.len) h
        (λ n. goes (with_field_write tagged fd holders.Stack n now))
        (λ some.
        let o = handle-object w.classes world.chains heap h (Class class) tt some (holder-below holders.Stack (width kind) class at_width) in
        write-value-safe h cell (width kind + 1) kind ty (ops.FieldWrite fd holders.Stack) is (ap (λ n. replacing (n + 1) given.Nothing) size) refl
        field.cells.kind field.ty
        (SatisfiesAll-front w.classes exact (value_wanted ty) (Cell (value_size ty) (Value (Class class)) ∷ []) asked) some
        (field-at w.classes world.chains heap h class cell ty o field.not_object field.cells.first)
        (low-half kind h cell class o field.not_object field.cells.second))
    field-write-safe class cell kind ty holders.This is field =
        let now : State StoreCell = record { frames = f ∷ below; heap = heap; statics = statics } in
        let fd : InstanceField = record { class = class; cell = cell; kind = kind; ty = ty } in
        let exact = types_of_frame w.classes (assigned.unset f.method) (kinds_of heap) f in
        let asked = (asked-of w world assigned f below heap statics here (ops.FieldWrite fd holders.This) is).1 in
        let object_asked = (SatisfiesAll-rest w.classes exact (value_wanted ty) (Held 0 (Class class) ∷ []) asked).0 in
        let size = size-is kind ty field.cells.kind in
        let h : ℕ = held_handle tagged holders.This (width kind) now in
        null-safe w world assigned f below heap statics here (here.turn.stands.instruction.place + here.turn.stands.instruction.insn.len) h
        (λ n. goes (with_field_write tagged fd holders.This n now))
        (λ some.
        let o = handle-object w.classes world.chains heap h (Class class) tt some (holder-below holders.This (width kind) class object_asked) in
        write-value-safe h cell (width kind + 0) kind ty (ops.FieldWrite fd holders.This) is
        (ap (λ n. replacing n given.Nothing) (size ∙ more-none kind)) refl field.cells.kind field.ty
        (SatisfiesAll-front w.classes exact (value_wanted ty) (Held 0 (Class class) ∷ []) asked) some
        (field-at w.classes world.chains heap h class cell ty o field.not_object field.cells.first)
        (low-half kind h cell class o field.not_object field.cells.second))
