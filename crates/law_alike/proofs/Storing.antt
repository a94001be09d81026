-- Writes of fields, of elements and of static fields, in two states that are alike.
use Rattle.std.proofs.Common.{◌≡◌, ℕ, zero, suc, ◌+◌, ◌*◌, Bool, true, false, if◌then◌else◌, List, [], ◌∷◌, map, set, refl, arith}
use Rattle.std.proofs.Common.{sym, ap, ◌∙◌, subst}
use Rattle.std.specs.Prelude.{ℤ, ⊤}
use Rattle.std.proofs.lemmas.List.{drop-map, map-set}
use Rattle.jc_base.specs.declared.ty.Kind.{Kind}
use Rattle.jc_base.specs.declared.ty.Kind.TheVariants as fields
use Rattle.jc_base.specs.Class.{ClassTable}
use Rattle.jc_base.specs.Cell.{width}
use Rattle.jc_ops.specs.declared.operation.StaticField.{StaticField}
use Rattle.jc_ops.specs.declared.operation.InstanceField.{InstanceField}
use Rattle.jc_ops.specs.declared.operation.Holder.{Holder}
use Rattle.jc_ops.specs.declared.operation.Holder.TheVariants as holders
use Rattle.vm_store.specs.declared.cell.Cell.{Cell}
use Rattle.vm_store.specs.declared.cell.Cell.TheVariants as cells
use Rattle.vm_store.specs.Cells.{tagged}
use Rattle.vm_store.specs.State.{State, Frame, Object, map_object, nth}
use Rattle.vm_store.specs.Objects.{write_object}
use Rattle.vm_store.specs.Value.{value_on, kept_value, byte_of_word, with_object_value, with_static_value}
use Rattle.vm_step.specs.declared.ending.Exception.TheVariants as exceptions
use Rattle.vm_step.specs.Act.{Act, goes, raises}
use Rattle.vm_step.specs.Fields.{with_static_write, held_handle, holder_width, with_field_read}
use Rattle.vm_step.specs.Fields.{field_read_act, with_field_write, field_write_act, elements_of}
use Rattle.vm_step.specs.Fields.{element_index, at_element, keeps_kind, with_element, array_write_act}
use Rattle.vm_step.specs.Numbers.{handle_at, short_at, dropped}
use Rattle.law_alike.specs.Alike.{renamed_cell}
use Rattle.law_alike.proofs.Cells.{Stay, nth-renamed, word-at, short-is, write-stays}
use Rattle.law_alike.proofs.Twins.{Pair, first, second, Does, goes_both, raises_both, stack-twins, replaced-does, null-does, some-does}
use Rattle.law_alike.proofs.Acting.{other_stack, elements-same, read-stays}

-- ---- objects and static fields with a value from a place on

abbrev write : List (Object Cell) → ℕ → ℕ → Cell → List (Object Cell)
write heap zero i c = heap
write heap (suc h) i c = write_object heap h i c

abbrev written : List (Object Cell) → ℕ → ℕ → List Cell → List (Object Cell)
written heap h i [] = heap
written heap h i (c ∷ cs) = written (write heap h i c) h (i + 1) cs

abbrev stored : List Cell → ℕ → List Cell → List Cell
stored statics slot [] = statics
stored statics slot (c ∷ cs) = stored (set statics slot c) (slot + 1) cs

pub object-written :
    (frames : List (Frame Cell)) (heap : List (Object Cell)) (statics : List Cell) (h i : ℕ) (cs : List Cell)
    → with_object_value (record { frames = frames; heap = heap; statics = statics }) h i cs
    ≡ record { frames = frames; heap = written heap h i cs; statics = statics }
object-written frames heap statics h i [] = refl
object-written frames heap statics zero i (c ∷ cs) = object-written frames heap statics zero (i + 1) cs
object-written frames heap statics (suc h) i (c ∷ cs) = object-written frames (write_object heap h i c) statics (suc h) (i + 1) cs

static-stored :
    (frames : List (Frame Cell)) (heap : List (Object Cell)) (statics : List Cell) (slot : ℕ) (cs : List Cell)
    → with_static_value (record { frames = frames; heap = heap; statics = statics }) slot cs
    ≡ record { frames = frames; heap = heap; statics = stored statics slot cs }
static-stored frames heap statics slot [] = refl
static-stored frames heap statics slot (c ∷ cs) = static-stored frames heap (set statics slot c) (slot + 1) cs

module _ (f : ℕ → ℕ) where
  write-one-stays :
      (heap : List (Object Cell)) (h i : ℕ) (c : Cell) → map (map_object (renamed_cell f)) heap ≡ heap → renamed_cell f c ≡ c
      → map (map_object (renamed_cell f)) (write heap h i c) ≡ write heap h i c
  write-one-stays heap zero i c e g = e
  write-one-stays heap (suc h) i c e g = write-stays f heap h i c e g

  written-stays :
      (heap : List (Object Cell)) (h i : ℕ) (cs : List Cell) → map (map_object (renamed_cell f)) heap ≡ heap → Stay f cs
      → map (map_object (renamed_cell f)) (written heap h i cs) ≡ written heap h i cs
  written-stays heap h i [] e stay = e
  written-stays heap h i (c ∷ cs) e stay =
      written-stays (write heap h i c) h (i + 1) cs (write-one-stays heap h i c e stay.0) stay.1

  stored-stays :
      (statics : List Cell) (slot : ℕ) (cs : List Cell) → map (renamed_cell f) statics ≡ statics → Stay f cs
      → map (renamed_cell f) (stored statics slot cs) ≡ stored statics slot cs
  stored-stays statics slot [] e stay = e
  stored-stays statics slot (c ∷ cs) e stay =
      stored-stays (set statics slot c) (slot + 1) cs
      (map-set (renamed_cell f) statics slot c ∙ ap (λ xs. set xs slot (renamed_cell f c)) e ∙ ap (set statics slot) stay.0) stay.1

module _ (x : Pair) where
  -- ---- the value on top

  abbrev pub CellStays : ℕ → Type 0
  CellStays n = renamed_cell x.rename (nth tagged x.frame.stack n) ≡ nth tagged x.frame.stack n

  -- the cells of a value of a kind on top stay; of a byte the number alone is kept
  abbrev pub ValueStays : Kind → Type 0
  ValueStays fields.Int = CellStays 1 × CellStays 0
  ValueStays fields.Byte = ⊤
  ValueStays _ = CellStays 0

  nth-same : (n : ℕ) → CellStays n → nth tagged (other_stack x) n ≡ nth tagged x.frame.stack n
  nth-same n h = nth-renamed x.rename x.frame.stack n ∙ h

  abbrev value : Kind → List Cell → List Cell
  value kind stack = kept_value tagged kind (value_on tagged kind stack)

  value-same : (kind : Kind) → ValueStays kind → value kind (other_stack x) ≡ value kind x.frame.stack
  value-same fields.Int h = cc (nth-same 1 h.0, nth-same 0 h.1)
  value-same fields.Byte h = ap (λ n. cells.Short (byte_of_word n) ∷ []) (word-at x.rename x.frame.stack 0)
  value-same fields.Ref h = ap (λ c. c ∷ []) (nth-same 0 h)
  value-same fields.Short h = ap (λ c. c ∷ []) (nth-same 0 h)

  value-stay : (kind : Kind) → ValueStays kind → Stay x.rename (value kind x.frame.stack)
  value-stay x h = grind (arith)

  -- ---- writes

  states-do : {z y : State Cell} (u v : State Cell) → u ≡ z → v ≡ y → Does x (goes z) (goes y) → Does x (goes u) (goes v)
  states-do {z} {y} u v e g d = grind (arith)

  module _ (none : x.print.written ≡ 0) (falls : x.falls ≡ true) where
    written-does :
        (taken h i : ℕ) (kind : Kind) → ValueStays kind
        → Does x (goes (with_object_value (dropped (first x) taken) h i (value kind x.frame.stack)))
        (goes (with_object_value (dropped (second x) taken) h i (value kind (other_stack x))))
    written-does taken h i kind stays =
        grind (arith, states-do, object-written, value-same, drop-map, goes_both, stack-twins, written-stays, value-stay)

    pub static-write-does :
        (fd : StaticField) → ValueStays fd.kind
        → Does x (goes (with_static_write tagged fd (first x))) (goes (with_static_write tagged fd (second x)))
    static-write-does fd stays =
        grind (arith, states-do, static-stored, value-same, drop-map, goes_both, stack-twins, stored-stays, value-stay)

    -- ---- fields: the object stands on the stack, or in register 0

    abbrev pub HolderSame : Holder → Type 0
    HolderSame holders.Stack = ⊤
    HolderSame holders.This = nth tagged x.registers 0 ≡ nth tagged x.frame.registers 0

    held-same :
        (holder : Holder) (under : ℕ) → HolderSame holder → held_handle tagged holder under (second x)
        ≡ held_handle tagged holder under (first x)
    held-same holders.Stack under h = word-at x.rename x.frame.stack under
    held-same holders.This under h = ap tagged.word h

    field-does :
        (fd : InstanceField) (holder : Holder) (h : ℕ)
        → Does x (goes (with_field_read tagged fd holder h (first x))) (goes (with_field_read tagged fd holder h (second x)))
    field-does fd holders.Stack h = replaced-does x none falls 1 _ _ (read-stays x fd.kind h fd.cell)
    field-does fd holders.This h = replaced-does x none falls 0 _ _ (read-stays x fd.kind h fd.cell)

    pub field-read-does :
        (fd : InstanceField) (holder : Holder) → HolderSame holder
        → Does x (field_read_act tagged fd holder (first x)) (field_read_act tagged fd holder (second x))
    field-read-does fd holder same =
        let h : ℕ = held_handle tagged holder 0 (first x) in
        null-does x h (held_handle tagged holder 0 (second x))
        (λ h. goes (with_field_read tagged fd holder h (first x)))
        (λ h. goes (with_field_read tagged fd holder h (second x)))
        (held-same holder 0 same) (field-does fd holder h)

    pub field-write-does :
        (fd : InstanceField) (holder : Holder) → HolderSame holder → ValueStays fd.kind
        → Does x (field_write_act tagged fd holder (first x)) (field_write_act tagged fd holder (second x))
    field-write-does fd holder same stays =
        let h : ℕ = held_handle tagged holder (width fd.kind) (first x) in
        null-does x h (held_handle tagged holder (width fd.kind) (second x))
        (λ h. goes (with_field_write tagged fd holder h (first x)))
        (λ h. goes (with_field_write tagged fd holder h (second x)))
        (held-same holder (width fd.kind) same) (written-does (width fd.kind + holder_width holder) h fd.cell fd.kind stays)

    -- ---- arrays

    keeps-same :
        (t : ClassTable) (kind : Kind) (h : ℕ) → keeps_kind tagged t kind (second x) h ≡ keeps_kind tagged t kind (first x) h
    keeps-same t fields.Ref h = grind (arith, word-at x.rename x.frame.stack 0)
    keeps-same t fields.Byte h = refl
    keeps-same t fields.Short h = refl
    keeps-same t fields.Int h = refl

    element-does :
        (kind : Kind) (h i : ℕ) (keep other : Bool) → other ≡ keep → ValueStays kind
        → Does x (if keep then goes (with_element tagged kind h i (first x)) else raises exceptions.ArrayStore)
        (if other then goes (with_element tagged kind h i (second x)) else raises exceptions.ArrayStore)
    element-does kind h i keep other e stays =
        subst (λ b. Does x (if keep then goes (with_element tagged kind h i (first x)) else raises exceptions.ArrayStore)
        (if b then goes (with_element tagged kind h i (second x)) else raises exceptions.ArrayStore)) (sym e) (go keep)
      where
        go : (b : Bool) → Does x (if b then goes (with_element tagged kind h i (first x)) else raises exceptions.ArrayStore)
            (if b then goes (with_element tagged kind h i (second x)) else raises exceptions.ArrayStore)
        go true = written-does (width kind + 2) h (i * width kind) kind stays
        go false = raises_both exceptions.ArrayStore

    pub array-write-does :
        (t : ClassTable) (kind : Kind) → ValueStays kind
        → Does x (array_write_act tagged t kind (first x)) (array_write_act tagged t kind (second x))
    array-write-does t kind stays =
        let h : ℕ = handle_at tagged x.frame.stack (width kind + 1) in
        let n : ℤ = short_at tagged x.frame.stack (width kind) in
        let k : ℤ = short_at tagged (other_stack x) (width kind) in
        let a : ℕ → ℕ → Act Cell = λ h i. if keeps_kind tagged t kind (first x) h then goes (with_element tagged kind h i (first x))
        else raises exceptions.ArrayStore in
        let b : ℕ → ℕ → Act Cell = λ h i. if keeps_kind tagged t kind (second x) h then goes
        (with_element tagged kind h i (second x)) else raises exceptions.ArrayStore in
        null-does x h (handle_at tagged (other_stack x) (width kind + 1))
        (λ h. at_element n (elements_of (first x) h) (a h))
        (λ h. at_element k (elements_of (second x) h) (b h))
        (word-at x.rename x.frame.stack (width kind + 1))
        (some-does x exceptions.ArrayIndex (element_index n (elements_of (first x) h)) (element_index k (elements_of (second x) h)) (a h)
        (b h)
        (ap (λ m. element_index m (elements_of (second x) h)) (short-is x.rename x.frame.stack (width kind))
        ∙ ap (element_index n) (elements-same x h))
        (λ i. element-does kind h i (keeps_kind tagged t kind (first x) h) (keeps_kind tagged t kind (second x) h)
        (keeps-same t kind h) stays))
