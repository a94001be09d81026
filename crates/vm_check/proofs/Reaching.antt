-- What the tests before an operation say of the objects, fields and classes that it speaks of.
use Rattle.std.proofs.Common.{◌≡◌, ℕ, zero, suc, ◌+◌, ◌<◌, ◌≤◌, ◌⊎◌, inl, inr, true, List, [], ◌∷◌, length, IsTrue, refl, sym}
use Rattle.std.proofs.Common.{ap, ◌∙◌, subst, arith}
use Rattle.std.specs.Prelude.{◌↔◌, Option, Some, None, All, Any, IsSome, sum_by, slice_get, slice_index_or, is_some}
use Rattle.std.proofs.lemmas.Bool.{eqb-true}
use Rattle.std.proofs.lemmas.Option.{slice_get_within}
use Rattle.std.proofs.lemmas.List.{length-append}
use Rattle.std.proofs.lemmas.List.Sums.{sum_by-cons}
use Rattle.jc_base.specs.declared.ty.Ty.{Ty}
use Rattle.jc_base.specs.declared.ty.Ty.TheVariants.{Bottom, Class, ArrBool, ArrByte, ArrShort, ArrInt, ArrRef}
use Rattle.jc_base.specs.declared.ty.Kind.{Kind}
use Rattle.jc_base.specs.declared.ty.Kind.TheVariants as fields
use Rattle.jc_base.specs.declared.record.StaticRec.{StaticRec}
use Rattle.jc_base.specs.Class.{ClassTable, IsClass, object}
use Rattle.jc_base.specs.Order.{Below, same, is_below, is_reference, is_above_arrays}
use Rattle.jc_base.specs.Cell.{width}
use Rattle.jc_base.specs.Dispatch.{cells_of}
use Rattle.jc_base.specs.Linked.{AreSlots, IsSlotOf, IsField}
use Rattle.jc_base.specs.World.{Linked, IsWorld}
use Rattle.jc_base.proofs.Objects.{instances-extend}
use Rattle.jc_base.proofs.Subtypes.{below_decided}
use Rattle.jc_ops.specs.declared.operation.InstanceField.{InstanceField}
use Rattle.jc_ops.specs.declared.operation.StaticField.{StaticField}
use Rattle.jc_ops.specs.Sound.{IsFieldOf, IsStaticOf}
use Rattle.jc_rules.specs.Demand.{Meets, IsArrayOrNull}
use Rattle.jc_rules.specs.Rule.{array_wanted}
use Rattle.vm_store.specs.declared.cell.Cell.{Cell}
use Rattle.vm_store.specs.declared.cell.Cell.TheVariants as cells
use Rattle.vm_store.specs.declared.cell.ObjectKind.{ObjectKind}
use Rattle.vm_store.specs.declared.cell.ObjectKind.TheVariants.{Instance, Ints}
use Rattle.vm_store.specs.Kind.{element_width, kind_of_handle, type_of_kind}
use Rattle.vm_store.specs.Typing.{least_type, type_seen, fresh_seen}
use Rattle.vm_store.specs.Cells.{word_of}
use Rattle.vm_store.specs.State.{State}
use Rattle.vm_store.specs.Objects.{kinds, object_at, object_cells, cells_in}
use Rattle.vm_step.specs.Instance.{IsRecorded}
use Rattle.vm_step.specs.Calls.{class_of, class_with_methods}
use Rattle.vm_act.specs.Found.{IsNullOr, IsObject, IsArrayFor, HasField}
use Rattle.vm_act.specs.Reaches.{HasStatic}
use Rattle.vm_check.specs.Shaped.{IsShapedObject, IsShapedFor}
use Rattle.vm_check.proofs.Objects.{null-or, HasKind, HasObject, has-object, cell-object, never}

module _ (w : Linked) (is : IsWorld w) (s : State Cell) (shaped : All (IsShapedObject w.classes) s.heap) where
  t : ClassTable
  t = w.classes

  abbrev type_of : Cell → Ty
  type_of c = least_type w.classes Bottom (kinds s) c

  decided : (a b : Ty) → IsTrue (is_below w.classes a b) ↔ Below w.classes a b
  decided = below_decided w.classes is.chains

  some-object : (h : ℕ) (kind : ObjectKind) → kind_of_handle (kinds s) h ≡ Some kind → HasObject w.classes s h kind
  some-object h kind e = has-object w.classes s h kind shaped e

  there : (h : ℕ) (kind : ObjectKind) → HasObject w.classes s h kind → IsSome (object_at s h)
  there h kind o = ap is_some o.there

  recorded-for : (kind : ObjectKind) (n : ℕ) → IsShapedFor w.classes kind n → IsRecorded w.classes kind
  recorded-for kind n h = grind (arith)

  is-object : (h : ℕ) (kind : ObjectKind) → HasObject w.classes s h kind → IsObject w.classes s h
  is-object h kind o = grind (arith, recorded-for, length, there)

  -- a cell of a reference type refers to an object of the world, or to none
  pub object-or-null : (c : Cell) (ty : Ty) → is_reference ty ≡ true → Below w.classes (type_of c) ty
      → IsNullOr (word_of c) (IsObject w.classes s (word_of c))
  object-or-null c ty r b = null-or (word_of c) (IsObject w.classes s (word_of c)) (by (cell-object w.classes decided (kinds s) c ty r b))
    where
      by : (word_of c ≡ 0) ⊎ HasKind w.classes (kinds s) (word_of c) ty → (word_of c ≡ 0) ⊎ IsObject w.classes s (word_of c)
      by (inl e) = inl e
      by (inr k) = inr (is-object (word_of c) k.kind (some-object (word_of c) k.kind k.there))

  pub there-or-null : (c : Cell) (ty : Ty) → is_reference ty ≡ true → Below w.classes (type_of c) ty
      → IsNullOr (word_of c) (IsSome (object_at s (word_of c)))
  there-or-null c ty r b = null-or (word_of c) (IsSome (object_at s (word_of c))) (by (cell-object w.classes decided (kinds s) c ty r b))
    where
      by : (word_of c ≡ 0) ⊎ HasKind w.classes (kinds s) (word_of c) ty → (word_of c ≡ 0) ⊎ IsSome (object_at s (word_of c))
      by (inl e) = inl e
      by (inr k) = inr (there (word_of c) k.kind (some-object (word_of c) k.kind k.there))

  -- ---- instance fields

  not-above : (f : InstanceField) → IsFieldOf w f → is_above_arrays w.classes (Class f.class) ≡ true → ⊥
  not-above f field e = field.not_object (eqb-true f.class (object w.classes) e)

  field-end : (f : InstanceField) → IsFieldOf w f → f.cell + width f.kind ≤ length (cells_of w.classes f.class)
  field-end f field = by f.kind field.cells
    where
      first : f.cell < length (cells_of w.classes f.class)
      first = slice_get_within (cells_of w.classes f.class) f.cell f.ty field.cells.first

      by : (k : Kind) → IsField w.classes f.class f.cell k f.ty → f.cell + width k ≤ length (cells_of w.classes f.class)
      by kind c = grind (arith, slice_get_within)

  field-in : (f : InstanceField) → IsFieldOf w f → (kind : ObjectKind) (n : ℕ) → IsShapedFor w.classes kind n
      → Below w.classes (type_of_kind w.classes kind) (Class f.class) → f.cell + width f.kind ≤ n
  unfolding is_below
  field-in f field (Instance c) n h b =
      let more = instances-extend w.classes is.chains c f.class b in
      let longer : length (cells_of w.classes c) ≡ length (cells_of w.classes f.class) + length more.more = ap length more.whole
      ∙ length-append (cells_of w.classes f.class) more.more in
      omega (arith, field-end f field, longer, h.1)
  field-in f field kind n h b = absurd (not-above f field ((decided (type_of_kind w.classes kind) (Class f.class)).1 b))

  pub field-or-null : (f : InstanceField) → IsFieldOf w f → (c : Cell) → Below w.classes (type_of c) (Class f.class)
      → IsNullOr (word_of c) (HasField f s (word_of c))
  field-or-null f field c b = null-or (word_of c) (HasField f s (word_of c)) (by (cell-object w.classes decided (kinds s) c (Class f.class) refl b))
    where
      by : (word_of c ≡ 0) ⊎ HasKind w.classes (kinds s) (word_of c) (Class f.class) → (word_of c ≡ 0) ⊎ HasField f s (word_of c)
      by (inl e) = inl e
      by (inr k) =
          let o = some-object (word_of c) k.kind k.there in
          let cells : length (object_cells s (word_of c)) ≡ length o.object.cells = ap (λ x. length (cells_in x)) o.there in
          inr (omega (arith, field-in f field k.kind (length o.object.cells) o.shaped k.below, cells))

  -- ---- arrays

  array-for : (kind : Kind) (h : ℕ) (found : ObjectKind) → HasObject w.classes s h found → element_width found ≡ width kind → IsArrayFor kind s h
  array-for kind h found o e = grind (arith, there)

  -- the kinds whose arrays are below an array type
  abbrev width-below : (kind : Kind) (ty : Ty) → Type 0
  width-below kind ty = (found : ObjectKind) → Below w.classes (type_of_kind w.classes found) ty → element_width found ≡ width kind

  refs-below : width-below fields.Ref (ArrRef (object w.classes))
  unfolding is_below
  refs-below (Instance c) b = never w.classes decided (Class c) (ArrRef (object w.classes)) b refl
  refs-below Ints b = never w.classes decided ArrInt (ArrRef (object w.classes)) b refl
  refs-below kind b = refl

  shorts-below : width-below fields.Short ArrShort
  unfolding is_below
  shorts-below (Instance c) b = never w.classes decided (Class c) ArrShort b refl
  shorts-below Ints b = never w.classes decided ArrInt ArrShort b refl
  shorts-below kind b = refl

  bytes-below : width-below fields.Byte ArrByte
  unfolding is_below
  bytes-below (Instance c) b = never w.classes decided (Class c) ArrByte b refl
  bytes-below Ints b = never w.classes decided ArrInt ArrByte b refl
  bytes-below kind b = refl

  booleans-below : width-below fields.Byte ArrBool
  unfolding is_below
  booleans-below (Instance c) b = never w.classes decided (Class c) ArrBool b refl
  booleans-below Ints b = never w.classes decided ArrInt ArrBool b refl
  booleans-below kind b = refl

  ints-below : width-below fields.Int ArrInt
  unfolding is_below
  ints-below Ints b = refl
  ints-below kind b = never w.classes decided (type_of_kind w.classes kind) ArrInt b refl

  array-of : (kind : Kind) (c : Cell) (ty : Ty) → is_reference ty ≡ true → width-below kind ty → Below w.classes (type_of c) ty
      → IsNullOr (word_of c) (IsArrayFor kind s (word_of c))
  array-of kind c ty r wide b = null-or (word_of c) (IsArrayFor kind s (word_of c)) (by (cell-object w.classes decided (kinds s) c ty r b))
    where
      by : (word_of c ≡ 0) ⊎ HasKind w.classes (kinds s) (word_of c) ty → (word_of c ≡ 0) ⊎ IsArrayFor kind s (word_of c)
      by (inl e) = inl e
      by (inr k) = inr (array-for kind (word_of c) k.kind (some-object (word_of c) k.kind k.there) (wide k.kind k.below))

  pub array-or-null : (kind : Kind) (c : Cell) → Meets w.classes (array_wanted w.classes kind) (type_of c)
      → IsNullOr (word_of c) (IsArrayFor kind s (word_of c))
  array-or-null fields.Ref c m = array-of fields.Ref c (ArrRef (object w.classes)) refl refs-below m
  array-or-null fields.Byte c (inl m) = array-of fields.Byte c ArrByte refl bytes-below m
  array-or-null fields.Byte c (inr m) = array-of fields.Byte c ArrBool refl booleans-below m
  array-or-null fields.Short c m = array-of fields.Short c ArrShort refl shorts-below m
  array-or-null fields.Int c m = array-of fields.Int c ArrInt refl ints-below m

  -- ---- any array

  array-there : (c : Cell) → IsArrayOrNull (type_of c) → (word_of c ≡ 0) ⊎ IsSome (object_at s (word_of c))
  array-there cells.Empty m = inl refl
  array-there (cells.Ref zero) m = inl refl
  array-there (cells.Ref (suc h)) m = by (slice_get (kinds s) h) refl m
    where
      by : (o : Option ObjectKind) → slice_get (kinds s) h ≡ o → IsArrayOrNull (type_seen w.classes o) → (suc h ≡ 0) ⊎ IsSome (object_at s (suc h))
      by None e m = absurd m
      by (Some kind) e m = inr (there (suc h) kind (some-object (suc h) kind e))
  array-there (cells.Fresh (suc h) p) m = by (slice_get (kinds s) h) m
    where
      by : (o : Option ObjectKind) → IsArrayOrNull (fresh_seen p o) → (suc h ≡ 0) ⊎ IsSome (object_at s (suc h))
      by (Some (Instance c)) m = absurd m
      by o m = absurd m
  array-there c m = absurd m

  pub array-there-or-null : (c : Cell) → IsArrayOrNull (type_of c) → IsNullOr (word_of c) (IsSome (object_at s (word_of c)))
  array-there-or-null c m = null-or (word_of c) (IsSome (object_at s (word_of c))) (array-there c m)

  -- ---- receivers

  class-for : (kind : ObjectKind) (n : ℕ) → IsShapedFor w.classes kind n → IsClass w.classes (class_with_methods w.classes (Some kind))
  class-for kind n h = grind (arith)

  object-is : (class : ℕ) → is_above_arrays w.classes (Class class) ≡ true → Below w.classes (Class (object w.classes)) (Class class)
  object-is class e = subst (λ c. Below w.classes (Class (object w.classes)) (Class c)) (sym (eqb-true class (object w.classes) e)) same

  class-below : (kind : ObjectKind) (class : ℕ) → Below w.classes (type_of_kind w.classes kind) (Class class)
      → Below w.classes (Class (class_with_methods w.classes (Some kind))) (Class class)
  unfolding is_below
  class-below (Instance c) class b = b
  class-below kind class b = object-is class ((decided (type_of_kind w.classes kind) (Class class)).1 b)

  abbrev Receives : ℕ → ℕ → Type 0
  Receives class h =
      IsSome (object_at s h) × IsClass w.classes (class_of w.classes s h) × Below w.classes (Class (class_of w.classes s h)) (Class class)

  receives : (class h : ℕ) (kind : ObjectKind) → kind_of_handle (kinds s) h ≡ Some kind
      → Below w.classes (type_of_kind w.classes kind) (Class class) → Receives class h
  receives class h kind e b = grind (arith, some-object h kind e, class-below kind class b, there, class-for, length)

  pub receiver-or-null : (class : ℕ) (c : Cell) → Below w.classes (type_of c) (Class class) → IsNullOr (word_of c) (Receives class (word_of c))
  receiver-or-null class c b = null-or (word_of c) (Receives class (word_of c)) (by (cell-object w.classes decided (kinds s) c (Class class) refl b))
    where
      by : (word_of c ≡ 0) ⊎ HasKind w.classes (kinds s) (word_of c) (Class class) → (word_of c ≡ 0) ⊎ Receives class (word_of c)
      by (inl e) = inl e
      by (inr k) = inr (receives class (word_of c) k.kind k.there k.below)

  -- ---- static fields

  slots-end : (from slot : ℕ) (k : Kind) (u : Ty) (fs : List StaticRec) → AreSlots from fs → Any (IsSlotOf slot k u) fs
      → slot + width k ≤ from + sum_by (λ (f : StaticRec). width f.kind) fs
  slots-end from slot k u [] slots any = absurd (omega (arith, any.2))
  slots-end from slot k u (f ∷ fs) slots any = by any.0 any.1 any.2 any.3 any.4 (slots-end (from + width f.kind) slot k u fs slots.1)
    where
      by : (n : ℕ) (x : StaticRec) → n < length (f ∷ fs) → slice_index_or (f ∷ fs) n x ≡ x → IsSlotOf slot k u x
          → (Any (IsSlotOf slot k u) fs → slot + width k ≤ from + width f.kind + sum_by (λ (g : StaticRec). width g.kind) fs)
          → slot + width k ≤ from + sum_by (λ (g : StaticRec). width g.kind) (f ∷ fs)
      by zero x lt at p rest =
          let here : IsSlotOf slot k u f = subst (IsSlotOf slot k u) (sym at) p in
          let split : sum_by (λ (g : StaticRec). width g.kind) (f ∷ fs) ≡ width f.kind + sum_by (λ (g : StaticRec). width g.kind) fs = sum_by-cons
          (λ (g : StaticRec). width g.kind) f fs in
          omega (arith, split, here.slot, slots.0, ap width here.kind)
      by (suc n) x lt at p rest =
          let split : sum_by (λ (g : StaticRec). width g.kind) (f ∷ fs) ≡ width f.kind + sum_by (λ (g : StaticRec). width g.kind) fs = sum_by-cons
          (λ (g : StaticRec). width g.kind) f fs in
          omega (arith, split, rest (n, x, omega (arith, lt), at, p))

  pub static-there : (f : StaticField) → IsStaticOf w f → length s.statics ≡ sum_by (λ (g : StaticRec). width g.kind) w.statics → HasStatic f s
  static-there f static whole = record {
    there = omega (arith, slots-end 0 f.slot f.kind f.ty w.statics is.slots static.there, whole);
    kind = static.kind;
  }
