-- Objects and static fields of a typed state keep no uninitialised object, so no map of places changes them.
use Rattle.std.proofs.Common.{◌≡◌, ℕ, zero, suc, List, [], ◌∷◌, length, map, reverse, refl, ap, ◌∙◌, subst, sym, arith}
use Rattle.std.specs.Prelude.{Option, IfSome, All, slice_get, flat_map}
use Rattle.std.proofs.lemmas.List.Concat.{flat_map-cons}
use Rattle.std.proofs.lemmas.List.Elements.{All-head, All-tail, All-append, All-nil, All-cons}
use Rattle.jc_base.specs.declared.ty.Ty.{Ty}
use Rattle.jc_base.specs.declared.ty.Kind.{Kind}
use Rattle.jc_base.specs.declared.record.ClassRec.{ClassRec}
use Rattle.jc_base.specs.declared.record.StaticRec.{StaticRec}
use Rattle.jc_base.specs.Class.{ClassTable}
use Rattle.jc_base.specs.Dispatch.{of_record, own_cells, cells_of}
use Rattle.jc_base.specs.Linked.{IsLinkedClass, IsStatic}
use Rattle.jc_base.specs.World.{Linked, IsWorld}
use Rattle.jc_rules.specs.Flow.{IsNotFresh, IsNotTop}
use Rattle.jc_rules.proofs.Types.{declared-not_top, declared-not_fresh}
use Rattle.vm_store.specs.declared.cell.Cell.{Cell}
use Rattle.vm_store.specs.declared.cell.ObjectKind.{ObjectKind}
use Rattle.vm_store.specs.Typing.{HasType, anything, empty, short, high, low, null, reference, fresh}
use Rattle.vm_store.specs.State.{Object, map_object}
use Rattle.vm_store.specs.Objects.{repeated}
use Rattle.vm_store.specs.Laws.{CellsHave, IsTypedObject, cell_types}
use Rattle.law_sound.specs.State.{field_types, static_types}
use Rattle.law_alike.specs.Alike.{renamed_cell}
use Rattle.law_alike.specs.Likeness.{TypedStatesStay}

-- a type that a value in a field or an element can have
abbrev IsKept : Ty → Type 0
IsKept ty = IsNotFresh ty × IsNotTop ty

module _ (f : ℕ → ℕ) (t : ClassTable) (ks : List ObjectKind) where
  cell-stays : (c : Cell) (ty : Ty) → IsKept ty → HasType t ks c ty → renamed_cell f c ≡ c
  cell-stays c ty kept anything = absurd kept.1
  cell-stays c ty kept (empty r) = refl
  cell-stays c ty kept short = refl
  cell-stays c ty kept high = refl
  cell-stays c ty kept low = refl
  cell-stays c ty kept (null b) = refl
  cell-stays c ty kept (reference e b) = refl
  cell-stays c ty kept (fresh e) = absurd kept.0

  cells-stay : (cs : List Cell) (types : List Ty) → All IsKept types → CellsHave t ks cs types → map (renamed_cell f) cs ≡ cs
  cells-stay [] types kept h = refl
  cells-stay (c ∷ cs) [] kept h = absurd h
  cells-stay (c ∷ cs) (ty ∷ types) kept h =
      grind (arith, cell-stays c ty (All-head IsKept ty types kept) h.0, cells-stay cs types (All-tail IsKept ty types kept) h.2)

-- ---- the types of objects

module _ (w : Linked) (world : IsWorld w) where
  own-kept-by :
      (packages c : ℕ) (o : Option ClassRec) → IfSome o (IsLinkedClass packages w.classes w.methods c)
      → All IsKept (of_record [] (λ r. r.own) o)
  own-kept-by packages c z linked = grind (arith, declared-not_fresh, declared-not_top)

  own-kept : (c : ℕ) → All IsKept (own_cells w.classes c)
  unfolding own_cells
  own-kept c = own-kept-by (length w.infos) c (slice_get w.classes.records c) (world.classes c)

  chain-kept : (cs : List ℕ) → All IsKept (flat_map (own_cells w.classes) cs)
  chain-kept [] = All-nil IsKept
  chain-kept (c ∷ cs) =
      subst (All IsKept) (sym (flat_map-cons (own_cells w.classes) c cs))
      (All-append IsKept (own_cells w.classes c) (flat_map (own_cells w.classes) cs) (own-kept c) (chain-kept cs))

  repeated-kept : (n : ℕ) (types : List Ty) → All IsKept types → All IsKept (repeated n types)
  repeated-kept zero types kept = All-nil IsKept
  repeated-kept (suc n) types kept = All-append IsKept types (repeated n types) kept (repeated-kept n types kept)

  one-kept : (ty : Ty) → IsKept ty → All IsKept (ty ∷ [])
  one-kept ty kept = All-cons IsKept ty [] kept (All-nil IsKept)

  object-kept : (kind : ObjectKind) (n : ℕ) → All IsKept (cell_types w.classes kind n)
  unfolding cells_of
  object-kept x n = grind (arith, chain-kept, reverse, repeated-kept, one-kept)

  objects-stay :
      (f : ℕ → ℕ) (ks : List ObjectKind) (os : List (Object Cell)) → All (IsTypedObject w.classes ks) os
      → map (map_object (renamed_cell f)) os ≡ os
  objects-stay f ks [] typed = refl
  objects-stay f ks (o ∷ os) typed =
      let first = cells-stay f w.classes ks o.cells (cell_types w.classes o.kind (length o.cells))
      (object-kept o.kind (length o.cells))
      (All-head (IsTypedObject w.classes ks) o os typed) in
      ap (λ cs. record { kind = o.kind; cells = cs } ∷ map (map_object (renamed_cell f)) os) first
      ∙ ap (λ xs. o ∷ xs) (objects-stay f ks os (All-tail (IsTypedObject w.classes ks) o os typed))

  -- ---- the types of static fields

  field-kept : (kind : Kind) (ty : Ty) → IsKept ty → All IsKept (field_types kind ty)
  field-kept x ty kept = grind (arith, one-kept)

  statics-kept : (fs : List StaticRec) → All (IsStatic (length w.infos) w.classes w.arrays) fs → All IsKept (static_types fs)
  statics-kept [] all = All-nil IsKept
  statics-kept (f ∷ fs) all =
      let own = All-head (IsStatic (length w.infos) w.classes w.arrays) f fs all in
      All-append IsKept (field_types f.kind f.ty) (static_types fs)
      (field-kept f.kind f.ty (declared-not_fresh w.classes f.ty own.ty, declared-not_top w.classes f.ty own.ty))
      (statics-kept fs (All-tail (IsStatic (length w.infos) w.classes w.arrays) f fs all))

  pub typed-states-stay : TypedStatesStay w
  typed-states-stay typings place s typed = (
    objects-stay place _ s.heap typed.heap,
    cells-stay place w.classes _ s.statics (static_types w.statics) (statics-kept w.statics world.statics) typed.statics,
  )
