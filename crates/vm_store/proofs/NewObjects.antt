-- New objects among typed ones.
use Rattle.std.proofs.Common.{◌≡◌, ℕ, zero, suc, ◌*◌, ◌/◌, List, [], ◌∷◌, ◌++◌, length, map, reverse, sym, ap}
use Rattle.std.proofs.Common.{◌∙◌, subst, arith, lit<}
use Rattle.std.specs.Prelude.{Option, IfSome, All, slice_get, flat_map}
use Rattle.std.proofs.Math.Nat.{mul-div_cancel_left}
use Rattle.std.proofs.lemmas.List.{map-append}
use Rattle.std.proofs.lemmas.List.Elements.{All-append, All-cons, All-nil, All-head, All-tail}
use Rattle.std.proofs.lemmas.List.Concat.{flat_map-cons}
use Rattle.jc_base.specs.declared.ty.Ty.{Ty}
use Rattle.jc_base.specs.declared.ty.Ty.TheVariants.{Bottom, Short, IntHigh, IntLow, Null, Class, ArrBool, ArrByte, ArrShort, ArrInt, ArrRef, Fresh, Top}
use Rattle.jc_base.specs.declared.record.ClassRec.{ClassRec}
use Rattle.jc_base.specs.declared.record.MethodRec.{MethodRec}
use Rattle.jc_base.specs.Class.{ClassTable, chain}
use Rattle.jc_base.specs.Order.{null_object, null_array, of_booleans, of_bytes, of_shorts, of_ints, of_references}
use Rattle.jc_base.specs.Cell.{IsDeclared}
use Rattle.jc_base.specs.Dispatch.{of_record, own_cells, cells_of}
use Rattle.jc_base.specs.Linked.{AreLinkedClasses, IsLinkedClass}
use Rattle.jc_base.proofs.Lists.{slice_get-front}
use Rattle.vm_store.specs.declared.cell.Cell.{Cell}
use Rattle.vm_store.specs.declared.cell.ObjectKind.{ObjectKind}
use Rattle.vm_store.specs.declared.cell.ObjectKind.TheVariants.{Instance, Ints, References}
use Rattle.vm_store.specs.Kind.{IsArrayKind, cell_kind, element_cells}
use Rattle.vm_store.specs.Typing.{HasType, anything, empty, short, high, low, null, reference, fresh}
use Rattle.vm_store.specs.Cells.{tagged, zero_cell}
use Rattle.vm_store.specs.State.{State, Object}
use Rattle.vm_store.specs.Objects.{kinds, repeated, new_instance_cells, array_cells, with_object}
use Rattle.vm_store.specs.Laws.{HasContent, CellsHave, IsTypedObject, IsTypedHeap, cell_types, element_types}
use Rattle.vm_store.specs.NewObjects.{NewInstancesAreTyped, NewArraysAreTyped}
use Rattle.vm_store.proofs.Fills.{length-array}

module _ (t : ClassTable) where
  -- ---- what is typed stays typed among more objects

  type-kept : (ks more : List ObjectKind) (c : Cell) (ty : Ty) → HasType t ks c ty → HasType t (ks ++ more) c ty
  type-kept ks more c ty anything = anything
  type-kept ks more c ty (empty r) = empty r
  type-kept ks more c ty short = short
  type-kept ks more c ty high = high
  type-kept ks more c ty low = low
  type-kept ks more c ty (null b) = null b
  type-kept ks more c ty (reference {h = h} {k = k} e b) = reference (slice_get-front ks more h k e) b
  type-kept ks more c ty (fresh {h = h} {c = class} e) = fresh (slice_get-front ks more h (Instance class) e)

  pub cells-kept : (ks more : List ObjectKind) (cs : List Cell) (types : List Ty) → CellsHave t ks cs types → CellsHave t (ks ++ more) cs types
  cells-kept ks more [] [] h = h
  cells-kept ks more [] (ty ∷ types) h = absurd h
  cells-kept ks more (c ∷ cs) [] h = absurd h
  cells-kept ks more (c ∷ cs) (ty ∷ types) h = (type-kept ks more c ty h.0, h.1, cells-kept ks more cs types h.2)

  heap-kept : (ks more : List ObjectKind) (os : List (Object Cell)) → All (IsTypedObject t ks) os → All (IsTypedObject t (ks ++ more)) os
  heap-kept ks more os h = grind (arith, cells-kept, length)

  with-object : (s : State Cell) (kind : ObjectKind) (cs : List Cell) → IsTypedHeap t s
      → ((ks : List ObjectKind) → CellsHave t ks cs (cell_types t kind (length cs))) → IsTypedHeap t (with_object s kind cs)
  with-object s kind cs typed new =
      let o : Object Cell = record { kind = kind; cells = cs } in
      let more : List ObjectKind = kinds s ++ kind ∷ [] in
      let all : All (IsTypedObject t more) (s.heap ++ o ∷ []) =
      All-append (IsTypedObject t more) s.heap (o ∷ []) (heap-kept (kinds s) (kind ∷ []) s.heap typed)
      (All-cons (IsTypedObject t more) o [] (new more) (All-nil (IsTypedObject t more))) in
      subst (λ ks. All (IsTypedObject t ks) (s.heap ++ o ∷ [])) (sym (map-append (λ (x : Object Cell). x.kind) s.heap (o ∷ []))) all

  -- ---- the cells of a new object

  pub have-both : (ks : List ObjectKind) (cs ds : List Cell) (types others : List Ty) → CellsHave t ks cs types → CellsHave t ks ds others
      → CellsHave t ks (cs ++ ds) (types ++ others)
  have-both ks [] ds [] others h g = g
  have-both ks [] ds (ty ∷ types) others h g = absurd h
  have-both ks (c ∷ cs) ds [] others h g = absurd h
  have-both ks (c ∷ cs) ds (ty ∷ types) others h g = (h.0, h.1, have-both ks cs ds types others h.2 g)

  zero-has : (ks : List ObjectKind) (ty : Ty) → IsDeclared t ty → HasType t ks (zero_cell tagged (cell_kind ty)) ty
      × HasContent (zero_cell tagged (cell_kind ty))
  zero-has ks Bottom h = absurd h
  zero-has ks Short h = (short, tt {0})
  zero-has ks IntHigh h = (high, tt {0})
  zero-has ks IntLow h = (low, tt {0})
  zero-has ks Null h = absurd h
  zero-has ks (Class c) h = (null null_object, tt {0})
  zero-has ks ArrBool h = (null (null_array of_booleans), tt {0})
  zero-has ks ArrByte h = (null (null_array of_bytes), tt {0})
  zero-has ks ArrShort h = (null (null_array of_shorts), tt {0})
  zero-has ks ArrInt h = (null (null_array of_ints), tt {0})
  zero-has ks (ArrRef c) h = (null (null_array of_references), tt {0})
  zero-has ks (Fresh p c) h = absurd h
  zero-has ks Top h = absurd h

  zeros : List Ty → List Cell
  zeros types = map (λ ty. zero_cell tagged (cell_kind ty)) types

  zeros-have : (ks : List ObjectKind) (types : List Ty) → All (IsDeclared t) types → CellsHave t ks (zeros types) types
  unfolding zeros
  zeros-have ks [] h = tt {0}
  zeros-have ks (ty ∷ types) h =
      let z = zero-has ks ty (All-head (IsDeclared t) ty types h) in
      (z.0, z.1, zeros-have ks types (All-tail (IsDeclared t) ty types h))

  -- ---- instances

  own_by : (packages : ℕ) (methods : List MethodRec) (c : ℕ) (o : Option ClassRec) → IfSome o (IsLinkedClass packages t methods c)
      → All (IsDeclared t) (of_record [] (λ r. r.own) o)
  own_by packages methods c x linked = grind (arith)

  own-declared : (packages : ℕ) (methods : List MethodRec) → AreLinkedClasses packages t methods → (c : ℕ) → All (IsDeclared t) (own_cells t c)
  unfolding own_cells
  own-declared packages methods linked c = own_by packages methods c (slice_get t.records c) (linked c)

  all-declared : (packages : ℕ) (methods : List MethodRec) → AreLinkedClasses packages t methods → (cs : List ℕ)
      → All (IsDeclared t) (flat_map (own_cells t) cs)
  all-declared packages methods linked [] = All-nil (IsDeclared t)
  all-declared packages methods linked (c ∷ cs) =
      subst (All (IsDeclared t)) (sym (flat_map-cons (own_cells t) c cs))
      (All-append (IsDeclared t) (own_cells t c) (flat_map (own_cells t) cs) (own-declared packages methods linked c) (all-declared packages methods linked cs))

  instance-has : (packages : ℕ) (methods : List MethodRec) → AreLinkedClasses packages t methods → (ks : List ObjectKind) (c : ℕ)
      → CellsHave t ks (new_instance_cells tagged t c) (cells_of t c)
  unfolding zeros cells_of
  instance-has packages methods linked ks c = zeros-have ks (cells_of t c) (all-declared packages methods linked (reverse (chain t c)))

  pub new-instances : (packages : ℕ) (methods : List MethodRec) → AreLinkedClasses packages t methods → NewInstancesAreTyped t
  new-instances packages methods linked s c typed class =
      with-object s (Instance c) (new_instance_cells tagged t c) typed (λ ks. instance-has packages methods linked ks c)

  -- ---- arrays

  element-has : (ks : List ObjectKind) (kind : ObjectKind) → IsArrayKind kind → CellsHave t ks (map (zero_cell tagged) (element_cells kind))
      (element_types t kind)
  element-has ks (Instance c) h = absurd h
  element-has ks Ints h = (high, tt {0}, (low, tt {0}, tt {0}))
  element-has ks (References c) h = (null null_object, tt {0}, tt {0})
  element-has ks kind h = (short, tt {0}, tt {0})

  repeated-has : (ks : List ObjectKind) (n : ℕ) (cs : List Cell) (types : List Ty) → CellsHave t ks cs types
      → CellsHave t ks (repeated n cs) (repeated n types)
  repeated-has ks zero cs types h = tt {0}
  repeated-has ks (suc n) cs types h = have-both ks cs (repeated n cs) types (repeated n types) h (repeated-has ks n cs types h)

  counted : (ks : List ObjectKind) (cs : List Cell) (types : List Ty) (n count : ℕ) → count ≡ n → CellsHave t ks cs (repeated count types)
      → CellsHave t ks cs (repeated n types)
  counted ks cs types n count e h = subst (λ k. CellsHave t ks cs (repeated k types)) e h

  halved : (n count : ℕ) → n ≡ 2 * count → count ≡ n / 2
  halved n count e = sym (ap (λ k. k / 2) e ∙ mul-div_cancel_left count {n = 2} (lit< tt))

  array-has : (ks : List ObjectKind) (kind : ObjectKind) (count : ℕ) → IsArrayKind kind
      → CellsHave t ks (array_cells tagged kind count) (cell_types t kind (length (array_cells tagged kind count)))
  array-has ks (Instance c) count h = absurd h
  array-has ks Ints count h =
      counted ks (array_cells tagged Ints count) (element_types t Ints) (length (array_cells tagged Ints count) / 2) count
      (halved (length (array_cells tagged Ints count)) count (length-array tagged Ints count))
      (repeated-has ks count (map (zero_cell tagged) (element_cells Ints)) (element_types t Ints) (element-has ks Ints h))
  array-has ks kind count h =
      counted ks (array_cells tagged kind count) (element_types t kind) (length (array_cells tagged kind count)) count
      (omega (arith, length-array tagged kind count))
      (repeated-has ks count (map (zero_cell tagged) (element_cells kind)) (element_types t kind) (element-has ks kind h))

  pub new-arrays : NewArraysAreTyped t
  new-arrays s kind count typed array = with-object s kind (array_cells tagged kind count) typed (λ ks. array-has ks kind count array)
