-- The sizes of a state in which a run begins.
use Rattle.std.proofs.Common.{◌≡◌, ◌≤◌, ◌+◌, ◌-◌, ℕ, List, [], ◌∷◌, ◌++◌, length, map, refl, sym, ap, ◌∙◌, arith}
use Rattle.std.proofs.Common.{None, length-append}
use Rattle.std.specs.Prelude.{All, sum_by, flat_map, slice_get, replicate}
use Rattle.std.proofs.lemmas.List.{length-replicate}
use Rattle.std.proofs.lemmas.List.Sums.{sum_by-cons}
use Rattle.std.proofs.lemmas.List.Elements.{All-head, All-tail, All-push, All-map, All-weaker}
use Rattle.jc_base.specs.declared.ty.Ty.{Ty}
use Rattle.jc_base.specs.declared.ty.Ty.TheVariants as types
use Rattle.jc_base.specs.declared.record.MethodRec.{MethodRec}
use Rattle.jc_base.specs.declared.record.StaticRec.{StaticRec}
use Rattle.jc_base.specs.declared.record.ArrayRec.{ArrayRec}
use Rattle.jc_base.specs.Class.{ClassTable}
use Rattle.jc_base.specs.Cell.{width, AreElementsOf}
use Rattle.jc_base.specs.Linked.{IsMethod, IsStatic}
use Rattle.jc_base.specs.World.{Linked, IsWorld}
use Rattle.jc_base.proofs.Lists.{All-slice_get}
use Rattle.vm_store.specs.Cells.{Cells}
use Rattle.vm_store.specs.State.{State, Object, register_count, register_count_of}
use Rattle.vm_step.specs.Objects.{kind_of_type}
use Rattle.vm_step.specs.Methods.{of_method}
use Rattle.vm_step.specs.Arguments.{Argument, number, null, bytes}
use Rattle.vm_step.specs.Start.{field_cells, initial, initial_object, with_arrays, cells_handed, parameters, start_fault, entry_state}
use Rattle.vm_run.specs.Sized.{IsOfNumbers, HasEntrySizes}
use Rattle.vm_run.proofs.Sums.{there-inside}
use Rattle.vm_run.proofs.Fields.{field-size, words-size}
use Rattle.vm_run.proofs.Handing.{handed-size}
use Rattle.vm_run.proofs.Beginning.{Takes, takes}

statics-size : {A : Type 0} (k : Cells A) (packages : ℕ) (t : ClassTable) (arrays : List ArrayRec) (fs : List StaticRec)
    → All (IsStatic packages t arrays) fs
    → length (flat_map (λ (f : StaticRec). field_cells k f.kind f.initial) fs) ≡ sum_by (λ (f : StaticRec). width f.kind) fs
statics-size k packages t arrays [] all = refl
statics-size k packages t arrays (f ∷ fs) all =
    let here = All-head (IsStatic packages t arrays) f fs all in
    let own = field-size k f.kind f.initial (words-size t arrays f.kind f.ty f.initial here.words) in
    let rest = statics-size k packages t arrays fs (All-tail (IsStatic packages t arrays) f fs all) in
    length-append (field_cells k f.kind f.initial) (flat_map (λ (r : StaticRec). field_cells k r.kind r.initial) fs)
    ∙ omega (arith, own, rest, sum_by-cons (λ (r : StaticRec). width r.kind) f fs)

numbers-kind : (a : ArrayRec) → AreElementsOf a.kind a.initial → IsOfNumbers (kind_of_type a.kind)
numbers-kind a h = go a.kind h where
  go : (ty : Ty) → AreElementsOf ty a.initial → IsOfNumbers (kind_of_type ty)
  go types.ArrBool e = tt {0}
  go types.ArrByte e = tt {0}
  go types.ArrShort e = tt {0}
  go types.ArrInt e = tt {0}
  go _ e = absurd e

module _ {A : Type 0} (k : Cells A) where
  initial-numbers : (xs : List ArrayRec) → All (λ a. AreElementsOf a.kind a.initial) xs
      → All (λ (o : Object A). IsOfNumbers o.kind) (map (initial_object k) xs)
  initial-numbers xs all =
      All-map (λ (o : Object A). IsOfNumbers o.kind) (initial_object k) xs
      (All-weaker (λ a. AreElementsOf a.kind a.initial) (λ a. IsOfNumbers (kind_of_type a.kind)) (λ a h. numbers-kind a h) xs all)

  arrays-numbers : (args : List Argument) (s : State A) → All (λ (o : Object A). IsOfNumbers o.kind) s.heap
      → All (λ (o : Object A). IsOfNumbers o.kind) (with_arrays k args s).heap
  arrays-numbers [] s all = all
  arrays-numbers (number n ∷ args) s all = arrays-numbers args s all
  arrays-numbers (null ∷ args) s all = arrays-numbers args s all
  arrays-numbers (bytes bs ∷ args) s all = arrays-numbers args _ (All-push (λ (o : Object A). IsOfNumbers o.kind) s.heap _ all (tt {0}))

  arrays-statics : (args : List Argument) (s : State A) → (with_arrays k args s).statics ≡ s.statics
  arrays-statics [] s = refl
  arrays-statics (number n ∷ args) s = arrays-statics args s
  arrays-statics (null ∷ args) s = arrays-statics args s
  arrays-statics (bytes bs ∷ args) s = arrays-statics args _

  filled : (n : ℕ) (cells : List A) → length cells ≤ n → length (cells ++ replicate (n - length cells) k.empty) ≡ n
  filled n cells le = length-append cells (replicate (n - length cells) k.empty) ∙ omega (arith, length-replicate (n - length cells) k.empty)

  sized-by : (w : Linked) → IsWorld w → (entry : ℕ) (args : List Argument) (m : MethodRec) → Takes w entry args m
      → HasEntrySizes w entry (entry_state k w entry args)
  sized-by w is entry args m t =
      let method : IsMethod w.infos w.pools w.classes m = All-slice_get (IsMethod w.infos w.pools w.classes) w.methods entry m is.methods t.is in
      let handed = handed-size k 0 (length w.arrays) args method.whole t.count t.fit in
      let types : parameters m ≡ of_method [] parameters (slice_get w.methods entry) = sym (ap (of_method [] parameters) t.is) in
      let cells = cells_handed k (length w.arrays) args (of_method [] parameters (slice_get w.methods entry)) in
      let size : length cells ≡ length m.sig.args = ap (λ (ts : List Ty). length (cells_handed k (length w.arrays) args ts)) (sym types) ∙ handed in
      let count : register_count w.methods entry ≡ m.nargs + m.max_locals = ap register_count_of t.is in
      record {
        known = there-inside w.methods entry m t.is;
        registers = filled (register_count w.methods entry) cells (omega (arith, size, count, method.words));
        objects = arrays-numbers args (initial k w) (initial-numbers w.arrays is.arrays);
        statics = ap length (arrays-statics args (initial k w)) ∙ statics-size k (length w.infos) w.classes w.arrays w.statics is.statics;
      }

  pub sized : (w : Linked) → IsWorld w → (entry : ℕ) (args : List Argument) → start_fault w entry args ≡ None
      → HasEntrySizes w entry (entry_state k w entry args)
  sized w is entry args none = let t = takes w entry args none in sized-by w is entry args t.0 t.1
