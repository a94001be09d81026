-- What an operation comes to over bare words is what it comes to over tagged cells, without their kinds.
use Rattle.std.proofs.Common.{◌≡◌, ℕ, zero, suc, ◌+◌, ◌<◌, ◌*◌, ◌/◌, ◌==◌, Bool, true, false, if◌then◌else◌, List}
use Rattle.std.proofs.Common.{[], ◌∷◌, ◌++◌, length, map, reverse, take, drop, set, refl, sym, ap, ◌∙◌, arith}
use Rattle.std.specs.Prelude.{ℤ, pos, negsuc, Option, Some, None, slice_get}
use Rattle.std.specs.Int.{w16, w32, int_wrapping_add}
use Rattle.std.proofs.lemmas.List.{map-append, take-map, drop-map, map-set, length-map}
use Rattle.jc_base.specs.declared.ty.Ty.{Ty}
use Rattle.jc_base.specs.declared.ty.Ty.TheVariants.{Short, Top}
use Rattle.jc_base.specs.declared.ty.Kind.{Kind}
use Rattle.jc_base.specs.declared.ty.Kind.TheVariants as fields
use Rattle.jc_base.specs.Class.{ClassTable}
use Rattle.jc_base.specs.Cell.{width}
use Rattle.jc_base.specs.World.{Linked}
use Rattle.jc_decode.specs.declared.insn.Insn.{Insn}
use Rattle.jc_ops.specs.declared.operation.Want.{Want}
use Rattle.jc_ops.specs.declared.operation.Sameness.{Sameness}
use Rattle.jc_ops.specs.declared.operation.StaticField.{StaticField}
use Rattle.jc_ops.specs.declared.operation.Sort.TheVariants as sorts
use Rattle.jc_ops.specs.declared.operation.Sort.{Sort}
use Rattle.jc_ops.specs.declared.operation.Width.{Width}
use Rattle.jc_ops.specs.declared.operation.Width.TheVariants as widths
use Rattle.jc_ops.specs.declared.operation.Constant.{Constant}
use Rattle.jc_ops.specs.declared.operation.Constant.TheVariants as constants
use Rattle.jc_ops.specs.declared.operation.Move.{Move}
use Rattle.jc_ops.specs.declared.operation.Move.TheVariants as moves
use Rattle.jc_ops.specs.declared.operation.Arithmetic.{Arithmetic}
use Rattle.jc_ops.specs.declared.operation.Arithmetic.TheVariants as arithmetic
use Rattle.jc_ops.specs.declared.operation.Branch.{Branch}
use Rattle.jc_ops.specs.declared.operation.Branch.TheVariants as branches
use Rattle.jc_ops.specs.declared.operation.Holder.{Holder}
use Rattle.jc_ops.specs.declared.operation.Holder.TheVariants as holders
use Rattle.jc_ops.specs.declared.operation.InstanceField.{InstanceField}
use Rattle.jc_ops.specs.declared.operation.Choice.{Choice}
use Rattle.jc_ops.specs.declared.operation.Choice.TheVariants as choices
use Rattle.jc_ops.specs.declared.operation.Callee.{Callee}
use Rattle.jc_ops.specs.declared.operation.TypeTest.TheVariants as tests
use Rattle.jc_ops.specs.declared.operation.TypeTest.{TypeTest}
use Rattle.jc_ops.specs.declared.operation.Operation.{Operation}
use Rattle.jc_ops.specs.declared.operation.Operation.TheVariants as ops
use Rattle.vm_arithmetic.specs.Arithmetic.{int_to_short, high_word, low_word, int_of_words}
use Rattle.vm_arithmetic.specs.Arithmetic.{short_of_word}
use Rattle.vm_store.specs.declared.cell.Cell.{Cell}
use Rattle.vm_store.specs.declared.cell.Cell.TheVariants as cells
use Rattle.vm_store.specs.declared.cell.CellKind.{CellKind}
use Rattle.vm_store.specs.declared.cell.CellKind.TheVariants as made
use Rattle.vm_store.specs.declared.cell.ObjectKind.{ObjectKind}
use Rattle.vm_store.specs.Kind.{kind_of_handle, element_width}
use Rattle.vm_store.specs.Cells.{tagged, words, word_of, made_ready}
use Rattle.vm_store.specs.State.{State, Frame, Object, map_frame, map_object, erased, nth, rotated}
use Rattle.vm_store.specs.Objects.{object_cells}
use Rattle.vm_store.specs.Value.{value_in, value_on, kept_value, with_object_value, with_static_value}
use Rattle.vm_store.specs.Erasing.{ReadsErased, ObjectsErase, CellsErase}
use Rattle.vm_store.proofs.CellTypes.{words-erase}
use Rattle.vm_store.proofs.Erasing.{states-erase, reverse-erased}
use Rattle.vm_step.specs.declared.ending.Value.TheVariants as values
use Rattle.vm_step.specs.declared.ending.Exception.{Exception}
use Rattle.vm_step.specs.declared.ending.Exception.TheVariants as exceptions
use Rattle.vm_step.specs.Act.{Act, goes, raises, throws, unless_null, if_some}
use Rattle.vm_step.specs.Methods.{code_at}
use Rattle.vm_step.specs.Values.{with_constant, with_load, with_store, incremented, with_increment, moved, computed, arithmetic_act}
use Rattle.vm_step.specs.Branching.{is_same, is_taken, leads_if, branch_act, switch_act}
use Rattle.vm_step.specs.Fields.{with_static_read, with_static_write, held_handle, with_field_read, field_read_act}
use Rattle.vm_step.specs.Fields.{field_write_act, element_count_in, elements_of, element_index, at_element, array_read_act, keeps_kind}
use Rattle.vm_step.specs.Fields.{with_element, array_write_act, array_length_act}
use Rattle.vm_step.specs.Objects.{new_act, kind_of_type, array_of_count, new_array_act, throw_act, kind_passes, passes, type_test_act}
use Rattle.vm_step.specs.Calls.{class_with_methods, class_of, made_at, readied, with_ready, served_act, interface_act, chosen_act, args_of, return_act}
use Rattle.vm_step.specs.Performed.{act}
use Rattle.vm_step.specs.Numbers.{handle_at, short_at, number_on, number_cells, dropped, replaced}
use Rattle.law_erasure.specs.Erasure.{erased_act, ActsErase}

-- ---- what may be thrown

null-erased : (h : ℕ) (a : ℕ → Act Cell) (b : ℕ → Act ℕ) → b h ≡ erased_act (a h) → unless_null h b ≡ erased_act (unless_null h a)
null-erased h a b e = go (h == 0)
  where
    go : (x : Bool) → (if x then raises exceptions.NullPointer else b h) ≡ erased_act (if x then raises exceptions.NullPointer else a h)
    go true = refl
    go false = e

some-erased : {X : Type 0} (exception : Exception) (o : Option X) (a : X → Act Cell) (b : X → Act ℕ) → ((x : X) → b x ≡ erased_act (a x))
    → if_some exception o b ≡ erased_act (if_some exception o a)
some-erased exception x a b e = grind (arith)

module _ (w : Linked) (f : Frame Cell) (below : List (Frame Cell)) (heap : List (Object Cell)) (statics : List Cell) where
  -- the state of words with other registers and another stack on top
  abbrev framed : List ℕ → List ℕ → State ℕ
  framed registers stack =
      record {
        frames = record { method = f.method; place = f.place; registers = registers; stack = stack } ∷ map (map_frame word_of) below;
        heap = map (map_object word_of) heap;
        statics = map word_of statics;
      }

  reads : ReadsErased (record { frames = f ∷ below; heap = heap; statics = statics })
  reads = ((states-erase w.methods w.classes).0 (record { frames = f ∷ below; heap = heap; statics = statics })).0

  of-cells : CellsErase w.classes
  of-cells = (states-erase w.methods w.classes).1

  -- ---- what cells hold

  word-at : (cs : List Cell) (n : ℕ) → nth words (map word_of cs) n ≡ word_of (nth tagged cs n)
  word-at cs n = sym (of-cells.cell cs n)

  short-is : (cs : List Cell) (n : ℕ) → short_at words (map word_of cs) n ≡ short_at tagged cs n
  short-is cs n = ap short_of_word (word-at cs n)

  int-is : (cs : List Cell) (m n : ℕ) → int_of_words (nth words (map word_of cs) m) (nth words (map word_of cs) n)
      ≡ int_of_words (word_of (nth tagged cs m)) (word_of (nth tagged cs n))
  int-is cs m n = ap (λ a. int_of_words a (nth words (map word_of cs) n)) (word-at cs m) ∙ ap (int_of_words (word_of (nth tagged cs m))) (word-at cs n)

  number-is : (width : Width) (cs : List Cell) → number_on words width (map word_of cs) ≡ number_on tagged width cs
  number-is x cs = grind (arith, short-is, int-is)

  -- ---- states

  dropped-is : (n : ℕ) → dropped (erased (record { frames = f ∷ below; heap = heap; statics = statics })) n
      ≡ erased (dropped (record { frames = f ∷ below; heap = heap; statics = statics }) n)
  dropped-is n = ap (framed (map word_of f.registers)) (drop-map word_of n f.stack)

  replaced-is :
      (count : ℕ) (value : List Cell) (other : List ℕ) → map word_of value ≡ other
      → replaced (erased (record { frames = f ∷ below; heap = heap; statics = statics })) count other
      ≡ erased (replaced (record { frames = f ∷ below; heap = heap; statics = statics }) count value)
  replaced-is count value other e = grind (arith, map, reverse, drop, reverse-erased, drop-map, map-append)

  numbers-are : (width : Width) (n : ℤ) → map word_of (number_cells tagged width n) ≡ number_cells words width n
  numbers-are x n = grind (arith)

  number-replaced : (count : ℕ) (width : Width) (n m : ℤ) → n ≡ m
      → goes (replaced (erased (record { frames = f ∷ below; heap = heap; statics = statics })) count (number_cells words width n))
      ≡ goes (erased (replaced (record { frames = f ∷ below; heap = heap; statics = statics }) count (number_cells tagged width m)))
  number-replaced count width n m e = grind (arith, replaced-is, numbers-are)

  -- ---- constants and registers

  constant-is : (c : Constant) → with_constant words c (erased (record { frames = f ∷ below; heap = heap; statics = statics }))
      ≡ erased (with_constant tagged c (record { frames = f ∷ below; heap = heap; statics = statics }))
  constant-is x = grind (arith)

  loaded-is : (kind : CellKind) (x : ℕ) → nth words (map word_of f.registers) x ≡ word_of (tagged.loaded kind (nth tagged f.registers x))
  loaded-is kind x = word-at f.registers x ∙ sym (words-erase.loaded kind (nth tagged f.registers x))

  load-is : (sort : Sort) (x : ℕ) → with_load words sort x (erased (record { frames = f ∷ below; heap = heap; statics = statics }))
      ≡ erased (with_load tagged sort x (record { frames = f ∷ below; heap = heap; statics = statics }))
  load-is sorts.Reference x = ap (λ c. framed (map word_of f.registers) (c ∷ map word_of f.stack)) (loaded-is made.Reference x)
  load-is sorts.Short x = ap (λ c. framed (map word_of f.registers) (c ∷ map word_of f.stack)) (loaded-is made.Short x)
  load-is sorts.Int x = grind (arith, map word_of f.registers, map word_of f.stack, loaded-is made.Low (x + 1), loaded-is made.High x)

  set-is : (rs : List Cell) (x : ℕ) (n : ℕ) (c : Cell) → n ≡ word_of c → set (map word_of rs) x n ≡ map word_of (set rs x c)
  set-is rs x n c e = ap (set (map word_of rs) x) e ∙ sym (map-set word_of rs x c)

  one-stored : (x taken : ℕ) (n : ℕ) (c : Cell) → n ≡ word_of c
      → framed (set (map word_of f.registers) x n) (drop taken (map word_of f.stack))
      ≡ framed (map word_of (set f.registers x c)) (map word_of (drop taken f.stack))
  one-stored x taken n c e = grind (arith, drop, map, set-is, set, drop-map)

  two-stored : (x taken m n : ℕ) (c d : Cell) → m ≡ word_of c → n ≡ word_of d
      → framed (set (set (map word_of f.registers) x m) (x + 1) n) (drop taken (map word_of f.stack))
      ≡ framed (map word_of (set (set f.registers x c) (x + 1) d)) (map word_of (drop taken f.stack))
  two-stored x taken m n c d e g =
      ap (λ rs. framed rs (drop taken (map word_of f.stack)))
      (ap (λ rs. set rs (x + 1) n) (set-is f.registers x m c e) ∙ set-is (set f.registers x c) (x + 1) n d g)
      ∙ ap (framed (map word_of (set (set f.registers x c) (x + 1) d))) (drop-map word_of taken f.stack)

  store-is : (sort : Sort) (x : ℕ) → with_store words sort x (erased (record { frames = f ∷ below; heap = heap; statics = statics }))
      ≡ erased (with_store tagged sort x (record { frames = f ∷ below; heap = heap; statics = statics }))
  store-is sorts.Reference x = one-stored x 1 (nth words (map word_of f.stack) 0) (nth tagged f.stack 0) (word-at f.stack 0)
  store-is sorts.Short x = one-stored x 1 (nth words (map word_of f.stack) 0) (nth tagged f.stack 0) (word-at f.stack 0)
  store-is sorts.Int x =
      two-stored x 2 (nth words (map word_of f.stack) 1) (nth words (map word_of f.stack) 0) (nth tagged f.stack 1) (nth tagged f.stack 0)
      (word-at f.stack 1) (word-at f.stack 0)

  increment-is : (width : Width) (x : ℕ) (amount : ℤ)
      → with_increment words width x amount (erased (record { frames = f ∷ below; heap = heap; statics = statics }))
      ≡ erased (with_increment tagged width x amount (record { frames = f ∷ below; heap = heap; statics = statics }))
  increment-is widths.Short x amount =
      let e : incremented words widths.Short (map word_of f.registers) x amount ≡ incremented tagged widths.Short f.registers x amount =
      ap (λ n. int_wrapping_add w16 n (int_to_short amount)) (short-is f.registers x) in
      one-stored x 0 (words.short (incremented words widths.Short (map word_of f.registers) x amount))
      (cells.Short (incremented tagged widths.Short f.registers x amount)) (ap words.short e)
  increment-is widths.Int x amount =
      let e : incremented words widths.Int (map word_of f.registers) x amount ≡ incremented tagged widths.Int f.registers x amount =
      ap (λ n. int_wrapping_add w32 n amount) (int-is f.registers x (x + 1)) in
      let n = incremented tagged widths.Int f.registers x amount in
      two-stored x 0 (high_word (incremented words widths.Int (map word_of f.registers) x amount))
      (low_word (incremented words widths.Int (map word_of f.registers) x amount))
      (cells.High (high_word n)) (cells.Low (low_word n)) (ap high_word e) (ap low_word e)

  -- ---- moves

  copied-is : (copied under : ℕ) (cs : List Cell)
      → take under (map word_of cs) ++ (take copied (map word_of cs) ++ drop under (map word_of cs))
      ≡ map word_of (take under cs ++ (take copied cs ++ drop under cs))
  copied-is copied under cs = grind (arith, take, map, drop, take-map, drop-map, map-append)

  rotated-is : (count by : ℕ) (cs : List Cell) → rotated count by (map word_of cs) ≡ map word_of (rotated count by cs)
  rotated-is count by cs = grind (arith, drop, take, map, take-map, drop-map, map-append)

  moved-is : (m : Move) (cs : List Cell) → moved m (map word_of cs) ≡ map word_of (moved m cs)
  moved-is x cs = grind (arith, drop-map, copied-is, rotated-is)

  -- ---- arithmetic

  computed-is : (width : Width) (taken : ℕ) (o p : Option ℤ) → o ≡ p
      → computed words width (erased (record { frames = f ∷ below; heap = heap; statics = statics })) taken o
      ≡ erased_act (computed tagged width (record { frames = f ∷ below; heap = heap; statics = statics }) taken p)
  computed-is width taken o p e = grind (arith, some-erased, number-replaced)

  arithmetic-is : (a : Arithmetic)
      → arithmetic_act words a (erased (record { frames = f ∷ below; heap = heap; statics = statics }))
      ≡ erased_act (arithmetic_act tagged a (record { frames = f ∷ below; heap = heap; statics = statics }))
  arithmetic-is x = grind (arith, computed-is, map, short-is, int-is, number-replaced)

  -- ---- branches

  same-handles : (e : Sameness) (cs : List Cell) (n : ℕ) → is_same e (handle_at words (map word_of cs) n) 0 ≡ is_same e (handle_at tagged cs n) 0
  same-handles e cs n = ap (λ h. is_same e h 0) (word-at cs n)

  taken-is : (b : Branch) (cs : List Cell) → is_taken words b (map word_of cs) ≡ is_taken tagged b cs
  taken-is x cs = grind (arith, short-is, same-handles, map, word-at)

  leads-is : (taken : Bool) (to : ℤ) (n : ℕ)
      → leads_if taken to (dropped (erased (record { frames = f ∷ below; heap = heap; statics = statics })) n)
      ≡ erased_act (leads_if taken to (dropped (record { frames = f ∷ below; heap = heap; statics = statics }) n))
  leads-is x to n = grind (arith, dropped-is)

  branch-is : (i : Insn) (b : Branch)
      → branch_act words i b (erased (record { frames = f ∷ below; heap = heap; statics = statics }))
      ≡ erased_act (branch_act tagged i b (record { frames = f ∷ below; heap = heap; statics = statics }))
  branch-is i b = grind (arith, taken-is, leads-is)

  switch-is : (code : List ℕ) (i : Insn) (width : Width)
      → switch_act words code i width (erased (record { frames = f ∷ below; heap = heap; statics = statics }))
      ≡ erased_act (switch_act tagged code i width (record { frames = f ∷ below; heap = heap; statics = statics }))
  switch-is code i width = grind (arith, number-is, dropped-is)

  -- ---- fields

  static-read-is : (fd : StaticField)
      → with_static_read words fd (erased (record { frames = f ∷ below; heap = heap; statics = statics }))
      ≡ erased (with_static_read tagged fd (record { frames = f ∷ below; heap = heap; statics = statics }))
  static-read-is fd = grind (arith, replaced-is, map, of-cells)

  kept-is : (kind : Kind) → map word_of (kept_value tagged kind (value_on tagged kind f.stack)) ≡ kept_value words kind
      (value_on words kind (map word_of f.stack))
  kept-is kind = of-cells.stored kind (value_on tagged kind f.stack) ∙ ap (kept_value words kind) (of-cells.popped kind f.stack)

  objects-of : (z : State Cell) → ObjectsErase z
  objects-of z = ((states-erase w.methods w.classes).0 z).2

  static-write-is : (fd : StaticField)
      → with_static_write words fd (erased (record { frames = f ∷ below; heap = heap; statics = statics }))
      ≡ erased (with_static_write tagged fd (record { frames = f ∷ below; heap = heap; statics = statics }))
  static-write-is fd =
      let z : State Cell = dropped (record { frames = f ∷ below; heap = heap; statics = statics }) (width fd.kind) in
      ap (λ x. with_static_value x fd.slot (kept_value words fd.kind (value_on words fd.kind (map word_of f.stack)))) (dropped-is (width fd.kind))
      ∙ (ap (with_static_value (erased z) fd.slot) (sym (kept-is fd.kind))
      ∙ sym ((objects-of z).static_value fd.slot (kept_value tagged fd.kind (value_on tagged fd.kind f.stack))))

  held-is : (holder : Holder) (under : ℕ)
      → held_handle words holder under (erased (record { frames = f ∷ below; heap = heap; statics = statics })) ≡ held_handle tagged holder under
      (record { frames = f ∷ below; heap = heap; statics = statics })
  held-is x under = grind (arith, word-at)

  read-is : (kind : Kind) (h i : ℕ)
      → map word_of (value_in tagged kind (object_cells (record { frames = f ∷ below; heap = heap; statics = statics }) h) i)
      ≡ value_in words kind (object_cells (erased (record { frames = f ∷ below; heap = heap; statics = statics })) h) i
  read-is kind h i = grind (arith, of-cells, reads)

  field-read-is : (fd : InstanceField) (holder : Holder) (h : ℕ)
      → with_field_read words fd holder h (erased (record { frames = f ∷ below; heap = heap; statics = statics }))
      ≡ erased (with_field_read tagged fd holder h (record { frames = f ∷ below; heap = heap; statics = statics }))
  field-read-is fd holders.Stack h =
      replaced-is 1 (value_in tagged fd.kind (object_cells (record { frames = f ∷ below; heap = heap; statics = statics }) h) fd.cell) _
      (read-is fd.kind h fd.cell)
  field-read-is fd holders.This h =
      replaced-is 0 (value_in tagged fd.kind (object_cells (record { frames = f ∷ below; heap = heap; statics = statics }) h) fd.cell) _
      (read-is fd.kind h fd.cell)

  field-read-act-is : (fd : InstanceField) (holder : Holder)
      → field_read_act words fd holder (erased (record { frames = f ∷ below; heap = heap; statics = statics }))
      ≡ erased_act (field_read_act tagged fd holder (record { frames = f ∷ below; heap = heap; statics = statics }))
  field-read-act-is fd holder = grind (arith, held-is, null-erased, field-read-is)

  -- a value on top of the stack goes into an object
  written-is : (taken h i : ℕ) (kind : Kind)
      → with_object_value (dropped (erased (record { frames = f ∷ below; heap = heap; statics = statics })) taken) h i
      (kept_value words kind (value_on words kind (map word_of f.stack)))
      ≡ erased
      (with_object_value (dropped (record { frames = f ∷ below; heap = heap; statics = statics }) taken) h i
      (kept_value tagged kind (value_on tagged kind f.stack)))
  written-is taken h i kind =
      let z : State Cell = dropped (record { frames = f ∷ below; heap = heap; statics = statics }) taken in
      ap (λ x. with_object_value x h i (kept_value words kind (value_on words kind (map word_of f.stack)))) (dropped-is taken)
      ∙ (ap (with_object_value (erased z) h i) (sym (kept-is kind))
      ∙ sym ((objects-of z).value h i (kept_value tagged kind (value_on tagged kind f.stack))))

  field-write-act-is : (fd : InstanceField) (holder : Holder)
      → field_write_act words fd holder (erased (record { frames = f ∷ below; heap = heap; statics = statics }))
      ≡ erased_act (field_write_act tagged fd holder (record { frames = f ∷ below; heap = heap; statics = statics }))
  field-write-act-is fd holder = grind (arith, held-is, null-erased, written-is)

  -- ---- arrays

  counted-is : (os : List (Object Cell)) (h : ℕ) → element_count_in (slice_get (map (map_object word_of) os) h) ≡ element_count_in (slice_get os h)
  counted-is [] h = refl
  counted-is (o ∷ os) zero = ap (λ n. n / element_width o.kind) (length-map o.cells word_of)
  counted-is (o ∷ os) (suc h) = counted-is os h

  elements-are : (h : ℕ) → elements_of (erased (record { frames = f ∷ below; heap = heap; statics = statics })) h
      ≡ elements_of (record { frames = f ∷ below; heap = heap; statics = statics }) h
  elements-are zero = refl
  elements-are (suc h) = counted-is heap h

  array-read-is : (kind : Kind)
      → array_read_act words kind (erased (record { frames = f ∷ below; heap = heap; statics = statics }))
      ≡ erased_act (array_read_act tagged kind (record { frames = f ∷ below; heap = heap; statics = statics }))
  array-read-is kind =
      let s : State Cell = record { frames = f ∷ below; heap = heap; statics = statics } in
      let h : ℕ = handle_at tagged f.stack 1 in
      let x : ℤ = short_at tagged f.stack 0 in
      let a : ℕ → ℕ → Act Cell = λ n i. goes (replaced s 2 (value_in tagged kind (object_cells s n) (i * width kind))) in
      let b : ℕ → ℕ → Act ℕ = λ n i. goes (replaced (erased s) 2 (value_in words kind (object_cells (erased s) n) (i * width kind))) in
      ap (λ n. unless_null n (λ k. at_element (short_at words (map word_of f.stack) 0) (elements_of (erased s) k) (b k))) (word-at f.stack 1)
      ∙ null-erased h (λ k. at_element x (elements_of s k) (a k))
      (λ k. at_element (short_at words (map word_of f.stack) 0) (elements_of (erased s) k) (b k))
      (ap (λ z. at_element z (elements_of (erased s) h) (b h)) (short-is f.stack 0)
      ∙ (ap (λ n. at_element x n (b h)) (elements-are h)
      ∙ some-erased exceptions.ArrayIndex (element_index x (elements_of s h)) (a h) (b h)
      (λ i. ap goes (replaced-is 2 (value_in tagged kind (object_cells s h) (i * width kind)) _ (read-is kind h (i * width kind))))))

  keeps-is : (t : ClassTable) (kind : Kind) (h : ℕ)
      → keeps_kind words t kind (erased (record { frames = f ∷ below; heap = heap; statics = statics })) h ≡ keeps_kind tagged t kind
      (record { frames = f ∷ below; heap = heap; statics = statics }) h
  keeps-is t x h = grind (arith, word-at, reads)

  kept-or-raised : (keep : Bool) (a : State Cell) (b : State ℕ) → b ≡ erased a
      → ◌≡◌ {A = Act ℕ} (if keep then goes b else raises exceptions.ArrayStore) (erased_act (if keep then goes a else raises exceptions.ArrayStore))
  kept-or-raised x a b e = grind (arith)

  array-write-is : (t : ClassTable) (kind : Kind)
      → array_write_act words t kind (erased (record { frames = f ∷ below; heap = heap; statics = statics }))
      ≡ erased_act (array_write_act tagged t kind (record { frames = f ∷ below; heap = heap; statics = statics }))
  array-write-is t kind =
      let s : State Cell = record { frames = f ∷ below; heap = heap; statics = statics } in
      let h : ℕ = handle_at tagged f.stack (width kind + 1) in
      let x : ℤ = short_at tagged f.stack (width kind) in
      let a : ℕ → ℕ → Act Cell = λ n i. if keeps_kind tagged t kind s n then goes (with_element tagged kind n i s) else raises exceptions.ArrayStore in
      let b : ℕ → ℕ → Act ℕ = λ n i. if keeps_kind words t kind (erased s) n then goes (with_element words kind n i (erased s)) else raises
      exceptions.ArrayStore in
      ap (λ n. unless_null n (λ k. at_element (short_at words (map word_of f.stack) (width kind)) (elements_of (erased s) k) (b k)))
      (word-at f.stack (width kind + 1))
      ∙ null-erased h (λ k. at_element x (elements_of s k) (a k))
      (λ k. at_element (short_at words (map word_of f.stack) (width kind)) (elements_of (erased s) k) (b k))
      (ap (λ z. at_element z (elements_of (erased s) h) (b h)) (short-is f.stack (width kind))
      ∙ (ap (λ n. at_element x n (b h)) (elements-are h)
      ∙ some-erased exceptions.ArrayIndex (element_index x (elements_of s h)) (a h) (b h)
      (λ i.
      ap (λ keep. if keep then goes (with_element words kind h i (erased s)) else raises exceptions.ArrayStore) (keeps-is t kind h)
      ∙ kept-or-raised (keeps_kind tagged t kind s h) (with_element tagged kind h i s) (with_element words kind h i (erased s))
      (written-is (width kind + 2) h (i * width kind) kind))))

  array-length-is : array_length_act words (erased (record { frames = f ∷ below; heap = heap; statics = statics }))
      ≡ erased_act (array_length_act tagged (record { frames = f ∷ below; heap = heap; statics = statics }))
  array-length-is = grind (arith, word-at, null-erased, elements-are, replaced-is)

  -- ---- objects

  array-of-is : (kind : ObjectKind) (count : ℤ) (n : ℕ)
      → array_of_count words kind count (dropped (erased (record { frames = f ∷ below; heap = heap; statics = statics })) n)
      ≡ erased_act (array_of_count tagged kind count (dropped (record { frames = f ∷ below; heap = heap; statics = statics }) n))
  array-of-is kind (negsuc k) n = refl
  array-of-is kind (pos count) n = grind (arith, dropped-is, of-cells)

  new-array-is : (ty : Ty)
      → new_array_act words ty (erased (record { frames = f ∷ below; heap = heap; statics = statics }))
      ≡ erased_act (new_array_act tagged ty (record { frames = f ∷ below; heap = heap; statics = statics }))
  new-array-is ty = grind (arith, short-is f.stack 0, array-of-is (kind_of_type ty) (short_at tagged f.stack 0) 1)

  new-is : (place class : ℕ)
      → new_act words w.classes place class (erased (record { frames = f ∷ below; heap = heap; statics = statics }))
      ≡ erased_act (new_act tagged w.classes place class (record { frames = f ∷ below; heap = heap; statics = statics }))
  new-is place class = grind (arith, of-cells)

  throw-is : throw_act words (erased (record { frames = f ∷ below; heap = heap; statics = statics }))
      ≡ erased_act (throw_act tagged (record { frames = f ∷ below; heap = heap; statics = statics }))
  throw-is = ap (λ n. unless_null n throws) (word-at f.stack 0) ∙ null-erased (handle_at tagged f.stack 0) throws throws refl

  passes-is : (ty : Ty) (h : ℕ)
      → passes w.classes (erased (record { frames = f ∷ below; heap = heap; statics = statics })) ty h ≡ passes w.classes
      (record { frames = f ∷ below; heap = heap; statics = statics }) ty h
  passes-is ty h = ap (λ ks. kind_passes w.classes ty (kind_of_handle ks h)) reads.kinds_are

  cast-or-raised : (b : Bool) (s : State Cell) → ◌≡◌ {A = Act ℕ} (if b then goes (erased s) else raises exceptions.ClassCast)
      (erased_act (if b then goes s else raises exceptions.ClassCast))
  cast-or-raised x s = grind (arith)

  type-test-is : (test : TypeTest) (ty : Ty)
      → type_test_act words w.classes test ty (erased (record { frames = f ∷ below; heap = heap; statics = statics }))
      ≡ erased_act (type_test_act tagged w.classes test ty (record { frames = f ∷ below; heap = heap; statics = statics }))
  type-test-is tests.Cast ty = grind (arith, word-at, passes-is, cast-or-raised)
  type-test-is tests.InstanceOf ty = grind (arith, word-at, passes-is, replaced-is)

  -- ---- calls and returns

  made-top : (want : Option Want) → made_at want Top ≡ None
  made-top x = grind (arith)

  ready-words : (place : ℕ) (cs : List Cell) → map word_of (map (made_ready place) cs) ≡ map word_of cs
  ready-words place [] = refl
  ready-words place (c ∷ cs) = grind (arith, map, words-erase, ready-words place cs)

  readied-is : (place : Option ℕ) → erased (record { frames = f ∷ below; heap = heap; statics = statics })
      ≡ erased (readied tagged (record { frames = f ∷ below; heap = heap; statics = statics }) place)
  readied-is None = refl
  readied-is (Some place) = ap (framed (map word_of f.registers)) (sym (ready-words place f.stack))

  with-ready-is : (callee : Callee) (args : ℕ)
      → with_ready words w.classes callee args (erased (record { frames = f ∷ below; heap = heap; statics = statics }))
      ≡ erased (with_ready tagged w.classes callee args (record { frames = f ∷ below; heap = heap; statics = statics }))
  with-ready-is callee args = grind (arith, made-top, readied-is)

  class-is : (h : ℕ) → class_of w.classes (erased (record { frames = f ∷ below; heap = heap; statics = statics })) h ≡ class_of w.classes
      (record { frames = f ∷ below; heap = heap; statics = statics }) h
  class-is h = ap (λ ks. class_with_methods w.classes (kind_of_handle ks h)) reads.kinds_are

  served-is : (o : Option ℕ) (class count : ℕ) (s : State Cell) → served_act o class count (erased s) ≡ erased_act (served_act o class count s)
  served-is x class count s = grind (arith)

  interface-is : (c token count : ℕ) (o : Option ObjectKind) (s : State Cell) → interface_act w.classes c token count o (erased s)
      ≡ erased_act (interface_act w.classes c token count o s)
  interface-is c token count x s = grind (arith, served-is)

  chosen-is : (callee : Callee) (args : ℕ) (choice : Choice)
      → chosen_act words w.classes callee args choice (erased (record { frames = f ∷ below; heap = heap; statics = statics }))
      ≡ erased_act (chosen_act tagged w.classes callee args choice (record { frames = f ∷ below; heap = heap; statics = statics }))
  chosen-is callee args choices.Static = refl
  chosen-is callee args choices.Special = grind (arith, word-at, null-erased, with-ready-is)
  chosen-is callee args (choices.Virtual class token) = grind (arith, word-at, null-erased, class-is)
  chosen-is callee args (choices.Interface class token count) = grind (arith, word-at, null-erased, reads, interface-is)

  return-is : (result : Option Ty)
      → return_act words result (erased (record { frames = f ∷ below; heap = heap; statics = statics }))
      ≡ erased_act (return_act tagged result (record { frames = f ∷ below; heap = heap; statics = statics }))
  return-is x = grind (arith, map, short-is, word-at, int-is)

  -- ---- every operation

  pub act-erases : (i : Insn) (op : Operation)
      → act words w i op (erased (record { frames = f ∷ below; heap = heap; statics = statics }))
      ≡ erased_act (act tagged w i op (record { frames = f ∷ below; heap = heap; statics = statics }))
  act-erases i (ops.Constant c) = ap goes (constant-is c)
  act-erases i (ops.Load sort x) = ap goes (load-is sort x)
  act-erases i (ops.Store sort x) = ap goes (store-is sort x)
  act-erases i (ops.Increment width x amount) = ap goes (increment-is width x amount)
  act-erases i (ops.Move m) = ap (λ xs. goes (framed (map word_of f.registers) xs)) (moved-is m f.stack)
  act-erases i (ops.Arithmetic a) = arithmetic-is a
  act-erases i (ops.ArrayRead kind) = array-read-is kind
  act-erases i (ops.ArrayWrite kind) = array-write-is w.classes kind
  act-erases i ops.ArrayLength = array-length-is
  act-erases i (ops.Branch b) = branch-is i b
  act-erases i (ops.Switch width) = switch-is (code_at w f.method) i width
  act-erases i (ops.StaticRead fd) = ap goes (static-read-is fd)
  act-erases i (ops.StaticWrite fd) = ap goes (static-write-is fd)
  act-erases i (ops.FieldRead fd holder) = field-read-act-is fd holder
  act-erases i (ops.FieldWrite fd holder) = field-write-act-is fd holder
  act-erases i (ops.Call callee) = chosen-is callee (args_of w callee.method) callee.choice
  act-erases i (ops.New place class) = new-is place class
  act-erases i (ops.NewArray ty) = new-array-is ty
  act-erases i ops.Throw = throw-is
  act-erases i (ops.TypeTest test ty) = type-test-is test ty
  act-erases i (ops.Return result) = return-is result

acts-by : (w : Linked) (fs : List (Frame Cell)) (heap : List (Object Cell)) (statics : List Cell) (i : Insn) (op : Operation) → 0 < length fs
    → act words w i op (erased (record { frames = fs; heap = heap; statics = statics }))
    ≡ erased_act (act tagged w i op (record { frames = fs; heap = heap; statics = statics }))
acts-by w x heap statics i op runs = grind (arith, act-erases)

pub acts-erase : (w : Linked) → ActsErase w
acts-erase w i op s runs = acts-by w s.frames s.heap s.statics i op runs
