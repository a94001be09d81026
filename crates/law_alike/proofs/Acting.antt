-- Constants, moves, arithmetic, branches, reads, and tests of types, in two states that are alike.
use Rattle.std.proofs.Common.{◌≡◌, ℕ, zero, suc, ◌*◌, Bool, true, false, if◌then◌else◌, List, [], ◌∷◌, map, drop, refl, sym, ap, arith}
use Rattle.std.proofs.Common.{◌∙◌, subst}
use Rattle.std.specs.Prelude.{ℤ, pos, negsuc, Option, Some, slice_get}
use Rattle.std.proofs.lemmas.List.{drop-map}
use Rattle.jc_base.specs.declared.ty.Ty.{Ty}
use Rattle.jc_base.specs.declared.ty.Kind.{Kind}
use Rattle.jc_base.specs.Class.{ClassTable}
use Rattle.jc_base.specs.Cell.{width}
use Rattle.jc_decode.specs.declared.insn.Insn.{Insn}
use Rattle.jc_decode.specs.Listing.{target}
use Rattle.jc_ops.specs.declared.operation.Sameness.{Sameness}
use Rattle.jc_ops.specs.declared.operation.StaticField.{StaticField}
use Rattle.jc_ops.specs.declared.operation.Width.{Width}
use Rattle.jc_ops.specs.declared.operation.Width.TheVariants as widths
use Rattle.jc_ops.specs.declared.operation.Constant.{Constant}
use Rattle.jc_ops.specs.declared.operation.Move.{Move}
use Rattle.jc_ops.specs.declared.operation.Arithmetic.{Arithmetic}
use Rattle.jc_ops.specs.declared.operation.Arithmetic.TheVariants as arithmetic
use Rattle.jc_ops.specs.declared.operation.Branch.{Branch}
use Rattle.jc_ops.specs.declared.operation.Branch.TheVariants as branches
use Rattle.jc_ops.specs.declared.operation.TypeTest.{TypeTest}
use Rattle.jc_ops.specs.declared.operation.TypeTest.TheVariants as tests
use Rattle.vm_arithmetic.specs.Arithmetic.{succeeds, int_to_short, short_to_byte, int_to_byte, compared, short_of_word}
use Rattle.vm_store.specs.declared.cell.Cell.{Cell}
use Rattle.vm_store.specs.declared.cell.Cell.TheVariants as cells
use Rattle.vm_store.specs.declared.cell.ObjectKind.{ObjectKind}
use Rattle.vm_store.specs.Cells.{tagged}
use Rattle.vm_store.specs.Objects.{object_cells}
use Rattle.vm_store.specs.Value.{value_in}
use Rattle.vm_step.specs.declared.ending.Exception.TheVariants as exceptions
use Rattle.vm_step.specs.Act.{goes, raises, throws}
use Rattle.vm_step.specs.Values.{with_constant, with_move, computed, negated, arithmetic_act}
use Rattle.vm_step.specs.Branching.{is_same, is_taken, leads_if, branch_act}
use Rattle.vm_step.specs.Fields.{with_static_read, elements_of, element_index, at_element, array_read_act, array_length_act}
use Rattle.vm_step.specs.Objects.{new_act, array_of_count, new_array_act, throw_act, passes, may_cast, truth, type_test_act}
use Rattle.vm_step.specs.Numbers.{handle_at, short_at, int_on, number_cells, dropped, replaced}
use Rattle.law_alike.specs.Alike.{renamed_cell}
use Rattle.law_alike.proofs.Cells.{word-at, short-is, int-is, moved-renamed, in-stays, object-stays, instance-stays, array-stays}
use Rattle.law_alike.proofs.Twins.{Pair, two, first, second, Does, goes_both}
use Rattle.law_alike.proofs.Twins.{leads_both, makes_both, raises_both, throws_both, stack-twins, stack-does}
use Rattle.law_alike.proofs.Twins.{replaced-does, null-does, some-does}

numbers-stay :
    (f : ℕ → ℕ) (width : Width) (n : ℤ) → map (renamed_cell f) (number_cells tagged width n) ≡ number_cells tagged width n
numbers-stay f y n = grind (arith)

module _ (x : Pair) where
  -- the stack of the second state
  abbrev pub other_stack : List Cell
  other_stack = map (renamed_cell x.rename) x.frame.stack

  -- ---- objects that are read

  pub cells-same : (h : ℕ) → object_cells (second x) h ≡ object_cells (first x) h
  cells-same zero = refl
  cells-same (suc h) = refl

  pub elements-same : (h : ℕ) → elements_of (second x) h ≡ elements_of (first x) h
  elements-same zero = refl
  elements-same (suc h) = refl

  cells-stay : (h : ℕ) → map (renamed_cell x.rename) (object_cells (first x) h) ≡ object_cells (first x) h
  cells-stay zero = refl
  cells-stay (suc h) = object-stays x.rename x.heap h x.heap_stays

  pub read-stays :
      (kind : Kind) (h at : ℕ) → map (renamed_cell x.rename) (value_in tagged kind (object_cells (first x) h) at)
      ≡ value_in tagged kind (object_cells (second x) h) at
  read-stays kind h at = grind (arith, in-stays x.rename kind (object_cells (first x) h) at (cells-stay h), cells-same h)

  -- ---- operations after which the instruction after comes, and which write no register

  module _ (none : x.print.written ≡ 0) (falls : x.falls ≡ true) where
    pub constant-does : (c : Constant) → Does x (goes (with_constant tagged c (first x))) (goes (with_constant tagged c (second x)))
    constant-does x = grind (arith, stack-does, replaced-does)

    pub move-does : (m : Move) → Does x (goes (with_move m (first x))) (goes (with_move m (second x)))
    move-does m = stack-does x none falls _ _ (moved-renamed x.rename m x.frame.stack)

    number-does :
        (count : ℕ) (width : Width) (n k : ℤ) → k ≡ n
        → Does x (goes (replaced (first x) count (number_cells tagged width n)))
        (goes (replaced (second x) count (number_cells tagged width k)))
    number-does count width n k e = grind (arith, replaced-does, numbers-stay)

    computed-does :
        (width : Width) (taken : ℕ) (o p : Option ℤ) → p ≡ o
        → Does x (computed tagged width (first x) taken o) (computed tagged width (second x) taken p)
    computed-does width taken o p e = grind (arith, some-does, number-does)

    pub arithmetic-does : (a : Arithmetic) → Does x (arithmetic_act tagged a (first x)) (arithmetic_act tagged a (second x))
    arithmetic-does (arithmetic.Binary o widths.Short) = grind (arith, computed-does, short-is)
    arithmetic-does (arithmetic.Binary o widths.Int) =
        grind (arith, int-is x.rename x.frame.stack 3 2, int-is x.rename x.frame.stack 1 0, computed-does)
    arithmetic-does (arithmetic.Negate widths.Short) =
        number-does 1 widths.Short _ _ (ap (negated widths.Short) (short-is x.rename x.frame.stack 0))
    arithmetic-does (arithmetic.Negate widths.Int) =
        number-does 2 widths.Int _ _ (ap (negated widths.Int) (int-is x.rename x.frame.stack 1 0))
    arithmetic-does arithmetic.ShortToByte = number-does 1 widths.Short _ _ (ap short_to_byte (short-is x.rename x.frame.stack 0))
    arithmetic-does arithmetic.ShortToInt = number-does 1 widths.Int _ _ (short-is x.rename x.frame.stack 0)
    arithmetic-does arithmetic.IntToByte = number-does 2 widths.Short _ _ (ap int_to_byte (int-is x.rename x.frame.stack 1 0))
    arithmetic-does arithmetic.IntToShort = number-does 2 widths.Short _ _ (ap int_to_short (int-is x.rename x.frame.stack 1 0))
    arithmetic-does arithmetic.CompareInts =
        number-does 4 widths.Short (compared (int_on tagged x.frame.stack 2) (int_on tagged x.frame.stack 0)) _
        (ap (λ n. compared n (int_on tagged other_stack 0)) (int-is x.rename x.frame.stack 3 2)
        ∙ ap (compared (int_on tagged x.frame.stack 2)) (int-is x.rename x.frame.stack 1 0))

    pub static-read-does :
        (fd : StaticField) → Does x (goes (with_static_read tagged fd (first x))) (goes (with_static_read tagged fd (second x)))
    static-read-does fd =
        replaced-does x none falls 0 (value_in tagged fd.kind x.statics fd.slot) (value_in tagged fd.kind x.statics fd.slot)
        (in-stays x.rename fd.kind x.statics fd.slot x.statics_stay)

    -- ---- arrays

    pub array-read-does : (kind : Kind) → Does x (array_read_act tagged kind (first x)) (array_read_act tagged kind (second x))
    array-read-does kind =
        let h : ℕ = handle_at tagged x.frame.stack 1 in
        let n : ℤ = short_at tagged x.frame.stack 0 in
        let k : ℤ = short_at tagged other_stack 0 in
        null-does x h (handle_at tagged other_stack 1)
        (λ h. at_element n (elements_of (first x) h)
        (λ i. goes (replaced (first x) 2 (value_in tagged kind (object_cells (first x) h) (i * width kind)))))
        (λ h. at_element k (elements_of (second x) h)
        (λ i. goes (replaced (second x) 2 (value_in tagged kind (object_cells (second x) h) (i * width kind)))))
        (word-at x.rename x.frame.stack 1)
        (some-does x exceptions.ArrayIndex (element_index n (elements_of (first x) h)) (element_index k (elements_of (second x) h))
        (λ i. goes (replaced (first x) 2 (value_in tagged kind (object_cells (first x) h) (i * width kind))))
        (λ i. goes (replaced (second x) 2 (value_in tagged kind (object_cells (second x) h) (i * width kind))))
        (ap (λ m. element_index m (elements_of (second x) h)) (short-is x.rename x.frame.stack 0) ∙ ap (element_index n) (elements-same h))
        (λ i.
        replaced-does x none falls 2 (value_in tagged kind (object_cells (first x) h) (i * width kind))
        (value_in tagged kind (object_cells (second x) h) (i * width kind))
        (read-stays kind h (i * width kind))))

    pub array-length-does : Does x (array_length_act tagged (first x)) (array_length_act tagged (second x))
    array-length-does =
        let h : ℕ = handle_at tagged x.frame.stack 0 in
        null-does x h (handle_at tagged other_stack 0)
        (λ h. goes (replaced (first x) 1 (cells.Short (short_of_word (elements_of (first x) h)) ∷ [])))
        (λ h. goes (replaced (second x) 1 (cells.Short (short_of_word (elements_of (second x) h)) ∷ [])))
        (word-at x.rename x.frame.stack 0)
        (replaced-does x none falls 1 (cells.Short (short_of_word (elements_of (first x) h)) ∷ [])
        (cells.Short (short_of_word (elements_of (second x) h)) ∷ [])
        (ap (λ n. cells.Short (short_of_word n) ∷ []) (sym (elements-same h))))

    -- ---- types

    cast-or-raised :
        (b : Bool)
        → Does x (if b then goes (first x) else raises exceptions.ClassCast)
        (if b then goes (second x) else raises exceptions.ClassCast)
    cast-or-raised x = grind (arith, stack-does, raises_both)

    pub type-test-does :
        (t : ClassTable) (test : TypeTest) (ty : Ty)
        → Does x (type_test_act tagged t test ty (first x)) (type_test_act tagged t test ty (second x))
    type-test-does t tests.Cast ty =
        grind (arith, word-at x.rename x.frame.stack 0, cast-or-raised (may_cast t (first x) ty (handle_at tagged x.frame.stack 0)))
    type-test-does t tests.InstanceOf ty =
        replaced-does x none falls 1
        (cells.Short (truth (passes t (first x) ty (handle_at tagged x.frame.stack 0))) ∷ [])
        (cells.Short (truth (passes t (second x) ty (handle_at tagged other_stack 0))) ∷ [])
        (ap (λ h. cells.Short (truth (passes t (second x) ty h)) ∷ []) (sym (word-at x.rename x.frame.stack 0)))

    -- ---- new objects

    pub new-does :
        (t : ClassTable) (place class : ℕ)
        → Does x (new_act tagged t place class (first x)) (new_act tagged t (x.rename place) class (second x))
    new-does t place class =
        makes_both falls (λ h. refl) (instance-stays x.rename t class)
        (stack-twins x none x.frame.stack x.heap x.statics x.heap_stays x.statics_stay)

    array-of-does :
        (kind : ObjectKind) (n : ℤ)
        → Does x (array_of_count tagged kind n (dropped (first x) 1))
        (array_of_count tagged kind n (two x x.registers (map (renamed_cell x.rename) (drop 1 x.frame.stack)) x.heap x.statics))
    array-of-does kind (negsuc n) = raises_both exceptions.NegativeSize
    array-of-does kind (pos count) =
        makes_both falls (λ h. refl) (array-stays x.rename kind count)
        (stack-twins x none (drop 1 x.frame.stack) x.heap x.statics x.heap_stays x.statics_stay)

    pub new-array-does : (ty : Ty) → Does x (new_array_act tagged ty (first x)) (new_array_act tagged ty (second x))
    new-array-does ty = grind (arith, short-is, drop-map, array-of-does)

  -- ---- what is thrown

  pub throw-does : Does x (throw_act tagged (first x)) (throw_act tagged (second x))
  throw-does =
      null-does x (handle_at tagged x.frame.stack 0) (handle_at tagged other_stack 0) throws throws
      (word-at x.rename x.frame.stack 0)
      (throws_both (handle_at tagged x.frame.stack 0))

  -- ---- branches

  same-handles :
      (e : Sameness) (n : ℕ) → is_same e (handle_at tagged other_stack n) 0 ≡ is_same e (handle_at tagged x.frame.stack n) 0
  same-handles e n = ap (λ h. is_same e h 0) (word-at x.rename x.frame.stack n)

  taken-same : (b : Branch) → is_taken tagged b other_stack ≡ is_taken tagged b x.frame.stack
  taken-same branches.Always = refl
  taken-same (branches.Zero o) = ap (λ n. succeeds o n (pos 0)) (short-is x.rename x.frame.stack 0)
  taken-same (branches.Null e) = same-handles e 0
  taken-same (branches.References e) = grind (arith, word-at x.rename x.frame.stack 1, word-at x.rename x.frame.stack 0)
  taken-same (branches.Shorts o) = grind (arith, short-is x.rename x.frame.stack 1, short-is x.rename x.frame.stack 0)

  -- to a target with the number n, where it is taken; a branch that may not be taken falls through
  pub leads-does :
      x.print.written ≡ 0 → (taken other : Bool) (n count : ℕ) (to on : ℤ) → other ≡ taken → (taken ≡ false → x.falls ≡ true)
      → slice_get x.targets n ≡ Some to → slice_get x.other_targets n ≡ Some on
      → Does x (leads_if taken to (dropped (first x) count)) (leads_if other on (dropped (second x) count))
  leads-does none taken other n count to on same falls led also =
      subst (λ r. Does x (leads_if taken to (dropped (first x) count)) (leads_if r on (dropped (second x) count))) (sym same)
      (subst (λ cs. Does x (leads_if taken to (dropped (first x) count))
      (leads_if taken on (two x x.registers cs x.heap x.statics)))
      (sym (drop-map (renamed_cell x.rename) count x.frame.stack)) (go taken falls))
    where
      go : (r : Bool) → (r ≡ false → x.falls ≡ true)
          → Does x (leads_if r to (dropped (first x) count))
          (leads_if r on (two x x.registers (map (renamed_cell x.rename) (drop count x.frame.stack)) x.heap x.statics))
      go true h = leads_both n led also (stack-twins x none (drop count x.frame.stack) x.heap x.statics x.heap_stays x.statics_stay)
      go false h = goes_both (h refl) (stack-twins x none (drop count x.frame.stack) x.heap x.statics x.heap_stays x.statics_stay)

  pub branch-does :
      (i j : Insn) (b : Branch) → x.print.written ≡ 0 → (is_taken tagged b x.frame.stack ≡ false → x.falls ≡ true)
      → slice_get x.targets 0 ≡ Some (target x.frame.place i.x) → slice_get x.other_targets 0 ≡ Some (target x.place j.x)
      → Does x (branch_act tagged i b (first x)) (branch_act tagged j b (second x))
  branch-does i j b none falls led also = grind (arith, leads-does, taken-same)
