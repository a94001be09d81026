-- Where the rule of an instruction applies, it applies when packages are added: the same operation, with what it asks and what it does.
use Rattle.std.proofs.Common.{arith}
use Rattle.std.proofs.Common.{◌≡◌, ◌<◌, ◌+◌, ℕ, zero, suc, Bool, true, false, not, if◌then◌else◌, ℤ, List, [], ◌∷◌, ◌++◌, length, map}
use Rattle.std.proofs.Common.{Option, Some, None, IsSomeAnd, Result, Ok, Err, slice_get, refl, sym, ◌∙◌, ap, subst}
use Rattle.std.specs.Prelude.{◌==◌, ◌&&◌}
use Rattle.std.specs.Prelude.{take, drop}
use Rattle.std.proofs.Common.{get_or}
use Rattle.std.proofs.Math.ListN.{get_or-map}
use Rattle.std.specs.List.{list_all}
use Rattle.std.proofs.lemmas.Bool.{and_parts}
use Rattle.jc_base.specs.declared.ty.Ty.{Ty}
use Rattle.jc_base.specs.declared.ty.Ty.TheVariants.{Class, ArrBool, ArrByte, ArrShort, ArrInt, ArrRef}
use Rattle.jc_base.specs.declared.ty.Kind.{Kind}
use Rattle.jc_base.specs.declared.ty.Kind.TheVariants as kinds
use Rattle.jc_base.specs.declared.record.Member.{Member}
use Rattle.jc_base.specs.declared.record.Member.TheVariants.{ClassOf, Static, Virtual, Super, StaticCall}
use Rattle.jc_base.specs.declared.record.MethodRec.{MethodRec}
use Rattle.jc_base.specs.Class.{is_interface, object}
use Rattle.jc_base.specs.Order.{Below}
use Rattle.jc_base.specs.Order.{same, joined, nothing, anything, null_object, null_array, subclass, array_object, array_array}
use Rattle.jc_base.specs.Dispatch.{entry_at, is_concrete}
use Rattle.jc_base.specs.Linked.{lacks_code}
use Rattle.jc_base.specs.World.{Linked, member_at}
use Rattle.jc_base.proofs.Climbs.{parent_of-class}
use Rattle.jc_decode.specs.declared.insn.Insn.{Insn}
use Rattle.jc_ops.specs.declared.fault.RuleFault.{RuleFault}
use Rattle.jc_ops.specs.declared.fault.RuleFault.TheVariants.{BadMember, NotConcrete}
use Rattle.jc_ops.specs.declared.operation.Want.{Want}
use Rattle.jc_ops.specs.declared.operation.Want.TheVariants.{Value}
use Rattle.jc_ops.specs.declared.operation.Branch.{Branch}
use Rattle.jc_ops.specs.declared.operation.Branch.TheVariants as branches
use Rattle.jc_ops.specs.declared.operation.Callee.{Callee}
use Rattle.jc_ops.specs.declared.operation.Choice.{Choice}
use Rattle.jc_ops.specs.declared.operation.Choice.TheVariants as choices
use Rattle.jc_ops.specs.declared.operation.Operation.{Operation}
use Rattle.jc_ops.specs.declared.operation.Operation.TheVariants as ops
use Rattle.jc_ops.specs.declared.operation.Constant.TheVariants as constants
use Rattle.jc_ops.specs.declared.operation.TypeTest.{TypeTest}
use Rattle.jc_ops.specs.declared.operation.Sort.{Sort}
use Rattle.jc_ops.specs.declared.operation.Sort.TheVariants as sorts
use Rattle.jc_ops.specs.declared.operation.Holder.{Holder}
use Rattle.jc_ops.specs.declared.operation.Holder.TheVariants as holders
use Rattle.jc_ops.specs.declared.operation.TypeTest.TheVariants as tests
use Rattle.jc_ops.specs.Row.{table, row_at, unused, by_sort, by_width, by_kind, first_four, by_register, literals, binaries, orders_all, branching}
use Rattle.jc_ops.specs.Resolve.{byte_of, short_of, taken_if, on, static_field, instance_field, callee_if, entry_callee, virtual_callee, own_receiver}
use Rattle.jc_ops.specs.Resolve.{special_callee, static_callee, described, only, described_callee, interface_callee, class_type, array_of}
use Rattle.jc_ops.specs.Resolve.{tested_type}
use Rattle.jc_ops.specs.Resolve.{result_returned, new_object, resolved}
use Rattle.jc_rules.specs.declared.demand.Demand.{Demand}
use Rattle.jc_rules.specs.declared.demand.Demand.TheVariants.{Registers, Depth, Cell, Cut, Held}
use Rattle.jc_rules.specs.Demand.{Frame, Meets, Satisfies, SatisfiesAll}
use Rattle.jc_rules.specs.declared.effect.Mode.TheVariants.{Flow}
use Rattle.jc_rules.specs.declared.effect.Cells.{Cells}
use Rattle.jc_rules.specs.declared.rule.Outcome.{Outcome}
use Rattle.jc_rules.specs.Effect.{WritesCells}
use Rattle.jc_rules.specs.Apply.{OperationApplies, RuleApplies}
use Rattle.jc_rules.specs.Rule.{load_demands, array_read_demands, array_write_demands, branch_demands}
use Rattle.jc_rules.specs.declared.effect.Cells.TheVariants as given
use Rattle.jc_rules.specs.Rule.{seen, demands, effect}
use Rattle.law_added.proofs.Tables.{interface_front, parent_front}
use Rattle.law_added.proofs.Begun.{IsBegun, method_there, lacks_same, interface_there, entry_there, object_same, in_types_same}
use Rattle.law_added.proofs.Begun.{described_same, concrete_there}

module _ (v w : Linked) (b : IsBegun v w) where
  abbrev count : ℕ
  count = length v.classes.records

  -- ---- the order of types

  pub below_up : {a c : Ty} → Below v.classes a c → Below w.classes a c
  below_up same = same
  below_up (joined x y) = joined (below_up x) (below_up y)
  below_up nothing = nothing
  below_up anything = anything
  below_up null_object = null_object
  below_up (null_array x) = null_array x
  below_up (subclass {c} {p} e) =
      subclass (parent_front count v.classes w.classes b.grown c (parent_of-class v.classes c p e).number ∙ e)
  below_up (array_object x e) = array_object x (e ∙ sym (object_same v w b))
  below_up (array_array x) = array_array (below_up x)

  -- ---- what a frame meets

  object_up : (found : Ty) → Below v.classes found (Class (object v.classes)) → Below w.classes found (Class (object w.classes))
  object_up found h = subst (λ c. Below w.classes found (Class c)) (sym (object_same v w b)) (below_up h)

  meets_up : (want : Want) (found : Ty) → Meets v.classes want found → Meets w.classes want found
  meets_up x found h = grind (arith, below_up, object_up)

  there_up : (want : Want) (o : Option Ty) → IsSomeAnd o (Meets v.classes want) → IsSomeAnd o (Meets w.classes want)
  there_up want x h = grind (arith, meets_up)

  satisfies_up : (f : Frame) (d : Demand) → Satisfies v.classes f d → Satisfies w.classes f d
  satisfies_up f (Registers x n) h = h
  satisfies_up f (Depth n) h = h
  satisfies_up f (Cell n want) h = there_up want (slice_get f.stack n) h
  satisfies_up f (Cut n) h = h
  satisfies_up f (Held x ty) h = there_up (Value ty) (slice_get f.regs x) h

  pub all_up : (f : Frame) (ds : List Demand) → SatisfiesAll v.classes f ds → SatisfiesAll w.classes f ds
  all_up f [] h = tt
  all_up f (d ∷ ds) h = (satisfies_up f d h.0, all_up f ds h.1)

  -- ---- what an operation asks and does

  -- the class of a type is there
  abbrev IsThere : Ty → Type 0
  IsThere (Class c) = c < count
  IsThere (ArrRef c) = c < count
  IsThere _ = Unit {0}

  -- the method that is called, and the class of a type that is made or tested, are there
  abbrev IsKnownOperation : Operation → Type 0
  IsKnownOperation (ops.Call c) = (m : MethodRec) × (slice_get v.methods c.method ≡ Some m)
  IsKnownOperation (ops.NewArray ty) = IsThere ty
  IsKnownOperation (ops.TypeTest test ty) = IsThere ty
  IsKnownOperation _ = Unit {0}

  load_same : (s : Sort) (x : ℕ) → load_demands w.classes s x ≡ load_demands v.classes s x
  load_same x x2 = grind (arith)

  read_same : (k : Kind) → array_read_demands w.classes k ≡ array_read_demands v.classes k
  read_same x = grind (arith)

  write_same : (k : Kind) → array_write_demands w.classes k ≡ array_write_demands v.classes k
  write_same x = grind (arith)

  branch_same : (k : Branch) → branch_demands w.classes k ≡ branch_demands v.classes k
  branch_same x = grind (arith)

  called_same : (c : Callee) → IsKnownOperation (ops.Call c) → slice_get w.methods c.method ≡ slice_get v.methods c.method
  called_same c (m, e) = method_there v w b c.method m e ∙ sym e

  demands_same : (op : Operation) → IsKnownOperation op → demands w op ≡ demands v op
  demands_same x h = grind (arith, load_same, read_same, write_same, branch_same, called_same)

  seen_same : (ty : Ty) → IsThere ty → seen w.classes ty ≡ seen v.classes ty
  seen_same x h = grind (arith, in_types_same)

  effect_same : (op : Operation) (f : Frame) → IsKnownOperation op → effect w op f ≡ effect v op f
  effect_same x f h = grind (arith, called_same, seen_same)

  -- ---- what is named

  instance_same : (pool : ℕ) (k : Kind) (o : Option Member) → instance_field w.classes pool k o ≡ instance_field v.classes pool k o
  instance_same pool k x = grind (arith)

  returned_same : (s : Option Sort) (result : Option Ty) → result_returned w.classes s result ≡ result_returned v.classes s result
  returned_same x result = grind (arith)

  -- ---- the method that is called

  -- the same method is called, and it is there
  record IsCalled (r : Result Callee RuleFault) (c : Callee) : Type 0 where
    called : r ≡ Ok c
    there : (m : MethodRec) × (slice_get v.methods c.method ≡ Some m)

  taken_is : (test : Bool) (pool : ℕ) (c d : Callee) → taken_if test pool c ≡ Ok d → (test ≡ true) × (c ≡ d)
  taken_is x pool c d e = grind (arith)

  callee_up : (test there_test : MethodRec → Bool) (pool n : ℕ) (receiver : MethodRec → Option Want) (choice : Choice) (o : Option MethodRec) (c : Callee)
      → slice_get v.methods n ≡ o → ((m : MethodRec) → slice_get v.methods n ≡ Some m → there_test m ≡ test m)
      → callee_if test pool n o receiver choice ≡ Ok c → IsCalled (callee_if there_test pool n (slice_get w.methods n) receiver choice) c
  callee_up test there_test pool n receiver choice None c at alike e = absurd cc
  callee_up test there_test pool n receiver choice (Some m) c at alike e =
      let parts = taken_is (test m) pool (record { method = n; receiver = receiver m; choice = choice }) c e in
      let number : n ≡ c.method = ap (λ (x : Callee). x.method) parts.1 in
      record {
        called =
            ap (λ x. callee_if there_test pool n x receiver choice) (method_there v w b n m at)
            ∙ ap (λ x. taken_if x pool (record { method = n; receiver = receiver m; choice = choice })) (alike m at) ∙ e;
        there = (m, subst (λ k. slice_get v.methods k ≡ Some m) number at);
      }

  virtual_up : (pool : ℕ) (o : Option Member) (c : Callee) → virtual_callee v pool o ≡ Ok c → IsCalled (virtual_callee w pool o) c
  virtual_up pool (Some (Virtual d token)) c e = at (entry_at v.classes d token) refl e
    where
      at : (x : Option ℕ) → entry_at v.classes d token ≡ x → entry_callee v pool d token x ≡ Ok c
          → IsCalled (entry_callee w pool d token (entry_at w.classes d token)) c
      at None there h = absurd cc
      at (Some n) there h =
          subst (λ x. IsCalled (entry_callee w pool d token x) c) (sym (entry_there v w b d token n there))
          (callee_up (λ m. not (d == object v.classes && m.is_abstract)) (λ m. not (d == object w.classes && m.is_abstract)) pool n
          (λ m. Some (Value (Class d))) (choices.Virtual d token) (slice_get v.methods n) c refl (λ m found. rw b.grown.roles refl) h)
  virtual_up pool None c e = absurd cc
  virtual_up pool (Some _) c e = absurd cc

  special_up : (pool : ℕ) (o : Option Member) (c : Callee) → special_callee v pool o ≡ Ok c → IsCalled (special_callee w pool o) c
  special_up pool (Some (Super d n)) c e =
      callee_up (λ m. not (lacks_code v.classes m)) (λ m. not (lacks_code w.classes m)) pool n (λ m. Some (Value (Class d))) choices.Special
      (slice_get v.methods n) c refl (λ m found. ap not (lacks_same v w b n m found)) e
  special_up pool (Some (StaticCall n)) c e =
      callee_up (λ m. not m.is_static && not (lacks_code v.classes m)) (λ m. not m.is_static && not (lacks_code w.classes m)) pool n
      (λ m. Some (own_receiver m)) choices.Special (slice_get v.methods n) c refl
      (λ m found. ap (λ x. not m.is_static && not x) (lacks_same v w b n m found)) e
  special_up pool None c e = absurd cc
  special_up pool (Some _) c e = absurd cc

  static_up : (pool : ℕ) (o : Option Member) (c : Callee) → static_callee v pool o ≡ Ok c → IsCalled (static_callee w pool o) c
  static_up pool (Some (StaticCall n)) c e =
      callee_up (λ m. m.is_static && not m.is_init && not (lacks_code v.classes m)) (λ m. m.is_static && not m.is_init && not (lacks_code w.classes m))
      pool n (λ m. None) choices.Static (slice_get v.methods n) c refl
      (λ m found. ap (λ x. m.is_static && not m.is_init && not x) (lacks_same v w b n m found)) e
  static_up pool None c e = absurd cc
  static_up pool (Some _) c e = absurd cc

  interface_up : (pool nargs token : ℕ) (o : Option Member) (c : Callee) → interface_callee v pool nargs token o ≡ Ok c
      → IsCalled (interface_callee w pool nargs token o) c
  interface_up pool nargs token (Some (ClassOf d)) c e = at (is_interface v.classes d) refl e
    where
      found : (x : Option ℕ) → described_callee v pool nargs d token x ≡ Ok c → IsCalled (described_callee w pool nargs d token x) c
      found None h = absurd cc
      found (Some n) h =
          subst (λ k. IsCalled (callee_if (λ m. nargs == length m.sig.args + 1) pool n (slice_get w.methods n)
          (λ m. Some (Value (Class k))) (choices.Interface d token nargs)) c) (sym (object_same v w b))
          (callee_up (λ m. nargs == length m.sig.args + 1) (λ m. nargs == length m.sig.args + 1) pool n
          (λ m. Some (Value (Class (object v.classes)))) (choices.Interface d token nargs) (slice_get v.methods n) c refl (λ m there. refl) h)

      at : (x : Bool) → is_interface v.classes d ≡ x
          → (if x then described_callee v pool nargs d token (only (described v.methods d token)) else Err (BadMember pool)) ≡ Ok c
          → IsCalled (if is_interface w.classes d then described_callee w pool nargs d token (only (described w.methods d token)) else Err (BadMember pool)) c
      at true is h =
          let lt = interface_there v w b d is in
          let there : is_interface w.classes d ≡ true = interface_front count v.classes w.classes b.grown d lt ∙ is in
          subst (λ x. IsCalled (if x then described_callee w pool nargs d token (only (described w.methods d token)) else Err (BadMember pool)) c) (sym there)
          (subst (λ ns. IsCalled (described_callee w pool nargs d token (only ns)) c) (sym (described_same v w b d token lt))
          (found (only (described v.methods d token)) h))
      at false is h = absurd cc
  interface_up pool nargs token None c e = absurd cc
  interface_up pool nargs token (Some _) c e = absurd cc

  module _ (m : MethodRec) (place : ℕ) (i : Insn) where
    abbrev old : ℤ → Option Member
    old x = member_at v m.package (short_of x)

    abbrev now : ℤ → Option Member
    now x = member_at w m.package (short_of x)

    named_up : (x : ℤ) (k : Member) → old x ≡ Some k → now x ≡ Some k
    named_up x k e = b.pools m.package (short_of x) k e

    -- what one result is the other is too, and what it calls, makes or tests is there
    abbrev Carries : Result Operation RuleFault → Result Operation RuleFault → Type 0
    Carries r s = (op : Operation) → r ≡ Ok op → (s ≡ Ok op) × IsKnownOperation op

    -- a callee is asked of a member that is there
    called_by : (f g : Option Member → Result Callee RuleFault) (x : ℤ) (op : Operation) → (g None ≡ f None)
        → ((fault : RuleFault) × (f None ≡ Err fault))
        → ((o : Option Member) (c : Callee) → f o ≡ Ok c → IsCalled (g o) c) → on ops.Call (f (old x)) ≡ Ok op
        → (c : Callee) × (op ≡ ops.Call c) × IsCalled (g (now x)) c
    called_by f g x op none fails up e = at (f (old x)) refl e
      where
        there : (o : Option Member) → old x ≡ o → (c : Callee) → f o ≡ Ok c → IsCalled (g (now x)) c
        there None at c h = absurd (let bad = fails.1 in cc)
        there (Some k) at c h = subst (λ o. IsCalled (g o) c) (sym (named_up x k at)) (up (Some k) c h)

        at : (r : Result Callee RuleFault) → f (old x) ≡ r → on ops.Call r ≡ Ok op → (c : Callee) × (op ≡ ops.Call c) × IsCalled (g (now x)) c
        at (Ok c) is h = (c, (let s : op ≡ ops.Call c = cc in s), there (old x) refl c is)
        at (Err fault) is h = absurd cc

    called_up : (f g : Option Member → Result Callee RuleFault) (x : ℤ) → (g None ≡ f None) → ((fault : RuleFault) × (f None ≡ Err fault))
        → ((o : Option Member) (c : Callee) → f o ≡ Ok c → IsCalled (g o) c) → Carries (on ops.Call (f (old x))) (on ops.Call (g (now x)))
    called_up f g x none fails up op e = grind (arith, called_by)

    -- a type is asked of a class that is there
    typed_by : (make : ℕ → Ty) (op_of : Ty → Operation) (pool : ℕ) (x : ℤ) (op : Operation) → ((c : ℕ) → c < count → IsKnownOperation (op_of (make c)))
        → on op_of (class_type make pool (old x)) ≡ Ok op → (on op_of (class_type make pool (now x)) ≡ Ok op) × IsKnownOperation op
    typed_by make op_of pool x op there e = at (old x) refl e
      where
        at : (o : Option Member) → old x ≡ o → on op_of (class_type make pool o) ≡ Ok op
            → (on op_of (class_type make pool (now x)) ≡ Ok op) × IsKnownOperation op
        at (Some (ClassOf c)) is h =
            let same : op_of (make c) ≡ op = cc in (
              ap (λ o. on op_of (class_type make pool o)) (named_up x (ClassOf c) is) ∙ h,
              subst IsKnownOperation same (there c (b.known m.package (short_of x) c is)),
            )
        at None is h = absurd cc
        at (Some _) is h = absurd cc

    array_known : (n : ℕ) → IsThere (array_of n)
    array_known n = by (n == 10) (n == 11) (n == 12)
      where
        by : (p q r : Bool) → IsThere (if p then ArrBool else if q then ArrByte else if r then ArrShort else ArrInt)
        by true q r = tt
        by false true r = tt
        by false false true = tt
        by false false false = tt

    tested_up : (test : TypeTest) (x : ℤ) (op : Operation) → on (ops.TypeTest test) (tested_type (byte_of i.x) (short_of x) (old x)) ≡ Ok op
        → (on (ops.TypeTest test) (tested_type (byte_of i.x) (short_of x) (now x)) ≡ Ok op) × IsKnownOperation op
    tested_up test x op e = by (byte_of i.x == 0) (byte_of i.x == 14) e
      where
        by : (p q : Bool)
            → on (ops.TypeTest test)
            (if p then class_type Class (short_of x) (old x) else if q then class_type ArrRef (short_of x) (old x) else Ok (array_of (byte_of i.x))) ≡ Ok op
            → (on (ops.TypeTest test)
            (if p then class_type Class (short_of x) (now x) else if q then class_type ArrRef (short_of x) (now x) else Ok (array_of (byte_of i.x))) ≡ Ok op)
            × IsKnownOperation op
        by true q h = typed_by Class (ops.TypeTest test) (short_of x) x op (λ c lt. lt) h
        by false true h = typed_by ArrRef (ops.TypeTest test) (short_of x) x op (λ c lt. lt) h
        by false false h =
            let same : ops.TypeTest test (array_of (byte_of i.x)) ≡ op = cc in
            (h, subst IsKnownOperation same (array_known (byte_of i.x)))

    new_up : (pool : ℕ) (o p : Option Member) (op : Operation) → ((k : Member) → o ≡ Some k → p ≡ Some k) → new_object v place pool o ≡ Ok op
        → (new_object w place pool p ≡ Ok op) × IsKnownOperation op
    new_up pool (Some (ClassOf c)) p op up e = by (is_concrete v.classes v.methods c) refl e
      where
        by : (x : Bool) → is_concrete v.classes v.methods c ≡ x → (if x then Ok (ops.New place c) else Err (NotConcrete c)) ≡ Ok op
            → (new_object w place pool p ≡ Ok op) × IsKnownOperation op
        by true is h =
            let same : ops.New place c ≡ op = cc in (
              ap (new_object w place pool) (up (ClassOf c) refl)
                  ∙ ap (λ x. if x then Ok (ops.New place c) else Err (NotConcrete c)) (concrete_there v w b c is) ∙ h,
              subst IsKnownOperation same tt,
            )
        by false is h = absurd cc
    new_up pool None p op up e = absurd cc
    new_up pool (Some _) p op up e = absurd cc

    field_up : {X : Type 0} (make : X → Operation) (f g : Option Member → Result X RuleFault) (x : ℤ) (op : Operation) → ((o : Option Member) → g o ≡ f o)
        → ((fault : RuleFault) × (f None ≡ Err fault)) → ((y : X) → IsKnownOperation (make y)) → on make (f (old x)) ≡ Ok op
        → (on make (g (now x)) ≡ Ok op) × IsKnownOperation op
    field_up make f g x op alike fails known e = at (old x) refl e
      where
        made : (r : Result _ RuleFault) → on make r ≡ Ok op → IsKnownOperation op
        made (Ok y) h = let s : make y ≡ op = cc in subst IsKnownOperation s (known y)
        made (Err fault) h = absurd cc

        at : (o : Option Member) → old x ≡ o → on make (f o) ≡ Ok op → (on make (g (now x)) ≡ Ok op) × IsKnownOperation op
        at None is h = absurd (let bad = fails.1 in let s : on make (f None) ≡ Err fails.0 = ap (on make) bad in cc)
        at (Some k) is h = (ap (λ o. on make (g o)) (named_up x k is) ∙ ap (on make) (alike (Some k)) ∙ h, made (f (Some k)) h)

    returned_up : (x : Option Sort)
        → Carries (on ops.Return (result_returned v.classes x m.sig.result)) (on ops.Return (result_returned w.classes x m.sig.result))
    returned_up x op e = (ap (on ops.Return) (returned_same x m.sig.result) ∙ e, known (result_returned v.classes x m.sig.result) e)
      where
        known : (r : Result (Option Ty) RuleFault) → on ops.Return r ≡ Ok op → IsKnownOperation op
        known (Ok y) h = let is : ops.Return y ≡ op = cc in subst IsKnownOperation is tt
        known (Err fault) h = absurd cc

    numbers_up : (n : ℕ) → Carries (Ok (ops.NewArray (array_of n))) (Ok (ops.NewArray (array_of n)))
    numbers_up n op e = let is : ops.NewArray (array_of n) ≡ op = cc in (e, subst IsKnownOperation is (array_known n))

    -- ---- opcode by opcode

    abbrev AllCarry : List (Result Operation RuleFault) → List (Result Operation RuleFault) → Type 0
    AllCarry [] [] = Unit {0}
    AllCarry [] (s ∷ ss) = ⊥
    AllCarry (r ∷ rs) [] = ⊥
    AllCarry (r ∷ rs) (s ∷ ss) = Carries r s × AllCarry rs ss

    carry_both : (rs ss ts us : List (Result Operation RuleFault)) → AllCarry rs ss → AllCarry ts us → AllCarry (rs ++ ts) (ss ++ us)
    carry_both [] [] ts us a c = c
    carry_both [] (s ∷ ss) ts us a c = absurd a
    carry_both (r ∷ rs) [] ts us a c = absurd a
    carry_both (r ∷ rs) (s ∷ ss) ts us a c = (a.0, carry_both rs ss ts us a.1 c)

    -- what calls, makes and tests nothing by itself
    abbrev is_plain : Result Operation RuleFault → Bool
    is_plain (Ok (ops.Call c)) = false
    is_plain (Ok (ops.NewArray ty)) = false
    is_plain (Ok (ops.TypeTest test ty)) = false
    is_plain _ = true

    plain_known : (op : Operation) → is_plain (Ok op) ≡ true → IsKnownOperation op
    plain_known x e = grind (arith)

    plain_up : (r : Result Operation RuleFault) → is_plain r ≡ true → Carries r r
    plain_up r plain op e = (e, plain_known op (ap is_plain (sym e) ∙ plain))

    all_plain : (rs : List (Result Operation RuleFault)) → list_all is_plain rs ≡ true → AllCarry rs rs
    all_plain [] e = tt
    all_plain (r ∷ rs) e =
        let parts = and_parts (is_plain r) (list_all is_plain rs) e in
        (plain_up r parts.0, all_plain rs parts.1)

    at_op : (rs ss : List (Result Operation RuleFault)) (n : ℕ) (d : Result Operation RuleFault) → AllCarry rs ss → Carries d d
        → Carries (get_or rs n d) (get_or ss n d)
    at_op [] [] n d h e = e
    at_op [] (s ∷ ss) n d h e = absurd h
    at_op (r ∷ rs) [] n d h e = absurd h
    at_op (r ∷ rs) (s ∷ ss) zero d h e = h.0
    at_op (r ∷ rs) (s ∷ ss) (suc n) d h e = at_op rs ss n d h.1 e

    abbrev member_in : Linked → ℤ → Option Member
    member_in x n = member_at x m.package (short_of n)

    abbrev static_read : Linked → Kind → Result Operation RuleFault
    static_read x k = on ops.StaticRead (static_field (short_of i.x) k (member_in x i.x))

    abbrev static_write : Linked → Kind → Result Operation RuleFault
    static_write x k = on ops.StaticWrite (static_field (short_of i.x) k (member_in x i.x))

    abbrev field_read : Linked → Holder → Kind → Result Operation RuleFault
    field_read x h k = on (λ f. ops.FieldRead f h) (instance_field x.classes (short_of i.x) k (member_in x i.x))

    abbrev field_write : Linked → Holder → Kind → Result Operation RuleFault
    field_write x h k = on (λ f. ops.FieldWrite f h) (instance_field x.classes (short_of i.x) k (member_in x i.x))

    abbrev by_kinds : (Kind → Result Operation RuleFault) → List (Result Operation RuleFault)
    by_kinds f = f kinds.Ref ∷ f kinds.Byte ∷ f kinds.Short ∷ f kinds.Int ∷ []

    kinds_up : (f g : Kind → Result Operation RuleFault) → ((k : Kind) → Carries (f k) (g k)) → AllCarry (by_kinds f) (by_kinds g)
    kinds_up f g h = (h kinds.Ref, (h kinds.Byte, (h kinds.Short, (h kinds.Int, tt))))

    abbrev returns : Linked → List (Result Operation RuleFault)
    returns x =
        on ops.Return (result_returned x.classes (Some sorts.Reference) m.sig.result)
        ∷ on ops.Return (result_returned x.classes (Some sorts.Short) m.sig.result)
        ∷ on ops.Return (result_returned x.classes (Some sorts.Int) m.sig.result)
        ∷ on ops.Return (result_returned x.classes None m.sig.result) ∷ []

    abbrev calls : Linked → List (Result Operation RuleFault)
    calls x =
        on ops.Call (virtual_callee x (short_of i.x) (member_in x i.x))
        ∷ on ops.Call (special_callee x (short_of i.x) (member_in x i.x))
        ∷ on ops.Call (static_callee x (short_of i.x) (member_in x i.x))
        ∷ on ops.Call (interface_callee x (short_of i.y) (byte_of i.x) (byte_of i.z) (member_in x i.y)) ∷ []

    abbrev made : Linked → List (Result Operation RuleFault)
    made x =
        new_object x place (short_of i.x) (member_in x i.x)
        ∷ Ok (ops.NewArray (array_of (byte_of i.x)))
        ∷ on ops.NewArray (class_type ArrRef (short_of i.x) (member_in x i.x)) ∷ []

    abbrev tested : Linked → List (Result Operation RuleFault)
    tested x =
        on (ops.TypeTest tests.Cast) (tested_type (byte_of i.x) (short_of i.y) (member_in x i.y))
        ∷ on (ops.TypeTest tests.InstanceOf) (tested_type (byte_of i.x) (short_of i.y) (member_in x i.y)) ∷ []

    abbrev results : Linked → List (Result Operation RuleFault)
    results x = map (λ row. resolved x m place i row) table

    -- ---- the results of all opcodes: those of the four parts rest on no world

    abbrev first_part : List (Result Operation RuleFault)
    first_part = take 119 (results v)

    abbrev middle_part : List (Result Operation RuleFault)
    middle_part = take 2 (drop 146 (results v))

    abbrev last_part : List (Result Operation RuleFault)
    last_part = take 19 (drop 150 (results v))

    abbrev end_part : List (Result Operation RuleFault)
    end_part = drop 185 (results v)

    abbrev from_end : Linked → List (Result Operation RuleFault)
    from_end x = end_part

    abbrev from_puts_this : Linked → List (Result Operation RuleFault)
    from_puts_this x = by_kinds (field_write x holders.This) ++ from_end x

    abbrev from_puts_wide : Linked → List (Result Operation RuleFault)
    from_puts_wide x = by_kinds (field_write x holders.Stack) ++ from_puts_this x

    abbrev from_gets_this : Linked → List (Result Operation RuleFault)
    from_gets_this x = by_kinds (field_read x holders.This) ++ from_puts_wide x

    abbrev from_gets_wide : Linked → List (Result Operation RuleFault)
    from_gets_wide x = by_kinds (field_read x holders.Stack) ++ from_gets_this x

    abbrev from_last : Linked → List (Result Operation RuleFault)
    from_last x = last_part ++ from_gets_wide x

    abbrev from_tested : Linked → List (Result Operation RuleFault)
    from_tested x = tested x ++ from_last x

    abbrev from_middle : Linked → List (Result Operation RuleFault)
    from_middle x = middle_part ++ from_tested x

    abbrev from_made : Linked → List (Result Operation RuleFault)
    from_made x = made x ++ from_middle x

    abbrev from_calls : Linked → List (Result Operation RuleFault)
    from_calls x = calls x ++ from_made x

    abbrev from_puts : Linked → List (Result Operation RuleFault)
    from_puts x = by_kinds (field_write x holders.Stack) ++ from_calls x

    abbrev from_gets : Linked → List (Result Operation RuleFault)
    from_gets x = by_kinds (field_read x holders.Stack) ++ from_puts x

    abbrev from_static_writes : Linked → List (Result Operation RuleFault)
    from_static_writes x = by_kinds (static_write x) ++ from_gets x

    abbrev from_static_reads : Linked → List (Result Operation RuleFault)
    from_static_reads x = by_kinds (static_read x) ++ from_static_writes x

    abbrev from_returns : Linked → List (Result Operation RuleFault)
    from_returns x = returns x ++ from_static_reads x

    abbrev in_parts : Linked → List (Result Operation RuleFault)
    in_parts x = first_part ++ from_returns x

    parts-here : results v ≡ in_parts v
    unfolding table by_sort by_width by_kind first_four by_register literals binaries orders_all branching unused
    parts-here = refl

    parts-there : results w ≡ in_parts w
    unfolding table by_sort by_width by_kind first_four by_register literals binaries orders_all branching unused
    parts-there = refl

    plain_first : list_all is_plain first_part ≡ true
    unfolding table by_sort by_width by_kind first_four by_register literals binaries orders_all branching unused
    plain_first = refl

    plain_middle : list_all is_plain middle_part ≡ true
    unfolding table by_sort by_width by_kind first_four by_register literals binaries orders_all branching unused
    plain_middle = refl

    plain_last : list_all is_plain last_part ≡ true
    unfolding table by_sort by_width by_kind first_four by_register literals binaries orders_all branching unused
    plain_last = refl

    plain_end : list_all is_plain end_part ≡ true
    unfolding table by_sort by_width by_kind first_four by_register literals binaries orders_all branching unused
    plain_end = refl

    plain_unused : Carries (resolved v m place i unused) (resolved v m place i unused)
    unfolding unused
    plain_unused op e = (e, let is : ops.Constant constants.Nothing ≡ op = cc in subst IsKnownOperation is tt)

    unused-same : resolved v m place i unused ≡ resolved w m place i unused
    unfolding unused
    unused-same = refl

    reads_up : (k : Kind) → Carries (static_read v k) (static_read w k)
    reads_up k op e = grind (arith, field_up)

    writes_static : (k : Kind) → Carries (static_write v k) (static_write w k)
    writes_static k op e = grind (arith, field_up)

    gets_up : (h : Holder) (k : Kind) → Carries (field_read v h k) (field_read w h k)
    gets_up h k op e = grind (arith, field_up, instance_same)

    puts_up : (h : Holder) (k : Kind) → Carries (field_write v h k) (field_write w h k)
    puts_up h k op e = grind (arith, field_up, instance_same)

    calls_up : AllCarry (calls v) (calls w)
    calls_up = (
      called_up (virtual_callee v (short_of i.x)) (virtual_callee w (short_of i.x)) i.x refl (BadMember (short_of i.x), refl) (virtual_up (short_of i.x)),
      (
        called_up (special_callee v (short_of i.x)) (special_callee w (short_of i.x)) i.x refl (BadMember (short_of i.x), refl) (special_up (short_of i.x)),
        (
          called_up (static_callee v (short_of i.x)) (static_callee w (short_of i.x)) i.x refl (BadMember (short_of i.x), refl) (static_up (short_of i.x)),
          (
            called_up (interface_callee v (short_of i.y) (byte_of i.x) (byte_of i.z)) (interface_callee w (short_of i.y) (byte_of i.x) (byte_of i.z)) i.y refl
                (BadMember (short_of i.y), refl) (interface_up (short_of i.y) (byte_of i.x) (byte_of i.z)),
            tt,
          ),
        ),
      ),
    )

    made_up : AllCarry (made v) (made w)
    made_up = grind (arith, new_up, named_up, numbers_up, typed_by)

    up_end : AllCarry (from_end v) (from_end w)
    up_end = all_plain end_part plain_end

    up_puts_this : AllCarry (from_puts_this v) (from_puts_this w)
    up_puts_this = grind (arith, carry_both, kinds_up, puts_up, up_end)

    up_puts_wide : AllCarry (from_puts_wide v) (from_puts_wide w)
    up_puts_wide = grind (arith, carry_both, kinds_up, puts_up, up_puts_this)

    up_gets_this : AllCarry (from_gets_this v) (from_gets_this w)
    up_gets_this = grind (arith, carry_both, kinds_up, gets_up, up_puts_wide)

    up_gets_wide : AllCarry (from_gets_wide v) (from_gets_wide w)
    up_gets_wide = grind (arith, carry_both, kinds_up, gets_up, up_gets_this)

    up_last : AllCarry (from_last v) (from_last w)
    up_last = grind (arith, carry_both, all_plain, plain_last, up_gets_wide)

    up_tested : AllCarry (from_tested v) (from_tested w)
    up_tested =
        carry_both (tested v) (tested w) (from_last v) (from_last w)
        (tested_up tests.Cast i.y, (tested_up tests.InstanceOf i.y, tt)) up_last

    up_middle : AllCarry (from_middle v) (from_middle w)
    up_middle = grind (arith, carry_both, all_plain, plain_middle, up_tested)

    up_made : AllCarry (from_made v) (from_made w)
    up_made = grind (arith, carry_both, made_up, up_middle)

    up_calls : AllCarry (from_calls v) (from_calls w)
    up_calls = grind (arith, carry_both, calls_up, up_made)

    up_puts : AllCarry (from_puts v) (from_puts w)
    up_puts =
        carry_both (by_kinds (field_write v holders.Stack)) (by_kinds (field_write w holders.Stack)) (from_calls v) (from_calls w)
        (kinds_up (field_write v holders.Stack) (field_write w holders.Stack) (puts_up holders.Stack)) up_calls

    up_gets : AllCarry (from_gets v) (from_gets w)
    up_gets =
        carry_both (by_kinds (field_read v holders.Stack)) (by_kinds (field_read w holders.Stack)) (from_puts v) (from_puts w)
        (kinds_up (field_read v holders.Stack) (field_read w holders.Stack) (gets_up holders.Stack)) up_puts

    up_static_writes : AllCarry (from_static_writes v) (from_static_writes w)
    up_static_writes =
        carry_both (by_kinds (static_write v)) (by_kinds (static_write w)) (from_gets v) (from_gets w)
        (kinds_up (static_write v) (static_write w) writes_static) up_gets

    up_static_reads : AllCarry (from_static_reads v) (from_static_reads w)
    up_static_reads =
        carry_both (by_kinds (static_read v)) (by_kinds (static_read w)) (from_static_writes v) (from_static_writes w)
        (kinds_up (static_read v) (static_read w) reads_up) up_static_writes

    up_returns : AllCarry (from_returns v) (from_returns w)
    up_returns = grind (arith, carry_both, returned_up, up_static_reads)

    carried_all : AllCarry (results v) (results w)
    carried_all = grind (arith, parts-here, parts-there, carry_both, all_plain, plain_first, up_returns)

    carried : Carries (resolved v m place i (row_at i.op)) (resolved w m place i (row_at i.op))
    unfolding row_at
    carried op e =
        let here = sym (get_or-map (λ row. resolved v m place i row) table i.op unused) in
        let there = sym (get_or-map (λ row. resolved w m place i row) table i.op unused) in
        grind (arith, at_op, carried_all, plain_unused, get_or, unused-same)

  -- ---- the rule

  writes_up : (x : ℕ) (cells : Cells) (before after : List Ty) → WritesCells v.classes Flow x cells before after
      → WritesCells w.classes Flow x cells before after
  writes_up x x2 before after h = grind (arith)

  operation_up : (limit : ℕ) (op : Operation) (f g : Frame) (o : Outcome) → IsKnownOperation op → OperationApplies v limit op Flow f g o
      → OperationApplies w limit op Flow f g o
  operation_up limit op f g o known a = grind (arith, effect_same, demands_same, all_up, writes_up)

  pub rule_up : (m : MethodRec) (place : ℕ) (i : Insn) (f g : Frame) (o : Outcome) → RuleApplies v m place i Flow f g o
      → RuleApplies w m place i Flow f g o
  rule_up m place i f g o a =
      let c = carried m place i a.operation (sym a.resolves) in
      record { operation = a.operation; resolves = sym c.0; does = operation_up m.max_stack a.operation f g o c.1 a.does }
