-- What is resolved rests on the pool entry that is named.
use Rattle.std.proofs.Common.{◌≡◌, ℕ, ◌==◌, ◌||◌, if◌then◌else◌, Bool, true, false, Option, Some, None, IfSome, IfErr, Result, Ok, Err}
use Rattle.std.proofs.Common.{slice_get, refl, sym, ◌∙◌, ap, subst}
use Rattle.jc_base.specs.declared.ty.Ty.{Ty}
use Rattle.jc_base.specs.declared.ty.Ty.TheVariants.{Class, ArrRef}
use Rattle.jc_base.specs.declared.ty.Kind.{Kind}
use Rattle.jc_base.specs.declared.record.Member.{Member}
use Rattle.jc_base.specs.declared.record.Member.TheVariants.{ClassOf}
use Rattle.jc_base.specs.declared.record.MethodRec.{MethodRec}
use Rattle.jc_base.specs.Class.{ClassTable, is_interface}
use Rattle.jc_base.specs.Dispatch.{IsConcrete, is_concrete}
use Rattle.jc_base.specs.Laws.{ConcreteDecides}
use Rattle.jc_base.specs.World.{Linked, member_at}
use Rattle.jc_decode.specs.declared.insn.Insn.{Insn}
use Rattle.jc_ops.specs.declared.fault.RuleFault.{RuleFault}
use Rattle.jc_ops.specs.declared.fault.RuleFault.TheVariants.{BadMember, NotConcrete, Mismatch}
use Rattle.jc_ops.specs.declared.operation.Want.{Want}
use Rattle.jc_ops.specs.declared.operation.Sort.{Sort}
use Rattle.jc_ops.specs.declared.operation.Choice.{Choice}
use Rattle.jc_ops.specs.declared.operation.Operation.{Operation}
use Rattle.jc_ops.specs.declared.operation.Operation.TheVariants as ops
use Rattle.jc_ops.specs.declared.row.Invocation.TheVariants as invocations
use Rattle.jc_ops.specs.declared.row.Row.{Row}
use Rattle.jc_ops.specs.declared.row.Row.TheVariants as rows
use Rattle.jc_ops.specs.Row.{row_at}
use Rattle.jc_ops.specs.Resolve.{byte_of, short_of, taken_if, on, static_field, instance_field, callee_if, entry_callee, virtual_callee}
use Rattle.jc_ops.specs.Resolve.{special_callee, static_callee, only, described, described_callee, interface_callee, class_type, array_of, tested_type, returns}
use Rattle.jc_ops.specs.Resolve.{returned, result_type, result_returned, new_object, resolved, Resolves}
use Rattle.std.proofs.lemmas.Bool.{false≢true}
use Rattle.jc_ops.specs.Sound.{RefusesAbstract}
use Rattle.jc_ops.specs.Entry.{entry_of, entry_named, RestsOnEntry, FaultNamesEntry}
use Rattle.jc_base.specs.declared.record.Member.TheVariants.{Field, Static, Virtual, Super, StaticCall}
use Rattle.jc_base.specs.Dispatch.{entry_at}
use Rattle.jc_ops.specs.Resolve.{same_kind}

-- ---- the same entry gives the same operation

tested-rests : (atype pool : ℕ) (at other : ℕ → Option Member) → IfSome (if atype == 0 || atype == 14 then Some pool else None)
    (λ entry. at entry ≡ other entry) → tested_type atype pool (at pool) ≡ tested_type atype pool (other pool)
tested-rests atype pool at other h = go (atype == 0) (atype == 14) h
  where
    go : (b c : Bool) → IfSome (if b || c then Some pool else None) (λ entry. at entry ≡ other entry)
        → (if b then class_type Class pool (at pool) else if c then class_type ArrRef pool (at pool) else Ok (array_of atype))
        ≡ (if b then class_type Class pool (other pool) else if c then class_type ArrRef pool (other pool) else Ok (array_of atype))
    go true c e = ap (class_type Class pool) e
    go false true e = ap (class_type ArrRef pool) e
    go false false e = refl

module _ (w : Linked) (m n : MethodRec) (place : ℕ) (i : Insn) (r : Result Operation RuleFault) (same_result : m.sig.result ≡ n.sig.result) where
  row-rests : (row : Row) → IfSome (entry_of i row) (λ entry. member_at w m.package entry ≡ member_at w n.package entry)
      → r ≡ resolved w m place i row → r ≡ resolved w n place i row
  row-rests (rows.StaticRead k) e h = h ∙ ap (λ o. on ops.StaticRead (static_field (short_of i.x) k o)) e
  row-rests (rows.StaticWrite k) e h = h ∙ ap (λ o. on ops.StaticWrite (static_field (short_of i.x) k o)) e
  row-rests (rows.FieldRead k holder) e h = h ∙ ap (λ o. on (λ f. ops.FieldRead f holder) (instance_field w.classes (short_of i.x) k o)) e
  row-rests (rows.FieldWrite k holder) e h = h ∙ ap (λ o. on (λ f. ops.FieldWrite f holder) (instance_field w.classes (short_of i.x) k o)) e
  row-rests (rows.Call invocations.Virtual) e h = h ∙ ap (λ o. on ops.Call (virtual_callee w (short_of i.x) o)) e
  row-rests (rows.Call invocations.Special) e h = h ∙ ap (λ o. on ops.Call (special_callee w (short_of i.x) o)) e
  row-rests (rows.Call invocations.Static) e h = h ∙ ap (λ o. on ops.Call (static_callee w (short_of i.x) o)) e
  row-rests (rows.Call invocations.Interface) e h = h ∙ ap (λ o. on ops.Call (interface_callee w (short_of i.y) (byte_of i.x) (byte_of i.z) o)) e
  row-rests rows.New e h = h ∙ ap (new_object w place (short_of i.x)) e
  row-rests rows.NewReferences e h = h ∙ ap (λ o. on ops.NewArray (class_type ArrRef (short_of i.x) o)) e
  row-rests (rows.TypeTest test) e h =
      h ∙ ap (on (ops.TypeTest test)) (tested-rests (byte_of i.x) (short_of i.y) (member_at w m.package) (member_at w n.package) e)
  row-rests (rows.Return sort) e h = h ∙ ap (λ result. on ops.Return (result_returned w.classes sort result)) same_result
  row-rests (rows.Plain op) e h = h
  row-rests rows.PushShort e h = h
  row-rests rows.PushInt e h = h
  row-rests (rows.Load s) e h = h
  row-rests (rows.Store s) e h = h
  row-rests (rows.Increment width) e h = h
  row-rests rows.CopyUnder e h = h
  row-rests rows.Exchange e h = h
  row-rests rows.NewNumbers e h = h

pub rests-on-entry : (w : Linked) → RestsOnEntry w
rests-on-entry w m n place i r e result h = row-rests w m n place i r result (row_at i.op) e h

-- ---- the fault has the number of the entry

-- a fault that names this entry
abbrev Faults : {X : Type 0} → ℕ → Result X RuleFault → Type 0
Faults pool r = IfErr r (λ fault. fault ≡ BadMember pool)

taken-faults : {X : Type 0} (b : Bool) (pool : ℕ) (x : X) → Faults pool (taken_if b pool x)
taken-faults true pool x = tt
taken-faults false pool x = refl

static-faults : (pool : ℕ) (k : Kind) (o : Option Member) → Faults pool (static_field pool k o)
static-faults pool k (Some (Static slot kind ty)) = taken-faults (same_kind k kind) pool (record { slot = slot; kind = kind; ty = ty })
static-faults pool k _ = refl

field-faults : (t : ClassTable) (pool : ℕ) (k : Kind) (o : Option Member) → Faults pool (instance_field t pool k o)
field-faults t pool k (Some (Field c cell kind ty)) = taken-faults _ pool (record { class = c; cell = cell; kind = kind; ty = ty })
field-faults t pool k _ = refl

callee-faults : (test : MethodRec → Bool) (pool n : ℕ) (o : Option MethodRec) (receiver : MethodRec → Option Want) (choice : Choice)
    → Faults pool (callee_if test pool n o receiver choice)
callee-faults test pool n None receiver choice = refl
callee-faults test pool n (Some m) receiver choice = taken-faults (test m) pool (record { method = n; receiver = receiver m; choice = choice })

module _ (w : Linked) where
  entry-faults : (pool c token : ℕ) (o : Option ℕ) → Faults pool (entry_callee w pool c token o)
  entry-faults pool c token None = refl
  entry-faults pool c token (Some n) = callee-faults _ pool n (slice_get w.methods n) _ _

  virtual-faults : (pool : ℕ) (o : Option Member) → Faults pool (virtual_callee w pool o)
  virtual-faults pool (Some (Virtual c token)) = entry-faults pool c token (entry_at w.classes c token)
  virtual-faults pool _ = refl

  special-faults : (pool : ℕ) (o : Option Member) → Faults pool (special_callee w pool o)
  special-faults pool (Some (Super c n)) = callee-faults _ pool n (slice_get w.methods n) _ _
  special-faults pool (Some (StaticCall n)) = callee-faults _ pool n (slice_get w.methods n) _ _
  special-faults pool _ = refl

  static_call-faults : (pool : ℕ) (o : Option Member) → Faults pool (static_callee w pool o)
  static_call-faults pool (Some (StaticCall n)) = callee-faults _ pool n (slice_get w.methods n) _ _
  static_call-faults pool _ = refl

  described-faults : (pool nargs c token : ℕ) (o : Option ℕ) → Faults pool (described_callee w pool nargs c token o)
  described-faults pool nargs c token None = refl
  described-faults pool nargs c token (Some n) = callee-faults _ pool n (slice_get w.methods n) _ _

  interface-faults : (pool nargs token : ℕ) (o : Option Member) → Faults pool (interface_callee w pool nargs token o)
  interface-faults pool nargs token (Some (ClassOf c)) = at (is_interface w.classes c)
    where
      at : (b : Bool) → Faults pool (if b then described_callee w pool nargs c token (only (described w.methods c token)) else Err (BadMember pool))
      at true = described-faults pool nargs c token (only (described w.methods c token))
      at false = refl
  interface-faults pool nargs token _ = refl

class-faults : (make : ℕ → Ty) (pool : ℕ) (o : Option Member) → Faults pool (class_type make pool o)
class-faults make pool (Some (ClassOf c)) = tt
class-faults make pool _ = refl

-- ---- what a fault tells

-- the entry that it names is the one that is named; a class that it names is not concrete
abbrev Tells : Linked → Option ℕ → RuleFault → Type 0
Tells w named (BadMember entry) = named ≡ Some entry
Tells w named (NotConcrete c) = ¬ (IsConcrete w.classes w.methods c)
Tells w named _ = Unit {0}

module _ (w : Linked) (decides : ConcreteDecides w.classes w.methods) where
  named-by : {X : Type 0} (op : X → Operation) (pool : ℕ) (r : Result X RuleFault) → Faults pool r → IfErr (on op r) (Tells w (Some pool))
  named-by op pool (Ok x) f = tt
  named-by op pool (Err fault) f = subst (Tells w (Some pool)) (sym f) refl

  tested-tells : (test : Ty → Operation) (atype pool : ℕ) (o : Option Member)
      → IfErr (on test (tested_type atype pool o)) (Tells w (if atype == 0 || atype == 14 then Some pool else None))
  tested-tells test atype pool o = go (atype == 0) (atype == 14)
    where
      go : (b c : Bool) → IfErr (on test (if b then class_type Class pool o else if c then class_type ArrRef pool o else Ok (array_of atype)))
          (Tells w (if b || c then Some pool else None))
      go true c = named-by test pool (class_type Class pool o) (class-faults Class pool o)
      go false true = named-by test pool (class_type ArrRef pool o) (class-faults ArrRef pool o)
      go false false = tt

  return-tells : (t : ClassTable) (sort : Option Sort) (result : Option Ty) → IfErr (on ops.Return (result_returned t sort result)) (Tells w None)
  return-tells t sort result = go (returns sort result)
    where
      go : (b : Bool) → IfErr (on ops.Return (if b then Ok result else Err (Mismatch (returned t sort) (result_type result)))) (Tells w None)
      go true = tt
      go false = tt

  new-tells : (place pool : ℕ) (o : Option Member) → IfErr (new_object w place pool o) (Tells w (Some pool))
  new-tells place pool (Some (ClassOf c)) = go (is_concrete w.classes w.methods c) refl
    where
      go : (b : Bool) → is_concrete w.classes w.methods c ≡ b → IfErr (if b then Ok (ops.New place c) else Err (NotConcrete c)) (Tells w (Some pool))
      go true e = tt
      go false e = λ concrete. false≢true (sym e ∙ (decides c).1 concrete)
  new-tells place pool _ = refl

  row-tells : (m : MethodRec) (place : ℕ) (i : Insn) (row : Row) → IfErr (resolved w m place i row) (Tells w (entry_of i row))
  row-tells m place i (rows.StaticRead k) =
      named-by ops.StaticRead (short_of i.x) (static_field (short_of i.x) k (member_at w m.package (short_of i.x)))
      (static-faults (short_of i.x) k (member_at w m.package (short_of i.x)))
  row-tells m place i (rows.StaticWrite k) =
      named-by ops.StaticWrite (short_of i.x) (static_field (short_of i.x) k (member_at w m.package (short_of i.x)))
      (static-faults (short_of i.x) k (member_at w m.package (short_of i.x)))
  row-tells m place i (rows.FieldRead k holder) =
      named-by (λ f. ops.FieldRead f holder) (short_of i.x) (instance_field w.classes (short_of i.x) k (member_at w m.package (short_of i.x)))
      (field-faults w.classes (short_of i.x) k (member_at w m.package (short_of i.x)))
  row-tells m place i (rows.FieldWrite k holder) =
      named-by (λ f. ops.FieldWrite f holder) (short_of i.x) (instance_field w.classes (short_of i.x) k (member_at w m.package (short_of i.x)))
      (field-faults w.classes (short_of i.x) k (member_at w m.package (short_of i.x)))
  row-tells m place i (rows.Call invocations.Virtual) =
      named-by ops.Call (short_of i.x) (virtual_callee w (short_of i.x) (member_at w m.package (short_of i.x)))
      (virtual-faults w (short_of i.x) (member_at w m.package (short_of i.x)))
  row-tells m place i (rows.Call invocations.Special) =
      named-by ops.Call (short_of i.x) (special_callee w (short_of i.x) (member_at w m.package (short_of i.x)))
      (special-faults w (short_of i.x) (member_at w m.package (short_of i.x)))
  row-tells m place i (rows.Call invocations.Static) =
      named-by ops.Call (short_of i.x) (static_callee w (short_of i.x) (member_at w m.package (short_of i.x)))
      (static_call-faults w (short_of i.x) (member_at w m.package (short_of i.x)))
  row-tells m place i (rows.Call invocations.Interface) =
      named-by ops.Call (short_of i.y) (interface_callee w (short_of i.y) (byte_of i.x) (byte_of i.z) (member_at w m.package (short_of i.y)))
      (interface-faults w (short_of i.y) (byte_of i.x) (byte_of i.z) (member_at w m.package (short_of i.y)))
  row-tells m place i rows.New = new-tells place (short_of i.x) (member_at w m.package (short_of i.x))
  row-tells m place i rows.NewReferences =
      named-by ops.NewArray (short_of i.x) (class_type ArrRef (short_of i.x) (member_at w m.package (short_of i.x)))
      (class-faults ArrRef (short_of i.x) (member_at w m.package (short_of i.x)))
  row-tells m place i (rows.TypeTest test) = tested-tells (ops.TypeTest test) (byte_of i.x) (short_of i.y) (member_at w m.package (short_of i.y))
  row-tells m place i (rows.Return sort) = return-tells w.classes sort m.sig.result
  row-tells m place i (rows.Plain op) = tt
  row-tells m place i rows.PushShort = tt
  row-tells m place i rows.PushInt = tt
  row-tells m place i (rows.Load s) = tt
  row-tells m place i (rows.Store s) = tt
  row-tells m place i (rows.Increment width) = tt
  row-tells m place i rows.CopyUnder = tt
  row-tells m place i rows.Exchange = tt
  row-tells m place i rows.NewNumbers = tt

  fault-tells : (m : MethodRec) (place : ℕ) (i : Insn) (fault : RuleFault) → Resolves w m place i (Err fault) → Tells w (entry_named i) fault
  fault-tells m place i fault h = subst (λ r. IfErr r (Tells w (entry_named i))) (sym h) (row-tells m place i (row_at i.op))

pub fault-names-entry : (w : Linked) → ConcreteDecides w.classes w.methods → FaultNamesEntry w
fault-names-entry w decides m place i entry h = fault-tells w decides m place i (BadMember entry) h

pub refuses-abstract : (w : Linked) → ConcreteDecides w.classes w.methods → RefusesAbstract w
refuses-abstract w decides m place i c h = fault-tells w decides m place i (NotConcrete c) h
