-- A jump stays in the method on top.
use Rattle.std.proofs.Common.{arith}
use Rattle.std.proofs.Common.{◌≡◌, ℕ, ◌==◌, Bool, true, false, if◌then◌else◌, refl}
use Rattle.std.specs.Prelude.{ℤ, Option, ⊤}
use Rattle.jc_base.specs.declared.ty.Ty.{Ty}
use Rattle.jc_base.specs.Cell.{width}
use Rattle.jc_base.specs.World.{Linked}
use Rattle.jc_decode.specs.declared.insn.Insn.{Insn}
use Rattle.jc_decode.specs.Listing.{target}
use Rattle.jc_ops.specs.declared.operation.Arithmetic.{Arithmetic}
use Rattle.jc_ops.specs.declared.operation.Choice.{Choice}
use Rattle.jc_ops.specs.declared.operation.Callee.{Callee}
use Rattle.jc_ops.specs.declared.operation.Operation.{Operation}
use Rattle.jc_ops.specs.declared.operation.Operation.TheVariants as ops
use Rattle.jc_ops.specs.declared.operation.TypeTest.{TypeTest}
use Rattle.vm_store.specs.declared.cell.ObjectKind.{ObjectKind}
use Rattle.vm_store.specs.Cells.{Cells}
use Rattle.vm_store.specs.State.{State, top}
use Rattle.vm_step.specs.declared.ending.Exception.{Exception}
use Rattle.vm_step.specs.declared.ending.Exception.TheVariants as exceptions
use Rattle.vm_step.specs.Act.{Act, goes, jumps, raises, throws, unless_null, if_some}
use Rattle.vm_step.specs.Branching.{leads_if, is_taken, branch_width}
use Rattle.vm_step.specs.Calls.{served_act, interface_act, chosen_act, args_of, return_act}
use Rattle.vm_step.specs.Fields.{held_handle, with_field_read, with_field_write}
use Rattle.vm_step.specs.Numbers.{handle_at, short_at, dropped}
use Rattle.vm_step.specs.Objects.{kind_of_type, array_of_count, type_test_act}
use Rattle.vm_step.specs.Performed.{act}
use Rattle.vm_step.specs.Values.{arithmetic_act}

module _ {A : Type 0} (k : Cells A) (w : Linked) (s : State A) where
  -- where the act is a jump, its state has the method on top
  abbrev pub Stays : Act A → Type 0
  Stays (jumps to z) = (top z).method ≡ (top s).method
  Stays _ = ⊤

  null-stays : (h : ℕ) (a : ℕ → Act A) → Stays (a h) → Stays (unless_null h a)
  null-stays h a stays = by (h == 0)
    where
      by : (b : Bool) → Stays (if b then raises exceptions.NullPointer else a h)
      by true = tt {0}
      by false = stays

  some-stays : {X : Type 0} (e : Exception) (o : Option X) (a : X → Act A) → ((x : X) → Stays (a x)) → Stays (if_some e o a)
  some-stays e x a stays = grind (arith)

  goes-or : (b : Bool) (z : State A) (e : Exception) → Stays (if b then goes z else raises e)
  goes-or x z e = grind (arith)

  leads-stays : (taken : Bool) (to : ℤ) (n : ℕ) → Stays (leads_if taken to (dropped s n))
  leads-stays x to n = grind (arith)

  arithmetic-stays : (a : Arithmetic) → Stays (arithmetic_act k a s)
  arithmetic-stays a = grind (arith, some-stays)

  served-stays : (o : Option ℕ) (class count : ℕ) → Stays (served_act o class count s)
  served-stays x class count = grind (arith)

  interface-stays : (c token count : ℕ) (o : Option ObjectKind) → Stays (interface_act w.classes c token count o s)
  interface-stays c token count o = grind (arith, served-stays)

  chosen-stays : (callee : Callee) (args : ℕ) (choice : Choice) → Stays (chosen_act k w.classes callee args choice s)
  chosen-stays callee args x = grind (arith, null-stays, interface-stays)

  array-stays : (kind : ObjectKind) (count : ℤ) (z : State A) → Stays (array_of_count k kind count z)
  array-stays kind x z = grind (arith)

  test-stays : (test : TypeTest) (ty : Ty) → Stays (type_test_act k w.classes test ty s)
  test-stays x ty = grind (arith, goes-or)

  return-stays : (result : Option Ty) → Stays (return_act k result s)
  return-stays result = grind (arith)

  pub jumps-stay : (i : Insn) (op : Operation) → Stays (act k w i op s)
  jumps-stay i (ops.Arithmetic a) = arithmetic-stays a
  jumps-stay i (ops.ArrayRead kind) = grind (arith, null-stays, some-stays)
  jumps-stay i (ops.ArrayWrite kind) = grind (arith, null-stays, some-stays, goes-or)
  jumps-stay i ops.ArrayLength = grind (arith, null-stays)
  jumps-stay i (ops.Branch branch) = leads-stays (is_taken k branch (top s).stack) (target (top s).place i.x) (branch_width branch)
  jumps-stay i (ops.Switch width) = refl
  jumps-stay i (ops.FieldRead f holder) = null-stays (held_handle k holder 0 s) (λ n. goes (with_field_read k f holder n s)) (tt {0})
  jumps-stay i (ops.FieldWrite f holder) = null-stays (held_handle k holder (width f.kind) s) (λ n. goes (with_field_write k f holder n s)) (tt {0})
  jumps-stay i (ops.Call callee) = chosen-stays callee (args_of w callee.method) callee.choice
  jumps-stay i (ops.NewArray ty) = array-stays (kind_of_type ty) (short_at k (top s).stack 0) (dropped s 1)
  jumps-stay i ops.Throw = null-stays (handle_at k (top s).stack 0) throws (tt {0})
  jumps-stay i (ops.TypeTest test ty) = test-stays test ty
  jumps-stay i (ops.Return result) = return-stays result
  jumps-stay i op = tt {0}
