-- Tagged cells: the types of cells name classes, and an operation that passes the tests has what it asks.
use Rattle.std.proofs.Common.{◌≡◌, ℕ, zero, suc, ◌<◌, ◌≤◌, ◌==◌, Bool, true, false, List, [], ◌∷◌, length, refl, subst, arith}
use Rattle.std.specs.Prelude.{Some, None, Ok, All, Contains, IfSome, if◌then◌else◌, cond, find, map, slice_get}
use Rattle.std.proofs.lemmas.Bool.{eqb-true}
use Rattle.std.proofs.lemmas.List.Elements.{All-head, All-tail}
use Rattle.std.proofs.lemmas.Option.{slice_get_within}
use Rattle.jc_base.specs.declared.ty.Ty.TheVariants.{Bottom}
use Rattle.jc_base.specs.declared.record.MethodRec.{MethodRec}
use Rattle.jc_base.specs.Class.{ClassTable, AreClasses, IsClass, is_interface, object, class_in_types}
use Rattle.jc_base.specs.Cell.{IsDeclared}
use Rattle.jc_base.specs.Order.{IsKnown}
use Rattle.jc_base.specs.Linked.{IsMethod}
use Rattle.jc_base.specs.World.{Linked, IsWorld}
use Rattle.jc_base.proofs.Lists.{All-slice_get}
use Rattle.jc_decode.specs.declared.insn.Placed.{Placed}
use Rattle.jc_decode.specs.Decoding.{decoded}
use Rattle.jc_decode.specs.Listing.{listing}
use Rattle.jc_decode.proofs.Elements.{Contains-first, Contains-later}
use Rattle.jc_decode.proofs.InstructionLists.{all-are-listed}
use Rattle.jc_ops.specs.declared.operation.Operation.{Operation}
use Rattle.jc_ops.specs.Resolve.{Resolves}
use Rattle.jc_ops.specs.Sound.{IsSound, OperationsAreSound}
use Rattle.jc_rules.specs.Demand.{AreDecided}
use Rattle.jc_rules.specs.Footprint.{registers_asked, cells_asked}
use Rattle.jc_rules.specs.Rule.{demands}
use Rattle.vm_store.specs.declared.cell.Cell.{Cell}
use Rattle.vm_store.specs.declared.cell.Cell.TheVariants as cells
use Rattle.vm_store.specs.declared.cell.ObjectKind.{ObjectKind}
use Rattle.vm_store.specs.Kind.{type_of_kind}
use Rattle.vm_store.specs.Typing.{least_type, type_seen, fresh_seen}
use Rattle.vm_store.specs.Cells.{tagged}
use Rattle.vm_store.specs.State.{Frame, State, Object, first_frame, top}
use Rattle.vm_store.specs.Objects.{kinds}
use Rattle.vm_step.specs.Methods.{code_at, instruction_at}
use Rattle.vm_step.specs.Step.{Fetches}
use Rattle.vm_step.specs.Tests.{fault_before}
use Rattle.vm_act.specs.Reaches.{FindsNamed, IsInCode}
use Rattle.vm_check.specs.Shaped.{IsShaped, IsShapedFrame, IsShapedObject, IsShapedFor}
use Rattle.vm_check.specs.Machine.{TestsReach, KnowsTypes, KeepsShape}
use Rattle.vm_check.proofs.Tested.{passes}
use Rattle.vm_check.proofs.Finding.{finds}
use Rattle.vm_check.proofs.Rooming.{room-for}

-- ---- known types

seen-class : (t : ClassTable) → AreClasses t → (c : ℕ) → c < length t.records → IsClass t (class_in_types t c)
seen-class t are c lt = by (is_interface t c) refl
  where
    by : (b : Bool) → is_interface t c ≡ b → IsClass t (if b then object t else c)
    by true e = are.objects
    by false e = record { number = lt; class = e }

kind-known : (t : ClassTable) → AreClasses t → (kind : ObjectKind) (n : ℕ) → IsShapedFor t kind n → IsKnown t (type_of_kind t kind)
kind-known t are kind n h = grind (arith, seen-class)

seen-known : (t : ClassTable) → AreClasses t → (heap : List (Object Cell)) (n : ℕ) → All (IsShapedObject t) heap
    → IsKnown t (type_seen t (slice_get (map (λ (o : Object Cell). o.kind) heap) n))
seen-known t are [] n h = tt
seen-known t are (o ∷ os) zero h = kind-known t are o.kind (length o.cells) (All-head (IsShapedObject t) o os h)
seen-known t are (o ∷ os) (suc n) h = seen-known t are os n (All-tail (IsShapedObject t) o os h)

fresh-kind : (t : ClassTable) (p : ℕ) (kind : ObjectKind) (n : ℕ) → IsShapedFor t kind n → IsKnown t (fresh_seen p (Some kind))
fresh-kind t p kind n h = grind (arith)

fresh-known : (t : ClassTable) (p : ℕ) (heap : List (Object Cell)) (n : ℕ) → All (IsShapedObject t) heap
    → IsKnown t (fresh_seen p (slice_get (map (λ (o : Object Cell). o.kind) heap) n))
fresh-known t p [] n h = tt
fresh-known t p (o ∷ os) zero h = fresh-kind t p o.kind (length o.cells) (All-head (IsShapedObject t) o os h)
fresh-known t p (o ∷ os) (suc n) h = fresh-known t p os n (All-tail (IsShapedObject t) o os h)

cell-known : (t : ClassTable) → AreClasses t → (s : State Cell) → All (IsShapedObject t) s.heap → (c : Cell)
    → IsKnown t (least_type t Bottom (kinds s) c)
cell-known t are s h (cells.Ref (suc n)) = seen-known t are s.heap n h
cell-known t are s h (cells.Fresh (suc n) p) = fresh-known t p s.heap n h
cell-known t are s h c = tt

pub knows-types : (w : Linked) → IsWorld w → KnowsTypes tagged (IsShaped w) w
knows-types w is s kept = record { each = cell-known w.classes is.chains s kept.objects }

pub keeps-shape : (w : Linked) → KeepsShape {A = Cell} (IsShaped w) w
keeps-shape w s kept = kept

-- ---- what tests reach

found-in : (place : ℕ) (is : List Placed) (i : Placed) → find (λ (j : Placed). j.place == place) is ≡ Some i → Contains is i × (i.place ≡ place)
found-in place [] i e = absurd (cc)
found-in place (j ∷ js) i e = by (j.place == place) refl e (found-in place js i)
  where
    by : (b : Bool) → (j.place == place) ≡ b → cond b (Some j) (find (λ (k : Placed). k.place == place) js) ≡ Some i
        → (find (λ (k : Placed). k.place == place) js ≡ Some i → Contains js i × (i.place ≡ place)) → Contains (j ∷ js) i × (i.place ≡ place)
    by true t h more =
        let here : j ≡ i = cc in
        (subst (λ (k : Placed). Contains (j ∷ js) k) here (Contains-first j js), subst (λ (k : Placed). k.place ≡ place) here (eqb-true j.place place t))
    by false t h more = let rest = more h in (Contains-later j js i rest.0, rest.1)

decoded-at : (code : List ℕ) (place : ℕ) (i : Placed) → instruction_at code place ≡ Some i → decoded code place ≡ Ok i.insn
unfolding instruction_at
decoded-at code place i e = grind (arith, found-in place (listing code) i e, all-are-listed code)

pub top-shaped : {A : Type 0} (w : Linked) (fs : List (Frame A)) → 0 < length fs → All (IsShapedFrame w) fs → IsShapedFrame w (first_frame fs)
top-shaped w x lt h = grind (arith)

result-declared : (w : Linked) → IsWorld w → (n : ℕ) (m : MethodRec) → slice_get w.methods n ≡ Some m → IfSome m.sig.result (IsDeclared w.classes)
result-declared w is n m e =
    let method : IsMethod w.infos w.pools w.classes m = All-slice_get (IsMethod w.infos w.pools w.classes) w.methods n m is.methods e in method.result

-- what the tests that pass say of an operation that is fetched and named
pub record Tested (w : Linked) (s : State Cell) (i : Placed) (op : Operation) : Type 0 where
  pub registers : registers_asked (demands w op) ≤ length (top s).registers
  pub cells : cells_asked (demands w op) ≤ length (top s).stack
  pub finds : FindsNamed tagged w i.insn op s
  pub sound : (m : MethodRec) × IsSound w m i.place op

pub tested : (w : Linked) → IsWorld w → AreDecided w.classes → OperationsAreSound w → (s : State Cell) (m : MethodRec) (i : Placed) (op : Operation)
    → IsShaped w s
    → Fetches w s m i → Resolves w m i.place i.insn (Ok op) → fault_before tagged w op s ≡ None → Tested w s i op
tested w is decided sounds s m i op kept fetched r none =
    let pass = passes tagged w decided (demands w op) s none in
    let sound : IsSound w m i.place op = sounds m i.place i.insn op (result-declared w is (top s).method m fetched.method) r in
    let at : decoded (code_at w (top s).method) (top s).place ≡ Ok i.insn = decoded-at (code_at w (top s).method) (top s).place i fetched.instruction in
    let code : IsInCode w i.insn s = record { method = slice_get_within w.methods (top s).method m fetched.method; instruction = at } in
    record {
      registers = pass.registers;
      cells = pass.cells;
      finds = finds w is s kept m i.place i.insn op sound code pass.hold;
      sound = (m, sound);
    }

pub tests-reach : (w : Linked) → IsWorld w → AreDecided w.classes → OperationsAreSound w → TestsReach 510 tagged (IsShaped w) w
tests-reach w is decided sounds s m i op kept fetched few r none =
    let told = tested w is decided sounds s m i op kept fetched r none in
    let framed = top-shaped w s.frames fetched.runs kept.frames in
    record {
      registers = told.registers;
      cells = told.cells;
      room = room-for w told.sound.0 i.place op (length (top s).stack) told.sound.1 (omega (arith, framed.cells, few));
      finds = told.finds;
    }
