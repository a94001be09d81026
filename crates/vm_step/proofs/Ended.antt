-- What is left where a run ends.
use Rattle.std.proofs.Common.{◌≡◌, ◌≢◌, ℕ, suc, ◌+◌, ℤ, Bool, List, [], ◌∷◌, ◌++◌, length, map}
use Rattle.std.proofs.Common.{refl, ap, ◌∙◌, arith, inl, inr, ◌⊎◌}
use Rattle.std.specs.Prelude.{Option, Some, if◌then◌else◌, ◌==◌, slice_get}
use Rattle.jc_base.specs.declared.ty.Ty.{Ty}
use Rattle.jc_base.specs.declared.record.Handler.{Handler}
use Rattle.jc_base.specs.Dispatch.{cells_of}
use Rattle.jc_base.specs.World.{Linked}
use Rattle.jc_decode.specs.declared.insn.Insn.{Insn}
use Rattle.jc_ops.specs.declared.operation.Operation.{Operation}
use Rattle.jc_ops.specs.declared.operation.Operation.TheVariants as ops
use Rattle.jc_ops.specs.declared.operation.Arithmetic.TheVariants as arithmetic
use Rattle.jc_ops.specs.declared.operation.TypeTest.TheVariants as tests
use Rattle.jc_ops.specs.declared.operation.Callee.{Callee}
use Rattle.jc_ops.specs.declared.operation.Choice.{Choice}
use Rattle.jc_ops.specs.declared.operation.Choice.TheVariants as choices
use Rattle.vm_store.specs.declared.cell.ObjectKind.{ObjectKind}
use Rattle.vm_store.specs.declared.cell.ObjectKind.TheVariants.{Instance}
use Rattle.vm_store.specs.Cells.{Cells}
use Rattle.vm_store.specs.State.{Frame, Object, State, top, with_place}
use Rattle.vm_store.specs.Objects.{has_room, new_instance_cells, with_object}
use Rattle.vm_step.specs.declared.ending.Ending.{Ending}
use Rattle.vm_step.specs.declared.ending.Ending.TheVariants.{Plain, Faulted}
use Rattle.vm_step.specs.declared.ending.Fault.{Fault}
use Rattle.vm_step.specs.declared.ending.Fault.TheVariants.{StackFault}
use Rattle.vm_step.specs.declared.ending.Plain.TheVariants.{Threw, Spent, HeapFull, InterfaceMissing}
use Rattle.vm_step.specs.declared.ending.Exception.{Exception}
use Rattle.vm_step.specs.declared.ending.Exception.TheVariants as exceptions
use Rattle.vm_step.specs.Act.{Act, goes, jumps, makes, calls, gives, raises, throws, lacks, unless_null, if_some}
use Rattle.vm_step.specs.Objects.{array_of_count}
use Rattle.vm_step.specs.Branching.{leads_if}
use Rattle.vm_step.specs.Calls.{class_of, class_with_methods, readied, served_act, interface_act, chosen_act, return_act}
use Rattle.vm_step.specs.Performed.{act}
use Rattle.vm_step.specs.Raising.{Outcome, running, ended, ends, caught_or, unwound, thrown, raised}
use Rattle.vm_step.specs.Settled.{unless_fault, fault_next, fault_target, place_number, goes_to, settled}
use Rattle.vm_step.specs.Step.{Steps}
use Rattle.vm_step.specs.Run.{Runs, stands, stops, steps}
use Rattle.vm_step.specs.Leaving.{class_raised, IsLeft, EndingsLeave, ComesToEnd, RunsLeave}

-- ---- the object that was made last

last-kind : {A : Type 0} (os : List (Object A)) (o : Object A) → slice_get (map (λ (x : Object A). x.kind) (os ++ o ∷ [])) (length os) ≡ Some o.kind
last-kind [] o = refl
last-kind (x ∷ os) o = last-kind os o

new-class : {A : Type 0} (k : Cells A) (w : Linked) (s : State A) (class : ℕ) (cells : List A)
    → class_of w.classes (with_object s (Instance class) cells) (length s.heap + 1) ≡ class
new-class k w s class cells =
    let next : length s.heap + 1 ≡ suc (length s.heap) = omega arith in
    ap (λ h. class_of w.classes (with_object s (Instance class) cells) h) next
    ∙ ap (class_with_methods w.classes) (last-kind s.heap (record { kind = Instance class; cells = cells }))

module _ {A : Type 0} (k : Cells A) (w : Linked) (s : State A) where
  -- ---- what an operation does before a step ends

  -- the objects and the static fields of the state s
  record IsKept (z : State A) : Type 0 where
    pub heap : z.heap ≡ s.heap
    pub statics : z.statics ≡ s.statics

  kept : IsKept s
  kept = record { heap = refl; statics = refl }

  -- where the run may end with another state than s, the objects and the static fields are those of s
  abbrev Keeps : Act A → Type 0
  Keeps (jumps to z) = IsKept z
  Keeps (makes kind cells reference z) = IsKept z
  Keeps (calls method count z) = IsKept z
  Keeps _ = Unit {0}

  keeps-if : (b : Bool) (x y : Act A) → Keeps x → Keeps y → Keeps (if b then x else y)
  keeps-if x x2 y h g = grind (arith)

  keeps-null : (h : ℕ) (f : ℕ → Act A) → Keeps (f h) → Keeps (unless_null h f)
  keeps-null h f there = keeps-if (h == 0) (raises exceptions.NullPointer) (f h) (tt {0}) there

  keeps-some : {X : Type 0} (e : Exception) (o : Option X) (f : X → Act A) → ((x : X) → Keeps (f x)) → Keeps (if_some e o f)
  keeps-some e x f all = grind (arith)

  keeps-leads : (b : Bool) (to : ℤ) (z : State A) → IsKept z → Keeps (leads_if b to z)
  keeps-leads x to z h = grind (arith)

  keeps-count : (kind : ObjectKind) (n : ℤ) (z : State A) → IsKept z → Keeps (array_of_count k kind n z)
  keeps-count kind x z h = grind (arith)

  kept-ready : (o : Option ℕ) → IsKept (readied k s o)
  kept-ready x = grind (arith, kept)

  keeps-served : (o : Option ℕ) (class count : ℕ) → Keeps (served_act o class count s)
  keeps-served x class count = grind (arith, kept)

  keeps-interface : (interface token count : ℕ) (o : Option ObjectKind) → Keeps (interface_act w.classes interface token count o s)
  keeps-interface interface token count x = grind (arith, keeps-served)

  keeps-chosen : (callee : Callee) (args : ℕ) (choice : Choice) → Keeps (chosen_act k w.classes callee args choice s)
  keeps-chosen callee args x = grind (arith, kept, keeps-null, kept-ready, keeps-interface)

  keeps-return : (o : Option Ty) → Keeps (return_act k o s)
  keeps-return x = grind (arith)

  keeps-act : (i : Insn) (op : Operation) → Keeps (act k w i op s)
  keeps-act i x = grind (arith, keeps-some, keeps-null, keeps-if, keeps-leads, keeps-chosen, kept, keeps-count, keeps-return)

  -- ---- where a step ends

  abbrev Leaves : Outcome A → Type 0
  Leaves (running z) = Unit {0}
  Leaves (ended ending z) = IsLeft k w s ending z

  leaves-kept : (z : State A) (ending : Ending) → ending ≢ Plain Spent → IsKept z → Leaves (ends ending z)
  leaves-kept z ending ne h = record { no_frame = refl; statics = h.statics; objects = inl h.heap; reached = ne }

  fault-reached : (f : Fault) → Faulted f ≢ Plain Spent
  fault-reached f e = absurd cc

  leaves-if : (b : Bool) (x y : Outcome A) → Leaves x → Leaves y → Leaves (if b then x else y)
  leaves-if x x2 y h g = grind (arith)

  leaves-unless : (z : State A) (o : Option Fault) (x : Outcome A) → IsKept z → Leaves x → Leaves (unless_fault z o x)
  leaves-unless z x x2 h there = grind (arith, leaves-kept, fault-reached)

  -- an object is thrown in a state with which the run may end so
  leaves-caught :
      (n : ℕ) (z : State A) (f : Frame A) (below : List (Frame A)) (x : Outcome A) (o : Option Handler)
      → Leaves (ends (Faulted StackFault) z)
      → Leaves x
      → Leaves (caught_or k w n z f below x o)
  leaves-caught n z f below x x2 full there = grind (arith, leaves-if)

  leaves-unwound : (class n : ℕ) (z : State A) (fs : List (Frame A)) → Leaves (ends (Faulted StackFault) z)
      → Leaves (ends (Plain (Threw class n)) z)
      → Leaves (unwound k w class n z fs)
  leaves-unwound class n z [] full free = free
  leaves-unwound class n z (f ∷ fs) full free = grind (arith, leaves-caught, leaves-unwound class n z fs full free)

  leaves-thrown : (n : ℕ) → Leaves (thrown k w n s)
  leaves-thrown n = grind (arith, leaves-unwound, leaves-kept, fault-reached, kept)

  leaves-raised : (exception : Exception) → Leaves (raised k w exception s)
  leaves-raised exception =
      let class = class_raised w exception in
      let z : State A = with_object s (Instance class) (new_instance_cells k w.classes class) in
      let n = length s.heap + 1 in
      let is : class_of w.classes z n ≡ class = new-class k w s class (new_instance_cells k w.classes class) in
      let left : (ending : Ending) → ending ≢ Plain Spent → (ending ≡ Plain (Threw class n)) ⊎ (ending ≡ Faulted StackFault) → Leaves (ends ending z) =
      λ ending ne told.
      record {
        no_frame = refl;
        statics = refl;
        objects = inr (record { exception = exception; object = refl; thrown = told });
        reached = ne;
      } in
      leaves-if (has_room s (length (cells_of w.classes class))) (thrown k w n z) (ends (Plain HeapFull) s)
      (leaves-unwound (class_of w.classes z n) n z z.frames (left (Faulted StackFault) (fault-reached StackFault) (inr refl))
      (left (Plain (Threw (class_of w.classes z n) n)) (λ e. absurd cc) (inl (ap (λ c. Plain (Threw c n)) is))))
      (leaves-kept s (Plain HeapFull) (λ e. absurd cc) kept)

  leaves-goes : (z y : State A) (next : ℕ) → IsKept z → Leaves (goes_to k w next z y)
  leaves-goes z y next h = leaves-unless z (fault_next k w y (length (top y).stack) next) (running (with_place y next)) h (tt {0})

  leaves-settled : (next : ℕ) (a : Act A) → Keeps a → Leaves (settled k w next s a)
  leaves-settled next (goes z) h = leaves-goes s z next kept
  leaves-settled next (jumps to z) h = leaves-unless z (fault_target k w z to) (running (with_place z (place_number to))) h (tt {0})
  leaves-settled next (makes kind cells reference z) h = grind (arith, length, leaves-unless, leaves-if, leaves-kept)
  leaves-settled next (calls method count z) h = grind (arith, leaves-if, length, leaves-kept)
  leaves-settled next (gives value cells) h = grind (arith, leaves-if, length, leaves-goes, leaves-kept)
  leaves-settled next (raises exception) h = leaves-raised exception
  leaves-settled next (throws handle) h = leaves-thrown handle
  leaves-settled next (lacks class) h = leaves-kept s (Plain (InterfaceMissing class)) (λ e. absurd cc) kept

  leaves-step : {o : Outcome A} → Steps k w s o → Leaves o
  leaves-step x = grind (arith, leaves-kept, fault-reached, kept, leaves-unless, leaves-settled, keeps-act)

-- ---- steps and runs

module _ {A : Type 0} (k : Cells A) (w : Linked) where
  pub endings-leave : EndingsLeave k w
  endings-leave s z ending step = leaves-step k w s step

  ended-run : {n : ℕ} {s z : State A} {ending : Ending} → Runs k w n s (ended ending z) → ComesToEnd k w n s ending z
  ended-run (stops {s = s} {z = z} {ending = e} step) =
      record { count = 0; few = omega arith; last = s; runs = stands; step = step; leaves = endings-leave s z e step }
  ended-run (steps {s = s} {z = y} step more) =
      let r = ended-run more in
      record {
        count = suc r.count;
        few = omega (arith, r.few);
        last = r.last;
        runs = steps step r.runs;
        step = r.step;
        leaves = r.leaves;
      }

  pub runs-leave : RunsLeave k w
  runs-leave n s z ending runs = ended-run runs
