-- A step of tagged cells keeps the shape, whether the run goes on or ends.
use Rattle.std.proofs.Common.{◌≡◌, ℕ, ◌+◌, ◌-◌, ◌<◌, ◌≤◌, Bool, true, false, List, [], ◌∷◌, ◌++◌, length, replicate, take}
use Rattle.std.proofs.Common.{drop, refl, sym, ap, ◌∙◌, subst, arith, length-drop, length-take}
use Rattle.std.specs.Prelude.{ℤ, Option, Some, None, All, if◌then◌else◌, nat_lt, slice_index}
use Rattle.std.proofs.lemmas.Bool.{ltb-false, ltb-true}
use Rattle.std.proofs.lemmas.List.Elements.{All-nil, All-cons, All-head, All-tail, All-push}
use Rattle.std.proofs.lemmas.List.{length-map, length-append, length-replicate, length-reverse}
use Rattle.jc_base.specs.declared.record.Handler.{Handler}
use Rattle.jc_base.specs.Class.{IsClass}
use Rattle.jc_base.specs.Dispatch.{cells_of}
use Rattle.jc_base.specs.Linked.{AreDispatched}
use Rattle.jc_base.specs.World.{Linked, IsWorld}
use Rattle.jc_ops.specs.Sound.{OperationsAreSound}
use Rattle.jc_rules.specs.Demand.{AreDecided}
use Rattle.vm_store.specs.declared.cell.Cell.{Cell}
use Rattle.vm_store.specs.declared.cell.ObjectKind.{ObjectKind}
use Rattle.vm_store.specs.declared.cell.ObjectKind.TheVariants.{Instance}
use Rattle.vm_store.specs.Kind.{cell_kind}
use Rattle.vm_store.specs.Cells.{tagged, zero_cell}
use Rattle.vm_store.specs.State.{Frame, State, IsRunning, other_frames, top, with_stack, with_place, with_call, without_top, without_frames, register_count}
use Rattle.vm_store.specs.State.{arguments, entered, frame_limit}
use Rattle.vm_store.specs.Objects.{has_room, with_object, new_instance_cells}
use Rattle.vm_store.specs.Value.{with_value}
use Rattle.vm_step.specs.declared.ending.Value.{Value}
use Rattle.vm_step.specs.declared.ending.Plain.TheVariants.{Returned, TooDeep, HeapFull}
use Rattle.vm_step.specs.declared.ending.Fault.{Fault}
use Rattle.vm_step.specs.declared.ending.Fault.TheVariants.{StackFault, JumpFault}
use Rattle.vm_step.specs.declared.ending.Ending.TheVariants.{Plain, Faulted}
use Rattle.vm_step.specs.declared.ending.Exception.{Exception}
use Rattle.vm_step.specs.Act.{Act, role_of, goes, jumps, makes, calls, gives, raises, throws, lacks}
use Rattle.vm_step.specs.Methods.{code_at, instruction_at, max_stack_of}
use Rattle.vm_step.specs.Calls.{class_of}
use Rattle.vm_step.specs.Raising.{Outcome, running, ended, ends, handler_for, caught, caught_or, unwound, thrown, raised}
use Rattle.vm_step.specs.Tests.{fault_before}
use Rattle.vm_step.specs.Performed.{act}
use Rattle.vm_step.specs.Settled.{unless_fault, is_over, is_past, is_target_place, place_number, return_place, goes_to, jumps_to, made, entered_call, given_to}
use Rattle.vm_step.specs.Settled.{with_new, settled}
use Rattle.vm_step.specs.Step.{Steps, misplaced, unresolved, performs}
use Rattle.vm_act.specs.Lead.{TakesCells}
use Rattle.vm_check.specs.Shaped.{IsShaped, IsShapedFrame, IsShapedObject, IsShapedFor}
use Rattle.vm_check.proofs.Staying.{Fine, Next, next-stack, first-of, others-of, shaped-next, shaped-place, shaped-ended, shaped-left, shaped-made}
use Rattle.vm_check.proofs.Shaping.{act-fine}
use Rattle.vm_check.proofs.Sufficing.{tested}

module _ (w : Linked) where
  abbrev pub Good : Outcome Cell → Type 0
  Good (running z) = IsShaped w z
  Good (ended e z) = IsShaped w z

  good-if : (b : Bool) (x y : Outcome Cell) → (b ≡ true → Good x) → Good y → Good (if b then x else y)
  good-if x x2 y h g = grind (arith)

  -- ---- the tests after

  next-tests : (s : State Cell) (x : Outcome Cell) (over past : Bool) → IsShaped w (without_frames s) → (over ≡ false → Good x)
      → Good (unless_fault s (if over then Some StackFault else if past then Some JumpFault else None) x)
  next-tests s x x2 past kept good = grind (arith)

  target-tests : (s : State Cell) (x : Outcome Cell) (over there : Bool) → IsShaped w (without_frames s) → (over ≡ false → Good x)
      → Good (unless_fault s (if over then Some StackFault else if there then None else Some JumpFault) x)
  target-tests s x x2 there kept good = grind (arith)

  next-ended : (s z : State Cell) → IsShaped w s → Next w s z → IsShaped w (without_frames z)
  next-ended s z kept n = record { frames = All-nil (IsShapedFrame w); objects = n.objects; statics = n.statics ∙ kept.statics }

  goes-good : (next : ℕ) (s z : State Cell) → IsRunning s → IsShaped w s → Next w s z → Good (goes_to tagged w next s z)
  goes-good next s z runs kept n =
      next-tests s (running (with_place z next)) (is_over w z (length (top z).stack)) (is_past w z next) (shaped-ended w s kept)
      (λ e. shaped-place w z next n.running (shaped-next w s z runs kept n (ltb-false (max_stack_of w (top z).method) (length (top z).stack) e)))

  jumps-good : (to : ℤ) (s z : State Cell) → IsRunning s → IsShaped w s → Next w s z → Good (jumps_to tagged w to z)
  jumps-good to s z runs kept n =
      target-tests z (running (with_place z (place_number to))) (is_over w z (length (top z).stack)) (is_target_place (code_at w (top z).method) to)
      (next-ended s z kept n)
      (λ e. shaped-place w z (place_number to) n.running (shaped-next w s z runs kept n (ltb-false (max_stack_of w (top z).method) (length (top z).stack) e)))

  new-next : (s z : State Cell) → Next w s z → (kind : ObjectKind) (cells : List Cell) (r : Cell) → IsShapedFor w.classes kind (length cells)
      → Next w s (with_new z kind cells r)
  new-next s z n kind cells r h = record {
    running = omega arith;
    method = n.method;
    registers = n.registers;
    others = n.others;
    objects = All-push (IsShapedObject w.classes) z.heap (record { kind = kind; cells = cells }) n.objects h;
    statics = n.statics;
  }

  made-good : (next : ℕ) (kind : ObjectKind) (cells : List Cell) (reference : ℕ → Cell) (s z : State Cell) → IsRunning s → IsShaped w s
      → Next w s z → IsShapedFor w.classes kind (length cells)
      → Good (made tagged w next kind cells reference z)
  made-good next kind cells reference s z runs kept n h =
      let new : State Cell = with_new z kind cells (reference (length z.heap + 1)) in
      let made_next : Next w s new = new-next s z n kind cells (reference (length z.heap + 1)) h in
      next-tests z (if has_room z (length cells) then running (with_place new next) else ends (Plain HeapFull) z) (is_over w z (length (top z).stack + 1))
      (is_past w z next) (next-ended s z kept n)
      (λ e.
      let few : length (top z).stack + 1 ≤ max_stack_of w (top z).method = ltb-false (max_stack_of w (top z).method) (length (top z).stack + 1) e in
      good-if (has_room z (length cells)) (running (with_place new next)) (ends (Plain HeapFull) z)
      (λ room. shaped-place w new next made_next.running (shaped-next w s new runs kept made_next (omega (arith, few))))
      (next-ended s z kept n))

  -- ---- calls

  filled : {A : Type 0} (args : List A) (n : ℕ) (e : A) → length args ≤ n → length (args ++ replicate (n - length args) e) ≡ n
  filled args n e h = length-append args (replicate (n - length args) e) ∙ omega (arith, length-replicate (n - length args) e)

  called-good : (method count : ℕ) (s z : State Cell) → IsRunning s → IsShaped w s → Next w s z → length (top z).stack ≤ length (top s).stack
      → TakesCells w method count → count ≤ length (top z).stack
      → Good (entered_call tagged w method count z)
  called-good method count s z runs kept n fewer takes there =
      let before = first-of (IsShapedFrame w) s.frames runs kept.frames in
      let args = arguments count (top z).stack in
      let many : length args ≡ count = length-reverse (take count (top z).stack) ∙ (length-take count (top z).stack ∙ omega (arith, there)) in
      let callee : IsShapedFrame w (entered tagged w.methods method args) = record {
        known = takes.known;
        registers = filled args (register_count w.methods method) tagged.empty (omega (arith, many, takes.registers));
        cells = omega arith;
      } in
      let caller : IsShapedFrame w (record (top z) { stack = drop count (top z).stack }) = record {
        known = subst (λ m. m < length w.methods) (sym n.method) before.known;
        registers = n.registers ∙ (before.registers ∙ ap (register_count w.methods) (sym n.method));
        cells = omega (arith, length-drop count (top z).stack, fewer, before.cells, ap (max_stack_of w) n.method);
      } in
      let others : All (IsShapedFrame w) (other_frames z.frames) = subst (All (IsShapedFrame w)) (sym n.others)
      (others-of (IsShapedFrame w) s.frames kept.frames) in
      good-if (nat_lt (length z.frames) frame_limit) (running (with_call tagged w.methods z method count)) (ends (Plain TooDeep) z)
      (λ room. record {
        frames =
            All-cons (IsShapedFrame w) (entered tagged w.methods method args)
            (record (top z) { stack = drop count (top z).stack } ∷ other_frames z.frames) callee
            (All-cons (IsShapedFrame w) (record (top z) { stack = drop count (top z).stack }) (other_frames z.frames) caller others);
        objects = n.objects;
        statics = n.statics ∙ kept.statics;
      })
      (next-ended s z kept n)

  -- ---- returns

  returned-good : (value : Value) (cells : List Cell) (s : State Cell) → IsShaped w s → Good (given_to tagged w value cells s)
  returned-good value cells s kept =
      let after = return_place (instruction_at (code_at w (top s).method) (top s).place) in
      let back : State Cell = with_stack s (with_value cells (top s).stack) in
      good-if (nat_lt 0 (length s.frames)) (goes_to tagged w after s back) (ends (Plain (Returned value)) s)
      (λ more.
      let runs : IsRunning s = ltb-true 0 (length s.frames) more in
      goes-good after s back runs kept (next-stack w s runs kept.objects (with_value cells (top s).stack)))
      (shaped-ended w s kept)

  -- ---- exceptions

  unwound-good : (class handle : ℕ) (s : State Cell) → IsShaped w s → (fs : List (Frame Cell)) → All (IsShapedFrame w) fs
      → Good (unwound tagged w class handle s fs)
  unwound-good class handle s kept [] all = shaped-ended w s kept
  unwound-good class handle s kept (f ∷ below) all =
      by (handler_for w class f) (unwound-good class handle s kept below (All-tail (IsShapedFrame w) f below all))
    where
      framed : IsShapedFrame w f
      framed = All-head (IsShapedFrame w) f below all

      at : (h : Handler) (tight : Bool) → nat_lt (max_stack_of w f.method) 1 ≡ tight
          → Good (if tight then ends (Faulted StackFault) s else running (record s { frames = caught tagged h handle f ∷ below }))
      at h true e = shaped-ended w s kept
      at h false e = record {
        frames =
            All-cons (IsShapedFrame w) (caught tagged h handle f) below
            (record { known = framed.known; registers = framed.registers; cells = ltb-false (max_stack_of w f.method) 1 e })
            (All-tail (IsShapedFrame w) f below all);
        objects = kept.objects;
        statics = kept.statics;
      }

      by : (o : Option Handler) → Good (unwound tagged w class handle s below)
          → Good (caught_or tagged w handle s f below (unwound tagged w class handle s below) o)
      by x rest = grind (arith, at)

  thrown-good : (handle : ℕ) (s : State Cell) → IsShaped w s → Good (thrown tagged w handle s)
  thrown-good handle s kept = unwound-good (class_of w.classes s handle) handle s kept s.frames kept.frames

  role-class : IsWorld w → (e : Exception) → IsClass w.classes (slice_index w.classes.roles (role_of e))
  role-class is x = grind (arith)

  raised-good : IsWorld w → (e : Exception) (s : State Cell) → IsShaped w s → Good (raised tagged w e s)
  raised-good is e s kept =
      let class = slice_index w.classes.roles (role_of e) in
      let cells = new_instance_cells tagged w.classes class in
      let new : State Cell = with_object s (Instance class) cells in
      let whole : IsShapedFor w.classes (Instance class) (length cells) =
      (role-class is e, length-map (cells_of w.classes class) (λ ty. zero_cell tagged (cell_kind ty))) in
      good-if (has_room s (length (cells_of w.classes class))) (thrown tagged w (length s.heap + 1) new) (ends (Plain HeapFull) s)
      (λ room. thrown-good (length s.heap + 1) new (shaped-made w s (Instance class) cells kept whole))
      (shaped-ended w s kept)

  -- ---- the step

  settled-good : IsWorld w → (next : ℕ) (s : State Cell) → IsRunning s → IsShaped w s → (a : Act Cell) → Fine w s a
      → Good (settled tagged w next s a)
  settled-good is next s runs kept (goes z) fine = goes-good next s z runs kept fine
  settled-good is next s runs kept (jumps to z) fine = jumps-good to s z runs kept fine
  settled-good is next s runs kept (makes kind cells reference z) fine = made-good next kind cells reference s z runs kept fine.0 fine.1
  settled-good is next s runs kept (calls method count z) fine = called-good method count s z runs kept fine.0 fine.1 fine.2 fine.3
  settled-good is next s runs kept (gives value cells) fine = returned-good value cells (without_top s) (shaped-left w s kept)
  settled-good is next s runs kept (raises e) fine = raised-good is e s kept
  settled-good is next s runs kept (throws handle) fine = thrown-good handle s kept
  settled-good is next s runs kept (lacks class) fine = shaped-ended w s kept

  unless-good : (s : State Cell) (o p : Option Fault) (x : Outcome Cell) → IsShaped w s → o ≡ p → (p ≡ None → Good x) → Good (unless_fault s o x)
  unless-good s x p x2 kept e good = grind (arith, shaped-ended)

  pub step-good : IsWorld w → AreDispatched w.classes w.methods → AreDecided w.classes → OperationsAreSound w → (s : State Cell) (o : Outcome Cell)
      → IsShaped w s → Steps tagged w s o → Good o
  step-good is runs decided sounds s o kept (misplaced c run e) = shaped-ended w s kept
  step-good is runs decided sounds s o kept (unresolved c f fault r) = shaped-ended w s kept
  step-good is runs decided sounds s o kept (performs {m = m} {i = i} f op r e) =
      let done = settled tagged w (i.place + i.insn.len) s (act tagged w i.insn op s) in
      subst Good (sym e)
      (unless-good s (fault_before tagged w op s) (fault_before tagged w op s) done kept refl
      (λ none.
      let told = tested w is decided sounds s m i op kept f r none in
      settled-good is (i.place + i.insn.len) s f.runs kept (act tagged w i.insn op s)
      (act-fine tagged w is runs i.insn s f.runs kept.objects op told.cells told.finds)))
