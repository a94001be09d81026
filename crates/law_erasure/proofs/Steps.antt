-- What an act leads to over bare words is what it leads to over tagged cells, where that is no fault.
use Rattle.std.proofs.Common.{◌≡◌, ℕ, ◌+◌, ◌<◌, Bool, true, false, ◌&&◌, if◌then◌else◌, List, [], ◌∷◌, ◌++◌, length, map}
use Rattle.std.proofs.Common.{reverse, refl, sym, ap, ◌∙◌, subst, arith}
use Rattle.std.specs.Prelude.{ℤ, Option, Some, None, nat_lt, slice_index}
use Rattle.std.proofs.lemmas.List.{map-append, length-map}
use Rattle.jc_base.specs.declared.record.Handler.{Handler}
use Rattle.jc_base.specs.Dispatch.{cells_of}
use Rattle.jc_base.specs.World.{Linked}
use Rattle.jc_decode.specs.declared.insn.Placed.{Placed}
use Rattle.jc_ops.specs.declared.operation.Operation.{Operation}
use Rattle.vm_store.specs.declared.cell.Cell.{Cell}
use Rattle.vm_store.specs.declared.cell.ObjectKind.{ObjectKind}
use Rattle.vm_store.specs.declared.cell.ObjectKind.TheVariants.{Instance}
use Rattle.vm_store.specs.Cells.{tagged, words, word_of}
use Rattle.vm_store.specs.State.{State, Frame, Object, map_frame, map_object, erased, top, with_place, with_stack, without_top}
use Rattle.vm_store.specs.Objects.{has_room, new_instance_cells, with_object}
use Rattle.vm_store.specs.Value.{with_value}
use Rattle.vm_store.specs.Erasing.{ReadsErased, FramesErase, ObjectsErase}
use Rattle.vm_store.proofs.Erasing.{states-erase, reverse-erased}
use Rattle.vm_step.specs.declared.ending.Value.{Value}
use Rattle.vm_step.specs.declared.ending.Ending.TheVariants.{Plain, Faulted}
use Rattle.vm_step.specs.declared.ending.Plain.TheVariants.{Returned, HeapFull}
use Rattle.vm_step.specs.declared.ending.Fault.{Fault}
use Rattle.vm_step.specs.declared.ending.Fault.TheVariants.{StackFault}
use Rattle.vm_step.specs.declared.ending.Exception.{Exception}
use Rattle.vm_step.specs.Act.{Act, goes, jumps, makes, calls, gives, raises, throws, lacks, role_of}
use Rattle.vm_step.specs.Methods.{code_at, max_stack_of, instruction_at}
use Rattle.vm_step.specs.Calls.{class_of}
use Rattle.vm_step.specs.Raising.{Outcome, running, ended, ends, caught, caught_or, unwound, thrown, raised}
use Rattle.vm_step.specs.Settled.{unless_fault, fault_next, return_place, goes_to, jumps_to, with_new, made, entered_call, given_to}
use Rattle.vm_step.specs.Settled.{settled}
use Rattle.vm_step.specs.Step.{Steps, misplaced, unresolved, performs, performed}
use Rattle.vm_step.specs.Run.{Runs, stands, stops, steps}
use Rattle.law_erasure.specs.Erasure.{erased_act, erased_outcome, IsNoFault, StepsErase, RunsErase}
use Rattle.law_erasure.proofs.Acts.{act-erases}

-- tests that are passed
unless-none : (s : State Cell) (o : Option Fault) (x : Outcome Cell) → IsNoFault (unless_fault s o x) → (unless_fault s o x ≡ x) × IsNoFault x
unless-none s x x2 h = grind (arith)

if-erased : (b : Bool) (x y : Outcome Cell) (u v : Outcome ℕ) → IsNoFault (if b then x else y) → (IsNoFault x → u ≡ erased_outcome x)
    → (IsNoFault y → v ≡ erased_outcome y)
    → (if b then u else v) ≡ erased_outcome (if b then x else y)
if-erased x x2 y u v h e g = grind (arith)

module _ (w : Linked) where
  reads : (s : State Cell) → ReadsErased s
  reads s = ((states-erase w.methods w.classes).0 s).0

  frames : (s : State Cell) → FramesErase w.methods s
  frames s = ((states-erase w.methods w.classes).0 s).1

  objects : (s : State Cell) → ObjectsErase s
  objects s = ((states-erase w.methods w.classes).0 s).2

  -- ---- going on

  goes-erased : (next : ℕ) (s z : State Cell) → IsNoFault (goes_to tagged w next s z) → goes_to words w next (erased s) (erased z)
      ≡ erased_outcome (goes_to tagged w next s z)
  goes-erased next s z h = grind (arith, unless-none, length, frames)

  jumps-erased : (to : ℤ) (z : State Cell) → IsNoFault (jumps_to tagged w to z)
      → jumps_to words w to (erased z) ≡ erased_outcome (jumps_to tagged w to z)
  jumps-erased to z h = grind (arith, unless-none, frames)

  -- ---- new objects

  with-new-erased : (z : State Cell) (kind : ObjectKind) (cs : List Cell) (c : Cell) → with_new (erased z) kind (map word_of cs) (word_of c)
      ≡ erased (with_new z kind cs c)
  with-new-erased z kind cs c = grind (arith, objects z, reads z, frames)

  makes-erased : (next : ℕ) (kind : ObjectKind) (cs : List Cell) (reference : ℕ → Cell) (z : State Cell)
      → IsNoFault (made tagged w next kind cs reference z)
      → made words w next kind (map word_of cs) (λ h. word_of (reference h)) (erased z) ≡ erased_outcome (made tagged w next kind cs reference z)
  makes-erased next kind cs reference z h =
      let new : State Cell = with_new z kind cs (reference (length z.heap + 1)) in
      let whole : Outcome Cell = if has_room z (length cs) then running (with_place new next) else ends (Plain HeapFull) z in
      let passed = unless-none z (fault_next tagged w z (length (top z).stack + 1) next) whole h in
      let count : length (erased z).heap ≡ length z.heap = length-map z.heap (map_object word_of) in
      let now : with_place (with_new (erased z) kind (map word_of cs) (word_of (reference (length (erased z).heap + 1)))) next
      ≡ erased (with_place new next) =
      ap (λ n. with_place (with_new (erased z) kind (map word_of cs) (word_of (reference (n + 1)))) next) count
      ∙ (ap (λ (x : State ℕ). with_place x next) (with-new-erased z kind cs (reference (length z.heap + 1))) ∙ sym ((frames new).place next)) in
      let room : has_room (erased z) (length (map word_of cs)) ≡ has_room z (length cs) = ap (has_room (erased z)) (length-map cs word_of)
      ∙ (reads z).room (length cs) in
      ap (λ b. if b then running (with_place (with_new (erased z) kind (map word_of cs) (word_of (reference (length (erased z).heap + 1)))) next) else ends
      (Plain HeapFull) (erased z)) room
      ∙ (if-erased (has_room z (length cs)) (running (with_place new next)) (ends (Plain HeapFull) z)
      (running (with_place (with_new (erased z) kind (map word_of cs) (word_of (reference (length (erased z).heap + 1)))) next))
      (ends (Plain HeapFull) (erased z))
      passed.1 (λ x. ap running now) (λ x. refl)
      ∙ sym (ap erased_outcome passed.0))

  -- ---- calls and returns

  enters-erased : (method count : ℕ) (z : State Cell) → IsNoFault (entered_call tagged w method count z)
      → entered_call words w method count (erased z) ≡ erased_outcome (entered_call tagged w method count z)
  enters-erased method count z h = grind (arith, length-map, frames, if-erased, length)

  given-erased : (value : Value) (cs : List Cell) (z : State Cell) → IsNoFault (given_to tagged w value cs z)
      → given_to words w value (map word_of cs) (erased z) ≡ erased_outcome (given_to tagged w value cs z)
  given-erased value cs z h =
      let next : Frame ℕ → ℕ = λ g. return_place (instruction_at (code_at w g.method) g.place) in
      let back : State Cell = with_stack z (with_value cs (top z).stack) in
      let after : ℕ = return_place (instruction_at (code_at w (top z).method) (top z).place) in
      let cells_are : with_value (map word_of cs) (map word_of (top z).stack) ≡ map word_of (with_value cs (top z).stack) =
      ap (λ xs. xs ++ map word_of (top z).stack) (sym (reverse-erased cs)) ∙ sym (map-append word_of (reverse cs) (top z).stack) in
      let back_is : with_stack (erased z) (with_value (map word_of cs) (top (erased z)).stack) ≡ erased back =
      ap (λ (g : Frame ℕ). with_stack (erased z) (with_value (map word_of cs) g.stack)) (sym (reads z).top_is)
      ∙ (ap (with_stack (erased z)) cells_are ∙ sym ((frames z).stack (with_value cs (top z).stack))) in
      ap (λ n. if nat_lt 0 n
      then goes_to words w (next (top (erased z))) (erased z) (with_stack (erased z) (with_value (map word_of cs) (top (erased z)).stack))
      else ends (Plain (Returned value)) (erased z)) (length-map z.frames (map_frame word_of))
      ∙ if-erased (nat_lt 0 (length z.frames)) (goes_to tagged w after z back) (ends (Plain (Returned value)) z)
      (goes_to words w (next (top (erased z))) (erased z) (with_stack (erased z) (with_value (map word_of cs) (top (erased z)).stack)))
      (ends (Plain (Returned value)) (erased z))
      h
      (λ x.
      ap (λ (g : Frame ℕ). goes_to words w (next g) (erased z) (with_stack (erased z) (with_value (map word_of cs) (top (erased z)).stack)))
      (sym (reads z).top_is)
      ∙ (ap (goes_to words w after (erased z)) back_is ∙ goes-erased after z back x))
      (λ x. refl)

  -- ---- what is thrown

  caught-erased : (s : State Cell) (f : Frame Cell) (below : List (Frame Cell)) (x : Outcome Cell) (u : Outcome ℕ) (handle : ℕ) (o : Option Handler)
      → IsNoFault (caught_or tagged w handle s f below x o) → (IsNoFault x → u ≡ erased_outcome x)
      → caught_or words w handle (erased s) (map_frame word_of f) (map (map_frame word_of) below) u o ≡ erased_outcome
      (caught_or tagged w handle s f below x o)
  caught-erased s f below x u handle None h e = e h
  caught-erased s f below x u handle (Some k) h e = go (nat_lt (max_stack_of w f.method) 1) h
    where
      go : (b : Bool) → IsNoFault (if true && b then ends (Faulted StackFault) s else running (record s { frames = caught tagged k handle f ∷ below }))
          → running (record (erased s) { frames = caught words k handle (map_frame word_of f) ∷ map (map_frame word_of) below })
          ≡ erased_outcome (if true && b then ends (Faulted StackFault) s else running (record s { frames = caught tagged k handle f ∷ below }))
      go true no_fault = absurd no_fault
      go false no_fault = refl

  unwound-erased : (class handle : ℕ) (s : State Cell) (fs : List (Frame Cell)) → IsNoFault (unwound tagged w class handle s fs)
      → unwound words w class handle (erased s) (map (map_frame word_of) fs) ≡ erased_outcome (unwound tagged w class handle s fs)
  unwound-erased class handle s [] h = refl
  unwound-erased class handle s (f ∷ fs) h = grind (arith, caught-erased, map, unwound-erased class handle s fs)

  thrown-erased : (handle : ℕ) (s : State Cell) → IsNoFault (thrown tagged w handle s)
      → thrown words w handle (erased s) ≡ erased_outcome (thrown tagged w handle s)
  thrown-erased handle s h = grind (arith, reads s, unwound-erased (class_of w.classes s handle) handle s s.frames h)

  raised-erased : (exception : Exception) (s : State Cell) → IsNoFault (raised tagged w exception s) → raised words w exception (erased s)
      ≡ erased_outcome (raised tagged w exception s)
  raised-erased exception s h =
      let class : ℕ = slice_index w.classes.roles (role_of exception) in
      let count : length (erased s).heap ≡ length s.heap = length-map s.heap (map_object word_of) in
      let made_words : State ℕ = with_object (erased s) (Instance class) (new_instance_cells words w.classes class) in
      let made_cells : State Cell = with_object s (Instance class) (new_instance_cells tagged w.classes class) in
      let same : made_words ≡ erased made_cells =
      ap (with_object (erased s) (Instance class)) (sym ((states-erase w.methods w.classes).1.instance class))
      ∙ sym ((objects s).object (Instance class) (new_instance_cells tagged w.classes class)) in
      ap (λ b. if b then thrown words w (length (erased s).heap + 1) made_words else ends (Plain HeapFull) (erased s))
      ((reads s).room (length (cells_of w.classes class)))
      ∙ if-erased (has_room s (length (cells_of w.classes class))) (thrown tagged w (length s.heap + 1) made_cells) (ends (Plain HeapFull) s)
      (thrown words w (length (erased s).heap + 1) made_words) (ends (Plain HeapFull) (erased s))
      h
      (λ x. ap (λ n. thrown words w (n + 1) made_words) count
      ∙ (ap (thrown words w (length s.heap + 1)) same ∙ thrown-erased (length s.heap + 1) made_cells x))
      (λ x. refl)

  -- ---- every act

  settled-erases : (next : ℕ) (s : State Cell) (a : Act Cell) → IsNoFault (settled tagged w next s a) → settled words w next (erased s) (erased_act a)
      ≡ erased_outcome (settled tagged w next s a)
  settled-erases next s (goes z) h = goes-erased next s z h
  settled-erases next s (jumps to z) h = jumps-erased to z h
  settled-erases next s (makes kind cs reference z) h = makes-erased next kind cs reference z h
  settled-erases next s (calls method count z) h = enters-erased method count z h
  settled-erases next s (gives value cs) h = grind (arith, map word_of cs, frames s, given-erased value cs (without_top s) h)
  settled-erases next s (raises exception) h = raised-erased exception s h
  settled-erases next s (throws handle) h = thrown-erased handle s h
  settled-erases next s (lacks class) h = refl

  -- ---- a step

  module _ (f : Frame Cell) (below : List (Frame Cell)) (heap : List (Object Cell)) (statics : List Cell) where
    performs-erased : (i : Placed) (op : Operation) → IsNoFault (performed tagged w i op (record { frames = f ∷ below; heap = heap; statics = statics }))
        → performed words w i op (erased (record { frames = f ∷ below; heap = heap; statics = statics })) ≡ erased_outcome
        (performed tagged w i op (record { frames = f ∷ below; heap = heap; statics = statics }))
    performs-erased i op h = grind (arith, frames, unless-none, act-erases, settled-erases)

    step-erased : {o : Outcome Cell} → IsNoFault o → Steps tagged w (record { frames = f ∷ below; heap = heap; statics = statics }) o
        → Steps words w (erased (record { frames = f ∷ below; heap = heap; statics = statics })) (erased_outcome o)
    step-erased h (misplaced checks runs e) = absurd h
    step-erased h (unresolved checks fetched fault resolves) = absurd h
    step-erased h (performs {m = m} {i = i} {o = o} fetched op resolves is) =
        performs (record { runs = omega arith; method = fetched.method; instruction = fetched.instruction }) op resolves
        (ap erased_outcome is ∙ sym (performs-erased i op (subst IsNoFault is h)))

  runs-some : (s : State Cell) {o : Outcome Cell} → Steps tagged w s o → 0 < length s.frames
  runs-some s x = grind (arith)

  steps-by : (fs : List (Frame Cell)) (heap : List (Object Cell)) (statics : List Cell) (o : Outcome Cell) → IsNoFault o
      → Steps tagged w (record { frames = fs; heap = heap; statics = statics }) o
      → Steps words w (erased (record { frames = fs; heap = heap; statics = statics })) (erased_outcome o)
  steps-by x heap statics o h step = grind (arith, runs-some, frames, step-erased)

  pub steps-erase : StepsErase w
  steps-erase s o h step = steps-by s.frames s.heap s.statics o h step

  run-erased : {n : ℕ} {s : State Cell} {o : Outcome Cell} → IsNoFault o → Runs tagged w n s o → Runs words w n (erased s) (erased_outcome o)
  run-erased h stands = stands
  run-erased h (stops {s = s} {z = z} {ending = e} step) = stops (steps-erase s (ended e z) h step)
  run-erased h (steps {s = s} {z = z} step more) = steps (steps-erase s (running z) tt step) (run-erased h more)

  pub runs-erase : RunsErase w
  runs-erase n s o h runs = run-erased h runs
