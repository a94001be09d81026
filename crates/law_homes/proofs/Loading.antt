-- Loads of homes, one after the other.
use Rattle.std.proofs.Common.{◌≡◌, ℕ, suc, ◌+◌, ◌<◌, ◌≤◌, ◌%◌, List, [], ◌∷◌, ◌++◌, length, map, refl, sym, ap, ◌∙◌}
use Rattle.std.proofs.Common.{subst, arith}
use Rattle.std.specs.Prelude.{Some, Ok, slice_get}
use Rattle.std.proofs.Math.Nat.{mod-eq_of_lt}
use Rattle.jc_base.specs.declared.ty.Ty.{Ty}
use Rattle.jc_base.specs.declared.ty.Ty.TheVariants.{Bottom, Short, IntHigh}
use Rattle.jc_base.specs.declared.record.MethodRec.{MethodRec}
use Rattle.jc_base.specs.Each.{Each}
use Rattle.jc_base.specs.World.{Linked}
use Rattle.jc_base.proofs.Lists.{slice_get-some}
use Rattle.jc_decode.specs.Listing.{listing}
use Rattle.jc_decode.specs.Standing.{AreSteps}
use Rattle.jc_decode.specs.Symbols.{Step}
use Rattle.jc_control.specs.WellFormed.{IsPlace}
use Rattle.jc_ops.specs.declared.operation.Operation.TheVariants as ops
use Rattle.jc_ops.specs.declared.operation.Sort.{Sort}
use Rattle.jc_ops.specs.declared.operation.Sort.TheVariants as sorts
use Rattle.jc_ops.specs.Row.{table, row_at, unused, by_sort, by_width, by_kind}
use Rattle.jc_ops.specs.Row.{first_four, by_register, literals, binaries, orders_all, branching}
use Rattle.jc_ops.specs.Resolve.{resolved, Resolves}
use Rattle.jc_rules.specs.Demand.{SatisfiesAll}
use Rattle.jc_rules.specs.Rule.{demands}
use Rattle.vm_store.specs.declared.cell.Cell.{Cell}
use Rattle.vm_store.specs.declared.cell.ObjectKind.{ObjectKind}
use Rattle.vm_store.specs.Cells.{tagged}
use Rattle.vm_store.specs.State.{State, Frame, Object, first_frame, top, with_place, with_stack}
use Rattle.vm_step.specs.Methods.{code_at, max_stack_of}
use Rattle.vm_step.specs.Raising.{running}
use Rattle.vm_step.specs.Run.{Runs, stands, steps as then}
use Rattle.vm_step.specs.Step.{Steps}
use Rattle.vm_step.specs.Values.{with_load}
use Rattle.law_sound.specs.Frames.{least_types}
use Rattle.law_sound.proofs.Places.{instruction-there}
use Rattle.xf_emission.specs.Move.{with_byte, load_op, store_op}
use Rattle.xf_emission.specs.Mnemonics.{aload, sload, iload, astore, sstore, istore}
use Rattle.xf_homes.specs.declared.home.Home.{Home}
use Rattle.xf_homes.specs.Source.{Source}
use Rattle.xf_homes.specs.Plan.{register}
use Rattle.law_homes.specs.Moves.{IsExecutable, AreFilled, letter_of, InstructionsStandFrom, load_of}
use Rattle.law_homes.specs.Moves.{IsAtStep, CanLoad, value_in_register, loaded_stack}
use Rattle.law_homes.specs.Moves.{LoadsRun}
use Rattle.jc_decode.specs.Places.{place_after}
use Rattle.law_homes.proofs.Going.{loaded-filled, operations-go-on}
use Rattle.law_homes.proofs.Standing.{steps-stand-at-places, steps-execute}

-- ---- the operations of loads and stores

module _ (w : Linked) (m : MethodRec) where
  load-row : (q r : ℕ) → (resolved w m q (with_byte aload r) (row_at aload) ≡ Ok (ops.Load sorts.Reference (r % 256)))
      × (resolved w m q (with_byte sload r) (row_at sload) ≡ Ok (ops.Load sorts.Short (r % 256)))
      × (resolved w m q (with_byte iload r) (row_at iload) ≡ Ok (ops.Load sorts.Int (r % 256)))
  unfolding row_at table by_sort by_width by_kind first_four by_register literals binaries orders_all branching unused
  load-row q r = (refl, refl, refl)

  store-row : (q r : ℕ) → (resolved w m q (with_byte astore r) (row_at astore) ≡ Ok (ops.Store sorts.Reference (r % 256)))
      × (resolved w m q (with_byte sstore r) (row_at sstore) ≡ Ok (ops.Store sorts.Short (r % 256)))
      × (resolved w m q (with_byte istore r) (row_at istore) ≡ Ok (ops.Store sorts.Int (r % 256)))
  unfolding row_at table by_sort by_width by_kind first_four by_register literals binaries orders_all branching unused
  store-row q r = (refl, refl, refl)

  pub load-resolves : (q r : ℕ) (ty : Ty) → r < 256 → Resolves w m q (with_byte (load_op ty) r) (Ok (ops.Load (letter_of ty) r))
  load-resolves q r Short small = ap (λ k. Ok (ops.Load sorts.Short k)) (sym (mod-eq_of_lt small)) ∙ sym (load-row q r).1
  load-resolves q r IntHigh small = ap (λ k. Ok (ops.Load sorts.Int k)) (sym (mod-eq_of_lt small)) ∙ sym (load-row q r).2
  load-resolves q r _ small = ap (λ k. Ok (ops.Load sorts.Reference k)) (sym (mod-eq_of_lt small)) ∙ sym (load-row q r).0

  pub store-resolves : (q r : ℕ) (ty : Ty) → r < 256 → Resolves w m q (with_byte (store_op ty) r) (Ok (ops.Store (letter_of ty) r))
  store-resolves q r Short small = ap (λ k. Ok (ops.Store sorts.Short k)) (sym (mod-eq_of_lt small)) ∙ sym (store-row q r).1
  store-resolves q r IntHigh small = ap (λ k. Ok (ops.Store sorts.Int k)) (sym (mod-eq_of_lt small)) ∙ sym (store-row q r).2
  store-resolves q r _ small = ap (λ k. Ok (ops.Store sorts.Reference k)) (sym (mod-eq_of_lt small)) ∙ sym (store-row q r).0

-- ---- a place at which a step stands

pub step-place :
    (code : List ℕ) (place : ℕ → ℕ) (steps : List Step) (n : ℕ) → AreSteps code place 0 steps (listing code) → n < length steps
    → IsPlace code (place n)
step-place code place steps n are lt =
    let s = slice_get-some steps n lt in
    let here = steps-stand-at-places code place steps n s.0 are s.1 in
    let there = instruction-there code (place n) here.instruction here.found in
    (here.instruction, there.stands, there.at)

module _
    (w : Linked) (world : IsExecutable w) (place : ℕ → ℕ) (steps : List Step) (s : Source)
    (method : ℕ) (registers : List Cell) (below : List (Frame Cell)) (heap : List (Object Cell)) (statics : List Cell)
    (m : MethodRec) (is_method : slice_get w.methods method ≡ Some m)
    (are : AreSteps (code_at w method) place 0 steps (listing (code_at w method))) where
  abbrev at : ℕ → List Cell → State Cell
  at p stack =
      record {
        frames = record { method = method; place = p; registers = registers; stack = stack } ∷ below;
        heap = heap;
        statics =
            statics;
      }

  abbrev ks : List ObjectKind
  ks = map (λ (o : Object Cell). o.kind) heap

  -- a load asks nothing of the stack
  asked-over :
      (letter : Sort) (r : ℕ) (stack others : List Cell)
      → SatisfiesAll w.classes
      (record { regs = least_types w.classes Bottom ks registers; stack = least_types w.classes Bottom ks stack })
      (demands w (ops.Load letter r))
      → SatisfiesAll w.classes
      (record { regs = least_types w.classes Bottom ks registers; stack = least_types w.classes Bottom ks others })
      (demands w (ops.Load letter r))
  asked-over x r stack others h = grind (arith)

  load-is :
      (letter : Sort) (r p q : ℕ) (stack : List Cell) → AreFilled letter r registers
      → with_place (with_load tagged letter r (at p stack)) q ≡ at q (value_in_register letter r registers ++ stack)
  load-is x r p q stack filled = grind (arith, loaded-filled)

  load-depth :
      (letter : Sort) (r p : ℕ) (stack : List Cell) → length (top (with_load tagged letter r (at p stack))).stack
      ≡ length (value_in_register letter r registers ++ stack)
  load-depth x r p stack = grind (arith)

  -- a load leaves the method on top
  load-method : (letter : Sort) (r p : ℕ) (stack : List Cell) → (top (with_load tagged letter r (at p stack))).method ≡ method
  load-method x r p stack = grind (arith)

  one-load :
      (n p : ℕ) (h : Home) (stack first : List Cell)
      → slice_get steps n ≡ Some (record { insn = load_of s h; targets = []; keys = [] })
      → suc n < length steps
      → CanLoad w s (at p first) h
      → length (value_in_register (letter_of h.ty) (register s h) registers ++ stack) ≤ max_stack_of w method
      → Steps tagged w (at (place n) stack)
      (running (at (place (n + 1)) (value_in_register (letter_of h.ty) (register s h) registers ++ stack)))
  one-load n p h stack first stand further can room =
      let letter : Sort = letter_of h.ty in
      let r : ℕ = register s h in
      let ex = steps-execute w world (at (place n) stack) m place steps n 0
      (record { insn = load_of s h; targets = []; keys = [] }) (ops.Load letter r)
      (omega arith) is_method are stand refl (load-resolves w m 0 r h.ty can.0) in
      let z : State Cell = with_load tagged letter r (at (place n) stack) in
      let next : IsPlace (code_at w method) (place (n + 1)) = step-place (code_at w method) place steps (n + 1) are
      (omega (arith, further)) in
      let went : Steps tagged w (at (place n) stack) (running (with_place z (place_after ex.instruction))) =
      operations-go-on w world.chains (at (place n) stack) z ex.instruction (ops.Load letter r) ex.executes
      (asked-over letter r first stack can.1.asked) refl
      (let d = load-depth letter r (place n) stack in let k = ap (max_stack_of w) (load-method letter r (place n) stack) in omega
      (arith, room, d, k))
      (subst (λ k. IsPlace (code_at w k) (place_after ex.instruction)) (sym (load-method letter r (place n) stack))
      (subst (IsPlace (code_at w method)) (sym ex.ends) next)) in
      subst (λ (y : State Cell). Steps tagged w (at (place n) stack) (running y))
      (ap (λ q. with_place z q) ex.ends ∙ load-is letter r (place n) (place (n + 1)) stack can.1.filled) went

  above : (letter : Sort) (r : ℕ) (stack : List Cell) → length stack ≤ length (value_in_register letter r registers ++ stack)
  above x r stack = grind (arith)

  deeper : (hs : List Home) (stack : List Cell) → length stack ≤ length (loaded_stack s registers hs stack)
  deeper [] stack = omega arith
  deeper (h ∷ hs) stack = grind (arith, deeper hs (value_in_register (letter_of h.ty) (register s h) registers ++ stack))

  loads-from :
      (n : ℕ) (hs : List Home) (stack first : List Cell) (p : ℕ)
      → InstructionsStandFrom steps n (map (load_of s) hs)
      → n + length hs < length steps
      → Each (CanLoad w s (at p first)) hs
      → length (loaded_stack s registers hs stack) ≤ max_stack_of w method
      → Runs tagged w (length hs) (at (place n) stack) (running (at (place (n + length hs)) (loaded_stack s registers hs stack)))
  loads-from n [] stack first p stand further can room =
      let e : n ≡ n + 0 = omega arith in
      subst (λ k. Runs tagged w 0 (at (place n) stack) (running (at (place k) stack))) e stands
  loads-from n (h ∷ hs) stack first p stand further can room =
      let more : List Cell = value_in_register (letter_of h.ty) (register s h) registers ++ stack in
      let e : n + 1 + length hs ≡ n + suc (length hs) = omega arith in
      let deep = deeper hs more in
      then
      (one-load n p h stack first stand.0 (omega (arith, further)) can.0 (omega (arith, deep, room)))
      (subst (λ k. Runs tagged w (length hs) (at (place (n + 1)) more) (running (at (place k) (loaded_stack s registers hs more))))
      e
      (loads-from (n + 1) hs more first p stand.1 (omega (arith, further)) can.1 room))

loads-by :
    (w : Linked) → IsExecutable w
    → (place : ℕ → ℕ) (steps : List Step) (fs : List (Frame Cell)) (heap : List (Object Cell)) (statics : List Cell) (n : ℕ)
    (s : Source) (hs : List Home)
    → IsAtStep w place steps (record { frames = fs; heap = heap; statics = statics }) n (length hs)
    → InstructionsStandFrom steps n (map (load_of s) hs)
    → Each (CanLoad w s (record { frames = fs; heap = heap; statics = statics })) hs
    → length (loaded_stack s (first_frame fs).registers hs (first_frame fs).stack) ≤ max_stack_of w (first_frame fs).method
    → Runs tagged w (length hs) (record { frames = fs; heap = heap; statics = statics })
    (running (with_place (with_stack (record { frames = fs; heap = heap; statics = statics })
    (loaded_stack s (first_frame fs).registers hs (first_frame fs).stack))
    (place (n + length hs))))
loads-by w world place steps [] heap statics n s hs is stand can room = absurd (let lt = is.runs in omega (arith, lt))
loads-by w world place steps (f ∷ below) heap statics n s hs is stand can room =
    subst
    (λ p. Runs tagged w (length hs)
    (record {
      frames = record { method = f.method; place = p; registers = f.registers; stack = f.stack } ∷ below;
      heap = heap;
      statics = statics;
    })
    (running (record {
      frames =
          record {
            method = f.method;
            place = place (n + length hs);
            registers = f.registers;
            stack = loaded_stack s f.registers hs
                f.stack;
          } ∷ below;
      heap = heap;
      statics = statics;
    }))) (sym is.at)
    (loads-from w world place steps s f.method f.registers below heap statics is.method is.is_method is.are n hs f.stack
    f.stack f.place stand is.further can room)

pub loads-run : (w : Linked) → IsExecutable w → LoadsRun w
loads-run w world place steps t n s hs is stand can room =
    loads-by w world place steps t.frames t.heap t.statics n s hs is stand can room
