-- Writes of fields of `this`: where register 0 is no longer the home of local 0, the object is loaded and put under the value first.
use Rattle.std.proofs.Common.{◌≡◌, ℕ, suc, ◌+◌, ◌-◌, ◌<◌, ◌≤◌, ◌==◌, Bool, true, false, if◌then◌else◌, List, []}
use Rattle.std.proofs.Common.{◌∷◌, length, map, refl, sym, ap, ◌∙◌, subst, arith}
use Rattle.std.specs.Prelude.{None, Ok, IfSome, slice_get, drop}
use Rattle.jc_base.specs.Linked.{IsMethod}
use Rattle.jc_base.proofs.Lists.{All-slice_get}
use Rattle.jc_base.proofs.Eaching.{Each-weaker}
use Rattle.std.proofs.lemmas.List.{length-map}
use Rattle.jc_base.specs.Cell.{IsDeclared, IsOfKind, width as cells_of_kind}
use Rattle.jc_base.specs.Class.{ClassTable}
use Rattle.jc_base.specs.declared.ty.Ty.{Ty}
use Rattle.jc_base.specs.Laws.{IsOrderOfTypes}
use Rattle.jc_base.specs.Order.{Below}
use Rattle.jc_base.specs.World.{Linked, IsWorld}
use Rattle.jc_base.specs.declared.ty.Ty.TheVariants.{Bottom, Class}
use Rattle.jc_decode.specs.declared.insn.Placed.{Placed}
use Rattle.jc_decode.specs.declared.symbols.Item.TheVariants.{Plain}
use Rattle.jc_decode.specs.Listing.{listing}
use Rattle.jc_decode.specs.Standing.{AreSteps}
use Rattle.jc_decode.proofs.InstructionLists.{all-are-listed}
use Rattle.jc_decode.proofs.Ranges.{op-fits}
use Rattle.jc_control.specs.WellFormed.{IsPlace}
use Rattle.jc_ops.specs.declared.operation.Holder.TheVariants as holders
use Rattle.jc_ops.specs.declared.operation.InstanceField.{InstanceField}
use Rattle.jc_ops.specs.declared.operation.Operation.TheVariants as ops
use Rattle.jc_ops.specs.declared.operation.Sort.TheVariants as sorts
use Rattle.jc_ops.specs.Resolve.{Resolves}
use Rattle.jc_ops.specs.Sound.{IsFieldOf, OperationsAreDecided, OperationsAreSound}
use Rattle.jc_ops.specs.declared.operation.Move.TheVariants as shifts
use Rattle.vm_store.specs.declared.cell.Cell.{Cell}
use Rattle.vm_store.specs.declared.cell.ObjectKind.{ObjectKind}
use Rattle.vm_store.specs.Cells.{tagged, word_of}
use Rattle.vm_store.specs.Objects.{kinds}
use Rattle.vm_store.specs.State.{State, Frame, Object, nth, other_frames, top, with_place}
use Rattle.vm_store.specs.Value.{value_on, kept_value as value_kept}
use Rattle.vm_step.specs.declared.ending.Exception.TheVariants.{NullPointer}
use Rattle.vm_step.specs.Act.{Act, goes, raises}
use Rattle.vm_step.specs.Fields.{with_field_write}
use Rattle.vm_step.specs.Methods.{code_at, max_stack_of}
use Rattle.vm_step.specs.Values.{moved, with_move}
use Rattle.vm_step.specs.Performed.{act}
use Rattle.vm_step.specs.Raising.{Outcome, running, raised}
use Rattle.vm_step.specs.Run.{Runs}
use Rattle.vm_step.specs.Settled.{fault_next, settled, unless_fault}
use Rattle.vm_step.specs.Step.{Steps, performed, performs}
use Rattle.vm_step.specs.Tests.{fault_before}
use Rattle.law_sound.specs.Frames.{least_types, types_of_frame}
use Rattle.law_sound.proofs.Cells.{cell-at}
use Rattle.law_erasure.specs.Erasure.{IsNoFault}
use Rattle.law_alike.specs.Alike.{renamed_cell}
use Rattle.law_alike.proofs.Settling.{unless-none}
use Rattle.law_laid.specs.Apart.{apart_from_code}
use Rattle.law_laid.proofs.SameBut.{operations-are-kept}
use Rattle.xf_homes.specs.Source.{Source}
use Rattle.xf_homes.specs.Plan.{needed}
use Rattle.xf_emission.specs.Group.{body, stays, swap_words}
use Rattle.xf_emission.specs.Move.{load, with_byte}
use Rattle.xf_emission.specs.Mnemonics.{from_write, swap_x}
use Rattle.law_rewritten_typing.proofs.Rows.{write-on-stack}
use Rattle.law_alike.proofs.Storing.{object-written}
use Rattle.law_alike.proofs.Simulation.{one-step}
use Rattle.law_sound.proofs.Passing.{passes-before}
use Rattle.law_homes.specs.Edges.{top_at}
use Rattle.law_homes.specs.Held.{HoldsValue, HoldsLocals}
use Rattle.law_homes.specs.Laws.{ExecutesStep}
use Rattle.law_homes.specs.Moves.{IsExecutable, size, load_of, InstructionsStandFrom as StandAmong}
use Rattle.jc_decode.specs.Places.{place_after}
use Rattle.law_homes.proofs.Going.{operations-go-on}
use Rattle.law_homes.proofs.Loading.{step-place}
use Rattle.law_homes.specs.Premises.{AreMoveLaws}
use Rattle.law_homes.proofs.Standing.{steps-execute}
use Rattle.law_groups.specs.Laid.{IsLaidIn, body_at, count_of, rename, steps_of}
use Rattle.law_groups.specs.Beside.{StandsInGroup}
use Rattle.law_groups.specs.Body.{AreAtBody, BodyRuns, body_done, body_falls}
use Rattle.law_groups.specs.Comes.{group_raises}
use Rattle.law_groups.proofs.Arriving.{depth-fits, runs-then}
use Rattle.law_groups.proofs.Context.{steps-are, target-at, target-room}
use Rattle.law_groups.proofs.Following.{next-of, steps-here}
use Rattle.law_groups.proofs.Moving.{moves-stand}
use Rattle.law_groups.proofs.Plain.{frames-are, method-is}
use Rattle.law_groups.proofs.Reading.{IsHomeOf}
use Rattle.law_groups.proofs.Standing.{GroupSteps, stand-as}
use Rattle.law_groups.proofs.FieldCells.{Swaps, drop-shorter, last-held, swap-is, swaps, written}
use Rattle.law_groups.proofs.ThisReads.{HasSettled, has-settled, same-locals, this-loaded}

module _
    {v w : Linked} {s : Source} {place : ℕ → ℕ} (laid : IsLaidIn v w s place)
    (world : IsWorld v) (decided : OperationsAreDecided v) (laws : (w : Linked) → IsExecutable w → AreMoveLaws v w)
    (types : IsOrderOfTypes v.classes) (source_sound : OperationsAreSound v) (i : Placed) (fd : InstanceField)
    (f : Frame Cell) (below : List (Frame Cell)) (heap : List (Object Cell)) (statics : List Cell) (t : State Cell) where
  abbrev z : State Cell
  z = record { frames = f ∷ below; heap = heap; statics = statics }

  abbrev t1 : State Cell
  t1 = top_at t (place (body_at s i.place + 1)) (top t).registers (nth tagged f.registers 0 ∷ (top t).stack)

  module _ (o : Outcome Cell) (b : AreAtBody v w s place i (ops.FieldWrite fd holders.This) z t) (home : IsHomeOf s i.place 0 sorts.Reference)
      (moves : stays s (record { slot = 0; ty = home.ty }) ≡ false)
      (step : Steps tagged v z o) (fine : IsNoFault o) where
    body_is : body s i (ops.FieldWrite fd holders.This) ≡ load s (record { slot = 0; ty = home.ty }) ∷ Plain
        (with_byte swap_x (swap_words fd.kind)) ∷ Plain (record i.insn { op = i.insn.op - from_write }) ∷ []
    unfolding body
    body_is = grind (arith)

    g : GroupSteps s i (ops.FieldWrite fd holders.This)
    g = steps-here laid i (ops.FieldWrite fd holders.This) b.stands b.reached b.does

    count : count_of (body s i (ops.FieldWrite fd holders.This)) ≡ 3
    count = ap count_of body_is

    there : StandAmong (steps_of s) (body_at s i.place)
        (load_of s (record { slot = 0; ty = home.ty }) ∷ with_byte swap_x (swap_words fd.kind) ∷ record i.insn { op = i.insn.op - from_write } ∷ [])
    there =
        moves-stand s (body_at s i.place)
        (load s (record { slot = 0; ty = home.ty }) ∷ Plain (with_byte swap_x (swap_words fd.kind)) ∷ Plain
        (record i.insn { op = i.insn.op - from_write }) ∷ []) tt
        (stand-as s (body_at s i.place) (body s i (ops.FieldWrite fd holders.This))
        (load s (record { slot = 0; ty = home.ty }) ∷ Plain (with_byte swap_x (swap_words fd.kind)) ∷ Plain
        (record i.insn { op = i.insn.op - from_write }) ∷ []) body_is g.body_steps)

    further : body_at s i.place + 3 < length (steps_of s)
    further =
        let next = next-of laid i (ops.FieldWrite fd holders.This) b.stands b.reached b.does refl in
        let later = next.follows_it in
        let inside = next.inside in
        let size = g.size in
        omega (arith, later, inside, size, count)

    runs_t : 0 < length t.frames
    runs_t = omega (arith, b.equal.frames)

    has : HasSettled v i (ops.FieldWrite fd holders.This) f below heap statics o
    has = has-settled v world decided i (ops.FieldWrite fd holders.This) f below heap statics o b.executes step fine

    loaded : Runs tagged w 1 t (running t1)
    loaded = this-loaded laid (laws w laid.new) f below heap statics t b home (there.0, tt) (omega (arith, further))

    -- ---- the swap

    own : Resolves w laid.code.target.rec i.place i.insn (Ok (ops.FieldWrite fd holders.This))
    own =
        let same_method = method-is laid b in
        operations-are-kept v w b.executes.method laid.code.target.rec i.place i.insn (Ok (ops.FieldWrite fd holders.This)) laid.code.same
        (ap apart_from_code same_method ∙ sym laid.code.has.same) b.executes.resolved

    kind_is : IsOfKind fd.kind fd.ty
    kind_is =
        let declared : IfSome b.executes.method.sig.result (IsDeclared v.classes) =
        (All-slice_get (IsMethod v.infos v.pools v.classes) v.methods f.method b.executes.method world.methods b.executes.fetched.method).result in
        let sound : IsFieldOf v fd = source_sound b.executes.method i.place i.insn (ops.FieldWrite fd holders.This) declared b.executes.resolved in
        sound.cells.kind

    kinds_are : map (λ (q : Object Cell). q.kind) heap ≡ kinds t
    kinds_are = ap (λ (os : List (Object Cell)). map (λ (q : Object Cell). q.kind) os) (sym b.equal.heap)

    swapped : Swaps w.classes (kinds t) (cells_of_kind fd.kind) (λ cs. value_on tagged fd.kind cs) fd.ty fd.class (rename s place)
        (least_types w.classes Bottom (kinds t) (top t).registers) (nth tagged f.registers 0) f.stack (top t).stack
    swapped =
        let regs : List Ty = least_types w.classes Bottom (kinds t) (top t).registers in
        let held_there = last-held v.classes (types_of_frame v.classes Bottom (map (λ (q : Object Cell). q.kind) heap) f) fd.ty fd.class has.asked.1 in
        let at_source = (cell-at v.classes Bottom (map (λ (q : Object Cell). q.kind) heap) f.registers 0 (λ u. Below v.classes u (Class fd.class))
        held_there).holds in
        let there_is = swaps v.classes world.chains types (map (λ (q : Object Cell). q.kind) heap) fd.class (rename s place) regs
        (nth tagged f.registers 0) at_source
        fd.kind fd.ty f.stack (least_types v.classes Bottom (map (λ (q : Object Cell). q.kind) heap) f.registers) kind_is has.asked.1 in
        subst (λ (cs : List Cell). Swaps w.classes (kinds t) (cells_of_kind fd.kind) (λ ds. value_on tagged fd.kind ds) fd.ty fd.class (rename s place)
        regs (nth tagged f.registers 0) f.stack cs) (sym b.held.stack)
        (subst (λ (k : ClassTable). Swaps k (kinds t) (cells_of_kind fd.kind) (λ ds. value_on tagged fd.kind ds) fd.ty fd.class (rename s place) regs
        (nth tagged f.registers 0) f.stack (map (renamed_cell (rename s place)) f.stack)) laid.code.same.classes
        (subst (λ (os : List ObjectKind). Swaps v.classes os (cells_of_kind fd.kind) (λ ds. value_on tagged fd.kind ds) fd.ty fd.class (rename s place)
        regs (nth tagged f.registers 0) f.stack (map (renamed_cell (rename s place)) f.stack)) kinds_are there_is))

    abbrev t2 : State Cell
    t2 =
        top_at t (place (body_at s i.place + 1 + 1)) (top t).registers
        (moved (shifts.Exchange 1 (cells_of_kind fd.kind)) (nth tagged f.registers 0 ∷ (top t).stack))

    next_at : (k : ℕ) → k < length (steps_of s) → IsPlace (code_at w (top t).method) (place k)
    next_at k lt = grind (arith, step-place (code_at w s.method.number) place (steps_of s) k (steps-are laid) lt)

    deep_t : suc (length (top t).stack) ≤ max_stack_of w (top t).method
    deep_t = grind (arith, depth-fits laid z b.typed, length-map f.stack (renamed_cell (rename s place)), target-room laid)

    ex2 : ExecutesStep w t1 place (body_at s i.place + 1) (record { insn = with_byte swap_x (swap_words fd.kind); targets = []; keys = [] })
        (ops.Move (shifts.Exchange 1 (cells_of_kind fd.kind)))
    ex2 =
        steps-execute w laid.new t1 laid.code.target.rec place (steps_of s) (body_at s i.place + 1) i.place
        (record { insn = with_byte swap_x (swap_words fd.kind); targets = []; keys = [] })
        (ops.Move (shifts.Exchange 1 (cells_of_kind fd.kind))) (omega arith)
        (ap (slice_get w.methods) b.of.target ∙ target-at laid)
        (subst (λ m. AreSteps (code_at w m) place 0 (steps_of s) (listing (code_at w m))) (sym b.of.target) (steps-are laid))
        there.1.0 refl (swap-is w laid.code.target.rec i.place fd.kind)

    swapping : Runs tagged w 1 t1 (running t2)
    swapping =
        let z2 : State Cell = with_move (shifts.Exchange 1 (cells_of_kind fd.kind)) t1 in
        let size = swapped.size in
        let fits = deep_t in
        let steps_to : Steps tagged w t1 (running (with_place z2 (place_after ex2.instruction))) =
        operations-go-on w laid.new.chains t1 z2 ex2.instruction (ops.Move (shifts.Exchange 1 (cells_of_kind fd.kind))) ex2.executes swapped.cut refl
        (omega (arith, size, fits))
        (subst (λ (p : ℕ). IsPlace (code_at w (top t).method) p) (sym ex2.ends) (next_at (body_at s i.place + 1 + 1) (omega (arith, further)))) in
        one-step w t1 (running t2) (subst (λ (p : ℕ). Steps tagged w t1 (running (with_place z2 p))) ex2.ends steps_to)

    -- ---- the field

    resolves : Resolves w laid.code.target.rec i.place (record i.insn { op = i.insn.op - from_write }) (Ok (ops.FieldWrite fd holders.Stack))
    resolves =
        let small = op-fits s.method.code i.place i.insn laid.planned.code.bytes ((all-are-listed s.method.code).decodes i b.stands) in
        sym (write-on-stack w laid.code.target.rec laid.code.target.rec i.place i.place i.insn fd small refl (sym own))

    ex : ExecutesStep w t2 place (body_at s i.place + 1 + 1) (record { insn = record i.insn { op = i.insn.op - from_write }; targets = []; keys = [] })
        (ops.FieldWrite fd holders.Stack)
    ex =
        steps-execute w laid.new t2 laid.code.target.rec place (steps_of s) (body_at s i.place + 1 + 1) i.place
        (record { insn = record i.insn { op = i.insn.op - from_write }; targets = []; keys = [] })
        (ops.FieldWrite fd holders.Stack) (omega arith)
        (ap (slice_get w.methods) b.of.target ∙ target-at laid)
        (subst (λ m. AreSteps (code_at w m) place 0 (steps_of s) (listing (code_at w m))) (sym b.of.target) (steps-are laid))
        there.1.1.0 refl resolves

    within : StandsInGroup s place f (top t2)
    within =
        let size = g.size in
        record {
          of = record { source = b.of.source; target = b.of.target; count = b.of.count };
          instruction = i;
          stands = b.stands;
          there = sym b.here;
          step = body_at s i.place + 1 + 1;
          inside = record { «from» = omega arith; before = omega (arith, size, count) };
          at = refl;
          locals = same-locals s f.place f (top t) (top t2) refl (subst (λ (p : ℕ). HoldsLocals s p f (top t)) (sym b.here) b.held.locals);
        }

    abbrev Run : Outcome Cell → Type 0
    Run p = BodyRuns v w s place i (ops.FieldWrite fd holders.This) z t p

    does :
        act tagged w ex.instruction.insn (ops.FieldWrite fd holders.Stack) t2
        ≡ (if word_of (nth tagged f.registers 0) == 0 then raises NullPointer else goes
        (with_field_write tagged fd holders.Stack (word_of (nth tagged f.registers 0)) t2))
    does = ap (λ (d : Cell). if word_of d == 0 then raises NullPointer else goes (with_field_write tagged fd holders.Stack (word_of d) t2)) swapped.handle

    null : (word_of (nth tagged f.registers 0) == 0) ≡ true → Run o
    null e =
        let next : ℕ = i.place + i.insn.len in
        let o_is : o ≡ raised tagged v NullPointer z =
        has.comes
        ∙ ap
        (λ (d : Bool). settled tagged v next z
        (if d then raises NullPointer else goes (with_field_write tagged fd holders.This (word_of (nth tagged f.registers 0)) z))) e in
        let before : fault_before tagged w (ops.FieldWrite fd holders.Stack) t2 ≡ None =
        passes-before w laid.new.chains (top t2) (other_frames t.frames) t.heap t.statics (ops.FieldWrite fd holders.Stack) swapped.write in
        let leads : Outcome Cell = settled tagged w (place_after ex.instruction) t2 (act tagged w ex.instruction.insn (ops.FieldWrite fd holders.Stack) t2) in
        let acts : act tagged w ex.instruction.insn (ops.FieldWrite fd holders.Stack) t2 ≡ raises NullPointer =
        does
        ∙ ap
        (λ (d : Bool). if d then raises NullPointer else goes (with_field_write tagged fd holders.Stack (word_of (nth tagged f.registers 0)) t2)) e in
        let raises_it : raised tagged w NullPointer t2 ≡ performed tagged w ex.instruction (ops.FieldWrite fd holders.Stack) t2 =
        sym (ap (λ (a : Act Cell). settled tagged w (place_after ex.instruction) t2 a) acts)
        ∙ ap (λ p. unless_fault t2 p leads) (sym before) in
        let third : Steps tagged w t2 (raised tagged w NullPointer t2) = performs ex.executes.fetched (ops.FieldWrite fd holders.Stack) ex.executes.resolved
        raises_it in
        record {
          count = 3;
          more = omega arith;
          fewer = omega arith;
          outcome = raised tagged w NullPointer t2;
          runs =
              runs-then w 1 2 t t1 (raised tagged w NullPointer t2) loaded
              (runs-then w 1 1 t1 t2 (raised tagged w NullPointer t2) swapping (one-step w t2 (raised tagged w NullPointer t2) third));
          comes = body_done (group_raises NullPointer t2 (record { moves = record { frames = refl; heap = refl; statics = refl }; within = within }) o_is refl);
        }

    abbrev source_after : ℕ → State Cell
    source_after k =
        record {
          frames =
              record {
                method = f.method;
                place = i.place + i.insn.len;
                registers = f.registers;
                stack = drop (cells_of_kind fd.kind + 0) f.stack;
              } ∷ below;
          heap = written heap k fd.cell (value_kept tagged fd.kind (value_on tagged fd.kind f.stack));
          statics = statics;
        }

    abbrev target_after : ℕ → ℕ → State Cell
    target_after k at =
        record {
          frames =
              record {
                method = (top t).method;
                place = at;
                registers = (top t).registers;
                stack = drop (cells_of_kind fd.kind + 1) (moved (shifts.Exchange 1 (cells_of_kind fd.kind)) (nth tagged f.registers 0 ∷ (top t).stack));
              }
              ∷ other_frames t.frames;
          heap =
              written t.heap k fd.cell
              (value_kept tagged fd.kind
              (value_on tagged fd.kind (moved (shifts.Exchange 1 (cells_of_kind fd.kind)) (nth tagged f.registers 0 ∷ (top t).stack))));
          statics = t.statics;
        }

    there_is : (word_of (nth tagged f.registers 0) == 0) ≡ false → Run o
    there_is e =
        let next : ℕ = i.place + i.insn.len in
        let hd : ℕ = word_of (nth tagged f.registers 0) in
        let value : List Cell = value_kept tagged fd.kind (value_on tagged fd.kind f.stack) in
        let other_value : List Cell = value_kept tagged fd.kind (value_on tagged fd.kind (top t2).stack) in
        let wrote : State Cell = with_field_write tagged fd holders.This (word_of (nth tagged f.registers 0)) z in
        let y : State Cell = source_after (word_of (nth tagged f.registers 0)) in
        let y_is : with_place wrote next ≡ y =
        ap (λ (x : State Cell). with_place x next)
        (object-written (record f { stack = drop (cells_of_kind fd.kind + 0) f.stack } ∷ below) heap statics hd fd.cell value) in
        let goes_on : o ≡ unless_fault z (fault_next tagged v wrote (length (top wrote).stack) next) (running (with_place wrote next)) =
        has.comes
        ∙ ap
        (λ (d : Bool). settled tagged v next z
        (if d then raises NullPointer else goes (with_field_write tagged fd holders.This (word_of (nth tagged f.registers 0)) z))) e in
        let passed = unless-none z (fault_next tagged v wrote (length (top wrote).stack) next) (running (with_place wrote next))
        (subst IsNoFault goes_on fine) in
        let o_is : o ≡ running y = goes_on ∙ (passed.1 ∙ ap (λ (x : State Cell). running x) y_is) in
        let u1 : State Cell = target_after (word_of (nth tagged f.registers 0)) (place (body_at s i.place + 1 + 1)) in
        let u_is : with_field_write tagged fd holders.Stack (word_of (nth tagged f.registers 0)) t2 ≡ u1 =
        object-written (record (top t2) { stack = drop (cells_of_kind fd.kind + 1) (top t2).stack } ∷ other_frames t.frames) t.heap t.statics hd fd.cell
        other_value in
        let acts : act tagged w ex.instruction.insn (ops.FieldWrite fd holders.Stack) t2 ≡ goes u1 =
        does
        ∙ (ap (λ (d : Bool). if d then raises NullPointer else goes (with_field_write tagged fd holders.Stack (word_of (nth tagged f.registers 0)) t2)) e
        ∙ ap (λ (x : State Cell). goes x) u_is) in
        let stack_is : (top u1).stack ≡ map (renamed_cell (rename s place)) (drop (cells_of_kind fd.kind + 0) f.stack) = swapped.rest in
        let heap_is : u1.heap ≡ y.heap =
        ap (λ (os : List (Object Cell)). written os hd fd.cell other_value) b.equal.heap
        ∙ ap (λ (cs : List Cell). written heap hd fd.cell (value_kept tagged fd.kind cs)) swapped.value in
        let room : length (top u1).stack ≤ max_stack_of w (top t).method =
        let k = ap length stack_is in
        let m = length-map (drop (cells_of_kind fd.kind + 0) f.stack) (renamed_cell (rename s place)) in
        let d = drop-shorter (cells_of_kind fd.kind + 0) f.stack in
        let e1 = ap length b.held.stack in
        let m1 = length-map f.stack (renamed_cell (rename s place)) in
        let fits = deep_t in
        omega (arith, k, m, d, e1, m1, fits) in
        let third : Steps tagged w t2 (running (with_place u1 (place_after ex.instruction))) =
        operations-go-on w laid.new.chains t2 u1 ex.instruction (ops.FieldWrite fd holders.Stack) ex.executes swapped.write acts room
        (subst (λ (p : ℕ). IsPlace (code_at w (top t).method) p) (sym ex.ends) (next_at (body_at s i.place + 1 + 1 + 1) (omega (arith, further)))) in
        let u : State Cell = with_place u1 (place_after ex.instruction) in
        let frames_t = ap length (frames-are t runs_t) in
        let last : body_at s i.place + 1 + 1 + 1 ≡ body_at s i.place + count_of (body s i (ops.FieldWrite fd holders.This)) = omega (arith, count) in
        subst Run (sym o_is)
        (record {
          count = 3;
          more = omega arith;
          fewer = omega arith;
          outcome = running u;
          runs = runs-then w 1 2 t t1 (running u) loaded (runs-then w 1 1 t1 t2 (running u) swapping (one-step w t2 (running u) third));
          comes =
              body_falls
              (record {
                first = record { frames = refl };
                second = record { frames = refl };
                equal = record { frames = omega (arith, frames_t, b.equal.frames); heap = heap_is; statics = b.equal.statics };
                of = record { source = b.of.source; target = b.of.target; count = b.of.count };
                stack = stack_is;
                holds = record {
                  stored = λ x k. absurd (never k);
                  others = λ x. Each-weaker (HoldsValue s f.registers (top t)) _
                      (λ a own free. record { known = own.known; there = own.there; equal = own.equal }) (needed s i.place x) (b.held.locals x);
                };
              }) refl refl (ex.ends ∙ ap place last);
        })
      where
        never : false ≡ true → ⊥
        never k = absurd (cc)

    pub write-moved : Run o
    write-moved = by (word_of (nth tagged f.registers 0) == 0) refl
      where
        by : (d : Bool) → (word_of (nth tagged f.registers 0) == 0) ≡ d → Run o
        by true e = null e
        by false e = there_is e
