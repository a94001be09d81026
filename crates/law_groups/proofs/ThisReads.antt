-- Reads of fields of `this`: where register 0 is no longer the home of local 0, the object is loaded first.
use Rattle.std.proofs.Common.{◌≡◌, ℕ, zero, suc, ◌+◌, ◌-◌, ◌<◌, ◌≤◌, ◌==◌, Bool, true, false, if◌then◌else◌, List, []}
use Rattle.std.proofs.Common.{◌∷◌, ◌++◌, length, map, refl, sym, ap, ◌∙◌, subst, arith}
use Rattle.std.specs.Prelude.{None, Ok, slice_get}
use Rattle.std.proofs.lemmas.List.{length-map}
use Rattle.jc_base.specs.Class.{ClassTable}
use Rattle.jc_base.specs.Each.{IsAmong}
use Rattle.jc_base.specs.Order.{Below}
use Rattle.jc_base.specs.World.{Linked, IsWorld}
use Rattle.jc_base.specs.declared.ty.Ty.TheVariants.{Bottom, Class}
use Rattle.jc_base.proofs.Eaching.{Each-weaker}
use Rattle.jc_decode.specs.declared.insn.Insn.{Insn}
use Rattle.jc_decode.specs.declared.insn.Placed.{Placed}
use Rattle.jc_decode.specs.declared.symbols.Item.TheVariants.{Plain}
use Rattle.jc_decode.specs.Listing.{listing}
use Rattle.jc_decode.specs.Standing.{AreSteps}
use Rattle.jc_decode.proofs.InstructionLists.{all-are-listed}
use Rattle.jc_decode.proofs.Ranges.{op-fits}
use Rattle.jc_control.specs.WellFormed.{IsPlace}
use Rattle.jc_ops.specs.declared.operation.Holder.TheVariants as holders
use Rattle.jc_ops.specs.declared.operation.InstanceField.{InstanceField}
use Rattle.jc_ops.specs.declared.operation.Operation.{Operation}
use Rattle.jc_ops.specs.declared.operation.Operation.TheVariants as ops
use Rattle.jc_ops.specs.declared.operation.Sort.{Sort}
use Rattle.jc_ops.specs.declared.operation.Sort.TheVariants as sorts
use Rattle.jc_ops.specs.Resolve.{Resolves}
use Rattle.jc_ops.specs.Sound.{OperationsAreDecided}
use Rattle.jc_rules.specs.Demand.{SatisfiesAll}
use Rattle.jc_rules.specs.Rule.{demands}
use Rattle.vm_store.specs.declared.cell.Cell.{Cell}
use Rattle.vm_store.specs.declared.cell.ObjectKind.{ObjectKind}
use Rattle.vm_store.specs.Typing.{least_type}
use Rattle.vm_store.specs.Cells.{tagged, word_of}
use Rattle.vm_store.specs.Objects.{cells_in, kinds, object_cells}
use Rattle.vm_store.specs.State.{State, Frame, Object, nth, other_frames, top, with_place, map_object}
use Rattle.vm_store.specs.Value.{value_in, with_value}
use Rattle.vm_step.specs.declared.ending.Exception.TheVariants.{NullPointer}
use Rattle.vm_step.specs.Act.{goes, raises}
use Rattle.vm_step.specs.Fields.{with_field_read}
use Rattle.vm_step.specs.Methods.{code_at, max_stack_of}
use Rattle.vm_step.specs.Numbers.{pushed}
use Rattle.vm_step.specs.Performed.{act}
use Rattle.vm_step.specs.Raising.{Outcome, running, raised}
use Rattle.vm_step.specs.Run.{Runs}
use Rattle.vm_step.specs.Settled.{fault_next, settled, unless_fault}
use Rattle.vm_step.specs.Step.{Steps, performed, performs}
use Rattle.vm_step.specs.Tests.{fault_before}
use Rattle.vm_step.proofs.Running.{steps-one}
use Rattle.law_sound.specs.Frames.{types_of_frame}
use Rattle.law_sound.proofs.Cells.{cell-at}
use Rattle.law_erasure.specs.Erasure.{IsNoFault}
use Rattle.law_alike.specs.Alike.{renamed_cell}
use Rattle.law_alike.specs.Running.{Executes}
use Rattle.law_alike.proofs.Asked.{passed-asks, register-same}
use Rattle.law_alike.proofs.Cells.{in-stays, object-stays, replaced-renamed}
use Rattle.law_alike.proofs.Settling.{unless-none}
use Rattle.law_alike.proofs.Simulation.{one-step}
use Rattle.xf_homes.specs.declared.home.Home.{Home}
use Rattle.xf_homes.specs.Value.{type_width}
use Rattle.law_laid.specs.Apart.{apart_from_code}
use Rattle.law_laid.proofs.SameBut.{operations-are-kept}
use Rattle.xf_homes.specs.Source.{Source}
use Rattle.xf_homes.specs.Plan.{needed, register}
use Rattle.xf_emission.specs.Group.{body, stays}
use Rattle.xf_emission.specs.Move.{load}
use Rattle.xf_emission.specs.Mnemonics.{from_read}
use Rattle.law_rewritten_typing.proofs.Rows.{read-on-stack}
use Rattle.law_sound.proofs.Passing.{passes-before}
use Rattle.law_homes.specs.Edges.{top_at, IsBeside}
use Rattle.law_homes.specs.Held.{HoldsValue, HoldsLocals}
use Rattle.law_homes.specs.Laws.{ExecutesStep}
use Rattle.law_homes.specs.Moves.{IsExecutable, letter_of, value_in_register, size, load_of, InstructionsStandFrom as StandAmong}
use Rattle.jc_decode.specs.Places.{place_after}
use Rattle.law_homes.proofs.Copies.{wide}
use Rattle.law_homes.proofs.Going.{operations-go-on}
use Rattle.law_homes.proofs.Loading.{loads-run, step-place}
use Rattle.law_homes.proofs.Beside.{among-each, held-can-load, needed-valued, register-small}
use Rattle.law_homes.specs.Premises.{AreMoveLaws}
use Rattle.law_homes.proofs.Standing.{steps-execute}
use Rattle.law_groups.specs.Laid.{IsLaidIn, body_at, count_of, rename, steps_of}
use Rattle.law_groups.specs.Beside.{IsTypedAt, StandsInGroup, StaysTyped}
use Rattle.law_groups.specs.Body.{AreAtBody, BodyRuns, body_done, body_falls}
use Rattle.law_groups.specs.Comes.{group_raises}
use Rattle.law_groups.proofs.Arriving.{at-step, beside, depth-fits, runs-then}
use Rattle.law_groups.proofs.Context.{steps-are, target-at, target-room}
use Rattle.law_groups.proofs.Following.{next-of, steps-here}
use Rattle.law_groups.proofs.Moving.{moves-stand}
use Rattle.law_groups.proofs.Plain.{frames-are, method-is}
use Rattle.law_groups.proofs.Reading.{IsHomeOf}
use Rattle.law_groups.proofs.Standing.{GroupSteps, stand-as}

-- ---- a step that meets no fault

-- it asked what is there, and came to what its operation settles
pub record HasSettled (v : Linked) (i : Placed) (op : Operation) (f : Frame Cell) (below : List (Frame Cell)) (heap : List (Object Cell))
    (statics : List Cell) (o : Outcome Cell) : Type 0 where
  pub asked : SatisfiesAll v.classes (types_of_frame v.classes Bottom (map (λ (q : Object Cell). q.kind) heap) f) (demands v op)
  pub comes :
      o
      ≡ settled tagged v (i.place + i.insn.len) (record { frames = f ∷ below; heap = heap; statics = statics })
      (act tagged v i.insn op (record { frames = f ∷ below; heap = heap; statics = statics }))

pub has-settled :
    (v : Linked) → IsWorld v → OperationsAreDecided v
    → (i : Placed) (op : Operation) (f : Frame Cell) (below : List (Frame Cell)) (heap : List (Object Cell)) (statics : List Cell) (o : Outcome Cell)
    → Executes v (record { frames = f ∷ below; heap = heap; statics = statics }) i op
    → Steps tagged v (record { frames = f ∷ below; heap = heap; statics = statics }) o
    → IsNoFault o
    → HasSettled v i op f below heap statics o
has-settled v world decided i op f below heap statics o ex step fine =
    let z : State Cell = record { frames = f ∷ below; heap = heap; statics = statics } in
    let o_is : o ≡ performed tagged v i op z = steps-one tagged v decided z o (performed tagged v i op z) step (performs ex.fetched op ex.resolved refl) in
    let leads : Outcome Cell = settled tagged v (i.place + i.insn.len) z (act tagged v i.insn op z) in
    let passed = unless-none z (fault_before tagged v op z) leads (subst IsNoFault o_is fine) in
    record { asked = passed-asks v world f below heap statics op passed.0; comes = o_is ∙ passed.1 }

-- the cells of an object have no uninitialised object
pub cells-stay : (e : ℕ → ℕ) (z : State Cell) (h : ℕ) → map (map_object (renamed_cell e)) z.heap ≡ z.heap
    → map (renamed_cell e) (object_cells z h) ≡ object_cells z h
cells-stay e z zero stays_there = refl
cells-stay e z (suc h) stays_there = object-stays e z.heap h stays_there

-- objects are looked for in the heap alone
pub cells-same : (z t : State Cell) (h : ℕ) → t.heap ≡ z.heap → object_cells t h ≡ object_cells z h
cells-same z t zero e = refl
cells-same z t (suc h) e = ap (λ (os : List (Object Cell)). cells_in (slice_get os h)) e

pub same-locals : (s : Source) (p : ℕ) (f g k : Frame Cell) → k.registers ≡ g.registers → HoldsLocals s p f g → HoldsLocals s p f k
same-locals s p f g k e locals x =
    Each-weaker (HoldsValue s f.registers g) (HoldsValue s f.registers k) (λ h held. record {
      known = held.known;
      there = subst (λ (rs : List Cell). register s h + type_width h.ty ≤ length rs) (sym e) held.there;
      equal = λ n lt. ap (λ (rs : List Cell). slice_get rs (register s h + n)) e ∙ held.equal n lt;
    }) (needed s p x) (locals x)

-- ---- the load of the object, where register 0 is not the home of local 0

module _
    {v w : Linked} {s : Source} {place : ℕ → ℕ} (laid : IsLaidIn v w s place) (l : AreMoveLaws v w) {i : Placed} {op : Operation}
    (f : Frame Cell) (below : List (Frame Cell)) (heap : List (Object Cell)) (statics : List Cell) (t : State Cell)
    (b : AreAtBody v w s place i op (record { frames = f ∷ below; heap = heap; statics = statics }) t)
    (home : IsHomeOf s i.place 0 sorts.Reference)
    (stand : StandAmong (steps_of s) (body_at s i.place) (load_of s (record { slot = 0; ty = home.ty }) ∷ []))
    (inside : body_at s i.place + 1 < length (steps_of s)) where
  beside_z : IsBeside w s f.place f t
  beside_z = beside laid _ t b.typed b.equal.heap b.of

  held : HoldsValue s f.registers (top t) (record { slot = 0; ty = home.ty })
  held = among-each (HoldsValue s f.registers (top t)) (needed s i.place 0) (record { slot = 0; ty = home.ty }) (b.held.locals 0) home.among

  some : 0 < type_width home.ty
  some = let e = wide home.ty in let k = ap size home.letter_is in omega (arith, e, k)

  cell_is : nth tagged (top t).registers (register s (record { slot = 0; ty = home.ty })) ≡ nth tagged f.registers 0
  cell_is =
      grind (arith, register-same f.registers (top t).registers 0 (register s (record { slot = 0; ty = home.ty }) + 0) (held.equal 0 some))

  pub this-loaded :
      Runs tagged w 1 t (running (top_at t (place (body_at s i.place + 1)) (top t).registers (nth tagged f.registers 0 ∷ (top t).stack)))
  this-loaded =
      let valued = needed-valued v w l s laid.world laid.planned f.place f t beside_z 0 (record { slot = 0; ty = home.ty })
      (subst (λ (p : ℕ). IsAmong (record { slot = 0; ty = home.ty }) (needed s p 0)) (sym b.here) home.among) in
      let stack_is : value_in_register (letter_of home.ty) (register s (record { slot = 0; ty = home.ty })) (top t).registers ++ (top t).stack
      ≡ nth tagged f.registers 0 ∷ (top t).stack =
      ap (λ (a : Sort). value_in_register a (register s (record { slot = 0; ty = home.ty })) (top t).registers ++ (top t).stack) home.letter_is
      ∙ ap (λ (d : Cell). d ∷ (top t).stack) cell_is in
      let deep = depth-fits laid _ b.typed in
      let e = ap length b.held.stack in
      let m = length-map f.stack (renamed_cell (rename s place)) in
      let own = target-room laid in
      let method = ap (max_stack_of w) b.of.target in
      let fits : length (value_in_register (letter_of home.ty) (register s (record { slot = 0; ty = home.ty })) (top t).registers ++ (top t).stack) ≤
      max_stack_of w (top t).method =
      omega (arith, ap length stack_is, deep, e, m, own, method) in
      let ran = loads-run w l.world place (steps_of s) t (body_at s i.place) s (record { slot = 0; ty = home.ty } ∷ [])
      (at-step laid t (body_at s i.place) 1 (omega (arith, b.equal.frames)) b.of.target b.at (omega (arith, inside))) stand (
        held-can-load w s f.registers t (record { slot = 0; ty = home.ty })
            (register-small v w l s laid.world laid.planned (record { slot = 0; ty = home.ty }) valued.1.has) held valued.2,
        tt,
      ) fits in
      subst (λ (cs : List Cell). Runs tagged w 1 t (running (top_at t (place (body_at s i.place + 1)) (top t).registers cs))) stack_is ran

-- ---- the read

module _
    {v w : Linked} {s : Source} {place : ℕ → ℕ} (laid : IsLaidIn v w s place)
    (world : IsWorld v) (decided : OperationsAreDecided v) (laws : (w : Linked) → IsExecutable w → AreMoveLaws v w)
    (i : Placed) (fd : InstanceField)
    (f : Frame Cell) (below : List (Frame Cell)) (heap : List (Object Cell)) (statics : List Cell) (t : State Cell) where
  abbrev z : State Cell
  z = record { frames = f ∷ below; heap = heap; statics = statics }

  abbrev op : Operation
  op = ops.FieldRead fd holders.This

  abbrev other : Operation
  other = ops.FieldRead fd holders.Stack

  abbrev insn : Insn
  insn = record i.insn { op = i.insn.op - from_read }

  abbrev n : ℕ
  n = body_at s i.place

  abbrev c : Cell
  c = nth tagged f.registers 0

  abbrev t1 : State Cell
  t1 = top_at t (place (body_at s i.place + 1)) (top t).registers (nth tagged f.registers 0 ∷ (top t).stack)

  module _ (o : Outcome Cell) (b : AreAtBody v w s place i (ops.FieldRead fd holders.This) z t) (home : IsHomeOf s i.place 0 sorts.Reference)
      (moves : stays s (record { slot = 0; ty = home.ty }) ≡ false)
      (step : Steps tagged v z o) (fine : IsNoFault o) (typed_after : StaysTyped v s o) where
    abbrev h : Home
    h = record { slot = 0; ty = home.ty }

    body_is : body s i (ops.FieldRead fd holders.This) ≡ load s (record { slot = 0; ty = home.ty }) ∷ Plain (record i.insn { op = i.insn.op - from_read }) ∷ []
    unfolding body
    body_is = grind (arith)

    g : GroupSteps s i (ops.FieldRead fd holders.This)
    g = steps-here laid i (ops.FieldRead fd holders.This) b.stands b.reached b.does

    count : count_of (body s i (ops.FieldRead fd holders.This)) ≡ 2
    count = ap count_of body_is

    there : StandAmong (steps_of s) (body_at s i.place) (load_of s (record { slot = 0; ty = home.ty }) ∷ record i.insn { op = i.insn.op - from_read } ∷ [])
    there =
        moves-stand s (body_at s i.place) (load s (record { slot = 0; ty = home.ty }) ∷ Plain (record i.insn { op = i.insn.op - from_read }) ∷ []) tt
        (stand-as s (body_at s i.place) (body s i (ops.FieldRead fd holders.This))
        (load s (record { slot = 0; ty = home.ty }) ∷ Plain (record i.insn { op = i.insn.op - from_read }) ∷ []) body_is g.body_steps)

    further : body_at s i.place + 2 < length (steps_of s)
    further =
        let next = next-of laid i (ops.FieldRead fd holders.This) b.stands b.reached b.does refl in
        let later = next.follows_it in
        let inside = next.inside in
        let size = g.size in
        omega (arith, later, inside, size, count)

    runs_t : 0 < length t.frames
    runs_t = omega (arith, b.equal.frames)

    has : HasSettled v i (ops.FieldRead fd holders.This) f below heap statics o
    has = has-settled v world decided i (ops.FieldRead fd holders.This) f below heap statics o b.executes step fine

    loaded : Runs tagged w 1 t (running t1)
    loaded = this-loaded laid (laws w laid.new) f below heap statics t b home (there.0, tt) (omega (arith, further))

    -- ---- the field

    resolves : Resolves w laid.code.target.rec i.place (record i.insn { op = i.insn.op - from_read }) (Ok (ops.FieldRead fd holders.Stack))
    resolves =
        let same_method = method-is laid b in
        let own : Resolves w laid.code.target.rec i.place i.insn (Ok (ops.FieldRead fd holders.This)) =
        operations-are-kept v w b.executes.method laid.code.target.rec i.place i.insn (Ok (ops.FieldRead fd holders.This)) laid.code.same
        (ap apart_from_code same_method ∙ sym laid.code.has.same) b.executes.resolved in
        let small = op-fits s.method.code i.place i.insn laid.planned.code.bytes ((all-are-listed s.method.code).decodes i b.stands) in
        sym (read-on-stack w laid.code.target.rec laid.code.target.rec i.place i.place i.insn fd small refl (sym own))

    ex : ExecutesStep w t1 place (body_at s i.place + 1) (record { insn = record i.insn { op = i.insn.op - from_read }; targets = []; keys = [] })
        (ops.FieldRead fd holders.Stack)
    ex =
        steps-execute w laid.new t1 laid.code.target.rec place (steps_of s) (body_at s i.place + 1) i.place
        (record { insn = record i.insn { op = i.insn.op - from_read }; targets = []; keys = [] })
        (ops.FieldRead fd holders.Stack) (omega arith)
        (ap (slice_get w.methods) b.of.target ∙ target-at laid)
        (subst (λ m. AreSteps (code_at w m) place 0 (steps_of s) (listing (code_at w m))) (sym b.of.target) (steps-are laid))
        there.1.0 refl resolves

    asked : SatisfiesAll w.classes (types_of_frame w.classes Bottom (kinds t) (top t1)) (demands w (ops.FieldRead fd holders.Stack))
    asked =
        let at_source = (cell-at v.classes Bottom (map (λ (q : Object Cell). q.kind) heap) f.registers 0 (λ u. Below v.classes u (Class fd.class))
        has.asked.1.0).holds in
        let kinds_are : map (λ (q : Object Cell). q.kind) heap ≡ kinds t = ap (λ (os : List (Object Cell)). map (λ (q : Object Cell). q.kind) os)
        (sym b.equal.heap) in (
          subst (λ (k : ClassTable). Below k (least_type k Bottom (kinds t) (nth tagged f.registers 0)) (Class fd.class)) laid.code.same.classes
              (subst (λ (os : List ObjectKind). Below v.classes (least_type v.classes Bottom os (nth tagged f.registers 0)) (Class fd.class)) kinds_are
              at_source),
          tt,
        )

    next_place : IsPlace (code_at w (top t).method) (place_after ex.instruction)
    next_place =
        subst (λ (p : ℕ). IsPlace (code_at w (top t).method) p) (sym ex.ends)
        (subst (λ (m : ℕ). IsPlace (code_at w m) (place (body_at s i.place + 1 + 1))) (sym b.of.target)
        (step-place (code_at w s.method.number) place (steps_of s) (body_at s i.place + 1 + 1) (steps-are laid) (omega (arith, further))))

    within : StandsInGroup s place f (top t1)
    within =
        let size = g.size in
        record {
          of = record { source = b.of.source; target = b.of.target; count = b.of.count };
          instruction = i;
          stands = b.stands;
          there = sym b.here;
          step = body_at s i.place + 1;
          inside = record { «from» = omega arith; before = omega (arith, size, count) };
          at = refl;
          locals = same-locals s f.place f (top t) (top t1) refl (subst (λ (p : ℕ). HoldsLocals s p f (top t)) (sym b.here) b.held.locals);
        }

    value : List Cell
    value = value_in tagged fd.kind (object_cells z (word_of (nth tagged f.registers 0))) fd.cell

    abbrev Run : Outcome Cell → Type 0
    Run p = BodyRuns v w s place i (ops.FieldRead fd holders.This) z t p

    null : (word_of (nth tagged f.registers 0) == 0) ≡ true → Run o
    null e =
        let next : ℕ = i.place + i.insn.len in
        let o_is : o ≡ raised tagged v NullPointer z =
        has.comes
        ∙ ap
        (λ (d : Bool). settled tagged v next z
        (if d then raises NullPointer else goes (with_field_read tagged fd holders.This (word_of (nth tagged f.registers 0)) z))) e in
        let before : fault_before tagged w (ops.FieldRead fd holders.Stack) t1 ≡ None =
        passes-before w laid.new.chains (top t1) (other_frames t.frames) t.heap t.statics (ops.FieldRead fd holders.Stack) asked in
        let leads : Outcome Cell = settled tagged w (place_after ex.instruction) t1 (act tagged w ex.instruction.insn (ops.FieldRead fd holders.Stack) t1) in
        let raises_it : raised tagged w NullPointer t1 ≡ performed tagged w ex.instruction (ops.FieldRead fd holders.Stack) t1 =
        sym
        (ap
        (λ (d : Bool). settled tagged w (place_after ex.instruction) t1
        (if d then raises NullPointer else goes (with_field_read tagged fd holders.Stack (word_of (nth tagged f.registers 0)) t1))) e)
        ∙ ap (λ p. unless_fault t1 p leads) (sym before) in
        let second : Steps tagged w t1 (raised tagged w NullPointer t1) = performs ex.executes.fetched (ops.FieldRead fd holders.Stack) ex.executes.resolved
        raises_it in
        record {
          count = 2;
          more = omega arith;
          fewer = omega arith;
          outcome = raised tagged w NullPointer t1;
          runs = runs-then w 1 1 t t1 (raised tagged w NullPointer t1) loaded (one-step w t1 (raised tagged w NullPointer t1) second);
          comes = body_done (group_raises NullPointer t1 (record { moves = record { frames = refl; heap = refl; statics = refl }; within = within }) o_is refl);
        }

    there_is : (word_of (nth tagged f.registers 0) == 0) ≡ false → Run o
    there_is e =
        let next : ℕ = i.place + i.insn.len in
        let read : State Cell = pushed z (value_in tagged fd.kind (object_cells z (word_of (nth tagged f.registers 0))) fd.cell) in
        let y : State Cell = with_place read next in
        let goes_on : o ≡ unless_fault z (fault_next tagged v read (length (top read).stack) next) (running y) =
        has.comes
        ∙ ap
        (λ (d : Bool). settled tagged v next z
        (if d then raises NullPointer else goes (with_field_read tagged fd holders.This (word_of (nth tagged f.registers 0)) z))) e in
        let passed = unless-none z (fault_next tagged v read (length (top read).stack) next) (running y) (subst IsNoFault goes_on fine) in
        let o_is : o ≡ running y = goes_on ∙ passed.1 in
        let typed_y : IsTypedAt v s y = subst (StaysTyped v s) o_is typed_after (omega arith) b.of.source in
        let u1 : State Cell = with_field_read tagged fd holders.Stack (word_of (nth tagged f.registers 0)) t1 in
        let same_value : value_in tagged fd.kind (object_cells t1 (word_of (nth tagged f.registers 0))) fd.cell ≡ value_in tagged fd.kind
        (object_cells z (word_of (nth tagged f.registers 0))) fd.cell =
        ap (λ (cs : List Cell). value_in tagged fd.kind cs fd.cell) (cells-same z t1 (word_of (nth tagged f.registers 0)) b.equal.heap) in
        let renamed_value : map (renamed_cell (rename s place)) (value_in tagged fd.kind (object_cells z (word_of (nth tagged f.registers 0))) fd.cell)
        ≡ value_in tagged fd.kind (object_cells t1 (word_of (nth tagged f.registers 0))) fd.cell =
        in-stays (rename s place) fd.kind (object_cells z (word_of (nth tagged f.registers 0))) fd.cell
        (cells-stay (rename s place) z (word_of (nth tagged f.registers 0)) (b.typed.objects_stay (rename s place))) ∙ sym same_value in
        let stack_is : (top u1).stack ≡ map (renamed_cell (rename s place)) (top y).stack =
        ap (λ (cs : List Cell). with_value (value_in tagged fd.kind (object_cells t1 (word_of (nth tagged f.registers 0))) fd.cell) cs) b.held.stack
        ∙ replaced-renamed (rename s place) 0 (value_in tagged fd.kind (object_cells z (word_of (nth tagged f.registers 0))) fd.cell)
        (value_in tagged fd.kind (object_cells t1 (word_of (nth tagged f.registers 0))) fd.cell) f.stack renamed_value in
        let room : length (top u1).stack ≤ max_stack_of w (top t).method =
        let deep = depth-fits laid y typed_y in
        let k = ap length stack_is in
        let m = length-map (top y).stack (renamed_cell (rename s place)) in
        let own = target-room laid in
        let method = ap (max_stack_of w) b.of.target in
        omega (arith, k, m, deep, own, method) in
        let does : act tagged w ex.instruction.insn (ops.FieldRead fd holders.Stack) t1 ≡ goes u1 =
        ap (λ (d : Bool). if d then raises NullPointer else goes (with_field_read tagged fd holders.Stack (word_of (nth tagged f.registers 0)) t1)) e in
        let second : Steps tagged w t1 (running (with_place u1 (place_after ex.instruction))) =
        operations-go-on w laid.new.chains t1 u1 ex.instruction (ops.FieldRead fd holders.Stack) ex.executes asked does room next_place in
        let u : State Cell = with_place u1 (place_after ex.instruction) in
        let frames_t = ap length (frames-are t runs_t) in
        let last : body_at s i.place + 1 + 1 ≡ body_at s i.place + count_of (body s i (ops.FieldRead fd holders.This)) = omega (arith, count) in
        subst Run (sym o_is)
        (record {
          count = 2;
          more = omega arith;
          fewer = omega arith;
          outcome = running u;
          runs = runs-then w 1 1 t t1 (running u) loaded (one-step w t1 (running u) second);
          comes =
              body_falls
              (record {
                first = record { frames = refl };
                second = record { frames = refl };
                equal = record { frames = omega (arith, frames_t, b.equal.frames); heap = b.equal.heap; statics = b.equal.statics };
                of = record { source = b.of.source; target = b.of.target; count = b.of.count };
                stack = stack_is;
                holds = record {
                  stored = λ x k. absurd (never k);
                  others = λ x. Each-weaker (HoldsValue s f.registers (top t)) _
                      (λ a own free. record { known = own.known; there = own.there; equal = own.equal }) (needed s i.place x) (b.held.locals x);
                };
              }) refl refl (ex.ends ∙ ap place last);
        })
      where
        never : false ≡ true → ⊥
        never k = absurd (cc)

    pub read-moved : Run o
    read-moved = by (word_of (nth tagged f.registers 0) == 0) refl
      where
        by : (d : Bool) → (word_of (nth tagged f.registers 0) == 0) ≡ d → Run o
        by true e = null e
        by false e = there_is e
