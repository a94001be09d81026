-- The law over steps in other code.
use Rattle.std.proofs.Common.{◌≡◌, ℕ, ◌+◌, ◌≤◌, true, if◌then◌else◌, List, [], ◌∷◌, length, map, refl, sym, ap, ◌∙◌, subst}
use Rattle.std.proofs.Common.{arith}
use Rattle.std.specs.Prelude.{Option, None, option_map, slice_get}
use Rattle.jc_base.specs.declared.record.MethodRec.{MethodRec}
use Rattle.jc_base.specs.World.{Linked, IsWorld}
use Rattle.jc_decode.specs.declared.insn.Case.{Case}
use Rattle.jc_decode.specs.declared.insn.Placed.{Placed}
use Rattle.jc_decode.specs.Cases.{cases}
use Rattle.jc_decode.specs.Listing.{jumps, targets}
use Rattle.jc_ops.specs.declared.operation.Operation.{Operation}
use Rattle.jc_ops.specs.Next.{jumps_from}
use Rattle.jc_ops.specs.Sound.{IsSound, OperationsAreSound, OperationsAreDecided}
use Rattle.jc_rules.specs.declared.demand.Demand.{Demand}
use Rattle.jc_rules.specs.Footprint.{registers_asked, registers_read}
use Rattle.jc_rules.specs.Rule.{args_at, demands}
use Rattle.vm_store.specs.declared.cell.Cell.{Cell}
use Rattle.vm_store.specs.Cells.{tagged}
use Rattle.vm_store.specs.State.{State, Frame, Object}
use Rattle.vm_step.specs.Methods.{code_at}
use Rattle.vm_step.specs.Performed.{act}
use Rattle.vm_step.specs.Raising.{Outcome}
use Rattle.vm_step.specs.Settled.{unless_fault, settled}
use Rattle.vm_step.specs.Step.{Steps, performs, performed}
use Rattle.vm_step.specs.Tests.{unmet, fault_before}
use Rattle.vm_step.proofs.Running.{steps-one}
use Rattle.law_sound.proofs.Going.{jumps-on}
use Rattle.law_sound.proofs.Places.{instruction-there}
use Rattle.law_sound.proofs.Passing.{passes-before}
use Rattle.law_erasure.specs.Erasure.{IsNoFault}
use Rattle.law_laid.specs.Apart.{apart_from_code, IsSameBut}
use Rattle.law_laid.proofs.SameBut.{methods-are-kept}
use Rattle.law_alike.specs.Alike.{IsOneToOne, renamed_cell}
use Rattle.law_alike.specs.Running.{HaveKeys, Executes, RunAlike, ComeAlike}
use Rattle.law_alike.specs.Likeness.{StepsAreAlike}
use Rattle.law_alike.proofs.Views.{view}
use Rattle.law_alike.proofs.Asked.{passed-asks, asked-alike}
use Rattle.law_alike.proofs.Switching.{ways}
use Rattle.law_alike.proofs.Doing.{other, pair, method_of, does}
use Rattle.law_alike.proofs.Settling.{unless-none, settles}

targets-are :
    (code : List ℕ) (p : Placed) → jumps p.insn.op ≡ true → targets code p ≡ ways p.place p.insn.x (cases code p.place p.insn)
unfolding targets
targets-are code p h = ap (λ b. if b then ways p.place p.insn.x (cases code p.place p.insn) else []) h

-- ---- worlds that differ in code alone

args-same :
    (o p : Option MethodRec) → option_map apart_from_code o ≡ option_map apart_from_code p → args_at o ≡ args_at p
args-same x y e = grind (arith)

whole : (v w : Linked) (s : IsSameBut v w)
    → record {
      infos = w.infos;
      pools = v.pools;
      classes = v.classes;
      methods = w.methods;
      statics = v.statics;
      arrays = v.arrays;
      indexes = w.indexes;
    } ≡ w
whole v w s = grind (arith)

module _
    (v : Linked) (world : IsWorld v) (operations : OperationsAreSound v) (decided : OperationsAreDecided v)
    (infos : List (List ℕ)) (methods : List MethodRec) (indexes : List (Option (List ℕ)))
    (same : (n : ℕ) → option_map apart_from_code (slice_get v.methods n) ≡ option_map apart_from_code (slice_get methods n)) where
  abbrev recoded : Linked
  recoded = other v world infos methods indexes same

  demands-same : (op : Operation) → demands recoded op ≡ demands v op
  demands-same x = grind (arith, args-same)

  module _
      (f : ℕ → ℕ) (one_to_one : IsOneToOne f)
      (frame : Frame Cell) (below : List (Frame Cell)) (heap : List (Object Cell)) (statics : List Cell)
      (method place : ℕ) (registers : List Cell) (under : List (Frame Cell))
      (i j : Placed) (a b : Operation) where
    abbrev s : State Cell
    s = record { frames = frame ∷ below; heap = heap; statics = statics }

    abbrev t : State Cell
    t = record {
      frames = record { method = method; place = place; registers = registers; stack = map (renamed_cell f) frame.stack } ∷ under;
      heap = heap;
      statics = statics;
    }

    here-at : (ex : Executes v s i a) → i.place ≡ frame.place
    here-at ex = (instruction-there (code_at v frame.method) frame.place i ex.fetched.instruction).at

    there-at : (ey : Executes recoded t j b) → j.place ≡ place
    there-at ey = (instruction-there (code_at recoded method) place j ey.fetched.instruction).at

    jumps-here :
        (ex : Executes v s i a) → jumps_from a ≡ true → targets (code_at v frame.method) i
        ≡ ways frame.place i.insn.x (cases (code_at v frame.method) frame.place i.insn)
    jumps-here ex h = grind (arith, targets-are, jumps-on, here-at)

    jumps-there :
        (ey : Executes recoded t j b) → jumps_from b ≡ true → targets (code_at recoded method) j
        ≡ ways place j.insn.x (cases (code_at recoded method) place j.insn)
    jumps-there ey h = grind (arith, targets-are, jumps-on, there-at)

    keys-at : (ex : Executes v s i a) (ey : Executes recoded t j b) (run : RunAlike (renamed_cell f) f v recoded s t i j a b)
        → HaveKeys a (map (λ (c : Case). c.key) (cases (code_at v frame.method) frame.place i.insn))
        (map (λ (c : Case). c.key) (cases (code_at recoded method) place j.insn))
    keys-at ex ey run = grind (arith, here-at, there-at)

    core :
        (o : Outcome Cell)
        → Executes v s i a → Executes recoded t j b → RunAlike (renamed_cell f) f v recoded s t i j a b → Steps tagged v s o
        → IsNoFault o
        → (p : Outcome Cell) × Steps tagged recoded t p × ComeAlike tagged (renamed_cell f) v recoded s t i j a b o p
    core o ex ey run step no_fault =
        let depth : length under ≡ length below = let e = run.states.frames in omega (arith, e) in
        let o_is : o ≡ performed tagged v i a s = steps-one tagged v decided s o (performed tagged v i a s) step
        (performs ex.fetched a ex.resolved refl) in
        let leads : Outcome Cell = settled tagged v (i.place + i.insn.len) s (act tagged v i.insn a s) in
        let also : Outcome Cell = settled tagged recoded (j.place + j.insn.len) t (act tagged recoded j.insn b t) in
        let passed = unless-none s (fault_before tagged v a s) leads (subst IsNoFault o_is no_fault) in
        let asked = passed-asks v world frame below heap statics a passed.0 in
        let sound : IsSound v ex.method i.place a =
        operations ex.method i.place i.insn a
        (method_of v world infos methods indexes same frame.method ex.method ex.fetched.method).result ex.resolved in
        let seen = view f a b run.operations in
        let named : registers_asked (demands v b) ≤ length registers = subst
        (λ (ds : List Demand). registers_asked ds ≤ length registers) (demands-same b) run.named in
        let read : map (slice_get registers) (registers_read (demands v b))
        ≡ map (slice_get frame.registers) (registers_read (demands v a)) =
        subst (λ (ds : List Demand). map (slice_get registers) (registers_read ds)
        ≡ map (slice_get frame.registers) (registers_read (demands v a))) (demands-same b) run.read in
        let x = pair v world infos methods indexes same f one_to_one frame below heap statics method place registers under depth
        run.states.objects_stay run.states.statics_stay (targets (code_at v frame.method) i) (targets (code_at recoded method) j) a
        b in
        let acts = does v world infos methods indexes same f one_to_one frame below heap statics method place registers under depth
        run.states.objects_stay run.states.statics_stay (targets (code_at v frame.method) i) (targets (code_at recoded method) j) i
        j ex.method i.place a b seen sound
        (record {
          asked = asked;
          named = named;
          read = read;
          keys = keys-at ex ey run;
          ways_are = jumps-here ex;
          leads_are = grind (arith, jumps-there);
        }) in
        let there = asked-alike v world f (map (λ (o : Object Cell). o.kind) heap) frame.registers frame.stack registers ex.method
        i.place a b seen sound named read asked in
        let fine : fault_before tagged recoded b t ≡ None =
        ap (λ (ds : List Demand). unmet tagged v ds t) (demands-same b)
        ∙ passes-before v world.chains
        (record { method = method; place = place; registers = registers; stack = map (renamed_cell f) frame.stack }) under heap
        statics b there in (
          performed tagged recoded j b t,
          performs ey.fetched b ey.resolved refl,
          subst (λ u. ComeAlike tagged (renamed_cell f) v recoded s t i j a b u (performed tagged recoded j b t))
              (sym (o_is ∙ passed.1))
              (subst (λ u. ComeAlike tagged (renamed_cell f) v recoded s t i j a b leads u)
              (sym (ap (λ u. unless_fault t u also) fine))
              (settles x v recoded i j a b refl refl refl refl run.targets refl run.next run.room refl acts
              (subst IsNoFault (o_is ∙ passed.1) no_fault))),
        )

-- ---- any two states

state-is :
    (g : Frame Cell) (stack : List Cell) (under : List (Frame Cell)) (heap objects : List (Object Cell))
    (statics fields : List Cell)
    → g.stack ≡ stack → objects ≡ heap → fields ≡ statics
    → ◌≡◌ {A = State Cell}
    (record {
      frames = record { method = g.method; place = g.place; registers = g.registers; stack = stack } ∷ under;
      heap = heap;
      statics = statics;
    })
    (record { frames = g ∷ under; heap = objects; statics = fields })
state-is g stack under heap objects statics fields e h k = grind (arith)

module _
    (v : Linked) (world : IsWorld v) (operations : OperationsAreSound v) (decided : OperationsAreDecided v)
    (f : ℕ → ℕ) (one_to_one : IsOneToOne f) (i j : Placed) (a b : Operation) where
  -- what the law says of two states and an outcome of the first
  abbrev Follows : Linked → State Cell → State Cell → Outcome Cell → Type 0
  Follows w s t o =
      Executes v s i a → Executes w t j b → RunAlike (renamed_cell f) f v w s t i j a b → Steps tagged v s o → IsNoFault o
      → (p : Outcome Cell) × Steps tagged w t p × ComeAlike tagged (renamed_cell f) v w s t i j a b o p

  by-frames :
      (w : Linked) → IsSameBut v w
      → (fs : List (Frame Cell)) (heap : List (Object Cell)) (statics : List Cell)
      → (gs : List (Frame Cell)) (objects : List (Object Cell)) (fields : List Cell) (o : Outcome Cell)
      → Follows w (record { frames = fs; heap = heap; statics = statics })
      (record { frames = gs; heap = objects; statics = fields }) o
  by-frames w same [] heap statics gs objects fields o ex ey run step no_fault = grind (arith)
  by-frames w same (g ∷ below) heap statics [] objects fields o ex ey run step no_fault = grind (arith)
  by-frames w same (frame ∷ below) heap statics (g ∷ under) objects fields o ex ey run step no_fault =
      subst (λ (u : Linked). Follows u (record { frames = frame ∷ below; heap = heap; statics = statics })
      (record { frames = g ∷ under; heap = objects; statics = fields }) o) (whole v w same)
      (subst (λ (t : State Cell). Follows (other v world w.infos w.methods w.indexes methods)
      (record { frames = frame ∷ below; heap = heap; statics = statics }) t o)
      (state-is g (map (renamed_cell f) frame.stack) under heap objects statics fields run.states.stack run.states.heap
      run.states.statics)
      (core v world operations decided w.infos w.methods w.indexes methods f one_to_one frame below heap statics g.method g.place
      g.registers under i j a b o))
      ex ey run step no_fault
    where
      methods : (n : ℕ) → option_map apart_from_code (slice_get v.methods n) ≡ option_map apart_from_code (slice_get w.methods n)
      methods n = methods-are-kept v w n same

pub steps-are-alike : (v : Linked) → IsWorld v → OperationsAreSound v → OperationsAreDecided v → StepsAreAlike v
steps-are-alike v world operations decided w place s t i j a b o same one_to_one ex ey run step no_fault =
    by-frames v world operations decided place one_to_one i j a b w same s.frames s.heap s.statics t.frames t.heap t.statics o ex ey
    run step no_fault
