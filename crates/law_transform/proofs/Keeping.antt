-- A step of a method that is kept comes to the same in both worlds.
use Rattle.std.proofs.Common.{◌≡◌, ℕ, suc, ◌+◌, ◌-◌, ◌<◌, ◌≤◌, ◌⊎◌, inl, inr, ⊎_elim, true}
use Rattle.std.proofs.Common.{List, [], ◌∷◌, length, map, drop, refl, sym, ap, ◌∙◌, subst, arith}
use Rattle.std.specs.Prelude.{pos, nat_lt, Some, None, Ok, All, slice_get}
use Rattle.std.specs.List.{list_all}
use Rattle.std.proofs.lemmas.Bool.{ltb-false, cases_lt}
use Rattle.std.proofs.lemmas.Option.{same_Some}
use Rattle.jc_base.specs.declared.record.MethodRec.{MethodRec}
use Rattle.jc_base.specs.World.{Linked, code_of}
use Rattle.jc_decode.specs.declared.insn.Case.{Case}
use Rattle.jc_decode.specs.declared.insn.Placed.{Placed}
use Rattle.jc_decode.specs.Cases.{cases}
use Rattle.jc_decode.specs.Listing.{targets}
use Rattle.jc_decode.proofs.InstructionLists.{all-are-listed}
use Rattle.jc_control.specs.Method.{method_with}
use Rattle.jc_control.specs.Control.{IsReached}
use Rattle.jc_control.specs.WellFormed.{IsPlace, IsTargetPlace, HasInstruction}
use Rattle.jc_control.proofs.Closing.{instructions-are-placed}
use Rattle.jc_ops.specs.declared.operation.Operation.{Operation}
use Rattle.jc_ops.specs.declared.operation.Operation.TheVariants as ops
use Rattle.jc_ops.specs.Alike.{IsAlike, equal}
use Rattle.jc_ops.specs.Next.{falls_from}
use Rattle.jc_ops.specs.Resolve.{Resolves}
use Rattle.jc_rules.specs.Footprint.{Footprint, footprint, cells_asked, registers_asked, registers_read}
use Rattle.jc_rules.specs.Demand.{satisfies}
use Rattle.jc_rules.specs.Rule.{demands}
use Rattle.vm_store.specs.declared.cell.Cell.{Cell}
use Rattle.vm_store.specs.declared.cell.Cell.TheVariants as cells
use Rattle.vm_store.specs.Cells.{tagged}
use Rattle.vm_store.specs.State.{Frame, State, arguments, entered, top, other_frames, with_call, without_top}
use Rattle.vm_step.specs.declared.ending.Ending.TheVariants as endings
use Rattle.vm_step.specs.declared.ending.Fault.TheVariants.{LocalFault, StackFault, TypeFault}
use Rattle.vm_step.specs.Act.{calls}
use Rattle.vm_step.specs.Methods.{of_method, code_at, max_stack_of}
use Rattle.vm_step.specs.Performed.{act}
use Rattle.vm_step.specs.Raising.{Outcome, running, ended, thrown}
use Rattle.vm_step.specs.Settled.{given_to, settled}
use Rattle.vm_step.specs.Step.{Fetches, Steps, misplaced, unresolved, performs, performed}
use Rattle.vm_step.specs.Tests.{fault_before, types_of}
use Rattle.law_sound.specs.Frames.{Typings, Standing}
use Rattle.law_sound.specs.State.{IsTypedState}
use Rattle.law_sound.specs.Soundness.{IsTypedOutcome}
use Rattle.law_sound.proofs.Going.{goes-on}
use Rattle.law_sound.proofs.Places.{IsThere, instruction-there}
use Rattle.law_erasure.specs.Erasure.{IsNoFault}
use Rattle.law_erasure.proofs.Together.{safe-free}
use Rattle.law_alike.specs.Alike.{renamed_cell, renamed_new, StayAlike}
use Rattle.law_alike.specs.Running.{keys_at, Executes, RunAlike, ComeAlike, next_alike, target_alike, call_alike, return_alike, exception_alike}
use Rattle.law_alike.specs.Running.{throw_alike, end_alike}
use Rattle.law_alike.proofs.Settling.{unless-none}
use Rattle.law_alike.proofs.Asked.{first-passed}
use Rattle.law_alike.proofs.Cells.{renamed-keeps}
use Rattle.law_alike.proofs.Views.{have-keys}
use Rattle.law_alike.proofs.Standing.{first-runs, frames-typed}
use Rattle.law_transform.specs.Counterparts.{IsSameMethod, AreCounterparts}
use Rattle.law_transform.specs.Beside.{AreTop, top_kept, WaitBeside, wait_kept, AreUnder, more_frames}
use Rattle.law_transform.proofs.Typed.{AreLaws}
use Rattle.law_transform.proofs.Settling.{Settles, settled-now, settles-as, under-length, beside, enters, gives, kept-code, kept-room}
use Rattle.law_transform.proofs.Throwing.{CatchBeside, catch_kept, throws-settle, raises-settle}
use Rattle.law_alike.specs.Simulation.{both_run, both_end}

-- ---- the same places

-- every place stays
abbrev own : ℕ → ℕ
own p = p

own-cell : (c : Cell) → renamed_cell own c ≡ c
own-cell x = grind (arith)

own-cells : (cs : List Cell) → map (renamed_cell own) cs ≡ cs
own-cells [] = refl
own-cells (c ∷ cs) = ap (λ d. d ∷ map (renamed_cell own) cs) (own-cell c) ∙ ap (λ ds. c ∷ ds) (own-cells cs)

own-new : (op : Operation) → renamed_new own op ≡ op
own-new x = grind (arith)

-- ---- the same registers

same-lists : {X : Type 0} (xs ys : List X) → length xs ≡ length ys → ((n : ℕ) → slice_get xs n ≡ slice_get ys n) → xs ≡ ys
same-lists [] [] e h = refl
same-lists [] (y ∷ ys) e h = absurd (omega (arith, e))
same-lists (x ∷ xs) [] e h = absurd (omega (arith, e))
same-lists (x ∷ xs) (y ∷ ys) e h =
    let first : x ≡ y = same_Some x y (h 0) in
    ap (λ a. a ∷ xs) first ∙ ap (λ rest. y ∷ rest) (same-lists xs ys (omega (arith, e)) (λ n. h (suc n)))

same-frames : (f g : Frame Cell) → f.method ≡ g.method → f.place ≡ g.place → f.registers ≡ g.registers → f.stack ≡ g.stack → f ≡ g
same-frames f g a b c d = grind (arith)

module _ (v w : Linked) (typings : Typings) (laws : AreLaws v) (pair : AreCounterparts v w typings)
    (z t : State Cell) (first : z.frames ≡ top z ∷ other_frames z.frames) (second : t.frames ≡ top t ∷ other_frames t.frames)
    (under : AreUnder v w typings (other_frames z.frames) (other_frames t.frames))
    (heap : t.heap ≡ z.heap) (statics : t.statics ≡ z.statics) (typed : IsTypedState v typings z)
    (k : IsSameMethod v w (top z).method) (same : top t ≡ top z) where
  code-same : code_at w (top t).method ≡ code_at v (top z).method
  code-same = ap (λ (f : Frame Cell). code_at w f.method) same ∙ kept-code v w typings laws pair (top z).method k

  module _ (i : Placed) (op : Operation) where
    -- ---- after the step

    module _ (y u : State Cell) (stays : StayAlike (renamed_cell own) (footprint v op) (footprint v op) z y t u) where
      same-register : (x : ℕ) → slice_get (top u).registers x ≡ slice_get (top y).registers x
      same-register x =
          let p : Footprint = footprint v op in
          let outside : (x < p.register) ⊎ (p.register + p.written ≤ x) → slice_get (top u).registers x ≡ slice_get (top y).registers x =
          λ out. stays.second.others x out ∙ (ap (λ (f : Frame Cell). slice_get f.registers x) same ∙ sym (stays.first.others x out)) in
          elim (cases_lt x p.register) [
            | inl lt ↦ outside (inl lt)
            | inr ge ↦ elim (cases_lt x (p.register + p.written)) [
              | inl lt ↦
                  let there : p.register + (x - p.register) ≡ x = omega (arith, ge) in
                  subst (λ n. slice_get (top u).registers n ≡ slice_get (top y).registers n) there (stays.written (x - p.register) (omega (arith, ge, lt)))
              | inr past ↦ outside (inr past)
            ]
          ]

      same-top : (top u).place ≡ (top y).place → top u ≡ top y
      same-top place = grind (arith, length, same-frames, same-lists, same-register, own-cells)

      still-kept : IsSameMethod v w (top y).method
      still-kept = subst (IsSameMethod v w) (sym stays.first.method) k

      goes-settle : (top u).place ≡ (top y).place → IsTypedState v typings y → Settles v w typings (running y) (running u)
      goes-settle place now_typed =
          let tops : AreTop v w typings (top y) (top u) = subst (AreTop v w typings (top y)) (sym (same-top place)) (top_kept still-kept) in
          settled-now v w typings (running y) (running u)
          (both_run (beside v w typings laws pair z t y u stays.first.frames stays.second.frames under tops stays.alike.heap stays.alike.statics now_typed))

      -- both call
      calls-settle :
          (m : MethodRec) (method count : ℕ) → Fetches v z m i → Resolves v m i.place i.insn (Ok op) → (top u).place ≡ (top y).place
          → arguments count (top u).stack ≡ arguments count (top y).stack → act tagged v i.insn op z ≡ calls method count y
          → IsTypedState v typings (with_call tagged v.methods y method count)
          → Settles v w typings (running (with_call tagged v.methods y method count)) (running (with_call tagged w.methods u method count))
      calls-settle m method count fetched resolved place handed acts now_typed =
          let tops : top u ≡ top y = same-top place in
          let fs : other_frames y.frames ≡ other_frames z.frames = ap other_frames stays.first.frames in
          let gs : other_frames u.frames ≡ other_frames t.frames = ap other_frames stays.second.frames in
          let rest : AreUnder v w typings (other_frames y.frames) (other_frames u.frames) =
          subst (λ xs. AreUnder v w typings xs (other_frames u.frames)) (sym fs)
          (subst (λ xs. AreUnder v w typings (other_frames z.frames) xs) (sym gs) under) in
          let here : Frame Cell = record (top y) { stack = drop count (top y).stack } in
          let waits : WaitBeside v w typings here (record (top u) { stack = drop count (top u).stack }) =
          subst (λ (g : Frame Cell). WaitBeside v w typings here (record g { stack = drop count g.stack })) (sym tops) (wait_kept still-kept) in
          let args : List Cell = arguments count (top y).stack in
          subst (λ cs. Settles v w typings (running (with_call tagged v.methods y method count))
          (running
          (record u {
            frames = entered tagged w.methods method cs ∷ (record (top u) { stack = drop count (top u).stack } ∷ other_frames u.frames);
          }))) (sym handed)
          (enters v w typings laws pair method args (here ∷ other_frames y.frames)
          (record (top u) { stack = drop count (top u).stack } ∷ other_frames u.frames)
          y.heap u.heap y.statics u.statics stays.alike.heap stays.alike.statics (more_frames waits rest) now_typed
          (laws.handed typings z y m i op method count pair.typed typed fetched resolved acts))

    catch-here : CatchBeside v w typings (top z) (top t)
    catch-here = subst (CatchBeside v w typings (top z)) (sym same) (catch_kept k)

    pos-same : (a b : ℕ) → pos a ≡ pos b → a ≡ b
    pos-same a b e = cc

    come-settles :
        (m : MethodRec) (o p : Outcome Cell) → Fetches v z m i → Resolves v m i.place i.insn (Ok op)
        → ComeAlike tagged (renamed_cell own) v w z t i i op op o p → IsTypedOutcome v typings o → Settles v w typings o p
    come-settles m o p fetched resolved (next_alike {z = y} {y = u} stays falls here there) safe = goes-settle y u stays (there ∙ sym here) safe
    come-settles m o p fetched resolved (target_alike n {z = y} {y = u} stays here there) safe =
        let also : Some (pos (top u).place) ≡ Some (pos (top y).place) =
        sym there ∙ (ap (λ c. slice_get (targets c i) n) code-same ∙ here) in
        goes-settle y u stays (pos-same (top u).place (top y).place (same_Some (pos (top u).place) (pos (top y).place) also)) safe
    come-settles m o p fetched resolved (call_alike method count {z = y} {y = u} stays here there handed acts enter too) safe =
        let place : (top u).place ≡ (top y).place = there ∙ (ap (λ (f : Frame Cell). f.place) same ∙ sym here) in
        settles-as v w typings o p (running (with_call tagged v.methods y method count)) (running (with_call tagged w.methods u method count)) enter too
        (calls-settle y u stays m method count fetched resolved place handed acts (subst (IsTypedOutcome v typings) enter safe))
    come-settles m o p fetched resolved (return_alike value cs plain acts is also) safe =
        settles-as v w typings o p (given_to tagged v value cs (without_top z)) (given_to tagged w value cs (without_top t)) is also
        (gives v w typings laws pair value cs (λ e. plain (renamed_cell e) (renamed-keeps e)) z.heap t.heap z.statics t.statics heap statics under
        (subst (IsTypedOutcome v typings) is safe))
    come-settles m o p fetched resolved (exception_alike exception acts is also) safe = grind (arith, settles-as, raises-settle, catch-here)
    come-settles m o p fetched resolved (throw_alike handle acts is also) safe =
        settles-as v w typings o p (thrown tagged v handle z) (thrown tagged w handle t) is also
        (throws-settle v w typings laws pair (top z) (top t) (other_frames z.frames) (other_frames t.frames) under catch-here handle z t first second heap
        statics
        (subst (IsTypedOutcome v typings) is safe))
    come-settles m o p fetched resolved (end_alike ending y) safe =
        settled-now v w typings (ended (endings.Plain ending) y) (ended (endings.Plain ending) y) (both_end (endings.Plain ending) refl refl)

    -- ---- before it

    module _ (m : MethodRec) (fetched : Fetches v z m i) (resolved : Resolves v m i.place i.insn (Ok op)) where
      abbrev n : ℕ
      n = (top z).method

      st : Standing v typings (top z)
      st = (frames-typed v typings z first typed).0.stands

      code-is : code_at v n ≡ code_of v.infos st.rec
      code-is = ap (of_method [] (code_of v.infos)) st.is_method

      here : IsThere (code_at v n) (top z).place i
      here = instruction-there (code_at v n) (top z).place i fetched.instruction

      stands-here : HasInstruction (code_of v.infos st.rec) i
      stands-here = subst (λ c. HasInstruction c i) code-is here.stands

      code-there : code_of v.infos st.rec ≡ code_at w (top t).method
      code-there = sym code-is ∙ sym code-same

      other-executes : Executes w t i op
      other-executes = grind (arith, same_Some, first-runs, code-same)

      goes-there : falls_from op ≡ true → IsPlace (code_at w (top t).method) (i.place + i.insn.len)
      goes-there falls =
          let goes = goes-on v m i.place i.insn op resolved falls in
          let reached = subst (IsReached (method_with v n st.rec)) (sym here.at) st.reached in
          let inside = st.typing.stays i stands-here reached goes in
          let next = (instructions-are-placed all-are-listed (method_with v n st.rec) st.typing.formed).next i stands-here in
          ⊎_elim (λ end. absurd (omega (arith, end, inside))) (λ there. subst (λ c. IsPlace c (i.place + i.insn.len)) code-there there) next

      runs-alike : (passed : fault_before tagged v op z ≡ None) → RunAlike (renamed_cell own) own v w z t i i op op
      runs-alike passed =
          let asked : demands v op ≡ demands w op = laws.demands v w op pair.same in
          let few : registers_asked (demands v op) ≤ length (top z).registers =
          ltb-false (length (top z).registers) (registers_asked (demands v op))
          (first-passed LocalFault StackFault TypeFault (nat_lt (length (top z).registers) (registers_asked (demands v op)))
          (nat_lt (length (top z).stack) (cells_asked (demands v op))) (list_all (satisfies v.classes (types_of tagged v z)) (demands v op)) passed) in
          let stay = laws.stay typings own z typed in
          record {
            operations = subst (λ x. IsAlike x op) (sym (own-new op)) equal;
            keys = have-keys op (keys_at v z i) (keys_at w t i) (ap (λ c. map (λ (x : Case). x.key) (cases c i.place i.insn)) (sym code-same));
            targets = subst (λ c. All (IsTargetPlace c) (targets c i)) code-there (st.typing.formed.targets i stands-here);
            next = goes-there;
            states = record {
              frames = ap length second ∙ (ap suc (under-length v w typings under) ∙ sym (ap length first));
              stack = ap (λ (f : Frame Cell). f.stack) same ∙ sym (own-cells (top z).stack);
              heap = heap;
              statics = statics;
              objects_stay = stay.0;
              statics_stay = stay.1;
            };
            named = omega (arith, few, ap registers_asked asked, ap (λ (f : Frame Cell). length f.registers) same);
            read = ap (λ ds. map (slice_get (top t).registers) (registers_read ds)) (sym asked)
                ∙ ap (λ (f : Frame Cell). map (slice_get f.registers) (registers_read (demands v op))) same;
            room = (let e = ap (λ (f : Frame Cell). max_stack_of w f.method) same ∙ kept-room v w typings laws pair n k in omega (arith, e));
          }

      performs-alike :
          (o : Outcome Cell) → Steps tagged v z o → o ≡ performed tagged v i op z → IsTypedOutcome v typings o
          → (p : Outcome Cell) × Steps tagged w t p × Settles v w typings o p
      performs-alike o step is safe =
          let free = safe-free v typings o safe in
          let passed = unless-none z (fault_before tagged v op z) (settled tagged v (i.place + i.insn.len) z (act tagged v i.insn op z))
          (subst IsNoFault is free) in
          let other = laws.alike w own z t i i op op o pair.same (λ p q e. e) (record { method = m; fetched = fetched; resolved = resolved }) other-executes
          (runs-alike passed.0) step free in
          (other.0, other.1, come-settles m o other.0 fetched resolved other.2 safe)

  pub kept-steps : (o : Outcome Cell) → Steps tagged v z o → IsTypedOutcome v typings o → (p : Outcome Cell) × Steps tagged w t p
      × Settles v w typings o p
  kept-steps o step safe = go step safe
    where
      go : {o : Outcome Cell} → Steps tagged v z o → IsTypedOutcome v typings o → (p : Outcome Cell) × Steps tagged w t p × Settles v w typings o p
      go (misplaced checks runs e) safe = absurd safe
      go (unresolved checks fetched fault resolves) safe = absurd safe
      go (performs {m = m} {i = i} {o = o} fetched op resolves is) safe = performs-alike i op m fetched resolves o (performs fetched op resolves is) is safe
