-- A step of the first world, and the step of the second that comes to the same.
use Rattle.std.proofs.Common.{◌≡◌, ℕ, suc, ◌+◌, ◌-◌, ◌<◌, ◌≤◌, ◌⊎◌, inl, inr, ⊎_elim, true, List, [], ◌∷◌}
use Rattle.std.proofs.Common.{length, map, drop, refl, sym, ap, ◌∙◌, subst, arith}
use Rattle.std.specs.Prelude.{pos, nat_lt, Some, None, Ok, All, Contains, slice_get}
use Rattle.std.specs.List.{list_all}
use Rattle.std.proofs.lemmas.Bool.{ltb-false, cases_lt}
use Rattle.std.proofs.lemmas.Option.{same_Some, slice_get-map}
use Rattle.std.proofs.lemmas.List.{drop-map}
use Rattle.jc_base.specs.declared.record.MethodRec.{MethodRec}
use Rattle.jc_base.specs.World.{Linked, code_of}
use Rattle.jc_decode.specs.declared.insn.Placed.{Placed}
use Rattle.jc_decode.specs.Listing.{targets}
use Rattle.jc_decode.proofs.Elements.{Contains-slice_get}
use Rattle.jc_control.specs.Control.{IsReached, falls_through, jumped}
use Rattle.jc_control.specs.Method.{Method, method_with}
use Rattle.jc_control.specs.WellFormed.{IsPlace, IsTargetPlace, HasInstruction}
use Rattle.jc_ops.specs.declared.operation.Operation.{Operation}
use Rattle.jc_ops.specs.Next.{falls_from}
use Rattle.jc_ops.specs.Resolve.{Resolves}
use Rattle.jc_rules.specs.Demand.{satisfies}
use Rattle.jc_rules.specs.Footprint.{Footprint, footprint, cells_asked, registers_asked, registers_read}
use Rattle.jc_rules.specs.Rule.{demands}
use Rattle.vm_store.specs.declared.cell.Cell.{Cell}
use Rattle.vm_store.specs.Cells.{tagged}
use Rattle.vm_store.specs.State.{Frame, State, arguments, entered, top}
use Rattle.vm_store.specs.State.{other_frames, register_count, register_count_of, with_call, without_top}
use Rattle.vm_step.specs.declared.ending.Ending.TheVariants as endings
use Rattle.vm_step.specs.declared.ending.Fault.TheVariants.{LocalFault, StackFault, TypeFault}
use Rattle.vm_step.specs.Act.{calls}
use Rattle.vm_step.specs.Methods.{code_at}
use Rattle.vm_step.specs.Performed.{act}
use Rattle.vm_step.specs.Raising.{Outcome, running, thrown}
use Rattle.vm_step.specs.Settled.{given_to, settled}
use Rattle.vm_step.specs.Step.{Fetches, Steps, misplaced, unresolved, performs, performed}
use Rattle.vm_step.specs.Tests.{fault_before, types_of}
use Rattle.law_sound.specs.Frames.{Typings, Standing}
use Rattle.law_sound.specs.Soundness.{IsTypedOutcome}
use Rattle.law_sound.specs.State.{IsTypedState}
use Rattle.law_sound.proofs.Going.{goes-on}
use Rattle.law_sound.proofs.Places.{IsThere, instruction-there}
use Rattle.law_erasure.specs.Erasure.{IsNoFault}
use Rattle.law_erasure.proofs.Together.{safe-free}
use Rattle.law_alike.specs.Alike.{renamed_cell, renamed_new, StayAlike}
use Rattle.law_alike.specs.Running.{Executes, RunAlike, ComeAlike, next_alike, target_alike, call_alike, return_alike, exception_alike}
use Rattle.law_alike.specs.Running.{throw_alike, end_alike}
use Rattle.law_alike.specs.Simulation.{both_run, both_end}
use Rattle.law_alike.proofs.Settling.{unless-none}
use Rattle.law_alike.proofs.Asked.{first-passed}
use Rattle.law_alike.proofs.Cells.{renamed-keeps}
use Rattle.law_alike.proofs.Views.{have-keys, falls-new}
use Rattle.law_alike.proofs.Standing.{first-runs, frames-typed, stands-at}
use Rattle.law_share.specs.Live.{Operates, Writes, MayLeadTo, leads_on, IsLiveAt, live_read, live_on}
use Rattle.law_share.specs.Renamed.{AreMatched, IsRenamed, register_total}
use Rattle.law_share.specs.Beside.{Renaming, AreRenamed, FrameBeside, WaitBeside, AreUnder, more_frames, AreBeside}
use Rattle.law_share.proofs.Knowing.{AreLaws, under-length, next-is-place, footprint-new, raising-is-quiet, throwing-is-quiet}
use Rattle.law_share.proofs.Knowing.{outside, none-written, its, its-record, other-record, its-code, other-code, same-room}
use Rattle.law_share.proofs.Settling.{Settles, settles-as, enters, gives}
use Rattle.law_share.proofs.Throwing.{CatchBeside, throws-settle, raises-settle}

-- lists are mapped element by element
maps-agree : {X Y : Type 0} (f : X → X) (a b : X → Y) (xs : List X) → ((x : X) → Contains xs x → a (f x) ≡ b x) → map a (map f xs) ≡ map b xs
maps-agree f a b [] same = refl
maps-agree {X} {Y} f a b (x ∷ xs) same =
    ap (λ y. y ∷ map a (map f xs)) (same x (0, omega arith, refl))
    ∙ ap (λ ys. b x ∷ ys) (maps-agree f a b xs (λ y h. same y (suc h.0, (let lt = h.1 in omega (arith, lt)), h.2)))

module _ (v w : Linked) (typings : Typings) (r : Renaming) (laws : AreLaws v) (pair : AreRenamed v w typings r)
    (z t : State Cell) (b : AreBeside v w typings r z t) where
  abbrev source : Method
  source = b.tops.source

  abbrev place : ℕ → ℕ
  place = r.place source.number

  abbrev reg : ℕ → ℕ
  reg = r.reg source.number

  abbrev k : IsRenamed v w source place reg
  k = its v w typings laws r pair (top z) (top t) b.tops

  its-rec : slice_get v.methods (top z).method ≡ Some source.rec
  its-rec = its-record v w typings laws r pair (top z) (top t) b.tops

  code-here : code_at v (top z).method ≡ source.code
  code-here = its-code v w typings laws r pair (top z) (top t) b.tops

  code-there : code_at w (top t).method ≡ k.target.code
  code-there = other-code v w typings laws r pair (top z) (top t) b.tops

  module _ (i : Placed) (op : Operation) (m : MethodRec) (fetched : Fetches v z m i) (resolved : Resolves v m i.place i.insn (Ok op)) where
    there-is : IsThere (code_at v (top z).method) (top z).place i
    there-is = instruction-there (code_at v (top z).method) (top z).place i fetched.instruction

    same-rec : m ≡ source.rec
    same-rec = same_Some m source.rec (sym fetched.method ∙ its-rec)

    operates : Operates v source i op
    operates = grind (arith, code-here, there-is, same-rec)

    abbrev j : Placed
    j = (k.matched i op operates).other

    abbrev new : Operation
    new = (k.matched i op operates).new

    are : AreMatched v w source k.target place reg i op j new
    are = (k.matched i op operates).are

    j-at : j.place ≡ (top t).place
    j-at = are.at ∙ (ap place there-is.at ∙ sym b.tops.at)

    falls-same : falls_from new ≡ falls_from op
    falls-same = sym (sym (falls-new place op) ∙ (laws.leave (renamed_new place op) new are.alike).falls)

    quiet-too : (footprint v op).written ≡ 0 → (footprint v new).written ≡ 0
    quiet-too none = grind (arith, are, footprint-new)

    -- ---- after the step, in the same frame

    module _ (y u : State Cell) (stays : StayAlike (renamed_cell place) (footprint v op) (footprint v new) z y t u) where
      first-registers : (x : ℕ) → ¬ (Writes v op x) → slice_get (top y).registers x ≡ slice_get (top z).registers x
      first-registers x apart = stays.first.others x (outside v op x apart)

      second-registers : (x : ℕ) → ¬ (Writes v new x) → slice_get (top u).registers x ≡ slice_get (top t).registers x
      second-registers x apart = stays.second.others x (outside v new x apart)

      written-held : (x : ℕ) → Writes v op x → slice_get (top u).registers (reg x) ≡ slice_get (top y).registers x
      written-held x h =
          let p : Footprint = footprint v op in
          let from = h.from in
          let before = h.before in
          let n : ℕ = x - p.register in
          let here : p.register + n ≡ x = omega (arith, from) in
          let lt : n < p.written = omega (arith, from, before) in
          let there : (footprint v new).register + n ≡ reg x = are.writes n lt ∙ ap reg here in
          subst (λ a. slice_get (top u).registers a ≡ slice_get (top y).registers x) there
          (subst (λ a. slice_get (top u).registers ((footprint v new).register + n) ≡ slice_get (top y).registers a) here (stays.written n lt))

      held-at : (q x : ℕ) → MayLeadTo source i q → IsLiveAt v source x q → slice_get (top u).registers (reg x) ≡ slice_get (top y).registers x
      held-at q x leads live = ⊎_elim (λ h. written-held x h) (λ apart. kept apart) (decided x)
        where
          decided : (x : ℕ) → Writes v op x ⊎ ¬ (Writes v op x)
          decided x = elim (cases_lt x (footprint v op).register) [
            | inl lt ↦ inr (λ h. (let from = h.from in absurd (omega (arith, from, lt))))
            | inr ge ↦ elim (cases_lt x ((footprint v op).register + (footprint v op).written)) [
              | inl lt ↦ inl (record { from = ge; before = lt })
              | inr past ↦ inr (λ h. (let before = h.before in absurd (omega (arith, before, past))))
            ]
          ]

          kept : ¬ (Writes v op x) → slice_get (top u).registers (reg x) ≡ slice_get (top y).registers x
          kept apart =
              second-registers (reg x) (are.apart q x leads live apart)
              ∙ (b.tops.held x (subst (IsLiveAt v source x) there-is.at (live_on i op q operates apart leads live)) ∙ sym (first-registers x apart))

      abbrev frame_with :
          (here there : Frame Cell) → here.method ≡ (top y).method → there.method ≡ (top u).method → there.place ≡ place here.place
          → here.registers ≡ (top y).registers → there.registers ≡ (top u).registers → there.stack ≡ map (renamed_cell place) here.stack
          → ((x : ℕ) → IsLiveAt v source x here.place → slice_get (top u).registers (reg x) ≡ slice_get (top y).registers x)
          → FrameBeside v w r here there
      frame_with here there hm tm at hr tr stack held = record {
        source = source;
        is_source = b.tops.is_source;
        number = b.tops.number ∙ (sym stays.first.method ∙ sym hm);
        method = tm ∙ (stays.second.method ∙ (b.tops.method ∙ (sym stays.first.method ∙ sym hm)));
        at = at;
        counted = ap length hr ∙ (stays.first.count ∙ b.tops.counted);
        count = ap length tr ∙ (stays.second.count ∙ b.tops.count);
        stack = stack;
        held = λ x live. ap (λ cs. slice_get cs (reg x)) tr ∙ (held x live ∙ sym (ap (λ cs. slice_get cs x) hr));
      }

      rest-under : AreUnder v w r (other_frames y.frames) (other_frames u.frames)
      rest-under = grind (arith)

      goes-beside :
          (q : ℕ) → MayLeadTo source i q → (top y).place ≡ q → (top u).place ≡ place q → IsTypedState v typings y
          → Settles v w typings r (running y) (running u)
      goes-beside q leads here there typed = both_run (record {
        first = stays.first.frames ∙ ap (λ xs. top y ∷ xs) (sym (ap other_frames stays.first.frames));
        second = stays.second.frames ∙ ap (λ xs. top u ∷ xs) (sym (ap other_frames stays.second.frames));
        tops = grind (arith, held-at);
        under = rest-under;
        heap = stays.alike.heap;
        statics = stays.alike.statics;
        typed = typed;
      })

      -- both call
      calls-settle :
          (method count : ℕ) → (top y).place ≡ (top z).place → (top u).place ≡ (top t).place
          → arguments count (top u).stack ≡ arguments count (top y).stack → act tagged v i.insn op z ≡ calls method count y
          → IsTypedState v typings (with_call tagged v.methods y method count)
          → Settles v w typings r (running (with_call tagged v.methods y method count)) (running (with_call tagged w.methods u method count))
      calls-settle method count at on handed acts typed =
          let callee = laws.only i.insn op z y method count acts in
          let quiet : (footprint v op).written ≡ 0 = ap (λ a. (footprint v a).written) callee.1 in
          let here : Frame Cell = record (top y) { stack = drop count (top y).stack } in
          let there : Frame Cell = record (top u) { stack = drop count (top u).stack } in
          let place_is : here.place ≡ i.place = at ∙ sym there-is.at in
          let stack : there.stack ≡ map (renamed_cell place) here.stack =
          ap (drop count) stays.alike.stack ∙ drop-map (renamed_cell place) count (top y).stack in
          let waits : WaitBeside v w r here there = record {
            beside = frame_with here there refl refl (on ∙ (b.tops.at ∙ ap place (sym at))) refl refl stack
                (λ x live. second-registers (reg x) (none-written v new (reg x) (quiet-too quiet))
                ∙ (b.tops.held x (subst (IsLiveAt v source x) at live) ∙ sym (first-registers x (none-written v op x quiet))));
            instruction = i;
            callee = callee.0;
            operates = subst (Operates v source i) callee.1 operates;
            there = sym place_is;
          } in
          let args : List Cell = arguments count (top y).stack in
          subst (λ cs. Settles v w typings r (running (with_call tagged v.methods y method count))
          (running (record u { frames = entered tagged w.methods method cs ∷ (there ∷ other_frames u.frames) }))) (sym handed)
          (enters v w typings r laws pair method args (here ∷ other_frames y.frames) (there ∷ other_frames u.frames)
          y.heap u.heap y.statics u.statics stays.alike.heap stays.alike.statics (more_frames waits rest-under) typed
          (laws.handed typings z y m i op method count pair.typed b.typed fetched resolved acts))

    catch-here : (footprint v op).written ≡ 0 → CatchBeside v w r (top z) (top t)
    catch-here quiet =
        record { beside = b.tops; instruction = i; op = op; operates = operates; there = there-is.at; quiet = quiet }

    pos-same : (p q : ℕ) → pos p ≡ pos q → p ≡ q
    pos-same p q e = cc

    target-mapped : (n q : ℕ) → slice_get (targets source.code i) n ≡ Some (pos q)
        → slice_get (targets k.target.code j) n ≡ Some (pos (place q))
    target-mapped n q e = grind (arith, are, slice_get-map)

    come-settles :
        (o p : Outcome Cell) → ComeAlike tagged (renamed_cell place) v w z t i j op new o p → IsTypedOutcome v typings o
        → Settles v w typings r o p
    come-settles o p (next_alike {z = y} {y = u} stays falls here there) safe =
        let falls_op : falls_from op ≡ true = sym falls-same ∙ falls in
        goes-beside y u stays (i.place + i.insn.len)
        (leads_on (falls_through (goes-on v source.rec i.place i.insn op operates.resolves falls_op)))
        here (there ∙ are.next) safe
    come-settles o p (target_alike n {z = y} {y = u} stays here there) safe =
        let target : slice_get (targets source.code i) n ≡ Some (pos (top y).place) = ap (λ c. slice_get (targets c i) n) (sym code-here) ∙ here in
        let also : slice_get (targets k.target.code j) n ≡ Some (pos (top u).place) = ap (λ c. slice_get (targets c j) n) (sym code-there) ∙ there in
        let same : (top u).place ≡ place (top y).place =
        pos-same (top u).place (place (top y).place)
        (same_Some (pos (top u).place) (pos (place (top y).place)) (sym also ∙ target-mapped n (top y).place target)) in
        goes-beside y u stays (top y).place (leads_on (jumped (Contains-slice_get (targets source.code i) n (pos (top y).place) target))) refl same safe
    come-settles o p (call_alike method count {z = y} {y = u} stays here there handed acts enter too) safe =
        grind (arith, settles-as, calls-settle)
    come-settles o p (return_alike value cs plain acts is also) safe =
        settles-as v w typings r o p (given_to tagged v value cs (without_top z)) (given_to tagged w value cs (without_top t)) is also
        (gives v w typings r laws pair value cs (λ e. plain (renamed_cell e) (renamed-keeps e)) z.heap t.heap z.statics t.statics b.heap b.statics b.under
        (subst (IsTypedOutcome v typings) is safe))
    come-settles o p (exception_alike exception acts is also) safe = grind (arith, settles-as, raises-settle, catch-here, raising-is-quiet)
    come-settles o p (throw_alike handle acts is also) safe =
        settles-as v w typings r o p (thrown tagged v handle z) (thrown tagged w handle t) is also
        (throws-settle v w typings laws r pair (top z) (top t) (other_frames z.frames) (other_frames t.frames) b.under
        (catch-here (throwing-is-quiet v i op z handle acts)) handle z t b.first b.second b.heap b.statics
        (subst (IsTypedOutcome v typings) is safe))
    come-settles o p (end_alike ending y) safe = both_end (endings.Plain ending) refl refl

    -- ---- before it

    other-executes : Executes w t j new
    other-executes =
        grind (
          arith,
          first-runs t b.second,
          other-record v w typings laws r pair (top z) (top t) b.tops,
          code-there,
          stands-at k.target.code (top t).place j are.operates.stands j-at,
        )

    st : Standing v typings (top z)
    st = (frames-typed v typings z b.first b.typed).0.stands

    goes-there : falls_from new ≡ true → IsPlace (code_at w (top t).method) (j.place + j.insn.len)
    goes-there falls =
        let falls_op : falls_from op ≡ true = sym falls-same ∙ falls in
        let rec : st.rec ≡ source.rec = same_Some st.rec source.rec (sym st.is_method ∙ its-rec) in
        let goes = goes-on v source.rec i.place i.insn op operates.resolves falls_op in
        let here : HasInstruction (code_of v.infos st.rec) i =
        subst (λ (x : MethodRec). HasInstruction (code_of v.infos x) i) (sym rec) (subst (λ c. HasInstruction c i) b.tops.is_source.code operates.stands) in
        let reached = subst (IsReached (method_with v (top z).method st.rec)) (sym there-is.at) st.reached in
        let inside = st.typing.stays i here reached goes in
        let code : code_of v.infos st.rec ≡ source.code = ap (code_of v.infos) rec ∙ sym b.tops.is_source.code in
        let lt : i.place + i.insn.len < length source.code = (let e = ap length code in omega (arith, inside, e)) in
        let next : IsPlace source.code (i.place + i.insn.len) = next-is-place source i (i.place + i.insn.len)
        (pair.typed source b.tops.is_source).formed operates.stands refl lt in
        subst (λ c. IsPlace c (j.place + j.insn.len)) (sym code-there)
        (subst (IsPlace k.target.code) (sym are.next) (k.places (i.place + i.insn.len) next))

    runs-alike : fault_before tagged v op z ≡ None → RunAlike (renamed_cell place) place v w z t i j op new
    runs-alike passed =
        let few : registers_asked (demands v op) ≤ length (top z).registers =
        ltb-false (length (top z).registers) (registers_asked (demands v op))
        (first-passed LocalFault StackFault TypeFault (nat_lt (length (top z).registers) (registers_asked (demands v op)))
        (nat_lt (length (top z).stack) (cells_asked (demands v op))) (list_all (satisfies v.classes (types_of tagged v z)) (demands v op)) passed) in
        let total_here : register_count v.methods source.number ≡ register_total source = ap register_count_of b.tops.is_source.rec in
        let total_there : register_count w.methods source.number ≡ register_total k.target =
        ap register_count_of (ap (slice_get w.methods) (sym k.number) ∙ k.is_target.rec) in
        let counted = b.tops.counted in
        let count = b.tops.count in
        let asked = are.asked (omega (arith, few, counted, total_here)) in
        let stay = laws.stay typings place z b.typed in
        record {
          operations = are.alike;
          keys = grind (arith, have-keys, code-here, are, code-there);
          targets = subst (λ c. All (IsTargetPlace c) (targets c j)) (sym code-there) (k.formed.targets j are.operates.stands);
          next = goes-there;
          states = grind (arith, suc, under-length);
          named = omega (arith, asked, count, total_there);
          read = ap (map (slice_get (top t).registers)) are.reads
              ∙ maps-agree reg (slice_get (top t).registers) (slice_get (top z).registers) (registers_read (demands v op))
              (λ x reads. b.tops.held x (subst (IsLiveAt v source x) there-is.at (live_read i op operates reads)));
          room = (let e = same-room v w typings laws r pair (top z) (top t) b.tops in omega (arith, e));
        }

    performs-alike :
        (o : Outcome Cell) → Steps tagged v z o → o ≡ performed tagged v i op z → IsTypedOutcome v typings o
        → (p : Outcome Cell) × Steps tagged w t p × Settles v w typings r o p
    performs-alike o step is safe =
        let free = safe-free v typings o safe in
        let passed = unless-none z (fault_before tagged v op z) (settled tagged v (i.place + i.insn.len) z (act tagged v i.insn op z))
        (subst IsNoFault is free) in
        let other = laws.alike w place z t i j op new o pair.same k.one_to_one (record { method = m; fetched = fetched; resolved = resolved }) other-executes
        (runs-alike passed.0) step free in
        (other.0, other.1, come-settles o other.0 other.2 safe)

  pub step-settles : (o : Outcome Cell) → Steps tagged v z o → IsTypedOutcome v typings o → (p : Outcome Cell) × Steps tagged w t p
      × Settles v w typings r o p
  step-settles o step safe = go step safe
    where
      go : {o : Outcome Cell} → Steps tagged v z o → IsTypedOutcome v typings o → (p : Outcome Cell) × Steps tagged w t p × Settles v w typings r o p
      go (misplaced checks runs e) safe = absurd safe
      go (unresolved checks fetched fault resolves) safe = absurd safe
      go (performs {m = m} {i = i} {o = o} fetched op resolves is) safe = performs-alike i op m fetched resolves o (performs fetched op resolves is) is safe
